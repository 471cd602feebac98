use Rattle.std.proofs.Common.{refl, sym}
use Rattle.std.proofs.lemmas.Bool.{false≢true}
use Rattle.yw_lex.proofs.FrontLemmas.{longest_pair, longest_single, no_sign}
use Rattle.yw_lex.proofs.scan.sign_len.Goals as goal

pub returns-then-begins_pair : goal.returns-then-begins_pair
returns-then-begins_pair c = longest_pair c.args.bytes.now (c.if-begins_pair.ensures.0 refl)

pub returns-then-is_single_sign : goal.returns-then-is_single_sign
returns-then-is_single_sign c =
    longest_single c.args.bytes.now c.requires (sym c.if-is_single_sign.ensures) (λ pair. false≢true (c.if-begins_pair.ensures.1 pair))

pub returns : goal.returns
returns c = no_sign c.args.bytes.now (sym c.if-is_single_sign.ensures) (λ pair. false≢true (c.if-begins_pair.ensures.1 pair))
