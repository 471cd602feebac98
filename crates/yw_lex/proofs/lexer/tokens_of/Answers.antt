use Rattle.std.proofs.Common.{List, ℕ, sym, subst}
use Rattle.yw_lex.specs.Spelling.{IsToken}
use Rattle.yw_lex.specs.Tokens.{HasNoFront, IsLongestToken}
use Rattle.yw_lex.proofs.TokenLemmas.{ends_here, from_place, past_blank, past_token, stuck_here}
use Rattle.yw_lex.proofs.lexer.tokens_of.Goals as goal

pub tokens-preserved-then-is_blank : goal.tokens-preserved-then-is_blank
tokens-preserved-then-is_blank c =
    past_blank c.args.bytes.now c.tokens.at c.tokens.tokens c.tokens.invariant c.tokens-test.true (sym c.if-is_blank.ensures)

pub returns-in_default : goal.returns-in_default
returns-in_default c =
    let bytes = c.args.bytes.now in
    let nothing = c.in_default.ensures in
    stuck_here bytes c.tokens.at c.tokens.tokens c.tokens.invariant c.tokens-test.true (sym c.if-is_blank.ensures) (subst (HasNoFront IsToken) (from_place bytes c.tokens.at) nothing)

pub tokens-preserved : goal.tokens-preserved
tokens-preserved c =
    let bytes = c.args.bytes.now in
    let found = c.in-Some.ensures in
    let e = c.in_ok-push.ensures.ok in
    rw e (past_token bytes c.tokens.at c.tokens.tokens c.tokens.invariant c.in-Some.word c.in-Some.len (subst (λ (l : List ℕ). IsLongestToken c.in-Some.word l c.in-Some.len) (from_place bytes c.tokens.at) found))

pub returns : goal.returns
returns c = ends_here c.args.bytes.now c.tokens.at c.tokens.tokens c.tokens.invariant c.tokens-test.false
