use Rattle.std.proofs.Common.{◌∙◌, sym, ap}
use Rattle.std.specs.Str.{bytes_eq}
use Rattle.std.proofs.lemmas.Slice.Eq.{bytes_eq-Decides}
use Rattle.yw_build.proofs.InLemmas.{in_here, in_behind}
use Rattle.yw_build.proofs.many.number_in.Goals as goal

pub returns-then-eq : goal.returns-then-eq
returns-then-eq c =
    in_here c.args.ins.now c.loop-number.number c.index-ins-number.result c.args.name.now c.loop-number-test.true c.index-ins-number.is
    (sym c.as_str.ensures ∙ (bytes_eq-Decides c.as_str.result.now c.args.name.now).0 (sym c.eq.ensures ∙ c.if-eq.true))

pub loop-number-preserved : goal.loop-number-preserved
loop-number-preserved c =
    in_behind c.args.ins.now c.loop-number.number c.index-ins-number.result c.args.name.now c.loop-number-test.true c.index-ins-number.is
    (ap (λ text. bytes_eq text c.args.name.now) (sym c.as_str.ensures) ∙ sym c.eq.ensures ∙ c.if-eq.false) c.loop-number.invariant
