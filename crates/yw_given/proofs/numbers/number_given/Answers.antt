use Rattle.std.proofs.Common.{◌≡◌, ◌∙◌, ◌-◌, ◌<◌, ap, arith, length, subst, suc, sym, ℕ}
use Rattle.std.specs.Str.{bytes_eq}
use Rattle.yw_state.specs.declared.command.Given.{Given}
use Rattle.yw_given.specs.Found.{is_given_as}
use Rattle.yw_given.proofs.Finding.{FindsFrom, one_more, read_at}
use Rattle.yw_given.proofs.numbers.number_given.Goals as goal

pub loop-i-preserved : goal.loop-i-preserved
loop-i-preserved c =
    let xs = c.args.given.now in
    let i : ℕ = c.loop-i.i - 1 in
    let x = c.index-given-i.result in
    let within : i < length xs = omega arith in
    let on : c.loop-i.i ≡ suc i = omega arith in
    one_more is_given_as xs i x c.as_str.result.now c.loop-i.numbers c.put.new.self
    (read_at xs i x within c.index-given-i.is)
    (λ name. ap (λ key. bytes_eq key name) (ap (λ (y : Given). y.name) c.index-given-i.is ∙ sym c.as_str.ensures))
    (λ name. c.in_ok-put.ensures name)
    (subst (λ n. FindsFrom is_given_as xs n c.loop-i.numbers) on c.loop-i.invariant)
