use Rattle.std.proofs.Common.{◌≡◌, ◌∙◌, ◌-◌, ◌<◌, ap, arith, length, subst, suc, sym, ℕ}
use Rattle.std.specs.Str.{bytes_eq}
use Rattle.yw_spec.specs.declared.task.Param.{Param}
use Rattle.yw_given.specs.Found.{is_called}
use Rattle.yw_given.proofs.Finding.{FindsFrom, one_more, read_at}
use Rattle.yw_given.proofs.numbers.number_params.Goals as goal

pub loop-i-preserved : goal.loop-i-preserved
loop-i-preserved c =
    let xs = c.args.params.now in
    let i : ℕ = c.loop-i.i - 1 in
    let x = c.index-params-i.result in
    let within : i < length xs = omega arith in
    let on : c.loop-i.i ≡ suc i = omega arith in
    one_more is_called xs i x c.as_str.result.now c.loop-i.numbers c.put.new.self
    (read_at xs i x within c.index-params-i.is)
    (λ name. ap (λ key. bytes_eq key name) (ap (λ (y : Param). y.name) c.index-params-i.is ∙ sym c.as_str.ensures.text))
    (λ name. c.in_ok-put.ensures name)
    (subst (λ n. FindsFrom is_called xs n c.loop-i.numbers) on c.loop-i.invariant)
