use Rattle.std.proofs.Common.{◌≡◌, ◌∙◌, ◌-◌, ◌<◌, ap, arith, length, subst, suc, sym, ℕ}
use Rattle.std.specs.Prelude.{◌&&◌}
use Rattle.std.specs.Str.{bytes_eq}
use Rattle.yw_given.specs.Found.{comes_as}
use Rattle.yw_given.proofs.Finding.{FindsFrom, one_more, read_at}
use Rattle.yw_given.proofs.numbers.number_vars.Goals as goal

pub loop-i-preserved-in-Continue-1 : goal.loop-i-preserved-in-Continue-1
loop-i-preserved-in-Continue-1 c =
    let xs = c.args.vars.now in
    let i : ℕ = c.loop-i.i - 1 in
    let x = c.index-vars-i.result in
    let within : i < length xs = omega arith in
    let on : c.loop-i.i ≡ suc i = omega arith in
    one_more comes_as xs i x c.as_str.result.now c.loop-i.numbers c.put.new.self
    (read_at xs i x within c.index-vars-i.is)
    (λ name.
    ap (λ b. b && bytes_eq x.name name) (sym c.comes_in.ensures ∙ c.if-comes_in.true)
    ∙ ap (λ key. bytes_eq key name) (sym c.as_str.ensures.text))
    (λ name. c.in_ok-put.ensures name)
    (subst (λ n. FindsFrom comes_as xs n c.loop-i.numbers) on c.loop-i.invariant)
