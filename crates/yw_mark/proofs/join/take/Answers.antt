use Rattle.std.proofs.Common.{◌≡◌, ℕ, List, [], sym, ap, subst, ◌∙◌, inl, inr}
use Rattle.std.specs.Option.{option_map_or}
use Rattle.yw_mark.proofs.TokenLemmas.{takes_marked}
use Rattle.yw_mark.proofs.join.take.Goals as goal
use Rattle.yw_mark.specs.Taking.{taken_places}
use Rattle.yw_mark.specs.Tokens.{TakesEach}
use Rattle.yw_mark.specs.declared.join.Taken.{Taken}
use Rattle.yw_spec.specs.Net.{places_before}
use Rattle.yw_spec.specs.declared.task.Task.{Task}

pub returns-in-All : goal.returns-in-All
returns-in-All c =
    let all : c.as_slice.result.now ≡ places_before c.args.net.now c.args.t = c.as_slice.ensures ∙ ap {B = List ℕ} (λ o. option_map_or (λ (task : Task). task.before) o []) (sym c.task_at.ensures) in
    let P : List ℕ → Type 0 = λ places. TakesEach places c.args.marks.now c.lose_each-in-All.new.marks in
    let Q : Taken → Type 0 = λ taken. P (taken_places c.args.marks.now (places_before c.args.net.now c.args.t) taken) in
    let each = subst P all c.lose_each-in-All.ensures in
    elim c.in-All.is [
      | inl is ↦ subst Q (sym is) each
      | inr is ↦ subst Q (sym is) (takes_marked (places_before c.args.net.now c.args.t) c.args.marks.now c.lose_each-in-All.new.marks each)
    ]
