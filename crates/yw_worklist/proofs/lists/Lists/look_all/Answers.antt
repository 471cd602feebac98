use Rattle.std.proofs.Common.{◌++◌, ◌∷◌, [], ap, append_assoc, subst, sym, ◌∙◌}
use Rattle.std.proofs.lemmas.Map.Iter.{rest_all, rest_more}
use Rattle.std.specs.Map.Iter.{deref}
use Rattle.yw_sites.proofs.Each.{nil_right}
use Rattle.yw_state.proofs.Entries.{IsIn}
use Rattle.yw_worklist.proofs.Looking.{none_looked, one_more_looked}
use Rattle.yw_worklist.proofs.lists.Lists.look_all.Goals as goal
use Rattle.yw_worklist.specs.Lists.{Looks}

pub loop-at-init : goal.loop-at-init
loop-at-init c = (
  [],
  c.into_iter-at-iterator.ensures.into_iter_gives.0,
  none_looked c.args.known.now c.args.forest.now c.args.self.now (λ s. IsIn []) (λ s j held there. there),
)

pub loop-at-preserved : goal.loop-at-preserved
loop-at-preserved c =
    let (done, whole, looks) = c.loop-at.invariant in
    let at = c.in-Some.at.now in
    let turn = rest_more deref c.loop-at.at-iterator c.next.new.self c.next.result c.in-Some.at c.in-Some.is c.next.ensures.steps in (
      done ++ at ∷ [],
      append_assoc done (at ∷ []) c.next.new.self ∙ ap (λ z. done ++ z) (sym turn) ∙ whole,
      one_more_looked c.args.known.now c.args.forest.now c.args.self.now c.loop-at.self c.look.new.self done at looks c.in_ok-look.ensures,
    )

pub returns : goal.returns
returns c =
    let (done, whole, looks) = c.loop-at.invariant in
    let none = rest_all deref c.loop-at.at-iterator c.next.new.self c.next.result c.in-None.is c.next.ensures.steps in
    subst (λ js. Looks c.args.known.now c.args.forest.now c.args.self.now c.loop-at.self (λ s. IsIn js))
    (sym (nil_right done) ∙ ap (λ z. done ++ z) (sym none) ∙ whole) looks
