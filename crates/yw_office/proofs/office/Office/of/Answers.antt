use Rattle.std.proofs.Common.{List, ℕ, subst, sym, ◌∙◌}
use Rattle.yw_office.proofs.Keeping.{kept_anew}
use Rattle.yw_office.proofs.office.Office.of.Goals as goal
use Rattle.yw_worklist.specs.Lists.{AreCases}

pub invariant_of-result : goal.invariant_of-result
invariant_of-result c = λ fresh.
    kept_anew c.args.engine (record { held = c.is_held.ensures; plain = c.is_plain.ensures }) c.known-known.result.now c.forest-forest.result.now
    c.next.result c.in_ok-cases.cases.items c.in_ok-lists.lists c.known-known.ensures c.forest-forest.ensures c.next.ensures c.in_ok-cases.ensures
    (λ s held all. c.in_ok-lists.ensures s held (subst (λ (ns : List ℕ). AreCases s ns) (sym c.as_slice.ensures.value) all))
    (sym c.is_spent-spent.ensures ∙ fresh)
