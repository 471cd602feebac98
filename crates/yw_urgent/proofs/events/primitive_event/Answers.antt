use Rattle.std.specs.Prelude.{List, None, Some, [], length, slice_get, ◌<◌, ◌∷◌, ◌≡◌}
use Rattle.std.proofs.Common.{arith, ap, sym, ◌∙◌}
use Rattle.yw_state.proofs.Tests.{nowhere, some_same}
use Rattle.yw_state.specs.Identity.{Ident}
use Rattle.yw_state.specs.declared.event.Event.TheVariants as events
use Rattle.yw_state.specs.declared.tree.Primitive.{Primitive}
use Rattle.yw_tree.specs.declared.Run.{out-Run}
use Rattle.yw_urgent.proofs.events.primitive_event.Goals as goal
use Rattle.yw_urgent.specs.Events.{TakesFirst}

some_first : (ps : List Primitive) → 0 < length ps → slice_get ps 0 ≡ None → ⊥
some_first [] some none = omega (arith, some)
some_first (p ∷ ps) some none = nowhere (sym none)

takes : (r : Ident) (ps : List Primitive) (p : Primitive) → slice_get ps 0 ≡ Some p → (i : Ident) (q : Primitive) → i ≡ r → q ≡ p → TakesFirst r ps (events.Prim i q)
takes r [] p first i q same is = nowhere first
takes r (x ∷ ps) p first i q same is = ap (λ z. events.Prim z q) same ∙ ap (events.Prim r) (is ∙ sym (some_same x p first))

pub unreachable-requires : goal.unreachable-requires
unreachable-requires c = some_first (out-Run c.args.run.now).rest c.requires (sym c.in_default.ensures)

pub returns : goal.returns
returns c =
    takes c.args.at.now (out-Run c.args.run.now).rest c.in-Some.first.now (sym c.in-Some.ensures) c.in_ok-copy.field-0 c.in_ok-copy_of.field-0 c.in_ok-copy.ensures c.in_ok-copy_of.ensures
