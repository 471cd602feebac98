-- What a rule may conclude stands on the specifications of a state alone.
use Rattle.std.proofs.Common.{◌≡◌, List, [], ◌∷◌, Bool, refl, ap, ◌∙◌}
use Rattle.std.specs.Prelude.{◌&&◌, is_none, not, length, nat_le, nat_lt}
use Rattle.std.specs.List.{list_all}
use Rattle.yw_library.specs.Holdings.{Holdings, state_of, with_holdings, with_library}
use Rattle.yw_state.specs.Judged.{is_select}
use Rattle.yw_state.specs.Map.{has_key}
use Rattle.yw_state.specs.NewRule.{is_known, is_of_item, may_conclude, most_primitives, removes_last}
use Rattle.yw_state.specs.State.{State}
use Rattle.yw_state.specs.declared.tree.Conclusion.{Conclusion}
use Rattle.yw_state.specs.declared.tree.Conclusion.TheVariants.{Worklet, Exlet}
use Rattle.yw_state.specs.declared.tree.Primitive.{Primitive}
use Rattle.yw_state.specs.declared.tree.Primitive.TheVariants as primitives
use Rattle.yw_state.specs.declared.tree.TreePlace.{TreePlace}

module _ (s t : State) (same : s.specs ≡ t.specs) where
  same_known : (p : Primitive) → is_known s p ≡ is_known t p
  same_known primitives.SuspendItem = refl
  same_known primitives.ContinueItem = refl
  same_known primitives.RestartItem = refl
  same_known primitives.CompleteItem = refl
  same_known primitives.RemoveItem = refl
  same_known primitives.SuspendCase = refl
  same_known primitives.ContinueCase = refl
  same_known primitives.RemoveCase = refl
  same_known (primitives.Compensate name) = ap (λ m. has_key m name) same
  same_known (primitives.Unknown text) = refl

  same_all : (of_case : Bool) (ps : List Primitive) → list_all (λ p. is_known s p && not (of_case && is_of_item p)) ps ≡ list_all
      (λ p. is_known t p && not (of_case && is_of_item p)) ps
  same_all of_case [] = refl
  same_all of_case (p ∷ ps) =
      ap (λ b. (b && not (of_case && is_of_item p)) && list_all (λ q. is_known s q && not (of_case && is_of_item q)) ps) (same_known p)
      ∙ ap (λ b. (is_known t p && not (of_case && is_of_item p)) && b) (same_all of_case ps)

  pub same_conclude : (p : TreePlace) (c : Conclusion) → may_conclude s p c ≡ may_conclude t p c
  same_conclude p (Worklet name) = ap (λ m. is_select p.kind && has_key m name) same
  same_conclude p (Exlet ps) =
      ap (λ b. not (is_select p.kind) && nat_lt 0 (length ps) && nat_le (length ps) most_primitives && (b && removes_last ps)) (same_all (is_none p.net) ps)

pub concludes : (s : State) (known : Holdings) (p : TreePlace) (c : Conclusion)
    → may_conclude (with_holdings s known) p c ≡ may_conclude (state_of known) p c
unfolding with_library
concludes s known p c = same_conclude (with_holdings s known) (state_of known) refl p c
