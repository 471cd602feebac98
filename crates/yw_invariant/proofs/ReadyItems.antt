-- An item that is ready has no net, and no item is of one there.
use Rattle.std.specs.Prelude.{◌≡◌, ◌≤◌, true, false, length, Some, None, is_some, refl, if◌then◌else◌}
use Rattle.std.proofs.Common.{sym, ◌∙◌, ap, subst}
use Rattle.std.proofs.lemmas.Bool.{and_parts}
use Rattle.yw_invariant.proofs.Ancestors as ancestors
use Rattle.yw_state.proofs.Alike.{item_in}
use Rattle.yw_state.proofs.MapLemmas.{by_option, never, nowhere, some_same}
use Rattle.yw_state.specs.Identity.{Ident}
use Rattle.yw_base.specs.Identity.{parent}
use Rattle.yw_state.specs.State.{State, ItemAt, ItemPart, item_at, item_part, net_at, net_part, run_part}
use Rattle.yw_state.specs.Texts.{Reader}
use Rattle.yw_state.specs.Well.{IsWell, is_child_of, is_composite, is_top, wants_net}
use Rattle.yw_state.specs.Words.{is_completed, is_executing, is_ready}
use Rattle.yw_state.specs.declared.part.Stage.{Stage}
use Rattle.yw_state.specs.declared.part.Stage.TheVariants.{Ready, Executing, Completed}

pub is_ready_only : (stage : Stage) → is_ready stage ≡ true → (is_executing stage ≡ false) × (is_completed stage ≡ false)
is_ready_only Ready e = (refl, refl)
is_ready_only Executing e = never e
is_ready_only Completed e = never e

module _ (reader : Reader) (s : State) (well : IsWell reader s) (j : Ident) (x : ItemAt) (item : item_at s j ≡ Some x) where
  pub part_there : (y : ItemPart) × (item_part s j ≡ Some y)
  part_there =
      by_option (item_part s j)
      (λ none. nowhere (ap (λ o. item_in o (net_at s (parent j))) (sym none) ∙ item))
      (λ y some. (y, some))

  pub deep : 2 ≤ length j
  deep = well.parents.item_depth j part_there.0 part_there.1

  pub of_this : (P : ItemAt → Type 0) → P x → (y : ItemAt) → item_at s j ≡ Some y → P y
  of_this P here y e = subst P (some_same x y (sym item ∙ e)) here

  pub no_run : run_part s j ≡ None
  no_run =
      by_option (run_part s j)
      (λ none. none)
      (λ r some. never (sym (well.parents.not_both j (ap is_some part_there.1)) ∙ ap is_some some))

  module _ (ready : is_ready x.part.stage ≡ true) where
    pub no_net : net_part s j ≡ None
    no_net =
        by_option (net_part s j)
        (λ none. none)
        (λ n some.
        let wants = (and_parts (wants_net x) (if is_composite x then is_child_of x n else is_top s n) (well.nets.of_item j n x some item)).0 in
        never (sym (is_ready_only x.part.stage ready).0 ∙ (and_parts (is_executing x.part.stage) _ wants).0))

    pub apart : (k : Ident) (y : ItemPart) → item_part s k ≡ Some y → ¬ (parent k ≡ j)
    apart k y e above = never (ap is_some (sym (ap (net_part s) above ∙ no_net)) ∙ ancestors.net_of_item reader s well k y e)
