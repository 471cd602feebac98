-- Where a run is looked for: at the case or the item at the identity without its last number.
use Rattle.std.proofs.Common.{◌≡◌, true, false, cond, Option, None, ap, ◌∙◌}
use Rattle.std.specs.Prelude.{option_and_then}
use Rattle.yw_state.specs.Identity.{Ident, is_case_ident}
use Rattle.yw_base.specs.Identity.{case_number, parent}
use Rattle.yw_tree.specs.Cases.{case_at}
use Rattle.yw_tree.specs.Forest.{item_of}
use Rattle.yw_tree.specs.Places.{over_case_run, over_item_run, placed_run, run_of, run_of_case, run_of_item}
use Rattle.yw_tree.specs.declared.Forest.{Forest}
use Rattle.yw_tree.specs.declared.Run.{Run}

module _ (f : Forest) (id : Ident) where
  abbrev at_case : Option Run
  at_case = option_and_then (run_of_case id) (case_at (case_number id) f.cases)

  abbrev at_item : Option Run
  at_item = option_and_then (run_of_item id) (item_of f (parent id))

  pub none_at_case : is_case_ident id ≡ true → run_of f id ≡ None
  none_at_case e = ap (λ b. cond b None (cond (is_case_ident (parent id)) at_case at_item)) e

  pub run_at_case : is_case_ident id ≡ false → is_case_ident (parent id) ≡ true → run_of f id ≡ option_and_then (run_of_case id) (case_at (case_number id) f.cases)
  run_at_case e p = ap (λ b. cond b None (cond (is_case_ident (parent id)) at_case at_item)) e ∙ ap (λ b. cond b at_case at_item) p

  pub run_at_item : is_case_ident id ≡ false → is_case_ident (parent id) ≡ false → run_of f id ≡ option_and_then (run_of_item id) (item_of f (parent id))
  run_at_item e p = ap (λ b. cond b None (cond (is_case_ident (parent id)) at_case at_item)) e ∙ ap (λ b. cond b at_case at_item) p

  module _ (w : Run) where
    abbrev in_case : Forest
    in_case = over_case_run f (case_number id) w (case_at (case_number id) f.cases)

    abbrev in_item : Forest
    in_item = over_item_run f (parent id) w (item_of f (parent id))

    pub placed_in_its_case : is_case_ident (parent id) ≡ true → placed_run f id w ≡ over_case_run f (case_number id) w (case_at (case_number id) f.cases)
    placed_in_its_case p = ap (λ b. cond b in_case in_item) p

    pub placed_in_its_item : is_case_ident (parent id) ≡ false → placed_run f id w ≡ over_item_run f (parent id) w (item_of f (parent id))
    placed_in_its_item p = ap (λ b. cond b in_case in_item) p
