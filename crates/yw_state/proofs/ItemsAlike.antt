-- An item is changed and keeps its task: as many items are of each task.
use Rattle.std.specs.Prelude.{◌≡◌, ◌==◌, ℕ, Bool, true, false, Option, Some, None, is_some, length, option_and_then, option_map, refl, if◌then◌else◌}
use Rattle.std.proofs.Common.{◌∙◌, ap}
use Rattle.yw_state.proofs.EntryCounts.{length-update}
use Rattle.yw_state.proofs.MapLemmas.{by_name}
use Rattle.yw_state.specs.After.{change}
use Rattle.yw_state.specs.Identity.{Ident, is_child}
use Rattle.yw_state.specs.Options.{is_some_and}
use Rattle.yw_state.specs.State.{State, ItemAt, ItemPart, Site, item_of_task, items_of}
use Rattle.yw_state.specs.Well.{is_composite}

-- as `items_of` tells the items of a task
abbrev pub of_task : ℕ → Ident → ItemPart → Option (Ident × ItemPart)
of_task n k y = if y.task == n then Some (k, y) else None

module _ (f : Site → Site) (g : ItemPart → ItemPart) (item : (x : Site) → (f x).item ≡ option_map g x.item) (task : (x : ItemPart) → (g x).task ≡ x.task) where
  either : (b : Bool) (u v : Ident × ItemPart) → is_some (if b then Some u else None) ≡ is_some (if b then Some v else None)
  either true u v = refl
  either false u v = refl

  of_task_alike : (n : ℕ) (k : Ident) (y : ItemPart) → is_some (of_task n k (g y)) ≡ is_some (of_task n k y)
  of_task_alike n k y = ap (λ m. is_some {T = Ident × ItemPart} (if m == n then Some (k, g y) else None)) (task y) ∙ either (y.task == n) (k, g y) (k, y)

  child_alike : (i : Ident) (n : ℕ) (k : Ident) (x : Site) → is_some (item_of_task i n k (f x)) ≡ is_some (item_of_task i n k x)
  child_alike i n k x = ap (λ o. is_some (item_of_task i n k (record x { item = o }))) (item x) ∙ kept (is_child k i) x.item
    where
      kept : (b : Bool) (o : Option ItemPart) → is_some (if b then option_and_then (of_task n k) (option_map g o) else None) ≡ is_some (if b then option_and_then (of_task n k) o else None)
      kept false o = refl
      kept true None = refl
      kept true (Some y) = of_task_alike n k y

  pub as_many_items : (s : State) (j i : Ident) (n : ℕ) → length (items_of (change s j f) i n) ≡ length (items_of s i n)
  as_many_items s j i n = length-update by_name (λ e. item_of_task i n e.0 e.1) s.sites j f (child_alike i n)

  -- and it is of a composite task as before
  pub composite_alike : (o : Option ItemAt) → is_some_and (option_map (λ (x : ItemAt). record x { part = g x.part }) o) is_composite ≡ is_some_and o is_composite
  composite_alike None = refl
  composite_alike (Some x) = refl
