-- The items of a task, read off the map of what stands.
use Rattle.std.specs.List.{cons_option, filter_map}
use Rattle.std.specs.Prelude.{◌≡◌, ◌==◌, ℕ, Bool, true, false, List, [], ◌∷◌, Option, Some, None, option_and_then, refl, if◌then◌else◌}
use Rattle.std.proofs.Common.{sym, ◌∙◌, ap, inl, inr}
use Rattle.yw_state.proofs.Entries.{IsIn, find-entry}
use Rattle.yw_state.proofs.MapLemmas.{by_name}
use Rattle.yw_state.proofs.Tests.{by_test, nowhere, some_same, then_some}
use Rattle.yw_state.specs.Identity.{Ident, is_child}
use Rattle.yw_state.specs.Map.{entries}
use Rattle.yw_state.specs.State.{State, Site, ItemPart, if_of_task, item_of_task, item_part, items_of}

if_true : {A : Type 0} (b : Bool) (x y : A) → (if b then Some x else None) ≡ Some y → (b ≡ true) × (x ≡ y)
if_true true x y e = (refl, some_same x y e)
if_true false x y e = nowhere e

-- It lies directly below the net, and is of the task.
pub record IsItem (i : Ident) (k : ℕ) (q : Ident) (o : Option ItemPart) (y : Ident × ItemPart) : Type 0 where
  pub below : is_child q i ≡ true
  pub part : ItemPart
  pub has : o ≡ Some part
  pub of_task : (part.task == k) ≡ true
  pub its : (q, part) ≡ y

pub is_item : (i : Ident) (k : ℕ) (q : Ident) (o : Option ItemPart) (y : Ident × ItemPart)
    → (if is_child q i then option_and_then (if_of_task k q) o else None) ≡ Some y → IsItem i k q o y
is_item i k q o y e =
    by_test (is_child q i)
    (λ below.
    let (x, has, is) = then_some (if_of_task k q) o y (sym (ap (λ b. if b then option_and_then (if_of_task k q) o else None) below) ∙ e) in
    let task = if_true (x.task == k) (q, x) y is in
    record { below = below; part = x; has = has; of_task = task.0; its = task.1 })
    (λ out. nowhere (sym (ap (λ b. if b then option_and_then (if_of_task k q) o else None) out) ∙ e))

from_among : {X Y : Type 0} (h : X → Option Y) (xs : List X) (y : Y) → IsIn (filter_map h xs) y → (x : X) × IsIn xs x × (h x ≡ Some y)
from_among h [] y within = absurd within
from_among {X} {Y} h (x ∷ xs) y within =
    elim (h x) as (λ o. h x ≡ o → IsIn (cons_option o (filter_map h xs)) y → (z : X) × IsIn (x ∷ xs) z × (h z ≡ Some y)) [
      | None ↦ λ e rest. later (from_among h xs y rest)
      | Some w ↦ λ e here. elim here [ inl same ↦ (x, inl refl, e ∙ ap Some same) | inr rest ↦ later (from_among h xs y rest) ]
    ] refl within
  where
    later : (z : X) × IsIn xs z × (h z ≡ Some y) → (z : X) × IsIn (x ∷ xs) z × (h z ≡ Some y)
    later (z, among, is) = (z, inr among, is)

-- each lies directly below the net, and stands there
pub item_among : (s : State) (i : Ident) (k : ℕ) (e : Ident × ItemPart) → IsIn (items_of s i k) e → (is_child e.0 i ≡ true) × (item_part s e.0 ≡ Some e.1)
item_among s i k e within =
    let (d, among, is) = from_among (λ (d : Ident × Site). item_of_task i k d.0 d.1) (entries s.sites) e within in
    let item = is_item i k d.0 d.1.item e is in
    let at = ap (option_and_then (λ (x : Site). x.item)) (find-entry by_name (entries s.sites) d s.sites.sorted among) ∙ item.has in (
      ap (λ (y : Ident × ItemPart). is_child y.0 i) (sym item.its) ∙ item.below,
      ap (λ (y : Ident × ItemPart). item_part s y.0) (sym item.its) ∙ at ∙ ap (λ (y : Ident × ItemPart). Some y.1) item.its,
    )
