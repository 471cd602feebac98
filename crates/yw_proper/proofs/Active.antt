-- A task is active exactly where an item of it stands in the net.
use Rattle.std.specs.Prelude.{◌≡◌, ◌==◌, ℕ, Bool, true, false, List, [], ◌∷◌, length, Option, Some, None, nat_lt, option_and_then, refl, if◌then◌else◌}
use Rattle.std.specs.List.{list_any}
use Rattle.std.proofs.Common.{◌∙◌, ap, arith}
use Rattle.std.proofs.lemmas.Bool.{eq-eqb, eqb-true, lt-ltb}
use Rattle.yw_state.proofs.Entries.{IsIn, comes_from, entry-found, find-entry, mapped_in}
use Rattle.yw_state.proofs.MapLemmas.{by_name}
use Rattle.yw_state.proofs.Tests.{nowhere, then_some}
use Rattle.yw_state.specs.Identity.{Ident, is_child}
use Rattle.yw_state.specs.Map.{entries, get}
use Rattle.yw_state.specs.State.{State, Site, ItemPart, if_of_task, item_of_task, item_part, items_of}
use Rattle.yw_state.specs.Words.{active}

-- an item of the task stands in the net at i
pub record HasItem (s : State) (i : Ident) (k : ℕ) : Type 0 where
  pub at : Ident
  pub item : ItemPart
  pub stands : item_part s at ≡ Some item
  pub below : is_child at i ≡ true
  pub of_task : item.task ≡ k

some_any : {X : Type 0} (xs : List X) → nat_lt 0 (length xs) ≡ true → list_any (λ x. true) xs ≡ true
some_any [] e = e
some_any (x ∷ xs) e = refl

is_some_in : {X : Type 0} (xs : List X) (x : X) → IsIn xs x → nat_lt 0 (length xs) ≡ true
is_some_in [] x within = absurd within
is_some_in (y ∷ ys) x within = lt-ltb 0 (length (y ∷ ys)) (omega arith)

module _ (k : ℕ) (j : Ident) where
  of_this : (b : Bool) (x : ItemPart) (y : Ident × ItemPart) → (if b then Some (j, x) else None) ≡ Some y → b ≡ true
  of_this true x y e = refl
  of_this false x y e = nowhere e

  read_item : (b : Bool) (o : Option ItemPart) (y : Ident × ItemPart) → (if b then option_and_then (if_of_task k j) o else None) ≡ Some y → (b ≡ true) × (x : ItemPart) × (o ≡ Some x) × ((x.task == k) ≡ true)
  read_item false o y e = nowhere e
  read_item true None y e = nowhere e
  read_item true (Some x) y e = (refl, x, refl, of_this (x.task == k) x y e)

pub active_item : (s : State) (i : Ident) (k : ℕ) → active s i k ≡ true → HasItem s i k
active_item s i k e =
    let (entry, y, within, is, any) = comes_from (λ (d : Ident × Site). item_of_task i k d.0 d.1) (λ (d : Ident × ItemPart). true) (entries s.sites) (some_any (items_of s i k) e) in
    let (below, x, item, of) = read_item k entry.0 (is_child entry.0 i) entry.1.item y is in
    let here : get s.sites entry.0 ≡ Some entry.1 = find-entry by_name (entries s.sites) entry s.sites.sorted within in
    record {
      at = entry.0;
      item = x;
      stands = ap (option_and_then (λ (z : Site). z.item)) here ∙ item;
      below = below;
      of_task = eqb-true x.task k of;
    }

pub item_active : (s : State) (i : Ident) (k : ℕ) → HasItem s i k → active s i k ≡ true
item_active s i k has =
    let (site, at, item) = then_some (λ (z : Site). z.item) (get s.sites has.at) has.item has.stands in
    is_some_in (items_of s i k) (has.at, has.item)
    (mapped_in (λ (d : Ident × Site). item_of_task i k d.0 d.1) (entries s.sites) (has.at, site) (has.at, has.item) (entry-found by_name (entries s.sites) has.at site at)
    (ap (λ b. if b then option_and_then (if_of_task k has.at) site.item else None) has.below
    ∙ ap (option_and_then (if_of_task k has.at)) item
    ∙ ap (λ b. if b then Some (has.at, has.item) else None) (eq-eqb has.item.task k has.of_task)))
