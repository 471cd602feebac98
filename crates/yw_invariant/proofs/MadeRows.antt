-- What the items of a task have made are rows of its parameters, and no more than it may have items.
use Rattle.std.specs.Prelude.{◌≡◌, ◌≤◌, ◌==◌, ◌||◌, ℕ, Bool, true, false, not, List, [], ◌∷◌, map, filter, cond, length, Option, Some, None, option_and_then, option_map, slice_get, refl, if◌then◌else◌}
use Rattle.std.specs.List.{cons_option, filter_map, list_all}
use Rattle.std.proofs.Common.{sym, ◌∙◌, ap, subst, inl, inr, arith}
use Rattle.std.proofs.lemmas.Bool.{and_from, and_parts, eqb-true}
use Rattle.std.proofs.lemmas.List.{length-map}
use Rattle.yw_invariant.proofs.Places.{parent_of_child}
use Rattle.yw_spec.specs.declared.task.Task.{Task}
use Rattle.yw_state.proofs.Alike.{item_in}
use Rattle.yw_state.proofs.Entries.{IsIn, find-entry}
use Rattle.yw_state.proofs.MapLemmas.{by_name, by_test, nowhere, some_same}
use Rattle.yw_state.proofs.Tests.{then_some}
use Rattle.yw_state.specs.Identity.{Ident, is_child}
use Rattle.yw_base.specs.Identity.{parent}
use Rattle.yw_state.specs.Passing.{made_rows, row_fits}
use Rattle.yw_state.specs.State.{State, Site, ItemPart, NetAt, item_at, item_of_task, item_part, items_of, net_at}
use Rattle.yw_state.specs.Texts.{Reader}
use Rattle.yw_state.specs.Well.{IsWell, Stands, item_limit}
use Rattle.yw_state.specs.Words.{is_completed}

-- where it is completed, what it has made fits
abbrev made_fits : Task → Ident × ItemPart → Bool
made_fits t e = not (is_completed e.1.stage) || row_fits t.outs e.1.made

rows_fit : (t : Task) (es : List (Ident × ItemPart)) → list_all (made_fits t) es ≡ true → list_all (row_fits t.outs) (made_rows es) ≡ true
rows_fit t [] e = refl
rows_fit t (x ∷ es) e =
    let parts = and_parts (made_fits t x) (list_all (made_fits t) es) e in with_first (is_completed x.1.stage) parts.0 (rows_fit t es parts.1)
  where
    with_first : (b : Bool) → (not b || row_fits t.outs x.1.made) ≡ true → list_all (row_fits t.outs) (made_rows es) ≡ true
        → list_all (row_fits t.outs) (map (λ (y : Ident × ItemPart). y.1.made) (cond b (x ∷ filter (λ (y : Ident × ItemPart). is_completed y.1.stage) es) (filter (λ (y : Ident × ItemPart). is_completed y.1.stage) es))) ≡ true
    with_first true here rest = and_from _ _ here rest
    with_first false here rest = rest

no_more_pass : {A : Type 0} (p : A → Bool) (xs : List A) → length (filter p xs) ≤ length xs
no_more_pass p [] = omega arith
no_more_pass p (x ∷ xs) =
    let rest = no_more_pass p xs in
    elim (p x) as (λ b. length (cond b (x ∷ filter p xs) (filter p xs)) ≤ length (x ∷ xs)) [
      | true ↦ omega (arith, rest)
      | false ↦ omega (arith, rest)
    ]

module _ (reader : Reader) (s : State) (well : IsWell reader s) (i : Ident) (n : NetAt) (k : ℕ) (t : Task) (net : net_at s i ≡ Some n) (at : slice_get n.net.tasks k ≡ Some t) where
  abbrev taken : Ident × Site → Option (Ident × ItemPart)
  taken e = item_of_task i k e.0 e.1

  -- as `item_of_task` tells them
  abbrev of_task : Ident → ItemPart → Option (Ident × ItemPart)
  of_task j y = if y.task == k then Some (j, y) else None

  -- an item of the task
  item_here : (j : Ident) (y : ItemPart) → item_part s j ≡ Some y → is_child j i ≡ true → (y.task == k) ≡ true → made_fits t (j, y) ≡ true
  item_here j y is below same =
      let above : net_at s (parent j) ≡ Some n = ap (net_at s) (parent_of_child j i below) ∙ net in
      let task : slice_get n.net.tasks y.task ≡ Some t = ap (slice_get n.net.tasks) (eqb-true y.task k same) ∙ at in
      let item : item_at s j ≡ Some (record { part = y; of_task = record { number = y.task; task = t; within = n } }) =
      ap (λ o. item_in o (net_at s (parent j))) is
      ∙ ap (item_in (Some y)) above
      ∙ ap (λ o. option_map (λ u. record { part = y; of_task = u }) (option_map (λ (u : Task). record { number = y.task; task = u; within = n }) o)) task
      in
      let fits = well.content.item j (record { part = y; of_task = record { number = y.task; task = t; within = n } }) item in
      where_completed (is_completed y.stage) fits.made
    where
      where_completed : (b : Bool) → (b ≡ true → row_fits t.outs y.made ≡ true) → (not b || row_fits t.outs y.made) ≡ true
      where_completed true fits = fits refl
      where_completed false fits = refl

  part_fits : (j : Ident) (y : ItemPart) (z : Ident × ItemPart) → item_part s j ≡ Some y → is_child j i ≡ true → of_task j y ≡ Some z → made_fits t z ≡ true
  part_fits j y z is below taken_is =
      by_test (y.task == k)
      (λ same.
      subst (λ (w : Ident × ItemPart). made_fits t w ≡ true) (some_same (j, y) z (◌∙◌ {b = of_task j y} (ap (λ b. if b then Some (j, y) else None) (sym same)) taken_is))
      (item_here j y is below same))
      (λ other. nowhere (◌∙◌ {b = of_task j y} (ap (λ b. if b then Some (j, y) else None) (sym other)) taken_is))

  entry_fits : (e : Ident × Site) (z : Ident × ItemPart) → Stands s e.0 e.1 → taken e ≡ Some z → made_fits t z ≡ true
  entry_fits e z stands is =
      by_test (is_child e.0 i)
      (λ below.
      let (y, item, taken_is) = then_some (of_task e.0) e.1.item z (◌∙◌ {b = taken e} (ap (λ b. if b then option_and_then (of_task e.0) e.1.item else None) (sym below)) is) in
      part_fits e.0 y z (ap (option_and_then (λ (x : Site). x.item)) stands ∙ item) below taken_is)
      (λ aside. nowhere (◌∙◌ {b = taken e} (ap (λ b. if b then option_and_then (of_task e.0) e.1.item else None) (sym aside)) is))

  entries_fit : (es : List (Ident × Site)) → ((e : Ident × Site) → IsIn es e → Stands s e.0 e.1) → list_all (made_fits t) (filter_map taken es) ≡ true
  entries_fit [] stand = refl
  entries_fit (e ∷ es) stand = with_first (taken e) (λ z is. entry_fits e z (stand e (inl refl)) is) (entries_fit es (λ f within. stand f (inr within)))
    where
      with_first : (o : Option (Ident × ItemPart)) → ((z : Ident × ItemPart) → o ≡ Some z → made_fits t z ≡ true) → list_all (made_fits t) (filter_map taken es) ≡ true → list_all (made_fits t) (cons_option o (filter_map taken es)) ≡ true
      with_first None fits rest = rest
      with_first (Some z) fits rest = and_from _ _ (fits z refl) rest

  pub made_rows_fit : list_all (row_fits t.outs) (made_rows (items_of s i k)) ≡ true
  made_rows_fit = rows_fit t (items_of s i k) (entries_fit s.sites.list (λ e within. find-entry by_name s.sites.list e s.sites.sorted within))

  pub made_rows_few : length (made_rows (items_of s i k)) ≤ item_limit t.many
  made_rows_few =
      let all = well.content.count i n k t net at in
      let done = no_more_pass (λ (e : Ident × ItemPart). is_completed e.1.stage) (items_of s i k) in
      let made = length-map (filter (λ (e : Ident × ItemPart). is_completed e.1.stage) (items_of s i k)) (λ e. e.1.made) in
      omega (arith, all, done, made)
