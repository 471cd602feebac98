-- How many items are done, read off the map of what stands.
use Rattle.std.specs.FinMap.Entries.{below_all, by_order, find, is_sorted, is_sorted-put, put}
use Rattle.std.specs.List.{cons_option, filter_map}
use Rattle.std.specs.Ordering.{eq_by_cmp, is_eq}
use Rattle.std.specs.declared.cmp.Ordering.TheVariants.{Less, Equal, Greater}
use Rattle.std.specs.Prelude.{◌≡◌, ◌&&◌, ◌==◌, suc, ℕ, Bool, true, false, cond, T, List, [], ◌∷◌, filter, length, Option, Some, None, option_and_then, option_map, refl, if◌then◌else◌}
use Rattle.std.proofs.Common.{sym, ◌∙◌, ap, inl, inr}
use Rattle.yw_progress.proofs.Items.{item_among}
use Rattle.yw_progress.specs.Progress.{done_in}
use Rattle.yw_sites.proofs.Picked.{find_picked, picked, sorted_picked}
use Rattle.yw_state.proofs.Entries.{IsIn}
use Rattle.yw_state.proofs.MapLemmas.{by_name, get-insert, nowhere, same_list, tied}
use Rattle.yw_state.proofs.Tests.{by_test}
use Rattle.yw_state.specs.Identity.{Ident, is_child}
use Rattle.yw_state.specs.Map.{Map, entries, get, insert, lexical, of_sorted}
use Rattle.yw_state.specs.State.{State, Site, Sites, ItemPart, if_of_task, item_of_task, item_part, items_of}
use Rattle.yw_state.specs.Words.{done, is_completed}

-- ---- one entry more

later_part : (a b : Bool) → T (a && b) → T b
later_part true b h = h
later_part false b h = absurd h

module _ {X : Type 0} (k : Ident) (w : X) where
  length-put : (es : List (Ident × X)) → T (is_sorted lexical es) → find lexical k es ≡ None → length (put lexical k w es) ≡ suc (length es)
  length-put [] sorted absent = refl
  length-put (e ∷ es) sorted absent =
      elim (lexical k e.0) as (λ r. lexical k e.0 ≡ r
      → length (by_order r ((k, w) ∷ e ∷ es) ((e.0, w) ∷ es) (e ∷ put lexical k w es)) ≡ suc (length (e ∷ es))) [
        | Less ↦ λ r. refl
        | Equal ↦ λ r. nowhere (sym absent ∙ ap (λ c. cond (is_eq c) (Some e.1) (find lexical k es)) r)
        | Greater ↦ λ r. ap suc
            (length-put es (later_part (below_all lexical e.0 es) (is_sorted lexical es) sorted)
            (sym (ap (λ c. cond (is_eq c) (Some e.1) (find lexical k es)) r) ∙ absent))
      ] refl

  sorted_list : (es : List (Ident × X)) (b : Bool) (e : is_sorted lexical es ≡ b) (m : Map lexical X) → T b → (of_sorted es b e m).list ≡ es
  sorted_list es true e m h = refl
  sorted_list es false e m h = absurd h

  -- so many entries are there once one comes at a key that none has
  length-insert : (m : Map lexical X) → get m k ≡ None → length (entries (insert m k w)) ≡ suc (length (entries m))
  length-insert m absent =
      ap length (sorted_list _ _ refl m (is_sorted-put lexical by_name.total k w m.list m.sorted)) ∙ length-put m.list m.sorted absent

-- ---- the items that are done, by identity

-- the item is completed, and nothing keeps it from counting
abbrev finished : (Ident → Bool) → Ident × ItemPart → Option ItemPart
finished free e = if is_completed e.1.stage && free e.0 then Some e.1 else None

-- Of each item directly below the net at i: it counts where it is completed, unless something keeps it from that.
abbrev pub CountsBy : (Ident → Bool) → State → Ident → Type 0
CountsBy free s i = (q : Ident) (x : ItemPart) → is_child q i ≡ true → item_part s q ≡ Some x → done s q x ≡ (is_completed x.stage && free q)

-- the item with this identity, where it is a done one of task k in the net at i
abbrev pub done_item : (Ident → Bool) → Ident → ℕ → Ident → Site → Option ItemPart
done_item free i k q x = option_and_then (finished free) (item_of_task i k q x)

-- the same, of what stands at q
abbrev pub done_there : (Ident → Bool) → Ident → ℕ → Ident → Sites → Option ItemPart
done_there free i k q m = option_and_then (done_item free i k q) (get m q)

pub same_filter : {A : Type 0} (f g : A → Bool) (xs : List A) → ((x : A) → IsIn xs x → f x ≡ g x) → filter f xs ≡ filter g xs
same_filter f g [] alike = refl
same_filter f g (x ∷ xs) alike =
    ap (λ b. cond b (x ∷ filter f xs) (filter f xs)) (alike x (inl refl))
    ∙ ap (λ ys. cond (g x) (x ∷ ys) ys) (same_filter f g xs (λ y later. alike y (inr later)))

module _ (free : Ident → Bool) (i : Ident) (k : ℕ) where
  abbrev counted : Ident × ItemPart → Bool
  counted e = is_completed e.1.stage && free e.0

  abbrev dones : Sites → Map lexical ItemPart
  dones m = record { list = picked (done_item free i k) (entries m); sorted = sorted_picked (done_item free i k) (entries m) m.sorted }

  get-dones : (m : Sites) (q : Ident) → get (dones m) q ≡ done_there free i k q m
  get-dones m q = find_picked (done_item free i k) q (entries m) m.sorted

  both_step : (b : Bool) (q : Ident) (y : Ident × ItemPart) (xs : List (Ident × ItemPart)) (ys : List (Ident × ItemPart)) → length xs ≡ length ys
      → length (cond b (y ∷ xs) xs) ≡ length (cons_option (option_map (λ (z : ItemPart). (q, z)) (if b then Some y.1 else None)) ys)
  both_step true q y xs ys e = ap suc e
  both_step false q y xs ys e = e

  step : (o : Option (Ident × ItemPart)) (q : Ident) (xs ys : List (Ident × ItemPart)) → length (filter counted xs) ≡ length ys
      → length (filter counted (cons_option o xs)) ≡ length (cons_option (option_map (λ (z : ItemPart). (q, z)) (option_and_then (finished free) o)) ys)
  step None q xs ys e = e
  step (Some y) q xs ys e = both_step (counted y) q y (filter counted xs) ys e

  each_picked : (es : List (Ident × Site)) → length (filter counted (filter_map (λ e. item_of_task i k e.0 e.1) es)) ≡ length (picked (done_item free i k) es)
  each_picked [] = refl
  each_picked (e ∷ es) = step (item_of_task i k e.0 e.1) e.0 (filter_map (λ e. item_of_task i k e.0 e.1) es) (picked (done_item free i k) es) (each_picked es)

  done_count : (s : State) → CountsBy free s i → done_in s i k ≡ length (entries (dones s.sites))
  done_count s p =
      ap length (same_filter (λ e. done s e.0 e.1) counted (items_of s i k) (λ e within.
      let item = item_among s i k e within in p e.0 e.1 item.0 item.1))
      ∙ each_picked (entries s.sites)

  module _ (s t : State) (p : CountsBy free s i) (q : CountsBy free t i) where
    -- as many are done where the same are
    pub as_many : ((j : Ident) → done_there free i k j t.sites ≡ done_there free i k j s.sites) → done_in t i k ≡ done_in s i k
    as_many same =
        done_count t q
        ∙ ap length (same_list by_name (dones t.sites) (dones s.sites) (λ j. get-dones t.sites j ∙ same j ∙ sym (get-dones s.sites j)))
        ∙ sym (done_count s p)

    -- and one more where one is that wasn't
    pub one_more : (j : Ident) (y : ItemPart) → done_there free i k j s.sites ≡ None → done_there free i k j t.sites ≡ Some y
        → ((l : Ident) → eq_by_cmp lexical l j ≡ false → done_there free i k l t.sites ≡ done_there free i k l s.sites) → done_in t i k ≡ suc (done_in s i k)
    one_more j y was is others =
        done_count t q
        ∙ ap length (same_list by_name (dones t.sites) (insert (dones s.sites) j y) (λ l. get-dones t.sites l ∙ either l
        ∙ sym (get-insert by_name (dones s.sites) j y l)))
        ∙ length-insert j y (dones s.sites) (get-dones s.sites j ∙ was)
        ∙ ap suc (sym (done_count s p))
      where
        either : (l : Ident) → done_there free i k l t.sites ≡ cond (eq_by_cmp lexical l j) (Some y) (get (dones s.sites) l)
        either l = by_test (eq_by_cmp lexical l j)
            (λ here. ap (λ n. done_there free i k n t.sites) (tied by_name l j here) ∙ is ∙ sym (ap (λ b. cond b (Some y) (get (dones s.sites) l)) here))
            (λ there. others l there ∙ sym (get-dones s.sites l) ∙ sym (ap (λ b. cond b (Some y) (get (dones s.sites) l)) there))

  -- ---- read off the item

  -- as the item alone says it
  abbrev pub done_part : Ident → Option ItemPart → Option ItemPart
  done_part q o = option_and_then (finished free) (if is_child q i then option_and_then (if_of_task k q) o else None)

  pub by_part : (q : Ident) (o : Option Site) → option_and_then (done_item free i k q) o ≡ done_part q (option_and_then (λ (x : Site). x.item) o)
  by_part q (Some x) = refl
  by_part q None = either (is_child q i)
    where
      either : (b : Bool) → ◌≡◌ {A = Option ItemPart} None (option_and_then (finished free) (if b then None else None))
      either true = refl
      either false = refl

  -- what doesn't lie directly below isn't
  pub not_below : (q : Ident) (o : Option ItemPart) → is_child q i ≡ false → done_part q o ≡ None
  not_below q o out = ap (λ b. option_and_then (finished free) (if b then option_and_then (if_of_task k q) o else None)) out

  -- an item that isn't completed isn't
  pub not_finished : (q : Ident) (x : ItemPart) → is_completed x.stage ≡ false → done_part q (Some x) ≡ None
  not_finished q x on = either (is_child q i) (x.task == k)
    where
      of_task : (b : Bool) → option_and_then (finished free) (if b then Some (q, x) else None) ≡ None
      of_task true = ap (λ b. if b && free q then Some x else None) on
      of_task false = refl

      either : (a b : Bool) → option_and_then (finished free) (if a then (if b then Some (q, x) else None) else None) ≡ None
      either true b = of_task b
      either false b = refl

  -- nor is one of another task
  pub not_of_task : (q : Ident) (x : ItemPart) → (x.task == k) ≡ false → done_part q (Some x) ≡ None
  not_of_task q x other = either (is_child q i)
    where
      either : (a : Bool) → option_and_then (finished free) (if a then (if x.task == k then Some (q, x) else None) else None) ≡ None
      either true = ap (λ b. option_and_then (finished free) (if b then Some (q, x) else None)) other
      either false = refl

  -- a completed one is where it is the task's, and counts
  pub is_finished : (q : Ident) (x : ItemPart) → is_completed x.stage ≡ true
      → done_part q (Some x) ≡ (if is_child q i && x.task == k && free q then Some x else None)
  is_finished q x over = either (is_child q i) (x.task == k)
    where
      of_task : (b : Bool) → option_and_then (finished free) (if b then Some (q, x) else None) ≡ (if b && free q then Some x else None)
      of_task true = ap (λ b. if b && free q then Some x else None) over
      of_task false = refl

      either : (a b : Bool)
          → option_and_then (finished free) (if a then (if b then Some (q, x) else None) else None) ≡ (if a && b && free q then Some x else None)
      either true b = of_task b
      either false b = refl
