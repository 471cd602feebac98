-- One part of a map in place of another. A part is its own site, and the entries below it.
use Rattle.std.proofs.Common.{Bool, None, Some, [], ap, cond, false, sym, true, ◌++◌, ◌∙◌, ◌∷◌, ◌≡◌}
use Rattle.std.proofs.lemmas.Bool.{and_from, and_parts, false_from_ne_true, not-true, not_from_false}
use Rattle.std.specs.FinMap.Entries.{find}
use Rattle.std.specs.Ordering.{eq_by_cmp}
use Rattle.std.specs.Prelude.{IsTrue, not, option_map, ◌&&◌, ◌||◌}
use Rattle.yw_base.specs.Identity.{under}
use Rattle.yw_sites.proofs.Prefix.{same_refl, same_true, under_refl}
use Rattle.yw_sites.proofs.Swaps.{at_skip, else_at, new_at, old_at}
use Rattle.yw_sites.specs.Entries.{Entries, AllUnder, Swaps}
use Rattle.yw_state.specs.State.{sites_of_entries}
use Rattle.yw_state.proofs.MapEntries.{get-of_entries}
use Rattle.yw_state.proofs.MapLemmas.{by_name, get-retain, get-retain_gone, get-retain_kept, get-update_other, get-update_same, same_map, tied, tied_self}
use Rattle.yw_state.proofs.Tests.{by_test, never}
use Rattle.yw_state.specs.Identity.{Ident, same, strictly_under}
use Rattle.yw_state.specs.Map.{get, lexical, retain, update}
use Rattle.yw_state.specs.State.{Site, Sites, bare, bare_but, drop}

-- one strictly under id is another, and lies under it
pub other : (q id : Ident) → IsTrue (strictly_under q id) → (under q id ≡ true) × (eq_by_cmp lexical q id ≡ false)
other q id h =
    let p = and_parts (under q id) (not (same q id)) h in
    (p.0, false_from_ne_true _ (λ t. never (sym (not-true (same q id) p.1) ∙ ap (λ z. same z id) (tied by_name q id t) ∙ same_refl id)))

-- one under id is it, or strictly under it
pub or_other : {G : Type 0} (q id : Ident) → under q id ≡ true → (q ≡ id → G) → (IsTrue (strictly_under q id) → G) → G
or_other q id u here below =
    by_test (same q id)
    (λ (t : same q id ≡ true). here (same_true q id t))
    (λ (t : same q id ≡ false). below (and_from (under q id) (not (same q id)) u (ap not t)))

module _ (id : Ident) (x y : Site) (xs ys es fs : Entries) (s : Swaps id ((id, x) ∷ xs) ((id, y) ∷ ys) es fs) (x_under : AllUnder id xs) (y_under : AllUnder id ys) where
  -- ---- what the map of the old entries says, and that of the new ones
  pub own_was : get (sites_of_entries es) id ≡ Some x
  own_was = get-of_entries by_name es id ∙ old_at id _ _ es fs s id (under_refl id) ∙ ap (λ b. cond b (Some x) (find lexical id xs)) (tied_self by_name id)

  pub own_is : (q : Ident) → q ≡ id → get (sites_of_entries fs) q ≡ Some y
  own_is q e = ap (get (sites_of_entries fs)) e ∙ get-of_entries by_name fs id ∙ new_at id _ _ es fs s id (under_refl id) ∙ ap (λ b. cond b (Some y) (find lexical id ys)) (tied_self by_name id)

  pub below_was : (q : Ident) → IsTrue (strictly_under q id) → get (sites_of_entries es) q ≡ find lexical q xs
  below_was q h = let o = other q id h in get-of_entries by_name es q ∙ old_at id _ _ es fs s q o.0 ∙ ap (λ b. cond b (Some x) (find lexical q xs)) o.1

  pub below_is : (q : Ident) → IsTrue (strictly_under q id) → get (sites_of_entries fs) q ≡ find lexical q ys
  below_is q h = let o = other q id h in get-of_entries by_name fs q ∙ new_at id _ _ es fs s q o.0 ∙ ap (λ b. cond b (Some y) (find lexical q ys)) o.1

  pub elsewhere : (q : Ident) → under q id ≡ false → get (sites_of_entries fs) q ≡ get (sites_of_entries es) q
  elsewhere q u = get-of_entries by_name fs q ∙ else_at id _ _ es fs s q (under_refl id, x_under) (under_refl id, y_under) u ∙ sym (get-of_entries by_name es q)

  -- a map is the new one that has the new site, below it the new entries, and elsewhere what was
  pub is_new : (m : Sites) → get m id ≡ Some y → ((q : Ident) → IsTrue (strictly_under q id) → get m q ≡ find lexical q ys) → ((q : Ident) → under q id ≡ false → get m q ≡ get (sites_of_entries es) q) → sites_of_entries fs ≡ m
  is_new m own below outside =
      same_map by_name _ _ (λ q.
      by_test (under q id)
      (λ (u : under q id ≡ true). or_other q id u (λ (e : q ≡ id). own_is q e ∙ sym (ap (get m) e ∙ own)) (λ h. below_is q h ∙ sym (below q h)))
      (λ (u : under q id ≡ false). elsewhere q u ∙ sym (outside q u)))

  apart : (q : Ident) → eq_by_cmp lexical q id ≡ false → q ≡ id → ⊥
  apart q t e = never (sym t ∙ ap (λ z. eq_by_cmp lexical z id) e ∙ tied_self by_name id)

  off : (q : Ident) → under q id ≡ false → q ≡ id → ⊥
  off q u e = never (sym u ∙ ap (λ z. under z id) e ∙ under_refl id)

  -- ---- its own site alone changes
  pub own_changes : (h : Site → Site) → ys ≡ xs → y ≡ h x → sites_of_entries fs ≡ update (sites_of_entries es) id h
  own_changes h rest own =
      is_new (update (sites_of_entries es) id h)
      (get-update_same by_name (sites_of_entries es) id h ∙ ap (option_map h) own_was ∙ ap (λ z. Some z) (sym own))
      (λ q u. get-update_other by_name (sites_of_entries es) id h q (apart q (other q id u).1) ∙ below_was q u ∙ ap (find lexical q) (sym rest))
      (λ q u. get-update_other by_name (sites_of_entries es) id h q (off q u))

  -- ---- all below it goes, and its net
  without : Site → Site
  without z = record z { net = None }

  pub is_bared : ys ≡ [] → y ≡ record x { net = None } → sites_of_entries fs ≡ bare (sites_of_entries es) id
  is_bared rest own =
      let m = sites_of_entries es in
      let keep = λ (k : Ident). not (strictly_under k id) in
      let h = λ (z : Site). record z { net = None } in
      let itself : keep id ≡ true = not_from_false _ (ap (λ z. under id id && not z) (same_refl id) ∙ ap (λ z. z && false) (under_refl id)) in
      is_new (bare m id)
      (get-update_same by_name (retain m keep) id h ∙ ap (option_map h) (get-retain_kept by_name m keep id itself ∙ own_was) ∙ ap (λ z. Some z) (sym own))
      (λ q u. get-update_other by_name (retain m keep) id h q (apart q (other q id u).1) ∙ get-retain_gone by_name m keep q (ap not u) ∙ sym (ap (find lexical q) rest))
      (λ q u. get-update_other by_name (retain m keep) id h q (off q u) ∙ get-retain_kept by_name m keep q (ap (λ z. not (z && not (same q id))) u))

  -- ---- the same, but one stays that stood below it
  pub is_bared_but : (r : Ident) (v : Site) (nets : Entries) → IsTrue (strictly_under r id) → xs ≡ nets ++ ((r, v) ∷ []) → find lexical r nets ≡ None → ys ≡ (r, v) ∷ [] → y ≡ record x { net = None }
      → sites_of_entries fs ≡ bare_but (sites_of_entries es) id r
  is_bared_but r v nets strict was none rest own =
      let m = sites_of_entries es in
      let keep = λ (k : Ident). not (strictly_under k id) || same k r in
      let h = λ (z : Site). record z { net = None } in
      let itself : keep id ≡ true = ap (λ z. z || same id r) (not_from_false _ (ap (λ z. under id id && not z) (same_refl id) ∙ ap (λ z. z && false) (under_refl id))) in
      let one : Entries = (r, v) ∷ [] in
      is_new (bare_but m id r)
      (get-update_same by_name (retain m keep) id h ∙ ap (option_map h) (get-retain_kept by_name m keep id itself ∙ own_was) ∙ ap (λ z. Some z) (sym own))
      (λ q u.
      get-update_other by_name (retain m keep) id h q (apart q (other q id u).1) ∙ get-retain by_name m keep q ∙ ap (λ z. cond (not z || same q r) (get m q) None) u
      ∙ by_test (same q r)
      (λ (t : same q r ≡ true).
      let e = same_true q r t in
      ap (λ (z : Bool). cond z (get m q) None) t ∙ below_was q u ∙ ap (find lexical q) was ∙ at_skip q nets one (ap (λ z. find lexical z nets) e ∙ none) ∙ sym (ap (find lexical q) rest))
      (λ (t : same q r ≡ false).
      let off_here : eq_by_cmp lexical q r ≡ false = false_from_ne_true _ (λ w. never (sym t ∙ ap (λ z. same z r) (tied by_name q r w) ∙ same_refl r)) in
      ap (λ (z : Bool). cond z (get m q) None) t ∙ sym (ap (find lexical q) rest ∙ ap (λ (z : Bool). cond z (Some v) None) off_here)))
      (λ q u. get-update_other by_name (retain m keep) id h q (off q u) ∙ get-retain_kept by_name m keep q (ap (λ z. not (z && not (same q id)) || same q r) u))

-- ---- all under an identity goes
pub drop_law : (id : Ident) (olds es fs : Entries) → Swaps id olds [] es fs → AllUnder id olds → sites_of_entries fs ≡ drop (sites_of_entries es) id
drop_law id olds es fs s o =
    same_map by_name _ _ (λ q.
    get-of_entries by_name fs q
    ∙ by_test (under q id)
    (λ (u : under q id ≡ true). new_at id olds [] es fs s q u ∙ sym (get-retain_gone by_name (sites_of_entries es) (λ k. not (under k id)) q (ap not u)))
    (λ (u : under q id ≡ false).
    else_at id olds [] es fs s q o tt u ∙ sym (get-of_entries by_name es q)
    ∙ sym (get-retain_kept by_name (sites_of_entries es) (λ k. not (under k id)) q (ap not u))))
