-- One part more: what the map then answers.
use Rattle.std.proofs.Common.{◌≡◌, Bool, true, false, cond, None, Some, [], ◌∷◌, ◌++◌, ap, sym, ◌∙◌}
use Rattle.std.specs.Ordering.{eq_by_cmp}
use Rattle.std.specs.Prelude.{IsTrue}
use Rattle.yw_base.specs.Identity.{under}
use Rattle.yw_sites.specs.Entries.{AllUnder, Entries, Entry, Gains, Swaps}
use Rattle.yw_sites.proofs.Each.{Each-append}
use Rattle.yw_sites.proofs.Parts.{below_was, is_new, other, own_was}
use Rattle.yw_sites.proofs.Prefix.{under_refl}
use Rattle.yw_sites.proofs.Swaps.{at, at_skip, at_stop, else_at, new_at, old_at}
use Rattle.yw_state.specs.Identity.{Ident, strictly_under}
use Rattle.yw_state.specs.Map.{get, insert, lexical}
use Rattle.yw_state.specs.State.{Site, sites_of_entries}
use Rattle.yw_state.proofs.MapEntries.{get-of_entries}
use Rattle.yw_state.proofs.MapLemmas.{by_name, get-insert, get-insert_other, same_map, tied, tied_self}
use Rattle.yw_state.proofs.Tests.{by_test, never}

pub gained : (i : Ident) (new es fs : Entries) → Swaps i [] new es fs → AllUnder i new → Gains (sites_of_entries es) i new (sites_of_entries fs)
gained i new es fs s u = record {
  within = λ q h. get-of_entries by_name fs q ∙ new_at i [] new es fs s q h;
  elsewhere = λ q h. get-of_entries by_name fs q ∙ else_at i [] new es fs s q tt u h ∙ sym (get-of_entries by_name es q);
}

-- a part that has nothing below it is one value more
pub one_gained : (i : Ident) (x : Site) (es fs : Entries) → Swaps i [] ((i, x) ∷ []) es fs → sites_of_entries fs ≡ insert (sites_of_entries es) i x
one_gained i x es fs s =
    let one : Entries = (i, x) ∷ [] in
    same_map by_name _ _ (λ q.
    get-of_entries by_name fs q
    ∙ by_test (under q i)
    (λ (u : under q i ≡ true).
    new_at i [] one es fs s q u ∙ ap (λ z. cond (eq_by_cmp lexical q i) (Some x) z) (sym (get-of_entries by_name es q ∙ old_at i [] one es fs s q u)) ∙ sym (get-insert by_name (sites_of_entries es) i x q))
    (λ (u : under q i ≡ false).
    else_at i [] one es fs s q tt (under_refl i, tt) u ∙ sym (get-of_entries by_name es q)
    ∙ sym (get-insert_other by_name (sites_of_entries es) i x q (λ e. never (sym u ∙ ap (λ z. under z i) e ∙ under_refl i)))))

-- one value more below a part
pub gained_below : (i k : Ident) (x v : Site) (xs es fs : Entries) → Swaps i ((i, x) ∷ xs) ((i, x) ∷ (xs ++ ((k, v) ∷ []))) es fs → AllUnder i xs → IsTrue (strictly_under k i) → get (sites_of_entries es) k ≡ None
    → sites_of_entries fs ≡ insert (sites_of_entries es) k v
gained_below i k x v xs es fs s u strict vacant =
    let one : Entries = (k, v) ∷ [] in
    let m = sites_of_entries es in
    let o = other k i strict in
    let all : AllUnder i (xs ++ one) = Each-append (λ (e : Entry). under e.0 i ≡ true) xs one u (o.0, tt) in
    let none : at k xs ≡ None = sym (below_was i x x xs (xs ++ one) es fs s u all k strict) ∙ vacant in
    is_new i x x xs (xs ++ one) es fs s u all (insert m k v)
    (get-insert_other by_name m k v i (λ e. never (sym o.1 ∙ ap (λ z. eq_by_cmp lexical z i) (sym e) ∙ tied_self by_name i)) ∙ own_was i x x xs (xs ++ one) es fs s u all)
    (λ q h.
    get-insert by_name m k v q
    ∙ by_test (eq_by_cmp lexical q k)
    (λ (t : eq_by_cmp lexical q k ≡ true).
    ap (λ z. cond z (Some v) (get m q)) t
    ∙ sym (at_skip q xs one (ap (λ z. at z xs) (tied by_name q k t) ∙ none) ∙ ap (λ (z : Bool). cond z (Some v) None) t))
    (λ (t : eq_by_cmp lexical q k ≡ false).
    ap (λ z. cond z (Some v) (get m q)) t ∙ below_was i x x xs (xs ++ one) es fs s u all q h
    ∙ sym (at_stop q xs one (ap (λ (z : Bool). cond z (Some v) None) t))))
    (λ q w. get-insert_other by_name m k v q (λ e. never (sym w ∙ ap (λ z. under z i) e ∙ o.0)))
