-- What a table of numbers has, and what it has after a change.
use Rattle.std.proofs.Common.{◌≡◌, ℕ, List, [], ◌∷◌, String, Global, Some, Bool, cond, string_bytes, string_cmp, nat_cmp, BTreeMap, refl, sym, ap, ◌∙◌}
use Rattle.std.specs.Cmp.Lexicographic.{slice_cmp}
use Rattle.std.specs.Cmp.{eq_by_cmp_equiv}
use Rattle.std.specs.Ordering.{is_eq}
use Rattle.std.specs.BTreeMap as tree
use Rattle.std.specs.BTreeMap.{is_at}
use Rattle.std.specs.Map.{lookup}
use Rattle.std.specs.FinMap.{get, insert, find, same_map, get-insert, get-from_entries, slice_cmp-IsAntisymmetric, nat_cmp-IsAntisymmetric}
use Rattle.std.proofs.lemmas.Cmp.{nat_list_cmp_total}
use Rattle.std.proofs.lemmas.Map.Text.{is_eq-slice_cmp, btree_map_updates_text}
use Rattle.yw_library.specs.Numbers.{by_bytes, numbers_of}

find-by_bytes : (es : List (String Global × ℕ)) (q : List ℕ) → find (slice_cmp nat_cmp) q (by_bytes es) ≡ lookup (is_at (λ k. slice_cmp nat_cmp q (string_bytes k))) es
find-by_bytes [] q = refl
find-by_bytes (e ∷ es) q = ap (cond (is_eq (slice_cmp nat_cmp q (string_bytes e.0))) (Some e.1)) (find-by_bytes es q)

pub get-numbers_of : (es : List (String Global × ℕ)) (q : List ℕ) → get (numbers_of es) q ≡ lookup (is_at (λ k. slice_cmp nat_cmp q (string_bytes k))) es
get-numbers_of es q = get-from_entries nat_list_cmp_total (by_bytes es) q ∙ find-by_bytes es q

pub numbers_of-insert : (m n : BTreeMap (String Global) ℕ) (name : List ℕ) (number : ℕ)
    → tree.UpdatesBy string_cmp (λ k. slice_cmp nat_cmp name (string_bytes k)) m n (Some number)
    → numbers_of n.entries ≡ insert (numbers_of m.entries) name number
numbers_of-insert m n name number u = same_map nat_list_cmp_total (slice_cmp-IsAntisymmetric nat_cmp-IsAntisymmetric) _ _ (λ q.
    get-numbers_of n.entries q
    ∙ btree_map_updates_text name m n (Some number) u q
    ∙ ap (λ (b : Bool). cond b (Some number) (tree.get_by_text m q)) (sym (is_eq-slice_cmp name q) ∙ (eq_by_cmp_equiv nat_list_cmp_total).symm name q)
    ∙ sym (get-insert nat_list_cmp_total (numbers_of m.entries) name number q ∙ ap (cond (is_eq (slice_cmp nat_cmp q name)) (Some number)) (get-numbers_of m.entries q)))
