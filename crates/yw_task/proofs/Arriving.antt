-- Items that come one behind the other: their order, and those that have come with one more.
use Rattle.std.proofs.Common.{List, Some, [], arith, length, lt-ltb, refl, set, subst, suc, sym, zero, ℕ, ◌++◌, ◌+◌, ◌<◌, ◌∷◌, ◌≡◌}
use Rattle.std.proofs.lemmas.Cmp.{tied_itself}
use Rattle.std.specs.Cmp.Lexicographic.{slice_cmp}
use Rattle.std.specs.Ordering.{is_lt, nat_cmp, ordering_then}
use Rattle.std.specs.Prelude.{T, Vec, cond, slice_get, ◌==◌}
use Rattle.std.specs.declared.alloc.Global.{Global}
use Rattle.std.specs.declared.cmp.Ordering.TheVariants.{Equal, Greater, Less}
use Rattle.yw_sites.proofs.Each.{Each-append}
use Rattle.yw_sites.specs.Idents.{Each}
use Rattle.yw_state.proofs.MapLemmas.{by_number}
use Rattle.yw_state.proofs.Tests.{nowhere}
use Rattle.yw_state.specs.Identity.{Ident}
use Rattle.yw_base.specs.Identity.{child}
use Rattle.yw_state.specs.Map.{lexical}
use Rattle.yw_state.specs.Values.{Row}
use Rattle.yw_state.specs.declared.part.Checks.{Checks}
use Rattle.yw_task.specs.Items.{AreBefore, GetsItems, IsReady, row_of}
use Rattle.yw_tree.proofs.Stand.{each_map}
use Rattle.yw_tree.specs.Shows.{AddsItem, IsLast}
use Rattle.yw_tree.specs.declared.NetState.{NetState}
use Rattle.yw_tree.specs.declared.Node.{Node, out-Node}

-- ---- order

child_less : (i : Ident) (k n : ℕ) → k < n → T (is_lt (lexical (child i k) (child i n)))
child_less [] k n l = subst (λ b. T (is_lt (ordering_then (cond b Less (cond (k == n) Equal Greater)) (slice_cmp nat_cmp [] [])))) (sym (lt-ltb k n l)) tt
child_less (x ∷ i) k n l = subst (λ r. T (is_lt (ordering_then r (slice_cmp nat_cmp (child i k) (child i n))))) (sym (tied_itself by_number.total x)) (child_less i k n l)

-- what is numbered first comes behind all that have lower numbers
pub is_last : (s : NetState) (n : Node) (i : Ident) (t first : ℕ) → (out-Node n).id ≡ child i first → (out-Node n).task ≡ t → AreBefore i first (row_of s t) → IsLast s n
is_last s n i t first id task before =
    subst (λ k. Each (λ x. T (is_lt (lexical (out-Node x).id (out-Node n).id))) (row_of s k)) (sym task)
    (each_map (λ x. (k : ℕ) × (k < first) × ((out-Node x).id ≡ child i k)) (λ x. T (is_lt (lexical (out-Node x).id (out-Node n).id)))
    (λ x (k, less, same). subst (λ z. T (is_lt (lexical z (out-Node n).id))) (sym same) (subst (λ z. T (is_lt (lexical (child i k) z))) (sym id) (child_less i k first less)))
    (row_of s t) before)

-- and with it, those have lower numbers than the next
pub before_next : (i : Ident) (first : ℕ) (ns : List Node) (n : Node) → (out-Node n).id ≡ child i first → AreBefore i first ns → AreBefore i (first + 1) (ns ++ (n ∷ []))
before_next i first ns n id before =
    let Q : Node → Type 0 = λ x. (k : ℕ) × (k < first + 1) × ((out-Node x).id ≡ child i k) in
    Each-append Q ns (n ∷ [])
    (each_map (λ x. (k : ℕ) × (k < first) × ((out-Node x).id ≡ child i k)) Q (λ x (k, less, same). (k, omega arith, same)) ns before)
    ((first, omega arith, id), tt)

-- ---- one more

pub put_at : (vs : List (Vec Node Global)) (t : ℕ) (v u : Vec Node Global) → slice_get vs t ≡ Some v → slice_get (set vs t u) t ≡ Some u
put_at [] t v u e = nowhere e
put_at (x ∷ vs) zero v u e = refl
put_at (x ∷ vs) (suc t) v u e = put_at vs t v u e

pub got_more : (i : Ident) (t : ℕ) (due : Checks) (rows : List Row) (first m : ℕ) (old mid new : NetState) (given : Row) (n : Node) → GetsItems i t due first rows old mid → first + length rows ≡ m
    → IsReady (child i m) t due given n → AddsItem mid new n → GetsItems i t due first (rows ++ (given ∷ [])) old new
got_more i t due [] first m old mid new given n same is ready adds =
    let here : m ≡ first = omega arith in
    (n, new, subst (λ k. IsReady (child i k) t due given n) here ready, subst (λ (s : NetState). AddsItem s new n) same adds, refl)
got_more i t due (row ∷ rows) first m old mid new given n (one, next, is_ready, adds_one, rest) is ready adds =
    (one, next, is_ready, adds_one, got_more i t due rows (first + 1) m next mid new given n rest (omega arith) ready adds)
