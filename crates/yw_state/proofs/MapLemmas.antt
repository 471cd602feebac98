-- What maps answer after a change, over keys in a total order in which only equal keys tie.
use mathlib.Core.HLevel.{Σ_prop_path}
use lib.Dec.{T_prop}
use Rattle.std.specs.Prelude.{◌≡◌, ◌⊎◌, Bool, true, false, not, cond, T, List, Some, None, refl, option_map}
use Rattle.std.specs.Ordering.{nat_cmp, eq_by_cmp, is_eq}
use Rattle.std.specs.Cmp.{IsTotalOrder}
use Rattle.std.specs.declared.cmp.Ordering.{Ordering}
use Rattle.std.specs.declared.cmp.Ordering.TheVariants.{Less, Equal, Greater}
use Rattle.std.specs.FinMap.{IsAntisymmetric, nat_cmp-IsAntisymmetric, slice_cmp-IsAntisymmetric}
use Rattle.std.specs.FinMap.Entries.{find, is_sorted, is_sorted-put, find-put, find-where_key, same_entries}
use Rattle.std.proofs.Common.{sym, ◌∙◌, ap, inl, inr}
use Rattle.std.proofs.lemmas.Cmp.{nat_cmp_total, nat_list_cmp_total, lists_total, tied_itself}
use Rattle.yw_state.specs.Map.{Map, lexical, lexical_each, get, insert, remove, retain, update, of_sorted}
pub use Rattle.yw_state.proofs.Tests.{never, nowhere, by_test, by_option, some_same}

-- A total order in which only equal keys tie.
pub record KeyOrder {K : Type 0} (R : K → K → Ordering) : Type 0 where
  pub total : IsTotalOrder R
  pub same : IsAntisymmetric R

pub by_number : KeyOrder nat_cmp
by_number = record { total = nat_cmp_total; same = nat_cmp-IsAntisymmetric }

pub by_name : KeyOrder lexical
by_name = record { total = nat_list_cmp_total; same = slice_cmp-IsAntisymmetric nat_cmp-IsAntisymmetric }

pub by_names : KeyOrder lexical_each
by_names = record { total = lists_total nat_list_cmp_total; same = slice_cmp-IsAntisymmetric (slice_cmp-IsAntisymmetric nat_cmp-IsAntisymmetric) }

module _ {K : Type 0} {R : K → K → Ordering} (o : KeyOrder R) where
  pub tied : (q k : K) → eq_by_cmp R q k ≡ true → q ≡ k
  tied q k =
      elim (R q k) as (λ r. R q k ≡ r → is_eq r ≡ true → q ≡ k) [
        | Less ↦ λ e f. never f
        | Equal ↦ λ e f. o.same q k e
        | Greater ↦ λ e f. never f
      ] refl

  pub tied_self : (k : K) → eq_by_cmp R k k ≡ true
  tied_self k = ap is_eq (tied_itself o.total k)

  pub apart : (q k : K) → ¬ (q ≡ k) → eq_by_cmp R q k ≡ false
  apart q k other = by_test (eq_by_cmp R q k) (λ e. absurd (other (tied q k e))) (λ e. e)

  module _ {X : Type 0} where
    pub of_sorted_list : (es : List (K × X)) (b : Bool) (e : is_sorted R es ≡ b) (m : Map R X) → T b → (of_sorted es b e m).list ≡ es
    of_sorted_list es true e m h = refl
    of_sorted_list es false e m h = absurd h

    -- ---- insert
    pub get-insert : (m : Map R X) (k : K) (v : X) (q : K) → get (insert m k v) q ≡ cond (eq_by_cmp R q k) (Some v) (get m q)
    get-insert m k v q =
        ap (find R q) (of_sorted_list _ _ refl m (is_sorted-put R o.total k v m.list m.sorted)) ∙ find-put R o.total q k v m.list

    pub get-insert_same : (m : Map R X) (k : K) (v : X) → get (insert m k v) k ≡ Some v
    get-insert_same m k v = get-insert m k v k ∙ ap (λ b. cond b (Some v) (get m k)) (tied_self k)

    pub get-insert_other : (m : Map R X) (k : K) (v : X) (q : K) → ¬ (q ≡ k) → get (insert m k v) q ≡ get m q
    get-insert_other m k v q other = get-insert m k v q ∙ ap (λ b. cond b (Some v) (get m q)) (apart q k other)

    -- ---- retain
    pub get-retain : (m : Map R X) (p : K → Bool) (q : K) → get (retain m p) q ≡ cond (p q) (get m q) None
    get-retain m p q = find-where_key R p q (λ x e. ap p (sym (o.same q x e))) m.list

    pub get-retain_kept : (m : Map R X) (p : K → Bool) (q : K) → p q ≡ true → get (retain m p) q ≡ get m q
    get-retain_kept m p q e = get-retain m p q ∙ ap (λ b. cond b (get m q) None) e

    pub get-retain_gone : (m : Map R X) (p : K → Bool) (q : K) → p q ≡ false → get (retain m p) q ≡ None
    get-retain_gone m p q e = get-retain m p q ∙ ap (λ b. cond b (get m q) None) e

    pub get-remove_same : (m : Map R X) (k : K) → get (remove m k) k ≡ None
    get-remove_same m k = get-retain_gone m _ k (ap not (tied_self k))

    pub get-remove_other : (m : Map R X) (k q : K) → ¬ (q ≡ k) → get (remove m k) q ≡ get m q
    get-remove_other m k q other = get-retain_kept m _ q (ap not (apart k q (λ e. other (sym e))))

    -- ---- update
    update_none : (m : Map R X) (k : K) (f : X → X) → get m k ≡ None → update m k f ≡ m
    update_none m k f e = rw e refl

    update_some : (m : Map R X) (k : K) (f : X → X) (v : X) → get m k ≡ Some v → update m k f ≡ insert m k (f v)
    update_some m k f v e = rw e refl

    pub get-update_same : (m : Map R X) (k : K) (f : X → X) → get (update m k f) k ≡ option_map f (get m k)
    get-update_same m k f =
        by_option (get m k)
        (λ e. ap (λ n. get n k) (update_none m k f e) ∙ e ∙ sym (ap (option_map f) e))
        (λ v e. ap (λ n. get n k) (update_some m k f v e) ∙ get-insert_same m k (f v) ∙ sym (ap (option_map f) e))

    pub get-update_other : (m : Map R X) (k : K) (f : X → X) (q : K) → ¬ (q ≡ k) → get (update m k f) q ≡ get m q
    get-update_other m k f q other =
        by_option (get m k)
        (λ e. ap (λ n. get n q) (update_none m k f e))
        (λ v e. ap (λ n. get n q) (update_some m k f v e) ∙ get-insert_other m k (f v) q other)

    -- ---- what stands after a change
    pub insert_stands : (m : Map R X) (k : K) (v : X) (q : K) (y : X) → get (insert m k v) q ≡ Some y → (q ≡ k) × (v ≡ y) ⊎ (get m q ≡ Some y)
    insert_stands m k v q y e =
        by_test (eq_by_cmp R q k)
        (λ t. inl (tied q k t, some_same v y (sym (get-insert m k v q ∙ ap (λ b. cond b (Some v) (get m q)) t) ∙ e)))
        (λ t. inr (sym (get-insert m k v q ∙ ap (λ b. cond b (Some v) (get m q)) t) ∙ e))

    -- it stood before, perhaps otherwise
    pub update_stands : (m : Map R X) (k : K) (f : X → X) (q : K) (y : X) → get (update m k f) q ≡ Some y → (x : X) × (get m q ≡ Some x)
    update_stands m k f q y e =
        by_option (get m k)
        (λ none. (y, ap (λ n. get n q) (sym (update_none m k f none)) ∙ e))
        (λ v some. stood v some (insert_stands m k (f v) q y (ap (λ n. get n q) (sym (update_some m k f v some)) ∙ e)))
      where
        stood : (v : X) → get m k ≡ Some v → (q ≡ k) × (f v ≡ y) ⊎ (get m q ≡ Some y) → (x : X) × (get m q ≡ Some x)
        stood v some (inl here) = (v, ap (get m) here.0 ∙ some)
        stood v some (inr there) = (y, there)

    -- it stood before, and passes the test
    pub retain_stands : (m : Map R X) (p : K → Bool) (q : K) (y : X) → get (retain m p) q ≡ Some y → (get m q ≡ Some y) × (p q ≡ true)
    retain_stands m p q y e =
        by_test (p q)
        (λ t. (sym (get-retain_kept m p q t) ∙ e, t))
        (λ t. nowhere (sym (get-retain_gone m p q t) ∙ e))

    -- ---- maps that answer alike have the same entries, and are equal
    pub same_list : (m n : Map R X) → ((q : K) → get m q ≡ get n q) → m.list ≡ n.list
    same_list m n is = same_entries R o.total o.same m.list n.list m.sorted n.sorted is

    same_entries_map : (m n : Map R X) → m.list ≡ n.list → m ≡ n
    same_entries_map m n e =
        let pairs : ◌≡◌ {A = (es : List (K × X)) × T (is_sorted R es)} (m.list, m.sorted) (n.list, n.sorted) = Σ_prop_path (λ es. T_prop _) e in
        λ i. record { list = (pairs i).0; sorted = (pairs i).1 }

    pub same_map : (m n : Map R X) → ((q : K) → get m q ≡ get n q) → m ≡ n
    same_map m n is = same_entries_map m n (same_list m n is)
