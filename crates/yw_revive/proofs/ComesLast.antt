-- What comes after all that stands: a case, and an item.
use Rattle.std.proofs.Common.{◌≡◌, ◌≤◌, ◌⊎◌, ◌∙◌, ℕ, List, [], Ordering, Bool, true, T, Option, None, Some, inl, inr, refl, sym, ap, subst, arith, length}
use Rattle.std.proofs.lemmas.Bool.{and_parts, eqb-true, leb-true, ltb-true}
use Rattle.std.specs.List.{list_all}
use Rattle.std.specs.Ordering.{eq_by_cmp, is_eq, is_lt}
use Rattle.std.specs.Prelude.{◌&&◌, IsSomeAnd, SomeIff, is_some, nat_le, nat_lt}
use Rattle.std.specs.declared.cmp.Ordering.TheVariants.{Equal, Greater, Less}
use Rattle.yw_base.specs.Identity.{case_number, is_identity, is_number, most_numbers, parent}
use Rattle.yw_revive.specs.Grown.{AllBefore, Grows}
use Rattle.yw_sites.proofs.Prefix.{child_length, child_of, is_child_of}
use Rattle.yw_state.proofs.MapLemmas.{by_name, insert_stands, tied_self}
use Rattle.yw_state.proofs.Tests.{by_option, never, some_same}
use Rattle.yw_state.specs.Identity.{Ident, is_case_ident, is_child}
use Rattle.yw_state.specs.Map.{get, lexical}
use Rattle.yw_state.specs.State.{Site}
use Rattle.yw_tree.proofs.FindLaw.{case_shown}
use Rattle.yw_tree.proofs.Parents.{parent_child, parent_length}
use Rattle.yw_tree.proofs.Stood.{found_in_map}
use Rattle.yw_tree.specs.Becomes.{Gets}
use Rattle.yw_tree.specs.Cases.{case_at}
use Rattle.yw_tree.specs.Coming.{ComesAfter, HasTask, ItemMayCome}
use Rattle.yw_tree.specs.Forest.{IsForest, sites_of}
use Rattle.yw_tree.specs.Places.{net_at}
use Rattle.yw_tree.specs.declared.Case.{Case}
use Rattle.yw_tree.specs.declared.Forest.{Forest}
use Rattle.yw_tree.specs.declared.Node.{Node, out-Node}

less_is : (o : Ordering) → T (is_lt o) → o ≡ Less
less_is Less h = refl
less_is Equal h = absurd h
less_is Greater h = absurd h

before_on : (j i k : Ident) → T (is_lt (lexical j i)) → T (is_lt (lexical i k)) → T (is_lt (lexical j k))
before_on j i k a b = subst (λ (o : Ordering). T (is_lt o)) (sym (by_name.total.trans j i k (less_is (lexical j i) a) (less_is (lexical i k) b))) tt

pub no_names : ℕ → List ℕ
no_names k = []

-- with one value more, all comes before what comes after it
last_with : (old new : Forest) (id : Ident) (site : (ℕ → List ℕ) → Site) → AllBefore old id → Gets old new id site → (k : Ident)
    → T (is_lt (lexical id k)) → AllBefore new k
last_with old new id site before gets k later names j there =
    by_option (get (sites_of names new) j)
    (λ (none : get (sites_of names new) j ≡ None). never (sym (ap is_some none) ∙ there))
    (λ (x : Site) (e : get (sites_of names new) j ≡ Some x).
    elim (insert_stands by_name (sites_of names old) id (site names) j x (sym (ap (λ m. get m j) (gets names)) ∙ e)) [
      | inl same ↦ subst (λ (i : Ident). T (is_lt (lexical i k))) (sym same.0) later
      | inr stood ↦ before_on j id k (before names j (ap is_some stood)) later
    ])

pub grown : (old new : Forest) (id : Ident) (site : (ℕ → List ℕ) → Site) → AllBefore old id → Gets old new id site → IsForest new
    → Grows old id site new
grown old new id site before gets boxed = record { gets = gets; boxed = boxed; last = last_with old new id site before gets }

-- ---- a case

pub not_before_itself : (id : Ident) → T (is_lt (lexical id id)) → ⊥
not_before_itself id h = by (lexical id id) (tied_self by_name id) h
  where
    by : (o : Ordering) → is_eq o ≡ true → T (is_lt o) → ⊥
    by Less e l = never e
    by Equal e l = l
    by Greater e l = l

pub no_case : (f : Forest) (id : Ident) → IsForest f → is_case_ident id ≡ true → AllBefore f id → case_at (case_number id) f.cases ≡ None
no_case f id b alone before =
    by_option (case_at (case_number id) f.cases) (λ none. none)
    (λ (c : Case) e.
    let one : length id ≡ 1 = eqb-true (length id) 1 alone in
    absurd (not_before_itself id (before no_names id (ap is_some (case_shown no_names f b id (omega (arith, one)) alone c e)))))

-- ---- an item

comes_after : (f : Forest) (i id : Ident) → IsForest f → 1 ≤ length i → length i ≤ 40 → AllBefore f id → ComesAfter f i id
comes_after f i id b some few before j c there =
    let l = child_length i j (child_of j i c) in
    let long : 1 ≤ length j = omega (arith, l, some) in
    let short : length j ≤ 41 = omega (arith, l, few) in
    before no_names j (sym (found_in_map f b j long no_names short) ∙ there)

pub identity_size : (id : Ident) → is_identity id ≡ true → (1 ≤ length id) × (length id ≤ 40)
identity_size id is =
    let sizes = and_parts (nat_lt 0 (length id) && nat_le (length id) most_numbers) (list_all is_number id) is in
    let both = and_parts (nat_lt 0 (length id)) (nat_le (length id) most_numbers) sizes.0 in
    (ltb-true 0 (length id) both.0, leb-true (length id) most_numbers both.1)

-- where there is no identity above
pub no_parent : (id : Ident) (o : Option Ident) → SomeIff o (is_identity (parent id) ≡ true) (parent id) → ((x : Ident) → o ≡ Some x → ⊥)
    → is_identity (parent id) ≡ true → ⊥
no_parent id None s none is = s is
no_parent id (Some x) s none is = none x refl

pub may_come : (f : Forest) (above : Ident) (n : Node) (o : Option Ident) → IsForest f → AllBefore f (out-Node n).id
    → (out-Node n).net ≡ None → (out-Node n).run ≡ None → SomeIff o (is_identity (parent (out-Node n).id) ≡ true) (parent (out-Node n).id)
    → o ≡ Some above → IsSomeAnd (net_at f above) (HasTask (out-Node n).task) → ItemMayCome f above n
may_come f above n None b before without_net without_run s e task = absurd (none_some above e)
  where
    none_some : (x : Ident) → ◌≡◌ {A = Option Ident} None (Some x) → ⊥
    none_some x e = cc
may_come f above n (Some x) b before without_net without_run s e task =
    let id = (out-Node n).id in
    let same : above ≡ parent id = sym (some_same x above e) ∙ s.1 in
    let size = identity_size (parent id) s.0 in
    let some : 1 ≤ length id = omega (arith, size.0, parent_length id) in
    record {
      task_in = task;
      child = subst (λ (i : Ident). is_child id i ≡ true) (sym same) (is_child_of id (parent id) (parent_child id some));
      after = subst (λ (i : Ident). ComesAfter f i id) (sym same) (comes_after f (parent id) id b size.0 size.1 before);
      without_net = without_net;
      without_run = without_run;
    }
