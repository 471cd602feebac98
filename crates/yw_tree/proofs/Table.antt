-- One case among the others.
use Rattle.std.proofs.Common.{Bool, List, Ordering, Some, [], ap, append_assoc, cond, false, refl, subst, sym, true, ℕ, ◌++◌, ◌∙◌, ◌∷◌, ◌≡◌}
use Rattle.std.proofs.lemmas.Bool.{and_parts, eqb-true}
use Rattle.std.specs.BTreeMap.{is_at}
use Rattle.std.specs.FinMap.Entries.{below_all, is_sorted}
use Rattle.std.specs.Ordering.{is_eq, is_lt, nat_cmp}
use Rattle.std.specs.Prelude.{T, ◌==◌}
use Rattle.std.specs.declared.cmp.Ordering.TheVariants.{Equal, Greater, Less}
use Rattle.yw_base.specs.Identity.{under, case_number}
use Rattle.yw_sites.proofs.Each.{Each-append, Each-front, each_mid, each_put, each_rest}
use Rattle.yw_sites.proofs.Picked.{halves, joined}
use Rattle.yw_sites.proofs.Prefix.{not_true, under_trans}
use Rattle.yw_sites.proofs.Swaps.{swaps_after, swaps_before}
use Rattle.yw_sites.specs.Entries.{Entries, Entry, NoneUnder, AllUnder, Swaps}
use Rattle.yw_sites.specs.Idents.{Each}
use Rattle.yw_state.proofs.MapLemmas.{by_number, tied, tied_self}
use Rattle.yw_state.proofs.Tests.{by_test, never, nowhere, some_same}
use Rattle.yw_state.specs.Identity.{Ident, case_ident}
use Rattle.yw_tree.proofs.Keys.{case_keys}
use Rattle.yw_tree.specs.Boxed.{IsBoxed, IsBoxedCase}
use Rattle.yw_tree.specs.Cases.{CaseList, case_at, with_case, without_case}
use Rattle.yw_tree.specs.Entries.{case_entries, flat}
use Rattle.yw_tree.specs.declared.Case.{Case}

-- the case c of number n stands among cs
pub record InTable (n : ℕ) (cs : CaseList) (c : Case) : Type 0 where
  pub front : CaseList
  pub back : CaseList
  pub whole : cs ≡ front ++ ((n, c) ∷ back)
  pub put : (d : Case) → with_case n cs d ≡ front ++ ((n, d) ∷ back)
  pub gone : without_case n cs ≡ front ++ back

pub in_table : (n : ℕ) (cs : CaseList) (c : Case) → case_at n cs ≡ Some c → InTable n cs c
in_table n [] c e = nowhere e
in_table n (x ∷ cs) c e =
    by_test (is_at (nat_cmp n) x.0)
    (λ (t : is_at (nat_cmp n) x.0 ≡ true).
    let k : n ≡ x.0 = tied by_number n x.0 t in
    let v : x.1 ≡ c = some_same x.1 c (ap (λ (b : Bool). cond b (Some x.1) (case_at n cs)) (sym t) ∙ e) in
    record {
      front = [];
      back = cs;
      whole = λ j. (sym k j, v j) ∷ cs;
      put = λ d. ap (λ (b : Bool). cond b ((x.0, d) ∷ cs) (x ∷ with_case n cs d)) t ∙ ap (λ z. (z, d) ∷ cs) (sym k);
      gone = ap (λ (b : Bool). cond b cs (x ∷ without_case n cs)) t;
    })
    (λ (t : is_at (nat_cmp n) x.0 ≡ false).
    let r = in_table n cs c (ap (λ (b : Bool). cond b (Some x.1) (case_at n cs)) (sym t) ∙ e) in
    record {
      front = x ∷ r.front;
      back = r.back;
      whole = ap (λ z. x ∷ z) r.whole;
      put = λ d. ap (λ (b : Bool). cond b ((x.0, d) ∷ cs) (x ∷ with_case n cs d)) t ∙ ap (λ z. x ∷ z) (r.put d);
      gone = ap (λ (b : Bool). cond b cs (x ∷ without_case n cs)) t ∙ ap (λ z. x ∷ z) r.gone;
    })

-- which is the one of its number then
pub case_put : (n : ℕ) (cs : CaseList) (c d : Case) → case_at n cs ≡ Some c → case_at n (with_case n cs d) ≡ Some d
case_put n [] c d e = nowhere e
case_put n (x ∷ cs) c d e =
    by_test (is_at (nat_cmp n) x.0)
    (λ (t : is_at (nat_cmp n) x.0 ≡ true).
    ap (λ (b : Bool). case_at n (cond b ((x.0, d) ∷ cs) (x ∷ with_case n cs d))) t ∙ ap (λ (b : Bool). cond b (Some d) (case_at n cs)) t)
    (λ (t : is_at (nat_cmp n) x.0 ≡ false).
    ap (λ (b : Bool). case_at n (cond b ((x.0, d) ∷ cs) (x ∷ with_case n cs d))) t
    ∙ ap (λ (b : Bool). cond b (Some x.1) (case_at n (with_case n cs d))) t
    ∙ case_put n cs c d (ap (λ (b : Bool). cond b (Some x.1) (case_at n cs)) (sym t) ∙ e))

-- ---- the order of the numbers
pub not_both : (o : Ordering) → is_eq o ≡ true → T (is_lt o) → ⊥
not_both Less e h = never e
not_both Equal e h = h
not_both Greater e h = h

lt_apart : (a b : ℕ) → T (is_lt (nat_cmp a b)) → a ≡ b → ⊥
lt_apart a b h e = not_both (nat_cmp a a) (tied_self by_number a) (subst (λ z. T (is_lt (nat_cmp a z))) (sym e) h)

module _ {A : Type 0} where
  all_apart : (k : ℕ) (es : List (ℕ × A)) → T (below_all nat_cmp k es) → Each (λ e. e.0 ≡ k → ⊥) es
  all_apart k [] h = tt
  all_apart k (e ∷ es) h = let p = halves _ _ h in ((λ s. lt_apart k e.0 p.0 (sym s)), all_apart k es p.1)

  below_mid : (k : ℕ) (xs : List (ℕ × A)) (e : ℕ × A) (ys : List (ℕ × A)) → T (below_all nat_cmp k (xs ++ (e ∷ ys))) → T (is_lt (nat_cmp k e.0))
  below_mid k [] e ys h = (halves _ _ h).0
  below_mid k (x ∷ xs) e ys h = below_mid k xs e ys (halves _ _ h).1

  -- the others have other numbers
  pub others : (xs : List (ℕ × A)) (e : ℕ × A) (ys : List (ℕ × A)) → T (is_sorted nat_cmp (xs ++ (e ∷ ys))) → Each (λ f. f.0 ≡ e.0 → ⊥) xs × Each (λ f. f.0 ≡ e.0 → ⊥) ys
  others [] e ys h = (tt, all_apart e.0 ys (halves _ _ h).0)
  others (x ∷ xs) e ys h =
      let p = halves _ _ h in
      let r = others xs e ys p.1 in
      ((lt_apart x.0 e.0 (below_mid x.0 xs e ys p.0), r.0), r.1)

  below_put : (k n : ℕ) (x y : A) (xs ys : List (ℕ × A)) → T (below_all nat_cmp k (xs ++ ((n, x) ∷ ys))) → T (below_all nat_cmp k (xs ++ ((n, y) ∷ ys)))
  below_put k n x y [] ys h = h
  below_put k n x y (z ∷ xs) ys h = let p = halves _ _ h in joined _ _ p.0 (below_put k n x y xs ys p.1)

  -- another value at a number, or none
  pub sorted_put : (n : ℕ) (x y : A) (xs ys : List (ℕ × A)) → T (is_sorted nat_cmp (xs ++ ((n, x) ∷ ys))) → T (is_sorted nat_cmp (xs ++ ((n, y) ∷ ys)))
  sorted_put n x y [] ys h = h
  sorted_put n x y (z ∷ xs) ys h = let p = halves _ _ h in joined _ _ (below_put z.0 n x y xs ys p.0) (sorted_put n x y xs ys p.1)

  below_less : (k : ℕ) (e : ℕ × A) (xs ys : List (ℕ × A)) → T (below_all nat_cmp k (xs ++ (e ∷ ys))) → T (below_all nat_cmp k (xs ++ ys))
  below_less k e [] ys h = (halves _ _ h).1
  below_less k e (z ∷ xs) ys h = let p = halves _ _ h in joined _ _ p.0 (below_less k e xs ys p.1)

  pub sorted_less : (e : ℕ × A) (xs ys : List (ℕ × A)) → T (is_sorted nat_cmp (xs ++ (e ∷ ys))) → T (is_sorted nat_cmp (xs ++ ys))
  sorted_less e [] ys h = (halves _ _ h).1
  sorted_less e (z ∷ xs) ys h = let p = halves _ _ h in joined _ _ (below_less z.0 e xs ys p.0) (sorted_less e xs ys p.1)

-- ---- what lies under a case
pub number_under : (z : Ident) (m : ℕ) → under z (case_ident m) ≡ true → case_number z ≡ m
number_under [] m h = never h
number_under (x ∷ z) m h = sym (eqb-true m x (and_parts (m == x) (under z []) h).0)

module _ (names : ℕ → List ℕ) where
  abbrev pub all : CaseList → Entries
  all = flat (λ (e : ℕ × Case). case_entries names e.1)

  pub all-append : (xs ys : CaseList) → all (xs ++ ys) ≡ all xs ++ all ys
  all-append [] ys = refl
  all-append (x ∷ xs) ys = ap (λ r. case_entries names x.1 ++ r) (all-append xs ys) ∙ sym (append_assoc (case_entries names x.1) (all xs) (all ys))

  module _ (id : Ident) (n : ℕ) (within : under id (case_ident n) ≡ true) where
    other_case : (m : ℕ) → (m ≡ n → ⊥) → (es : Entries) → AllUnder (case_ident m) es → NoneUnder id es
    other_case m ne [] h = tt
    other_case m ne (e ∷ es) h =
        (not_true (under e.0 id) (λ t. ne (sym (number_under e.0 m h.0) ∙ number_under e.0 n (under_trans e.0 id (case_ident n) t within))), other_case m ne es h.1)

    pub cases_apart : (cs : CaseList) → Each (λ (e : ℕ × Case). (e.1.id ≡ case_ident e.0) × IsBoxedCase e.1) cs → Each (λ (f : ℕ × Case). f.0 ≡ n → ⊥) cs → NoneUnder id (all cs)
    cases_apart [] b o = tt
    cases_apart (c ∷ cs) b o =
        Each-append (λ (e : Entry). under e.0 id ≡ false) (case_entries names c.1) (all cs)
        (other_case c.0 o.0 (case_entries names c.1) (subst (λ z. AllUnder z (case_entries names c.1)) b.0.0 (case_keys names c.1 b.0.1))) (cases_apart cs b.1 o.1)

    -- a change in the case of that number
    pub record CasePlaced (olds news : Entries) (c d : Case) : Type 0 where
      pub swaps : Swaps id olds news (case_entries names c) (case_entries names d)
      pub same_id : d.id ≡ c.id
      pub boxed : IsBoxedCase d

    pub table_placed : (olds news : Entries) (cs : CaseList) (c d : Case) → IsBoxed cs → case_at n cs ≡ Some c → (IsBoxedCase c → CasePlaced olds news c d)
        → Swaps id olds news (all cs) (all (with_case n cs d)) × IsBoxed (with_case n cs d)
    table_placed olds news cs c d b e placing =
        let r = in_table n cs c e in
        let sorted = subst (λ z. T (is_sorted nat_cmp z)) r.whole b.0 in
        let each = subst (Each (λ (e : ℕ × Case). (e.1.id ≡ case_ident e.0) × IsBoxedCase e.1)) r.whole b.1 in
        let mid = each_mid (λ (e : ℕ × Case). (e.1.id ≡ case_ident e.0) × IsBoxedCase e.1) r.front (n, c) r.back each in
        let p = placing mid.1 in
        let o = others r.front (n, c) r.back sorted in
        let fr = cases_apart r.front (Each-front (λ (e : ℕ × Case). (e.1.id ≡ case_ident e.0) × IsBoxedCase e.1) r.front ((n, c) ∷ r.back) each) o.0 in
        let bk = cases_apart r.back (each_rest (λ (e : ℕ × Case). (e.1.id ≡ case_ident e.0) × IsBoxedCase e.1) r.front (n, c) r.back each) o.1 in (
          subst (λ z. Swaps id olds news z (all (with_case n cs d))) (sym (ap all r.whole ∙ all-append r.front ((n, c) ∷ r.back)))
              (subst (λ z. Swaps id olds news (all r.front ++ (case_entries names c ++ all r.back)) z) (sym (ap all (r.put d) ∙ all-append r.front ((n, d) ∷ r.back)))
              (swaps_before id olds news _ _ (all r.front) fr (swaps_after id olds news _ _ (all r.back) bk p.swaps))),
          subst IsBoxed (sym (r.put d)) (sorted_put n c d r.front r.back sorted, each_put (λ (e : ℕ × Case). (e.1.id ≡ case_ident e.0) × IsBoxedCase e.1) r.front (n, c) (n, d) r.back each (p.same_id ∙ mid.0, p.boxed)),
        )
