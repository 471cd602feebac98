-- The work list of a person is the rows at the identities where there is work for that person.
use Rattle.std.proofs.Common.{ap, get_or, inl, inr, refl, subst, sym, take, ◌∙◌}
use Rattle.std.proofs.lemmas.Bool.{and_from, and_parts, or_left, or_right}
use Rattle.std.proofs.lemmas.Cmp.{tied_itself}
use Rattle.std.proofs.lemmas.List.{map-append, take_more}
use Rattle.std.proofs.lemmas.List.Elements.{filter-append}
use Rattle.std.proofs.lemmas.Slice.Eq.{bytes_eq-Decides}
use Rattle.std.specs.List.{flat_map, list_all, list_any}
use Rattle.std.specs.Ordering.{is_lt, ordering_then}
use Rattle.std.specs.Prelude.{◌≡◌, ◌↔◌, ◌+◌, ◌<◌, ◌++◌, [], ◌∷◌, ℕ, Bool, false, filter, if◌then◌else◌, is_some, length, List, map, Some, true, unwrap_or}
use Rattle.std.specs.declared.cmp.Ordering.{Ordering}
use Rattle.std.specs.declared.cmp.Ordering.TheVariants.{Equal, Greater, Less}
use Rattle.yw_open.specs.Opens.{name_before}
use Rattle.yw_shown.proofs.Elements.{contained, found_in, from_filter, from_map, in_filter, in_left, in_map, in_one, in_right}
use Rattle.yw_state.proofs.Entries.{IsIn}
use Rattle.yw_state.proofs.MapLemmas.{by_name}
use Rattle.yw_state.proofs.Tests.{by_test, never}
use Rattle.yw_state.specs.Answers.{IsWork, IsWorkList, rises}
use Rattle.yw_state.specs.Identity.{Ident, same}
use Rattle.yw_state.specs.Map.{get, lexical}
use Rattle.yw_state.specs.State.{State, is_suspended}
use Rattle.yw_state.specs.Words.{held}
use Rattle.yw_state.specs.declared.answer.WorkRow.{WorkRow}
use Rattle.yw_work.specs.Holds.{has_run, held_on}
use Rattle.yw_work.specs.Open.{IsFor, admits, roles_of}
use Rattle.yw_work.specs.Rows.{AreRowsAt, ascends, work_before}
use Rattle.yw_work.specs.declared.open.By.{By}
use Rattle.yw_work.specs.declared.open.By.TheVariants as bys
use Rattle.yw_work.specs.declared.open.Open.{Open}
use Rattle.yw_worklist.proofs.FrontLemmas.{held_alike}
use Rattle.yw_worklist.specs.Lists.{IsListed, is_marked, is_run, works_at}
use Rattle.yw_worklist.specs.Offers.{HasAdmitted, has_by, same_by}
use Rattle.yw_worklist.specs.Rows.{admitted, is_held, row_of, rows_at}
use Rattle.yw_worklist.specs.declared.lists.Lists.{Lists}

-- ---- one row after another

module _ (roles : List (List ℕ)) (who : List ℕ) (j : Ident) where
  abbrev lets : Open → Bool
  lets o = admits roles who o.by

  joined : (xs ys : List Open) → admitted roles who j (xs ++ ys) ≡ admitted roles who j xs ++ admitted roles who j ys
  joined xs ys = ap (map (row_of j)) (filter-append lets xs ys) ∙ map-append (row_of j) (filter lets xs) (filter lets ys)

  pub more_admitted : (xs : List Open) (i : ℕ) (o : Open) → i < length xs → o ≡ get_or xs i o
      → admitted roles who j (take (i + 1) xs) ≡ admitted roles who j (take i xs) ++ admitted roles who j (o ∷ [])
  more_admitted xs i o lt at =
      ap (admitted roles who j) (take_more xs i o lt ∙ ap (λ z. take i xs ++ z ∷ []) (sym at)) ∙ joined (take i xs) (o ∷ [])

  pub let_in : (o : Open) → lets o ≡ true → admitted roles who j (o ∷ []) ≡ row_of j o ∷ []
  let_in o is = ap (λ b. map (row_of j) (if b then o ∷ [] else [])) is

  pub kept_out : (o : Open) → lets o ≡ false → admitted roles who j (o ∷ []) ≡ []
  kept_out o isnt = ap (λ b. map (row_of j) (if b then o ∷ [] else [])) isnt

-- ---- the rows at an identity

module _ (l : Lists) (roles : List (List ℕ)) (who : List ℕ) (j : Ident) where
  abbrev its : Bool → List WorkRow
  its b = if b then [] else admitted roles who j (works_at l j)

  pub rows_held : is_held l j ≡ true → rows_at l roles who j ≡ []
  rows_held is = ap its is

  pub rows_listed : (opens : List Open) → is_held l j ≡ false → works_at l j ≡ opens → rows_at l roles who j ≡ admitted roles who j opens
  rows_listed opens isnt are = ap its isnt ∙ ap (admitted roles who j) are

  record IsRowOf (row : WorkRow) : Type 0 where
    free : is_held l j ≡ false
    open_one : Open
    listed : IsIn (works_at l j) open_one
    admit : admits roles who open_one.by ≡ true
    is : row_of j open_one ≡ row

  row_from : (row : WorkRow) → IsIn (rows_at l roles who j) row → IsRowOf row
  row_from row within = by_test (is_held l j)
      (λ is. absurd (subst (λ rows. IsIn rows row) (rows_held is) within))
      (λ isnt.
      let (o, there, is) = from_map (row_of j) (filter (λ o. admits roles who o.by) (works_at l j)) row
      (subst (λ rows. IsIn rows row) (rows_listed (works_at l j) isnt refl) within) in
      let (listed, admit) = from_filter (λ (o : Open). admits roles who o.by) (works_at l j) o there in
      record { free = isnt; open_one = o; listed = listed; admit = admit; is = is })

  row_in : (o : Open) → is_held l j ≡ false → IsIn (works_at l j) o → admits roles who o.by ≡ true → IsIn (rows_at l roles who j) (row_of j o)
  row_in o isnt listed admit =
      subst (λ rows. IsIn rows (row_of j o)) (sym (rows_listed (works_at l j) isnt refl))
      (in_map (row_of j) (filter (λ o. admits roles who o.by) (works_at l j)) o (in_filter (λ (o : Open). admits roles who o.by) (works_at l j) o listed admit))

-- ---- in order

before : (a b c : Open) → name_before a b ≡ true → name_before b c ≡ true → name_before a c ≡ true
before a b c first second = ap is_lt (by_name.total.trans a.task b.task c.task (less _ first) (less _ second))
  where
    less : (o : Ordering) → is_lt o ≡ true → o ≡ Less
    less Less e = refl
    less Equal e = never e
    less Greater e = never e

passed_over : (a b : Open) (opens : List Open) → rises name_before (a ∷ b ∷ opens) ≡ true → rises name_before (a ∷ opens) ≡ true
passed_over a b [] e = refl
passed_over a b (c ∷ opens) e =
    let first = and_parts (name_before a b) (rises name_before (b ∷ c ∷ opens)) e in
    let second = and_parts (name_before b c) (rises name_before (c ∷ opens)) first.1 in
    and_from _ _ (before a b c first.0 second.0) second.1

module _ (p : Open → Bool) where
  rises_behind : (a : Open) (opens : List Open) → rises name_before (a ∷ opens) ≡ true → rises name_before (a ∷ filter p opens) ≡ true
  rises_behind a [] e = refl
  rises_behind a (b ∷ opens) e =
      let first = and_parts (name_before a b) (rises name_before (b ∷ opens)) e in
      elim (p b) as (λ t. rises name_before (a ∷ (if t then b ∷ filter p opens else filter p opens)) ≡ true) [
        | true ↦ and_from (name_before a b) (rises name_before (b ∷ filter p opens)) first.0 (rises_behind b opens first.1)
        | false ↦ rises_behind a opens (passed_over a b opens e)
      ]

  tail_rises : (a : Open) (opens : List Open) → rises name_before (a ∷ opens) ≡ true → rises name_before opens ≡ true
  tail_rises a [] e = refl
  tail_rises a (b ∷ opens) e = (and_parts (name_before a b) (rises name_before (b ∷ opens)) e).1

  some_rise : (opens : List Open) → rises name_before opens ≡ true → rises name_before (filter p opens) ≡ true
  some_rise [] e = refl
  some_rise (a ∷ opens) e =
      elim (p a) as (λ t. rises name_before (if t then a ∷ filter p opens else filter p opens) ≡ true) [
        | true ↦ rises_behind a opens e
        | false ↦ some_rise opens (tail_rises a opens e)
      ]

module _ (j : Ident) where
  next_row : (a b : Open) → name_before a b ≡ true → work_before (row_of j a) (row_of j b) ≡ true
  next_row a b e = ap (λ o. is_lt (ordering_then o (lexical a.task b.task))) (tied_itself by_name.total j) ∙ e

  rows_rise : (opens : List Open) → rises name_before opens ≡ true → rises work_before (map (row_of j) opens) ≡ true
  rows_rise [] e = refl
  rows_rise (a ∷ []) e = refl
  rows_rise (a ∷ b ∷ opens) e =
      let parts = and_parts (name_before a b) (rises name_before (b ∷ opens)) e in
      and_from (work_before (row_of j a) (row_of j b)) (rises work_before (map (row_of j) (b ∷ opens))) (next_row a b parts.0) (rows_rise (b ∷ opens) parts.1)

  rows_are_at : (opens : List Open) → list_all (λ (r : WorkRow). same r.at j) (map (row_of j) opens) ≡ true
  rows_are_at [] = refl
  rows_are_at (o ∷ opens) = and_from (same j j) (list_all (λ (r : WorkRow). same r.at j)
      (map (row_of j) opens)) ((bytes_eq-Decides j j).1 refl) (rows_are_at opens)

-- ---- elements of lists

in_flat : {A B : Type 0} (f : A → List B) (xs : List A) (x : A) (y : B) → IsIn xs x → IsIn (f x) y → IsIn (flat_map f xs) y
in_flat f [] x y within there = absurd within
in_flat f (z ∷ xs) x y (inl first) there = in_left (f z) (flat_map f xs) y (subst (λ w. IsIn (f w) y) (sym first) there)
in_flat f (z ∷ xs) x y (inr rest) there = in_right (f z) (flat_map f xs) y (in_flat f xs x y rest there)

from_flat : {A B : Type 0} (f : A → List B) (xs : List A) (y : B) → IsIn (flat_map f xs) y → (x : A) × IsIn xs x × IsIn (f x) y
from_flat f [] y within = absurd within
from_flat f (x ∷ xs) y within = elim (in_one (f x) (flat_map f xs) y within) [
  | inl here ↦ (x, inl refl, here)
  | inr later ↦ let there = from_flat f xs y later in (there.0, inr there.1, there.2)
]

any_in : {A : Type 0} (p : A → Bool) (xs : List A) (x : A) → IsIn xs x → p x ≡ true → list_any p xs ≡ true
any_in p [] x within e = absurd within
any_in p (y ∷ xs) x (inl first) e = or_left (p y) (list_any p xs) (ap p first ∙ e)
any_in p (y ∷ xs) x (inr rest) e = or_right (p y) (list_any p xs) (any_in p xs x rest e)

same_by_self : (by : By) → same_by by by ≡ true
same_by_self bys.Anyone = refl
same_by_self (bys.Role role) = (bytes_eq-Decides role role).1 refl
same_by_self (bys.Person name) = (bytes_eq-Decides name name).1 refl

-- ---- the whole list

-- Work is what is open for the person, held as the marks and runs hold it, and rows of identities that ascend are in order.
pub record WorkLaws : Type 0 where
  pub work : (s : State) (who : List ℕ) (row : WorkRow) → IsWork s who row ↔ IsFor s who row
  pub held : (s : State) (j : Ident) → held s j ≡ held_on (is_suspended s) (has_run s) false j
  pub ordered : (rows : Ident → List WorkRow) (js : List Ident) → AreRowsAt rows → ascends js ≡ true → rises work_before (flat_map rows js) ≡ true

module _ (laws : WorkLaws) (s : State) (l : Lists) (who : List ℕ) (listed : IsListed s l) where
  same_held : (j : Ident) → is_held l j ≡ held s j
  same_held j =
      held_alike (is_marked l) (is_run l) (is_suspended s) (has_run s) false j (λ i. (listed.at i).mark) (λ i. (listed.at i).run) ∙ sym (laws.held s j)

  module _ (roles : List (List ℕ)) (js : List Ident) (known : Some roles ≡ get s.persons who) (up : ascends js ≡ true)
      (has : HasAdmitted l.offers roles who js) where
    abbrev its_rows : Ident → List WorkRow
    its_rows j = rows_at l roles who j

    its_roles : roles_of s who ≡ roles
    its_roles = ap (λ o. unwrap_or o []) (sym known)

    are_at : AreRowsAt its_rows
    are_at = record {
      at = λ j. by_test (is_held l j)
          (λ is. ap (list_all (λ (r : WorkRow). same r.at j)) (rows_held l roles who j is))
          (λ isnt. ap (list_all (λ (r : WorkRow). same r.at j)) (rows_listed l roles who j (works_at l j) isnt refl)
          ∙ rows_are_at j (filter (λ (o : Open). admits roles who o.by) (works_at l j)));
      ordered = λ j. by_test (is_held l j)
          (λ is. ap (rises work_before) (rows_held l roles who j is))
          (λ isnt. ap (rises work_before) (rows_listed l roles who j (works_at l j) isnt refl)
          ∙ rows_rise j (filter (λ (o : Open). admits roles who o.by) (works_at l j))
          (some_rise (λ (o : Open). admits roles who o.by) (works_at l j) (listed.at j).opens.named));
    }

    row_is_work : (row : WorkRow) → IsIn (flat_map its_rows js) row → IsWork s who row
    row_is_work row within =
        let (j, among, there) = from_flat its_rows js row within in
        let r = row_from l roles who j row there in
        let is_for : IsFor s who (row_of j r.open_one) = record {
          person = ap is_some (sym known);
          by = r.open_one.by;
          is = ((listed.at j).opens.exact r.open_one).0 (contained (works_at l j) r.open_one r.listed);
          free = sym (same_held j) ∙ r.free;
          admitted = ap (λ rs. admits rs who r.open_one.by) its_roles ∙ r.admit;
        } in
        (laws.work s who row).1 (subst (IsFor s who) r.is is_for)

    work_is_row : (row : WorkRow) → IsWork s who row → IsIn (flat_map its_rows js) row
    work_is_row row is =
        let w = (laws.work s who row).0 is in
        let j = row.at in
        let o : Open = record { task = row.task; what = row.what; by = w.by } in
        let there : IsIn (works_at l j) o = found_in (works_at l j) o (((listed.at j).opens.exact o).1 w.is) in
        let some : has_by w.by (works_at l j) ≡ true = any_in (λ (z : Open). same_by z.by w.by) (works_at l j) o there (same_by_self w.by) in
        let admit : admits roles who w.by ≡ true = ap (λ rs. admits rs who w.by) (sym its_roles) ∙ w.admitted in
        in_flat its_rows js j row (has w.by j admit (listed.pooled w.by j ∙ some)) (row_in l roles who j o (same_held j ∙ w.free) there admit)

    pub all_rows : IsWorkList s who (flat_map its_rows js)
    all_rows = record {
      ordered = laws.ordered its_rows js are_at up;
      exact = λ row. (
        λ has_row. row_is_work row (found_in (flat_map its_rows js) row has_row),
        λ is. contained (flat_map its_rows js) row (work_is_row row is),
      );
    }
