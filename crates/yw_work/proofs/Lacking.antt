-- It can't be that there is no list of a person's work: of what may be work each is or isn't, and neither can be lacking.
use Rattle.std.specs.Prelude.{◌≡◌, ◌⊎◌, ◌↔◌, ℕ, zero, suc, Bool, true, List, [], ◌∷◌, Contains, refl}
use Rattle.std.specs.List.{list_all}
use Rattle.std.proofs.Common.{arith, sym, ◌∙◌, ap, subst, inl, inr}
use Rattle.std.proofs.lemmas.Bool.{and_parts, and_from}
use Rattle.yw_state.proofs.Entries.{IsIn}
use Rattle.yw_state.specs.Answers.{IsWork, IsWorkList, rises}
use Rattle.yw_state.specs.State.{State}
use Rattle.yw_state.specs.Texts.{Reader}
use Rattle.yw_state.specs.Well.{IsWell}
use Rattle.yw_state.specs.declared.answer.WorkRow.{WorkRow}
use Rattle.yw_work.proofs.Candidates.{candidates, candidates_rise, covered}
use Rattle.yw_work.proofs.Splits.{both}
use Rattle.yw_work.specs.Rows.{all_rise, work_before}

has_front : {A : Type 0} (x : A) (xs : List A) → Contains (x ∷ xs) x
has_front x xs = (0, omega arith, refl)

has_later : {A : Type 0} (x y : A) (xs : List A) → Contains xs y → Contains (x ∷ xs) y
has_later x y xs (k, lt, e) = (suc k, omega (arith, lt), e)

has_cases : {A : Type 0} (x y : A) (xs : List A) → Contains (x ∷ xs) y → (x ≡ y) ⊎ Contains xs y
has_cases x y xs (zero, lt, e) = inl e
has_cases x y xs (suc k, lt, e) = inr (k, omega (arith, lt), e)

has_none : {A : Type 0} (x : A) → Contains [] x → ⊥
has_none x (k, lt, e) = omega (arith, lt)

all_has : {A : Type 0} (p : A → Bool) (xs : List A) (x : A) → list_all p xs ≡ true → Contains xs x → p x ≡ true
all_has p [] x all has = absurd (has_none x has)
all_has p (y ∷ ys) x all has =
    let parts = and_parts (p y) (list_all p ys) all in
    elim (has_cases y x ys has) [ inl e ↦ ap p (sym e) ∙ parts.0 | inr later ↦ all_has p ys x parts.1 later ]

all_of : {A : Type 0} (p : A → Bool) (xs : List A) → ((x : A) → Contains xs x → p x ≡ true) → list_all p xs ≡ true
all_of p [] each = refl
all_of p (y ∷ ys) each = and_from _ _ (each y (has_front y ys)) (all_of p ys (λ x has. each x (has_later y x ys has)))

all_rises : (rows : List WorkRow) → all_rise rows ≡ true → rises work_before rows ≡ true
all_rises [] e = refl
all_rises (a ∷ []) e = refl
all_rises (a ∷ b ∷ rows) e =
    let parts = and_parts (list_all (work_before a) (b ∷ rows)) (all_rise (b ∷ rows)) e in
    and_from _ _ (and_parts (work_before a b) (list_all (work_before a) rows) parts.0).0 (all_rises (b ∷ rows) parts.1)

module _ (P : WorkRow → Type 0) where
  -- of these exactly those of which it is so, in the same order
  record Chosen (cs xs : List WorkRow) : Type 0 where
    ordered : all_rise xs ≡ true
    exact : (x : WorkRow) → Contains xs x ↔ Contains cs x × P x

  can_choose : (cs : List WorkRow) → all_rise cs ≡ true → ((xs : List WorkRow) → Chosen cs xs → ⊥) → ⊥
  can_choose [] rise none = none [] (record { ordered = refl; exact = λ x. (λ has. absurd (has_none x has), λ both. both.0) })
  can_choose (c ∷ cs) rise none =
      let parts = and_parts (list_all (work_before c) cs) (all_rise cs) rise in
      can_choose cs parts.1 (λ xs chosen.
      let isnt : P c → ⊥ = λ is. none (c ∷ xs) (record {
        ordered = and_from _ _ (all_of (work_before c) xs (λ x has. all_has (work_before c) cs x parts.0 ((chosen.exact x).0 has).0)) chosen.ordered;
        exact = λ x. (
          λ has. elim (has_cases c x xs has) [
            | inl e ↦ (subst (λ (y : WorkRow). Contains (c ∷ cs) y) e (has_front c cs), subst P e is)
            | inr later ↦ (let both = (chosen.exact x).0 later in (has_later c x cs both.0, both.1))
          ],
          λ both. elim (has_cases c x cs both.0) [
            | inl e ↦ subst (λ (y : WorkRow). Contains (c ∷ xs) y) e (has_front c xs)
            | inr later ↦ has_later c x xs ((chosen.exact x).1 (later, both.1))
          ],
        );
      }) in
      none xs (record {
        ordered = chosen.ordered;
        exact = λ x. (
          λ has. (let both = (chosen.exact x).0 has in (has_later c x cs both.0, both.1)),
          λ both. elim (has_cases c x cs both.0) [
            | inl e ↦ absurd (isnt (subst P (sym e) both.1))
            | inr later ↦ (chosen.exact x).1 (later, both.1)
          ],
        );
      }))

cannot_lack : (s : State) (who : List ℕ) (cs : List WorkRow) → all_rise cs ≡ true → ((row : WorkRow) → IsWork s who row → Contains cs row)
    → ((rows : List WorkRow) → IsWorkList s who rows → ⊥) → ⊥
cannot_lack s who cs rise covers none =
    can_choose (IsWork s who) cs rise (λ rows chosen. none rows (record {
      ordered = all_rises rows chosen.ordered;
      exact = λ row. (λ has. ((chosen.exact row).0 has).1, λ is. (chosen.exact row).1 (covers row is, is));
    }))

among : {A : Type 0} (xs : List A) (x : A) → IsIn xs x → Contains xs x
among [] x within = absurd within
among {A} (y ∷ xs) x (inl is) = subst (λ (z : A). Contains (y ∷ xs) z) is (has_front y xs)
among (y ∷ xs) x (inr later) = has_later y x xs (among xs x later)

pub list_stands : {reader : Reader} (s : State) (who : List ℕ) → IsWell reader s → ((rows : List WorkRow) → IsWorkList s who rows → ⊥) → ⊥
list_stands s who well none =
    cannot_lack s who (candidates s) (candidates_rise s)
    (λ row is. let open_there = (both s who row).0 is in among (candidates s) row (covered s well row.at row.task open_there.by row.what open_there.is))
    none
