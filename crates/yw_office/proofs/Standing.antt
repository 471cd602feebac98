-- The numbers of the cases that stand, one after another; all that stands is in one of these cases.
use Rattle.std.proofs.Common.{◌≡◌, ◌∙◌, arith, ap, inl, inr, refl, subst, sym}
use Rattle.std.proofs.lemmas.Bool.{and_parts, cases_lt, ltb-true}
use Rattle.std.specs.List.{list_all}
use Rattle.std.specs.Prelude.{◌+◌, ◌++◌, ◌<◌, ℕ, [], ◌∷◌, is_some, List, nat_lt, None, true}
use Rattle.yw_base.specs.Identity.{case_number, is_identity}
use Rattle.yw_idents.proofs.Listed.{none_stands}
use Rattle.yw_library.specs.Held.{IsHeld}
use Rattle.yw_library.specs.Holdings.{Holdings}
use Rattle.yw_library.specs.Names.{names_of}
use Rattle.yw_office.specs.Cases.{AddsCase, HasCases}
use Rattle.yw_shown.proofs.Elements.{in_left, in_right}
use Rattle.yw_state.proofs.Entries.{IsIn}
use Rattle.yw_state.proofs.Tests.{by_option, never}
use Rattle.yw_state.specs.Identity.{Ident}
use Rattle.yw_state.specs.State.{State}
use Rattle.yw_state.specs.Well.{is_drawn}
use Rattle.yw_tree.specs.Cases.{case_at}
use Rattle.yw_tree.specs.declared.Forest.{Forest}
use Rattle.yw_worklist.specs.Lists.{AreCases}

-- ---- one after another

pub no_case : (f : Forest) (n : ℕ) (cases : List ℕ) → case_at n f.cases ≡ None → AddsCase f n cases cases
no_case f n cases none = record { was = λ m was. was; here = λ some. never (sym (ap is_some none) ∙ some) }

pub one_case : (f : Forest) (n : ℕ) (old new : List ℕ) → new ≡ old ++ n ∷ [] → AddsCase f n old new
one_case f n old new is = record {
  was = λ m was. subst (λ ns. IsIn ns m) (sym is) (in_left old (n ∷ []) m was);
  here = λ some. subst (λ ns. IsIn ns n) (sym is) (in_right old (n ∷ []) n (inl refl));
}

pub more_below : (f : Forest) (k : ℕ) (old new : List ℕ) → HasCases f k old → AddsCase f k old new → HasCases f (k + 1) new
more_below f k old new has adds n lt some = elim (cases_lt n k) [
  | inl before ↦ adds.was n (has n before some)
  | inr from ↦
      let last : n ≡ k = omega (arith, lt, from) in
      subst (IsIn new) (sym last) (adds.here (subst (λ m. is_some (case_at m f.cases) ≡ true) last some))
]

-- ---- all that stands

-- the first number of an identity that is drawn
number_drawn : (s : State) (j : Ident) → is_identity j ≡ true → is_drawn s j ≡ true → case_number j < s.next
number_drawn s [] identity drawn = never identity
number_drawn s (n ∷ j) identity drawn = ltb-true n s.next (and_parts (nat_lt n s.next) (list_all (λ m. nat_lt m s.next) j) drawn).0

pub all_stand : (known : Holdings) (f : Forest) (s : State) (cases : List ℕ) → IsHeld known f s → HasCases f s.next cases → AreCases s cases
all_stand known f s cases held has j x stands =
    let numbers = held.well.numbers in
    has (case_number j) (number_drawn s j (numbers.identities j x stands) (numbers.drawn j x stands))
    (by_option (case_at (case_number j) f.cases)
    (λ none. absurd (none_stands (names_of known) f held.boxed s held.sites (case_number j) none j x stands refl))
    (λ found is. ap is_some is))
