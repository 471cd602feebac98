-- The numbers of what stands in a state that is well.
use Rattle.std.proofs.Common.{◌≡◌, ◌∙◌, ◌≤◌, ◌<◌, ◌&&◌, ◌∷◌, [], ℕ, true, List, None, inl, length, refl}
use Rattle.std.proofs.lemmas.Bool.{eqb-true, ltb-true}
use Rattle.std.specs.List.{list_all}
use Rattle.std.specs.Prelude.{◌==◌, nat_le, nat_lt}
use Rattle.yw_base.specs.Identity.{case_number, is_identity, is_number, most_numbers, number_end}
use Rattle.yw_idents.proofs.Listed.{none_stands}
use Rattle.yw_restore.proofs.Below.{each_element, of_entry}
use Rattle.yw_shown.proofs.Elements.{from_filter}
use Rattle.yw_sites.specs.Entries.{Entry}
use Rattle.yw_sites.specs.Idents.{Each}
use Rattle.yw_state.proofs.Entries.{IsIn, find-entry}
use Rattle.yw_state.proofs.MapLemmas.{by_name}
use Rattle.yw_state.proofs.Tests.{and_left, and_right, never}
use Rattle.yw_state.specs.Answers.{of_case}
use Rattle.yw_state.specs.Identity.{Ident}
use Rattle.yw_state.specs.Map.{entries}
use Rattle.yw_state.specs.State.{State}
use Rattle.yw_state.specs.Well.{NumbersFit, Stands, is_drawn}
use Rattle.yw_tree.specs.Cases.{case_at}
use Rattle.yw_tree.specs.Forest.{IsForest, sites_of}
use Rattle.yw_tree.specs.declared.Forest.{Forest}

pub some_number : (j : Ident) → is_identity j ≡ true → 1 ≤ case_number j
some_number [] is = never is
some_number (n ∷ j) is =
    let all : list_all is_number (n ∷ j) ≡ true =
    and_right (nat_lt 0 (length (n ∷ j)) && nat_le (length (n ∷ j)) most_numbers) (list_all is_number (n ∷ j)) is in
    ltb-true 0 n (and_left (nat_lt 0 n) (nat_lt n number_end) (and_left (is_number n) (list_all is_number j) all))

pub first_drawn : (next : ℕ) (j : Ident) → is_identity j ≡ true → list_all (λ n. nat_lt n next) j ≡ true → case_number j < next
first_drawn next [] is drawn = never is
first_drawn next (n ∷ j) is drawn = ltb-true n next (and_left (nat_lt n next) (list_all (λ k. nat_lt k next) j) drawn)

no_element : {A : Type 0} (xs : List A) → ((x : A) → IsIn xs x → ⊥) → xs ≡ []
no_element [] none = refl
no_element (x ∷ xs) none = absurd (none x (inl refl))

module _ (s : State) where
  stands : (e : Entry) → IsIn (entries s.sites) e → Stands s e.0 e.1
  stands e within = find-entry by_name (entries s.sites) e s.sites.sorted within

  pub none_first : NumbersFit s → Each (λ (e : Entry). 1 ≤ of_entry e) (entries s.sites)
  none_first fit = each_element _ (entries s.sites) (λ e within. some_number e.0 (fit.identities e.0 e.1 (stands e within)))

  pub all_drawn : NumbersFit s → Each (λ (e : Entry). of_entry e < s.next) (entries s.sites)
  all_drawn fit =
      each_element _ (entries s.sites) (λ e within.
      let st = stands e within in
      first_drawn s.next e.0 (fit.identities e.0 e.1 st) (fit.drawn e.0 e.1 st))

  -- nothing stands in a case of which there is none
  pub no_case_here : (names : ℕ → List ℕ) (f : Forest) (n : ℕ) → IsForest f → s.sites ≡ sites_of names f → case_at n f.cases ≡ None → of_case s n ≡ []
  no_case_here names f n boxed sites none =
      no_element (of_case s n) (λ e within.
      let kept = from_filter (λ (g : Entry). case_number g.0 == n) (entries s.sites) e within in
      none_stands names f boxed s sites n none e.0 e.1 (stands e kept.0) (eqb-true (case_number e.0) n kept.1))
