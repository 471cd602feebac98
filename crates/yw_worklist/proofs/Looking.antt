-- What is listed is right where it is listed as it is seen.
use Rattle.std.proofs.Common.{ap, get_or, inl, inr, refl, subst, sym, take, ◌∙◌}
use Rattle.std.proofs.lemmas.Bool.{cond-false, cond-true}
use Rattle.std.proofs.lemmas.List.{map-append, take_more}
use Rattle.std.specs.Borrow.{Bor}
use Rattle.std.specs.Prelude.{◌≡◌, ◌⊎◌, ◌+◌, ◌<◌, ◌||◌, ◌++◌, [], ◌∷◌, ℕ, Bool, Contains, false, is_some, length, List, map, None, option_and_then, Some, true, unwrap_or}
use Rattle.yw_base.specs.Identity.{case_number}
use Rattle.yw_idents.specs.Idents.{AreAllIn, lent}
use Rattle.yw_library.specs.Holdings.{Holdings, person_name}
use Rattle.yw_open.specs.Opens.{AreOpens, IsHeldUnchosen, name_before}
use Rattle.yw_shown.proofs.Elements.{found_in, in_one}
use Rattle.yw_state.proofs.Entries.{IsIn}
use Rattle.yw_state.proofs.MapLemmas.{by_name, tied, tied_self}
use Rattle.yw_state.proofs.Tests.{by_option, by_test, never}
use Rattle.yw_state.specs.Answers.{rises}
use Rattle.yw_state.specs.Identity.{Ident}
use Rattle.yw_state.specs.Map.{get}
use Rattle.yw_state.specs.Options.{is_some_and}
use Rattle.yw_state.specs.State.{Site, State, is_suspended, opening}
use Rattle.yw_state.specs.Well.{Stands}
use Rattle.yw_tree.specs.declared.Forest.{Forest}
use Rattle.yw_work.specs.Holds.{has_run}
use Rattle.yw_worklist.proofs.Asking.{known_listed, people_held}
use Rattle.yw_worklist.proofs.Nowhere.{no_run, none_open, none_suspended}
use Rattle.yw_worklist.specs.Lists.{AreCases, IsBlank, IsListed, IsRightAt, IsSeen, Looks, PutsSeen, StandsIn, is_marked, is_run, works_at}
use Rattle.yw_worklist.specs.Offers.{has_by, is_here}
use Rattle.yw_worklist.specs.People.{Asks, roles_in}
use Rattle.yw_worklist.specs.declared.lists.Lists.{Lists}
use Rattle.yw_worklist.specs.declared.lists.Seen.{Seen}
use Rattle.yw_worklist.specs.declared.people.People.{People}

-- ---- one identity

module _ (old new : Lists) (id : Ident) (seen : Seen) (puts : PutsSeen old new id seen) (s : State) where
  right_here : IsSeen s id seen → IsRightAt s new id
  right_here is =
      let tie : is_here id id ≡ true = tied_self by_name id in
      let mark : is_marked new id ≡ seen.suspended = puts.marks id ∙ cond-true (is_here id id) seen.suspended (is_marked old id) tie in
      let run : is_run new id ≡ seen.run = puts.runs id ∙ cond-true (is_here id id) seen.run (is_run old id) tie in
      record {
        opens = subst (AreOpens s id) (sym (puts.places.works id ∙ cond-true (is_here id id) seen.opens (works_at old id) tie)) is.opens;
        mark = mark ∙ is.mark;
        run = run ∙ is.run;
        kept = λ some. puts.places.here (sym (ap (λ b. b || is_run new id) mark ∙ ap (λ b. seen.suspended || b) run) ∙ some);
      }

  right_elsewhere : (j : Ident) → is_here id j ≡ false → IsRightAt s old j → IsRightAt s new j
  right_elsewhere j off was =
      let mark : is_marked new j ≡ is_marked old j = puts.marks j ∙ cond-false (is_here id j) seen.suspended (is_marked old j) off in
      let run : is_run new j ≡ is_run old j = puts.runs j ∙ cond-false (is_here id j) seen.run (is_run old j) off in
      record {
        opens = subst (AreOpens s j) (sym (puts.places.works j ∙ cond-false (is_here id j) seen.opens (works_at old j) off)) was.opens;
        mark = mark ∙ was.mark;
        run = run ∙ was.run;
        kept = λ some. puts.places.kept j off (was.kept (sym (ap (λ b. b || is_run new j) mark ∙ ap (λ b. is_marked old j || b) run) ∙ some));
      }

module _ (known : Holdings) (f : Forest) where
  pub looked : (old new : Lists) (id : Ident) (seen : Seen) → PutsSeen old new id seen
      → ((s : State) → IsHeldUnchosen known f s → IsSeen s id seen) → Looks known f old new (λ s j. id ≡ j)
  looked old new id seen puts sees = record {
    right = λ s j held e. by_test (is_here id j)
        (λ here. subst (IsRightAt s new) (tied by_name id j here) (right_here old new id seen puts s (sees s held)))
        (λ off. elim e [
          | inl was ↦ right_elsewhere old new id seen puts s j off was
          | inr same ↦ never (sym off ∙ ap (is_here id) (sym same) ∙ tied_self by_name id)
        ]);
    pooled = puts.pooled;
    people = puts.people;
  }

  -- ---- several

  pub none_looked : (l : Lists) (A : State → Ident → Type 0) → ((s : State) (j : Ident) → IsHeldUnchosen known f s → A s j → ⊥) → Looks known f l l A
  none_looked l A none = record {
    right = λ s j held e. elim e [ inl was ↦ was | inr there ↦ absurd (none s j held there) ];
    pooled = λ pooled. pooled;
    people = refl;
  }

  -- at those of the second test too
  pub then_looked : (old mid new : Lists) (A B C : State → Ident → Type 0) → Looks known f old mid A → Looks known f mid new B
      → ((s : State) (j : Ident) → IsHeldUnchosen known f s → C s j → A s j ⊎ B s j) → Looks known f old new C
  then_looked old mid new A B C first second splits = record {
    right = λ s j held e. second.right s j held (elim e [
      | inl was ↦ inl (first.right s j held (inl was))
      | inr there ↦ elim (splits s j held there) [
        | inl here ↦ inl (first.right s j held (inr here))
        | inr later ↦ inr later
      ]
    ]);
    pooled = λ pooled. second.pooled (first.pooled pooled);
    people = second.people ∙ first.people;
  }

  pub as_looked : (old new : Lists) (A B : State → Ident → Type 0) → Looks known f old new A
      → ((s : State) (j : Ident) → IsHeldUnchosen known f s → B s j → A s j) → Looks known f old new B
  as_looked old new A B looks implies = record {
    right = λ s j held e. looks.right s j held (elim e [ inl was ↦ inl was | inr there ↦ inr (implies s j held there) ]);
    pooled = looks.pooled;
    people = looks.people;
  }

  pub one_more_looked : (old mid new : Lists) (done : List Ident) (id : Ident) → Looks known f old mid (λ s. IsIn done) → Looks known f mid new (λ s j. id ≡ j)
      → Looks known f old new (λ s. IsIn (done ++ id ∷ []))
  one_more_looked old mid new done id first second =
      then_looked old mid new (λ s. IsIn done) (λ s j. id ≡ j) (λ s. IsIn (done ++ id ∷ [])) first second
      (λ s j held there. elim (in_one done (id ∷ []) j there) [
        | inl before ↦ inl before
        | inr last ↦ elim last [ inl same ↦ inr same | inr none ↦ absurd none ]
      ])

  -- ---- cases

  pub case_looked : (old new : Lists) (n : ℕ) (js : List Ident) → ((s : State) → IsHeldUnchosen known f s → AreAllIn s n js)
      → Looks known f old new (λ s. IsIn js) → Looks known f old new (StandsIn (n ∷ []))
  case_looked old new n js all looks =
      as_looked old new (λ s. IsIn js) (StandsIn (n ∷ [])) looks (λ s j held there. found_in js j ((all s held).all j there.0 there.1 (number there.2)))
    where
      number : {m : ℕ} → IsIn (n ∷ []) m → m ≡ n
      number (inl same) = sym same
      number (inr none) = absurd none

  pub no_case_looked : (l : Lists) (n : ℕ) → ((s : State) → IsHeldUnchosen known f s → (j : Ident) (x : Site) → Stands s j x → case_number j ≡ n → ⊥)
      → Looks known f l l (StandsIn (n ∷ []))
  no_case_looked l n none = none_looked l (StandsIn (n ∷ [])) (λ s j held there. none s held j there.0 there.1 (number there.2))
    where
      number : {m : ℕ} → IsIn (n ∷ []) m → m ≡ n
      number (inl same) = sym same
      number (inr none) = absurd none

  pub more_cases_looked : (old mid new : Lists) (cases : List ℕ) (n : ℕ) → Looks known f old mid (StandsIn cases) → Looks known f mid new (StandsIn (n ∷ []))
      → Looks known f old new (StandsIn (cases ++ n ∷ []))
  more_cases_looked old mid new cases n first second =
      then_looked old mid new (StandsIn cases) (StandsIn (n ∷ [])) (StandsIn (cases ++ n ∷ [])) first second
      (λ s j held there. elim (in_one cases (n ∷ []) (case_number j) there.2) [
        | inl before ↦ inl (there.0, there.1, before)
        | inr last ↦ inr (there.0, there.1, last)
      ])

-- ---- the lists of a state

pub same_right : (s : State) (l : Lists) (people : People) (j : Ident) → IsRightAt s l j → IsRightAt s (record l { people = people }) j
same_right s l people j is = record { opens = is.opens; mark = is.mark; run = is.run; kept = is.kept }

module _ (blank : Lists) (is : IsBlank blank) where
  no_works : (j : Ident) → works_at blank j ≡ []
  no_works j = ap (λ o. unwrap_or o []) (is.works j)

  none_kept : (a b : Bool) {A : Type 0} → a ≡ false → b ≡ false → (a || b) ≡ true → A
  none_kept true b x y e = never (sym x)
  none_kept false true x y e = never (sym y)
  none_kept false false x y e = never e

  blank_right : (s : State) (j : Ident) → get s.sites j ≡ None → IsRightAt s blank j
  blank_right s j none = record {
    opens = record {
      exact = λ o. (
        λ has. absurd (found_in [] o (subst (λ opens. Contains opens o) (no_works j) has)),
        λ open_one. absurd (none_open s j none o.task o.what o.by open_one),
      );
      named = ap (rises name_before) (no_works j);
    };
    mark = is.marks j ∙ sym (none_suspended s j none);
    run = is.runs j ∙ sym (no_run s j none);
    kept = λ some. none_kept (is_marked blank j) (is_run blank j) (is.marks j) (is.runs j) some;
  }

  pub listed_at_first : IsListed opening blank
  listed_at_first = record {
    at = λ j. blank_right opening j refl;
    pooled = λ by j. is.offers by j ∙ sym (ap (has_by by) (no_works j));
    people = is.people;
  }

  pub made_new : (known : Holdings) (f : Forest) (cases : List ℕ) (l : Lists) (people : People) → Looks known f blank l (StandsIn cases)
      → Asks known l.people people (map person_name known.persons) → (s : State) → IsHeldUnchosen known f s → AreCases s cases
      → IsListed s (record l { people = people })
  made_new known f cases l people looks asks s held all = record {
    at = λ j. same_right s l people j (looks.right s j held (by_option (get s.sites j)
        (λ none. inl (blank_right s j none))
        (λ x stands. inr (x, stands, all j x stands))));
    pooled = looks.pooled (λ by j. is.offers by j ∙ sym (ap (has_by by) (no_works j)));
    people = λ who. asks.right who (elim (known_listed known who) [
      | inl none ↦ inl (ap (λ p. roles_in p who) looks.people ∙ is.people who ∙ sym none)
      | inr named ↦ inr named
    ]) ∙ people_held known f s held.held who;
  }

-- ---- what is seen

pub marks_are : (s : State) (j : Ident) (x : Site) → get s.sites j ≡ Some x → (x.suspended ≡ is_suspended s j) × (is_some x.run ≡ has_run s j)
marks_are s j x stands = (
  sym (ap (λ o. is_some_and o (λ (y : Site). y.suspended)) stands),
  sym (ap (λ o. is_some (option_and_then (λ (y : Site). y.run) o)) stands),
)

pub lent_more : (bs : List (Bor Ident)) (i : ℕ) (b : Bor Ident) → i < length bs → b ≡ get_or bs i b → lent (take (i + 1) bs) ≡ lent (take i bs) ++ b.now ∷ []
lent_more bs i b lt at =
    ap lent (take_more bs i b lt ∙ ap (λ z. take i bs ++ z ∷ []) (sym at)) ∙ map-append (λ (z : Bor Ident). z.now) (take i bs) (b ∷ [])
