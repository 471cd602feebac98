-- Nothing comes of itself at an identity where work is held, or where the case isn't at its end, the item doesn't go on, and no task is left or
-- entered; a case is quiet where nothing comes of itself at each.
use Rattle.std.proofs.Common.{Bool, Bor, List, None, Option, Some, [], ap, false, inl, inr, length, refl, slice_index_or, subst, sym, true, ℕ, ◌<◌, ◌∙◌, ◌∷◌, ◌≡◌}
use Rattle.std.proofs.lemmas.List.Elements.{All-cons, All-contains, All-get_or, All-head, All-nil, All-tail}
use Rattle.std.specs.List.{All}
use Rattle.std.specs.Prelude.{MatchOption, not, ◌&&◌}
use Rattle.yw_idents.proofs.Listed.{all_listed, none_stands}
use Rattle.yw_idents.specs.Idents.{AreAllIn, idents_of, lent}
use Rattle.yw_idle.specs.Idle.{IsIdle, RestsAll, compensation_would_end, item_would_go_on}
use Rattle.yw_library.specs.Held.{IsHeld}
use Rattle.yw_library.specs.Names.{names_of}
use Rattle.yw_library.specs.Holdings.{Holdings}
use Rattle.yw_state.proofs.Tests.{never}
use Rattle.yw_state.specs.Automatic.{IsQuiet}
use Rattle.yw_state.specs.Identity.{Ident, is_case_ident}
use Rattle.yw_base.specs.Identity.{case_number}
use Rattle.yw_state.specs.Joins.{at_output}
use Rattle.yw_state.specs.State.{Site, State}
use Rattle.yw_state.specs.Well.{Stands}
use Rattle.yw_state.specs.Words.{busy, clear, held, urgent}
use Rattle.yw_still.specs.Still.{case_ends, item_goes_on}
use Rattle.yw_tree.specs.Cases.{case_at}
use Rattle.yw_tree.specs.Entries.{case_entries}
use Rattle.yw_tree.specs.declared.Case.{Case}
use Rattle.yw_tree.specs.declared.Forest.{Forest}
use Rattle.yw_walk.proofs.Calm.{rests_quiet}
use Rattle.yw_walk.specs.Finds.{FindsAmong, FindsAt, FindsFinish, FindsItemOrTasks, FindsNext, FindsStep, FindsTasks, IsAtEnd, IsFound, IsFreeAt, NoneEntered, NoneLeft, Rests, StandsCalm}
use Rattle.yw_walk.specs.declared.found.Found.{Found}

-- ---- a test less, which holds

case_would : (i c b o : Bool) → c ≡ true → (i && c && b && o) ≡ false → (i && b && o) ≡ false
case_would true true b o free e = e
case_would true false b o free e = never free
case_would false c b o free e = refl

would_leave_so : (c a p q : Bool) → c ≡ true → (c && a && p && q) ≡ false → (a && p && q) ≡ false
would_leave_so true a p q free e = e
would_leave_so false a p q free e = never free

would_enter_so : (m c a h r : Bool) → c ≡ true → (m && (a && h && r)) ≡ true → (m && (c && a && h && r)) ≡ true
would_enter_so m true a h r free e = e
would_enter_so m false a h r free e = never free

-- ---- an identity

idle_there : (s : State) (j : Ident) → clear s j ≡ true → compensation_would_end s j ≡ false → case_ends s j ≡ false → item_goes_on s j ≡ false
    → NoneLeft s j → NoneEntered s j → IsIdle s j
idle_there s j free compensation case item left entered =
    record {
      compensation = compensation;
      item = sym (ap (λ b. b && item_would_go_on s j) free) ∙ item;
      case = case_would (is_case_ident j) (clear s j) (not (busy s j)) (at_output s j) free case;
      left = λ k x is. would_leave_so (clear s j) _ _ _ free (left k x is);
      entered = λ k x is would. entered k x is (would_enter_so _ (clear s j) _ _ _ free would);
    }

module _ (known : Holdings) (f : Forest) (next : ℕ) (j : Ident) (s : State) (w : StandsCalm known f next (case_number j) s) where
  -- work is held there
  pub parked_there : held s j ≡ true → Rests s j
  parked_there is = inr (record { held = is; compensation = w.compensation j refl })

  -- or it isn't
  pub free_there : held s j ≡ false → IsFreeAt known f next j s
  free_there none =
      record {
        held = w.held;
        free = ap (λ b. not b && not (urgent s (case_number j))) none ∙ ap not w.calm;
        manual = w.manual;
        drawn = w.drawn;
      }

module _ (known : Holdings) (f : Forest) (j : Ident) (next : ℕ) (ends : Bool) where
  -- where the item doesn't go on, by the tasks
  pub below_there : IsAtEnd known f j ends → FindsStep known f j ends None → (o : Option Found) → FindsTasks known f j next o
      → FindsItemOrTasks known f j next o
  below_there out step None tasks = λ s w. let t = tasks s w in (step s w.held w.free (out s w.held), t.0, t.1)
  below_there out step (Some e) tasks = λ s w. tasks s w

  -- and where no work is held and the case isn't at its end, by what is below
  pub at_there : IsAtEnd known f j ends → ((s : State) → IsHeld known f s → held s j ≡ false) → FindsFinish known f j ends None → (o : Option Found)
      → FindsItemOrTasks known f j next o → FindsAt known f j next o
  at_there out none finish None below = λ s w.
      let it = free_there known f next j s w (none s w.held) in
      let b = below s it in
      inl (idle_there s j it.free (w.compensation j refl) (finish s w.held it.free (out s w.held)) b.0 b.1 b.2)
  at_there out none finish (Some e) below = λ s w. below s (free_there known f next j s w (none s w.held))

-- ---- identities of a case

all_lent : (P : Ident → Type 0) (items : List (Bor Ident)) → All P (lent items) → All (λ (b : Bor Ident). P b.now) items
all_lent P [] all = All-nil (λ (b : Bor Ident). P b.now)
all_lent P (x ∷ items) all =
    All-cons (λ (b : Bor Ident). P b.now) x items (All-head P x.now (lent items) all) (all_lent P items (All-tail P x.now (lent items) all))

module _ (n : ℕ) (items : List (Bor Ident)) (i : ℕ) (id : Bor Ident) (less : i < length items) (at : id ≡ slice_index_or items i id)
    (are : All (λ j. case_number j ≡ n) (lent items)) where
  in_case : case_number id.now ≡ n
  in_case =
      subst (λ (b : Bor Ident). case_number b.now ≡ n) (sym at)
      (All-get_or (λ (b : Bor Ident). case_number b.now ≡ n) items i id less (all_lent (λ j. case_number j ≡ n) items are))

  -- what is found at one of them is found in the case
  pub at_one : (known : Holdings) (f : Forest) (next : ℕ) (s : State) → StandsCalm known f next n s → (o : Option Found)
      → FindsAt known f id.now next o → MatchOption o (Rests s id.now) (IsFound s n)
  at_one known f next s w o finds =
      subst (λ k. MatchOption o (Rests s id.now) (IsFound s k)) in_case (finds s (subst (λ k. StandsCalm known f next k s) (sym in_case) w))

-- ---- a case

all_rest : (s : State) (n : ℕ) → urgent s n ≡ false → (js : List Ident) → AreAllIn s n js → All (Rests s) js → RestsAll s n × IsQuiet s n
all_rest s n calm js are rest =
    let rests : RestsAll s n = λ j x stands is. All-contains (Rests s) js j rest (are.all j x stands is) in
    (rests, rests_quiet s n calm rests)

none_rest : (s : State) (n : ℕ) → urgent s n ≡ false → ((j : Ident) (x : Site) → Stands s j x → case_number j ≡ n → ⊥) → RestsAll s n × IsQuiet s n
none_rest s n calm none =
    let rests : RestsAll s n = λ j x stands is. absurd (none j x stands is) in
    (rests, rests_quiet s n calm rests)

module _ (known : Holdings) (f : Forest) (n next : ℕ) where
  listed : (s : State) → IsHeld known f s → (c : Case) → Some c ≡ case_at n f.cases → (js : List Ident)
      → ((names : ℕ → List ℕ) → js ≡ idents_of (case_entries names c)) → AreAllIn s n js
  listed s h c at js are =
      subst (AreAllIn s n) (sym (are (names_of known))) (all_listed (names_of known) f h.boxed s h.sites n c (sym at))

  -- by a look at each identity that stands in the case
  pub next_there : (c : Case) → Some c ≡ case_at n f.cases → (js : List Ident)
      → ((names : ℕ → List ℕ) → js ≡ idents_of (case_entries names c)) → (o : Option Found)
      → FindsAmong known f n js next o → FindsNext known f n next o
  next_there c at js are None among = λ s w.
      let in_it = listed s w.held c at js are in
      all_rest s n w.calm js in_it (among s w in_it.of_case)
  next_there c at js are (Some e) among = λ s w. among s w (listed s w.held c at js are).of_case

  pub no_case_there : None ≡ case_at n f.cases → FindsNext known f n next None
  no_case_there at = λ s w. none_rest s n w.calm (none_stands (names_of known) f w.held.boxed s w.held.sites n (sym at))
