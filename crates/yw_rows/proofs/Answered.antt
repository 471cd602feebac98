-- A line is answered by an event of its own and those behind it.
use Rattle.std.specs.Prelude.{◌≡◌, ◌≤◌, ℕ, true, List, [], ◌∷◌, length, Option, Some, None, refl}
use Rattle.std.proofs.Common.{subst, sym}
use Rattle.yw_rows.proofs.Quiet.{rests}
use Rattle.yw_rows.proofs.Resting.{IsStill, clash}
use Rattle.yw_rows.specs.Play.{OfSome, no_reader}
use Rattle.yw_state.specs.Allowed.{Allowed}
use Rattle.yw_state.specs.Automatic.{ComeAll, IsQuiet, after_each, case_of}
use Rattle.yw_state.specs.Broken.{Breaks}
use Rattle.yw_state.specs.Events.{after}
use Rattle.yw_state.specs.Legal.{IsAsked, IsLegal, budget}
use Rattle.yw_state.specs.State.{State}
use Rattle.yw_state.specs.Texts.{Says, nothing}
use Rattle.yw_state.specs.declared.command.Command.{Command}
use Rattle.yw_state.specs.declared.event.Event.{Event}

-- in the words of the entry: what follows is of the event's case, and that is quiet
abbrev Followed : State → Option ℕ → List Event → Type 0
Followed s None es = es ≡ []
Followed s (Some n) es = ComeAll s n es

abbrev IsQuietThen : State → Option ℕ → Type 0
IsQuietThen s None = Unit {0}
IsQuietThen s (Some n) = IsQuiet s n

quiet_then : (s : State) → IsStill s → (m : Option ℕ) → IsQuietThen s m
quiet_then s still None = tt
quiet_then s still (Some n) = rests s still n

answers : (s : State) (n : ℕ) (c : Command) (e : Event) (es : List Event) → Breaks no_reader s c None → IsAsked no_reader s c e → Says no_reader s e nothing
    → Allowed s e nothing → case_of e ≡ Some n → ComeAll (after s e nothing) n es → length es ≤ budget → IsStill (after_each (after s e nothing) es)
    → IsLegal no_reader s c (e ∷ es) true (after_each (after s e nothing) es)
answers s n c e es unbroken asked says allowed here come within still =
    record {
      unbroken = unbroken;
      first = e;
      others = es;
      in_order = refl;
      asked = asked;
      mid = after s e nothing;
      leads = record { said = nothing; says = says; allowed = allowed; then = refl };
      follow = subst (λ (m : Option ℕ). Followed (after s e nothing) m es) (sym here) come;
      then = refl;
      within = within;
      is_quiet = (λ yes. quiet_then (after_each (after s e nothing) es) still (case_of e), λ quiet. refl);
      spent = λ not_quiet. absurd (clash true (sym not_quiet) refl);
    }

-- the same in the state that a row leads to
pub of_row : (o : Option State) (n : ℕ) (c : Command) (e : Event) (es : List Event) → OfSome o (λ s. Breaks no_reader s c None)
    → OfSome o (λ s. IsAsked no_reader s c e) → OfSome o (λ s. Says no_reader s e nothing) → OfSome o (λ s. Allowed s e nothing) → case_of e ≡ Some n
    → OfSome o (λ s. ComeAll (after s e nothing) n es) → length es ≤ budget → OfSome o (λ s. IsStill (after_each (after s e nothing) es))
    → OfSome o (λ s. IsLegal no_reader s c (e ∷ es) true (after_each (after s e nothing) es))
of_row None n c e es unbroken asked says allowed here come within still = unbroken
of_row (Some s) n c e es unbroken asked says allowed here come within still = answers s n c e es unbroken asked says allowed here come within still
