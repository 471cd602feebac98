-- It can't be that what comes of itself never ends: after each event the case is quiet, or one more comes, until the budget is spent.
use Rattle.std.specs.Prelude.{◌≡◌, ◌≤◌, ℕ, zero, suc, ◌+◌, List, [], ◌∷◌, ◌++◌, length, true, false, refl}
use Rattle.std.proofs.Common.{arith}
use Rattle.std.proofs.lemmas.List.{length-append}
use Rattle.yw_texts.proofs.Lacking.{here}
use Rattle.yw_texts.specs.Lacking.{CannotLack}
use Rattle.yw_state.proofs.Tests.{never}
use Rattle.yw_state.specs.Automatic.{ComeAll, Comes, IsQuiet, after_each}
use Rattle.yw_state.specs.Events.{after}
use Rattle.yw_state.specs.Legal.{budget}
use Rattle.yw_state.specs.State.{State}
use Rattle.yw_state.specs.Texts.{nothing}
use Rattle.yw_state.specs.declared.event.Event.{Event}
use Rattle.yw_turns.specs.Turns.{HasTurns}

-- ---- one event more

pub come_more : (s : State) (n : ℕ) (es : List Event) (e : Event) → ComeAll s n es → Comes (after_each s es) n e → ComeAll s n (es ++ e ∷ [])
come_more s n [] e come more = (more, tt)
come_more s n (d ∷ es) e come more = (come.0, come_more (after s d nothing) n es e come.1 more)

-- ---- the end

module _ (s : State) (n : ℕ) (es : List Event) (come : ComeAll s n es) (within : length es ≤ budget) where
  ends_quiet : IsQuiet (after_each s es) n → HasTurns s n
  ends_quiet quiet = (es, true, after_each s es, record { come = come; then = refl; within = within; is_quiet = (λ e. quiet, λ q. refl); spent = λ e. cc })

  ends_spent : length es ≡ budget → (IsQuiet (after_each s es) n → ⊥) → HasTurns s n
  ends_spent full moving = (es, false, after_each s es, record { come = come; then = refl; within = within; is_quiet = (λ e. never e, λ q. absurd (moving q)); spent = λ e. full })

-- something holds or it doesn't
either_way : {A : Type 0} (P : Type 0) → (P → CannotLack A) → ((P → ⊥) → CannotLack A) → CannotLack A
either_way P holds fails = λ none. fails (λ p. holds p none) none

one_longer : (es : List Event) (e : Event) (left : ℕ) → length es + suc left ≡ budget → length (es ++ e ∷ []) + left ≡ budget
one_longer es e left whole = let longer = length-append es (e ∷ []) in omega (arith, whole, longer)

-- so many events are left to the budget
goes_on : (s : State) (n : ℕ) (es : List Event) (left : ℕ) → ComeAll s n es → length es + left ≡ budget → CannotLack (HasTurns s n)
goes_on s n es zero come whole =
    let full : length es ≡ budget = omega (arith, whole) in
    either_way (IsQuiet (after_each s es) n)
    (λ quiet. here (ends_quiet s n es come (omega (arith, full)) quiet))
    (λ moving. here (ends_spent s n es come (omega (arith, full)) full moving))
goes_on s n es (suc left) come whole =
    either_way (IsQuiet (after_each s es) n)
    (λ quiet. here (ends_quiet s n es come (omega (arith, whole)) quiet))
    (λ moving none. moving (λ e comes. goes_on s n (es ++ e ∷ []) left (come_more s n es e come comes) (one_longer es e left whole) none))

pub turns_end : (s : State) (n : ℕ) → CannotLack (HasTurns s n)
turns_end s n = goes_on s n [] budget tt (omega arith)
