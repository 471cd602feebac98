-- Each line of the case of two tasks, with the events that answer it.
use Rattle.std.specs.Prelude.{◌≤◌, ℕ, [], ◌∷◌, length, None, codes, refl}
use Rattle.std.proofs.Common.{arith}
use Rattle.yw_rows.proofs.Answered.{of_row}
use Rattle.yw_rows.proofs.Refused as refused
use Rattle.yw_rows.proofs.Resting.{IsStill}
use Rattle.yw_rows.specs.Asked.{AnsweredThen}
use Rattle.yw_rows.specs.Play.{Then, begun, no_reader}
use Rattle.yw_rows.specs.Seq.{seq_row}
use Rattle.yw_spec.specs.declared.spec.Place.TheVariants.{Between, Named}
use Rattle.yw_state.specs.Allowed.{Allowed, allows}
use Rattle.yw_state.specs.Automatic.{ComeAll, after_each}
use Rattle.yw_state.specs.Broken.{Breaks, checks}
use Rattle.yw_state.specs.Events.{after}
use Rattle.yw_state.specs.Legal.{IsAsked, budget}
use Rattle.yw_state.specs.Texts.{Says, nothing}
use Rattle.yw_state.specs.declared.command.Command.TheVariants as commands
use Rattle.yw_state.specs.declared.event.Event.TheVariants as events

none_behind : length {A = ℕ} [] ≤ budget
none_behind = omega arith

launch_unbroken : Then seq_row 2 (λ s. Breaks no_reader s (commands.Launch (codes "seq") []) None)
unfolding allows after checks IsAsked
launch_unbroken = refl

launch_asked : Then seq_row 2 (λ s. IsAsked no_reader s (commands.Launch (codes "seq") []) (events.Launch 1 (codes "seq") []))
unfolding allows after checks IsAsked
launch_asked = refl

launch_allowed : Then seq_row 2 (λ s. Allowed s (events.Launch 1 (codes "seq") []) nothing)
unfolding allows after checks IsAsked
launch_allowed = (refl, tt)

launch_come : Then seq_row 2 (λ s. ComeAll (after s (events.Launch 1 (codes "seq") []) nothing) 1 [])
unfolding allows after checks IsAsked
launch_come = tt

launch_still : Then seq_row 2 (λ s. IsStill (after_each (after s (events.Launch 1 (codes "seq") []) nothing) []))
unfolding allows after checks IsAsked
launch_still = record { sites = refl; rules = refl }

launch_says : Then seq_row 2 (λ s. Says no_reader s (events.Launch 1 (codes "seq") []) nothing)
unfolding allows after checks IsAsked
launch_says = refl

pub launch : AnsweredThen seq_row 2 (commands.Launch (codes "seq") []) (events.Launch 1 (codes "seq") []) []
launch = of_row (begun seq_row 2) 1 (commands.Launch (codes "seq") []) (events.Launch 1 (codes "seq") []) [] launch_unbroken launch_asked launch_says launch_allowed refl launch_come (omega arith) launch_still

enter_a_rests : Then seq_row 3 IsStill
unfolding allows after checks IsAsked
enter_a_rests = record { sites = refl; rules = refl }

enter_a_unbroken : Then seq_row 3 (λ s. Breaks no_reader s (commands.Enter (codes "ann") (1 ∷ []) (codes "a")) None)
unfolding allows after checks IsAsked
enter_a_unbroken = refused.enter (begun seq_row 3) (codes "ann") (1 ∷ []) (codes "a") None enter_a_rests refl refl

enter_a_asked : Then seq_row 3 (λ s. IsAsked no_reader s (commands.Enter (codes "ann") (1 ∷ []) (codes "a")) (events.Enter (1 ∷ []) (codes "a") (Named (codes "i") ∷ []) 2 1))
unfolding allows after checks IsAsked
enter_a_asked = (Named (codes "i") ∷ [], refl)

enter_a_allowed : Then seq_row 3 (λ s. Allowed s (events.Enter (1 ∷ []) (codes "a") (Named (codes "i") ∷ []) 2 1) nothing)
unfolding allows after checks IsAsked
enter_a_allowed = refused.enters (begun seq_row 3) (1 ∷ []) (codes "a") (Named (codes "i") ∷ []) 2 1 refl refl

enter_a_come : Then seq_row 3 (λ s. ComeAll (after s (events.Enter (1 ∷ []) (codes "a") (Named (codes "i") ∷ []) 2 1) nothing) 1 [])
unfolding allows after checks IsAsked
enter_a_come = tt

enter_a_still : Then seq_row 3 (λ s. IsStill (after_each (after s (events.Enter (1 ∷ []) (codes "a") (Named (codes "i") ∷ []) 2 1) nothing) []))
unfolding allows after checks IsAsked
enter_a_still = record { sites = refl; rules = refl }

enter_a_says : Then seq_row 3 (λ s. Says no_reader s (events.Enter (1 ∷ []) (codes "a") (Named (codes "i") ∷ []) 2 1) nothing)
unfolding allows after checks IsAsked
enter_a_says = refl

pub enter_a : AnsweredThen seq_row 3 (commands.Enter (codes "ann") (1 ∷ []) (codes "a")) (events.Enter (1 ∷ []) (codes "a") (Named (codes "i") ∷ []) 2 1) []
enter_a = of_row (begun seq_row 3) 1 (commands.Enter (codes "ann") (1 ∷ []) (codes "a")) (events.Enter (1 ∷ []) (codes "a") (Named (codes "i") ∷ []) 2 1) [] enter_a_unbroken enter_a_asked enter_a_says enter_a_allowed refl enter_a_come (omega arith) enter_a_still

start_a_rests : Then seq_row 4 IsStill
unfolding allows after checks IsAsked
start_a_rests = record { sites = refl; rules = refl }

start_a_unbroken : Then seq_row 4 (λ s. Breaks no_reader s (commands.Start (codes "ann") (1 ∷ 2 ∷ [])) None)
unfolding allows after checks IsAsked
start_a_unbroken = refused.start (begun seq_row 4) (codes "ann") (1 ∷ 2 ∷ []) None start_a_rests refl

start_a_asked : Then seq_row 4 (λ s. IsAsked no_reader s (commands.Start (codes "ann") (1 ∷ 2 ∷ [])) (events.Start (1 ∷ 2 ∷ []) (codes "ann")))
unfolding allows after checks IsAsked
start_a_asked = refl

start_a_allowed : Then seq_row 4 (λ s. Allowed s (events.Start (1 ∷ 2 ∷ []) (codes "ann")) nothing)
unfolding allows after checks IsAsked
start_a_allowed = (refl, tt)

start_a_come : Then seq_row 4 (λ s. ComeAll (after s (events.Start (1 ∷ 2 ∷ []) (codes "ann")) nothing) 1 [])
unfolding allows after checks IsAsked
start_a_come = tt

start_a_still : Then seq_row 4 (λ s. IsStill (after_each (after s (events.Start (1 ∷ 2 ∷ []) (codes "ann")) nothing) []))
unfolding allows after checks IsAsked
start_a_still = record { sites = refl; rules = refl }

start_a_says : Then seq_row 4 (λ s. Says no_reader s (events.Start (1 ∷ 2 ∷ []) (codes "ann")) nothing)
unfolding allows after checks IsAsked
start_a_says = refl

pub start_a : AnsweredThen seq_row 4 (commands.Start (codes "ann") (1 ∷ 2 ∷ [])) (events.Start (1 ∷ 2 ∷ []) (codes "ann")) []
start_a = of_row (begun seq_row 4) 1 (commands.Start (codes "ann") (1 ∷ 2 ∷ [])) (events.Start (1 ∷ 2 ∷ []) (codes "ann")) [] start_a_unbroken start_a_asked start_a_says start_a_allowed refl start_a_come (omega arith) start_a_still

complete_a_rests : Then seq_row 5 IsStill
unfolding allows after checks IsAsked
complete_a_rests = record { sites = refl; rules = refl }

complete_a_unbroken : Then seq_row 5 (λ s. Breaks no_reader s (commands.Complete (codes "ann") (1 ∷ 2 ∷ []) []) None)
unfolding allows after checks IsAsked
complete_a_unbroken = refused.complete (begun seq_row 5) (codes "ann") (1 ∷ 2 ∷ []) [] None complete_a_rests refl

complete_a_asked : Then seq_row 5 (λ s. IsAsked no_reader s (commands.Complete (codes "ann") (1 ∷ 2 ∷ []) []) (events.Complete (1 ∷ 2 ∷ []) []))
unfolding allows after checks IsAsked
complete_a_asked = refl

complete_a_allowed : Then seq_row 5 (λ s. Allowed s (events.Complete (1 ∷ 2 ∷ []) []) nothing)
unfolding allows after checks IsAsked
complete_a_allowed = (refl, tt)

complete_a_come : Then seq_row 5 (λ s. ComeAll (after s (events.Complete (1 ∷ 2 ∷ []) []) nothing) 1 (events.Exit (1 ∷ []) (codes "a") (Between (codes "a") (codes "b") ∷ []) ∷ []))
unfolding allows after checks IsAsked
complete_a_come = (record { here = refl; automatic = refl; allowed = (refl, tt) }, tt)

complete_a_still : Then seq_row 5 (λ s. IsStill (after_each (after s (events.Complete (1 ∷ 2 ∷ []) []) nothing) (events.Exit (1 ∷ []) (codes "a") (Between (codes "a") (codes "b") ∷ []) ∷ [])))
unfolding allows after checks IsAsked
complete_a_still = record { sites = refl; rules = refl }

complete_a_says : Then seq_row 5 (λ s. Says no_reader s (events.Complete (1 ∷ 2 ∷ []) []) nothing)
unfolding allows after checks IsAsked
complete_a_says = refl

pub complete_a : AnsweredThen seq_row 5 (commands.Complete (codes "ann") (1 ∷ 2 ∷ []) []) (events.Complete (1 ∷ 2 ∷ []) []) (events.Exit (1 ∷ []) (codes "a") (Between (codes "a") (codes "b") ∷ []) ∷ [])
complete_a = of_row (begun seq_row 5) 1 (commands.Complete (codes "ann") (1 ∷ 2 ∷ []) []) (events.Complete (1 ∷ 2 ∷ []) []) (events.Exit (1 ∷ []) (codes "a") (Between (codes "a") (codes "b") ∷ []) ∷ []) complete_a_unbroken complete_a_asked complete_a_says complete_a_allowed refl complete_a_come (omega arith) complete_a_still

enter_b_rests : Then seq_row 6 IsStill
unfolding allows after checks IsAsked
enter_b_rests = record { sites = refl; rules = refl }

enter_b_unbroken : Then seq_row 6 (λ s. Breaks no_reader s (commands.Enter (codes "ann") (1 ∷ []) (codes "b")) None)
unfolding allows after checks IsAsked
enter_b_unbroken = refused.enter (begun seq_row 6) (codes "ann") (1 ∷ []) (codes "b") None enter_b_rests refl refl

enter_b_asked : Then seq_row 6 (λ s. IsAsked no_reader s (commands.Enter (codes "ann") (1 ∷ []) (codes "b")) (events.Enter (1 ∷ []) (codes "b") (Between (codes "a") (codes "b") ∷ []) 3 1))
unfolding allows after checks IsAsked
enter_b_asked = (Between (codes "a") (codes "b") ∷ [], refl)

enter_b_allowed : Then seq_row 6 (λ s. Allowed s (events.Enter (1 ∷ []) (codes "b") (Between (codes "a") (codes "b") ∷ []) 3 1) nothing)
unfolding allows after checks IsAsked
enter_b_allowed = refused.enters (begun seq_row 6) (1 ∷ []) (codes "b") (Between (codes "a") (codes "b") ∷ []) 3 1 refl refl

enter_b_come : Then seq_row 6 (λ s. ComeAll (after s (events.Enter (1 ∷ []) (codes "b") (Between (codes "a") (codes "b") ∷ []) 3 1) nothing) 1 [])
unfolding allows after checks IsAsked
enter_b_come = tt

enter_b_still : Then seq_row 6 (λ s. IsStill (after_each (after s (events.Enter (1 ∷ []) (codes "b") (Between (codes "a") (codes "b") ∷ []) 3 1) nothing) []))
unfolding allows after checks IsAsked
enter_b_still = record { sites = refl; rules = refl }

enter_b_says : Then seq_row 6 (λ s. Says no_reader s (events.Enter (1 ∷ []) (codes "b") (Between (codes "a") (codes "b") ∷ []) 3 1) nothing)
unfolding allows after checks IsAsked
enter_b_says = refl

pub enter_b : AnsweredThen seq_row 6 (commands.Enter (codes "ann") (1 ∷ []) (codes "b")) (events.Enter (1 ∷ []) (codes "b") (Between (codes "a") (codes "b") ∷ []) 3 1) []
enter_b = of_row (begun seq_row 6) 1 (commands.Enter (codes "ann") (1 ∷ []) (codes "b")) (events.Enter (1 ∷ []) (codes "b") (Between (codes "a") (codes "b") ∷ []) 3 1) [] enter_b_unbroken enter_b_asked enter_b_says enter_b_allowed refl enter_b_come (omega arith) enter_b_still

start_b_rests : Then seq_row 7 IsStill
unfolding allows after checks IsAsked
start_b_rests = record { sites = refl; rules = refl }

start_b_unbroken : Then seq_row 7 (λ s. Breaks no_reader s (commands.Start (codes "ann") (1 ∷ 3 ∷ [])) None)
unfolding allows after checks IsAsked
start_b_unbroken = refused.start (begun seq_row 7) (codes "ann") (1 ∷ 3 ∷ []) None start_b_rests refl

start_b_asked : Then seq_row 7 (λ s. IsAsked no_reader s (commands.Start (codes "ann") (1 ∷ 3 ∷ [])) (events.Start (1 ∷ 3 ∷ []) (codes "ann")))
unfolding allows after checks IsAsked
start_b_asked = refl

start_b_allowed : Then seq_row 7 (λ s. Allowed s (events.Start (1 ∷ 3 ∷ []) (codes "ann")) nothing)
unfolding allows after checks IsAsked
start_b_allowed = (refl, tt)

start_b_come : Then seq_row 7 (λ s. ComeAll (after s (events.Start (1 ∷ 3 ∷ []) (codes "ann")) nothing) 1 [])
unfolding allows after checks IsAsked
start_b_come = tt

start_b_still : Then seq_row 7 (λ s. IsStill (after_each (after s (events.Start (1 ∷ 3 ∷ []) (codes "ann")) nothing) []))
unfolding allows after checks IsAsked
start_b_still = record { sites = refl; rules = refl }

start_b_says : Then seq_row 7 (λ s. Says no_reader s (events.Start (1 ∷ 3 ∷ []) (codes "ann")) nothing)
unfolding allows after checks IsAsked
start_b_says = refl

pub start_b : AnsweredThen seq_row 7 (commands.Start (codes "ann") (1 ∷ 3 ∷ [])) (events.Start (1 ∷ 3 ∷ []) (codes "ann")) []
start_b = of_row (begun seq_row 7) 1 (commands.Start (codes "ann") (1 ∷ 3 ∷ [])) (events.Start (1 ∷ 3 ∷ []) (codes "ann")) [] start_b_unbroken start_b_asked start_b_says start_b_allowed refl start_b_come (omega arith) start_b_still

complete_b_rests : Then seq_row 8 IsStill
unfolding allows after checks IsAsked
complete_b_rests = record { sites = refl; rules = refl }

complete_b_unbroken : Then seq_row 8 (λ s. Breaks no_reader s (commands.Complete (codes "ann") (1 ∷ 3 ∷ []) []) None)
unfolding allows after checks IsAsked
complete_b_unbroken = refused.complete (begun seq_row 8) (codes "ann") (1 ∷ 3 ∷ []) [] None complete_b_rests refl

complete_b_asked : Then seq_row 8 (λ s. IsAsked no_reader s (commands.Complete (codes "ann") (1 ∷ 3 ∷ []) []) (events.Complete (1 ∷ 3 ∷ []) []))
unfolding allows after checks IsAsked
complete_b_asked = refl

complete_b_allowed : Then seq_row 8 (λ s. Allowed s (events.Complete (1 ∷ 3 ∷ []) []) nothing)
unfolding allows after checks IsAsked
complete_b_allowed = (refl, tt)

complete_b_come : Then seq_row 8 (λ s. ComeAll (after s (events.Complete (1 ∷ 3 ∷ []) []) nothing) 1 (events.Exit (1 ∷ []) (codes "b") (Named (codes "o") ∷ []) ∷ events.Finish 1 ∷ []))
unfolding allows after checks IsAsked
complete_b_come = (record { here = refl; automatic = refl; allowed = (refl, tt) }, (record { here = refl; automatic = refl; allowed = (refl, tt) }, tt))

complete_b_still : Then seq_row 8 (λ s. IsStill (after_each (after s (events.Complete (1 ∷ 3 ∷ []) []) nothing) (events.Exit (1 ∷ []) (codes "b") (Named (codes "o") ∷ []) ∷ events.Finish 1 ∷ [])))
unfolding allows after checks IsAsked
complete_b_still = record { sites = refl; rules = refl }

complete_b_says : Then seq_row 8 (λ s. Says no_reader s (events.Complete (1 ∷ 3 ∷ []) []) nothing)
unfolding allows after checks IsAsked
complete_b_says = refl

pub complete_b : AnsweredThen seq_row 8 (commands.Complete (codes "ann") (1 ∷ 3 ∷ []) []) (events.Complete (1 ∷ 3 ∷ []) []) (events.Exit (1 ∷ []) (codes "b") (Named (codes "o") ∷ []) ∷ events.Finish 1 ∷ [])
complete_b = of_row (begun seq_row 8) 1 (commands.Complete (codes "ann") (1 ∷ 3 ∷ []) []) (events.Complete (1 ∷ 3 ∷ []) []) (events.Exit (1 ∷ []) (codes "b") (Named (codes "o") ∷ []) ∷ events.Finish 1 ∷ []) complete_b_unbroken complete_b_asked complete_b_says complete_b_allowed refl complete_b_come (omega arith) complete_b_still
