-- The laws of what an event leaves as it was.
use Rattle.std.specs.Prelude.{ℕ, ◌≡◌, Bool, List, Some, None, refl, IsTrue}
use Rattle.std.proofs.Common.{sym, arith}
use Rattle.yw_state.specs.After.{add_rule, load}
use Rattle.yw_state.specs.Allowed.{Allowed, allows}
use Rattle.yw_state.specs.Apart.{SameElsewhere, SameCases}
use Rattle.yw_state.specs.Automatic.{case_of}
use Rattle.yw_state.specs.Events.{after}
use Rattle.yw_state.specs.State.{State}
use Rattle.yw_state.specs.Texts.{Said, nothing, a_spec, a_test}
use Rattle.yw_state.specs.Well.{NumbersFit, ParentsStand}
use Rattle.yw_state.specs.declared.event.Event.{Event}
use Rattle.yw_state.specs.declared.event.Event.TheVariants as events
use Rattle.yw_state.specs.declared.tree.Conclusion.{Conclusion}
use Rattle.yw_state.specs.declared.tree.TreePlace.{TreePlace}
use Rattle.yw_state.proofs.Elsewhere.{IsPlaced, elsewhere}
use Rattle.yw_state.proofs.Tests.{nowhere}
use Rattle.yw_state.proofs.Standing.{case_from_one, run_is_long}

placed : (s : State) (e : Event) (said : Said) → ParentsStand s → IsTrue (allows s e said) → IsPlaced e
unfolding allows
placed s (events.Prim r p) said parents ok = run_is_long s r _ parents ok
placed s e said parents ok = tt

pub leaves_other_cases : (n : ℕ) (s : State) (e : Event) (said : Said) → NumbersFit s → ParentsStand s → Allowed s e said → case_of e ≡ Some n → SameElsewhere n s (after s e said)
leaves_other_cases n s e said numbers parents ok is =
    let least = case_from_one s e said n numbers ok.0 is in
    elsewhere n (λ none. omega arith) s e said (placed s e said parents ok.0) is

loads_apart : (s : State) (name text : List ℕ) (said : Said) → SameCases s (load s name text said)
loads_apart s name text nothing = record { sites = refl; ended = refl; next = refl }
loads_apart s name text (a_spec spec) = record { sites = refl; ended = refl; next = refl }
loads_apart s name text (a_test test) = record { sites = refl; ended = refl; next = refl }

adds_apart : (s : State) (p : TreePlace) (at : ℕ) (side : Bool) (when : List ℕ) (conclusion : Conclusion) (said : Said) → SameCases s (add_rule s p at side when conclusion said)
adds_apart s p at side when conclusion nothing = record { sites = refl; ended = refl; next = refl }
adds_apart s p at side when conclusion (a_spec spec) = record { sites = refl; ended = refl; next = refl }
adds_apart s p at side when conclusion (a_test test) = record { sites = refl; ended = refl; next = refl }

pub leaves_cases : (s : State) (e : Event) (said : Said) → case_of e ≡ None → SameCases s (after s e said)
unfolding after
leaves_cases s (events.Person name roles) said is = record { sites = refl; ended = refl; next = refl }
leaves_cases s (events.Load name text) said is = loads_apart s name text said
leaves_cases s (events.AddRule p at side when conclusion number) said is = adds_apart s p at side when conclusion said
leaves_cases s e said is = nowhere (sym is)
