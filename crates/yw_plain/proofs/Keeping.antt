-- A plain state stays plain: what stands behind an event that keeps it so stood before, or is new and plain.
use Rattle.std.specs.Prelude.{◌≡◌, true, List, None, refl}
use Rattle.std.proofs.Common.{◌∙◌, ap}
use Rattle.yw_plain.proofs.Walk.{Holds, Keeps, Puts, event-holds}
use Rattle.yw_plain.proofs.Words.{no_rule, none_at_case, none_at_item}
use Rattle.yw_plain.specs.Plain.{IsPlain, keeps_plain}
use Rattle.yw_state.specs.After
use Rattle.yw_state.specs.Events.{after}
use Rattle.yw_state.specs.Identity.{Ident}
use Rattle.yw_state.specs.Map.{Map, empty, lexical, lexical_each}
use Rattle.yw_state.specs.RuleTree.{TreeRule}
use Rattle.yw_state.specs.State.{State, Site, no_checks}
use Rattle.yw_state.specs.Texts.{Said}
use Rattle.yw_state.specs.declared.event.Event.{Event}
use Rattle.yw_state.specs.declared.event.Event.TheVariants as events
use Rattle.yw_state.specs.declared.loaded.Loaded.{Loaded}

-- Without a run or a check.
record PlainSite (j : Ident) (x : Site) : Type 0 where
  run : x.run ≡ None
  due : x.due ≡ no_checks

abbrev NoRules : Map lexical Loaded → Map lexical_each (List TreeRule) → Type 0
NoRules specs rules = rules ≡ empty

abbrev Plain : State → Type 0
Plain = Holds NoRules PlainSite

keeps : Keeps NoRules PlainSite
keeps =
    record {
      due = λ s p j x none is.
          record { run = is.run; due = ap (λ b. After.due_where b p.kind x.due) (no_rule s none p) ∙ is.due };
      net = λ f spec net j x is. record { run = is.run; due = is.due };
      gone = λ j x is. record { run = is.run; due = is.due };
      completed = λ out j x is. record { run = is.run; due = is.due };
      marked = λ mark j x is. record { run = is.run; due = is.due };
      comes = λ s x none j given. record { run = refl; due = none_at_item s none x };
    }

puts : (s : State) (e : Event) → Puts NoRules PlainSite s e
puts s (events.Load name text) = λ l none. none
puts s (events.Launch n name vals) = λ spec net none. record { run = refl; due = none_at_case s none name }
puts s (events.Start j who) = λ x at is. record { run = is.run; due = is.due }
puts s (events.StartSub j) = λ i n x found at is. record { run = is.run; due = is.due }
puts s e = tt

of_plain : (s : State) → IsPlain s → Plain s
of_plain s plain = (plain.rules, λ j x at. record { run = plain.run j x at; due = plain.due j x at })

to_plain : (s : State) → Plain s → IsPlain s
to_plain s plain =
    record { rules = plain.0; run = λ j x at. (plain.1 j x at).run; due = λ j x at. (plain.1 j x at).due }

pub event_keeps : (s : State) (e : Event) (said : Said) → IsPlain s → keeps_plain e ≡ true → IsPlain (after s e said)
event_keeps s e said plain is = to_plain (after s e said) (event-holds NoRules PlainSite keeps s e said (of_plain s plain) (puts s e) is)
