-- States without rules, runs and checks: each that is reached until rule trees and exlets are built. A field of `IsPlain` goes when what it forbids
-- is built. Our own.
use Rattle.std.specs.Prelude.{◌≡◌, ℕ, Bool, true, false, not, List, [], None}
use Rattle.yw_state.specs.After.{case_checks, item_checks}
use Rattle.yw_state.specs.Identity.{Ident}
use Rattle.yw_state.specs.Judged.{has_rules, is_manual, rules_at}
use Rattle.yw_state.specs.Map.{empty}
use Rattle.yw_state.specs.Nets.{is_atomic}
use Rattle.yw_state.specs.State.{State, Site, TaskAt, due_at, no_checks, run_part}
use Rattle.yw_state.specs.Well.{Stands}
use Rattle.yw_state.specs.Words.{busy, clear, held, shielded, urgent}
use Rattle.yw_state.specs.declared.event.Event.{Event}
use Rattle.yw_state.specs.declared.event.Event.TheVariants as events
use Rattle.yw_state.specs.declared.tree.TreePlace.{TreePlace}

-- No tree has a rule, and at no identity that stands is a run or a check that is due.
pub record IsPlain (s : State) : Type 0 where
  pub rules : s.rules ≡ empty
  pub run : (j : Ident) (x : Site) → Stands s j x → x.run ≡ None
  pub due : (j : Ident) (x : Site) → Stands s j x → x.due ≡ no_checks

-- What the words of `yw_state` say then: only what is suspended holds work back, no tree has a rule, persons do each atomic task, and what comes has
-- no checks.
pub record PlainWords (s : State) : Type 0 where
  pub busy : (j : Ident) → busy s j ≡ false
  pub shielded : (j i : Ident) → shielded s j i ≡ false
  pub urgent : (n : ℕ) → urgent s n ≡ false
  pub clear : (j : Ident) → clear s j ≡ not (held s j)
  pub run : (j : Ident) → run_part s j ≡ None
  pub due : (j : Ident) → due_at s j ≡ no_checks
  pub rules : (p : TreePlace) → rules_at s p ≡ []
  pub manual : (x : TaskAt) → is_manual s x ≡ is_atomic x.task
  pub rule : (p : TreePlace) → has_rules s p ≡ false
  pub case_due : (name : List ℕ) → case_checks s name ≡ no_checks
  pub item_due : (x : TaskAt) → item_checks s x ≡ no_checks

-- the event is of neither a rule tree nor an exlet
abbrev pub is_plain_event : Event → Bool
is_plain_event (events.Person name roles) = true
is_plain_event (events.Load name text) = true
is_plain_event (events.Launch n spec vals) = true
is_plain_event (events.Enter i t places first count) = true
is_plain_event (events.Start j who) = true
is_plain_event (events.Complete j out) = true
is_plain_event (events.Exit i t places) = true
is_plain_event (events.Add i t value n) = true
is_plain_event (events.Finish n) = true
is_plain_event (events.Cancel n) = true
is_plain_event (events.StartSub j) = true
is_plain_event (events.CompleteSub j) = true
is_plain_event (events.CompleteEmpty j) = true
is_plain_event (events.Advance n) = true
is_plain_event e = false

-- so it is, or it suspends something, or continues it: it leads from a plain state to a plain one
abbrev pub keeps_plain : Event → Bool
keeps_plain (events.Suspend j) = true
keeps_plain (events.Continue j) = true
keeps_plain e = is_plain_event e
