use Rattle.std.proofs.Common.{◌≡◌, ◌≤◌, ◌+◌, ◌-◌, List, ℕ, Some}
use Rattle.std.specs.Prelude.{IsTrue}
use Rattle.yw_journal.specs.Files.{Content}
use Rattle.yw_journal.specs.Journal.{IsCurrent}
use Rattle.yw_texts.specs.Texts.{reader}
use Rattle.yw_outside.specs.Since.{NoneFailed}
use Rattle.yw_state.specs.Well.{IsWell}
use Rattle.yw_serve.specs.Desks.{KeepsJournal, Stands}
use Rattle.yw_serve.specs.Reading.{HasRead}
use Rattle.yw_serve.specs.Session.{state_of}
use Rattle.yw_serve.proofs.run.run.Given as goal

abbrev pub invariant-loop-taken : goal.invariant-loop-taken
invariant-loop-taken g l =
    let S = g.S.Source in
    let D = g.D.Desk in
    record {
      small : l.taken ≤ l.limit + 1;
      number : l.session.number ≤ l.taken + 1;
      stands : Stands D l.session.server.journal l.desk;
      keeps : KeepsJournal D l.fn.session.server.journal l.session.server.journal l.fn.desk l.desk;
      none : NoneFailed D l.fn.desk l.desk;
      read : S.faults l.source ≡ S.faults l.fn.source;
      went : IsTrue (D.tells l.fn.desk) → (c : Content) (bytes : List ℕ) → IsWell reader (state_of l.fn.session)
          → IsCurrent l.fn.session.server.journal c (D.state l.fn.desk) → S.left l.fn.source ≡ Some bytes
          → HasRead D c (state_of l.fn.session) l.session l.limit l.taken bytes (S.left l.source) l.fn.desk l.desk;
    }

abbrev pub decreases-loop-taken : goal.decreases-loop-taken
decreases-loop-taken g l = l.limit + 1 - l.taken
