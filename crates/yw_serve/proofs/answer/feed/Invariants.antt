use Rattle.std.proofs.Common.{◌≡◌, ◌≤◌, ◌+◌, ◌++◌, ℕ, List, length}
use Rattle.yw_outside.specs.Since.{NoneFailed}
use Rattle.yw_serve.specs.Desks.{KeepsJournal, Stands, TakesPiece}
use Rattle.yw_serve.proofs.answer.feed.Given as goal

-- of the piece a prefix is taken, and the rest is left
abbrev pub invariant-loop-part : goal.invariant-loop-part
invariant-loop-part g l =
    let D = g.D.Desk in
    record {
      stands : Stands D l.session.server.journal l.desk;
      keeps : KeepsJournal D l.fn.session.server.journal l.session.server.journal l.fn.desk l.desk;
      none : NoneFailed D l.fn.desk l.desk;
      count : l.session.number + length l.rest ≤ l.fn.session.number + length l.piece;
      went : (prefix : List ℕ) × (l.piece ≡ prefix ++ l.rest) × TakesPiece D l.fn.session l.session prefix l.fn.desk l.desk;
    }

abbrev pub decreases-loop-part : goal.decreases-loop-part
decreases-loop-part g l = length l.rest
