use Rattle.std.proofs.Common.{◌≡◌, ◌≤◌, ◌+◌, ◌-◌, ℕ, List, [], length, IsTrue}
use Rattle.yw_engine.specs.Held as engine
use Rattle.yw_serve.specs.Opening.{IsReached, OnlyLooked}
use Rattle.yw_serve.specs.Window.{IsAtHand}
use Rattle.yw_serve.proofs.opening_entries.read_entries.Given as goal

abbrev pub invariant-loop-next : goal.invariant-loop-next
invariant-loop-next g l =
    let D = g.D.Desk in record {
      looked : OnlyLooked D l.initial.desk l.desk;
      none_failed : D.disk_faults l.desk ≡ D.disk_faults l.initial.desk;
      low : 29 ≤ l.gate;
      within : l.gate ≤ l.len;
      few : l.records + 29 ≤ l.gate;
      at_hand : IsAtHand D l.initial.desk l.len l.window l.piece;
      reached : IsTrue (D.tells l.initial.desk) → IsReached (D.state l.initial.desk).a 29 [] (engine.state_of l.initial.engine)
          → (records : List (List ℕ)) × IsReached (D.state l.initial.desk).a l.gate records (engine.state_of l.engine) × (length records ≡ l.records);
    }

abbrev pub decreases-loop-next : goal.decreases-loop-next
decreases-loop-next g l = l.len - l.gate
