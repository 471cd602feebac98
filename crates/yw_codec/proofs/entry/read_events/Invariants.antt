use Rattle.std.specs.List.{flat_map}
use Rattle.yw_codec.specs.Entries.{is_kept}
use Rattle.yw_codec.specs.Events.{event_bytes}
use Rattle.yw_codec.specs.Forms.{Stands, are_counted}
use Rattle.yw_codec.proofs.entry.read_events.Given as goal

abbrev pub invariant-loop-i : goal.invariant-loop-i
invariant-loop-i l = Stands (are_counted is_kept l._i) (flat_map event_bytes) l.fn.reader l.events l.reader
