-- How a case ended, as a reply says it. The words are our own.
use Rattle.std.specs.Prelude.{ℕ, List, codes}
use Rattle.yw_state.specs.declared.part.Way.{Way}
use Rattle.yw_state.specs.declared.part.Way.TheVariants as ways

abbrev pub way_text : Way → List ℕ
way_text ways.Finished = codes "finished"
way_text ways.Cancelled = codes "cancelled"
way_text ways.Removed = codes "removed"
