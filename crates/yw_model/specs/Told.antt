-- What a query is told, as its reply has it. Our own.
use Rattle.std.specs.Prelude.{◌≡◌, ℕ, List, Some}
use Rattle.serde_json.specs.Data.{Data, string}
use Rattle.yw_base.specs.Identity.{case_number}
use Rattle.yw_lines.specs.Answers.{names_data, rows_data, shown_data}
use Rattle.yw_lines.specs.Ways.{way_text}
use Rattle.yw_state.specs.Answers.{IsShown, IsWorkList, ended_way, spec_names}
use Rattle.yw_state.specs.State.{State}
use Rattle.yw_state.specs.declared.answer.Shown.{Shown}
use Rattle.yw_state.specs.declared.answer.WorkRow.{WorkRow}
use Rattle.yw_state.specs.declared.command.Query.{Query}
use Rattle.yw_state.specs.declared.command.Query.TheVariants as queries
use Rattle.yw_state.specs.declared.part.Way.{Way}

-- the query's answer in this state: a person's work, all that stands in a case, how a case ended, the names of specifications
abbrev pub IsTold : State → Query → Data → Type 0
IsTold s (queries.List who) answer = (rows : List WorkRow) × IsWorkList s who rows × (answer ≡ rows_data rows)
IsTold s (queries.Show j) answer = (x : Shown) × IsShown s (case_number j) x × (answer ≡ shown_data x)
IsTold s (queries.Ended j) answer = (way : Way) × (ended_way s j ≡ Some way) × (answer ≡ string (way_text way))
IsTold s queries.Specs answer = answer ≡ names_data (spec_names s)
