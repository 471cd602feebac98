use Rattle.toml.specs.View.{table_view}
use Rattle.yw_read.proofs.InitLemmas.{given-inits}
use Rattle.yw_read.proofs.reading.read_spec.Goals as goal

pub returns-in-Ok-clause-inits : goal.returns-in-Ok-clause-inits
returns-in-Ok-clause-inits c = given-inits c.from_table.result (table_view c.in-Ok.table) c.from_table.ensures
