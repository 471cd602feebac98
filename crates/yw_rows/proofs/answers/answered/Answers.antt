use Rattle.yw_rows.proofs.AnsweredRows as rows
use Rattle.yw_rows.proofs.answers.answered.Goals as goal

pub returns : goal.returns
returns c = record { launch = rows.launch; enter_a = rows.enter_a; start_a = rows.start_a; complete_a = rows.complete_a; enter_b = rows.enter_b; start_b = rows.start_b; complete_b = rows.complete_b }
