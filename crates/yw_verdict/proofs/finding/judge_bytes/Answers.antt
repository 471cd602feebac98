use Rattle.yw_texts.specs.Accepted.{document_in}
use Rattle.yw_verdict.proofs.FoundLemmas.{document_of_others, no_text}
use Rattle.yw_verdict.proofs.finding.judge_bytes.Goals as goal

pub returns-in-Err : goal.returns-in-Err
returns-in-Err c = no_text (document_in c.args.bytes.now) c.placeless.result (document_of_others c.args.bytes.now c.in-Err.ensures.cases.0) c.placeless.ensures
