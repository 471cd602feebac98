use Rattle.yw_texts.specs.Texts.{ReadsSpec}
use Rattle.yw_read.specs.Reading.{spec_in}
use Rattle.yw_verdict.specs.Found.{SaysSpec}
use Rattle.std.proofs.lemmas.Result.{IfOk-weaker}
use Rattle.yw_verdict.proofs.FoundLemmas.{reads_by}
use Rattle.yw_verdict.proofs.text.accepted.Goals as goal

pub returns : goal.returns
returns c =
    let text = c.args.text.now in
    IfOk-weaker c.said.result (SaysSpec (spec_in text)) (ReadsSpec text) (λ said is. reads_by text said c.utf8.text is) c.said.ensures
