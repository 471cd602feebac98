use Rattle.yw_decided.proofs.Content.{content_from, content_to}
use Rattle.yw_decided.proofs.content_is_decided.Goals as goal

pub returns : goal.returns
returns c = λ s. (content_from s, content_to s)
