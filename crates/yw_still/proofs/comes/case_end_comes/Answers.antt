use Rattle.yw_still.proofs.ItemsGoOn as items
use Rattle.yw_still.proofs.comes.case_end_comes.Goals as goal

pub returns : goal.returns
returns c = λ s j may. items.finish_comes s j may
