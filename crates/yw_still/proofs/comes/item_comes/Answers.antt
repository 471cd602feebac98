use Rattle.yw_still.proofs.ItemsGoOn as items
use Rattle.yw_still.proofs.comes.item_comes.Goals as goal

pub returns : goal.returns
returns c = λ s j may. items.item_comes s j may
