use Rattle.yw_state.proofs.Drawing.{first-drawn, next-after, next-rises, next-within}
use Rattle.yw_state.proofs.laws.apart.numbers_rise.Goals as goal

pub returns-clause-first : goal.returns-clause-first
returns-clause-first c = λ s e said first ok is. first-drawn s e said first ok.0 is

pub returns-clause-up : goal.returns-clause-up
returns-clause-up c = λ s e said ok. next-after s e said ok.0

pub returns-clause-rises : goal.returns-clause-rises
returns-clause-rises c = λ s e said ok. next-rises s e said ok.0

pub returns-clause-within : goal.returns-clause-within
returns-clause-within c = λ s e said ok least. next-within s e said ok.0 least
