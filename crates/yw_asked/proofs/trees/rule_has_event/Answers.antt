use Rattle.yw_asked.proofs.TreesAsked as trees
use Rattle.yw_asked.proofs.trees.rule_has_event.Goals as goal

pub returns : goal.returns
returns g c = λ s p at side when conclusion spec test called spells. trees.rule_has_event g.R.Reads.reader s p at side when conclusion spec test called spells
