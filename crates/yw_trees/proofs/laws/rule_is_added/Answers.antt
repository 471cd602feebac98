use Rattle.yw_trees.proofs.Rules.{added_there, still_owned}
use Rattle.yw_trees.proofs.laws.rule_is_added.Goals as goal

pub returns-clause-rules : goal.returns-clause-rules
returns-clause-rules c = λ specs trees owner p r owned is. added_there specs owned.apart owner p is r trees owned.owned

pub returns-clause-owned : goal.returns-clause-owned
returns-clause-owned c = λ specs trees owner p r owned owns. record {
  apart = owned.apart;
  owned = still_owned specs owned.apart owner p owns.is r owns trees owned.owned;
}
