use Rattle.std.proofs.Common.{map, subst, sym, ◌∙◌}
use Rattle.std.proofs.lemmas.Option.{slice_get_within}
use Rattle.std.proofs.lemmas.Result.{IfOk-weaker}
use Rattle.yw_rdr.specs.Attached.{Takes}
use Rattle.yw_rdr.specs.Rules.{kept_of}
use Rattle.yw_trees.proofs.Numbers.{added_behind, added_inside, found, missing, numbered_rules}
use Rattle.yw_trees.proofs.trees.Trees.add.Goals as goal
use Rattle.yw_trees.specs.Grown.{rule_of}

pub add_to-requires-clause-there : goal.add_to-requires-clause-there
add_to-requires-clause-there c =
    let (t, at, rules) = found c.args.owner c.args.place.now.kind c.args.self.now c.in-Some.number (sym c.number_of.ensures ∙ c.in-Some.is) in
    slice_get_within c.args.self.now c.in-Some.number t at

pub add_to-requires-clause-takes : goal.add_to-requires-clause-takes
add_to-requires-clause-takes c = λ t at.
    subst (λ rs. Takes (map kept_of rs) c.args.rule.at c.args.rule.side)
    (numbered_rules c.args.owner c.args.place.now.kind c.args.self.now c.in-Some.number t (sym c.number_of.ensures ∙ c.in-Some.is) at) c.requires

pub begin-requires-clause-takes : goal.begin-requires-clause-takes
begin-requires-clause-takes c =
    subst (λ rs. Takes (map kept_of rs) c.args.rule.at c.args.rule.side)
    (missing c.args.owner c.args.place.now.kind c.args.self.now (sym c.number_of.ensures ∙ c.in-None.is)) c.requires

pub returns-in-Some-clause-ok : goal.returns-in-Some-clause-ok
returns-in-Some-clause-ok c =
    IfOk-weaker c.add_to.result _ _
    (added_inside c.args.owner c.args.place.now (rule_of c.args.rule) c.args.self.now c.add_to.new.self c.in-Some.number
    (sym c.number_of.ensures ∙ c.in-Some.is))
    c.add_to.ensures.ok

pub returns-in_ok-begin-in-None-clause-ok : goal.returns-in_ok-begin-in-None-clause-ok
returns-in_ok-begin-in-None-clause-ok c =
    added_behind c.args.owner c.args.place.now (rule_of c.args.rule) c.args.self.now c.begin.new.self (sym c.number_of.ensures ∙ c.in-None.is)
    c.in_ok-begin-in-None.ensures.ok
