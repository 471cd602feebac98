use Rattle.std.proofs.Common.{subst, sym}
use Rattle.std.proofs.lemmas.Result.{IfOk-weaker}
use Rattle.yw_library.proofs.HoldingsLemmas.{grown_as, kept-rule}
use Rattle.yw_library.proofs.library.Library.grow.Goals as goal
use Rattle.yw_library.specs.Holdings.{Holdings}
use Rattle.yw_rdr.specs.Attached.{Takes}
use Rattle.yw_trees.specs.Grown.{rule_of}
use Rattle.yw_trees.specs.Owners.{Owns}
use Rattle.yw_trees.specs.Placed.{links_for}

pub add-requires : goal.add-requires
add-requires c =
    subst (λ (h : Holdings). Takes (links_for c.args.owner c.args.place.now.kind h.rules) c.args.rule.at c.args.rule.side) (sym c.self.view_is)
    c.requires.takes

pub invariant_of-self : goal.invariant_of-self
invariant_of-self c =
    kept-rule _ _ _ _ _ c.self.invariant c.args.owner c.args.place.now (rule_of c.args.rule)
    (subst (λ (h : Holdings). Owns h.specs c.args.owner c.args.place.now) (sym c.self.view_is) c.requires.owns)
    c.add.new.self c.add.result c.add.ensures.ok c.add.ensures.err

pub returns-clause-ok : goal.returns-clause-ok
returns-clause-ok c =
    IfOk-weaker c.add.result _ _
    (grown_as _ c.args.self.now c.self.view_is c.add.new.self c.args.owner c.args.place.now (rule_of c.args.rule))
    c.add.ensures.ok
