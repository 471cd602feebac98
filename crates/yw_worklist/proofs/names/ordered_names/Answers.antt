use Rattle.std.proofs.Common.{[], refl, subst, sym}
use Rattle.std.proofs.lemmas.List.{take_all}
use Rattle.yw_worklist.proofs.NameLemmas.{names_put, no_names}
use Rattle.yw_worklist.proofs.names.ordered_names.Goals as goal
use Rattle.yw_worklist.specs.Names.{AreNames}

pub loop-loaded-init : goal.loop-loaded-init
loop-loaded-init c = subst (AreNames []) (sym c.new-names.ensures.empty) no_names

pub loop-loaded-preserved : goal.loop-loaded-preserved
loop-loaded-preserved c =
    names_put c.args.specs.now c.loop-loaded.loaded-index c.loaded-item.result _ _ c.loop-loaded.names.entries _
    c.loop-loaded-test.true c.loaded-item.is c.as_str.ensures.text refl c.loop-loaded.invariant c.in_ok-insert.ensures.entries

pub returns : goal.returns
returns c =
    subst (λ specs. AreNames specs c.loop-loaded.names.entries) (take_all c.loop-loaded.loaded-index c.args.specs.now c.loop-loaded-test.false) c.loop-loaded.invariant
