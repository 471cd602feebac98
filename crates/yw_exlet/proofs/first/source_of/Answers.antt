use Rattle.std.proofs.Common.{ap, subst, sym, ◌∙◌}
use Rattle.std.specs.Option.{option_copied}
use Rattle.std.specs.Prelude.{option_and_then}
use Rattle.yw_exlet.proofs.first.source_of.Goals as goal
use Rattle.yw_exlet.specs.Needs.{SourceStands, handed}
use Rattle.yw_nest.specs.Values.{var_value}
use Rattle.yw_state.specs.ByName.{param_value}
use Rattle.yw_tree.specs.declared.NetState.{NetState, out-NetState}
use Rattle.yw_tree.specs.declared.Node.{Node, out-Node}

pub item_there-requires : goal.item_there-requires
item_there-requires c = subst (λ o. SourceStands c.args.forest.now c.args.j.now (option_copied o)) c.in-Some.is c.requires

pub net_there-requires : goal.net_there-requires
net_there-requires c = subst (λ o. SourceStands c.args.forest.now c.args.j.now (option_copied o)) c.in-None.is c.requires

pub returns-in-Some : goal.returns-in-Some
returns-in-Some c =
    sym
    (ap (λ o. handed c.args.forest.now c.args.j.now c.args.top.now (option_copied o)) c.in-Some.is
    ∙ (λ i name. option_and_then (λ (n : Node). param_value c.in-Some.task.now.ins (out-Node n).given name) (c.item_there.ensures i)))

pub returns-in-None : goal.returns-in-None
returns-in-None c =
    sym
    (ap (λ o. handed c.args.forest.now c.args.j.now c.args.top.now (option_copied o)) c.in-None.is
    ∙ (λ i name. option_and_then (λ (u : NetState). var_value c.args.top.now.vars (out-NetState u).vals name) (c.net_there.ensures i)))
