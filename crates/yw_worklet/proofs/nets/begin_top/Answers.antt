use Rattle.std.proofs.Common.{length, map, subst, ◌≡◌}
use Rattle.std.proofs.lemmas.Bool.{ltb-true}
use Rattle.yw_nest.proofs.Results.{if_ok}
use Rattle.yw_nest.specs.Cases.{first_tokens}
use Rattle.yw_nest.specs.Values.{begins_with}
use Rattle.yw_tree.specs.Begins.{BeginsNet}
use Rattle.yw_worklet.proofs.nets.begin_top.Goals as goal
use Rattle.yw_worklet.specs.Begins.{BeginsTop}
use Rattle.yw_worklet.specs.Named.{named}

pub net_numbered-top-requires : goal.net_numbered-top-requires
net_numbered-top-requires c = ltb-true c.args.spec.now.top (length c.args.spec.now.nets) c.requires.top

pub first_tokens-requires : goal.first_tokens-requires
first_tokens-requires c =
    let top = c.net_numbered-top.result.now in
    ltb-true top.input (length top.places) (c.requires.nets c.args.spec.now.top top c.net_numbered-top.ensures).input
