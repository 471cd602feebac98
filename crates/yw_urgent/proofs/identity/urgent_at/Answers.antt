use Rattle.std.specs.Option.{option_copied}
use Rattle.yw_library.specs.Names.{names_of}
use Rattle.yw_standing.specs.State.{state_of}
use Rattle.yw_urgent.proofs.Lent.{tree_of}
use Rattle.yw_urgent.proofs.identity.urgent_at.Goals as goal

pub event_of-requires-clause-here : goal.event_of-requires-clause-here
event_of-requires-clause-here c =
    let h = c.args.standing.now in
    c.in-Some.ensures (names_of h.known) (state_of h) c.requires.held.boxed c.requires.held.sites

pub event_of-requires-clause-tree : goal.event_of-requires-clause-tree
event_of-requires-clause-tree c =
    let h = c.args.standing.now in
    tree_of (state_of h) c.args.at.now (option_copied c.args.tree) c.in-Some.urgent c.requires.tree
    (c.in-Some.ensures (names_of h.known) (state_of h) c.requires.held.boxed c.requires.held.sites)

pub returns-in-None : goal.returns-in-None
returns-in-None c =
    let h = c.args.standing.now in
    c.in-None.ensures (names_of h.known) (state_of h) c.requires.held.boxed c.requires.held.sites
