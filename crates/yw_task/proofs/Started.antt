-- An item that a person starts.
use Rattle.std.proofs.Common.{List, None, Some, ap, ℕ, ◌≡◌}
use Rattle.yw_state.specs.After.{begun, with_item}
use Rattle.yw_state.specs.Events.{after}
use Rattle.yw_state.specs.State.{Site}
use Rattle.yw_state.specs.declared.event.Event.TheVariants as events
use Rattle.yw_state.specs.declared.part.Stage.TheVariants.{Executing}
use Rattle.yw_task.proofs.ItemLaw.{its_change}
use Rattle.yw_task.specs.Standing.{ItemDoes}
use Rattle.yw_tree.specs.Entries.{item_site, net_part_of}
use Rattle.yw_tree.specs.Places.{Keeps}
use Rattle.yw_tree.specs.declared.NetState.{NetState}
use Rattle.yw_tree.specs.declared.Node.{Node, Node-F, out-Node}
use Rattle.yw_tree.specs.declared.Run.{Run}

abbrev Level : Type 0
Level = Node-F NetState Node Run

-- what the map has of an item, by what stands in its box
abbrev pub site_of : (ℕ → List ℕ) → Level → Site
site_of names l =
    record { net = net_part_of names l.net; item = Some (record { task = l.task; stage = l.stage; given = l.given; made = l.made; who = l.who }); run = None; suspended = l.suspended; due = l.due }

pub started : (old new : Node) (who : List ℕ) → out-Node new ≡ record (out-Node old) { stage = Executing; who = Some who } → ItemDoes (λ j. events.Start j who) old new
unfolding after
started old new who e =
    λ names f s said h.
    let keeps : Keeps old new = record { id = ap (λ (l : Level). l.id) e; task = ap (λ (l : Level). l.task) e; net = ap (λ (l : Level). l.net) e; run = ap (λ (l : Level). l.run) e } in
    let own : item_site names new ≡ with_item (begun (Some who)) (item_site names old) = ap (site_of names) e in
    its_change names f s old h new (with_item (begun (Some who))) keeps own
