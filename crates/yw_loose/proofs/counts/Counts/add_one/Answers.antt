use Rattle.std.proofs.Common.{None, Option, Some, subst, sym, true, ◌∙◌, ◌≡◌}
use Rattle.std.specs.BTreeMap.{Updates}
use Rattle.std.specs.Prelude.{SomeIff}
use Rattle.yw_base.specs.Identity.{is_identity, parent}
use Rattle.yw_loose.proofs.Following.{net_back, net_out, no_item, no_net, not_done}
use Rattle.yw_loose.proofs.counts.Counts.add_one.Goals as goal
use Rattle.yw_loose.specs.Counts.{counts_at}
use Rattle.yw_loose.specs.declared.counts.Counts.{Counts}
use Rattle.yw_state.specs.Identity.{Ident}
use Rattle.yw_state.specs.Map.{lexical}

pub returns-in_default : goal.returns-in_default
returns-in_default c = no_item c.args.forest.now c.args.item.now c.args.self.now (sym c.in_default.ensures)

pub returns-then-not-is_done : goal.returns-then-not-is_done
returns-then-not-is_done c =
    not_done c.args.forest.now c.args.item.now c.args.self.now c.in-Some.node.now (sym c.in-Some.ensures) (sym c.is_done.ensures ∙ c.if-not-is_done.true)

pub returns-in_default-2 : goal.returns-in_default-2
returns-in_default-2 c =
    let j = c.args.item.now in
    no_net c.args.forest.now j c.args.self.now
    (subst (λ (o : Option Ident). SomeIff o (is_identity (parent j) ≡ true) (parent j)) c.in_default-2.is c.in_ok-net.ensures)

pub returns-in_default-remove : goal.returns-in_default-remove
returns-in_default-remove c =
    let j = c.args.item.now in
    let new : Counts = record { nets = c.remove.new.self } in
    let net = subst (λ (o : Option Ident). SomeIff o (is_identity (parent j) ≡ true) (parent j)) c.in-Some-2.is c.in_ok-net.ensures in
    net_out c.args.forest.now j c.args.self.now new
    (subst (λ (i : Ident). Updates lexical c.args.self.now.nets new.nets i None) net.1 c.in_default-remove.ensures.updates)

pub returns-in_default-one_more : goal.returns-in_default-one_more
returns-in_default-one_more c =
    let j = c.args.item.now in
    let new : Counts = record { nets = c.remove.new.self } in
    let net = subst (λ (o : Option Ident). SomeIff o (is_identity (parent j) ≡ true) (parent j)) c.in-Some-2.is c.in_ok-net.ensures in
    net_out c.args.forest.now j c.args.self.now new
    (subst (λ (i : Ident). Updates lexical c.args.self.now.nets new.nets i None) net.1 c.in-Some-remove.ensures.updates)

pub returns : goal.returns
returns c =
    let j = c.args.item.now in
    let old = c.args.self.now in
    let mid : Counts = record { nets = c.remove.new.self } in
    let new : Counts = record { nets = c.insert.new.self } in
    let net = subst (λ (o : Option Ident). SomeIff o (is_identity (parent j) ≡ true) (parent j)) c.in-Some-2.is c.in_ok-net.ensures in
    net_back c.args.forest.now j old mid new c.in-Some.node.now c.in-Some-remove.counts c.in-Some-one_more.more (sym c.in-Some.ensures)
    (sym c.is_done.ensures ∙ c.if-not-is_done.false) net.0
    (subst (λ (i : Ident). counts_at old i ≡ Some c.in-Some-remove.counts) net.1 (sym c.in-Some-remove.ensures.value)) c.in-Some-one_more.ensures
    (subst (λ (i : Ident). Updates lexical old.nets mid.nets i None) net.1 c.in-Some-remove.ensures.updates)
    (subst (λ (i : Ident). Updates lexical mid.nets new.nets i (Some c.in-Some-one_more.more)) net.1 c.in_ok-insert.ensures.updates)
