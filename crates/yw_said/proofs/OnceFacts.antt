-- What no two things of an accepted document share: names and places.
use Rattle.std.proofs.Common.{[], map, get_or, All, None}
use Rattle.yw_spec.specs.Net.{place_text}
use Rattle.yw_read.specs.declared.raw.RawIn.{RawIn}
use Rattle.yw_read.specs.declared.raw.RawNet.{RawNet}
use Rattle.yw_read.specs.declared.raw.RawSpec.{RawSpec}
use Rattle.yw_read.specs.declared.raw.RawTask.{RawTask}
use Rattle.yw_read.specs.declared.raw.RawVar.{RawVar}
use Rattle.yw_accept.specs.Built.{places_of}
use Rattle.yw_accept.specs.Facts.{NetIsNamed, NetLeads}
use Rattle.yw_accept.specs.Names.{NamesFit, FlowsFit, FlowFits}
use Rattle.yw_accept.specs.Nodes.{named_places, task_names, nodes, net_names}
use Rattle.yw_accept.specs.Order.{InTurn}
use Rattle.yw_accept.specs.Verdict.{IsVerdict}
use Rattle.yw_accept.proofs.FactsLemmas.{is_named, nets_lead, order_all}
use Rattle.yw_said.proofs.Numbers.{Apart, apart_names, apart_right}
use Rattle.yw_said.proofs.Places.{places_apart, texts_apart}

abbrev pub InsApart : RawTask → Type 0
InsApart task = Apart (map (λ (p : RawIn). p.name) task.ins)

pub record NetIsApart (net : RawNet) : Type 0 where
  pub places : Apart (places_of net)
  pub texts : Apart (map place_text (places_of net))
  pub tasks : Apart (task_names net.task)
  pub vars : Apart (map (λ (v : RawVar). v.name) net.vars)
  pub ins : All InsApart net.task

pub record IsApart (raw : RawSpec) : Type 0 where
  pub names : Apart (net_names raw.net)
  pub nets : All NetIsApart raw.net

net_apart : (net : RawNet) → NetIsNamed net → NetLeads net → InTurn (FlowFits net) [] net.flows None → NetIsApart net
net_apart net named leads turn = record {
  places = places_apart net named leads turn;
  texts = texts_apart net named leads turn;
  tasks = apart_right (named_places net) (task_names net.task) (apart_names (nodes net) named.nodes_are.distinct);
  vars = apart_names (map (λ (v : RawVar). v.name) net.vars) named.vars.distinct;
  ins = λ i d lt. let one = named.tasks i d lt in apart_names (map (λ (p : RawIn). p.name) (get_or net.task i d).ins) one.ins.distinct;
}

flows_turn : (raw : RawSpec) → FlowsFit raw None → All (λ (net : RawNet). InTurn (FlowFits net) [] net.flows None) raw.net
unfolding FlowsFit
flows_turn raw h = order_all (λ (net : RawNet). InTurn (FlowFits net) [] net.flows) raw.net h

is_apart : (raw : RawSpec) → NamesFit raw None → FlowsFit raw None → IsApart raw
is_apart raw names flows =
    let named = is_named raw names in
    record {
      names = apart_names (net_names raw.net) named.nets_are.distinct;
      nets = λ i d lt. net_apart (get_or raw.net i d) (named.nets i d lt) (nets_lead raw flows i d lt) (flows_turn raw flows i d lt);
    }

pub accepted_apart : (raw : RawSpec) → IsVerdict raw None → IsApart raw
unfolding IsVerdict
accepted_apart raw h = is_apart raw h.0 h.1.0
