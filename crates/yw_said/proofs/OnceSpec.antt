-- An accepted document says one specification at most.
use Rattle.std.proofs.Common.{◌≡◌, filter, None, sym, ◌∙◌}
use Rattle.std.specs.Prelude.{not}
use Rattle.yw_spec.specs.Net.{place_text}
use Rattle.yw_spec.specs.declared.spec.Net.{Net}
use Rattle.yw_spec.specs.declared.spec.Spec.{Spec}
use Rattle.yw_spec.specs.declared.task.Task.{Task}
use Rattle.yw_read.specs.declared.raw.RawNet.{RawNet}
use Rattle.yw_read.specs.declared.raw.RawSpec.{RawSpec}
use Rattle.yw_read.specs.declared.raw.RawTask.{RawTask}
use Rattle.yw_accept.specs.Built.{places_of, flows_to, flows_from, IsPlaceOf, IsPlaceCalled, IsTaskCalled, IsBranch, IsParam, IsAssign, IsTask, IsNet, IsSpec}
use Rattle.yw_accept.specs.Nodes.{is_task, net_names}
use Rattle.yw_accept.specs.Verdict.{IsVerdict}
use Rattle.yw_said.proofs.Numbers.{Apart, one_called, one_list, one_made}
use Rattle.yw_said.proofs.OnceFacts.{InsApart, NetIsApart, accepted_apart}
use Rattle.yw_said.proofs.OnceTask.{one_kind, one_place, one_param, one_branch, one_assign, one_many_if}

module _ (raw : RawSpec) (names : Apart (net_names raw.net)) where
  one_task : (net : RawNet) → NetIsApart net → (said : RawTask) (a b : Task) → InsApart said → IsTask raw net said a → IsTask raw net said b → a ≡ b
  one_task net h said a b ins p q =
      let name : a.name ≡ b.name = p.name ∙ sym q.name in
      let kind : a.kind ≡ b.kind = one_kind raw names said.kind said.net a.kind b.kind p.kind q.kind in
      let role : a.role ≡ b.role = p.role ∙ sym q.role in
      let join : a.join ≡ b.join = p.join ∙ sym q.join in
      let split : a.split ≡ b.split = p.split ∙ sym q.split in
      let before : a.before ≡ b.before = one_made (IsPlaceOf net) (one_place net h) (flows_to net said.name) a.before b.before p.before q.before in
      let after : a.after ≡ b.after = one_made (IsPlaceOf net) (one_place net h) (flows_from net said.name) a.after b.after p.after q.after in
      let branch : a.branch ≡ b.branch = one_made (IsBranch net said) (one_branch net h said) said.branch a.branch b.branch p.branch q.branch in
      let drop_places : a.drop_places ≡ b.drop_places = one_made (IsPlaceCalled net) (one_called place_text (places_of net) h.texts) (filter (λ text. not (is_task net text)) said.remove) a.drop_places b.drop_places p.drop_places q.drop_places in
      let drop_tasks : a.drop_tasks ≡ b.drop_tasks = one_made (IsTaskCalled net) (one_called (λ (t : RawTask). t.name) net.task h.tasks) (filter (is_task net) said.remove) a.drop_tasks b.drop_tasks p.drop_tasks q.drop_tasks in
      let given : a.ins ≡ b.ins = one_made (IsParam net) (one_param net h) said.ins a.ins b.ins p.ins q.ins in
      let outs : a.outs ≡ b.outs = p.outs ∙ sym q.outs in
      let set : a.set ≡ b.set = one_made (IsAssign net said) (one_assign net h said) said.set a.set b.set p.set q.set in
      let many : a.many ≡ b.many = one_many_if net said ins said.each a.many b.many p.many q.many in
      λ i. record {
        name = name i;
        kind = kind i;
        role = role i;
        join = join i;
        split = split i;
        before = before i;
        after = after i;
        branch = branch i;
        drop_places = drop_places i;
        drop_tasks = drop_tasks i;
        ins = given i;
        outs = outs i;
        set = set i;
        many = many i;
      }

  one_net : (said : RawNet) (a b : Net) → NetIsApart said → IsNet raw said a → IsNet raw said b → a ≡ b
  one_net said a b h p q =
      let name : a.name ≡ b.name = p.name ∙ sym q.name in
      let input : a.input ≡ b.input = p.input ∙ sym q.input in
      let output : a.output ≡ b.output = p.output ∙ sym q.output in
      let places : a.places ≡ b.places = p.places ∙ sym q.places in
      let tasks : a.tasks ≡ b.tasks = one_list InsApart (IsTask raw said) (one_task said h) said.task a.tasks b.tasks h.ins p.tasks q.tasks in
      let vars : a.vars ≡ b.vars = p.vars ∙ sym q.vars in
      λ i. record { name = name i; input = input i; output = output i; places = places i; tasks = tasks i; vars = vars i }

pub one_spec : (raw : RawSpec) (a b : Spec) → IsVerdict raw None → IsSpec raw a → IsSpec raw b → a ≡ b
one_spec raw a b accepted p q =
    let h = accepted_apart raw accepted in
    let name : a.name ≡ b.name = p.name ∙ sym q.name in
    let top : a.top ≡ b.top = one_called (λ (net : RawNet). net.name) raw.net h.names raw.top a.top b.top p.top q.top in
    let nets : a.nets ≡ b.nets = one_list NetIsApart (IsNet raw) (one_net raw h.names) raw.net a.nets b.nets h.nets p.nets q.nets in
    λ i. record { name = name i; top = top i; nets = nets i }
