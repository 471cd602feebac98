use Rattle.std.proofs.Common.{◌≡◌, ◌∙◌, sym, true, false}
use Rattle.yw_read.specs.declared.raw.RawFlow.{RawFlow}
use Rattle.yw_accept.specs.Nodes.{is_task, task_names}
use Rattle.yw_build.proofs.PlaceLemmas.{text_from, text_to, text_both, flow_there, found_place}
use Rattle.yw_build.proofs.numbers.NetNumbers.place_of.Goals as goal

pub place_called-requires-clause-is : goal.place_called-requires-clause-is
place_called-requires-clause-is c =
    let net = c.args.self.now.said.now in
    let flow : RawFlow = record { from = c.args.from.now; to = c.args.to.now } in
    let not_from : is_task net flow.from ≡ false = sym (c.has.ensures (task_names net.task) c.requires.numbers.tasks) ∙ c.if-not-has.true in
    flow_there net c.requires.named c.requires.leads flow c.requires.flow flow.from (text_from net c.requires.named c.requires.leads flow c.requires.flow not_from)

pub returns-then-not-has : goal.returns-then-not-has
returns-then-not-has c =
    let net = c.args.self.now.said.now in
    let flow : RawFlow = record { from = c.args.from.now; to = c.args.to.now } in
    let not_from : is_task net flow.from ≡ false = sym (c.has.ensures (task_names net.task) c.requires.numbers.tasks) ∙ c.if-not-has.true in
    found_place net c.requires.named c.requires.leads flow c.requires.flow flow.from c.place_called.result (text_from net c.requires.named c.requires.leads flow c.requires.flow not_from) c.place_called.ensures

pub place_called-requires-then-not-has-2-clause-is : goal.place_called-requires-then-not-has-2-clause-is
place_called-requires-then-not-has-2-clause-is c =
    let net = c.args.self.now.said.now in
    let flow : RawFlow = record { from = c.args.from.now; to = c.args.to.now } in
    let is_from : is_task net flow.from ≡ true = sym (c.has.ensures (task_names net.task) c.requires.numbers.tasks) ∙ c.if-not-has.false in
    let not_to : is_task net flow.to ≡ false = sym (c.has-2.ensures (task_names net.task) c.requires.numbers.tasks) ∙ c.if-not-has-2.true in
    flow_there net c.requires.named c.requires.leads flow c.requires.flow flow.to (text_to net c.requires.named c.requires.leads flow c.requires.flow is_from not_to)

pub returns-then-not-has-2 : goal.returns-then-not-has-2
returns-then-not-has-2 c =
    let net = c.args.self.now.said.now in
    let flow : RawFlow = record { from = c.args.from.now; to = c.args.to.now } in
    let is_from : is_task net flow.from ≡ true = sym (c.has.ensures (task_names net.task) c.requires.numbers.tasks) ∙ c.if-not-has.false in
    let not_to : is_task net flow.to ≡ false = sym (c.has-2.ensures (task_names net.task) c.requires.numbers.tasks) ∙ c.if-not-has-2.true in
    found_place net c.requires.named c.requires.leads flow c.requires.flow flow.to c.place_called-then-not-has-2.result (text_to net c.requires.named c.requires.leads flow c.requires.flow is_from not_to) c.place_called-then-not-has-2.ensures

pub place_called-requires-2-clause-is : goal.place_called-requires-2-clause-is
place_called-requires-2-clause-is c =
    let net = c.args.self.now.said.now in
    let flow : RawFlow = record { from = c.args.from.now; to = c.args.to.now } in
    let is_from : is_task net flow.from ≡ true = sym (c.has.ensures (task_names net.task) c.requires.numbers.tasks) ∙ c.if-not-has.false in
    let is_to : is_task net flow.to ≡ true = sym (c.has-2.ensures (task_names net.task) c.requires.numbers.tasks) ∙ c.if-not-has-2.false in
    flow_there net c.requires.named c.requires.leads flow c.requires.flow c.as_str.result.now (text_both net c.requires.named c.requires.leads flow c.requires.flow is_from is_to ∙ sym c.in_ok-text.ensures ∙ sym c.as_str.ensures.value)

pub returns : goal.returns
returns c =
    let net = c.args.self.now.said.now in
    let flow : RawFlow = record { from = c.args.from.now; to = c.args.to.now } in
    let is_from : is_task net flow.from ≡ true = sym (c.has.ensures (task_names net.task) c.requires.numbers.tasks) ∙ c.if-not-has.false in
    let is_to : is_task net flow.to ≡ true = sym (c.has-2.ensures (task_names net.task) c.requires.numbers.tasks) ∙ c.if-not-has-2.false in
    found_place net c.requires.named c.requires.leads flow c.requires.flow c.as_str.result.now c.place_called-2.result (text_both net c.requires.named c.requires.leads flow c.requires.flow is_from is_to ∙ sym c.in_ok-text.ensures ∙ sym c.as_str.ensures.value) c.place_called-2.ensures
