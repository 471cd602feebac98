use Rattle.std.proofs.Common.{◌≡◌, ◌∙◌, Some, ap, sym}
use Rattle.std.specs.Prelude.{slice_get}
use Rattle.yw_trees.proofs.PlaceLemmas.{no_trees, some_trees}
use Rattle.yw_trees.proofs.owner.task_owner.Goals as goal
use Rattle.yw_trees.specs.Owners.{net_number}
use Rattle.yw_state.specs.Nets.{task_number}

pub returns-then-not-task_has : goal.returns-then-not-task_has
returns-then-not-task_has c =
    let spec = c.args.spec.now in
    let n = c.in_ok-net_number.net_number in
    let t = c.in_ok-task_number.task_number in
    let x = c.in_ok-tasks.field-0.now in
    let y = c.in_ok-get.field-0.now in
    let numbered : net_number spec c.args.net.now ≡ Some n = ap (net_number spec) (sym c.as_str.ensures.text) ∙ sym c.in_ok-net_number.ensures in
    let here : slice_get spec.nets n ≡ Some x = sym c.in_ok-tasks.ensures in
    let called : task_number x c.args.task.now ≡ Some t = ap (task_number x) (sym c.as_str-2.ensures.text) ∙ sym c.in_ok-task_number.ensures in
    let there : slice_get x.tasks t ≡ Some y = sym c.in_ok-get.ensures in
    sym
    (no_trees c.args.number spec c.args.net.now c.args.task.now c.args.kind n numbered x here t called y there
    (sym c.task_has.ensures ∙ c.if-not-task_has.true))

pub returns : goal.returns
returns c =
    let spec = c.args.spec.now in
    let n = c.in_ok-net_number.net_number in
    let t = c.in_ok-task_number.task_number in
    let x = c.in_ok-tasks.field-0.now in
    let y = c.in_ok-get.field-0.now in
    let numbered : net_number spec c.args.net.now ≡ Some n = ap (net_number spec) (sym c.as_str.ensures.text) ∙ sym c.in_ok-net_number.ensures in
    let here : slice_get spec.nets n ≡ Some x = sym c.in_ok-tasks.ensures in
    let called : task_number x c.args.task.now ≡ Some t = ap (task_number x) (sym c.as_str-2.ensures.text) ∙ sym c.in_ok-task_number.ensures in
    let there : slice_get x.tasks t ≡ Some y = sym c.in_ok-get.ensures in
    sym
    (some_trees c.args.number spec c.args.net.now c.args.task.now c.args.kind n numbered x here t called y there
    (sym c.task_has.ensures ∙ c.if-not-task_has.false))
