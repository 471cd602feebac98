use Rattle.std.proofs.Common.{◌≡◌, ℕ, ◌<◌, List, length, sym, ap, ◌∙◌, subst, arith}
use Rattle.std.specs.Prelude.{Contains}
use Rattle.yw_path.proofs.DirectLemmas.{after_at, all_of, into_more, task_read}
use Rattle.yw_path.proofs.direct.tasks_into.Goals as goal
use Rattle.yw_path.specs.Direct.{AreInto, PushesEach}
use Rattle.yw_spec.specs.Net.{places_after}

pub push_each-requires : goal.push_each-requires
push_each-requires c =
    let t : ℕ = c.loop-t.t in
    let is : c.as_slice-in-loop-t.result.now ≡ places_after c.args.net.now t =
    c.as_slice-in-loop-t.ensures ∙ sym (after_at c.args.net.now t c.task-item.result (task_read c.args.net.now c.as_slice-task-items.result.now t c.task-item.result c.as_slice-task-items.ensures c.task-item.is c.loop-t-test.true)) in
    all_of (λ k. k < length c.loop-t.into.items) c.as_slice-in-loop-t.result.now (places_after c.args.net.now t) is
    (λ k h. omega (arith, c.requires.after t k h, c.loop-t.invariant.len))

pub loop-t-preserved : goal.loop-t-preserved
loop-t-preserved c =
    let t : ℕ = c.loop-t.t in
    let is : c.as_slice-in-loop-t.result.now ≡ places_after c.args.net.now t =
    c.as_slice-in-loop-t.ensures ∙ sym (after_at c.args.net.now t c.task-item.result (task_read c.args.net.now c.as_slice-task-items.result.now t c.task-item.result c.as_slice-task-items.ensures c.task-item.is c.loop-t-test.true)) in
    let P : List ℕ → Type 0 = λ places. PushesEach (Contains places) t c.loop-t.into.items c.push_each.new.into.items in
    into_more c.args.net.now t c.loop-t.into.items c.push_each.new.into.items c.loop-t.invariant (subst P is c.in_ok-push_each.ensures)

pub returns : goal.returns
returns c =
    let last : c.loop-t.t ≡ length c.args.net.now.tasks = omega (arith, ap length c.as_slice-task-items.ensures) in
    let P : ℕ → Type 0 = λ n. AreInto c.args.net.now n c.loop-t.into.items in
    subst P last c.loop-t.invariant
