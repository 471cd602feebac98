use Rattle.std.proofs.Common.{◌≡◌, ℕ, ◌<◌, List, length, sym, ap, ◌∙◌, subst, arith}
use Rattle.std.specs.Prelude.{Contains}
use Rattle.yw_path.proofs.DirectLemmas.{all_of, before_at, direct_begins, direct_ends, direct_goes_on, task_read}
use Rattle.yw_path.proofs.direct.direct_rows.Goals as goal
use Rattle.yw_path.specs.Direct.{IsDirectRow}
use Rattle.yw_spec.specs.Net.{places_before}

pub direct_row-requires-clause-places : goal.direct_row-requires-clause-places
direct_row-requires-clause-places c =
    let t : ℕ = c.loop-t.t in
    let is : c.as_slice.result.now ≡ places_before c.args.net.now t =
    c.as_slice.ensures ∙ sym (before_at c.args.net.now t c.index-tasks-t.result (task_read c.args.net.now c.as_slice-tasks.result.now t c.index-tasks-t.result c.as_slice-tasks.ensures c.index-tasks-t.is c.loop-t-test.true)) in
    all_of (λ k. k < length c.args.into.now) c.as_slice.result.now (places_before c.args.net.now t) is
    (λ k h. omega (arith, c.requires.places.before t k h, c.requires.into.len))

pub direct_row-requires-clause-tasks : goal.direct_row-requires-clause-tasks
direct_row-requires-clause-tasks c = λ d u h. omega (arith, (c.requires.into.only d u h).0, ap length c.as_slice-tasks.ensures)

pub loop-t-init : goal.loop-t-init
loop-t-init c = direct_begins c.args.net.now c.args.into.now c.new-rows.result.items c.new-rows.ensures.items

pub loop-t-preserved : goal.loop-t-preserved
loop-t-preserved c =
    let t : ℕ = c.loop-t.t in
    let is : c.as_slice.result.now ≡ places_before c.args.net.now t =
    c.as_slice.ensures ∙ sym (before_at c.args.net.now t c.index-tasks-t.result (task_read c.args.net.now c.as_slice-tasks.result.now t c.index-tasks-t.result c.as_slice-tasks.ensures c.index-tasks-t.is c.loop-t-test.true)) in
    let P : List ℕ → Type 0 = λ places. IsDirectRow (length c.args.net.now.tasks) t (Contains places) c.args.into.now c.in_ok-direct_row.field-0 in
    let Q : ℕ → Type 0 = λ count. IsDirectRow count t (Contains c.as_slice.result.now) c.args.into.now c.in_ok-direct_row.field-0 in
    direct_goes_on c.args.net.now t c.args.into.now c.loop-t.rows.items c.push.new.self.items c.in_ok-direct_row.field-0 c.loop-t.invariant
    (subst P is (subst Q (ap length c.as_slice-tasks.ensures) c.in_ok-direct_row.ensures)) c.in_ok-push.ensures.items

pub returns : goal.returns
returns c = direct_ends c.args.net.now c.loop-t.t c.args.into.now c.loop-t.rows.items (omega (arith, ap length c.as_slice-tasks.ensures)) c.requires.into c.loop-t.invariant
