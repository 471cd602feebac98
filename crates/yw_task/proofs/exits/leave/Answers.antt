use Rattle.std.proofs.Common.{List, ap, ◌∙◌, ◌≡◌}
use Rattle.std.specs.Prelude.{fold}
use Rattle.yw_base.specs.declared.value.Value.{Value}
use Rattle.yw_expr.specs.Rows.{put_in}
use Rattle.yw_task.proofs.ExitLaw.{leaves}
use Rattle.yw_task.proofs.TurnLaw.{own_boxed}
use Rattle.yw_task.proofs.exits.leave.Goals as goal
use Rattle.yw_tree.specs.declared.NetState.{out-NetState}

pub clear_region-requires : goal.clear_region-requires
clear_region-requires c =
    own_boxed c.lose_items.new.state c.put_values.new.state (out-NetState c.lose_items.new.state).marks (fold put_in (out-NetState c.lose_items.new.state).vals c.args.puts) c.put_values.ensures
    c.lose_items.ensures.boxed

pub returns-clause-leaves : goal.returns-clause-leaves
returns-clause-leaves c =
    let lost = c.lose_items.new.state in
    let put : out-NetState c.put_values.new.state ≡ record (out-NetState lost) { vals = fold put_in (out-NetState c.args.state.now).vals c.args.puts } =
    c.put_values.ensures ∙ ap (λ (vs : List Value). record (out-NetState lost) { vals = fold put_in vs c.args.puts }) c.lose_items.ensures.vals in
    leaves c.args.task.now c.args.t (fold put_in (out-NetState c.args.state.now).vals c.args.puts) c.args.places.now c.args.state.now lost c.put_values.new.state c.clear_region.new.state c.produce.new.state
    c.lose_items.ensures.turns put c.clear_region.ensures.turns c.produce.ensures.tokens
