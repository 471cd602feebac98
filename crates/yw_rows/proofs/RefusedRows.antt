-- The first rule that a line breaks, at states that rest.
use Rattle.std.specs.Prelude.{[], ◌∷◌, Some, codes, pos, true, refl}
use Rattle.yw_base.specs.declared.value.Value.TheVariants as values
use Rattle.yw_rows.proofs.OrJoinLemmas.{waits}
use Rattle.yw_rows.proofs.Refused as refused
use Rattle.yw_rows.proofs.Resting.{IsStill}
use Rattle.yw_rows.specs.Assignments.{ins_row}
use Rattle.yw_rows.specs.Mapping.{mapping_row}
use Rattle.yw_rows.specs.OrJoin.{or_row}
use Rattle.yw_rows.specs.Others.{by_bob}
use Rattle.yw_rows.specs.Play.{RefusedAt, Then, begun}
use Rattle.yw_rows.specs.Seq.{seq_row}
use Rattle.yw_rows.specs.Several.{empty_row, several_row}
use Rattle.yw_rows.specs.Written.{given}
use Rattle.yw_state.specs.Allowed.{allows}
use Rattle.yw_state.specs.Broken.{checks, placed, placeless}
use Rattle.yw_state.specs.Events.{after}
use Rattle.yw_state.specs.declared.command.Command.TheVariants as commands
use Rattle.yw_state.specs.declared.rule.Rule.TheVariants as rules

several_row_5_rests : Then several_row 5 IsStill
unfolding allows after
several_row_5_rests = record { sites = refl; rules = refl }

empty_row_3_rests : Then empty_row 3 IsStill
unfolding allows after
empty_row_3_rests = record { sites = refl; rules = refl }

mapping_row_5_rests : Then mapping_row 5 IsStill
unfolding allows after
mapping_row_5_rests = record { sites = refl; rules = refl }

seq_row_3_rests : Then seq_row 3 IsStill
unfolding allows after
seq_row_3_rests = record { sites = refl; rules = refl }

seq_row_4_rests : Then seq_row 4 IsStill
unfolding allows after
seq_row_4_rests = record { sites = refl; rules = refl }

seq_row_5_rests : Then seq_row 5 IsStill
unfolding allows after
seq_row_5_rests = record { sites = refl; rules = refl }

by_bob_6_rests : Then by_bob 6 IsStill
unfolding allows after
by_bob_6_rests = record { sites = refl; rules = refl }

several_row_9_rests : Then several_row 9 IsStill
unfolding allows after
several_row_9_rests = record { sites = refl; rules = refl }

several_row_4_rests : Then several_row 4 IsStill
unfolding allows after
several_row_4_rests = record { sites = refl; rules = refl }

ins_row_3_rests : Then ins_row 3 IsStill
unfolding allows after
ins_row_3_rests = record { sites = refl; rules = refl }

or_row_10_rests : Then or_row 10 IsStill
unfolding allows after
or_row_10_rests = record { sites = refl; rules = refl }

pub several_most : RefusedAt several_row 5 (commands.Add (codes "ann") (1 ∷ []) (codes "m") (Some (values.Text (codes "s")))) (placeless rules.MaxReached)
unfolding allows after checks
several_most = refused.add (begun several_row 5) (codes "ann") (1 ∷ []) (codes "m") (Some (values.Text (codes "s"))) (Some (placeless rules.MaxReached)) several_row_5_rests refl

pub empty_list_refused : RefusedAt empty_row 3 (commands.Enter (codes "ann") (1 ∷ []) (codes "m")) (placeless rules.Count)
unfolding allows after checks
empty_list_refused = refused.enter (begun empty_row 3) (codes "ann") (1 ∷ []) (codes "m") (Some (placeless rules.Count)) empty_row_3_rests refl refl

pub mapping_refused : RefusedAt mapping_row 5 (commands.Complete (codes "ann") (1 ∷ 2 ∷ []) (given (codes "den") (values.Int (pos 0)) ∷ [])) (placed rules.Mapping (codes "x"))
unfolding allows after checks
mapping_refused = refused.complete (begun mapping_row 5) (codes "ann") (1 ∷ 2 ∷ []) (given (codes "den") (values.Int (pos 0)) ∷ []) (Some (placed rules.Mapping (codes "x"))) mapping_row_5_rests refl

pub enter_task : RefusedAt seq_row 3 (commands.Enter (codes "ann") (1 ∷ []) (codes "z")) (placeless rules.UnknownTask)
unfolding allows after checks
enter_task = refused.enter (begun seq_row 3) (codes "ann") (1 ∷ []) (codes "z") (Some (placeless rules.UnknownTask)) seq_row_3_rests refl refl

pub enter_active : RefusedAt seq_row 4 (commands.Enter (codes "ann") (1 ∷ []) (codes "a")) (placeless rules.Active)
unfolding allows after checks
enter_active = refused.enter (begun seq_row 4) (codes "ann") (1 ∷ []) (codes "a") (Some (placeless rules.Active)) seq_row_4_rests refl refl

pub enter_tokens : RefusedAt seq_row 3 (commands.Enter (codes "ann") (1 ∷ []) (codes "b")) (placeless rules.NotEnabled)
unfolding allows after checks
enter_tokens = refused.enter (begun seq_row 3) (codes "ann") (1 ∷ []) (codes "b") (Some (placeless rules.NotEnabled)) seq_row_3_rests refl refl

pub start_stage : RefusedAt seq_row 5 (commands.Start (codes "ann") (1 ∷ 2 ∷ [])) (placeless rules.Stage)
unfolding allows after checks
start_stage = refused.start (begun seq_row 5) (codes "ann") (1 ∷ 2 ∷ []) (Some (placeless rules.Stage)) seq_row_5_rests refl

pub complete_stage : RefusedAt seq_row 4 (commands.Complete (codes "ann") (1 ∷ 2 ∷ []) []) (placeless rules.Stage)
unfolding allows after checks
complete_stage = refused.complete (begun seq_row 4) (codes "ann") (1 ∷ 2 ∷ []) [] (Some (placeless rules.Stage)) seq_row_4_rests refl

pub complete_another : RefusedAt by_bob 6 (commands.Complete (codes "ann") (1 ∷ 2 ∷ []) []) (placeless rules.NotYours)
unfolding allows after checks
complete_another = refused.complete (begun by_bob 6) (codes "ann") (1 ∷ 2 ∷ []) [] (Some (placeless rules.NotYours)) by_bob_6_rests refl

pub complete_unknown : RefusedAt by_bob 6 (commands.Complete (codes "bob") (1 ∷ 2 ∷ []) (given (codes "k") (values.Int (pos 1)) ∷ [])) (placed rules.Output (codes "k"))
unfolding allows after checks
complete_unknown = refused.complete (begun by_bob 6) (codes "bob") (1 ∷ 2 ∷ []) (given (codes "k") (values.Int (pos 1)) ∷ []) (Some (placed rules.Output (codes "k"))) by_bob_6_rests refl

pub complete_lacking : RefusedAt mapping_row 5 (commands.Complete (codes "ann") (1 ∷ 2 ∷ []) []) (placed rules.Output (codes "den"))
unfolding allows after checks
complete_lacking = refused.complete (begun mapping_row 5) (codes "ann") (1 ∷ 2 ∷ []) [] (Some (placed rules.Output (codes "den"))) mapping_row_5_rests refl

pub complete_sort : RefusedAt mapping_row 5 (commands.Complete (codes "ann") (1 ∷ 2 ∷ []) (given (codes "den") (values.Bool true) ∷ given (codes "k") (values.Int (pos 1)) ∷ [])) (placed rules.Output (codes "den"))
unfolding allows after checks
complete_sort = refused.complete (begun mapping_row 5) (codes "ann") (1 ∷ 2 ∷ []) (given (codes "den") (values.Bool true) ∷ given (codes "k") (values.Int (pos 1)) ∷ []) (Some (placed rules.Output (codes "den"))) mapping_row_5_rests refl

pub complete_undefined : RefusedAt mapping_row 5 (commands.Complete (codes "ann") (1 ∷ 2 ∷ []) (given (codes "den") (values.Int (pos 0)) ∷ [])) (placed rules.Mapping (codes "x"))
unfolding allows after checks
complete_undefined = refused.complete (begun mapping_row 5) (codes "ann") (1 ∷ 2 ∷ []) (given (codes "den") (values.Int (pos 0)) ∷ []) (Some (placed rules.Mapping (codes "x"))) mapping_row_5_rests refl

pub add_stage : RefusedAt several_row 9 (commands.Add (codes "ann") (1 ∷ []) (codes "m") (Some (values.Text (codes "s")))) (placeless rules.Stage)
unfolding allows after checks
add_stage = refused.add (begun several_row 9) (codes "ann") (1 ∷ []) (codes "m") (Some (values.Text (codes "s"))) (Some (placeless rules.Stage)) several_row_9_rests refl

pub add_sort : RefusedAt several_row 4 (commands.Add (codes "ann") (1 ∷ []) (codes "m") (Some (values.Int (pos 5)))) (placed rules.BadData (codes "value"))
unfolding allows after checks
add_sort = refused.add (begun several_row 4) (codes "ann") (1 ∷ []) (codes "m") (Some (values.Int (pos 5))) (Some (placed rules.BadData (codes "value"))) several_row_4_rests refl

pub given_nothing_mapping : RefusedAt ins_row 3 (commands.Enter (codes "ann") (1 ∷ []) (codes "t")) (placed rules.Mapping (codes "p"))
unfolding allows after checks
given_nothing_mapping = refused.enter (begun ins_row 3) (codes "ann") (1 ∷ []) (codes "t") (Some (placed rules.Mapping (codes "p"))) ins_row_3_rests refl refl

pub join_waits : RefusedAt or_row 10 (commands.Enter (codes "ann") (1 ∷ []) (codes "j")) (placeless rules.OrWaits)
unfolding allows after checks
join_waits = refused.or_waits (begun or_row 10) (codes "ann") (1 ∷ []) (codes "j") or_row_10_rests refl waits refl
