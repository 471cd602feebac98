use Rattle.std.proofs.Common.{◌∙◌, ◌++◌, ap, map, sym}
use Rattle.std.proofs.lemmas.List.{map-append}
use Rattle.yw_library.specs.Ended.{ended_of}
use Rattle.yw_restore.proofs.Below.{all_lower, less_on, level, lower, next_level, none_lower, numbered_climb, of_number}
use Rattle.yw_restore.proofs.Over.{ended_from, ended_to, found_level}
use Rattle.yw_restore.proofs.ended.ended_rows.Goals as goal
use Rattle.yw_restore.specs.Gathers.{row_if_ended}
use Rattle.yw_state.specs.Map.{entries, get}
use Rattle.yw_states.specs.States.{ended_row}

pub loop-n-init : goal.loop-n-init
loop-n-init c = λ drawn.
    let m = ended_of c.args.ended.now in
    c.new-rows.ensures ∙ sym (ap (map ended_row) (none_lower of_number 1 (entries m) (ended_from c.args.next m drawn)))

pub loop-n-preserved : goal.loop-n-preserved
loop-n-preserved c = λ drawn.
    let m = ended_of c.args.ended.now in
    let es = entries m in
    let n = c.loop-n.n in
    c.in_ok-push_ended.ensures ∙ ap (λ z. z ++ row_if_ended n (get m n)) (c.loop-n.invariant drawn)
    ∙ ap (λ z. map ended_row (lower of_number n es) ++ z) (sym (found_level n es m.sorted))
    ∙ sym (ap (map ended_row) (next_level of_number n es (numbered_climb es m.sorted)) ∙ map-append ended_row (lower of_number n es)
    (level of_number n es))

pub returns : goal.returns
returns c = λ drawn.
    let m = ended_of c.args.ended.now in
    let es = entries m in
    let n = c.loop-n.n in
    c.loop-n.invariant drawn
    ∙ ap (map ended_row) (all_lower of_number n es (less_on of_number n c.args.next es c.loop-n-test.false (ended_to c.args.next m drawn)))
