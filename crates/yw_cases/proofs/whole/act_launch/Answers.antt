use Rattle.std.proofs.Common.{List, ap, sym, ◌+◌, ◌∙◌}
use Rattle.std.specs.Prelude.{slice_get}
use Rattle.yw_cases.proofs.Launching.{case_may_begin, launched, launches_so, next_fits, numbered_kept, numbered_there}
use Rattle.yw_cases.proofs.whole.act_launch.Goals as goal
use Rattle.yw_library.specs.Holdings.{Holdings}
use Rattle.yw_standing.proofs.Trying.{fits_below}
use Rattle.yw_state.specs.declared.loaded.Loaded.{Loaded}

pub unreachable-requires : goal.unreachable-requires
unreachable-requires c =
    let known = c.args.standing.now.known in
    let k = c.args.number in
    let specs = c.specs.ensures.all ∙ ap (λ (z : Holdings). z.specs) c.library.ensures in
    numbered_there known c.args._name.now k c.requires.number (ap (λ (ls : List Loaded). slice_get ls k) (sym specs) ∙ sym c.in_default.ensures)

pub launch-requires-clause-may : goal.launch-requires-clause-may
launch-requires-clause-may c =
    let h = c.args.standing.now in
    let may = c.requires.stands in
    let name = c.args._name.now in
    let vals = c.args.values.now in
    let k = c.args.number in
    let specs = c.specs.ensures.all ∙ ap (λ (z : Holdings). z.specs) c.library.ensures in
    let l = c.in-Some.loaded.now in
    let at = ap (λ (ls : List Loaded). slice_get ls k) (sym specs) ∙ sym c.in-Some.ensures in
    let kept = numbered_kept h.known name k c.requires.number l at in
    case_may_begin h may c.args.n name vals l.spec k kept (launches_so h may c.args.n name vals l.spec k kept c.requires.leads)

pub returns : goal.returns
returns c =
    let h = c.args.standing.now in
    let may = c.requires.stands in
    let name = c.args._name.now in
    let vals = c.args.values.now in
    let k = c.args.number in
    let specs = c.specs.ensures.all ∙ ap (λ (z : Holdings). z.specs) c.library.ensures in
    let l = c.in-Some.loaded.now in
    let at = ap (λ (ls : List Loaded). slice_get ls k) (sym specs) ∙ sym c.in-Some.ensures in
    let kept = numbered_kept h.known name k c.requires.number l at in
    launched h may c.args.n name vals l.spec k kept (launches_so h may c.args.n name vals l.spec k kept c.requires.leads)
    c.launch.new.forest c.in_ok-copy.copy c.in_ok-copy.ensures c.in_ok-launch.ensures.ok

pub overflow_add-standing : goal.overflow_add-standing
overflow_add-standing c =
    let h = c.args.standing.now in
    let may = c.requires.stands in
    let name = c.args._name.now in
    let vals = c.args.values.now in
    let k = c.args.number in
    let specs = c.specs.ensures.all ∙ ap (λ (z : Holdings). z.specs) c.library.ensures in
    let l = c.in-Some.loaded.now in
    let at = ap (λ (ls : List Loaded). slice_get ls k) (sym specs) ∙ sym c.in-Some.ensures in
    let kept = numbered_kept h.known name k c.requires.number l at in
    fits_below (c.args.n + 1) (next_fits h may c.args.n name vals l.spec k kept c.requires.leads)
