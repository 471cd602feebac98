use Rattle.std.proofs.Common.{length, refl}
use Rattle.std.proofs.lemmas.Bool.{ltb-true}
use Rattle.yw_nest.proofs.CaseBegins.{begun_boxed, launched}
use Rattle.yw_nest.proofs.begin.launch.Goals as goal
use Rattle.yw_tree.proofs.OnResults.{on_ok}

pub new_net-requires : goal.new_net-requires
new_net-requires c =
    let top = c.net_numbered-top.result.now in
    ltb-true top.input (length top.places) (c.requires.may.within.nets c.args.spec.now.top top c.net_numbered-top.ensures).input

pub add_case-requires-clause-well : goal.add_case-requires-clause-well
add_case-requires-clause-well c = begun_boxed c.in_ok-of_number.field-0 c.in_ok-new_net.field-0 c.args.due c.in_ok-new_net.ensures.empty c.in_ok-new_net.ensures.boxed

pub returns-clause-ok : goal.returns-clause-ok
returns-clause-ok c =
    on_ok c.add_case.result _ _ c.add_case.ensures.begins
    (λ gets.
    launched c.args.forest.now c.add_case.new.self c.args.spec.now c.args.number c.args.n c.args.vals c.args.due c.net_numbered-top.result.now c.net_numbered-top.ensures c.in_ok-of_number.field-0
    c.in_ok-of_number.ensures c.in_ok-new_net.field-0 c.in_ok-new_net.ensures (gets c.in_ok-new_net.ensures.empty refl) c.add_case.ensures.kept)
