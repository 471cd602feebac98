use Rattle.std.proofs.Common.{refl, sym}
use Rattle.std.proofs.lemmas.Bool.{true≢false}
use Rattle.yw_accept.specs.Nodes.{task_names}
use Rattle.yw_build.proofs.RowLemmas.{row_within, adds_none, adds_one}
use Rattle.yw_build.proofs.rows.add_place.Goals as goal

pub put-requires : goal.put-requires
put-requires c =
    let net = c.args.numbers.now.said.now in
    row_within net c.args.node.now c.in-Some.task _ (c.in-Some.ensures.found (task_names net.task) c.requires.numbers.tasks c.in-Some.task refl) c.requires.len

pub returns-in_ok-put-in-Some : goal.returns-in_ok-put-in-Some
returns-in_ok-put-in-Some c =
    let net = c.args.numbers.now.said.now in
    adds_one net c.args.node.now c.args.flow.now c.args.rows.now.items c.put.new.rows.items c.in-Some.task c.in_ok-place-in-Some.place c.as_str.result.now c.as_str-in-Some.result.now c.requires.named
    (c.in-Some.ensures.found (task_names net.task) c.requires.numbers.tasks c.in-Some.task refl) c.in_ok-place-in-Some.ensures c.as_str.ensures c.as_str-in-Some.ensures c.requires.len c.in_ok-put-in-Some.ensures

pub returns-in-None : goal.returns-in-None
returns-in-None c =
    let net = c.args.numbers.now.said.now in
    adds_none net c.args.node.now c.args.flow.now c.args.rows.now.items (λ h. true≢false (sym (c.in-None.ensures.missed (task_names net.task) c.requires.numbers.tasks h)))
