use Rattle.std.proofs.Common.{Some, refl, subst, sym, true, ◌∙◌, ◌≡◌}
use Rattle.yw_base.specs.Identity.{is_identity}
use Rattle.yw_exlet.proofs.ByKind.{completes_again, completes_one}
use Rattle.yw_exlet.proofs.Stands.{target_item}
use Rattle.yw_exlet.proofs.first.complete_of_task.Goals as goal
use Rattle.yw_exlet.specs.Takes.{TakesBy, completes}
use Rattle.yw_tree.specs.Forest.{item_of}

pub item_there-node-requires : goal.item_there-node-requires
item_there-node-requires c = target_item c.args.forest.now c.requires.boxed c.args.j.now c.numbers-target.ensures.identity c.requires.item c.requires.stands

pub returns-then-is_completed-clause-ok : goal.returns-then-is_completed-clause-ok
returns-then-is_completed-clause-ok c = λ top comp due is.
    let f = c.args.forest.now in
    let node = c.item_there-node.result.now in
    completes_again top (Some c.args.task.now) comp due c.args.r.now f c.take_none.new.forest c.take_none.ensures.boxed c.requires.boxed
    (subst (λ k. is_identity k ≡ true) is c.numbers-target.ensures.identity) c.args.task.now refl node (subst (λ k. item_of f k ≡ Some node) is c.item_there-node.ensures)
    (sym c.is_completed.ensures ∙ c.if-is_completed.true) c.take_none.ensures.takes

pub returns-clause-ok : goal.returns-clause-ok
returns-clause-ok c = λ top comp due is.
    let f = c.args.forest.now in
    let g = c.take_completion.new.forest in
    let r = c.args.r.now in
    let node = c.item_there-node.result.now in
    completes_one top (Some c.args.task.now) comp due r f g c.take_completion.ensures.boxed c.requires.boxed
    (subst (λ k. is_identity k ≡ true) is c.numbers-target.ensures.identity) c.args.task.now refl node (subst (λ k. item_of f k ≡ Some node) is c.item_there-node.ensures)
    (sym c.is_completed.ensures ∙ c.if-is_completed.false) c.in_ok-made.made c.in_ok-made.ensures (subst (λ k. TakesBy r (completes r k c.in_ok-made.made) f g) is c.take_completion.ensures.takes)
