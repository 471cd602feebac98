use Rattle.std.proofs.Common.{List, [], ap, append_assoc, arith, length, length-append, subst, sym, ◌++◌, ◌+◌, ◌∙◌, ◌∷◌, ◌≡◌}
use Rattle.std.specs.Vec.Iter.{into_iter_items}
use Rattle.yw_state.specs.Values.{Row}
use Rattle.yw_task.proofs.Arriving.{before_next, got_more, is_last}
use Rattle.yw_task.proofs.coming.put_items.Goals as goal
use Rattle.yw_task.specs.Items.{AreBefore, row_of}

pub put_item-requires-clause-last : goal.put_item-requires-clause-last
put_item-requires-clause-last c =
    let l = c.loop-given in
    let ready = c.in_ok-node.ensures in
    is_last l.state c.in_ok-node.node c.args.at.now c.args.t l.number ready.id ready.task l.invariant.before

pub loop-given-preserved : goal.loop-given-preserved
loop-given-preserved c =
    let l = c.loop-given in
    let given = c.in-Some.given in
    let n = c.in_ok-node.node in
    let i = c.args.at.now in
    let t = c.args.t in
    let ready = c.in_ok-node.ensures in
    let puts = c.in_ok-put_item.ensures in
    let steps : into_iter_items l.given-iterator ≡ given ∷ into_iter_items c.next.new.self = c.in-Some.ensures.steps.0 in
    let one : List Row = given ∷ [] in
    let longer = length-append l.yielded one in
    let row : row_of c.put_item.new.net t ≡ row_of l.state t ++ (n ∷ []) = subst (λ k. row_of c.put_item.new.net k ≡ row_of l.state k ++ (n ∷ [])) ready.task puts.row in
    record {
      all = append_assoc l.yielded one (into_iter_items c.next.new.self) ∙ ap (λ z. l.yielded ++ z) (sym steps) ∙ l.invariant.all;
      left = let was = l.invariant.left in
          let gone = c.in-Some.ensures.steps.1 in
          let short = ap length steps in
          omega arith;
      number = let was = l.invariant.number in omega arith;
      boxed = puts.adds.boxed;
      lists = puts.lists ∙ l.invariant.lists;
      before = subst (AreBefore i (l.number + 1)) (sym row) (before_next i l.number (row_of l.state t) n ready.id l.invariant.before);
      got = got_more i t c.args.due l.yielded c.args.first l.number c.args.state.now l.state c.put_item.new.net given n l.invariant.got l.invariant.number ready puts.adds;
    }
