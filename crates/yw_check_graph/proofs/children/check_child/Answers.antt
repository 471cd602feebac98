use Rattle.std.proofs.Common.{◌∙◌, sym, true≢false}
use Rattle.yw_accept.specs.Nodes.{net_names}
use Rattle.yw_check_graph.proofs.ChildLemmas.{told}
use Rattle.yw_check_graph.proofs.children.check_child.Goals.{else-may_be_child-via-then-may_be_child+else-not-is_marked, else-may_be_child-via-else-may_be_child}
use Rattle.yw_check_graph.proofs.children.check_child.Goals as goal

pub returns-then-not-is_marked : goal.returns-then-not-is_marked
returns-then-not-is_marked c = (
  sym c.may_be_child.ensures ∙ c.if-may_be_child.true,
  λ back.
      let t = told c.args.raw.now c.args.net.now c.args.task.now c.requires.net c.requires.task c.args.back.now c.child_number.result c.requires.back
      (c.child_number.ensures (net_names c.args.raw.now.net) c.requires.graph.index) in
      true≢false (sym (c.is_marked.ensures.1 (t.1 back)) ∙ c.if-not-is_marked.true),
)

pub returns : goal.returns
returns c = (
  (λ both. elim c.else-may_be_child.branch [
    | else-may_be_child-via-then-may_be_child+else-not-is_marked w ↦
        let t = told c.args.raw.now c.args.net.now c.args.task.now c.requires.net c.requires.task c.args.back.now w.child_number.result c.requires.back
        (w.child_number.ensures (net_names c.args.raw.now.net) c.requires.graph.index) in
        both.1 (t.0 (w.is_marked.ensures.0 w.if-not-is_marked.false))
    | else-may_be_child-via-else-may_be_child w ↦ true≢false (sym both.0 ∙ sym c.may_be_child.ensures ∙ w.if-may_be_child.false)
  ]),
  (c.in_ok-broken.ensures),
)
