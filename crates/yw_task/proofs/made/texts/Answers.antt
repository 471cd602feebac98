use Rattle.std.proofs.Common.{None, Some, [], ap, append-nil, arith, sym, take, ◌++◌, ◌∙◌, ◌∷◌, ◌≡◌}
use Rattle.std.specs.List.{filter_map}
use Rattle.std.proofs.lemmas.List.{take_all}
use Rattle.std.specs.Option.{option_copied, option_to_list}
use Rattle.yw_task.proofs.MadeLaw.{found_more}
use Rattle.yw_task.proofs.made.texts.Goals as goal
use Rattle.yw_task.proofs.made.texts.Goals.{in-Some+in_ok-copy_of+in_ok-push, in_default}
use Rattle.yw_task.specs.Making.{text_by}

pub loop-node-preserved : goal.loop-node-preserved
loop-node-preserved c =
    let g = text_by c.args.k in
    let xs = c.args.nodes.now in
    let so_far = filter_map (text_by c.args.k) (take c.loop-node.node-index xs) in
    let more = found_more (text_by c.args.k) xs c.loop-node.node-index c.node-item.result (omega arith) c.node-item.is in
    elim c.match-text_by.branch [
      | in-Some+in_ok-copy_of+in_ok-push w ↦
          let found : Some w.in_ok-copy_of.field-0 ≡ text_by c.args.k c.node-item.result = ap (λ t. Some t) (w.in_ok-copy_of.ensures ∙ w.as_str.ensures) ∙ w.in-Some.ensures in
          w.texts-is ∙ w.in_ok-push.ensures.ok ∙ ap (λ z. z ++ w.in_ok-copy_of.field-0 ∷ []) c.loop-node.invariant ∙ ap (λ o. so_far ++ option_to_list o) found ∙ sym more
      | in_default w ↦
          let none : None ≡ text_by c.args.k c.node-item.result = sym (ap option_copied w.in_default.is) ∙ c.text_by.ensures in
          w.texts-is ∙ c.loop-node.invariant ∙ sym (append-nil so_far) ∙ ap (λ o. so_far ++ option_to_list o) none ∙ sym more
    ]

pub returns : goal.returns
returns c = c.loop-node.invariant ∙ ap (filter_map (text_by c.args.k)) (take_all _ _ c.loop-node-test.false)
