use Rattle.std.proofs.Common.{None, Option, Some, [], ap, append-nil, arith, sym, take, List, ℕ, ◌++◌, ◌∙◌, ◌∷◌, ◌≡◌}
use Rattle.std.specs.List.{filter_map}
use Rattle.std.specs.Prelude.{option_and_then}
use Rattle.std.proofs.lemmas.List.{take_all}
use Rattle.std.specs.Option.{option_copied, option_to_list}
use Rattle.yw_state.specs.Passing.{text_in}
use Rattle.yw_steps.specs.Completes.{made_once}
use Rattle.yw_task.proofs.MadeLaw.{found_more}
use Rattle.yw_steps.proofs.together.texts.Goals as goal
use Rattle.yw_steps.proofs.together.texts.Goals.{in-Some+in_ok-copy_of+in_ok-push, in_default}
use Rattle.yw_tree.specs.declared.Node.{Node}

pub loop-node-preserved : goal.loop-node-preserved
loop-node-preserved c =
    let g : Node → Option (List ℕ) = λ n. option_and_then text_in (made_once c.args.j.now c.args.out.now c.args.k n) in
    let xs = c.args.nodes.now in
    let so_far = filter_map g (take c.loop-node.node-index xs) in
    let more = found_more g xs c.loop-node.node-index c.node-item.result (omega arith) c.node-item.is in
    elim c.match-text_once.branch [
      | in-Some+in_ok-copy_of+in_ok-push w ↦
          let found : Some w.in_ok-copy_of.field-0 ≡ g c.node-item.result = ap (λ t. Some t) (w.in_ok-copy_of.ensures ∙ w.as_str.ensures) ∙ w.in-Some.ensures in
          w.texts-is ∙ w.in_ok-push.ensures.ok ∙ ap (λ z. z ++ w.in_ok-copy_of.field-0 ∷ []) c.loop-node.invariant ∙ ap (λ o. so_far ++ option_to_list o) found ∙ sym more
      | in_default w ↦
          let none : None ≡ g c.node-item.result = sym (ap option_copied w.in_default.is) ∙ c.text_once.ensures in
          w.texts-is ∙ c.loop-node.invariant ∙ sym (append-nil so_far) ∙ ap (λ o. so_far ++ option_to_list o) none ∙ sym more
    ]

pub returns : goal.returns
returns c = c.loop-node.invariant ∙ ap (filter_map (λ n. option_and_then text_in (made_once c.args.j.now c.args.out.now c.args.k n))) (take_all _ _ c.loop-node-test.false)
