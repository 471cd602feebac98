use Rattle.std.proofs.Common.{◌≡◌, true, sym, ap, ◌∙◌}
use Rattle.yw_grammar.specs.Machine.{ends_top}
use Rattle.yw_grammar.specs.SyntaxTree.{form_of}
use Rattle.yw_grammar.specs.Tie.{tops}
use Rattle.yw_grammar.proofs.Tops.{fold_step}
use Rattle.yw_grammar.proofs.stack.fold_top.Goals as goal

pub ends-preserved : goal.ends-preserved
ends-preserved c =
    let test : ends_top c.args.level (tops c.ends.stack.items) ≡ true =
    ap (λ s. ends_top c.args.level (tops s)) (sym c.deref.ensures.value) ∙ sym c.ends_top.ensures ∙ c.ends-test.true in
    c.ends.invariant ∙ fold_step c.args.level c.ends.stack.items c.take_top.new.stack.items c.in-Some.frame (form_of c.ends.hand) (form_of c.in_ok-hand-in-Some.hand) c.in-Some.ensures.top test c.in_ok-hand-in-Some.ensures
