use Rattle.std.proofs.Common.{Some, [], ap, sym, ◌∙◌, arith, length, ◌≤◌}
use Rattle.std.proofs.lemmas.List.{take_all}
use Rattle.yw_grammar.specs.Machine.{want, run_on}
use Rattle.yw_grammar.specs.Tie.{state_of}
use Rattle.yw_grammar.proofs.Turns.{run_more, fault_at, ends_with}
use Rattle.yw_grammar.proofs.parser.run.Goals as goal

pub returns-in-Err : goal.returns-in-Err
returns-in-Err c = fault_at c.args.lexemes.now c.loop-lexeme.lexeme-index _ (state_of c.loop-lexeme.stack.items c.loop-lexeme.hand) (omega arith) c.loop-lexeme.invariant c.in-Err.fault c.args.end c.in-Err.ensures

pub loop-lexeme-preserved : goal.loop-lexeme-preserved
loop-lexeme-preserved c = run_more c.args.lexemes.now c.loop-lexeme.lexeme-index _ (state_of c.loop-lexeme.stack.items c.loop-lexeme.hand) (omega arith) c.loop-lexeme.invariant _ c.in-Ok.ensures

pub returns : goal.returns
returns c =
    let all : length c.args.lexemes.now ≤ c.loop-lexeme.lexeme-index = omega arith in
    ends_with c.args.lexemes.now (state_of c.loop-lexeme.stack.items c.loop-lexeme.hand) c.args.end c.finish.result
    (ap (run_on (Some (want []))) (sym (take_all c.loop-lexeme.lexeme-index c.args.lexemes.now all)) ∙ c.loop-lexeme.invariant) c.finish.ensures
