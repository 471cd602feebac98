use Rattle.std.proofs.Common.{Option, ap, subst, sym, ◌∙◌}
use Rattle.std.specs.Prelude.{option_map}
use Rattle.yw_breaks.proofs.Starts.{starts_first}
use Rattle.yw_breaks.proofs.start.start_rest.Goals as goal
use Rattle.yw_breaks.specs.Start.{start_rule}
use Rattle.yw_breaks.specs.Tables.{start_rest}
use Rattle.yw_state.specs.Broken.{First, placeless}
use Rattle.yw_state.specs.Identity.{Ident}
use Rattle.yw_state.specs.Words.{held}
use Rattle.yw_state.specs.declared.rule.Refusal.{Refusal}

pub returns : goal.returns
returns c = λ known who j has says s h.
    let roles = c.args.roles.now in
    let x = c.args.here.now in
    let here = says s h in
    subst (λ (o : Option Refusal). First (start_rest s who j) o)
    (sym (c.refusal.ensures ∙ ap (option_map placeless) (c.start_rule.ensures known s h ∙ ap (λ (i : Ident). start_rule roles x (held s i)) here.identity)))
    (starts_first known c.args.forest.now s who roles has j x h here)
