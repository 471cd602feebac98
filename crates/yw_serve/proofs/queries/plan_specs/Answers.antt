use Rattle.std.proofs.Common.{◌≡◌, ℕ, List, ◌∙◌, sym, ap, subst}
use Rattle.yw_engine.specs.Held as engine
use Rattle.yw_library.specs.Holdings.{Holdings, with_library}
use Rattle.yw_lines.specs.Answers.{answer_line, names_data}
use Rattle.yw_serve.proofs.ToldLemmas.{specs_told}
use Rattle.yw_serve.proofs.queries.plan_specs.Goals as goal

pub returns : goal.returns
returns c =
    let s = engine.state_of c.args.engine.now in
    let held = c.is_held.ensures c.requires in
    let named = c.in_ok-names.ensures s (subst (λ (k : Holdings). s ≡ with_library s k) (sym c.library.ensures) held.library) in
    specs_told s c.args.n _ (c.in_ok-reply_names.ensures ∙ ap (λ (names : List (List ℕ)). answer_line c.args.n (names_data names)) named)
