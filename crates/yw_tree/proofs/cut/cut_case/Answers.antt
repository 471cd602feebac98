use Rattle.std.proofs.Common.{◌≡◌, [], None, sym, ◌∙◌}
use Rattle.yw_sites.proofs.OnTests.{not_there, on_false}
use Rattle.yw_tree.specs.Cases.{case_at}
use Rattle.yw_tree.proofs.Lift.{case_cut, none_at}
use Rattle.yw_tree.proofs.cut.cut_case.Goals as goal

pub returns-clause-sites : goal.returns-clause-sites
returns-clause-sites c = λ names. (case_cut names c.args.n c.args.forest.now (record { cases = c.remove.new.self }) c.requires c.remove.ensures.gone).0

pub returns-clause-kept : goal.returns-clause-kept
returns-clause-kept c = (case_cut (λ n. []) c.args.n c.args.forest.now (record { cases = c.remove.new.self }) c.requires c.remove.ensures.gone).1

pub returns-clause-stays : goal.returns-clause-stays
returns-clause-stays c = on_false c.is_some.result _ (λ t.
    let f = c.args.forest.now in
    let none : case_at c.args.n f.cases ≡ None = sym c.remove.ensures.value ∙ not_there c.remove.result (sym c.is_some.ensures ∙ t) in
    (λ j. record { cases = (c.remove.ensures.gone ∙ (none_at c.args.n f.cases none).0) j }))
