use Rattle.std.proofs.Common.{ℕ, List, subst, length}
use Rattle.yw_reach.specs.Flows.{IsFirstOffPath}
use Rattle.yw_reach.specs.declared.flow.Flow.{Flow}
use Rattle.yw_read.specs.declared.raw.RawFlow.{RawFlow}
use Rattle.yw_check_graph.specs.Graph.{AreNumbered}
use Rattle.yw_check_graph.proofs.PathLemmas.{finds_off_path}
use Rattle.yw_check_graph.proofs.paths.off_path.Goals as goal

pub returns : goal.returns
returns c =
    let S : List RawFlow → Type 0 = λ said. AreNumbered c.args.names.now said c.in_ok-flows.flows.items in
    let F : List Flow → Type 0 = λ flows. IsFirstOffPath (length c.args.names.now) flows 0 1 c.in_ok-found.found in
    let P : List (List ℕ) → Type 0 = λ names. AreNumbered names c.args.net.now.flows c.in_ok-flows.flows.items in
    let Q : List (List ℕ) → Type 0 = λ names. IsFirstOffPath (length names) c.in_ok-flows.flows.items 0 1 c.in_ok-found.found in
    finds_off_path c.args.net.now c.in_ok-flows.flows.items c.requires.named
    (subst P c.requires.names (subst S c.as_slice.ensures (c.in_ok-flows.ensures))) c.in_ok-found.found
    (subst Q c.requires.names (subst F c.deref.ensures.value (c.in_ok-found.ensures)))
