use Rattle.std.proofs.Common.{sym, ◌∙◌, true≢false}
use Rattle.yw_check_graph.proofs.CycleLemmas.{joins_acyclic, joins_cyclic, joins_none}
use Rattle.yw_check_graph.proofs.joins.joins_of.Goals as goal

pub returns-then-not-branch : goal.returns-then-not-branch
returns-then-not-branch c = joins_acyclic c.args.net.now (λ cycle. true≢false (sym (c.in_ok-has_cycle-in-Some.ensures.1 cycle) ∙ c.if-not-branch.true))

pub returns-in-None : goal.returns-in-None
returns-in-None c = joins_none c.args.net.now c.as_slice.result.now c.as_slice.ensures c.in-None.ensures

pub returns-in_ok-broken-in-Some : goal.returns-in_ok-broken-in-Some
returns-in_ok-broken-in-Some c = joins_cyclic c.args.net.now c.as_slice.result.now c.in-Some.task c.in_ok-broken-in-Some.broken c.as_slice.ensures c.in-Some.ensures (c.in_ok-has_cycle-in-Some.ensures.0 c.if-not-branch.false) (c.in_ok-broken-in-Some.ensures)
