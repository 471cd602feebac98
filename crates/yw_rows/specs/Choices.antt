-- Choices that the rows above don't make: a worklet that isn't chosen, a vote that fails, and a split and a join over several places.
-- What is to be shown was worked out by hand from the rules of tokens, items, values and checks, and not taken from what these
-- definitions give.
use Rattle.std.specs.Prelude.{pos, List, [], ◌∷◌, ◌++◌, take, Some, None, codes}
use Rattle.yw_base.specs.declared.value.Sort.TheVariants as sorts
use Rattle.yw_base.specs.declared.value.Value.TheVariants as values
use Rattle.yw_expr.specs.Tree.{constant, variable, binary}
use Rattle.yw_grammar.specs.declared.symbol.Infix.TheVariants.{Greater}
use Rattle.yw_rows.specs.Loan.{loan_at_top, loan_row, number, people}
use Rattle.yw_rows.specs.Play.{Entry}
use Rattle.yw_rows.specs.Written.{item, load, net, net_row, nothing_shown, person, plain, spec, task, token, var}
use Rattle.yw_spec.specs.declared.spec.Net.{Net}
use Rattle.yw_spec.specs.declared.spec.Place.TheVariants.{Between, Named}
use Rattle.yw_spec.specs.declared.spec.Spec.{Spec}
use Rattle.yw_base.specs.declared.usage.Usage.TheVariants as usages
use Rattle.yw_base.specs.declared.gate.Gate.TheVariants.{Or}
use Rattle.yw_state.specs.declared.answer.NetRow.{NetRow}
use Rattle.yw_state.specs.declared.answer.Shown.{Shown}
use Rattle.yw_state.specs.declared.event.Event.{Event}
use Rattle.yw_state.specs.declared.event.Event.TheVariants as events
use Rattle.yw_state.specs.declared.part.Stage.TheVariants as stages
use Rattle.yw_state.specs.declared.tree.TreeKind.TheVariants as kinds

-- a small amount: no worklet is chosen, and a person starts the assessment
abbrev pub small_loan : List Entry
small_loan =
    take 11 loan_row ++ (plain
    (events.Complete (1 ∷ 2 ∷ []) (values.Int (pos 500) ∷ [])
    ∷ events.Exit (1 ∷ []) (codes "apply") (Between (codes "apply") (codes "review") ∷ [])
    ∷ events.Enter (1 ∷ []) (codes "review") (Between (codes "apply") (codes "review") ∷ []) 3 1
    ∷ events.StartSub (1 ∷ 3 ∷ [])
    ∷ events.Enter (1 ∷ 3 ∷ []) (codes "assess") (Named (codes "i") ∷ []) 4 1
    ∷ events.Pass (1 ∷ 3 ∷ 4 ∷ []) kinds.Select
    ∷ [])
    ∷ plain (events.Start (1 ∷ 3 ∷ 4 ∷ []) (codes "bob") ∷ [])
    ∷ [])

-- one of two votes: the loan is refused, by nobody, and the case is at its end
abbrev pub lost_vote : List Entry
lost_vote =
    take 19 loan_row ++ (plain
    (events.Complete (1 ∷ 3 ∷ 7 ∷ []) (values.Int (pos 0) ∷ [])
    ∷ events.Exit (1 ∷ 3 ∷ []) (codes "vote") (Named (codes "o") ∷ [])
    ∷ events.CompleteSub (1 ∷ 3 ∷ [])
    ∷ events.Exit (1 ∷ []) (codes "review") (Between (codes "review") (codes "refuse") ∷ [])
    ∷ [])
    ∷ [])

abbrev pub lost_loan : List Entry
lost_loan =
    lost_vote ++ (plain
    (events.Enter (1 ∷ []) (codes "refuse") (Between (codes "review") (codes "refuse") ∷ []) 8 1
    ∷ events.CompleteEmpty (1 ∷ 8 ∷ [])
    ∷ events.Exit (1 ∷ []) (codes "refuse") (Named (codes "o") ∷ [])
    ∷ events.Finish 1
    ∷ [])
    ∷ [])

abbrev small_top : NetRow
small_top = net_row (1 ∷ []) (codes "loan") (codes "main") (number (codes "amount") (pos 500) ∷ people ∷ number (codes "yes") (pos 0) ∷ [])

abbrev small_board : NetRow
small_board = net_row (1 ∷ 3 ∷ []) (codes "loan") (codes "board") (number (codes "amount") (pos 500) ∷ people ∷ number (codes "yes") (pos 0) ∷ [])

abbrev pub small_started : Shown
small_started =
    record nothing_shown {
      items = item (1 ∷ 3 ∷ []) (codes "review") stages.Executing None ∷ item (1 ∷ 3 ∷ 4 ∷ []) (codes "assess") stages.Executing (Some (codes "bob")) ∷ [];
      nets = small_top ∷ small_board ∷ [];
    }

abbrev pub lost_by_vote : Shown
lost_by_vote =
    record nothing_shown {
      nets = loan_at_top (pos 20000) (pos 1) ∷ [];
      tokens = token (1 ∷ []) (Between (codes "review") (codes "refuse")) 1 ∷ [];
    }

abbrev pub or_split_net : Net
or_split_net =
    net (codes "main")
    (Named (codes "i")
    ∷ Named (codes "o")
    ∷ Named (codes "c1")
    ∷ Named (codes "c2")
    ∷ Named (codes "c3")
    ∷ Named (codes "d1")
    ∷ Named (codes "d2")
    ∷ Named (codes "d3")
    ∷ [])
    (var (codes "n") sorts.Int usages.In (values.Int (pos 0)) ∷ [])
    (record (task (codes "s") (0 ∷ []) (2 ∷ 3 ∷ 4 ∷ [])) {
      split = Or;
      branch = record { to = 2; when = Some (binary Greater (variable 0 sorts.Int) (constant (values.Int (pos 0)))) } ∷ record { to = 3; when = Some (binary Greater (variable 0 sorts.Int) (constant (values.Int (pos 10)))) } ∷ record { to = 4; when = None } ∷ [];
    }
    ∷ task (codes "p") (2 ∷ []) (5 ∷ [])
    ∷ task (codes "q") (3 ∷ []) (6 ∷ [])
    ∷ task (codes "r") (4 ∷ []) (7 ∷ [])
    ∷ record (task (codes "j") (5 ∷ 6 ∷ 7 ∷ []) (1 ∷ [])) { join = Or }
    ∷ [])

abbrev pub or_split : Spec
or_split = spec (codes "r9") (or_split_net ∷ [])

abbrev pub or_split_row : List Entry
or_split_row =
    person (codes "ann") (codes "clerk" ∷ [])
    ∷ load or_split
    ∷ plain (events.Launch 1 (codes "r9") (values.Int (pos 20) ∷ []) ∷ [])
    ∷ plain (events.Enter (1 ∷ []) (codes "s") (Named (codes "i") ∷ []) 2 1 ∷ [])
    ∷ plain (events.Start (1 ∷ 2 ∷ []) (codes "ann") ∷ [])
    ∷ plain (events.Complete (1 ∷ 2 ∷ []) [] ∷ events.Exit (1 ∷ []) (codes "s") (Named (codes "c1") ∷ Named (codes "c2") ∷ []) ∷ [])
    ∷ plain (events.Enter (1 ∷ []) (codes "p") (Named (codes "c1") ∷ []) 3 1 ∷ [])
    ∷ plain (events.Start (1 ∷ 3 ∷ []) (codes "ann") ∷ [])
    ∷ plain (events.Complete (1 ∷ 3 ∷ []) [] ∷ events.Exit (1 ∷ []) (codes "p") (Named (codes "d1") ∷ []) ∷ [])
    ∷ plain (events.Enter (1 ∷ []) (codes "q") (Named (codes "c2") ∷ []) 4 1 ∷ [])
    ∷ plain (events.Start (1 ∷ 4 ∷ []) (codes "ann") ∷ [])
    ∷ plain (events.Complete (1 ∷ 4 ∷ []) [] ∷ events.Exit (1 ∷ []) (codes "q") (Named (codes "d2") ∷ []) ∷ [])
    ∷ plain (events.Enter (1 ∷ []) (codes "j") (Named (codes "d1") ∷ Named (codes "d2") ∷ []) 5 1 ∷ [])
    ∷ plain (events.Launch 6 (codes "r9") (values.Int (pos 0) ∷ []) ∷ [])
    ∷ plain (events.Enter (6 ∷ []) (codes "s") (Named (codes "i") ∷ []) 7 1 ∷ [])
    ∷ plain (events.Start (6 ∷ 7 ∷ []) (codes "ann") ∷ [])
    ∷ plain (events.Complete (6 ∷ 7 ∷ []) [] ∷ events.Exit (6 ∷ []) (codes "s") (Named (codes "c3") ∷ []) ∷ [])
    ∷ []

-- the join takes both
abbrev pub join_both : Event
join_both = events.Enter (1 ∷ []) (codes "j") (Named (codes "d1") ∷ Named (codes "d2") ∷ []) 5 1

abbrev pub two_branches : Shown
two_branches =
    record nothing_shown {
      nets = net_row (1 ∷ []) (codes "r9") (codes "main") (record { name = codes "n"; value = values.Int (pos 20) } ∷ []) ∷ [];
      tokens = token (1 ∷ []) (Named (codes "c1")) 1 ∷ token (1 ∷ []) (Named (codes "c2")) 1 ∷ [];
    }

abbrev pub two_joined : Shown
two_joined =
    record nothing_shown {
      items = item (1 ∷ 5 ∷ []) (codes "j") stages.Ready None ∷ [];
      nets = net_row (1 ∷ []) (codes "r9") (codes "main") (record { name = codes "n"; value = values.Int (pos 20) } ∷ []) ∷ [];
    }

abbrev pub default_branch : Shown
default_branch =
    record nothing_shown {
      nets = net_row (6 ∷ []) (codes "r9") (codes "main") (record { name = codes "n"; value = values.Int (pos 0) } ∷ []) ∷ [];
      tokens = token (6 ∷ []) (Named (codes "c3")) 1 ∷ [];
    }
