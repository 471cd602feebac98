-- The loan case: a person applies, a board votes, and a sum is paid. Where the amount is great a worklet stands for the assessment,
-- and a payment that is late is held back while somebody is called.
-- What is to be shown was worked out by hand from the rules of tokens, items, values and checks, and not taken from what these
-- definitions give.
use Rattle.std.specs.Prelude.{ℕ, ℤ, pos, true, false, List, [], ◌∷◌, Some, None, codes}
use Rattle.yw_base.specs.declared.value.Sort.TheVariants as sorts
use Rattle.yw_base.specs.declared.value.Value.TheVariants as values
use Rattle.yw_expr.specs.Tree.{constant, variable, function, binary}
use Rattle.yw_grammar.specs.declared.symbol.Call.TheVariants.{Sum}
use Rattle.yw_grammar.specs.declared.symbol.Infix.TheVariants.{Equal, Greater}
use Rattle.yw_rows.specs.Play.{Entry}
use Rattle.yw_rows.specs.Written.{item, load, net, net_row, nothing_shown, person, plain, rule, spec, task, token, tree_place, var}
use Rattle.yw_spec.specs.declared.spec.Net.{Net}
use Rattle.yw_spec.specs.declared.spec.Place.TheVariants.{Between, Named}
use Rattle.yw_spec.specs.declared.spec.Spec.{Spec}
use Rattle.yw_base.specs.declared.usage.Usage.TheVariants as usages
use Rattle.yw_base.specs.declared.gate.Gate.TheVariants.{Xor}
use Rattle.yw_spec.specs.declared.task.Kind.TheVariants.{Empty, Sub}
use Rattle.yw_state.specs.declared.answer.NamedValue.{NamedValue}
use Rattle.yw_state.specs.declared.answer.NetRow.{NetRow}
use Rattle.yw_state.specs.declared.answer.Shown.{Shown}
use Rattle.yw_state.specs.declared.event.Event.TheVariants as events
use Rattle.yw_state.specs.declared.part.Stage.TheVariants as stages
use Rattle.yw_state.specs.declared.tree.Conclusion.TheVariants.{Exlet, Worklet}
use Rattle.yw_state.specs.declared.tree.Primitive.TheVariants as primitives
use Rattle.yw_state.specs.declared.tree.TreeKind.TheVariants as kinds

abbrev pub loan_main : Net
loan_main =
    net (codes "main")
    (Named (codes "i")
    ∷ Named (codes "o")
    ∷ Between (codes "apply") (codes "review")
    ∷ Between (codes "review") (codes "pay")
    ∷ Between (codes "review") (codes "refuse")
    ∷ [])
    (var (codes "amount") sorts.Int usages.Local (values.Int (pos 0))
    ∷ var (codes "who") sorts.Texts usages.In (values.Texts [])
    ∷ var (codes "yes") sorts.Int usages.Local (values.Int (pos 0))
    ∷ [])
    (record (task (codes "apply") (0 ∷ []) (2 ∷ [])) {
      role = Some (codes "clerk");
      outs = record { name = codes "amount"; sort = sorts.Int; value = None } ∷ [];
      set = record { var = 0; value = variable 0 sorts.Int } ∷ [];
    }
    ∷ record (task (codes "review") (2 ∷ []) (3 ∷ 4 ∷ [])) {
      kind = Sub 1;
      split = Xor;
      branch = record { to = 3; when = Some (binary Equal (variable 2 sorts.Int) (constant (values.Int (pos 2)))) } ∷ record { to = 4; when = None } ∷ [];
      ins = record { name = codes "amount"; sort = sorts.Int; value = Some (variable 0 sorts.Int) } ∷ record { name = codes "who"; sort = sorts.Texts; value = Some (variable 1 sorts.Texts) } ∷ [];
      outs = record { name = codes "yes"; sort = sorts.Int; value = None } ∷ [];
      set = record { var = 2; value = variable 0 sorts.Int } ∷ [];
    }
    ∷ record (task (codes "pay") (3 ∷ []) (1 ∷ [])) { role = Some (codes "teller") }
    ∷ record (task (codes "refuse") (4 ∷ []) (1 ∷ [])) { kind = Empty }
    ∷ [])

abbrev pub loan_board : Net
loan_board =
    net (codes "board")
    (Named (codes "i") ∷ Named (codes "o") ∷ Between (codes "assess") (codes "vote") ∷ [])
    (var (codes "amount") sorts.Int usages.In (values.Int (pos 0))
    ∷ var (codes "who") sorts.Texts usages.In (values.Texts [])
    ∷ var (codes "yes") sorts.Int usages.Out (values.Int (pos 0))
    ∷ [])
    (record (task (codes "assess") (0 ∷ []) (2 ∷ [])) {
      role = Some (codes "officer");
      ins = record { name = codes "amount"; sort = sorts.Int; value = Some (variable 0 sorts.Int) } ∷ [];
    }
    ∷ record (task (codes "vote") (2 ∷ []) (1 ∷ [])) {
      role = Some (codes "officer");
      ins = record { name = codes "reviewer"; sort = sorts.Text; value = None } ∷ [];
      outs = record { name = codes "v"; sort = sorts.Int; value = None } ∷ [];
      set = record { var = 2; value = function Sum (variable 0 sorts.Ints) } ∷ [];
      many = Some (record { min = 2; max = 5; threshold = 2; dynamic = false; each = variable 1 sorts.Texts; item = 0 });
    }
    ∷ [])

abbrev pub loan : Spec
loan = spec (codes "loan") (loan_main ∷ loan_board ∷ [])

abbrev pub deep_net : Net
deep_net =
    net (codes "main")
    (Named (codes "i") ∷ Named (codes "o") ∷ [])
    (var (codes "amount") sorts.Int usages.In (values.Int (pos 0)) ∷ [])
    (record (task (codes "visit") (0 ∷ []) (1 ∷ [])) { role = Some (codes "officer") }
    ∷ [])

abbrev pub deep : Spec
deep = spec (codes "deep") (deep_net ∷ [])

abbrev pub remind_net : Net
remind_net =
    net (codes "main")
    (Named (codes "i") ∷ Named (codes "o") ∷ [])
    []
    (record (task (codes "call") (0 ∷ []) (1 ∷ [])) { role = Some (codes "clerk") }
    ∷ [])

abbrev pub remind : Spec
remind = spec (codes "remind") (remind_net ∷ [])

abbrev pub loan_row : List Entry
loan_row =
    person (codes "ann") (codes "clerk" ∷ codes "teller" ∷ [])
    ∷ person (codes "bob") (codes "officer" ∷ [])
    ∷ person (codes "cy") (codes "officer" ∷ [])
    ∷ load loan
    ∷ load deep
    ∷ load remind
    ∷ rule (tree_place (codes "loan") (Some (codes "board")) (Some (codes "assess")) kinds.Select) 0 true (binary Greater (variable 0 sorts.Int) (constant (values.Int (pos 10000)))) (Worklet (codes "deep")) 1
    ∷ rule (tree_place (codes "loan") (Some (codes "main")) (Some (codes "pay")) kinds.Timeout) 0 true (constant (values.Bool true)) (Exlet (primitives.SuspendItem ∷ primitives.Compensate (codes "remind") ∷ primitives.ContinueItem ∷ [])) 1
    ∷ plain (events.Launch 1 (codes "loan") (values.Int (pos 0) ∷ values.Texts (codes "bob" ∷ codes "cy" ∷ []) ∷ values.Int (pos 0) ∷ []) ∷ [])
    ∷ plain (events.Enter (1 ∷ []) (codes "apply") (Named (codes "i") ∷ []) 2 1 ∷ [])
    ∷ plain (events.Start (1 ∷ 2 ∷ []) (codes "ann") ∷ [])
    ∷ plain
    (events.Complete (1 ∷ 2 ∷ []) (values.Int (pos 20000) ∷ [])
    ∷ events.Exit (1 ∷ []) (codes "apply") (Between (codes "apply") (codes "review") ∷ [])
    ∷ events.Enter (1 ∷ []) (codes "review") (Between (codes "apply") (codes "review") ∷ []) 3 1
    ∷ events.StartSub (1 ∷ 3 ∷ [])
    ∷ events.Enter (1 ∷ 3 ∷ []) (codes "assess") (Named (codes "i") ∷ []) 4 1
    ∷ events.Substitute (1 ∷ 3 ∷ 4 ∷ []) (codes "deep")
    ∷ [])
    ∷ plain (events.Enter (1 ∷ 3 ∷ 4 ∷ []) (codes "visit") (Named (codes "i") ∷ []) 5 1 ∷ [])
    ∷ plain (events.Start (1 ∷ 3 ∷ 4 ∷ 5 ∷ []) (codes "bob") ∷ [])
    ∷ plain
    (events.Complete (1 ∷ 3 ∷ 4 ∷ 5 ∷ []) []
    ∷ events.Exit (1 ∷ 3 ∷ 4 ∷ []) (codes "visit") (Named (codes "o") ∷ [])
    ∷ events.CompleteWorklet (1 ∷ 3 ∷ 4 ∷ [])
    ∷ events.Exit (1 ∷ 3 ∷ []) (codes "assess") (Between (codes "assess") (codes "vote") ∷ [])
    ∷ [])
    ∷ plain (events.Enter (1 ∷ 3 ∷ []) (codes "vote") (Between (codes "assess") (codes "vote") ∷ []) 6 2 ∷ [])
    ∷ plain (events.Start (1 ∷ 3 ∷ 6 ∷ []) (codes "bob") ∷ [])
    ∷ plain (events.Start (1 ∷ 3 ∷ 7 ∷ []) (codes "cy") ∷ [])
    ∷ plain (events.Complete (1 ∷ 3 ∷ 6 ∷ []) (values.Int (pos 1) ∷ []) ∷ [])
    ∷ plain
    (events.Complete (1 ∷ 3 ∷ 7 ∷ []) (values.Int (pos 1) ∷ [])
    ∷ events.Exit (1 ∷ 3 ∷ []) (codes "vote") (Named (codes "o") ∷ [])
    ∷ events.CompleteSub (1 ∷ 3 ∷ [])
    ∷ events.Exit (1 ∷ []) (codes "review") (Between (codes "review") (codes "pay") ∷ [])
    ∷ [])
    ∷ plain (events.Enter (1 ∷ []) (codes "pay") (Between (codes "review") (codes "pay") ∷ []) 8 1 ∷ [])
    ∷ plain
    (events.Raise (1 ∷ 8 ∷ []) kinds.Timeout 1 9
    ∷ events.Prim (1 ∷ 8 ∷ 9 ∷ []) primitives.SuspendItem
    ∷ events.Prim (1 ∷ 8 ∷ 9 ∷ []) (primitives.Compensate (codes "remind"))
    ∷ [])
    ∷ plain (events.Enter (1 ∷ 8 ∷ 9 ∷ []) (codes "call") (Named (codes "i") ∷ []) 10 1 ∷ [])
    ∷ plain (events.Start (1 ∷ 8 ∷ 9 ∷ 10 ∷ []) (codes "ann") ∷ [])
    ∷ plain
    (events.Complete (1 ∷ 8 ∷ 9 ∷ 10 ∷ []) []
    ∷ events.Exit (1 ∷ 8 ∷ 9 ∷ []) (codes "call") (Named (codes "o") ∷ [])
    ∷ events.Compensated (1 ∷ 8 ∷ 9 ∷ [])
    ∷ events.Prim (1 ∷ 8 ∷ 9 ∷ []) primitives.ContinueItem
    ∷ [])
    ∷ plain (events.Start (1 ∷ 8 ∷ []) (codes "ann") ∷ [])
    ∷ plain (events.Complete (1 ∷ 8 ∷ []) [] ∷ events.Exit (1 ∷ []) (codes "pay") (Named (codes "o") ∷ []) ∷ events.Finish 1 ∷ [])
    ∷ []

-- What is to be shown is worked out by hand from the rules: the amount that was applied for comes to the board and to the worklet by
-- name, the sum of two votes of 1 is 2, and the branch of two votes leads to the payment.
abbrev pub people : NamedValue
people = record { name = codes "who"; value = values.Texts (codes "bob" ∷ codes "cy" ∷ []) }

abbrev pub number : List ℕ → ℤ → NamedValue
number name n = record { name = name; value = values.Int n }

-- the case's own net, with the amount and the votes
abbrev pub loan_at_top : ℤ → ℤ → NetRow
loan_at_top amount votes =
    net_row (1 ∷ []) (codes "loan") (codes "main") (number (codes "amount") amount ∷ people ∷ number (codes "yes") votes ∷ [])

-- the board's net, in which no votes are counted yet
abbrev pub loan_at_board : NetRow
loan_at_board =
    net_row (1 ∷ 3 ∷ []) (codes "loan") (codes "board") (number (codes "amount") (pos 20000) ∷ people ∷ number (codes "yes") (pos 0) ∷ [])

abbrev pub loan_9 : Shown
loan_9 =
    record nothing_shown {
      nets = loan_at_top (pos 0) (pos 0) ∷ [];
      tokens = token (1 ∷ []) (Named (codes "i")) 1 ∷ [];
    }

abbrev pub loan_12 : Shown
loan_12 =
    record nothing_shown {
      items = item (1 ∷ 3 ∷ []) (codes "review") stages.Executing None ∷ item (1 ∷ 3 ∷ 4 ∷ []) (codes "assess") stages.Executing None ∷ [];
      nets = loan_at_top (pos 20000) (pos 0) ∷ loan_at_board ∷ net_row (1 ∷ 3 ∷ 4 ∷ []) (codes "deep") (codes "main") (record { name = codes "amount"; value = values.Int (pos 20000) } ∷ []) ∷ [];
      tokens = token (1 ∷ 3 ∷ 4 ∷ []) (Named (codes "i")) 1 ∷ [];
    }

abbrev pub loan_13 : Shown
loan_13 =
    record nothing_shown {
      items = item (1 ∷ 3 ∷ []) (codes "review") stages.Executing None ∷ item (1 ∷ 3 ∷ 4 ∷ []) (codes "assess") stages.Executing None ∷ item (1 ∷ 3 ∷ 4 ∷ 5 ∷ []) (codes "visit") stages.Ready None ∷ [];
      nets = loan_at_top (pos 20000) (pos 0) ∷ loan_at_board ∷ net_row (1 ∷ 3 ∷ 4 ∷ []) (codes "deep") (codes "main") (record { name = codes "amount"; value = values.Int (pos 20000) } ∷ []) ∷ [];
    }

abbrev pub loan_15 : Shown
loan_15 =
    record nothing_shown {
      items = item (1 ∷ 3 ∷ []) (codes "review") stages.Executing None ∷ [];
      nets = loan_at_top (pos 20000) (pos 0) ∷ loan_at_board ∷ [];
      tokens = token (1 ∷ 3 ∷ []) (Between (codes "assess") (codes "vote")) 1 ∷ [];
    }

abbrev pub loan_18 : Shown
loan_18 =
    record nothing_shown {
      items = item (1 ∷ 3 ∷ []) (codes "review") stages.Executing None ∷ item (1 ∷ 3 ∷ 6 ∷ []) (codes "vote") stages.Executing (Some (codes "bob")) ∷ item (1 ∷ 3 ∷ 7 ∷ []) (codes "vote") stages.Executing (Some (codes "cy")) ∷ [];
      nets = loan_at_top (pos 20000) (pos 0) ∷ loan_at_board ∷ [];
    }

abbrev pub loan_20 : Shown
loan_20 =
    record nothing_shown {
      nets = loan_at_top (pos 20000) (pos 2) ∷ [];
      tokens = token (1 ∷ []) (Between (codes "review") (codes "pay")) 1 ∷ [];
    }

abbrev pub loan_22 : Shown
loan_22 =
    record nothing_shown {
      items = item (1 ∷ 8 ∷ []) (codes "pay") stages.Ready None ∷ [];
      nets = loan_at_top (pos 20000) (pos 2) ∷ net_row (1 ∷ 8 ∷ 9 ∷ []) (codes "remind") (codes "main") [] ∷ [];
      runs = record { run = 1 ∷ 8 ∷ 9 ∷ []; waiting = true; rest = primitives.ContinueItem ∷ [] } ∷ [];
      suspended = (1 ∷ 8 ∷ []) ∷ [];
      tokens = token (1 ∷ 8 ∷ 9 ∷ []) (Named (codes "i")) 1 ∷ [];
    }

abbrev pub loan_23 : Shown
loan_23 =
    record nothing_shown {
      items = item (1 ∷ 8 ∷ []) (codes "pay") stages.Ready None ∷ item (1 ∷ 8 ∷ 9 ∷ 10 ∷ []) (codes "call") stages.Ready None ∷ [];
      nets = loan_at_top (pos 20000) (pos 2) ∷ net_row (1 ∷ 8 ∷ 9 ∷ []) (codes "remind") (codes "main") [] ∷ [];
      runs = record { run = 1 ∷ 8 ∷ 9 ∷ []; waiting = true; rest = primitives.ContinueItem ∷ [] } ∷ [];
      suspended = (1 ∷ 8 ∷ []) ∷ [];
    }

abbrev pub loan_25 : Shown
loan_25 =
    record nothing_shown {
      items = item (1 ∷ 8 ∷ []) (codes "pay") stages.Ready None ∷ [];
      nets = loan_at_top (pos 20000) (pos 2) ∷ [];
    }
