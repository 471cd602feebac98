-- Assignments as a task exits, and the values of several items in order.
-- What is to be shown was worked out by hand from the rules of tokens, items, values and checks, and not taken from what these
-- definitions give.
use Rattle.std.specs.Prelude.{pos, true, false, List, [], ◌∷◌, ◌++◌, Some, None, codes}
use Rattle.yw_base.specs.declared.value.Sort.TheVariants as sorts
use Rattle.yw_base.specs.declared.value.Value.TheVariants as values
use Rattle.yw_expr.specs.Tree.{constant, variable, function, binary}
use Rattle.yw_grammar.specs.declared.symbol.Call.TheVariants.{Sum}
use Rattle.yw_grammar.specs.declared.symbol.Infix.TheVariants.{Divide, Greater}
use Rattle.yw_rows.specs.Play.{Entry}
use Rattle.yw_state.specs.declared.event.Event.{Event}
use Rattle.yw_rows.specs.Written.{load, net, net_row, nothing_shown, person, plain, rule, spec, task, token, tree_place, var}
use Rattle.yw_spec.specs.declared.spec.Net.{Net}
use Rattle.yw_spec.specs.declared.spec.Place.TheVariants.{Between, Named}
use Rattle.yw_spec.specs.declared.spec.Spec.{Spec}
use Rattle.yw_base.specs.declared.usage.Usage.TheVariants as usages
use Rattle.yw_base.specs.declared.gate.Gate.TheVariants.{Xor}
use Rattle.yw_spec.specs.declared.task.Kind.TheVariants.{Empty}
use Rattle.yw_state.specs.declared.answer.Shown.{Shown}
use Rattle.yw_state.specs.declared.event.Event.TheVariants as events
use Rattle.yw_state.specs.declared.tree.Conclusion.TheVariants.{Exlet}
use Rattle.yw_state.specs.declared.tree.Primitive.TheVariants as primitives
use Rattle.yw_state.specs.declared.tree.TreeKind.TheVariants as kinds

abbrev pub asg_net : Net
asg_net =
    net (codes "main")
    (Named (codes "i") ∷ Named (codes "o") ∷ Between (codes "t") (codes "u") ∷ Between (codes "t") (codes "v") ∷ [])
    (var (codes "a") sorts.Int usages.Local (values.Int (pos 1))
    ∷ var (codes "b") sorts.Int usages.Local (values.Int (pos 2))
    ∷ var (codes "x") sorts.Int usages.Local (values.Int (pos 7))
    ∷ var (codes "n") sorts.Int usages.In (values.Int (pos 0))
    ∷ [])
    (record (task (codes "t") (0 ∷ []) (2 ∷ 3 ∷ [])) {
      split = Xor;
      branch = record { to = 2; when = Some (binary Greater (binary Divide (constant (values.Int (pos 100))) (variable 3 sorts.Int)) (constant (values.Int (pos 1)))) } ∷ record { to = 3; when = None } ∷ [];
      outs = record { name = codes "den"; sort = sorts.Int; value = None } ∷ [];
      set = record { var = 0; value = variable 2 sorts.Int } ∷ record { var = 1; value = variable 1 sorts.Int } ∷ record { var = 2; value = binary Divide (constant (values.Int (pos 100))) (variable 0 sorts.Int) } ∷ [];
    }
    ∷ record (task (codes "u") (2 ∷ []) (1 ∷ [])) { kind = Empty }
    ∷ record (task (codes "v") (3 ∷ []) (1 ∷ [])) { kind = Empty }
    ∷ [])

abbrev pub asg : Spec
asg = spec (codes "asg") (asg_net ∷ [])

-- two variables are exchanged, a third has what a division gives, and a branch divides too
abbrev pub asg_front : List Entry
asg_front =
    person (codes "ann") (codes "clerk" ∷ [])
    ∷ load asg
    ∷ rule (tree_place (codes "asg") (Some (codes "main")) (Some (codes "t")) kinds.Timeout) 0 true (constant (values.Bool true)) (Exlet (primitives.CompleteItem ∷ [])) 1
    ∷ []

-- an exlet completes the item, which has made 0: the variable stays 7, and the branch counts as false
abbrev pub undefined_row : List Entry
undefined_row =
    asg_front ++ (plain (events.Launch 1 (codes "asg") (values.Int (pos 1) ∷ values.Int (pos 2) ∷ values.Int (pos 7) ∷ values.Int (pos 0) ∷ []) ∷ [])
    ∷ plain (events.Enter (1 ∷ []) (codes "t") (Named (codes "i") ∷ []) 2 1 ∷ [])
    ∷ plain
    (events.Raise (1 ∷ 2 ∷ []) kinds.Timeout 1 3
    ∷ events.Prim (1 ∷ 2 ∷ 3 ∷ []) primitives.CompleteItem
    ∷ events.Exit (1 ∷ []) (codes "t") (Between (codes "t") (codes "v") ∷ [])
    ∷ [])
    ∷ [])

abbrev pub undefined_left : Shown
undefined_left =
    record nothing_shown {
      nets = net_row (1 ∷ []) (codes "asg") (codes "main") (record { name = codes "a"; value = values.Int (pos 2) } ∷ record { name = codes "b"; value = values.Int (pos 1) } ∷ record { name = codes "x"; value = values.Int (pos 7) } ∷ record { name = codes "n"; value = values.Int (pos 0) } ∷ []) ∷ [];
      tokens = token (1 ∷ []) (Between (codes "t") (codes "v")) 1 ∷ [];
    }

abbrev pub defined_row : List Entry
defined_row =
    asg_front ++ (plain (events.Launch 1 (codes "asg") (values.Int (pos 1) ∷ values.Int (pos 2) ∷ values.Int (pos 7) ∷ values.Int (pos 5) ∷ []) ∷ [])
    ∷ plain (events.Enter (1 ∷ []) (codes "t") (Named (codes "i") ∷ []) 2 1 ∷ [])
    ∷ plain (events.Start (1 ∷ 2 ∷ []) (codes "ann") ∷ [])
    ∷ plain (events.Complete (1 ∷ 2 ∷ []) (values.Int (pos 4) ∷ []) ∷ events.Exit (1 ∷ []) (codes "t") (Between (codes "t") (codes "u") ∷ []) ∷ [])
    ∷ [])

abbrev pub defined_left : Shown
defined_left =
    record nothing_shown {
      nets = net_row (1 ∷ []) (codes "asg") (codes "main") (record { name = codes "a"; value = values.Int (pos 2) } ∷ record { name = codes "b"; value = values.Int (pos 1) } ∷ record { name = codes "x"; value = values.Int (pos 25) } ∷ record { name = codes "n"; value = values.Int (pos 5) } ∷ []) ∷ [];
      tokens = token (1 ∷ []) (Between (codes "t") (codes "u")) 1 ∷ [];
    }

abbrev pub ins_net : Net
ins_net =
    net (codes "main")
    (Named (codes "i") ∷ Named (codes "o") ∷ [])
    (var (codes "n") sorts.Int usages.In (values.Int (pos 0)) ∷ [])
    (record (task (codes "t") (0 ∷ []) (1 ∷ [])) {
      ins = record { name = codes "p"; sort = sorts.Int; value = Some (binary Divide (constant (values.Int (pos 100))) (variable 0 sorts.Int)) } ∷ [];
    }
    ∷ [])

abbrev pub ins : Spec
ins = spec (codes "ins") (ins_net ∷ [])

abbrev pub ins_row : List Entry
ins_row =
    person (codes "ann") (codes "clerk" ∷ [])
    ∷ load ins
    ∷ plain (events.Launch 1 (codes "ins") (values.Int (pos 0) ∷ []) ∷ [])
    ∷ []

abbrev pub enter_ins : Event
enter_ins = events.Enter (1 ∷ []) (codes "t") (Named (codes "i") ∷ []) 2 1

-- three items, of which two are enough
abbrev pub sums_net : Net
sums_net =
    net (codes "main")
    (Named (codes "i") ∷ Named (codes "o") ∷ Between (codes "m") (codes "z") ∷ [])
    (var (codes "xs") sorts.Texts usages.In (values.Texts [])
    ∷ var (codes "total") sorts.Int usages.Local (values.Int (pos 0))
    ∷ var (codes "each_one") sorts.Ints usages.Local (values.Ints [])
    ∷ [])
    (record (task (codes "m") (0 ∷ []) (2 ∷ [])) {
      ins = record { name = codes "x"; sort = sorts.Text; value = None } ∷ [];
      outs = record { name = codes "v"; sort = sorts.Int; value = None } ∷ [];
      set = record { var = 1; value = function Sum (variable 0 sorts.Ints) } ∷ record { var = 2; value = variable 0 sorts.Ints } ∷ [];
      many = Some (record { min = 1; max = 3; threshold = 2; dynamic = false; each = variable 0 sorts.Texts; item = 0 });
    }
    ∷ task (codes "z") (2 ∷ []) (1 ∷ [])
    ∷ [])

abbrev pub sums : Spec
sums = spec (codes "sums") (sums_net ∷ [])

abbrev pub sums_front : List Entry
sums_front =
    person (codes "ann") (codes "clerk" ∷ [])
    ∷ load sums
    ∷ plain (events.Launch 1 (codes "sums") (values.Texts (codes "p" ∷ codes "q" ∷ codes "r" ∷ []) ∷ values.Int (pos 0) ∷ values.Ints [] ∷ []) ∷ [])
    ∷ plain (events.Enter (1 ∷ []) (codes "m") (Named (codes "i") ∷ []) 2 3 ∷ [])
    ∷ plain (events.Start (1 ∷ 2 ∷ []) (codes "ann") ∷ [])
    ∷ plain (events.Start (1 ∷ 3 ∷ []) (codes "ann") ∷ [])
    ∷ plain (events.Start (1 ∷ 4 ∷ []) (codes "ann") ∷ [])
    ∷ []

-- the last is completed first
abbrev pub last_first : List Entry
last_first =
    sums_front ++ (plain (events.Complete (1 ∷ 4 ∷ []) (values.Int (pos 5) ∷ []) ∷ [])
    ∷ plain (events.Complete (1 ∷ 2 ∷ []) (values.Int (pos 6) ∷ []) ∷ events.Exit (1 ∷ []) (codes "m") (Between (codes "m") (codes "z") ∷ []) ∷ [])
    ∷ [])

abbrev pub in_item_order : Shown
in_item_order =
    record nothing_shown {
      nets = net_row (1 ∷ []) (codes "sums") (codes "main") (record { name = codes "xs"; value = values.Texts (codes "p" ∷ codes "q" ∷ codes "r" ∷ []) } ∷ record { name = codes "total"; value = values.Int (pos 11) } ∷ record { name = codes "each_one"; value = values.Ints (pos 6 ∷ pos 5 ∷ []) } ∷ []) ∷ [];
      tokens = token (1 ∷ []) (Between (codes "m") (codes "z")) 1 ∷ [];
    }

-- the first is suspended once it is completed: it doesn't count towards the exit, but its value is kept with the others
abbrev pub suspended_done : List Entry
suspended_done =
    sums_front ++ (plain (events.Complete (1 ∷ 2 ∷ []) (values.Int (pos 1) ∷ []) ∷ [])
    ∷ plain (events.Suspend (1 ∷ 2 ∷ []) ∷ [])
    ∷ plain (events.Complete (1 ∷ 3 ∷ []) (values.Int (pos 2) ∷ []) ∷ [])
    ∷ [])

abbrev pub suspended_counts : List Entry
suspended_counts =
    suspended_done ++ (plain (events.Complete (1 ∷ 4 ∷ []) (values.Int (pos 3) ∷ []) ∷ events.Exit (1 ∷ []) (codes "m") (Between (codes "m") (codes "z") ∷ []) ∷ [])
    ∷ [])

abbrev pub goes_on_counts : List Entry
goes_on_counts =
    suspended_done ++ plain (events.Continue (1 ∷ 2 ∷ []) ∷ events.Exit (1 ∷ []) (codes "m") (Between (codes "m") (codes "z") ∷ []) ∷ []) ∷ []

abbrev pub exit_m : Event
exit_m = events.Exit (1 ∷ []) (codes "m") (Between (codes "m") (codes "z") ∷ [])

abbrev pub three_kept : Shown
three_kept =
    record nothing_shown {
      nets = net_row (1 ∷ []) (codes "sums") (codes "main") (record { name = codes "xs"; value = values.Texts (codes "p" ∷ codes "q" ∷ codes "r" ∷ []) } ∷ record { name = codes "total"; value = values.Int (pos 6) } ∷ record { name = codes "each_one"; value = values.Ints (pos 1 ∷ pos 2 ∷ pos 3 ∷ []) } ∷ []) ∷ [];
      tokens = token (1 ∷ []) (Between (codes "m") (codes "z")) 1 ∷ [];
    }

abbrev pub two_kept : Shown
two_kept =
    record nothing_shown {
      nets = net_row (1 ∷ []) (codes "sums") (codes "main") (record { name = codes "xs"; value = values.Texts (codes "p" ∷ codes "q" ∷ codes "r" ∷ []) } ∷ record { name = codes "total"; value = values.Int (pos 3) } ∷ record { name = codes "each_one"; value = values.Ints (pos 1 ∷ pos 2 ∷ []) } ∷ []) ∷ [];
      tokens = token (1 ∷ []) (Between (codes "m") (codes "z")) 1 ∷ [];
    }

-- the greatest number, to which no other can be added
abbrev pub greatest : List Entry
greatest = sums_front ++ plain (events.Complete (1 ∷ 4 ∷ []) (values.Int (pos 9223372036854775807) ∷ []) ∷ []) ∷ []
