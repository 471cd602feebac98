-- A tree of rules on an amount.
use Rattle.std.specs.Prelude.{ℕ, pos, Bool, true, false, List, [], ◌∷◌, ◌++◌, None, codes}
use Rattle.yw_base.specs.declared.value.Sort.TheVariants as sorts
use Rattle.yw_base.specs.declared.value.Value.TheVariants as values
use Rattle.yw_expr.specs.Tree.{Tree, constant, variable, binary}
use Rattle.yw_grammar.specs.declared.symbol.Infix.TheVariants.{Greater}
use Rattle.yw_rows.specs.Loan.{number}
use Rattle.yw_rows.specs.Play.{Entry}
use Rattle.yw_state.specs.RuleTree.{TreeRule}
use Rattle.yw_state.specs.Values.{Row}
use Rattle.yw_state.specs.declared.command.Command.{Command}
use Rattle.yw_state.specs.declared.command.Command.TheVariants as commands
use Rattle.yw_state.specs.declared.tree.TreePlace.{TreePlace}
use Rattle.yw_rows.specs.Written.{load, net, person, plain, rule, spec, task, tree_place, var}
use Rattle.yw_spec.specs.declared.spec.Net.{Net}
use Rattle.yw_spec.specs.declared.spec.Place.TheVariants.{Named}
use Rattle.yw_spec.specs.declared.spec.Spec.{Spec}
use Rattle.yw_base.specs.declared.usage.Usage.TheVariants as usages
use Rattle.yw_state.specs.declared.event.Event.TheVariants as events
use Rattle.yw_state.specs.declared.tree.Conclusion.TheVariants.{Exlet}
use Rattle.yw_state.specs.declared.tree.Primitive.TheVariants as primitives
use Rattle.yw_state.specs.declared.tree.TreeKind.TheVariants as kinds

abbrev condition : ℕ → Tree
condition n = binary Greater (variable 0 sorts.Int) (constant (values.Int (pos n)))

-- a rule at this side of this node: the amount is greater than n
abbrev amount_rule : ℕ → Bool → ℕ → TreeRule
amount_rule at side n = record { at = at; side = side; when = []; test = condition n; conclusion = Exlet (primitives.ContinueCase ∷ []) }

abbrev pub two_rules : List TreeRule
two_rules = amount_rule 0 true 100 ∷ amount_rule 1 true 1000 ∷ []

abbrev pub three_rules : List TreeRule
three_rules = two_rules ++ amount_rule 2 false 400 ∷ []

-- what a tree is asked about
abbrev pub amount : ℕ → Row
amount n = values.Int (pos n) ∷ []

abbrev pub amt_net : Net
amt_net =
    net (codes "main")
    (Named (codes "i") ∷ Named (codes "o") ∷ [])
    (var (codes "amount") sorts.Int usages.In (values.Int (pos 0)) ∷ [])
    (task (codes "t") (0 ∷ []) (1 ∷ [])
    ∷ [])

abbrev pub amt : Spec
amt = spec (codes "amt") (amt_net ∷ [])

-- where the tree stands
abbrev pub amt_place : TreePlace
amt_place = tree_place (codes "amt") None None kinds.External

abbrev add_amount_rule : ℕ → Bool → ℕ → ℕ → Entry
add_amount_rule at side n number = rule amt_place at side (condition n) (Exlet (primitives.ContinueCase ∷ [])) number

-- four cases with an amount each, two rules, what happens outside, and a third rule
abbrev pub amt_row : List Entry
amt_row =
    person (codes "ann") (codes "clerk" ∷ [])
    ∷ load amt
    ∷ add_amount_rule 0 true 100 1
    ∷ add_amount_rule 1 true 1000 2
    ∷ plain (events.Launch 1 (codes "amt") (values.Int (pos 50) ∷ []) ∷ [])
    ∷ plain (events.Launch 2 (codes "amt") (values.Int (pos 200) ∷ []) ∷ [])
    ∷ plain (events.Launch 3 (codes "amt") (values.Int (pos 500) ∷ []) ∷ [])
    ∷ plain (events.Launch 4 (codes "amt") (values.Int (pos 5000) ∷ []) ∷ [])
    ∷ plain (events.Raise (2 ∷ []) kinds.External 1 5 ∷ events.Prim (2 ∷ 5 ∷ []) primitives.ContinueCase ∷ [])
    ∷ plain (events.Raise (3 ∷ []) kinds.External 1 6 ∷ events.Prim (3 ∷ 6 ∷ []) primitives.ContinueCase ∷ [])
    ∷ plain (events.Raise (4 ∷ []) kinds.External 2 7 ∷ events.Prim (4 ∷ 7 ∷ []) primitives.ContinueCase ∷ [])
    ∷ add_amount_rule 2 false 400 3
    ∷ plain (events.Raise (2 ∷ []) kinds.External 1 8 ∷ events.Prim (2 ∷ 8 ∷ []) primitives.ContinueCase ∷ [])
    ∷ plain (events.Raise (3 ∷ []) kinds.External 3 9 ∷ events.Prim (3 ∷ 9 ∷ []) primitives.ContinueCase ∷ [])
    ∷ plain (events.Raise (4 ∷ []) kinds.External 2 10 ∷ events.Prim (4 ∷ 10 ∷ []) primitives.ContinueCase ∷ [])
    ∷ []

-- a line that adds a rule on an amount over 300
abbrev pub over_300 : ℕ → Bool → Command
over_300 at side = commands.Rule (codes "amt") None None kinds.External at side (codes "amount > 300") (Exlet (primitives.ContinueCase ∷ []))
