-- The values that items are given and make, what is kept of them in the net, and the places that a split chooses. Splits are the
-- paper's; branches in order with a default are after the YAWL User Manual; that a task with several items runs over a list is our
-- own.
use Rattle.std.specs.Prelude.{ℕ, ℤ, ◌&&◌, Bool, true, List, [], ◌∷◌, ◌++◌, map, filter, Option, Some, None, is_some, is_none, option_map, option_and_then, unwrap_or, slice_get, slice_set, nat_le, if◌then◌else◌}
use Rattle.std.specs.Cmp.Lexicographic.{pointwise}
use Rattle.std.specs.List.{list_all, filter_map, enumerate_from}
use Rattle.yw_base.specs.Values.{may_hold, zero_of}
use Rattle.yw_base.specs.declared.value.Sort.{Sort}
use Rattle.yw_base.specs.declared.value.Sort.TheVariants as sorts
use Rattle.yw_base.specs.declared.value.Value.{Value}
use Rattle.yw_base.specs.declared.value.Value.TheVariants as values
use Rattle.yw_expr.specs.Meaning.{val}
use Rattle.yw_expr.specs.Tree.{Tree}
use Rattle.yw_spec.specs.declared.task.Assign.{Assign}
use Rattle.yw_spec.specs.declared.task.Branch.{Branch}
use Rattle.yw_base.specs.declared.gate.Gate.{Gate}
use Rattle.yw_base.specs.declared.gate.Gate.TheVariants.{And, Xor, Or}
use Rattle.yw_spec.specs.declared.task.Many.{Many}
use Rattle.yw_spec.specs.declared.task.Param.{Param}
use Rattle.yw_spec.specs.declared.task.Task.{Task}
use Rattle.yw_state.specs.Identity.{Ident, same}
use Rattle.yw_state.specs.Nets.{is_among}
use Rattle.yw_state.specs.Options.{all_of, is_some_and}
use Rattle.yw_state.specs.RuleTree.{holds}
use Rattle.yw_state.specs.State.{ItemPart}
use Rattle.yw_state.specs.Values.{Row}
use Rattle.yw_state.specs.Words.{is_completed}
use Rattle.yw_state.specs.declared.part.Stage.TheVariants.{Completed}

-- ---- entry: one item, or one for each element of a list

abbrev elements_of : Value → List Value
elements_of (values.Ints ns) = map values.Int ns
elements_of (values.Texts ts) = map values.Text ts
elements_of v = []

-- the elements for which items are made; nothing where the list is undefined
abbrev pub elements_for : Option Many → Row → Option (List (Option Value))
elements_for None row = Some (None ∷ [])
elements_for (Some m) row = option_map (λ v. map Some (elements_of v)) (val m.each row)

-- a parameter without an expression has the element
abbrev pub given_value : Row → Option Value → Option Tree → Option Value
given_value row element None = element
given_value row element (Some e) = val e row

-- what an item is given, over the net's values
abbrev pub given_values : Task → Row → Option Value → Option Row
given_values t row element = all_of (map (λ (p : Param). given_value row element p.value) t.ins)

-- what each item is given that an entry makes
abbrev pub entry_values : Task → Row → Option (List Row)
entry_values t row = option_and_then (λ es. all_of (map (given_values t row) es)) (elements_for t.many row)

abbrev pub within_bounds : Option Many → ℕ → Bool
within_bounds None count = true
within_bounds (Some m) count = nat_le m.min count && nat_le count m.max

-- ---- what items make

-- of the parameters, one for one
abbrev pub row_fits : List Param → Row → Bool
row_fits = pointwise (λ (p : Param). may_hold p.sort)

-- what the completed ones of these items have made
abbrev pub made_rows : List (Ident × ItemPart) → List Row
made_rows es = map (λ e. e.1.made) (filter (λ e. is_completed e.1.stage) es)

abbrev as_completed : Ident → Row → Ident × ItemPart → Ident × ItemPart
as_completed j out e = if same e.0 j then (e.0, record e.1 { stage = Completed; made = out }) else e

-- the same, once item j has made these
abbrev pub made_rows_with : List (Ident × ItemPart) → Ident → Row → List Row
made_rows_with es j out = made_rows (map (as_completed j out) es)

-- ---- what is kept of it

abbrev pub int_in : Value → Option ℤ
int_in (values.Int z) = Some z
int_in v = None

abbrev pub text_in : Value → Option (List ℕ)
text_in (values.Text t) = Some t
text_in v = None

abbrev pub list_of : Sort → List Value → Value
list_of sorts.Text vs = values.Texts (filter_map text_in vs)
list_of sort vs = values.Ints (filter_map int_in vs)

-- the list of the values that the items made, or where the task has one item its value
abbrev pub out_value : Option Many → Sort → List Value → Value
out_value (Some m) sort vs = list_of sort vs
out_value None sort [] = zero_of sort
out_value None sort (v ∷ vs) = v

-- what assignments speak of: what the items made, and behind it the net's variables
abbrev pub set_row : Task → List Row → Row → Row
set_row t rows vals = map (λ (e : ℕ × Param). out_value t.many e.1.sort (filter_map (λ row. slice_get row e.0) rows)) (enumerate_from 0 t.outs) ++ vals

abbrev assigned : Row → Row → Assign → Row
assigned row vals a = unwrap_or (option_map (slice_set vals a.var) (val a.value row)) vals

abbrev assigned_all : Row → Row → List Assign → Row
assigned_all row vals [] = vals
assigned_all row vals (a ∷ set) = assigned_all row (assigned row vals a) set

-- all assignments, each over the values before; one that is undefined leaves its variable
abbrev pub kept_values : Task → List Row → Row → Row
kept_values t rows vals = assigned_all (set_row t rows vals) vals t.set

abbrev pub is_defined : Task → List Row → Row → Bool
is_defined t rows vals = list_all (λ (a : Assign). is_some (val a.value (set_row t rows vals))) t.set

-- ---- the split

abbrev pub is_true : Row → Branch → Bool
is_true row b = is_some_and b.when (λ e. holds e row)

abbrev pub branch_places : (Branch → Bool) → List Branch → List ℕ
branch_places p bs = map (λ (b : Branch). b.to) (filter p bs)

-- the places of the branches that are true, or of the default where none is
abbrev pub true_places : List Branch → Row → List ℕ
true_places bs row = true_or_default (branch_places (is_true row) bs)
  where
    true_or_default : List ℕ → List ℕ
    true_or_default [] = branch_places (λ b. is_none b.when) bs
    true_or_default (c ∷ cs) = c ∷ cs

abbrev first_of : List ℕ → List ℕ
first_of [] = []
first_of (c ∷ cs) = c ∷ []

-- the places that get a token, in flow order: all, that of the first true branch, or those of all true ones
abbrev pub split_places : Task → Row → List ℕ
split_places t row = chosen t.split
  where
    chosen : Gate → List ℕ
    chosen And = t.after
    chosen Xor = filter (is_among (first_of (true_places t.branch row))) t.after
    chosen Or = filter (is_among (true_places t.branch row)) t.after
