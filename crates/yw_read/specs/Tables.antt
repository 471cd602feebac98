-- The tables of a specification, each with its keys in order. A table says what stands last here, or the path to the
-- first fault.
use Rattle.std.specs.Prelude.{ℕ, List, [], ◌∷◌, Result, codes}
use Rattle.toml.specs.Data.{Members, as_str, as_integer, as_bool}
use Rattle.yw_read.specs.declared.raw.RawBranch.{RawBranch}
use Rattle.yw_base.specs.declared.gate.Gate.TheVariants as gates
use Rattle.yw_read.specs.declared.raw.RawIn.{RawIn}
use Rattle.yw_read.specs.declared.raw.RawKind.TheVariants as kinds
use Rattle.yw_read.specs.declared.raw.RawNet.{RawNet}
use Rattle.yw_read.specs.declared.raw.RawOut.{RawOut}
use Rattle.yw_read.specs.declared.raw.RawSet.{RawSet}
use Rattle.yw_read.specs.declared.raw.RawSpec.{RawSpec}
use Rattle.yw_read.specs.declared.raw.RawTask.{RawTask}
use Rattle.yw_base.specs.declared.usage.Usage.TheVariants as usages
use Rattle.yw_read.specs.declared.raw.RawVar.{RawVar}
use Rattle.yw_read.specs.Keys.{◌>>=◌, required, value_or, optional, required_tables, optional_tables, with_no_other}
use Rattle.yw_read.specs.Kinds.{texts_of, flows_of, one_of, sort_words, usage_words, kind_words, gate_words, small_value}

abbrev pub var_keys : List (List ℕ)
var_keys = codes "name" ∷ codes "sort" ∷ codes "use" ∷ codes "init" ∷ []

unfoldable pub var_table : Members → Result RawVar (List ℕ)
var_table t = do
  name ← required as_str (codes "name") t
  sort ← required (one_of sort_words) (codes "sort") t
  usage ← value_or (one_of usage_words) usages.Local (codes "use") t
  init ← optional (small_value sort) (codes "init") t
  with_no_other var_keys t (record { name = name; sort = sort; usage = usage; init = init })

abbrev pub branch_keys : List (List ℕ)
branch_keys = codes "to" ∷ codes "when" ∷ []

unfoldable pub branch_table : Members → Result RawBranch (List ℕ)
branch_table t = do
  to ← required as_str (codes "to") t
  when ← optional as_str (codes "when") t
  with_no_other branch_keys t (record { to = to; when = when })

abbrev pub in_keys : List (List ℕ)
in_keys = codes "name" ∷ codes "sort" ∷ codes "value" ∷ []

unfoldable pub in_table : Members → Result RawIn (List ℕ)
in_table t = do
  name ← required as_str (codes "name") t
  sort ← required (one_of sort_words) (codes "sort") t
  value ← optional as_str (codes "value") t
  with_no_other in_keys t (record { name = name; sort = sort; value = value })

abbrev pub out_keys : List (List ℕ)
out_keys = codes "name" ∷ codes "sort" ∷ []

unfoldable pub out_table : Members → Result RawOut (List ℕ)
out_table t = do
  name ← required as_str (codes "name") t
  sort ← required (one_of sort_words) (codes "sort") t
  with_no_other out_keys t (record { name = name; sort = sort })

abbrev pub set_keys : List (List ℕ)
set_keys = codes "var" ∷ codes "value" ∷ []

unfoldable pub set_table : Members → Result RawSet (List ℕ)
set_table t = do
  var ← required as_str (codes "var") t
  value ← required as_str (codes "value") t
  with_no_other set_keys t (record { var = var; value = value })

abbrev pub task_keys : List (List ℕ)
task_keys =
    codes "name" ∷ codes "kind" ∷ codes "net" ∷ codes "role" ∷ codes "join" ∷ codes "split" ∷ codes "branch" ∷ codes "remove"
    ∷ codes "ins" ∷ codes "outs" ∷ codes "set" ∷ codes "each" ∷ codes "item" ∷ codes "min" ∷ codes "max" ∷ codes "threshold"
    ∷ codes "dynamic" ∷ []

unfoldable pub task_table : Members → Result RawTask (List ℕ)
task_table t = do
  name ← required as_str (codes "name") t
  kind ← value_or (one_of kind_words) kinds.Atomic (codes "kind") t
  net ← optional as_str (codes "net") t
  role ← optional as_str (codes "role") t
  join ← value_or (one_of gate_words) gates.And (codes "join") t
  split ← value_or (one_of gate_words) gates.And (codes "split") t
  branch ← optional_tables branch_table (codes "branch") t
  remove ← value_or texts_of [] (codes "remove") t
  ins ← optional_tables in_table (codes "ins") t
  outs ← optional_tables out_table (codes "outs") t
  set ← optional_tables set_table (codes "set") t
  each ← optional as_str (codes "each") t
  item ← optional as_str (codes "item") t
  min ← optional as_integer (codes "min") t
  max ← optional as_integer (codes "max") t
  threshold ← optional as_integer (codes "threshold") t
  dynamic ← optional as_bool (codes "dynamic") t
  with_no_other task_keys t (record { name = name; kind = kind; net = net; role = role; join = join; split = split; branch = branch; remove = remove; ins = ins; outs = outs; set = set; each = each; item = item; min = min; max = max; threshold = threshold; dynamic = dynamic })

abbrev pub net_keys : List (List ℕ)
net_keys =
    codes "name" ∷ codes "input" ∷ codes "output" ∷ codes "conditions" ∷ codes "vars" ∷ codes "flows" ∷ codes "task" ∷ []

unfoldable pub net_table : Members → Result RawNet (List ℕ)
net_table t = do
  name ← required as_str (codes "name") t
  input ← required as_str (codes "input") t
  output ← required as_str (codes "output") t
  conditions ← value_or texts_of [] (codes "conditions") t
  vars ← optional_tables var_table (codes "vars") t
  flows ← required flows_of (codes "flows") t
  task ← optional_tables task_table (codes "task") t
  with_no_other net_keys t (record { name = name; input = input; output = output; conditions = conditions; vars = vars; flows = flows; task = task })

abbrev pub spec_keys : List (List ℕ)
spec_keys = codes "name" ∷ codes "top" ∷ codes "net" ∷ []

unfoldable pub spec_table : Members → Result RawSpec (List ℕ)
spec_table t = do
  name ← required as_str (codes "name") t
  top ← required as_str (codes "top") t
  net ← required_tables net_table (codes "net") t
  with_no_other spec_keys t (record { name = name; top = top; net = net })
