-- What the specifications have that texts say, so that each name and each number in them leads to what is there. The paper draws nets and
-- numbers nothing; that what a task speaks of goes by numbers is our own.
use Rattle.std.specs.Prelude.{◌≡◌, ◌≤◌, ◌==◌, ◌&&◌, ℕ, Bool, true, List, [], count_by, length, nat_lt, is_none, is_some, position, slice_get, Some, None, Ok}
use Rattle.std.specs.List.{All, list_all}
use Rattle.std.specs.Str.{bytes_eq}
use Rattle.yw_base.specs.Spelling.{is_name}
use Rattle.yw_base.specs.Values.{may_hold}
use Rattle.yw_base.specs.declared.gate.Gate.{Gate}
use Rattle.yw_base.specs.declared.gate.Gate.TheVariants.{And, Xor, Or}
use Rattle.yw_spec.specs.declared.spec.Net.{Net}
use Rattle.yw_spec.specs.declared.spec.Place.{Place}
use Rattle.yw_spec.specs.declared.spec.Place.TheVariants.{Named, Between}
use Rattle.yw_spec.specs.declared.spec.Spec.{Spec}
use Rattle.yw_spec.specs.declared.spec.Var.{Var}
use Rattle.yw_spec.specs.declared.task.Assign.{Assign}
use Rattle.yw_spec.specs.declared.task.Branch.{Branch}
use Rattle.yw_spec.specs.declared.task.Many.{Many}
use Rattle.yw_spec.specs.declared.task.Param.{Param}
use Rattle.yw_spec.specs.declared.task.Task.{Task}
use Rattle.yw_state.specs.Nets.{child_net, is_among, place_number, task_number}
use Rattle.yw_state.specs.State.{State, spec_called}
use Rattle.yw_state.specs.Texts.{Reader}

-- ---- numbers and names

-- one of the list has this number
abbrev pub has_number : {A : Type 0} → List A → ℕ → Bool
has_number xs k = nat_lt k (length xs)

-- all of them are numbers of places of the net
abbrev pub are_places : Net → List ℕ → Bool
are_places net cs = list_all (has_number net.places) cs

abbrev pub is_named_place : Place → Bool
is_named_place (Named name) = is_name name
is_named_place (Between from to) = is_name from && is_name to

-- the variable has this number and no other, since none before it has its name
abbrev pub IsFirstVar : Net → ℕ → Var → Type 0
IsFirstVar net k v = position (λ (x : Var). bytes_eq x.name v.name) net.vars ≡ Some k

-- ---- splits

-- The branches of a split share out the places to which the task leads: each branch leads to one of them, each of them has one branch, and
-- one branch has no condition.
pub record SharesOut (t : Task) : Type 0 where
  pub to : list_all (λ (b : Branch). is_among t.after b.to) t.branch ≡ true
  pub each : list_all (λ c. count_by (λ (b : Branch). b.to == c) t.branch == 1) t.after ≡ true
  pub default : count_by (λ (b : Branch). is_none b.when) t.branch ≡ 1

-- an AND-split has no branches
abbrev pub SplitFits : Gate → Task → Type 0
SplitFits And t = t.branch ≡ []
SplitFits Xor t = SharesOut t
SplitFits Or t = SharesOut t

-- ---- tasks, nets and specifications

-- The places, tasks and variables of which a task speaks are of its net, and its child net of its specification. It has an input place. The
-- list over which its items run has a parameter; a parameter without a value is given an element of it.
pub record TaskIsWithin (spec : Spec) (net : Net) (t : Task) : Type 0 where
  pub name : is_name t.name ≡ true
  pub before : are_places net t.before ≡ true
  pub some_before : 1 ≤ length t.before
  pub after : are_places net t.after ≡ true
  pub split : SplitFits t.split t
  pub drop_places : are_places net t.drop_places ≡ true
  pub drop_tasks : list_all (has_number net.tasks) t.drop_tasks ≡ true
  pub set : list_all (λ (a : Assign). has_number net.vars a.var) t.set ≡ true
  pub item : (m : Many) → t.many ≡ Some m → has_number t.ins m.item ≡ true
  pub element : All (λ (p : Param). p.value ≡ None → is_some t.many ≡ true) t.ins
  pub child : (k : ℕ) → child_net t ≡ Some k → has_number spec.nets k ≡ true

-- our own limit on the tasks of a net
abbrev pub most_tasks : ℕ
most_tasks = 256

-- Each place, task and variable of a net is found by its name and has one number. The input and the output are places of it, its
-- variables begin with values of their sorts, and it has no more tasks than the limit.
pub record NetIsWithin (spec : Spec) (net : Net) : Type 0 where
  pub name : is_name net.name ≡ true
  pub input : has_number net.places net.input ≡ true
  pub output : has_number net.places net.output ≡ true
  pub places : (k : ℕ) (p : Place) → slice_get net.places k ≡ Some p → place_number net p ≡ Some k
  pub place_names : list_all is_named_place net.places ≡ true
  pub tasks : (k : ℕ) (t : Task) → slice_get net.tasks k ≡ Some t → task_number net t.name ≡ Some k
  pub vars : (k : ℕ) (v : Var) → slice_get net.vars k ≡ Some v → IsFirstVar net k v
  pub var_names : list_all (λ (v : Var). is_name v.name) net.vars ≡ true
  pub begins : list_all (λ (v : Var). may_hold v.sort v.init) net.vars ≡ true
  pub few : length net.tasks ≤ most_tasks
  pub each_task : (k : ℕ) (t : Task) → slice_get net.tasks k ≡ Some t → TaskIsWithin spec net t

-- Each net is within, and the top net is one of them.
pub record IsWithin (spec : Spec) : Type 0 where
  pub name : is_name spec.name ≡ true
  pub top : has_number spec.nets spec.top ≡ true
  pub nets : (k : ℕ) (net : Net) → slice_get spec.nets k ≡ Some net → NetIsWithin spec net

-- ---- readers and states

-- a reader of texts by which each specification is within
abbrev pub ReadsWithin : Reader → Type 0
ReadsWithin reader = (text : List ℕ) (spec : Spec) → reader.spec text (Ok spec) → IsWithin spec

-- each specification that is loaded is within
abbrev pub HoldsWithin : State → Type 0
HoldsWithin s = (name : List ℕ) (spec : Spec) → spec_called s name ≡ Some spec → IsWithin spec
