-- What each primitive of an exlet does. After the thesis's primitives; the set of them and what each does are our own.
use Rattle.std.specs.Prelude.{ℕ, Bool, ◌==◌, ◌&&◌, true, false, not, List, [], ◌∷◌, length, None, nat_lt, if◌then◌else◌}
use Rattle.yw_spec.specs.declared.spec.Net.{Net}
use Rattle.yw_spec.specs.declared.spec.Spec.{Spec}
use Rattle.yw_state.specs.After.{change, completed, end_case, make_select_due, new_net, stands, where_some, where_spec, with_item, with_run, with_sites}
use Rattle.yw_state.specs.Allowed.{depth_end}
use Rattle.yw_state.specs.ByName.{first_values, made_of_given, source_at}
use Rattle.yw_state.specs.Identity.{Ident, case_ident}
use Rattle.yw_base.specs.Identity.{case_number, parent}
use Rattle.yw_state.specs.Map.{remove}
use Rattle.yw_state.specs.Options.{is_some_and}
use Rattle.yw_state.specs.State.{State, ItemPart, ItemAt, RunPart, bare, bare_but, drop, item_at, no_checks, run_part}
use Rattle.yw_state.specs.Words.{is_completed}
use Rattle.yw_state.specs.declared.part.Stage.TheVariants.{Ready}
use Rattle.yw_state.specs.declared.part.Way.TheVariants.{Removed}
use Rattle.yw_state.specs.declared.tree.Primitive.{Primitive}
use Rattle.yw_state.specs.declared.tree.Primitive.TheVariants.{SuspendItem, ContinueItem, RestartItem, CompleteItem, RemoveItem, SuspendCase, ContinueCase, RemoveCase, Compensate, Unknown}

abbrev pub suspend : State → Ident → State
suspend s j = change s j (λ x. record x { suspended = true })

abbrev pub continue_at : State → Ident → State
continue_at s j = change s j (λ x. record x { suspended = false })

-- an item with no check due, and the net at it and all strictly under it gone but for the run r
abbrev pub cut_back : State → Ident → Ident → (ItemPart → ItemPart) → State
cut_back s r j f = change (with_sites s (bare_but s.sites j r)) j (λ x. record (with_item f x) { due = no_checks })

abbrev pub restarted : ItemPart → ItemPart
restarted x = record x { stage = Ready; who = None; made = [] }

-- the item begins anew, and a worklet may be chosen for it again
abbrev pub restart_item : State → Ident → Ident → ItemAt → State
restart_item s r j x = make_select_due (cut_back s r j restarted) j x.of_task

-- the item counts as completed, and has made what it was given; it stays as it is where it is completed
abbrev pub complete_item : State → Ident → Ident → ItemAt → State
complete_item s r j x = if is_completed x.part.stage then s else cut_back s r j (completed (made_of_given x))

abbrev pub waiting : RunPart → RunPart
waiting x = record x { waiting = true }

-- the top net stands at the run, which waits for its end
abbrev pub begin_compensation : State → Ident → Ident → List ℕ → Spec → Net → State
begin_compensation s r j name spec net = change s r (λ x. stands (new_net name spec.top net (first_values (source_at s j) net)) (with_run waiting x))

-- where the run isn't too deep
abbrev pub compensate : State → Ident → Ident → List ℕ → State
compensate s r j name = if nat_lt (length r) depth_end then where_spec s name (begin_compensation s r j name) else s

abbrev pub case_above : Ident → Ident
case_above r = case_ident (case_number r)

-- what the primitive does, taken by run r at j
abbrev pub primitive : State → Ident → Ident → Primitive → State
primitive s r j SuspendItem = suspend s j
primitive s r j ContinueItem = continue_at s j
primitive s r j RestartItem = where_some (item_at s j) s (restart_item s r j)
primitive s r j CompleteItem = where_some (item_at s j) s (complete_item s r j)
primitive s r j RemoveItem = with_sites s (drop s.sites j)
primitive s r j SuspendCase = suspend s (case_above r)
primitive s r j ContinueCase = continue_at s (case_above r)
primitive s r j RemoveCase = end_case s (case_number r) Removed
primitive s r j (Compensate name) = compensate s r j name
primitive s r j (Unknown text) = s

-- ---- the run goes on

abbrev pub without_first : List Primitive → List Primitive
without_first [] = []
without_first (p ∷ ps) = ps

abbrev pub taken_first : RunPart → RunPart
taken_first x = record x { rest = without_first x.rest }

-- it has nothing left to do and doesn't wait
abbrev pub is_over : RunPart → Bool
is_over x = not x.waiting && length x.rest == 0

-- a run goes that is over
abbrev pub end_if_over : State → Ident → State
end_if_over s r = if is_some_and (run_part s r) is_over then with_sites s (remove s.sites r) else s

-- the run takes its first primitive
abbrev pub take_primitive : State → Ident → Primitive → State
take_primitive s r p = end_if_over (primitive (change s r (with_run taken_first)) r (parent r) p) r

abbrev pub going_on : RunPart → RunPart
going_on x = record x { waiting = false }

-- the run's compensation goes
abbrev pub end_compensation : State → Ident → State
end_compensation s r = end_if_over (change (with_sites s (bare s.sites r)) r (with_run going_on)) r
