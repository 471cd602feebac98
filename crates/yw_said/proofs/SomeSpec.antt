-- A task, a net and a specification, built of their parts.
use Rattle.std.proofs.Common.{◌≡◌, ℕ, Bool, true, not, List, get_or, map, All, Option, refl}
use Rattle.std.specs.Prelude.{None, filter}
use Rattle.std.specs.List.{AllZip}
use Rattle.std.specs.Str.{bytes_eq}
use Rattle.std.proofs.lemmas.Bool.{not-true}
use Rattle.std.proofs.lemmas.List.Elements.{All-filter, Contains-get_or}
use Rattle.std.proofs.lemmas.List.Sums.{AllPass-from_list_all}
use Rattle.yw_expr.specs.Tree.{Tree}
use Rattle.yw_spec.specs.declared.spec.Net.{Net}
use Rattle.yw_spec.specs.declared.spec.Spec.{Spec}
use Rattle.yw_spec.specs.declared.task.Task.{Task}
use Rattle.yw_read.specs.declared.raw.RawFlow.{RawFlow}
use Rattle.yw_read.specs.declared.raw.RawIn.{RawIn}
use Rattle.yw_read.specs.declared.raw.RawNet.{RawNet}
use Rattle.yw_read.specs.declared.raw.RawSpec.{RawSpec}
use Rattle.yw_read.specs.declared.raw.RawTask.{RawTask}
use Rattle.yw_accept.specs.Built.{var_of, out_of, places_of, MayMean, IsPlaceOf, IsPlaceCalled, IsTaskCalled, IsBranch, IsParam, IsAssign, IsTask, IsNet, IsSpec}
use Rattle.yw_accept.specs.Facts.{NetLeads}
use Rattle.yw_accept.specs.Names.{may_be_emptied}
use Rattle.yw_accept.specs.Nodes.{is_task}
use Rattle.yw_accept.specs.Ready.{TaskIsReady, NetIsReady, IsReady}
use Rattle.yw_accept.specs.Scopes.{vars_scope}
use Rattle.yw_accept.specs.Verdict.{IsVerdict}
use Rattle.yw_accept.proofs.ReadyLemmas.{is_ready}
use Rattle.yw_said.proofs.SomeLists.{made_of_all, kept, number_called}
use Rattle.yw_said.proofs.SomePlaces.{flow_place, emptied_place}
use Rattle.yw_said.proofs.SomeParts.{BranchFits, AssignFits, some_branch, some_param, some_assign, some_items, some_kind, branches_fit, ins_mean, assigns_fit, each_means}

-- ---- numbers of places and tasks

-- the places of those flows that pass a test
places_where : (net : RawNet) → NetLeads net → (test : RawFlow → Bool) → (numbers : List ℕ) × AllZip (IsPlaceOf net) (filter test net.flows) numbers
places_where net leads test =
    let HasPlace : RawFlow → Type 0 = λ flow. (k : ℕ) × IsPlaceOf net flow k in
    let all : All HasPlace net.flows = λ i d lt. flow_place net (get_or net.flows i d) (leads.leads i d lt) (Contains-get_or net.flows i d lt) in
    made_of_all HasPlace (IsPlaceOf net) (λ flow place. place) (filter test net.flows) (All-filter test HasPlace net.flows all)

module _ (net : RawNet) (removed : List (List ℕ)) (fit : All (λ text. may_be_emptied net text ≡ true) removed) where
  abbrev MayBeEmptied : List ℕ → Type 0
  MayBeEmptied text = may_be_emptied net text ≡ true

  dropped_places : (numbers : List ℕ) × AllZip (IsPlaceCalled net) (filter (λ text. not (is_task net text)) removed) numbers
  dropped_places =
      let no_task : List ℕ → Bool = λ text. not (is_task net text) in
      made_of_all (λ text. MayBeEmptied text × (no_task text ≡ true)) (IsPlaceCalled net) (λ text h. emptied_place net text h.0 (not-true _ h.1)) (filter no_task removed) (kept no_task MayBeEmptied removed fit)

  dropped_tasks : (numbers : List ℕ) × AllZip (IsTaskCalled net) (filter (is_task net) removed) numbers
  dropped_tasks =
      made_of_all (λ text. MayBeEmptied text × (is_task net text ≡ true)) (IsTaskCalled net) (λ text h. number_called (λ (t : RawTask). t.name) net.task text h.1) (filter (is_task net) removed) (kept (is_task net) MayBeEmptied removed fit)

-- ---- the whole, from below

some_task : (raw : RawSpec) (net : RawNet) → NetLeads net → (said : RawTask) → TaskIsReady raw net said → (task : Task) × IsTask raw net said task
some_task raw net leads said fits =
    let removed : All (λ text. may_be_emptied net text ≡ true) said.remove = AllPass-from_list_all (may_be_emptied net) said.remove fits.removals in
    let kind = some_kind raw said.kind said.net fits.child in
    let before = places_where net leads (λ (flow : RawFlow). bytes_eq flow.to said.name) in
    let after = places_where net leads (λ (flow : RawFlow). bytes_eq flow.from said.name) in
    let branch = made_of_all (BranchFits net said) (IsBranch net said) (some_branch net said leads) said.branch (branches_fit raw net said fits) in
    let places = dropped_places net said.remove removed in
    let tasks = dropped_tasks net said.remove removed in
    let ins = made_of_all (λ (p : RawIn). (e : Option Tree) × MayMean (vars_scope net) p.value e) (IsParam net) (some_param net) said.ins (ins_mean raw net said fits) in
    let set = made_of_all (AssignFits net said) (IsAssign net said) (some_assign net said) said.set (assigns_fit raw net said fits) in
    let many = some_items net said said.each fits.items (each_means raw net said fits) in (
      record {
        name = said.name;
        kind = kind.0;
        role = said.role;
        join = said.join;
        split = said.split;
        before = before.0;
        after = after.0;
        branch = branch.0;
        drop_places = places.0;
        drop_tasks = tasks.0;
        ins = ins.0;
        outs = map out_of said.outs;
        set = set.0;
        many = many.0;
      },
      record {
        name = refl;
        kind = kind.1;
        role = refl;
        join = refl;
        split = refl;
        before = before.1;
        after = after.1;
        branch = branch.1;
        drop_places = places.1;
        drop_tasks = tasks.1;
        ins = ins.1;
        outs = refl;
        set = set.1;
        many = many.1;
      },
    )

some_net : (raw : RawSpec) (said : RawNet) → NetIsReady raw said → (net : Net) × IsNet raw said net
some_net raw said fits =
    let tasks = made_of_all (TaskIsReady raw said) (IsTask raw said) (some_task raw said fits.leads) said.task fits.tasks in (
      record { name = said.name; input = 0; output = 1; places = places_of said; tasks = tasks.0; vars = map var_of said.vars },
      record { name = refl; input = refl; output = refl; places = refl; tasks = tasks.1; vars = refl },
    )

some_spec : (raw : RawSpec) → IsReady raw → (spec : Spec) × IsSpec raw spec
some_spec raw fits =
    let top = number_called (λ (n : RawNet). n.name) raw.net raw.top fits.named.top in
    let nets = made_of_all (NetIsReady raw) (IsNet raw) (some_net raw) raw.net fits.nets in
    (record { name = raw.name; top = top.0; nets = nets.0 }, record { name = refl; top = top.1; nets = nets.1 })

-- an accepted document says a specification
pub says_some : (raw : RawSpec) → IsVerdict raw None → (spec : Spec) × IsSpec raw spec
says_some raw h = some_spec raw (is_ready raw h)
