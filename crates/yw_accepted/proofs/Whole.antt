-- A specification in which the checks find nothing is within.
use Rattle.std.specs.Prelude.{◌≡◌, ◌≤◌, ◌&&◌, ℕ, nat_le, true, not, List, [], ◌∷◌, map, filter, length, Option, Some, None, get_or, is_some, option_and_then, option_map, slice_get, refl}
use Rattle.std.specs.List.{All, AllZip, list_all}
use Rattle.std.proofs.Common.{sym, ◌∙◌, ap, subst, arith}
use Rattle.std.proofs.lemmas.Bool.{leb-true}
use Rattle.std.proofs.lemmas.List.{length-append, length-map}
use Rattle.std.proofs.lemmas.Option.{slice_get-map}
use Rattle.yw_accept.proofs.Among.{among_right, usable_among}
use Rattle.yw_accept.proofs.FactsLemmas.{is_named, nets_lead, order_all}
use Rattle.yw_accept.proofs.ReadyLemmas.{is_ready}
use Rattle.yw_accept.specs.Built.{IsAssign, IsKind, IsNet, IsParam, IsPlaceCalled, IsSpec, IsTask, IsTaskCalled, MayBeItems, flows_from, flows_to, places_of, var_of}
use Rattle.yw_accept.specs.Facts.{NetIsNamed, NetLeads}
use Rattle.yw_accept.specs.Graph.{IsOnPath}
use Rattle.yw_accept.specs.Names.{FlowsFit, NamesFit, is_usable}
use Rattle.yw_accept.specs.Nodes.{is_task, named_places, net_names, nodes, task_names}
use Rattle.yw_accept.specs.Ready.{NetIsReady, TaskIsReady}
use Rattle.yw_accept.specs.Tasks.{NetIsSmall, SizesFit, is_small_net}
use Rattle.yw_accept.specs.Verdict.{IsVerdict}
use Rattle.yw_base.specs.Spelling.{is_name}
use Rattle.yw_accepted.proofs.Exits.{is_called}
use Rattle.yw_accepted.proofs.Found.{all_at, zip_at, zip_names}
use Rattle.yw_sound.specs.Sound.{IsSound}
use Rattle.yw_read.specs.Inits.{HasInits}
use Rattle.yw_read.specs.declared.raw.RawIn.{RawIn}
use Rattle.yw_read.specs.declared.raw.RawKind.{RawKind}
use Rattle.yw_read.specs.declared.raw.RawKind.TheVariants as raw_kinds
use Rattle.yw_read.specs.declared.raw.RawNet.{RawNet}
use Rattle.yw_read.specs.declared.raw.RawSpec.{RawSpec}
use Rattle.yw_read.specs.declared.raw.RawTask.{RawTask}
use Rattle.yw_read.specs.declared.raw.RawVar.{RawVar}
use Rattle.yw_said.proofs.Numbers.{Apart}
use Rattle.yw_said.proofs.OnceFacts.{NetIsApart, accepted_apart}
use Rattle.yw_spec.specs.Net.{place_text}
use Rattle.yw_spec.specs.declared.spec.Net.{Net}
use Rattle.yw_spec.specs.declared.spec.Place.{Place}
use Rattle.yw_spec.specs.declared.spec.Place.TheVariants as places
use Rattle.yw_spec.specs.declared.spec.Spec.{Spec}
use Rattle.yw_spec.specs.declared.spec.Var.{Var}
use Rattle.yw_spec.specs.declared.task.Assign.{Assign}
use Rattle.yw_spec.specs.declared.task.Kind.{Kind}
use Rattle.yw_spec.specs.declared.task.Many.{Many}
use Rattle.yw_spec.specs.declared.task.Param.{Param}
use Rattle.yw_spec.specs.declared.task.Task.{Task}
use Rattle.yw_state.proofs.Tests.{and_left, nowhere, some_same}
use Rattle.yw_state.specs.Allowed.{element_param}
use Rattle.yw_state.specs.Nets.{child_net}
use Rattle.yw_within.specs.Within.{IsWithin, NetIsWithin, SplitFits, TaskIsWithin, are_places, has_number, is_named_place, most_tasks}
use Rattle.yw_accepted.proofs.Branches.{split_right}
use Rattle.yw_accepted.proofs.Flows.{flows_within, names_all, paths_fit, places_named, some_before, usable_is_name}
use Rattle.yw_accepted.proofs.Soundness.{is_sound}
use Rattle.yw_accepted.proofs.Numbered.{all_made, has_called, has_first, has_second, map_has, named_at, place_at, same_length, zip_has}

-- ---- a task

module _ (raw : RawSpec) (rn : RawNet) (said : RawTask) (t : Task) (is : IsTask raw rn said t) where
  child_within : (spec : Spec) → AllZip (IsNet raw) raw.net spec.nets → (kind : RawKind) (built : Kind) → IsKind raw kind said.net built → (k : ℕ) → child_net (record t { kind = built }) ≡ Some k → has_number spec.nets k ≡ true
  child_within spec nets raw_kinds.Atomic built of k e = nowhere (ap (λ b. child_net (record t { kind = b })) (sym of) ∙ e)
  child_within spec nets raw_kinds.Empty built of k e = nowhere (ap (λ b. child_net (record t { kind = b })) (sym of) ∙ e)
  child_within spec nets raw_kinds.Sub built (name, net_is, c, called, of) k e =
      let one : c ≡ k = some_same c k (ap (λ b. child_net (record t { kind = b })) (sym of) ∙ e) in
      zip_has (IsNet raw) raw.net spec.nets nets k (ap (has_number raw.net) (sym one) ∙ has_called (λ (n : RawNet). n.name) raw.net c name called)

  item_within : (each : Option (List ℕ)) (many : Option Many) → MayBeItems rn said each many → (m : Many) → many ≡ Some m → has_number t.ins m.item ≡ true
  item_within each None items m e = nowhere e
  item_within None (Some n) items m e = absurd items
  item_within (Some text) (Some n) items m e =
      let (name, name_is, called) = items.item in
      ap (λ (k : Many). has_number t.ins k.item) (sym (some_same n m e)) ∙ zip_has (IsParam rn) said.ins t.ins is.ins n.item (has_called (λ (p : RawIn). p.name) said.ins n.item name called)

-- an element that is given is of a task that has a list
element_listed : (t : Task) (p : Param) → element_param t ≡ Some p → is_some t.many ≡ true
element_listed t p e = listed t.many e
  where
    listed : (many : Option Many) → option_and_then (λ (m : Many). slice_get t.ins m.item) many ≡ Some p → is_some many ≡ true
    listed None e = nowhere e
    listed (Some m) e = refl

-- ---- all of it

module _ (raw : RawSpec) (verdict : IsVerdict raw None) (spec : Spec) (is_spec : IsSpec raw spec) (sound : IsSound spec) where
  names_fit : NamesFit raw None
  unfolding IsVerdict
  names_fit = verdict.0

  flows_fit : FlowsFit raw None
  unfolding IsVerdict
  flows_fit = verdict.1.0

  sizes_fit : SizesFit raw None
  unfolding IsVerdict
  sizes_fit = verdict.1.1.1.1.1.1.1.1.1.1.1

  nets_small : All (λ (n : RawNet). NetIsSmall n None) raw.net
  unfolding SizesFit
  nets_small = order_all NetIsSmall raw.net sizes_fit.1

  module _ (rn : RawNet) (k : ℕ) (rat : slice_get raw.net k ≡ Some rn) (net : Net) (at : slice_get spec.nets k ≡ Some net) (built : IsNet raw rn net) where
    apart : NetIsApart rn
    apart = all_at NetIsApart raw.net (accepted_apart raw verdict).nets k rn rat

    named : NetIsNamed rn
    named = all_at NetIsNamed raw.net (is_named raw names_fit).nets k rn rat

    -- the same of the net's own places
    on_places : (cs : List ℕ) → list_all (has_number (places_of rn)) cs ≡ true → are_places net cs ≡ true
    on_places cs all = ap (λ (ps : List Place). list_all (has_number ps) cs) built.places ∙ all

    tasks_apart : Apart (map (λ (x : Task). x.name) net.tasks)
    tasks_apart = subst Apart (sym (zip_names (IsTask raw rn) (λ (x : RawTask). x.name) (λ (x : Task). x.name) (λ x y r. r.name) rn.task net.tasks built.tasks)) apart.tasks

    same_vars : (vs : List RawVar) → map (λ (v : Var). v.name) (map var_of vs) ≡ map (λ (v : RawVar). v.name) vs
    same_vars [] = refl
    same_vars (v ∷ vs) = ap (λ ns. v.name ∷ ns) (same_vars vs)

    var_names : map (λ (v : Var). v.name) net.vars ≡ map (λ (v : RawVar). v.name) rn.vars
    var_names = ap (map (λ (v : Var). v.name)) built.vars ∙ same_vars rn.vars

    few_tasks : length net.tasks ≤ most_tasks
    few_tasks =
        let sizes : is_small_net rn ≡ true = (all_at (λ (n : RawNet). NetIsSmall n None) raw.net nets_small k rn rat).0 in
        let first_two = and_left (nat_le (length (nodes rn)) most_tasks && nat_le (length rn.flows) 1024) (nat_le (length rn.vars) 64) sizes in
        let small = and_left (nat_le (length (nodes rn)) most_tasks) (nat_le (length rn.flows) 1024) first_two in
        let nodes_few : length (nodes rn) ≤ most_tasks = leb-true (length (nodes rn)) most_tasks small in
        omega (arith, nodes_few, length-append (named_places rn) (task_names rn.task), length-map rn.task (λ (x : RawTask). x.name), same_length (IsTask raw rn) rn.task net.tasks built.tasks)

    task_within : (i : ℕ) (t : Task) → slice_get net.tasks i ≡ Some t → TaskIsWithin spec net t
    task_within i t t_at =
        let (said, said_at, is) = zip_at (IsTask raw rn) rn.task net.tasks built.tasks i t t_at in
        let can = all_at (TaskIsReady raw rn) rn.task (all_at (NetIsReady raw) raw.net (is_ready raw verdict).nets k rn rat).tasks i said said_at in
        let called : is_task rn said.name ≡ true = is_called rn rn.task i said said_at in
        record {
          name = ap is_name is.name ∙ usable_is_name said.name (usable_among (nodes rn) said.name named.nodes_are.usable (among_right (named_places rn) (task_names rn.task) said.name called));
          before = on_places t.before (flows_within rn (flows_to rn said.name) t.before is.before);
          some_before = some_before rn named (all_at (λ (n : RawNet). All (IsOnPath n) (nodes n)) raw.net (paths_fit raw verdict) k rn rat) said.name called t.before is.before;
          after = on_places t.after (flows_within rn (flows_from rn said.name) t.after is.after);
          split = subst (λ g. SplitFits g t) (sym is.split) (split_right rn said.name called apart.places said refl t is.branch is.after said.split can.split);
          drop_places = on_places t.drop_places (all_made (IsPlaceCalled rn) (has_number (places_of rn)) (λ text c e. has_called place_text (places_of rn) c text e) (filter (λ text. not (is_task rn text)) said.remove) t.drop_places is.drop_places);
          drop_tasks = all_made (IsTaskCalled rn) (has_number net.tasks) (λ name c e. zip_has (IsTask raw rn) rn.task net.tasks built.tasks c (has_called (λ (x : RawTask). x.name) rn.task c name e)) (filter (is_task rn) said.remove) t.drop_tasks is.drop_tasks;
          set = all_made (IsAssign rn said) (λ (a : Assign). has_number net.vars a.var) (λ s a e. ap (λ (vs : List Var). has_number vs a.var) built.vars ∙ map_has var_of rn.vars a.var ∙ has_called (λ (v : RawVar). v.name) rn.vars a.var s.var e.var) said.set t.set is.set;
          item = item_within raw rn said t is said.each t.many is.many;
          element = λ j d lt none. let given = ((sound k net at).tasks i t t_at).given j d lt in element_listed t (get_or t.ins j d) (given.element none);
          child = child_within raw rn said t is spec is_spec.nets said.kind t.kind is.kind;
        }

    net_within : NetIsWithin spec net
    net_within = record {
      name = ap is_name built.name ∙ usable_is_name rn.name (all_at (λ n. is_usable n ≡ true) (net_names raw.net) (is_named raw names_fit).nets_are.usable k rn.name (slice_get-map (λ (n : RawNet). n.name) raw.net k ∙ ap (option_map (λ (n : RawNet). n.name)) rat));
      input = ap (has_number net.places) built.input ∙ ap (λ (ps : List Place). has_number ps 0) built.places ∙ has_first (places.Named rn.input) (places.Named rn.output) _;
      output = ap (has_number net.places) built.output ∙ ap (λ (ps : List Place). has_number ps 1) built.places ∙ has_second (places.Named rn.input) (places.Named rn.output) _;
      places = place_at net.places (subst Apart (sym built.places) apart.places);
      place_names = ap (list_all is_named_place) built.places ∙ places_named rn named (all_at NetLeads raw.net (nets_lead raw flows_fit) k rn rat);
      tasks = named_at (λ (x : Task). x.name) net.tasks tasks_apart;
      vars = named_at (λ (v : Var). v.name) net.vars (subst Apart (sym var_names) apart.vars);
      var_names = names_all (λ (v : Var). v.name) net.vars (subst (All (λ n. is_usable n ≡ true)) (sym var_names) named.vars.usable);
      begins = (sound k net at).begins;
      few = few_tasks;
      each_task = task_within;
    }

  pub is_within : IsWithin spec
  is_within = record {
    name = ap is_name is_spec.name ∙ usable_is_name raw.name (is_named raw names_fit).name;
    top = zip_has (IsNet raw) raw.net spec.nets is_spec.nets spec.top (has_called (λ (n : RawNet). n.name) raw.net spec.top raw.top is_spec.top);
    nets = λ k net at. let (rn, rat, built) = zip_at (IsNet raw) raw.net spec.nets is_spec.nets k net at in net_within rn k rat net at built;
  }

pub checked_is_within : (raw : RawSpec) (spec : Spec) → HasInits raw → IsVerdict raw None → IsSpec raw spec → IsWithin spec
checked_is_within raw spec inits verdict is_spec = is_within raw verdict spec is_spec (is_sound raw verdict inits spec is_spec)
