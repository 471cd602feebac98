-- Specifications in which the checks find nothing are sound, whatever of them is built: what a variable begins with is of its sort, where
-- the text says it and where it is the sort's zero.
use Rattle.std.specs.Prelude.{◌≡◌, ◌==◌, ◌&&◌, ◌||◌, ℕ, true, false, not, List, [], ◌∷◌, map, length, get_or, Option, Some, None, Result, Ok, Err, IfSome, find, is_none, option_and_then, option_map, slice_get, refl}
use Rattle.std.specs.List.{list_all, list_any, All}
use Rattle.std.specs.Option.{option_map_or}
use Rattle.std.specs.Str.{bytes_eq}
use Rattle.std.proofs.Common.{sym, ◌∙◌, ap, subst, arith}
use Rattle.std.proofs.lemmas.Bool.{and_from, and_parts, eqb-true}
use Rattle.std.proofs.lemmas.List.Elements.{All-head, All-map, All-tail}
use Rattle.std.proofs.lemmas.List.Sums.{AllPass-from_list_all}
use Rattle.std.proofs.lemmas.Option.{slice_get-map}
use Rattle.std.proofs.lemmas.Slice.Eq.{bytes_eq-Decides}
use Rattle.toml.specs.Data.{Members}
use Rattle.toml.specs.Parse.{parse_document}
use Rattle.yw_base.specs.Values.{may_hold, zero_of}
use Rattle.yw_base.specs.declared.value.Sort.{Sort}
use Rattle.yw_base.specs.declared.value.Sort.TheVariants as sorts
use Rattle.yw_base.specs.declared.value.Value.{Value}
use Rattle.yw_spec.specs.declared.spec.Net.{Net}
use Rattle.yw_spec.specs.declared.spec.Spec.{Spec}
use Rattle.yw_spec.specs.declared.spec.Var.{Var}
use Rattle.yw_spec.specs.declared.task.Kind.{Kind}
use Rattle.yw_spec.specs.declared.task.Param.{Param}
use Rattle.yw_spec.specs.declared.task.Task.{Task}
use Rattle.yw_read.specs.Inits.{HasInit, HasInits, IsInit}
use Rattle.yw_read.specs.Reading.{spec_from, spec_in, with_shape}
use Rattle.yw_read.specs.Tables.{spec_table}
use Rattle.yw_read.specs.declared.raw.RawIn.{RawIn}
use Rattle.yw_read.specs.declared.raw.RawKind.{RawKind}
use Rattle.yw_read.specs.declared.raw.RawKind.TheVariants as raw_kinds
use Rattle.yw_read.specs.declared.raw.RawNet.{RawNet}
use Rattle.yw_read.specs.declared.raw.RawOut.{RawOut}
use Rattle.yw_read.specs.declared.raw.RawSpec.{RawSpec}
use Rattle.yw_read.specs.declared.raw.RawTask.{RawTask}
use Rattle.yw_read.specs.declared.raw.RawVar.{RawVar}
use Rattle.yw_read.specs.declared.raw.ReadFault.{ReadFault}
use Rattle.yw_read.proofs.InitLemmas.{given-inits}
use Rattle.yw_accept.specs.Built.{IsKind, IsNet, IsSpec, IsTask, out_of, var_of}
use Rattle.yw_accept.specs.Names.{FlowFits}
use Rattle.yw_accept.specs.Nodes.{net_names}
use Rattle.yw_accept.specs.Order.{InTurn}
use Rattle.yw_accept.specs.Ready.{NetIsReady, TaskIsReady}
use Rattle.yw_base.specs.Usages.{comes_in, goes_out}
use Rattle.yw_accept.specs.Scopes.{agrees, fits_child, hands_over, is_given, is_in_var, is_out_var, is_same_sort, is_single, names_var, net_named, outs_fit}
use Rattle.yw_accept.specs.Verdict.{IsVerdict}
use Rattle.yw_accept.proofs.ReadyLemmas.{is_ready}
use Rattle.yw_said.proofs.Numbers.{Apart}
use Rattle.yw_said.proofs.OnceFacts.{InsApart, IsApart, NetIsApart, accepted_apart}
use Rattle.yw_state.proofs.MapLemmas.{never, nowhere, some_same}
use Rattle.yw_state.specs.Nets.{child_net, is_empty}
use Rattle.yw_accepted.proofs.Exits.{assigns_right, assigns_small, both_or_none, flow_turns, goes_on_apart, is_called, items_few, outs_single}
use Rattle.yw_accepted.proofs.Items.{elements_sound, params_sound}
use Rattle.yw_accepted.proofs.Levels.{level_fits}
use Rattle.yw_accepted.proofs.Found.{all_at, any_at, found_by_name, found_first, zip_at, zip_names}
use Rattle.yw_sound.proofs.Giving.{zero_fits}
use Rattle.yw_sound.specs.Sound.{HasVar, IsSound, TaskIsSound}

-- ---- what a document says

no_answer : {A B : Type 0} {x : A} {f : B} → ◌≡◌ {A = Result A B} (Err f) (Ok x) → ⊥
no_answer e = cc

table_inits : (t : Members) (raw : RawSpec) (said : Result RawSpec (List ℕ)) → spec_table t ≡ said → with_shape said ≡ Ok raw → HasInits raw
table_inits t raw (Ok x) is e = given-inits (Ok raw) t (is ∙ same x e)
  where
    same : (x : RawSpec) → ◌≡◌ {A = Result RawSpec ReadFault} (Ok x) (Ok raw) → ◌≡◌ {A = Result RawSpec (List ℕ)} (Ok x) (Ok raw)
    same x e = cc
table_inits t raw (Err path) is e = absurd (no_answer e)

parsed_inits : (o : Option Members) (raw : RawSpec) → spec_from o ≡ Ok raw → HasInits raw
parsed_inits None raw e = absurd (no_answer e)
parsed_inits (Some t) raw e = table_inits t raw (spec_table t) refl e

-- what a text says begins with values of the right sorts
pub said_inits : (text : List ℕ) (raw : RawSpec) → spec_in text ≡ Ok raw → HasInits raw
unfolding spec_in
said_inits text raw e = parsed_inits (parse_document text) raw e

-- ---- what is built of it

init_fits : (sort : Sort) (o : Option Value) → IfSome o (IsInit sort) → may_hold sort (option_map_or (λ x. x) o (zero_of sort)) ≡ true
init_fits sort None h = zero_fits sort
init_fits sort (Some v) h = h

vars_begin_right : (vars : List RawVar) → All HasInit vars → list_all (λ (x : Var). may_hold x.sort x.init) (map var_of vars) ≡ true
vars_begin_right [] h = refl
vars_begin_right (v ∷ vs) h = and_from _ _ (init_fits v.sort v.init (All-head HasInit v vs h)) (vars_begin_right vs (All-tail HasInit v vs h))

-- ---- what an empty task makes, and what the net of a composite one has

nil : {A : Type 0} (xs : List A) → (length xs == 0) ≡ true → xs ≡ []
nil [] e = refl
nil (x ∷ xs) e = let none = eqb-true (length (x ∷ xs)) 0 e in absurd (omega (arith, none))

same_sort : (a b : Sort) → is_same_sort a b ≡ true → b ≡ a
same_sort sorts.Bool sorts.Bool e = refl
same_sort sorts.Int sorts.Int e = refl
same_sort sorts.Text sorts.Text e = refl
same_sort sorts.Ints sorts.Ints e = refl
same_sort sorts.Texts sorts.Texts e = refl
same_sort a b e = never e

module _ (raw : RawSpec) (said : RawTask) (t : Task) where
  makes_nothing : (kind : RawKind) (built : Kind) → IsKind raw kind said.net built → hands_over raw said kind ≡ true → is_empty (record t { kind = built }) ≡ true → said.outs ≡ []
  makes_nothing raw_kinds.Atomic built is hands e = never (ap (λ k. is_empty (record t { kind = k })) (sym is) ∙ e)
  makes_nothing raw_kinds.Empty built is hands e = nil said.outs (and_parts (is_none said.role && length said.ins == 0) (length said.outs == 0) hands).1
  makes_nothing raw_kinds.Sub built is hands e = never (ap (λ k. is_empty (record t { kind = k })) (sym is.4) ∙ e)

  -- the child net of a composite task has a variable for what the task makes
  module _ (names : Apart (net_names raw.net)) (net : RawNet) (vars : Apart (map (λ (v : RawVar). v.name) net.vars)) (child : Net) (built : child.vars ≡ map var_of net.vars) where
    built_names : Apart (map (λ (v : Var). v.name) (map var_of net.vars))
    built_names = subst Apart (same net.vars) vars
      where
        same : (vs : List RawVar) → map (λ (v : RawVar). v.name) vs ≡ map (λ (v : Var). v.name) (map var_of vs)
        same [] = refl
        same (v ∷ vs) = ap (λ ns. v.name ∷ ns) (same vs)

    has_var : (q : RawOut) → list_any (is_out_var q) net.vars ≡ true → HasVar child (out_of q)
    has_var q e =
        let (m, v, at, passes) = any_at (is_out_var q) net.vars e in
        let parts = and_parts (goes_out v.usage && bytes_eq q.name v.name) (is_same_sort q.sort v.sort) passes in
        let named = (bytes_eq-Decides q.name v.name).0 (and_parts (goes_out v.usage) (bytes_eq q.name v.name) parts.0).1 in
        let found = found_first (λ (x : Var). x.name) (map var_of net.vars) built_names m (var_of v) (slice_get-map var_of net.vars m ∙ ap (option_map var_of) at) in
        (var_of v, ap (λ (xs : List Var). find (λ (x : Var). bytes_eq x.name q.name) xs) built ∙ ap (λ (n : List ℕ). find (λ (x : Var). bytes_eq x.name n) (map var_of net.vars)) named ∙ found, same_sort q.sort v.sort parts.1)

    has_vars : (qs : List RawOut) → list_all (λ (q : RawOut). list_any (is_out_var q) net.vars) qs ≡ true → All (HasVar child) (map out_of qs)
    has_vars qs e = All-map (HasVar child) out_of qs (λ i d lt. has_var (get_or qs i d) (AllPass-from_list_all (λ (q : RawOut). list_any (is_out_var q) net.vars) qs e i d lt))

  named_child : (kind : RawKind) (built : Kind) → IsKind raw kind said.net built → hands_over raw said kind ≡ true → (c : ℕ) → child_net (record t { kind = built }) ≡ Some c
      → Apart (net_names raw.net) → (net : RawNet) → slice_get raw.net c ≡ Some net → fits_child said net ≡ true
  named_child raw_kinds.Atomic built is hands c e names net at = nowhere (ap (λ k. child_net (record t { kind = k })) (sym is) ∙ e)
  named_child raw_kinds.Empty built is hands c e names net at = nowhere (ap (λ k. child_net (record t { kind = k })) (sym is) ∙ e)
  named_child raw_kinds.Sub built (name, net_is, k, called, is) hands c e names net at =
      let one : k ≡ c = some_same k c (ap (λ b. child_net (record t { kind = b })) (sym is) ∙ e) in
      let same : net.name ≡ name = some_same net.name name (sym (ap (option_map (λ (n : RawNet). n.name)) (ap (slice_get raw.net) one ∙ at)) ∙ called) in
      let found = found_first (λ (n : RawNet). n.name) raw.net names c net at in
      sym (ap (λ o. option_map_or (fits_child said) o false) (ap (option_and_then (net_named raw)) net_is ∙ ap (λ (n : List ℕ). find (λ (x : RawNet). bytes_eq x.name n) raw.net) (sym same) ∙ found)) ∙ hands

-- ---- all of it

module _ (raw : RawSpec) (verdict : IsVerdict raw None) (inits : HasInits raw) (spec : Spec) (is_spec : IsSpec raw spec) where
  apart : IsApart raw
  apart = accepted_apart raw verdict

  nets_apart : Apart (map (λ (n : Net). n.name) spec.nets)
  nets_apart = subst Apart (sym (zip_names (IsNet raw) (λ (n : RawNet). n.name) (λ (n : Net). n.name) (λ x y r. r.name) raw.net spec.nets is_spec.nets)) apart.names

  task_sound : (rn : RawNet) (k : ℕ) → slice_get raw.net k ≡ Some rn → (net : Net) → IsNet raw rn net → (i : ℕ) (t : Task) → slice_get net.tasks i ≡ Some t → TaskIsSound spec net t
  task_sound rn k rat net built i t at =
      let (rt, rtat, is) = zip_at (IsTask raw rn) rn.task net.tasks built.tasks i t at in
      let here = all_at NetIsApart raw.net apart.nets k rn rat in
      let can = all_at (TaskIsReady raw rn) rn.task (all_at (NetIsReady raw) raw.net (is_ready raw verdict).nets k rn rat).tasks i rt rtat in
      let apart_ins = all_at InsApart rn.task here.ins i rt rtat in
      let fits = (and_parts (list_all (is_given rt) rt.ins && list_all (agrees rt.outs) rt.ins && outs_fit rt && hands_over raw rt rt.kind) (list_all (names_var rn) rt.set) can.parameters.fit).0 in
      let both = and_parts (list_all (is_given rt) rt.ins && list_all (agrees rt.outs) rt.ins && outs_fit rt) (hands_over raw rt rt.kind) fits in
      let hands = both.1 in
      let (agree, outs) = and_parts (list_all (is_given rt) rt.ins && list_all (agrees rt.outs) rt.ins) (outs_fit rt) both.0 in
      let all_given = (and_parts (list_all (is_given rt) rt.ins) (list_all (agrees rt.outs) rt.ins) agree).0 in
      record {
        found = found_by_name (λ (x : Task). x.name) net.tasks (subst Apart (sym (zip_names (IsTask raw rn) (λ (x : RawTask). x.name) (λ (x : Task). x.name) (λ x y r. r.name) rn.task net.tasks built.tasks)) here.tasks) i t at;
        empty = λ e. is.outs ∙ ap (map out_of) (makes_nothing raw rt t rt.kind t.kind is.kind hands e);
        made = λ c child e child_at.
            let (cn, cat, cbuilt) = zip_at (IsNet raw) raw.net spec.nets is_spec.nets c child child_at in
            let there = all_at NetIsApart raw.net apart.nets c cn cat in
            let fit = named_child raw rt t rt.kind t.kind is.kind hands c e apart.names cn cat in
            let gives_all = (and_parts (list_all (λ (p : RawIn). list_any (is_in_var p) cn.vars) rt.ins && list_all (λ (v : RawVar). not (comes_in v.usage) || list_any (λ (p : RawIn). is_in_var p v) rt.ins) cn.vars) (list_all (λ (q : RawOut). list_any (is_out_var q) cn.vars) rt.outs) fit).1 in
            subst (All (HasVar child)) (sym is.outs) (has_vars raw rt t apart.names cn there.vars child cbuilt.vars rt.outs gives_all);
        given = params_sound raw rn net built.vars rt t is can all_given apart_ins;
        elements = elements_sound raw rn net built.vars rt t is can all_given apart_ins;
        few = items_few rn rt rt.each t.many is.many can.items;
        gathers = λ some. ap (list_all (λ (p : Param). is_single p.sort)) is.outs ∙ outs_single rn rt rt.each t.many is.many outs some;
        assigns = assigns_right rn rt net t built.vars is.outs (both_or_none rn rt rt.each t.many is.many) here.vars rt.set t.set is.set can.expressions.assigned;
        constants = assigns_small rn rt rt.set t.set is.set;
        apart = goes_on_apart rn rt.name (is_called rn rn.task i rt rtat) (all_at (λ (n : RawNet). InTurn (FlowFits n) [] n.flows None) raw.net (flow_turns raw verdict) k rn rat) t.after is.after;
      }

  pub is_sound : IsSound spec
  is_sound k net at =
      let (rn, rat, built) = zip_at (IsNet raw) raw.net spec.nets is_spec.nets k net at in
      record {
        found = found_by_name (λ (n : Net). n.name) spec.nets nets_apart k net at;
        begins = ap (list_all (λ (x : Var). may_hold x.sort x.init)) built.vars ∙ vars_begin_right rn.vars (all_at (λ (n : RawNet). All HasInit n.vars) raw.net inits k rn rat);
        tasks = task_sound rn k rat net built;
        level = λ c n at_c walk. level_fits raw verdict spec is_spec net c n at_c walk;
      }
