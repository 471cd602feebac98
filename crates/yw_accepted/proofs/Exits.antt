-- What the checks that find nothing tell of where a task is left: how many items it has, what is assigned, and that it goes on to no
-- place twice.
use Rattle.std.specs.Prelude.{◌≡◌, ◌≤◌, ◌&&◌, ◌||◌, ℕ, zero, suc, Bool, true, false, not, List, [], ◌∷◌, ◌++◌, map, Option, Some, None, is_some, nat_eq, int_le, option_map, slice_get, pos, refl, if◌then◌else◌}
use Rattle.std.specs.List.{All, AllZip, list_all, list_any}
use Rattle.std.specs.Option.{option_map_or}
use Rattle.std.specs.Str.{bytes_eq}
use Rattle.std.proofs.Common.{sym, ◌∙◌, ap, subst, arith, append_assoc, append-nil}
use Rattle.std.proofs.lemmas.Bool.{and_from, and_parts, eqb-true, false_from_ne_true, leb-true, not-true, not_from_false, or_left, or_right}
use Rattle.std.proofs.lemmas.List.Elements.{All-cons, All-head, All-nil, All-tail, filter_passes}
use Rattle.std.proofs.lemmas.List.Folds.{list_any_at}
use Rattle.std.proofs.lemmas.List.Kept.{AllPairs-filter}
use Rattle.std.proofs.lemmas.List.Quantifiers.{all_pairs_push}
use Rattle.std.proofs.lemmas.Option.{slice_get-map}
use Rattle.std.proofs.lemmas.Slice.Eq.{bytes_eq-Decides}
use Rattle.yw_accept.proofs.FactsLemmas.{order_all}
use Rattle.yw_accept.specs.Built.{IsAssign, IsPlaceOf, MayBeItems, flows_from, out_of, place_of, places_of, var_of}
use Rattle.yw_accept.specs.Names.{FlowFits, FlowsFit, is_same_flow, may_lead}
use Rattle.yw_accept.specs.Nodes.{is_name_among, is_task, task_names}
use Rattle.yw_accept.specs.Order.{InTurn}
use Rattle.yw_accept.specs.Scopes.{IsOfVar, Spells, gathered, is_single, set_scope, sort_of_var, vars_scope}
use Rattle.yw_accept.specs.Tasks.{bounds_fit, enough, greatest, has_no_bounds, item_fits, items_fit, least}
use Rattle.yw_accept.specs.Tasks as checks
use Rattle.yw_accept.specs.Verdict.{IsVerdict}
use Rattle.yw_base.specs.Values.{most_elements}
use Rattle.yw_base.specs.declared.value.Sort.{Sort}
use Rattle.yw_expr.proofs.SmallConstants.{meant_small}
use Rattle.yw_expr.specs.Scope.{sorts_of}
use Rattle.yw_expr.specs.Small.{HasSmallConstants}
use Rattle.yw_expr.specs.Sorts.{IsIn, tree_sort}
use Rattle.yw_accepted.proofs.Expressions.{one_meaning, speaks_in_scope, var_sorts}
use Rattle.yw_accepted.proofs.Found.{found_first}
use Rattle.yw_sound.specs.Sound.{Assigns, are_apart, set_sorts}
use Rattle.yw_read.specs.TaskKinds.{is_empty}
use Rattle.yw_read.specs.declared.raw.RawFlow.{RawFlow}
use Rattle.yw_read.specs.declared.raw.RawNet.{RawNet}
use Rattle.yw_read.specs.declared.raw.RawOut.{RawOut}
use Rattle.yw_read.specs.declared.raw.RawSet.{RawSet}
use Rattle.yw_read.specs.declared.raw.RawSpec.{RawSpec}
use Rattle.yw_read.specs.declared.raw.RawTask.{RawTask}
use Rattle.yw_read.specs.declared.raw.RawVar.{RawVar}
use Rattle.yw_said.proofs.Numbers.{Apart}
use Rattle.yw_spec.specs.declared.spec.Net.{Net}
use Rattle.yw_spec.specs.declared.spec.Place.{Place}
use Rattle.yw_spec.specs.declared.spec.Place.TheVariants as places
use Rattle.yw_spec.specs.declared.spec.Var.{Var}
use Rattle.yw_spec.specs.declared.task.Assign.{Assign}
use Rattle.yw_spec.specs.declared.task.Many.{Many}
use Rattle.yw_spec.specs.declared.task.Param.{Param}
use Rattle.yw_spec.specs.declared.task.Task.{Task}
use Rattle.yw_state.proofs.MapLemmas.{never, nowhere, some_same}
use Rattle.yw_state.proofs.Tests.{map_some}
use Rattle.yw_state.specs.Nets as numbers
use Rattle.yw_state.specs.Well.{item_limit}

-- ---- several items

module _ (net : RawNet) (said : RawTask) where
  pub both_or_none : (each : Option (List ℕ)) (many : Option Many) → MayBeItems net said each many → is_some many ≡ is_some each
  both_or_none None None is = refl
  both_or_none None (Some m) is = absurd is
  both_or_none (Some e) None is = absurd is
  both_or_none (Some e) (Some m) is = refl

  pub items_few : (each : Option (List ℕ)) (many : Option Many) → MayBeItems net said each many
      → option_map_or (λ _. not (is_empty said.kind) && bounds_fit said && item_fits said) each (has_no_bounds said) ≡ true → item_limit many ≤ most_elements
  items_few None None is fit = omega arith
  items_few None (Some m) is fit = absurd is
  items_few (Some e) None is fit = absurd is
  items_few (Some e) (Some m) is fit =
      let bounds = (and_parts (not (is_empty said.kind)) (bounds_fit said) (and_parts (not (is_empty said.kind) && bounds_fit said) (item_fits said) fit).0).1 in
      let low = int_le (pos 1) (least said) && int_le (least said) (greatest said) in
      let high = int_le (greatest said) checks.most_items in
      let least_enough = int_le (pos 1) (enough said) in
      let three = and_parts (low && high) least_enough (and_parts (low && high && least_enough) (int_le (enough said) checks.most_items) bounds).0 in
      leb-true m.max most_elements (ap (λ z. int_le z checks.most_items) is.max ∙ (and_parts low high three.0).1)

  pub outs_single : (each : Option (List ℕ)) (many : Option Many) → MayBeItems net said each many
      → option_map_or (λ _. list_all (λ (q : RawOut). is_single q.sort) said.outs) each true ≡ true → is_some many ≡ true → list_all (λ (p : Param). is_single p.sort) (map out_of said.outs) ≡ true
  outs_single None None is fit some = never some
  outs_single None (Some m) is fit some = absurd is
  outs_single (Some e) None is fit some = never some
  outs_single (Some e) (Some m) is fit some = of_outs said.outs fit
    where
      of_outs : (qs : List RawOut) → list_all (λ (q : RawOut). is_single q.sort) qs ≡ true → list_all (λ (p : Param). is_single p.sort) (map out_of qs) ≡ true
      of_outs [] e = refl
      of_outs (q ∷ qs) e = let parts = and_parts (is_single q.sort) (list_all (λ (r : RawOut). is_single r.sort) qs) e in and_from _ _ parts.0 (of_outs qs parts.1)

-- ---- what is assigned

module _ (raw : RawNet) (said : RawTask) (net : Net) (t : Task) (vars : net.vars ≡ map var_of raw.vars) (outs : t.outs ≡ map out_of said.outs) (each : is_some t.many ≡ is_some said.each) (apart : Apart (map (λ (v : RawVar). v.name) raw.vars)) where
  same_sorts : set_sorts net t ≡ sorts_of (set_scope raw said)
  same_sorts =
      ap (λ (ps : List Param). map (λ (p : Param). gathered (is_some t.many) p.sort) ps ++ map (λ (x : Var). x.sort) net.vars) outs
      ∙ ap (λ (xs : List Var). map (λ (p : Param). gathered (is_some t.many) p.sort) (map out_of said.outs) ++ map (λ (x : Var). x.sort) xs) vars
      ∙ ap (λ b. map (λ (p : Param). gathered b p.sort) (map out_of said.outs) ++ map (λ (x : Var). x.sort) (map var_of raw.vars)) each
      ∙ of_outs (is_some said.each) said.outs
    where
      of_outs : (b : Bool) (qs : List RawOut) → map (λ (p : Param). gathered b p.sort) (map out_of qs) ++ map (λ (x : Var). x.sort) (map var_of raw.vars)
          ≡ sorts_of (map (λ (q : RawOut). record { name = q.name; sort = gathered b q.sort }) qs ++ vars_scope raw)
      of_outs b [] = var_sorts raw.vars
      of_outs b (q ∷ qs) = ap (λ ss. gathered b q.sort ∷ ss) (of_outs b qs)

  assign_right : (s : RawSet) (a : Assign) → IsAssign raw said s a → Spells (set_scope raw said) (IsOfVar raw s.var) s.value → Assigns net t a
  assign_right s a is (e, sort, means, of_sort, wanted) x at =
      let (v, there, made) = map_some var_of (slice_get raw.vars a.var) x (sym (slice_get-map var_of raw.vars a.var) ∙ ap (λ (xs : List Var). slice_get xs a.var) (sym vars) ∙ at) in
      let named : v.name ≡ s.var = some_same v.name s.var (ap (option_map (λ (w : RawVar). w.name)) (sym there) ∙ is.var) in
      let found : sort_of_var raw s.var ≡ Some v.sort =
      ap (sort_of_var raw) (sym named) ∙ ap (option_map (λ (w : RawVar). w.sort)) (found_first (λ (w : RawVar). w.name) raw.vars apart a.var v there)
      in
      let same = one_meaning (set_scope raw said) s.value a.value e is.value means in
      record {
        speaks = subst (λ (ss : List Sort). IsIn ss a.value) (sym same_sorts) (speaks_in_scope (set_scope raw said) s.value a.value is.value);
        sort = ap tree_sort same ∙ of_sort ∙ ap Some (wanted v.sort found ∙ ap (λ (w : Var). w.sort) made);
      }

  pub assigns_right : (ss : List RawSet) (set : List Assign) → AllZip (IsAssign raw said) ss set → All (λ (s : RawSet). Spells (set_scope raw said) (IsOfVar raw s.var) s.value) ss → All (Assigns net t) set
  assigns_right [] [] zip spell = All-nil (Assigns net t)
  assigns_right [] (a ∷ set) zip spell = absurd zip
  assigns_right (s ∷ ss) [] zip spell = absurd zip
  assigns_right (s ∷ ss) (a ∷ set) zip spell =
      let P : RawSet → Type 0 = λ r. Spells (set_scope raw said) (IsOfVar raw r.var) r.value in
      All-cons (Assigns net t) a set (assign_right s a zip.0 (All-head P s ss spell)) (assigns_right ss set zip.1 (All-tail P s ss spell))

module _ (raw : RawNet) (said : RawTask) where
  pub assigns_small : (ss : List RawSet) (set : List Assign) → AllZip (IsAssign raw said) ss set → All (λ (a : Assign). HasSmallConstants a.value) set
  assigns_small [] [] zip = All-nil (λ (a : Assign). HasSmallConstants a.value)
  assigns_small [] (a ∷ set) zip = absurd zip
  assigns_small (s ∷ ss) [] zip = absurd zip
  assigns_small (s ∷ ss) (a ∷ set) zip =
      All-cons (λ (b : Assign). HasSmallConstants b.value) a set (meant_small s.value (set_scope raw said) a.value zip.0.value) (assigns_small ss set zip.1)

-- ---- where the task goes on

pub flow_turns : (raw : RawSpec) → IsVerdict raw None → All (λ (net : RawNet). InTurn (FlowFits net) [] net.flows None) raw.net
unfolding IsVerdict FlowsFit
flow_turns raw verdict = order_all (λ (net : RawNet). InTurn (FlowFits net) [] net.flows) raw.net verdict.1.0

module _ (net : RawNet) where
  is_itself : (flow : RawFlow) → is_same_flow flow flow ≡ true
  is_itself flow = and_from _ _ ((bytes_eq-Decides flow.from flow.from).1 refl) ((bytes_eq-Decides flow.to flow.to).1 refl)

  -- no flow comes twice
  flows_apart : (seen flows : List RawFlow) → Apart seen → InTurn (FlowFits net) seen flows None → Apart (seen ++ flows)
  flows_apart seen [] once turn = subst (λ (fs : List RawFlow). Apart fs) (sym (append-nil seen)) once
  flows_apart seen (flow ∷ flows) once turn =
      let unseen = not-true (list_any (is_same_flow flow) seen) (and_parts (may_lead net flow) (not (list_any (is_same_flow flow) seen)) turn.0).1 in
      let more : Apart (seen ++ flow ∷ []) = all_pairs_push (λ x y. x ≡ y → ⊥) seen flow once (λ k d lt e. never (sym unseen ∙ list_any_at (is_same_flow flow) seen k d lt (ap (is_same_flow flow) e ∙ is_itself flow))) in
      subst (λ (fs : List RawFlow). Apart fs) (append_assoc seen (flow ∷ []) flows) (flows_apart (seen ++ flow ∷ []) flows more turn.1)

  -- where a task's flow leads is told by its place
  leads : Place → List ℕ
  leads (places.Named name) = name
  leads (places.Between from to) = to

  leads_to : (flow : RawFlow) → is_task net flow.from ≡ true → leads (place_of net flow) ≡ flow.to
  unfolding leads
  leads_to flow task =
      ap (λ b. leads (if b && is_task net flow.to then places.Between flow.from flow.to else if b then places.Named flow.to else places.Named flow.from)) task ∙ either (is_task net flow.to)
    where
      either : (b : Bool) → leads (if b then places.Between flow.from flow.to else places.Named flow.to) ≡ flow.to
      either true = refl
      either false = refl

  module _ (name : List ℕ) (task : is_task net name ≡ true) where
    one_flow : (f g : RawFlow) → bytes_eq f.from name ≡ true → bytes_eq g.from name ≡ true → place_of net f ≡ place_of net g → f ≡ g
    one_flow f g is also same =
        let here = (bytes_eq-Decides f.from name).0 is in
        let there = (bytes_eq-Decides g.from name).0 also in
        let from : f.from ≡ g.from = here ∙ sym there in
        let to : f.to ≡ g.to = sym (leads_to f (ap (is_task net) here ∙ task)) ∙ ap leads same ∙ leads_to g (ap (is_task net) there ∙ task) in
        λ i. record { from = from i; to = to i }

    abbrev IsFrom : RawFlow → Type 0
    IsFrom f = bytes_eq f.from name ≡ true

    none_among : (f : RawFlow) (c : ℕ) → IsPlaceOf net f c → IsFrom f → (fs : List RawFlow) (cs : List ℕ) → AllZip (IsPlaceOf net) fs cs → All IsFrom fs → All (λ g. f ≡ g → ⊥) fs → numbers.is_among cs c ≡ false
    none_among f c at is [] [] zip from other = refl
    none_among f c at is [] (d ∷ cs) zip from other = absurd zip
    none_among f c at is (g ∷ fs) [] zip from other = absurd zip
    none_among f c at is (g ∷ fs) (d ∷ cs) zip from other =
        let differ : nat_eq c d ≡ false = false_from_ne_true _ (λ same.
        All-head (λ g. f ≡ g → ⊥) g fs other
        (one_flow f g is (All-head IsFrom g fs from) (some_same (place_of net f) (place_of net g) (sym at ∙ ap (slice_get (places_of net)) (eqb-true c d same) ∙ zip.0)))) in
        ap (λ b. b || numbers.is_among cs c) differ ∙ none_among f c at is fs cs zip.1 (All-tail IsFrom g fs from) (All-tail (λ g. f ≡ g → ⊥) g fs other)

    numbers_apart : (fs : List RawFlow) (cs : List ℕ) → AllZip (IsPlaceOf net) fs cs → All IsFrom fs → Apart fs → are_apart cs ≡ true
    numbers_apart [] [] zip from once = refl
    numbers_apart [] (c ∷ cs) zip from once = absurd zip
    numbers_apart (f ∷ fs) [] zip from once = absurd zip
    numbers_apart (f ∷ fs) (c ∷ cs) zip from once =
        and_from _ _
        (not_from_false _ (none_among f c zip.0 (All-head IsFrom f fs from) fs cs zip.1 (All-tail IsFrom f fs from) (λ j d lt. once 0 (suc j) d (omega arith) (omega (arith, lt)))))
        (numbers_apart fs cs zip.1 (All-tail IsFrom f fs from) (λ j k d lt within. once (suc j) (suc k) d (omega (arith, lt)) (omega (arith, within))))

    pub goes_on_apart : InTurn (FlowFits net) [] net.flows None → (cs : List ℕ) → AllZip (IsPlaceOf net) (flows_from net name) cs → are_apart cs ≡ true
    goes_on_apart turn cs zip =
        numbers_apart (flows_from net name) cs zip (filter_passes (λ (flow : RawFlow). bytes_eq flow.from name) net.flows)
        (AllPairs-filter (λ x y. x ≡ y → ⊥) (λ (flow : RawFlow). bytes_eq flow.from name) net.flows (flows_apart [] net.flows (λ i j d lt within e. absurd (omega (arith, within))) turn))

  -- a task is called by its name
  pub is_called : (tasks : List RawTask) (i : ℕ) (t : RawTask) → slice_get tasks i ≡ Some t → is_name_among (task_names tasks) t.name ≡ true
  is_called [] i t at = nowhere at
  is_called (u ∷ tasks) zero t at = or_left _ (is_name_among (task_names tasks) t.name) ((bytes_eq-Decides t.name u.name).1 (ap (λ (x : RawTask). x.name) (sym (some_same u t at))))
  is_called (u ∷ tasks) (suc i) t at = or_right (bytes_eq t.name u.name) _ (is_called tasks i t at)
