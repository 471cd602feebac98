-- What checks that find nothing tell.
use Rattle.std.proofs.Common.{◌≡◌, ℕ, zero, suc, ◌<◌, ◌≤◌, true, false, inl, inr, List, [], ◌∷◌, ◌++◌, map, length, get_or, None, All, refl, sym, ap, ◌∙◌, subst, arith, append_assoc, append-nil, length-append, option_to_list, true≢false}
use Rattle.std.proofs.lemmas.List.{get_or_append_left, get_or_default}
use Rattle.std.proofs.lemmas.Bool.{cases_lt, or_cases, or_left, or_right, and_parts, not-true}
use Rattle.std.proofs.Math.Seq.{get_or-append_seam}
use Rattle.std.specs.Str.{bytes_eq}
use Rattle.yw_read.specs.declared.raw.RawFlow.{RawFlow}
use Rattle.yw_read.specs.declared.raw.RawIn.{RawIn}
use Rattle.yw_read.specs.declared.raw.RawOut.{RawOut}
use Rattle.yw_read.specs.declared.raw.RawSet.{RawSet}
use Rattle.yw_read.specs.declared.raw.RawVar.{RawVar}
use Rattle.yw_read.specs.declared.raw.RawTask.{RawTask}
use Rattle.yw_read.specs.declared.raw.RawNet.{RawNet}
use Rattle.yw_read.specs.declared.raw.RawSpec.{RawSpec}
use Rattle.yw_accept.specs.declared.broken.Broken.{Broken}
use Rattle.yw_accept.specs.Facts.{AreDistinct, AreNames, TaskIsNamed, NetIsNamed, IsNamed, NetLeads}
use Rattle.yw_accept.specs.Faults.{in_net}
use Rattle.yw_accept.specs.Names.{is_usable, is_new, IsUsable, IsNew, AreNew, TaskNames, NetNames, NamesFit, may_lead, FlowFits, FlowsFit}
use Rattle.yw_accept.specs.Nodes.{is_name_among, net_names, task_names, named_places, nodes, is_source, is_sink, is_task}
use Rattle.yw_accept.specs.Order.{Check, InOrder, InTurn}
use Rattle.yw_accept.proofs.Among.{among_at, among_left, among_right}

-- ---- each element passes

pub order_all : {A : Type 0} (check : A → Check) (xs : List A) → InOrder check xs None → All (λ x. check x None) xs
order_all check [] h i d lt = absurd (omega (arith, lt))
order_all check (x ∷ xs) h zero d lt = h.0
order_all check (x ∷ xs) h (suc i) d lt = order_all check xs h.1 i d (omega (arith, lt))

pub turn_all : {A : Type 0} (check : List A → A → Check) (P : A → Type 0) → ((seen : List A) (x : A) → check seen x None → P x) → (seen xs : List A) → InTurn check seen xs None → All P xs
turn_all check P one seen [] h i d lt = absurd (omega (arith, lt))
turn_all check P one seen (x ∷ xs) h zero d lt = one seen x h.0
turn_all check P one seen (x ∷ xs) h (suc i) d lt = turn_all check P one (seen ++ x ∷ []) xs h.1 i d (omega (arith, lt))

turn_join : {A : Type 0} (check : List A → A → Check) (seen xs ys : List A) → InTurn check seen xs None → InTurn check (seen ++ xs) ys None → InTurn check seen (xs ++ ys) None
turn_join {A} check seen [] ys h g = let P : List A → Type 0 = λ zs. InTurn check zs ys None in subst P (append-nil seen) g
turn_join {A} check seen (x ∷ xs) ys h g =
    let P : List A → Type 0 = λ zs. InTurn check zs ys None in
    (h.0, turn_join check (seen ++ x ∷ []) xs ys h.1 (subst P (sym (append_assoc seen (x ∷ []) xs)) g))

-- ---- names of which none comes twice

new_is : (seen : List (List ℕ)) (name : List ℕ) → is_new seen name ≡ true → (is_usable name ≡ true) × (is_name_among seen name ≡ false)
new_is seen name h = let parts = and_parts _ _ h in (parts.0, not-true _ parts.1)

module _ (seen : List (List ℕ)) (x : List ℕ) (h : AreDistinct seen) (new : is_name_among seen x ≡ false) where
  last_is : (j : ℕ) → j < length (seen ++ x ∷ []) → length seen ≤ j → get_or (seen ++ x ∷ []) j [] ≡ x
  last_is j lt le = let e : j ≡ length seen = omega (arith, lt, le, length-append seen (x ∷ [])) in ap (λ k. get_or (seen ++ x ∷ []) k []) e ∙ get_or-append_seam seen x [] []

  first_is : (i : ℕ) → i < length seen → get_or (seen ++ x ∷ []) i [] ≡ get_or seen i []
  first_is i lt = get_or_append_left seen (x ∷ []) [] i lt

  never : (i : ℕ) → i < length seen → get_or seen i [] ≡ x → ⊥
  never i lt e = true≢false (sym (among_at seen x (i, lt, get_or_default seen i x [] lt ∙ e)) ∙ new)

  distinct_more : AreDistinct (seen ++ x ∷ [])
  distinct_more i j li lj e = elim (cases_lt i (length seen)) [
    | inl a ↦ elim (cases_lt j (length seen)) [
      | inl b ↦ h i j a b (sym (first_is i a) ∙ e ∙ first_is j b)
      | inr b ↦ absurd (never i a (sym (first_is i a) ∙ e ∙ last_is j lj b))
    ]
    | inr a ↦ elim (cases_lt j (length seen)) [
      | inl b ↦ absurd (never j b (sym (first_is j b) ∙ sym e ∙ last_is i li a))
      | inr b ↦ omega (arith, li, lj, a, b, length-append seen (x ∷ []))
    ]
  ]

none_distinct : AreDistinct []
none_distinct i j li lj e = absurd (omega (arith, li))

none_twice : (fault : List ℕ → Broken) (seen xs : List (List ℕ)) → AreDistinct seen → InTurn (IsNew fault) seen xs None → AreDistinct (seen ++ xs)
none_twice fault seen [] h g = let P : List (List ℕ) → Type 0 = λ ys. AreDistinct ys in subst P (sym (append-nil seen)) h
none_twice fault seen (x ∷ xs) h g =
    let P : List (List ℕ) → Type 0 = λ ys. AreDistinct ys in
    subst P (append_assoc seen (x ∷ []) xs) (none_twice fault (seen ++ x ∷ []) xs (distinct_more seen x h (new_is seen x g.0).1) g.1)

pub are_names : (fault : List ℕ → Broken) (names : List (List ℕ)) → AreNew fault names None → AreNames names
are_names fault names h = record {
  usable = turn_all (IsNew fault) (λ name. is_usable name ≡ true) (λ seen name one. (new_is seen name one).0) [] names h;
  distinct = none_twice fault [] names none_distinct h;
}

-- ---- the first check

task_named : (net : RawNet) (seen : List RawTask) (task : RawTask) → TaskNames net seen task None → TaskIsNamed task
task_named net seen task h = record {
  role = order_all (IsUsable (in_net 1 net.name)) (option_to_list task.role) h.1.0;
  ins = are_names (in_net 1 net.name) (map (λ (p : RawIn). p.name) task.ins) h.1.1.0;
  outs = are_names (in_net 1 net.name) (map (λ (p : RawOut). p.name) task.outs) h.1.1.1.0;
  set = are_names (in_net 1 net.name) (map (λ (s : RawSet). s.var) task.set) h.1.1.1.1;
}

task_names-append : (xs ys : List RawTask) → task_names (xs ++ ys) ≡ task_names xs ++ task_names ys
task_names-append [] ys = refl
task_names-append (x ∷ xs) ys = ap (λ names. x.name ∷ names) (task_names-append xs ys)

tasks_new : (net : RawNet) (seen tasks : List RawTask) → InTurn (TaskNames net) seen tasks None → InTurn (IsNew (in_net 1 net.name)) (named_places net ++ task_names seen) (task_names tasks) None
tasks_new net seen [] h = refl
tasks_new net seen (task ∷ tasks) h =
    let P : List (List ℕ) → Type 0 = λ names. InTurn (IsNew (in_net 1 net.name)) names (task_names tasks) None in
    let e : named_places net ++ task_names (seen ++ task ∷ []) ≡ (named_places net ++ task_names seen) ++ task.name ∷ [] =
    ap (λ names. named_places net ++ names) (task_names-append seen (task ∷ [])) ∙ sym (append_assoc (named_places net) (task_names seen) (task.name ∷ [])) in
    (h.0.0, subst P e (tasks_new net (seen ++ task ∷ []) tasks h.1))

net_named : (seen : List RawNet) (net : RawNet) → NetNames seen net None → NetIsNamed net
net_named seen net h =
    let P : List (List ℕ) → Type 0 = λ names. InTurn (IsNew (in_net 1 net.name)) names (task_names net.task) None in
    record {
      nodes_are = are_names (in_net 1 net.name) (nodes net) (turn_join (IsNew (in_net 1 net.name)) [] (named_places net) (task_names net.task) h.1.0 (subst P (append-nil (named_places net)) (tasks_new net [] net.task h.1.1.0)));
      vars = are_names (in_net 1 net.name) (map (λ (v : RawVar). v.name) net.vars) h.1.1.1;
      tasks = turn_all (TaskNames net) TaskIsNamed (task_named net) [] net.task h.1.1.0;
    }

net_names-append : (xs ys : List RawNet) → net_names (xs ++ ys) ≡ net_names xs ++ net_names ys
net_names-append [] ys = refl
net_names-append (x ∷ xs) ys = ap (λ names. x.name ∷ names) (net_names-append xs ys)

nets_new : (seen nets : List RawNet) → InTurn NetNames seen nets None → InTurn (IsNew (in_net 1 [])) (net_names seen) (net_names nets) None
nets_new seen [] h = refl
nets_new seen (net ∷ nets) h =
    let P : List (List ℕ) → Type 0 = λ names. InTurn (IsNew (in_net 1 [])) names (net_names nets) None in
    (h.0.0, subst P (net_names-append seen (net ∷ [])) (nets_new (seen ++ net ∷ []) nets h.1))

pub is_named : (raw : RawSpec) → NamesFit raw None → IsNamed raw
unfolding NamesFit
is_named raw h = record {
  name = h.0;
  top = h.1.0;
  nets_are = are_names (in_net 1 []) (net_names raw.net) (nets_new [] raw.net h.1.1);
  nets = turn_all NetNames NetIsNamed net_named [] raw.net h.1.1;
}

-- ---- the second check

place_node : (net : RawNet) (name : List ℕ) → is_name_among (named_places net) name ≡ true → is_name_among (nodes net) name ≡ true
place_node net name h = among_left (named_places net) (task_names net.task) name h

task_node : (net : RawNet) (name : List ℕ) → is_task net name ≡ true → is_name_among (nodes net) name ≡ true
task_node net name h = among_right (named_places net) (task_names net.task) name h

pub source_place : (net : RawNet) (name : List ℕ) → is_source net name ≡ true → is_name_among (named_places net) name ≡ true
source_place net name h = elim (or_cases (bytes_eq name net.input) (is_name_among net.conditions name) h) [
  | inl input ↦ or_left (bytes_eq name net.input) _ input
  | inr condition ↦ or_right _ _ (or_right (bytes_eq name net.output) _ condition)
]

source_node : (net : RawNet) (name : List ℕ) → is_source net name ≡ true → is_name_among (nodes net) name ≡ true
source_node net name h = place_node net name (source_place net name h)

sink_node : (net : RawNet) (name : List ℕ) → is_sink net name ≡ true → is_name_among (nodes net) name ≡ true
sink_node net name h = place_node net name (or_right _ _ h)

pub flow_ends : (net : RawNet) (flow : RawFlow) → may_lead net flow ≡ true → (is_name_among (nodes net) flow.from ≡ true) × (is_name_among (nodes net) flow.to ≡ true)
flow_ends net flow h = elim (or_cases _ _ h) [
  | inl one ↦ let parts = and_parts _ _ one in (source_node net flow.from parts.0, task_node net flow.to parts.1)
  | inr two ↦
      let parts = and_parts _ _ two in (
        task_node net flow.from parts.0,
        elim (or_cases _ _ parts.1) [
          | inl sink ↦ sink_node net flow.to sink
          | inr task ↦ task_node net flow.to task
        ],
      )
]

net_leads : (net : RawNet) → InTurn (FlowFits net) [] net.flows None → NetLeads net
net_leads net h =
    let leads : All (λ flow. may_lead net flow ≡ true) net.flows = turn_all (FlowFits net) (λ flow. may_lead net flow ≡ true) (λ seen flow one. (and_parts _ _ one).0) [] net.flows h in
    record {
      leads = leads;
      from = λ i d lt. (flow_ends net (get_or net.flows i d) (leads i d lt)).0;
      to = λ i d lt. (flow_ends net (get_or net.flows i d) (leads i d lt)).1;
    }

pub nets_lead : (raw : RawSpec) → FlowsFit raw None → All NetLeads raw.net
unfolding FlowsFit
nets_lead raw h = λ i d lt. net_leads (get_or raw.net i d) (order_all (λ (net : RawNet). InTurn (FlowFits net) [] net.flows) raw.net h i d lt)
