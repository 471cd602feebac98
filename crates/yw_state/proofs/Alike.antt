-- The same stands but for marks and checks, and perhaps more specifications and rules are known: what is well stays well.
use Rattle.std.specs.Prelude.{◌≡◌, ◌⊎◌, ◌≤◌, ℕ, ◌&&◌, ◌||◌, ◌==◌, Bool, true, false, List, [], ◌∷◌, length, Option, Some, None, Ok, is_some, option_map, option_and_then, slice_get, unwrap_or, nat_lt, refl, IsTrue, IsSome, if◌then◌else◌}
use Rattle.std.specs.List.{list_all}
use Rattle.std.proofs.Common.{sym, ◌∙◌, ap, subst, inl, inr}
use Rattle.std.proofs.lemmas.Bool.{and_parts, and_from}
use Rattle.std.proofs.lemmas.List.Elements.{All-weaker}
use Rattle.yw_spec.specs.declared.spec.Spec.{Spec}
use Rattle.yw_state.proofs.NetLevels.{deep_alike}
use Rattle.yw_state.proofs.MapLemmas.{by_option, nowhere, never}
use Rattle.yw_state.specs.Allowed.{are_roles}
use Rattle.yw_state.specs.Identity.{Ident, is_case_ident}
use Rattle.yw_base.specs.Identity.{parent}
use Rattle.yw_state.specs.Judged.{Question, case_place, has_rule, has_rules, item_values, rules_at, task_place}
use Rattle.yw_state.specs.Map.{Map, lexical, lexical_each, get, has_key}
use Rattle.yw_state.specs.NewRule.{are_fit, is_known, may_conclude}
use Rattle.yw_state.specs.Options.{is_some_and}
use Rattle.yw_state.specs.RuleTree.{TreeRule}
use Rattle.yw_state.specs.State.{State, Site, Sites, NetPart, ItemPart, ItemAt, NetAt, due_at, is_suspended, is_target, item_at, item_part, items_of, net_at, net_part, no_checks, run_part, spec_called, task_in}
use Rattle.yw_state.specs.declared.loaded.Loaded.{Loaded}
use Rattle.yw_state.specs.Texts.{Reader}
use Rattle.yw_state.specs.Well.{NumbersFit, NetsStand, ParentsStand, MarksStand, ContentFits, IsWell, RulesFit, DepthFits, Stands, is_child_of, is_composite, is_top, item_limit, wants_net}
use Rattle.yw_state.specs.Words.{has_check, is_ready}
use Rattle.yw_state.specs.declared.tree.Conclusion.{Conclusion}
use Rattle.yw_state.specs.declared.tree.Conclusion.TheVariants.{Worklet, Exlet}
use Rattle.yw_state.specs.declared.tree.Primitive.{Primitive}
use Rattle.yw_state.specs.declared.tree.Primitive.TheVariants as primitives
use Rattle.yw_state.specs.declared.tree.TreeKind.{TreeKind}
use Rattle.yw_state.specs.declared.tree.TreeKind.TheVariants.{Pre, Post, Select}
use Rattle.yw_state.specs.declared.tree.TreePlace.{TreePlace}

-- ---- tests that are weaker

right_weaker : (a b c : Bool) → (b ≡ true → c ≡ true) → (a && b) ≡ true → (a && c) ≡ true
right_weaker true b c weaker e = weaker e
right_weaker false b c weaker e = never e

left_weaker : (a b c : Bool) → (a ≡ true → c ≡ true) → (a && b) ≡ true → (c && b) ≡ true
left_weaker a b c weaker e = let parts = and_parts a b e in and_from c b (weaker parts.0) parts.1

else_weaker : (a b c d : Bool) → (c ≡ true → d ≡ true) → IsTrue (if a then b else c) → IsTrue (if a then b else d)
else_weaker true b c d weaker e = e
else_weaker false b c d weaker e = weaker e

pub all_weaker : {A : Type 0} (p q : A → Bool) → ((x : A) → p x ≡ true → q x ≡ true) → (xs : List A) → list_all p xs ≡ true → list_all q xs ≡ true
all_weaker p q weaker [] e = refl
all_weaker p q weaker (x ∷ xs) e =
    let parts = and_parts (p x) (list_all p xs) e in and_from (q x) (list_all q xs) (weaker x parts.0) (all_weaker p q weaker xs parts.1)

-- ---- the later state

abbrev pub later : State → Map lexical Loaded → Map lexical (List (List ℕ)) → Map lexical_each (List TreeRule) → Sites → State
later s specs persons rules sites = record s { specs = specs; persons = persons; rules = rules; sites = sites }

-- Each specification is known as before, and a tree that had a rule has one.
pub record KnowsMore (s t : State) : Type 0 where
  pub specs : (name : List ℕ) (l : Loaded) → get s.specs name ≡ Some l → get t.specs name ≡ Some l
  pub rules : (place : TreePlace) → has_rules s place ≡ true → has_rules t place ≡ true

-- The check may be due there: at a case or an item whose tree has a rule, and a choice of a worklet at an item that is ready.
pub record MayBeDue (s : State) (j : Ident) (kind : TreeKind) : Type 0 where
  pub target : is_target s j ≡ true
  pub rule : has_rule s j kind ≡ true
  pub ready : kind ≡ Select → is_some_and (item_part s j) (λ x. is_ready x.stage) ≡ true

pub may_be_due : (s : State) → MarksStand s → (j : Ident) (kind : TreeKind) → has_check (due_at s j) kind ≡ true → MayBeDue s j kind
may_be_due s marks j kind e =
    record {
      target = marks.due j kind e;
      rule = marks.due_has_rule j kind e;
      ready = λ select. marks.select j (subst (λ k. has_check (due_at s j) k ≡ true) select e);
    }

pub nothing_due : (kind : TreeKind) → has_check no_checks kind ≡ false
nothing_due Pre = refl
nothing_due Post = refl
nothing_due Select = refl
nothing_due kind = refl

-- a check is due where something stands at which it is
pub due_test : (kind : TreeKind) (o : Option Site) → has_check (unwrap_or (option_map (λ (x : Site). x.due) o) no_checks) kind ≡ is_some_and o (λ x. has_check x.due kind)
due_test kind None = nothing_due kind
due_test kind (Some x) = refl

-- The same nets, items and runs stand. What is suspended and what is due may be so.
pub record StandsAlike (s t : State) : Type 0 where
  pub net : (j : Ident) → net_part t j ≡ net_part s j
  pub item : (j : Ident) → item_part t j ≡ item_part s j
  pub run : (j : Ident) → run_part t j ≡ run_part s j
  pub stood : (j : Ident) (y : Site) → Stands t j y → (x : Site) × Stands s j x
  pub items : (i : Ident) (k : ℕ) → length (items_of t i k) ≡ length (items_of s i k)
  pub suspended : (j : Ident) → is_suspended t j ≡ true → is_target s j ≡ true
  pub due : (j : Ident) (kind : TreeKind) → has_check (due_at t j) kind ≡ true → MayBeDue s j kind

-- What is new is as its text says, and within its bounds.
pub record LearnsRight (reader : Reader) (s t : State) : Type 0 where
  pub spec_text : (name : List ℕ) (l : Loaded) → get t.specs name ≡ Some l → (get s.specs name ≡ Some l) ⊎ reader.spec l.text (Ok l.spec)
  pub spec_name : (name : List ℕ) (l : Loaded) → get t.specs name ≡ Some l → (get s.specs name ≡ Some l) ⊎ (l.spec.name ≡ name)
  pub person : (name : List ℕ) (roles : List (List ℕ)) → get t.persons name ≡ Some roles → (get s.persons name ≡ Some roles) ⊎ IsTrue (are_roles roles)
  pub rules : (key : List (List ℕ)) (rs : List TreeRule) → get t.rules key ≡ Some rs → (get s.rules key ≡ Some rs) ⊎ RulesFit reader t key rs

-- ---- what is read off a specification, or off a net that stands

abbrev spec_in : Option Loaded → Option Spec
spec_in o = option_map (λ (l : Loaded). l.spec) o

abbrev pub net_in : NetPart → Option Spec → Option NetAt
net_in n o = option_map (λ net. record { part = n; net = net }) (option_and_then (λ (spec : Spec). slice_get spec.nets n.net) o)

abbrev pub net_by : State → NetPart → Option NetAt
net_by s n = net_in n (spec_called s n.spec)

abbrev pub item_in : Option ItemPart → Option NetAt → Option ItemAt
item_in part o =
    option_and_then (λ (x : ItemPart). option_and_then (λ n. option_map (λ t. record { part = x; of_task = t }) (task_in n x.task)) o) part

abbrev asks_some : Question → Bool
asks_some q = nat_lt 0 (length q.rules)

abbrev pub case_asks : State → TreeKind → Option NetPart → Option Question
case_asks s kind o = option_map (λ (n : NetPart). record { rules = rules_at s (case_place n.spec kind); row = n.vals }) o

abbrev pub item_asks : State → TreeKind → Option ItemAt → Option Question
item_asks s kind o = option_map (λ (x : ItemAt). record { rules = rules_at s (task_place x.of_task kind); row = item_values x }) o

abbrev pub asked_of : Bool → State → Option NetPart → Option ItemAt → TreeKind → Bool
asked_of of_case s n x kind = is_some_and (if of_case then case_asks s kind n else item_asks s kind x) asks_some

abbrev is_top_of : NetPart → Option Spec → Bool
is_top_of n o = is_some_and o (λ (spec : Spec). n.net == spec.top)

-- a net, an item or a run
abbrev pub has_part : Option Site → Bool
has_part o =
    is_some (option_and_then (λ (x : Site). x.net) o) || is_some (option_and_then (λ (x : Site). x.item) o) || is_some (option_and_then (λ (x : Site). x.run) o)

module _ (s : State) (specs : Map lexical Loaded) (persons : Map lexical (List (List ℕ))) (rules : Map lexical_each (List TreeRule)) (sites : Sites) where
  -- what stands isn't touched
  pub untouched : MarksStand s → StandsAlike s (later s specs persons rules s.sites)
  untouched marks =
      record {
        net = λ j. refl;
        item = λ j. refl;
        run = λ j. refl;
        stood = λ j y e. (y, e);
        items = λ i k. refl;
        suspended = marks.suspended;
        due = may_be_due s marks;
      }

  module _ (knows : KnowsMore s (later s specs persons rules sites)) (alike : StandsAlike s (later s specs persons rules sites)) where
    abbrev t : State
    t = later s specs persons rules sites

    spec_kept : (name : List ℕ) (spec : Spec) → spec_called s name ≡ Some spec → spec_called t name ≡ Some spec
    spec_kept name spec e =
        by_option (get s.specs name)
        (λ none. nowhere (sym (ap spec_in none) ∙ e))
        (λ l some. ap spec_in (knows.specs name l some) ∙ sym (ap spec_in some) ∙ e)

    has_key_kept : (name : List ℕ) → has_key s.specs name ≡ true → has_key specs name ≡ true
    has_key_kept name e =
        by_option (get s.specs name)
        (λ none. never (sym (ap is_some none) ∙ e))
        (λ l some. ap is_some (knows.specs name l some))

    is_top_kept : (n : NetPart) → is_top s n ≡ true → is_top t n ≡ true
    is_top_kept n e =
        by_option (spec_called s n.spec)
        (λ none. never (sym (ap (is_top_of n) none) ∙ e))
        (λ spec some. ap (is_top_of n) (spec_kept n.spec spec some) ∙ sym (ap (is_top_of n) some) ∙ e)

    target_same : (j : Ident) → is_target t j ≡ is_target s j
    target_same j =
        ap (λ o. is_case_ident j && is_some o || is_some (item_part t j)) (alike.net j)
        ∙ ap (λ o. is_case_ident j && is_some (net_part s j) || is_some o) (alike.item j)

    part_same : (j : Ident) → has_part (get sites j) ≡ has_part (get s.sites j)
    part_same j =
        ap (λ o. is_some o || is_some (item_part t j) || is_some (run_part t j)) (alike.net j)
        ∙ ap (λ o. is_some (net_part s j) || is_some o || is_some (run_part t j)) (alike.item j)
        ∙ ap (λ o. is_some (net_part s j) || is_some (item_part s j) || is_some o) (alike.run j)

    -- ---- what stands is as before

    module _ (of_spec : (j : Ident) (n : NetPart) → net_part s j ≡ Some n → IsSome (net_at s j)) where
      net_same : (j : Ident) (n : NetPart) → net_part s j ≡ Some n → net_by t n ≡ net_by s n
      net_same j n e =
          by_option (spec_called s n.spec)
          (λ none. never (sym (ap is_some (ap (option_and_then (net_by s)) e ∙ ap (net_in n) none)) ∙ of_spec j n e))
          (λ spec some. ap (net_in n) (spec_kept n.spec spec some) ∙ sym (ap (net_in n) some))

      net_at_same : (j : Ident) → net_at t j ≡ net_at s j
      net_at_same j =
          ap (option_and_then (net_by t)) (alike.net j)
          ∙ by_option (net_part s j)
          (λ none. ap (option_and_then (net_by t)) none ∙ sym (ap (option_and_then (net_by s)) none))
          (λ n some. ap (option_and_then (net_by t)) some ∙ net_same j n some ∙ sym (ap (option_and_then (net_by s)) some))

      item_at_same : (j : Ident) → item_at t j ≡ item_at s j
      item_at_same j = ap (λ o. item_in o (net_at t (parent j))) (alike.item j) ∙ ap (item_in (item_part s j)) (net_at_same (parent j))

      -- ---- rules that are there

      asked_kept : (of_case : Bool) (n : Option NetPart) (x : Option ItemAt) (kind : TreeKind) → asked_of of_case s n x kind ≡ true → asked_of of_case t n x kind ≡ true
      asked_kept true None x kind e = e
      asked_kept true (Some n) x kind e = knows.rules (case_place n.spec kind) e
      asked_kept false n None kind e = e
      asked_kept false n (Some x) kind e = knows.rules (task_place x.of_task kind) e

      has_rule_kept : (j : Ident) (kind : TreeKind) → has_rule s j kind ≡ true → has_rule t j kind ≡ true
      has_rule_kept j kind e =
          ap (λ n. asked_of (is_case_ident j) t n (item_at t j) kind) (alike.net j)
          ∙ ap (λ x. asked_of (is_case_ident j) t (net_part s j) x kind) (item_at_same j)
          ∙ asked_kept (is_case_ident j) (net_part s j) (item_at s j) kind e

      -- ---- the parts

      numbers_kept : NumbersFit s → NumbersFit t
      numbers_kept numbers =
          record {
            least = numbers.least;
            most = numbers.most;
            identities = λ j y e. let x = alike.stood j y e in numbers.identities j x.0 x.1;
            drawn = λ j y e. let x = alike.stood j y e in numbers.drawn j x.0 x.1;
            ended_some = numbers.ended_some;
            ended_drawn = numbers.ended_drawn;
            over = λ j y e. let x = alike.stood j y e in numbers.over j x.0 x.1;
          }

      nets_kept : NetsStand s → NetsStand t
      nets_kept nets =
          record {
            of_case = λ j n e is_case. is_top_kept n (nets.of_case j n (sym (alike.net j) ∙ e) is_case);
            of_item = λ j n x e f.
                right_weaker (wants_net x) _ _ (else_weaker (is_composite x) (is_child_of x n) _ _ (is_top_kept n)) (nets.of_item j n x (sym (alike.net j) ∙ e) (sym (item_at_same j) ∙ f));
            of_run = λ j n r e f. right_weaker r.waiting _ _ (is_top_kept n) (nets.of_run j n r (sym (alike.net j) ∙ e) (sym (alike.run j) ∙ f));
            at_something = λ j n e.
                ap (λ o. is_case_ident j || is_some o || is_some (run_part t j)) (alike.item j)
                ∙ ap (λ o. is_case_ident j || is_some (item_part s j) || is_some o) (alike.run j)
                ∙ nets.at_something j n (sym (alike.net j) ∙ e);
            item_has = λ j x e wants. ap is_some (alike.net j) ∙ nets.item_has j x (sym (item_at_same j) ∙ e) wants;
            run_has = λ j r e waits. ap is_some (alike.net j) ∙ nets.run_has j r (sym (alike.run j) ∙ e) waits;
          }

      parents_kept : ParentsStand s → ParentsStand t
      parents_kept parents =
          record {
            item_depth = λ j x e. parents.item_depth j x (sym (alike.item j) ∙ e);
            item_of_net = λ j x e. ap is_some (item_at_same j) ∙ parents.item_of_net j x (sym (alike.item j) ∙ e);
            run_depth = λ j r e. parents.run_depth j r (sym (alike.run j) ∙ e);
            run_of_target = λ j r e. target_same (parent j) ∙ parents.run_of_target j r (sym (alike.run j) ∙ e);
            run_works = λ j r e. parents.run_works j r (sym (alike.run j) ∙ e);
            one_run = λ j k a b. parents.one_run j k (ap is_some (sym (alike.run j)) ∙ a) (ap is_some (sym (alike.run k)) ∙ b);
            not_both = λ j a. ap is_some (alike.run j) ∙ parents.not_both j (ap is_some (sym (alike.item j)) ∙ a);
            something = λ j y e. let x = alike.stood j y e in sym (ap has_part e) ∙ part_same j ∙ ap has_part x.1 ∙ parents.something j x.0 x.1;
          }

      marks_kept : MarksStand s → MarksStand t
      marks_kept marks =
          record {
            suspended = λ j e. target_same j ∙ alike.suspended j e;
            due = λ j kind e. target_same j ∙ (alike.due j kind e).target;
            due_has_rule = λ j kind e. has_rule_kept j kind (alike.due j kind e).rule;
            select = λ j e. ap (λ o. is_some_and o (λ x. is_ready x.stage)) (alike.item j) ∙ (alike.due j Select e).ready refl;
          }

      depth_kept : DepthFits s → DepthFits t
      depth_kept depth j n e = deep_alike s t (λ i. ap (λ o. is_some_and o is_composite) (item_at_same i)) j (depth j n (sym (alike.net j) ∙ e))

      -- ---- conclusions

      known_kept : (x : Primitive) → is_known s x ≡ true → is_known t x ≡ true
      known_kept primitives.SuspendItem e = refl
      known_kept primitives.ContinueItem e = refl
      known_kept primitives.RestartItem e = refl
      known_kept primitives.CompleteItem e = refl
      known_kept primitives.RemoveItem e = refl
      known_kept primitives.SuspendCase e = refl
      known_kept primitives.ContinueCase e = refl
      known_kept primitives.RemoveCase e = refl
      known_kept (primitives.Compensate name) e = has_key_kept name e
      known_kept (primitives.Unknown text) e = e

      are_fit_kept : (of_case : Bool) (xs : List Primitive) → are_fit s of_case xs ≡ true → are_fit t of_case xs ≡ true
      are_fit_kept of_case xs e = left_weaker _ _ _ (all_weaker _ _ (λ x. left_weaker _ _ _ (known_kept x)) xs) e

      may_conclude_kept : (place : TreePlace) (c : Conclusion) → may_conclude s place c ≡ true → may_conclude t place c ≡ true
      may_conclude_kept place (Worklet name) e = right_weaker _ _ _ (has_key_kept name) e
      may_conclude_kept place (Exlet xs) e = right_weaker _ _ _ (are_fit_kept _ xs) e

      rules_fit_kept : (reader : Reader) (key : List (List ℕ)) (rs : List TreeRule) → RulesFit reader s key rs → RulesFit reader t key rs
      rules_fit_kept reader key rs fit =
          record {
            place = fit.place;
            spec = fit.spec;
            here = fit.here;
            of_spec = spec_kept _ _ fit.of_spec;
            is_place = fit.is_place;
            some = fit.some;
            most = fit.most;
            free = fit.free;
            conclude = All-weaker _ _ (λ (x : TreeRule). may_conclude_kept fit.place x.conclusion) rs fit.conclude;
            spelt = fit.spelt;
          }

      known_or_new : {A B : Type 0} → (A → B) → A ⊎ B → B
      known_or_new f (inl a) = f a
      known_or_new f (inr b) = b

      content_kept : (reader : Reader) → LearnsRight reader s t → ContentFits reader s → ContentFits reader t
      content_kept reader right content =
          record {
            spec_text = λ name l e. known_or_new (content.spec_text name l) (right.spec_text name l e);
            spec_name = λ name l e. known_or_new (content.spec_name name l) (right.spec_name name l e);
            person = λ name roles e. known_or_new (content.person name roles) (right.person name roles e);
            of_spec = λ j n e. ap is_some (net_at_same j) ∙ content.of_spec j n (sym (alike.net j) ∙ e);
            net = λ j n e. content.net j n (sym (net_at_same j) ∙ e);
            item = λ j x e. content.item j x (sym (item_at_same j) ∙ e);
            count = λ i n k task e f.
                subst (λ count. count ≤ item_limit task.many) (sym (alike.items i k)) (content.count i n k task (sym (net_at_same i) ∙ e) f);
            run_length = λ j r e. content.run_length j r (sym (alike.run j) ∙ e);
            run_fit = λ j r e. are_fit_kept _ r.rest (content.run_fit j r (sym (alike.run j) ∙ e));
            rules = λ key rs e. known_or_new (λ old. rules_fit_kept reader key rs (content.rules key rs old)) (right.rules key rs e);
          }

  pub later_is_well : (reader : Reader) → KnowsMore s (later s specs persons rules sites) → StandsAlike s (later s specs persons rules sites) → LearnsRight reader s (later s specs persons rules sites) → IsWell reader s → IsWell reader (later s specs persons rules sites)
  later_is_well reader knows alike right well =
      let of_spec = well.content.of_spec in
      record {
        numbers = numbers_kept knows alike of_spec well.numbers;
        nets = nets_kept knows alike of_spec well.nets;
        parents = parents_kept knows alike of_spec well.parents;
        marks = marks_kept knows alike of_spec well.marks;
        content = content_kept knows alike of_spec reader right well.content;
        depth = depth_kept knows alike of_spec well.depth;
      }
