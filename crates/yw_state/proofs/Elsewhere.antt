-- An event of a case leaves everything else as it was.
use Rattle.std.specs.Prelude.{ℕ, ◌≡◌, ◌≢◌, ◌+◌, ◌==◌, ◌&&◌, ◌||◌, ◌≤◌, Bool, true, false, not, List, [], ◌∷◌, fold, length, nat_lt, Option, Some, None, refl, if◌then◌else◌, option_and_then}
use Rattle.std.specs.List.{All, filter_map, cons_option, range_with_len, zip}
use Rattle.std.proofs.Common.{sym, ◌∙◌, ap, subst, arith}
use Rattle.std.proofs.lemmas.Bool.{eqb-true}
use Rattle.std.proofs.lemmas.List.Elements.{All-nil, All-cons, All-head, All-tail, All-map, All-weaker}
use Rattle.yw_base.specs.Identity.{under, child, parent, case_number}
use Rattle.yw_base.specs.declared.value.Value.{Value}
use Rattle.yw_spec.specs.declared.spec.Net.{Net}
use Rattle.yw_spec.specs.declared.spec.Place.{Place}
use Rattle.yw_spec.specs.declared.spec.Spec.{Spec}
use Rattle.yw_spec.specs.declared.task.Task.{Task}
use Rattle.yw_state.specs.After
use Rattle.yw_state.specs.Allowed.{depth_end}
use Rattle.yw_state.specs.Apart.{SameElsewhere}
use Rattle.yw_state.specs.Automatic.{case_of}
use Rattle.yw_state.specs.ByName.{made_by_child, made_by_worklet}
use Rattle.yw_state.specs.Events.{after}
use Rattle.yw_state.specs.Exlets
use Rattle.yw_state.specs.Identity.{Ident, same, is_child, case_ident}
use Rattle.yw_state.specs.Map.{entries, get, remove}
use Rattle.yw_state.specs.State.{State, Site, Sites, ItemPart, NetAt, ItemAt, TaskAt, bare, bare_but, drop, drop_all, item_of_task, item_at, items_of, net_at, spec_called, task_at, top_called}
use Rattle.yw_state.specs.Nets.{is_atomic}
use Rattle.yw_state.specs.Passing.{given_values}
use Rattle.yw_state.specs.Texts.{Said}
use Rattle.yw_state.specs.Values.{Row}
use Rattle.yw_state.specs.Words.{is_completed}
use Rattle.yw_state.specs.declared.event.Event.{Event}
use Rattle.yw_state.specs.declared.event.Event.TheVariants as events
use Rattle.yw_state.specs.declared.part.Checks.{Checks}
use Rattle.yw_state.specs.declared.part.Way.{Way}
use Rattle.yw_state.specs.declared.part.Way.TheVariants.{Finished, Cancelled, Removed}
use Rattle.yw_state.specs.declared.tree.Primitive.{Primitive}
use Rattle.yw_state.specs.declared.tree.Primitive.TheVariants as primitives
use Rattle.yw_state.specs.declared.tree.TreeKind.{TreeKind}
use Rattle.yw_state.proofs.MapLemmas.{by_name, by_number, get-insert_other, get-remove_other, get-retain_kept, get-update_other}
use Rattle.yw_state.proofs.Tests.{never, nowhere, some_same, by_test, and_left}

-- ---- identities of a case

under_case : (k : Ident) (n : ℕ) (j : Ident) → under k (n ∷ j) ≡ true → case_number k ≡ n
under_case [] n j e = never e
under_case (x ∷ k) n j e = sym (eqb-true n x (and_left (n == x) (under k j) e))

-- what isn't in case n isn't under an identity of it
pub not_under : (n : ℕ) (k j : Ident) → n ≢ 0 → case_number j ≡ n → case_number k ≢ n → under k j ≡ false
not_under n k [] some here other = absurd (some (sym here))
not_under n k (m ∷ j) some here other = by_test (under k (m ∷ j)) (λ e. absurd (other (under_case k m j e ∙ here))) (λ e. e)

pub child_case : (n : ℕ) (j i : Ident) → n ≢ 0 → case_number i ≡ n → is_child j i ≡ true → case_number j ≡ n
child_case n j [] some here e = absurd (some (sym here))
child_case n j (m ∷ i) some here e = under_case j m i (and_left (under j (m ∷ i)) (length j == length (m ∷ i) + 1) e) ∙ here

pub case-child : (i : Ident) (n m : ℕ) → n ≢ 0 → case_number i ≡ n → case_number (child i m) ≡ n
case-child [] n m some here = absurd (some (sym here))
case-child (x ∷ i) n m some here = here

case-parent : (r : Ident) → 2 ≤ length r → case_number (parent r) ≡ case_number r
case-parent [] long = absurd (omega arith)
case-parent (x ∷ []) long = absurd (omega arith)
case-parent (x ∷ y ∷ r) long = refl

-- a run stands at something
abbrev pub IsPlaced : Event → Type 0
IsPlaced (events.Prim r p) = 2 ≤ length r
IsPlaced e = Unit {0}

-- ---- the items of a task stand in its net

All-cons_option : {X : Type 0} (P : X → Type 0) (o : Option X) (xs : List X) → ((x : X) → o ≡ Some x → P x) → All P xs → All P (cons_option o xs)
All-cons_option P None xs here rest = rest
All-cons_option P (Some x) xs here rest = All-cons P x xs (here x refl) rest

of_part : (b : Bool) (j : Ident) (y : ItemPart) (e : Ident × ItemPart) → (if b then Some (j, y) else None) ≡ Some e → e.0 ≡ j
of_part true j y e is = ap (λ (a : Ident × ItemPart). a.0) (sym (some_same (j, y) e is))
of_part false j y e is = nowhere is

of_item : (k : ℕ) (j : Ident) (o : Option ItemPart) (e : Ident × ItemPart) → option_and_then (λ (y : ItemPart). if y.task == k then Some (j, y) else None) o ≡ Some e → e.0 ≡ j
of_item k j None e is = nowhere is
of_item k j (Some y) e is = of_part (y.task == k) j y e is

item_is_child : (i : Ident) (k : ℕ) (j : Ident) (x : Site) (e : Ident × ItemPart) → item_of_task i k j x ≡ Some e → is_child e.0 i ≡ true
item_is_child i k j x e =
    elim (is_child j i) as (λ b. is_child j i ≡ b → (if b then option_and_then (λ (y : ItemPart). if y.task == k then Some (j, y) else None) x.item else None) ≡ Some e → is_child e.0 i ≡ true) [
      | true ↦ λ below is. ap (λ a. is_child a i) (of_item k j x.item e is) ∙ below
      | false ↦ λ out is. nowhere is
    ] refl

items_are_children : (i : Ident) (k : ℕ) (es : List (Ident × Site)) → All (λ (e : Ident × ItemPart). is_child e.0 i ≡ true) (filter_map (λ e. item_of_task i k e.0 e.1) es)
items_are_children i k [] = All-nil _
items_are_children i k (e ∷ es) = All-cons_option _ (item_of_task i k e.0 e.1) _ (item_is_child i k e.0 e.1) (items_are_children i k es)

pub children : (s : State) (i : Ident) (k : ℕ) → All (λ (e : Ident × ItemPart). is_child e.0 i ≡ true) (items_of s i k)
children s i k = items_are_children i k (entries s.sites)

module _ (n : ℕ) where
  -- ---- one change behind another

  pub unchanged : (s : State) → SameElsewhere n s s
  unchanged s = record { sites = λ j other. refl; ended = λ m other. refl; specs = refl; persons = refl; rules = refl }

  pub step : {s t u : State} → SameElsewhere n s t → SameElsewhere n t u → SameElsewhere n s u
  step a b =
      record {
        sites = λ j other. b.sites j other ∙ a.sites j other;
        ended = λ m other. b.ended m other ∙ a.ended m other;
        specs = b.specs ∙ a.specs;
        persons = b.persons ∙ a.persons;
        rules = b.rules ∙ a.rules;
      }

  pub with_sites-else : (s : State) (m : Sites) → ((j : Ident) → case_number j ≢ n → get m j ≡ get s.sites j) → SameElsewhere n s (After.with_sites s m)
  with_sites-else s m kept = record { sites = kept; ended = λ k other. refl; specs = refl; persons = refl; rules = refl }

  pub with_next-else : (s : State) (m : ℕ) → SameElsewhere n s (After.with_next s m)
  with_next-else s m = record { sites = λ j other. refl; ended = λ k other. refl; specs = refl; persons = refl; rules = refl }

  pub where_some-else : {A : Type 0} (o : Option A) (s : State) (f : A → State) → ((x : A) → SameElsewhere n s (f x)) → SameElsewhere n s (After.where_some o s f)
  where_some-else None s f each = unchanged s
  where_some-else (Some x) s f each = each x

  pub where_spec-else : (s : State) (name : List ℕ) (f : Spec → Net → State) → ((spec : Spec) (net : Net) → SameElsewhere n s (f spec net)) → SameElsewhere n s (After.where_spec s name f)
  where_spec-else s name f each = where_some-else (spec_called s name) s _ (λ spec. where_some-else (top_called s name) s (f spec) (each spec))

  pub if-else : (b : Bool) (s t u : State) → SameElsewhere n s t → SameElsewhere n s u → SameElsewhere n s (if b then t else u)
  if-else true s t u p q = p
  if-else false s t u p q = q

  pub fold-else : {A : Type 0} (f : State → A → State) → ((s : State) (a : A) → SameElsewhere n s (f s a)) → (xs : List A) (s : State) → SameElsewhere n s (fold f s xs)
  fold-else f each [] s = unchanged s
  fold-else f each (a ∷ rest) s = step (each s a) (fold-else f each rest (f s a))

  -- ---- at an identity of the case

  other_key : (j k : Ident) → case_number j ≡ n → case_number k ≢ n → k ≢ j
  other_key j k here other e = other (ap case_number e ∙ here)

  pub change-else : (s : State) (j : Ident) (f : Site → Site) → case_number j ≡ n → SameElsewhere n s (After.change s j f)
  change-else s j f here = with_sites-else s _ (λ k other. get-update_other by_name s.sites j f k (other_key j k here other))

  pub put-else : (s : State) (j : Ident) (x : Site) → case_number j ≡ n → SameElsewhere n s (After.put s j x)
  put-else s j x here = with_sites-else s _ (λ k other. get-insert_other by_name s.sites j x k (other_key j k here other))

  pub remove-else : (s : State) (j : Ident) → case_number j ≡ n → SameElsewhere n s (After.with_sites s (remove s.sites j))
  remove-else s j here = with_sites-else s _ (λ k other. get-remove_other by_name s.sites j k (other_key j k here other))

  abbrev Here : Ident → Type 0
  Here j = case_number j ≡ n

  module _ (some : n ≢ 0) where
    drop_kept : (m : Sites) (j k : Ident) → case_number j ≡ n → case_number k ≢ n → get (drop m j) k ≡ get m k
    drop_kept m j k here other = get-retain_kept by_name m _ k (ap not (not_under n k j some here other))

    pub drop-else : (s : State) (j : Ident) → case_number j ≡ n → SameElsewhere n s (After.with_sites s (drop s.sites j))
    drop-else s j here = with_sites-else s _ (λ k other. drop_kept s.sites j k here other)

    pub bare-else : (s : State) (j : Ident) → case_number j ≡ n → SameElsewhere n s (After.with_sites s (bare s.sites j))
    bare-else s j here =
        with_sites-else s _ (λ k other.
        get-update_other by_name _ j _ k (other_key j k here other)
        ∙ get-retain_kept by_name s.sites _ k (ap (λ b. not (b && not (same k j))) (not_under n k j some here other)))

    pub bare_but-else : (s : State) (j r : Ident) → case_number j ≡ n → SameElsewhere n s (After.with_sites s (bare_but s.sites j r))
    bare_but-else s j r here =
        with_sites-else s _ (λ k other.
        get-update_other by_name _ j _ k (other_key j k here other)
        ∙ get-retain_kept by_name s.sites _ k (ap (λ b. not (b && not (same k j)) || same k r) (not_under n k j some here other)))

    -- ---- items

    drop_all_kept : (js : List Ident) (k : Ident) → All Here js → case_number k ≢ n → (m : Sites) → get (drop_all m js) k ≡ get m k
    drop_all_kept [] k here other m = refl
    drop_all_kept (j ∷ js) k here other m = drop_all_kept js k (All-tail Here j js here) other (drop m j) ∙ drop_kept m j k (All-head Here j js here) other

    pub without_items-else : (i : Ident) → case_number i ≡ n → (s : State) (k : ℕ) → SameElsewhere n s (After.without_items i s k)
    without_items-else i here s k =
        let in_case = All-map Here (λ (e : Ident × ItemPart). e.0) (items_of s i k) (All-weaker _ _ (λ e below. child_case n e.0 i some here below) (items_of s i k) (children s i k)) in
        with_sites-else s _ (λ j other. drop_all_kept _ j in_case other s.sites)

    pub empty_region-else : (s : State) (i : Ident) (t : Task) → case_number i ≡ n → SameElsewhere n s (After.empty_region s i t)
    empty_region-else s i t here = step (change-else s i _ here) (fold-else (After.without_items i) (without_items-else i here) t.drop_tasks _)

    pub make_select_due-else : (s : State) (j : Ident) (x : TaskAt) → case_number j ≡ n → SameElsewhere n s (After.make_select_due s j x)
    make_select_due-else s j x here = if-else (is_atomic x.task) s _ s (change-else s j _ here) (unchanged s)

    pub add_item-else : (x : TaskAt) (i : Ident) (due : Checks) → case_number i ≡ n → (s : State) (e : ℕ × Row) → SameElsewhere n s (After.add_item x i due s e)
    add_item-else x i due here s e = put-else s (child i e.0) _ (case-child i n e.0 some here)

    pub add_items-else : (x : TaskAt) (i : Ident) (first : ℕ) (rows : List Row) (s : State) → case_number i ≡ n → SameElsewhere n s (After.add_items x i first rows s)
    add_items-else x i first rows s here =
        let due = After.item_checks s x in
        step (fold-else (After.add_item x i due) (add_item-else x i due here) (zip (range_with_len first (length rows)) rows) s) (with_next-else _ (first + length rows))

    -- ---- rows

    pub complete-else : (s : State) (j : Ident) (out : Row) (x : ItemAt) → case_number j ≡ n → SameElsewhere n s (After.complete s j out x)
    complete-else s j out x here = step (change-else s j _ here) (change-else _ j _ here)

    pub launch-else : (s : State) (name : List ℕ) (vals : Row) → SameElsewhere n s (After.launch s n name vals)
    launch-else s name vals = where_spec-else s name _ (λ spec net. step (put-else s (case_ident n) _ refl) (with_next-else _ (n + 1)))

    pub enter-else : (s : State) (i : Ident) (places : List Place) (first : ℕ) (x : TaskAt) → case_number i ≡ n → SameElsewhere n s (After.enter s i places first x)
    enter-else s i places first x here = step (change-else s i _ here) (add_items-else x i first _ _ here)

    pub add-else : (s : State) (i : Ident) (value : Value) (m : ℕ) (x : TaskAt) → case_number i ≡ n → SameElsewhere n s (After.add s i value m x)
    add-else s i value m x here = where_some-else (given_values x.task x.within.part.vals (Some value)) s _ (λ given. add_items-else x i m (given ∷ []) s here)

    pub end_net-else : (s : State) (j : Ident) (made : NetAt → ItemAt → Row) (x : ItemAt) → case_number j ≡ n → SameElsewhere n s (After.end_net s j made x)
    end_net-else s j made x here = where_some-else (net_at s j) s _ (λ a. step (bare-else s j here) (complete-else _ j (made a x) x here))

    pub start_sub-else : (s : State) (j : Ident) (x : ItemAt) → case_number j ≡ n → SameElsewhere n s (After.start_sub s j x)
    start_sub-else s j x here = where_some-else _ s _ (λ e. change-else s j _ here)

    pub substitute-else : (s : State) (j : Ident) (name : List ℕ) (x : ItemAt) → case_number j ≡ n → SameElsewhere n s (After.substitute s j name x)
    substitute-else s j name x here = where_spec-else s name _ (λ spec net. step (change-else s j _ here) (change-else _ j _ here))

    pub exit-else : (s : State) (i : Ident) (places : List Place) (x : TaskAt) → case_number i ≡ n → SameElsewhere n s (After.exit s i places x)
    exit-else s i places x here =
        step (step (step (step (without_items-else i here s x.number) (change-else _ i _ here)) (empty_region-else _ i x.task here)) (change-else _ i _ here))
        (if-else _ _ _ _ (change-else _ i _ here) (unchanged _))

    pub end_case-else : (s : State) (way : Way) → SameElsewhere n s (After.end_case s n way)
    end_case-else s way =
        record { sites = λ j other. drop_kept s.sites (case_ident n) j refl other; ended = λ m other. get-insert_other by_number s.ended n way m other; specs = refl; persons = refl; rules = refl }

    pub begin_run-else : (s : State) (j : Ident) (kind : TreeKind) (node m : ℕ) → case_number j ≡ n → SameElsewhere n s (After.begin_run s j kind node m)
    begin_run-else s j kind node m here = step (put-else s (child j m) _ (case-child j n m some here)) (with_next-else _ (m + 1))

    -- ---- exlets

    cut_back-else : (s : State) (r j : Ident) (f : Site → Site) → case_number j ≡ n → SameElsewhere n s (After.change (After.with_sites s (bare_but s.sites j r)) j f)
    cut_back-else s r j f here = step (bare_but-else s j r here) (change-else _ j f here)

    compensate-else : (s : State) (r j : Ident) (name : List ℕ) → case_number r ≡ n → SameElsewhere n s (Exlets.primitive s r j (primitives.Compensate name))
    compensate-else s r j name here = if-else (nat_lt (length r) depth_end) s _ s (where_spec-else s name _ (λ spec net. change-else s r _ here)) (unchanged s)

    primitive-else : (s : State) (r j : Ident) (p : Primitive) → case_number r ≡ n → case_number j ≡ n → SameElsewhere n s (Exlets.primitive s r j p)
    primitive-else s r j primitives.SuspendItem here there = change-else s j _ there
    primitive-else s r j primitives.ContinueItem here there = change-else s j _ there
    primitive-else s r j primitives.RestartItem here there =
        where_some-else (item_at s j) s _ (λ x. step (cut_back-else s r j _ there) (make_select_due-else _ j x.of_task there))
    primitive-else s r j primitives.CompleteItem here there =
        where_some-else (item_at s j) s _ (λ x. if-else (is_completed x.part.stage) s s _ (unchanged s) (cut_back-else s r j _ there))
    primitive-else s r j primitives.RemoveItem here there = drop-else s j there
    primitive-else s r j primitives.SuspendCase here there = change-else s (Exlets.case_above r) _ here
    primitive-else s r j primitives.ContinueCase here there = change-else s (Exlets.case_above r) _ here
    primitive-else s r j primitives.RemoveCase here there = subst (λ m. SameElsewhere n s (After.end_case s m Removed)) (sym here) (end_case-else s Removed)
    primitive-else s r j (primitives.Compensate name) here there = compensate-else s r j name here
    primitive-else s r j (primitives.Unknown text) here there = unchanged s

    end_if_over-else : (s : State) (r : Ident) → case_number r ≡ n → SameElsewhere n s (Exlets.end_if_over s r)
    end_if_over-else s r here = if-else _ s _ s (remove-else s r here) (unchanged s)

    pub take_primitive-else : (s : State) (r : Ident) (p : Primitive) → 2 ≤ length r → case_number r ≡ n → SameElsewhere n s (Exlets.take_primitive s r p)
    take_primitive-else s r p long here =
        step (step (change-else s r _ here) (primitive-else _ r (parent r) p here (case-parent r long ∙ here))) (end_if_over-else _ r here)

    pub end_compensation-else : (s : State) (r : Ident) → case_number r ≡ n → SameElsewhere n s (Exlets.end_compensation s r)
    end_compensation-else s r here = step (step (bare-else s r here) (change-else _ r _ here)) (end_if_over-else _ r here)

    -- ---- all events

    pub elsewhere : (s : State) (e : Event) (said : Said) → IsPlaced e → case_of e ≡ Some n → SameElsewhere n s (after s e said)
    unfolding after
    elsewhere s (events.Person name roles) said placed is = nowhere is
    elsewhere s (events.Load name text) said placed is = nowhere is
    elsewhere s (events.AddRule p at side when conclusion number) said placed is = nowhere is
    elsewhere s (events.Launch m name vals) said placed is = subst (λ a. SameElsewhere n s (After.launch s a name vals)) (sym (some_same m n is)) (launch-else s name vals)
    elsewhere s (events.Enter i t places first count) said placed is = where_some-else (task_at s i t) s _ (λ x. enter-else s i places first x (some_same _ _ is))
    elsewhere s (events.Start j who) said placed is = change-else s j _ (some_same _ _ is)
    elsewhere s (events.Complete j out) said placed is = where_some-else (item_at s j) s _ (λ x. complete-else s j out x (some_same _ _ is))
    elsewhere s (events.Exit i t places) said placed is = where_some-else (task_at s i t) s _ (λ x. exit-else s i places x (some_same _ _ is))
    elsewhere s (events.Add i t value m) said placed is = where_some-else (task_at s i t) s _ (λ x. add-else s i value m x (some_same _ _ is))
    elsewhere s (events.Finish m) said placed is = subst (λ a. SameElsewhere n s (After.end_case s a Finished)) (sym (some_same m n is)) (end_case-else s Finished)
    elsewhere s (events.Cancel m) said placed is = subst (λ a. SameElsewhere n s (After.end_case s a Cancelled)) (sym (some_same m n is)) (end_case-else s Cancelled)
    elsewhere s (events.StartSub j) said placed is = where_some-else (item_at s j) s _ (λ x. start_sub-else s j x (some_same _ _ is))
    elsewhere s (events.CompleteSub j) said placed is = where_some-else (item_at s j) s _ (λ x. end_net-else s j made_by_child x (some_same _ _ is))
    elsewhere s (events.CompleteEmpty j) said placed is = change-else s j _ (some_same _ _ is)
    elsewhere s (events.Pass j check) said placed is = change-else s j _ (some_same _ _ is)
    elsewhere s (events.Except j check node m) said placed is = step (change-else s j _ (some_same _ _ is)) (begin_run-else (After.pass s j check) j check node m (some_same _ _ is))
    elsewhere s (events.Substitute j name) said placed is = where_some-else (item_at s j) s _ (λ x. substitute-else s j name x (some_same _ _ is))
    elsewhere s (events.CompleteWorklet j) said placed is = where_some-else (item_at s j) s _ (λ x. end_net-else s j made_by_worklet x (some_same _ _ is))
    elsewhere s (events.Raise j kind node m) said placed is = begin_run-else s j kind node m (some_same _ _ is)
    elsewhere s (events.Prim r p) said placed is = take_primitive-else s r p placed (some_same _ _ is)
    elsewhere s (events.Compensated r) said placed is = end_compensation-else s r (some_same _ _ is)
    elsewhere s (events.Suspend j) said placed is = change-else s j _ (some_same _ _ is)
    elsewhere s (events.Continue j) said placed is = change-else s j _ (some_same _ _ is)
    elsewhere s (events.Advance m) said placed is = unchanged s
