-- The events by which a net begins: a case, a child net, a worklet and a compensation.
use Rattle.std.specs.Prelude.{◌≡◌, ◌+◌, ◌&&◌, ℕ, Bool, true, false, not, List, length, Option, Some, None, is_some, nat_lt, option_and_then, option_map, slice_get, refl, if◌then◌else◌}
use Rattle.std.proofs.Common.{sym, ◌∙◌, ap, subst, arith}
use Rattle.std.proofs.lemmas.Bool.{and_parts, ltb-true, not-true}
use Rattle.yw_invariant.proofs.Ancestors as ancestors
use Rattle.yw_invariant.proofs.Children.{draws_next}
use Rattle.yw_invariant.proofs.ReadyItems as items
use Rattle.yw_invariant.proofs.RunsGoOn as runs
use Rattle.yw_invariant.proofs.Tasks.{part_of_item}
use Rattle.yw_proper.proofs.Beginning.{IsIdle, IsNew, change_begins, put_begins}
use Rattle.yw_proper.proofs.Calm.{over-leaves, pass-leaves, primitive-leaves, run-leaves}
use Rattle.yw_proper.proofs.Lighter.{Holds, Leaves, item_itself, item_mapped, leaves_hold}
use Rattle.yw_spec.specs.declared.spec.Net.{Net}
use Rattle.yw_spec.specs.declared.spec.Spec.{Spec}
use Rattle.yw_state.proofs.Gone.{taken}
use Rattle.yw_state.proofs.Tests.{by_option, map_some, never, then_some, there_and}
use Rattle.yw_state.specs.After.{begin_at, begin_case, begun, launch, net_numbered, new_net, pass, start_sub, substitute, where_some, where_spec, with_item, with_run}
use Rattle.yw_state.specs.Allowed.{Allowed, allows, comes_next, is_first, launch_fits}
use Rattle.yw_state.specs.ByName.{first_values, given_named, source_at}
use Rattle.yw_state.specs.Exlets.{begin_compensation, compensate, primitive, take_primitive, taken_first, waiting}
use Rattle.yw_state.specs.Identity.{Ident, case_ident}
use Rattle.yw_base.specs.Identity.{parent}
use Rattle.yw_state.specs.Map.{get}
use Rattle.yw_state.specs.Nets.{child_net, top_net}
use Rattle.yw_state.specs.Options.{is_some_and}
use Rattle.yw_state.specs.State.{State, Site, ItemPart, ItemAt, RunPart, due_at, item_at, item_part, run_part, spec_called, top_called}
use Rattle.yw_state.specs.Texts.{Reader, Said}
use Rattle.yw_state.specs.Values.{Row}
use Rattle.yw_state.specs.Well.{IsWell}
use Rattle.yw_state.specs.Words.{busy, clear, has_check, is_first_due, is_ready}
use Rattle.yw_state.specs.declared.event.Event.TheVariants as events
use Rattle.yw_state.specs.declared.part.Checks.{Checks}
use Rattle.yw_state.specs.declared.tree.Primitive.{Primitive}
use Rattle.yw_state.specs.declared.tree.Primitive.TheVariants.{Compensate}
use Rattle.yw_state.specs.declared.tree.TreeKind.TheVariants.{Select}

module _ (spec : Spec) (k : ℕ) (net : Net) (w : List ℕ) where
  pub some_holds : {A : Type 0} (o : Option A) (s : State) (f : A → State) → Holds spec k net w s → ((x : A) → o ≡ Some x → Holds spec k net w (f x)) → Holds spec k net w (where_some o s f)
  some_holds None s f holds each = holds
  some_holds (Some x) s f holds each = each x refl

  -- the top net of a specification
  spec_holds : (s r : State) (name : List ℕ) (f : Spec → Net → State) → Holds spec k net w r
      → ((other : Spec) (top : Net) → spec_called s name ≡ Some other → slice_get other.nets other.top ≡ Some top → Holds spec k net w (f other top))
      → Holds spec k net w (where_some (spec_called s name) r (λ other. where_some (top_called s name) r (f other)))
  spec_holds s r name f holds each =
      some_holds (spec_called s name) r (λ other. where_some (top_called s name) r (f other)) holds (λ other called.
      some_holds (top_called s name) r (f other) holds (λ top is. each other top called (ap (option_and_then top_net) (sym called) ∙ is)))

  module _ (at : slice_get spec.nets k ≡ Some net) (reader : Reader) (s : State) (well : IsWell reader s) (holds : Holds spec k net w s) where
    -- ---- a case

    undrawn : (n : ℕ) → n ≡ s.next → IsIdle s (case_ident n)
    undrawn n is q x stands above =
        by_option (get s.sites (case_ident n))
        (λ none. never (ap (λ (o : Option Site). is_some (option_and_then (λ (y : Site). y.net) o)) (sym (ap (get s.sites) above ∙ none)) ∙ ancestors.net_of_item reader s well q x stands))
        (λ y some.
        let drawn = ltb-true n s.next (and_parts (nat_lt n s.next) true (well.numbers.drawn (case_ident n) y some)).0 in
        absurd (omega (arith, drawn, is)))

    pub launch_holds : (n : ℕ) (name : List ℕ) (vals : Row) (said : Said) → Allowed s (events.Launch n name vals) said → Holds spec k net w (launch s n name vals)
    unfolding allows
    launch_holds n name vals said allowed =
        let next = (draws_next s n 1 (and_parts _ (is_some_and (top_called s name) (λ (top : Net). launch_fits top.vars vals)) allowed.0).0).0 in
        spec_holds s s name (begin_case s n name vals) holds (λ other top called is.
        put_begins spec k net at w s (case_ident n) (new_net name other.top top vals) (record { spec = other; called = called; net = top; at = is; tokens = refl }) (undrawn n next) holds
        _ refl refl (n + 1))

    -- ---- a child net

    abbrev may_begin : ItemAt → Bool
    may_begin x = is_ready x.part.stage && is_some (child_net x.of_task.task)

    pub start_sub_holds : (j : Ident) (said : Said) → Allowed s (events.StartSub j) said → Holds spec k net w (where_some (item_at s j) s (start_sub s j))
    unfolding allows
    start_sub_holds j said allowed =
        let composite = (and_parts (clear s j && not (busy s j)) (is_some_and (item_at s j) may_begin) allowed.0).1 in
        some_holds (item_at s j) s (start_sub s j) holds (λ x is.
        let ready = (and_parts (is_ready x.part.stage) (is_some (child_net x.of_task.task)) (ap (λ o. is_some_and o may_begin) (sym is) ∙ composite)).0 in
        let name : List ℕ = x.of_task.within.part.spec in
        some_holds (option_and_then (λ other. net_numbered other x.of_task.task) (spec_called s name)) s _ holds (λ e found.
        let (other, called, numbered) = then_some (λ (y : Spec). net_numbered y x.of_task.task) (spec_called s name) e found in
        change_begins spec k net at w s j (new_net name e.0 e.1 (first_values (given_named x) e.1)) (new other name e called (of_number other x e numbered) _)
        (items.apart reader s well j x is ready) holds (with_item (begun x.part.who)) (λ y. item_mapped (begun x.part.who) (λ z. refl) y.item)))
      where
        of_number : (other : Spec) (x : ItemAt) (e : ℕ × Net) → net_numbered other x.of_task.task ≡ Some e → slice_get other.nets e.0 ≡ Some e.1
        of_number other x e numbered =
            let (c, child, made) = then_some (λ c. option_map (λ (y : Net). (c, y)) (slice_get other.nets c)) _ e numbered in
            let (y, there, is) = map_some (λ (y : Net). (c, y)) (slice_get other.nets c) e made in
            subst (λ (d : ℕ × Net). slice_get other.nets d.0 ≡ Some d.1) is there

        new : (other : Spec) (name : List ℕ) (e : ℕ × Net) → spec_called s name ≡ Some other → slice_get other.nets e.0 ≡ Some e.1 → (vals : Row) → IsNew s (new_net name e.0 e.1 vals)
        new other name e called there vals = record { spec = other; called = called; net = e.1; at = there; tokens = refl }

    -- ---- a worklet

    select_due : (c : Checks) → is_first_due c Select ≡ true → has_check c Select ≡ true
    select_due c e = (and_parts c.select (not c.pre) e).0

    pub substitute_holds : (j : Ident) (worklet : List ℕ) (said : Said) → Allowed s (events.Substitute j worklet) said → Holds spec k net w (where_some (item_at s j) s (substitute s j worklet))
    unfolding allows
    substitute_holds j worklet said allowed =
        let comes = (and_parts (comes_next s j Select) _ (and_parts (comes_next s j Select && nat_lt (length j) _) _ allowed.0).0).0 in
        let due = select_due (due_at s j) (and_parts (is_first_due (due_at s j) Select) (not (busy s j)) comes).0 in
        let (y, part, ready) = there_and (item_part s j) (λ (z : ItemPart). is_ready z.stage) (well.marks.select j due) in
        let passed = pass-leaves s j Select in
        some_holds (item_at s j) s (substitute s j worklet) holds (λ x is.
        let stage = ap (λ (z : ItemPart). is_ready z.stage) (part_of_item s j x y is part) ∙ ready in
        spec_holds s s worklet (λ other top. begin_at (pass s j Select) j worklet other.top (given_named x) None top) holds (λ other top called top_is.
        change_begins spec k net at w (pass s j Select) j (new_net worklet other.top top (first_values (given_named x) top)) (record { spec = other; called = called; net = top; at = top_is; tokens = refl })
        (λ q z stands. let (before, stood, task) = passed.items q z stands in items.apart reader s well j x is stage q before stood)
        (leaves_hold spec k net w s (pass s j Select) passed holds) (with_item (begun None)) (λ z. item_mapped (begun None) (λ v. refl) z.item)))

    -- ---- a run takes a primitive, by which a compensation may begin

    module _ (r : Ident) (y : RunPart) (run : run_part s r ≡ Some y) (idle : y.waiting ≡ false) where
      taken-leaves : Leaves s (taken s r)
      taken-leaves = run-leaves s r taken_first

      taken_holds : Holds spec k net w (taken s r)
      taken_holds = leaves_hold spec k net w s (taken s r) taken-leaves holds

      compensate_holds : (name : List ℕ) → Holds spec k net w (compensate (taken s r) r (parent r) name)
      compensate_holds name = by_depth (nat_lt (length r) _)
        where
          begins : (other : Spec) (top : Net) → spec_called (taken s r) name ≡ Some other → slice_get other.nets other.top ≡ Some top → Holds spec k net w (begin_compensation (taken s r) r (parent r) name other top)
          begins other top called is =
              change_begins spec k net at w (taken s r) r (new_net name other.top top (first_values (source_at (taken s r) (parent r)) top)) (record { spec = other; called = called; net = top; at = is; tokens = refl })
              (λ q z stands. let (before, stood, task) = taken-leaves.items q z stands in runs.apart reader s well r y run idle q before stood)
              taken_holds (with_run waiting) (λ z. item_itself z.item)

          by_depth : (b : Bool) → Holds spec k net w (if b then where_spec (taken s r) name (begin_compensation (taken s r) r (parent r) name) else taken s r)
          by_depth true = spec_holds (taken s r) (taken s r) name (begin_compensation (taken s r) r (parent r) name) taken_holds begins
          by_depth false = taken_holds

      primitive_holds : (p : Primitive) → Holds spec k net w (primitive (taken s r) r (parent r) p)
      primitive_holds (Compensate name) = compensate_holds name
      primitive_holds p = leaves_hold spec k net w (taken s r) (primitive (taken s r) r (parent r) p) (primitive-leaves (taken s r) r (parent r) p refl) taken_holds

      taken_primitive_holds : (p : Primitive) → Holds spec k net w (take_primitive s r p)
      taken_primitive_holds p =
          leaves_hold spec k net w (primitive (taken s r) r (parent r) p) (take_primitive s r p) (over-leaves (primitive (taken s r) r (parent r) p) r) (primitive_holds p)

    pub prim_holds : (r : Ident) (p : Primitive) (said : Said) → Allowed s (events.Prim r p) said → Holds spec k net w (take_primitive s r p)
    unfolding allows
    prim_holds r p said allowed =
        let (y, run, first) = there_and (run_part s r) (λ (x : RunPart). not x.waiting && is_first p x.rest) allowed.0 in
        taken_primitive_holds r y run (not-true y.waiting (and_parts (not y.waiting) (is_first p y.rest) first).0) p
