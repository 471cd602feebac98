-- How far down from its case, its worklet or its compensation a net stands, and so how long its identity is at most.
use Rattle.std.specs.Prelude.{◌≡◌, ◌≤◌, ◌+◌, ◌==◌, ◌||◌, ℕ, zero, suc, true, false, length, Some, is_some, if◌then◌else◌}
use Rattle.std.specs.Str.{bytes_eq}
use Rattle.std.proofs.Common.{sym, ◌∙◌, ap, subst, arith}
use Rattle.std.proofs.lemmas.Bool.{and_parts, eqb-true}
use Rattle.std.proofs.lemmas.Slice.Eq.{bytes_eq-Decides}
use Rattle.yw_reach.specs.Walks.{WalkAlong}
use Rattle.yw_spec.specs.declared.spec.Spec.{Spec}
use Rattle.yw_invariant.proofs.Places.{shorter}
use Rattle.yw_invariant.proofs.ReadyItems as items
use Rattle.yw_invariant.proofs.Tasks as tasks
use Rattle.yw_sound.specs.Sound.{HasChild, ReadsSound}
use Rattle.yw_state.proofs.MapLemmas.{by_option, by_test, never, some_same}
use Rattle.yw_state.proofs.NetLevels.{level_nested, level_outer}
use Rattle.yw_state.proofs.Tests.{there_and, then_some}
use Rattle.yw_state.specs.Identity.{Ident, is_case_ident}
use Rattle.yw_base.specs.Identity.{parent}
use Rattle.yw_state.specs.Nets.{child_net}
use Rattle.yw_state.specs.Options.{is_some_and}
use Rattle.yw_state.specs.State.{State, ItemAt, NetAt, NetPart, item_at, item_part, net_at, net_part, run_part, spec_called}
use Rattle.yw_state.specs.Texts.{Reader}
use Rattle.yw_state.specs.Well.{IsWell, is_child_of, is_composite, is_top, net_level, wants_net}

-- the net at i stands one level further down than so many steps lead from the top
pub record Level (s : State) (i : Ident) (w : NetAt) : Type 0 where
  pub steps : ℕ
  pub spec : Spec
  pub called : spec_called s w.part.spec ≡ Some spec
  pub walk : WalkAlong (HasChild spec) spec.top w.part.net steps
  pub level : net_level s i ≡ steps + 1

module _ (reader : Reader) (s : State) (well : IsWell reader s) where
  -- no composite task's item is where the net stands: it is a top net
  is_top_there : (i : Ident) (n : NetPart) → net_part s i ≡ Some n → is_some_and (item_at s i) is_composite ≡ false → is_top s n ≡ true
  is_top_there i n net outer =
      by_test (is_case_ident i)
      (λ case. well.nets.of_case i n net case)
      (λ no_case.
      by_option (run_part s i)
      (λ no_run.
      by_option (item_at s i)
      (λ no_item.
      by_option (item_part s i)
      (λ no_part.
      never
      (sym
      (ap (λ b. b || is_some (item_part s i) || is_some (run_part s i)) no_case
      ∙ ap (λ o. is_some o || is_some (run_part s i)) no_part
      ∙ ap is_some no_run)
      ∙ well.nets.at_something i n net))
      (λ part some. never (ap is_some (sym no_item) ∙ well.parents.item_of_net i part some)))
      (λ x item.
      let single : is_composite x ≡ false = ap (λ o. is_some_and o is_composite) (sym item) ∙ outer in
      ap (λ b. if b then is_child_of x n else is_top s n) (sym single)
      ∙ (and_parts (wants_net x) (if is_composite x then is_child_of x n else is_top s n) (well.nets.of_item i n x net item)).1))
      (λ r run. (and_parts r.waiting (is_top s n) (well.nets.of_run i n r net run)).1))

  at_top : (i : Ident) (w : NetAt) (net : net_at s i ≡ Some w) → is_some_and (item_at s i) is_composite ≡ false → Level s i w
  at_top i w net outer =
      let (part, part_is, found) = then_some (tasks.net_by_part s) (net_part s i) w net in
      let same_part : w.part ≡ part = tasks.part_of s part w found in
      let of = tasks.of_spec s i w net in
      let top = ap (λ (p : NetPart). is_top s p) same_part ∙ is_top_there i part part_is outer in
      let number = eqb-true w.part.net of.spec.top (ap (λ o. is_some_and o (λ (sp : Spec). w.part.net == sp.top)) (sym of.called) ∙ top) in
      record { steps = 0; spec = of.spec; called = of.called; walk = sym number; level = level_outer s i outer }

  one_down : (i : Ident) (w : NetAt) → net_at s i ≡ Some w → (x : ItemAt) → item_at s i ≡ Some x → is_composite x ≡ true → Level s (parent i) x.of_task.within → Level s i w
  one_down i w net x item composite up =
      let (part, part_is, found) = then_some (tasks.net_by_part s) (net_part s i) w net in
      let same_part : w.part ≡ part = tasks.part_of s part w found in
      let right = (and_parts (wants_net x) (if is_composite x then is_child_of x part else is_top s part) (well.nets.of_item i part x part_is item)).1 in
      let child = and_parts (is_some_and (child_net x.of_task.task) (λ k. part.net == k)) (bytes_eq part.spec x.of_task.within.part.spec) (ap (λ b. if b then is_child_of x part else is_top s part) (sym composite) ∙ right) in
      let (c, child_is, number) = there_and (child_net x.of_task.task) (λ k. part.net == k) child.0 in
      let of = tasks.of_net s i x item in
      let above = tasks.of_spec s (parent i) x.of_task.within of.within in
      let same_spec : above.spec ≡ up.spec = some_same above.spec up.spec (sym above.called ∙ up.called) in
      let net_is : w.part.net ≡ c = ap (λ (p : NetPart). p.net) same_part ∙ eqb-true part.net c number in
      let spec_is : w.part.spec ≡ x.of_task.within.part.spec = ap (λ (p : NetPart). p.spec) same_part ∙ (bytes_eq-Decides part.spec x.of_task.within.part.spec).0 child.1 in
      let at = ap (λ (sp : Spec). tasks.net_number sp x.of_task.within.part.net) (sym same_spec) ∙ above.at in
      let deep = items.deep reader s well i x item in
      let more : up.steps + 1 + 1 ≡ suc up.steps + 1 = omega arith in
      record {
        steps = suc up.steps;
        spec = up.spec;
        called = ap (spec_called s) spec_is ∙ up.called;
        walk = (x.of_task.within.part.net, up.walk, (x.of_task.within.net, at, x.of_task.number, x.of_task.task, of.at, child_is ∙ ap Some (sym net_is)));
        level = level_nested s i (omega (arith, deep)) (ap (λ o. is_some_and o is_composite) item ∙ composite) ∙ ap (λ l. l + 1) up.level ∙ more;
      }

  level_within : (m : ℕ) (i : Ident) (w : NetAt) → length i ≤ m → net_at s i ≡ Some w → Level s i w
  level_within zero i w short net =
      by_test (is_some_and (item_at s i) is_composite)
      (λ nested.
      let (x, item, composite) = there_and (item_at s i) is_composite nested in
      let deep = items.deep reader s well i x item in
      absurd (omega (arith, deep, short)))
      (λ outer. at_top i w net outer)
  level_within (suc m) i w short net =
      by_test (is_some_and (item_at s i) is_composite)
      (λ nested.
      let (x, item, composite) = there_and (item_at s i) is_composite nested in
      let deep = items.deep reader s well i x item in
      let longer = shorter i (omega (arith, deep)) in
      one_down i w net x item composite (level_within m (parent i) x.of_task.within (omega (arith, longer, short)) (tasks.of_net s i x item).within))
      (λ outer. at_top i w net outer)

  -- where specifications are sound, a number may come behind a net's identity, and one more behind that
  pub net_is_short : ReadsSound reader → (i : Ident) (w : NetAt) → net_at s i ≡ Some w → length i ≤ 38
  net_is_short sound i w net =
      let (part, part_is, found) = then_some (tasks.net_by_part s) (net_part s i) w net in
      let there = level_within (length i) i w (omega arith) net in
      let of = tasks.of_spec s i w net in
      let same : there.spec ≡ of.spec = some_same there.spec of.spec (sym there.called ∙ of.called) in
      let few = (tasks.net_sound reader sound s well i w net).level w.part.net there.steps of.at (subst (λ (sp : Spec). WalkAlong (HasChild sp) sp.top w.part.net there.steps) same there.walk) in
      let fits = subst (λ l. length i ≤ 30 + l) there.level (well.depth i part part_is) in
      omega (arith, few, fits)
