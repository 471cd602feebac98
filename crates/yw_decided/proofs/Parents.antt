-- What things stand at, at each of them.
use Rattle.std.proofs.Common.{◌≡◌, ◌&&◌, ◌||◌, Bool, true, Some, None, Option, IsNone, refl, sym, ap, ◌∙◌, length}
use Rattle.std.proofs.lemmas.Bool.{leb-true, le-leb}
use Rattle.std.proofs.lemmas.Slice.Eq.{bytes_eq-Decides}
use Rattle.std.specs.Prelude.{option_and_then, is_some, is_none, nat_le}
use Rattle.yw_state.proofs.Tests.{never}
use Rattle.yw_base.specs.Identity.{parent}
use Rattle.yw_state.specs.Identity.{Ident, same}
use Rattle.yw_state.specs.Map.{get}
use Rattle.yw_state.specs.Options.{is_some_and}
use Rattle.yw_state.specs.State.{RunPart, Site, State, is_target, item_at, item_part, run_part}
use Rattle.yw_state.specs.Well.{ParentsStand, Stands, has_work}
use Rattle.yw_decided.specs.Decided.{each_site, implies, is_only_run, parents_stand}
use Rattle.yw_decided.proofs.Each.{and_left, and_right, at_each, both, from_each, from_implies, to_implies}

none_some : {X : Type 0} (x : X) → None ≡ Some x → ⊥
none_some x e = cc

some_is : {X : Type 0} (o : Option X) (x : X) → o ≡ Some x → is_some o ≡ true
some_is o x e = ap is_some e

some_x : {X : Type 0} (o : Option X) → is_some o ≡ true → (x : X) × (o ≡ Some x)
some_x None e = absurd (never e)
some_x (Some x) e = (x, refl)

is_none_is : {X : Type 0} (o : Option X) → is_none o ≡ true → IsNone o
is_none_is None e = refl
is_none_is (Some x) e = absurd (never e)

to_is_none : {X : Type 0} (o : Option X) → IsNone o → is_none o ≡ true
to_is_none None e = refl
to_is_none (Some x) e = absurd (never (sym e))

module _ (s : State) where
  item_is : (j : Ident) (x : Site) → Stands s j x → item_part s j ≡ x.item
  item_is j x e = ap (λ (o : Option Site). option_and_then (λ (y : Site). y.item) o) e

  run_is : (j : Ident) (x : Site) → Stands s j x → run_part s j ≡ x.run
  run_is j x e = ap (λ (o : Option Site). option_and_then (λ (y : Site). y.run) o) e

  -- what has an item or a run stands
  item_stands : (j : Ident) → is_some (item_part s j) ≡ true → (x : Site) × Stands s j x
  item_stands j e = by (get s.sites j) refl
    where
      by : (o : Option Site) → get s.sites j ≡ o → (x : Site) × Stands s j x
      by None none = absurd (never (sym (ap (λ (o : Option Site). is_some (option_and_then (λ (y : Site). y.item) o)) none) ∙ e))
      by (Some x) there = (x, there)

  run_stands : (j : Ident) → is_some (run_part s j) ≡ true → (x : Site) × Stands s j x
  run_stands j e = by (get s.sites j) refl
    where
      by : (o : Option Site) → get s.sites j ≡ o → (x : Site) × Stands s j x
      by None none = absurd (never (sym (ap (λ (o : Option Site). is_some (option_and_then (λ (y : Site). y.run) o)) none) ∙ e))
      by (Some x) there = (x, there)

  abbrev of_item : Ident → Site → Bool
  of_item j x = nat_le 2 (length j) && (is_some (item_at s j) && is_none x.run)

  abbrev of_run : Ident → Site → Bool
  of_run j x = nat_le 2 (length j) && (is_target s (parent j) && (is_some_and x.run has_work && is_only_run s j))

  abbrev of_any : Site → Bool
  of_any x = is_some x.net || is_some x.item || is_some x.run

  module _ (all : each_site s (parents_stand s) ≡ true) where
    here : (j : Ident) (x : Site) → Stands s j x → parents_stand s j x ≡ true
    here j x e = at_each s (parents_stand s) all j x e

    item_here : (j : Ident) (x : Site) → Stands s j x → is_some (item_part s j) ≡ true → of_item j x ≡ true
    item_here j x e some =
        from_implies (is_some x.item) (of_item j x) (and_left (implies (is_some x.item) (of_item j x)) _ (here j x e)) (ap is_some (sym (item_is j x e)) ∙ some)

    run_here : (j : Ident) (x : Site) → Stands s j x → is_some (run_part s j) ≡ true → of_run j x ≡ true
    run_here j x e some =
        from_implies (is_some x.run) (of_run j x)
        (and_left (implies (is_some x.run) (of_run j x)) (of_any x) (and_right (implies (is_some x.item) (of_item j x)) _ (here j x e)))
        (ap is_some (sym (run_is j x e)) ∙ some)

    pub parents_from : ParentsStand s
    parents_from = record {
      item_depth =
          λ j x e. let t = item_stands j (some_is (item_part s j) x e) in leb-true 2 (length j)
          (and_left (nat_le 2 (length j)) _ (item_here j t.0 t.1 (some_is (item_part s j) x e)));
      item_of_net = λ j x e.
          let t = item_stands j (some_is (item_part s j) x e) in
          and_left (is_some (item_at s j)) _ (and_right (nat_le 2 (length j)) _ (item_here j t.0 t.1 (some_is (item_part s j) x e)));
      run_depth =
          λ j r e. let t = run_stands j (some_is (run_part s j) r e) in leb-true 2 (length j)
          (and_left (nat_le 2 (length j)) _ (run_here j t.0 t.1 (some_is (run_part s j) r e)));
      run_of_target = λ j r e.
          let t = run_stands j (some_is (run_part s j) r e) in
          and_left (is_target s (parent j)) _ (and_right (nat_le 2 (length j)) _ (run_here j t.0 t.1 (some_is (run_part s j) r e)));
      run_works = λ j r e.
          let t = run_stands j (some_is (run_part s j) r e) in
          let works = and_left (is_some_and t.0.run has_work) _
          (and_right (is_target s (parent j)) _ (and_right (nat_le 2 (length j)) _ (run_here j t.0 t.1 (some_is (run_part s j) r e)))) in
          ap (λ (o : Option RunPart). is_some_and o has_work) (sym (sym (run_is j t.0 t.1) ∙ e)) ∙ works;
      one_run = λ j k a b up.
          let t = run_stands j a in
          let u = run_stands k b in
          let only = and_right (is_some_and t.0.run has_work) _
          (and_right (is_target s (parent j)) _ (and_right (nat_le 2 (length j)) _ (run_here j t.0 t.1 a))) in
          let at_k = at_each s (λ k y. implies (is_some y.run) (implies (same (parent j) (parent k)) (same j k))) only k u.0 u.1 in
          let some_k = from_implies (is_some u.0.run) _ at_k (ap is_some (sym (run_is k u.0 u.1)) ∙ b) in
          (bytes_eq-Decides j k).0 (from_implies (same (parent j) (parent k)) (same j k) some_k ((bytes_eq-Decides (parent j) (parent k)).1 up));
      not_both = λ j some.
          let t = item_stands j some in
          ap is_some (run_is j t.0 t.1)
          ∙ is_none_is t.0.run (and_right (is_some (item_at s j)) _ (and_right (nat_le 2 (length j)) _ (item_here j t.0 t.1 some)));
      something = λ j x e. and_right (implies (is_some x.run) (of_run j x)) (of_any x) (and_right (implies (is_some x.item) (of_item j x)) _ (here j x e));
    }

  module _ (well : ParentsStand s) where
    item_to : (j : Ident) (x : Site) → Stands s j x → is_some x.item ≡ true → of_item j x ≡ true
    item_to j x e some =
        let p = some_x x.item some in
        let at : item_part s j ≡ Some p.0 = item_is j x e ∙ p.1 in
        both _ _ (le-leb 2 (length j) (well.item_depth j p.0 at))
        (both _ _ (well.item_of_net j p.0 at) (to_is_none x.run (ap is_some (sym (run_is j x e)) ∙ well.not_both j (some_is (item_part s j) p.0 at))))

    run_to : (j : Ident) (x : Site) → Stands s j x → is_some x.run ≡ true → of_run j x ≡ true
    run_to j x e some =
        let p = some_x x.run some in
        let at : run_part s j ≡ Some p.0 = run_is j x e ∙ p.1 in
        both _ _ (le-leb 2 (length j) (well.run_depth j p.0 at))
        (both _ _ (well.run_of_target j p.0 at)
        (both _ _ (ap (λ (o : Option RunPart). is_some_and o has_work) p.1 ∙ well.run_works j p.0 at)
        (from_each s (λ k y. implies (is_some y.run) (implies (same (parent j) (parent k)) (same j k))) (λ k y there.
        to_implies (is_some y.run) _ (λ some_k. to_implies (same (parent j) (parent k)) (same j k) (λ up.
        (bytes_eq-Decides j k).1 (well.one_run j k (some_is (run_part s j) p.0 at) (ap is_some (run_is k y there)
        ∙ some_k) ((bytes_eq-Decides (parent j) (parent k)).0 up))))))))

    pub parents_to : each_site s (parents_stand s) ≡ true
    parents_to = from_each s (parents_stand s) (λ j x e.
        both _ _ (to_implies (is_some x.item) (of_item j x) (item_to j x e))
        (both _ _ (to_implies (is_some x.run) (of_run j x) (run_to j x e)) (well.something j x e)))
