-- Nets and depth, at each thing that stands.
use Rattle.std.proofs.Common.{◌≡◌, ◌&&◌, ◌||◌, ◌+◌, Bool, true, Some, None, Option, refl, sym, ap, ◌∙◌, length}
use Rattle.std.proofs.lemmas.Bool.{leb-true, le-leb}
use Rattle.std.specs.Prelude.{option_and_then, is_some, nat_le}
use Rattle.yw_state.specs.Identity.{Ident, is_case_ident}
use Rattle.yw_state.specs.Map.{get}
use Rattle.yw_state.specs.State.{ItemAt, ItemPart, NetPart, RunPart, Site, State, item_at, item_part, net_part, run_part}
use Rattle.yw_state.specs.Well.{DepthFits, NetsStand, Stands, is_top, net_level, wants_net}
use Rattle.yw_decided.specs.Decided.{all_in, each_site, implies, is_shallow, net_stands, nets_stand, suits_item, suits_run}
use Rattle.yw_decided.proofs.Each.{and_left, and_right, at_each, both, from_each, from_implies, to_implies}

pub of_all : {A : Type 0} (o : Option A) (p : A → Bool) (a : A) → all_in o p ≡ true → o ≡ Some a → p a ≡ true
of_all o p a all e = ap (λ z. all_in z p) (sym e) ∙ all

pub to_all : {A : Type 0} (o : Option A) (p : A → Bool) → ((a : A) → o ≡ Some a → p a ≡ true) → all_in o p ≡ true
to_all None p each = refl
to_all (Some a) p each = each a refl

first_some : {A B : Type 0} (f : A → Option B) (o : Option A) (b : B) → option_and_then f o ≡ Some b → (a : A) × (o ≡ Some a)
first_some {A} {B} f None b e = absurd (none e)
  where
    none : None ≡ Some b → ⊥
    none e = cc
first_some f (Some a) b e = (a, refl)

module _ (s : State) where
  part_of : {Y : Type 0} → (Site → Option Y) → Ident → Option Y
  part_of h j = option_and_then h (get s.sites j)

  -- what has a part stands
  pub stands_by : {Y : Type 0} (h : Site → Option Y) (j : Ident) (y : Y) → option_and_then h (get s.sites j) ≡ Some y → (x : Site) × Stands s j x
  stands_by h j y e = by (get s.sites j) refl
    where
      none : None ≡ Some y → ⊥
      none e = cc

      by : (o : Option Site) → get s.sites j ≡ o → (x : Site) × Stands s j x
      by None n = absurd (none (sym (ap (option_and_then h) n) ∙ e))
      by (Some x) there = (x, there)

  pub net_is : (j : Ident) (x : Site) → Stands s j x → net_part s j ≡ x.net
  net_is j x e = ap (λ (o : Option Site). option_and_then (λ (y : Site). y.net) o) e

  pub item_is : (j : Ident) (x : Site) → Stands s j x → item_part s j ≡ x.item
  item_is j x e = ap (λ (o : Option Site). option_and_then (λ (y : Site). y.item) o) e

  pub run_is : (j : Ident) (x : Site) → Stands s j x → run_part s j ≡ x.run
  run_is j x e = ap (λ (o : Option Site). option_and_then (λ (y : Site). y.run) o) e

  -- an item that is found stands
  pub item_there : (j : Ident) (i : ItemAt) → item_at s j ≡ Some i → (y : ItemPart) × (item_part s j ≡ Some y)
  item_there j i e = first_some _ (item_part s j) i e

  module _ (all : each_site s (nets_stand s) ≡ true) where
    here : (j : Ident) (x : Site) → Stands s j x → nets_stand s j x ≡ true
    here j x e = at_each s (nets_stand s) all j x e

    net_here : (j : Ident) (n : NetPart) → net_part s j ≡ Some n → (x : Site) × Stands s j x × (net_stands s j x n ≡ true)
    net_here j n e =
        let t = stands_by (λ (y : Site). y.net) j n e in
        (t.0, t.1, of_all t.0.net (net_stands s j t.0) n (and_left (all_in t.0.net (net_stands s j t.0)) _ (here j t.0 t.1)) (sym (net_is j t.0 t.1) ∙ e))

    others : (j : Ident) (n : NetPart) (e : net_part s j ≡ Some n)
        → (all_in (item_at s j) (suits_item s n) && (all_in (net_here j n e).0.run (suits_run s n) && (is_case_ident j || is_some (net_here j n e).0.item || is_some (net_here j n e).0.run))) ≡ true
    others j n e = and_right (implies (is_case_ident j) (is_top s n)) _ (net_here j n e).2

    pub nets_from : NetsStand s
    nets_from = record {
      of_case = λ j n e case. from_implies (is_case_ident j) (is_top s n) (and_left (implies (is_case_ident j) (is_top s n)) _ (net_here j n e).2) case;
      of_item = λ j n i e f. of_all (item_at s j) (suits_item s n) i (and_left (all_in (item_at s j) (suits_item s n)) _ (others j n e)) f;
      of_run = λ j n r e f.
          let t = net_here j n e in
          of_all t.0.run (suits_run s n) r
          (and_left (all_in t.0.run (suits_run s n)) _ (and_right (all_in (item_at s j) (suits_item s n)) _ (others j n e))) (sym (run_is j t.0 t.1) ∙ f);
      at_something = λ j n e.
          let t = net_here j n e in
          ap (λ (o : Option ItemPart). is_case_ident j || is_some o || is_some (run_part s j)) (item_is j t.0 t.1)
          ∙ ap (λ (o : Option RunPart). is_case_ident j || is_some t.0.item || is_some o) (run_is j t.0 t.1)
          ∙ and_right (all_in t.0.run (suits_run s n)) _ (and_right (all_in (item_at s j) (suits_item s n)) _ (others j n e));
      item_has = λ j i e wants.
          let y = item_there j i e in
          let t = stands_by (λ (z : Site). z.item) j y.0 y.1 in
          ap is_some (net_is j t.0 t.1)
          ∙ from_implies (wants_net i) (is_some t.0.net)
          (of_all (item_at s j) (λ i. implies (wants_net i) (is_some t.0.net)) i
          (and_left (all_in (item_at s j) (λ i. implies (wants_net i) (is_some t.0.net))) _
          (and_right (all_in t.0.net (net_stands s j t.0)) _ (here j t.0 t.1))) e) wants;
      run_has = λ j r e waits.
          let t = stands_by (λ (z : Site). z.run) j r e in
          ap is_some (net_is j t.0 t.1)
          ∙ from_implies r.waiting (is_some t.0.net)
          (of_all t.0.run (λ (r : RunPart). implies r.waiting (is_some t.0.net)) r
          (and_right (all_in (item_at s j) (λ i. implies (wants_net i) (is_some t.0.net))) _
          (and_right (all_in t.0.net (net_stands s j t.0)) _ (here j t.0 t.1))) (sym (run_is j t.0 t.1) ∙ e)) waits;
    }

  module _ (well : NetsStand s) where
    pub nets_to : each_site s (nets_stand s) ≡ true
    nets_to = from_each s (nets_stand s) (λ j x e.
        both _ _
        (to_all x.net (net_stands s j x) (λ n is.
        let at : net_part s j ≡ Some n = net_is j x e ∙ is in
        both _ _ (to_implies (is_case_ident j) (is_top s n) (well.of_case j n at))
        (both _ _ (to_all (item_at s j) (suits_item s n) (λ i f. well.of_item j n i at f))
        (both _ _ (to_all x.run (suits_run s n) (λ r f. well.of_run j n r at (run_is j x e ∙ f)))
        (sym (ap (λ (o : Option ItemPart). is_case_ident j || is_some o || is_some (run_part s j)) (item_is j x e)
        ∙ ap (λ (o : Option RunPart). is_case_ident j || is_some x.item || is_some o) (run_is j x e)) ∙ well.at_something j n at)))))
        (both _ _ (to_all (item_at s j) _ (λ i f. to_implies (wants_net i) (is_some x.net) (λ wants. ap is_some (sym (net_is j x e))
        ∙ well.item_has j i f wants)))
        (to_all x.run _ (λ r f. to_implies r.waiting (is_some x.net) (λ waits. ap is_some (sym (net_is j x e)) ∙ well.run_has j r (run_is j x e ∙ f) waits)))))

  pub depth_from : each_site s (is_shallow s) ≡ true → DepthFits s
  depth_from all j n e =
      let t = stands_by (λ (y : Site). y.net) j n e in
      leb-true (length j) (30 + net_level s j)
      (of_all t.0.net (λ n. nat_le (length j) (30 + net_level s j)) n (at_each s (is_shallow s) all j t.0 t.1) (sym (net_is j t.0 t.1) ∙ e))

  pub depth_to : DepthFits s → each_site s (is_shallow s) ≡ true
  depth_to fits = from_each s (is_shallow s) (λ j x e. to_all x.net _ (λ n is. le-leb (length j) (30 + net_level s j) (fits j n (net_is j x e ∙ is))))
