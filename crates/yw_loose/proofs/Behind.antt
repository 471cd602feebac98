-- Behind an event all else is idle that was, and held that was.
use Rattle.std.specs.List.{list_any}
use Rattle.std.specs.Prelude.{◌≡◌, ◌≤◌, ◌==◌, [], ◌∷◌, ℕ, List, false, length, true}
use Rattle.std.proofs.Common.{arith, inl, inr, refl, subst, sym, ◌∙◌}
use Rattle.std.proofs.lemmas.Bool.{and_parts, eq-eqb, eqb-true, false_from_ne_true, or_parts}
use Rattle.yw_base.specs.Identity.{is_identity, case_number, parent, under}
use Rattle.yw_idle.proofs.Held.{stays_held}
use Rattle.yw_idle.proofs.Staying.{stays_idle}
use Rattle.yw_idle.specs.Warms.{continues, is_rule, warms}
use Rattle.yw_library.specs.Held.{IsHeld}
use Rattle.yw_library.specs.Holdings.{Holdings}
use Rattle.yw_loose.proofs.Counting.{followed_right}
use Rattle.yw_loose.proofs.Following.{leaves_follows}
use Rattle.yw_loose.proofs.Moving.{unmoved}
use Rattle.yw_loose.specs.Counts.{AreRight, Follows}
use Rattle.yw_loose.specs.Loose.{IsRested, Loosens, is_loose}
use Rattle.yw_loose.specs.Moved.{is_moved, is_unsettled}
use Rattle.yw_loose.specs.declared.counts.Counts.{Counts}
use Rattle.yw_loose.specs.declared.loose.Loose.{Loose}
use Rattle.yw_state.proofs.Tests.{never, there_and}
use Rattle.yw_state.specs.Allowed.{Allowed, allows}
use Rattle.yw_state.specs.Events.{Leads, after}
use Rattle.yw_state.specs.Exlets.{case_above}
use Rattle.yw_state.specs.Identity.{Ident, same}
use Rattle.yw_state.specs.Map.{get}
use Rattle.yw_state.specs.State.{Site, State, run_part}
use Rattle.yw_state.specs.Texts.{Said}
use Rattle.yw_state.specs.Well.{IsWell, Stands}
use Rattle.yw_state.specs.declared.event.Event.{Event}
use Rattle.yw_state.specs.declared.event.Event.TheVariants as events
use Rattle.yw_state.specs.declared.tree.Primitive.TheVariants.{ContinueCase, ContinueItem}
use Rattle.yw_texts.specs.Texts.{reader}
use Rattle.yw_tree.specs.declared.Forest.{Forest}
use Rattle.yw_walk.specs.Finds.{Rests}

-- ---- what an event continues lies in its case

under_case : (j i : Ident) → is_identity i ≡ true → under j i ≡ true → case_number j ≡ case_number i
under_case j [] identity lies = never identity
under_case [] (n ∷ i) identity lies = never lies
under_case (m ∷ j) (n ∷ i) identity lies = sym (eqb-true n m (and_parts (n == m) (under j i) lies).0)

under_parent : (j r : Ident) → 2 ≤ length r → under j (parent r) ≡ true → case_number j ≡ case_number r
under_parent j [] long lies = absurd (omega (arith, long))
under_parent j (x ∷ []) long lies = absurd (omega (arith, long))
under_parent [] (x ∷ y ∷ r) long lies = never lies
under_parent (m ∷ j) (x ∷ y ∷ r) long lies = sym (eqb-true x m (and_parts (x == m) (under j (parent (y ∷ r))) lies).0)

under_top : (j r : Ident) → under j (case_above r) ≡ true → case_number j ≡ case_number r
under_top [] r lies = never lies
under_top (m ∷ j) r lies = sym (eqb-true (case_number r) m (and_parts (case_number r == m) (under j []) lies).0)

-- so elsewhere it continues nothing
not_continued : (s : State) (e : Event) (said : Said) (j : Ident) → IsWell reader s → Allowed s e said → is_unsettled e j ≡ false
    → continues e j ≡ false
unfolding allows
not_continued s (events.Continue i) said j well ok settled =
    let (x, at, on) = there_and (get s.sites i) (λ (x : Site). x.suspended) ok.0 in
    false_from_ne_true _
    (λ lies. never (sym settled ∙ eq-eqb (case_number j) (case_number i) (under_case j i (well.numbers.identities i x at) lies)))
not_continued s (events.Prim r ContinueItem) said j well ok settled =
    let (y, run, works) = there_and (run_part s r) _ ok.0 in
    false_from_ne_true _
    (λ lies. never (sym settled ∙ eq-eqb (case_number j) (case_number r) (under_parent j r (well.parents.run_depth r y run) lies)))
not_continued s (events.Prim r ContinueCase) said j well ok settled =
    false_from_ne_true _ (λ lies. never (sym settled ∙ eq-eqb (case_number j) (case_number r) (under_top j r lies)))
not_continued s e said j well ok settled = refl

-- ---- an event that adds no rule

module _ (s : State) (e : Event) (said : Said) (j : Ident) (x : Site) (well : IsWell reader s) (ok : Allowed s e said) (no_rule : is_rule e ≡ false)
    (stands : Stands (after s e said) j x) (still : is_moved e j ≡ false) where
  parts : (is_unsettled e j ≡ false) × (list_any (same j) (warms e) ≡ false)
  parts = or_parts (is_unsettled e j) (list_any (same j) (warms e)) still

  -- what rests where the event may set nothing moving, rests behind it
  stays_resting : (y : Site) × Stands s j y × (Rests s j → Rests (after s e said) j)
  stays_resting =
      let stays = stays_idle s e said j x well ok no_rule stands parts.1 in (
        stays.stood.0,
        stays.stood.1,
        λ rests. elim rests [
          | inl idle ↦ inl (stays.idle idle)
          | inr parked ↦ inr (record {
            held = stays_held s e said j stays.stood.0 x well ok stays.stood.1 stands (not_continued s e said j well ok parts.0) parked.held;
            compensation = stays.compensation ∙ parked.compensation;
          })
        ],
      )

-- the counts are right behind it
pub rested_after : (old new : Loose) (c : Counts) (s t : State) (e : Event) → IsWell reader s → IsWell reader t → is_rule e ≡ false → Leads reader s e t
    → AreRight t c → Loosens (record old { counts = c }) new (is_moved e) → IsRested s old → IsRested t new
rested_after old new c s t e well then_well no_rule leads right loosens rested =
    record {
      rests = λ j x stands known loose.
          let here : Stands (after s e leads.said) j x = subst (λ u. Stands u j x) leads.then stands in
          let unmoved_here : is_moved e j ≡ false =
          false_from_ne_true _ (λ b. never (sym loose ∙ loosens.passing j (then_well.numbers.identities j x stands) known b)) in
          let was : is_loose old j ≡ false = false_from_ne_true _ (λ b. never (sym loose ∙ loosens.was j known b)) in
          let (y, stood, stays) = stays_resting s e leads.said j x well leads.allowed no_rule here unmoved_here in
          subst (λ u. Rests u j) (sym leads.then) (stays (rested.rests j y stood (loosens.known (case_number j) known) was));
      counted = subst (AreRight t) (sym loosens.counts) right;
    }

-- a load sets nothing moving, and completes nothing
pub load_rested : (known : Holdings) (f : Forest) (s t : State) (name text : List ℕ) (l : Loose) → IsWell reader s → IsHeld known f t
    → Leads reader s (events.Load name text) t → IsRested s l → IsRested t l
load_rested known f s t name text l well held leads rested =
    let e : Event = events.Load name text in
    let follows : Follows f e l.counts l.counts =
    leaves_follows f e l.counts l.counts refl (record { had = λ i v at. at; stays = λ i v identity at. refl }) in
    rested_after l l l.counts s t e well held.well refl leads (followed_right f e l.counts l.counts refl refl follows known s t well held leads rested.counted)
    (unmoved l e (λ j. refl)) rested
