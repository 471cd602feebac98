-- What is held stays held behind an event that continues nothing above it: a mark goes only there or with all below it, and no run comes above what
-- stood.
use Rattle.std.specs.Prelude.{◌≡◌, ◌≤◌, ℕ, zero, suc, ◌+◌, ◌&&◌, ◌||◌, Bool, true, false, not, [], ◌∷◌, Option, Some, None, is_some, length, map, nat_lt, option_and_then, option_map, refl}
use Rattle.std.specs.List.{list_any, range_with_len}
use Rattle.std.proofs.Common.{◌∙◌, ap, sym, inl, inr, arith}
use Rattle.std.proofs.lemmas.Bool.{and_from, and_parts, eqb-true, false_from_ne_true}
use Rattle.yw_base.specs.Identity.{child, parent, under}
use Rattle.yw_idle.proofs.Goes.{goes_below}
use Rattle.yw_idle.proofs.NetAbove.{not_new}
use Rattle.yw_idle.proofs.Parts.{Ignores, changed-kept, is_run_of, marks, neither, over-kept, part_kept}
use Rattle.yw_idle.proofs.Runs.{run_there}
use Rattle.yw_idle.specs.Warms.{continues, makes}
use Rattle.yw_kept.proofs.Staying.{others_stay}
use Rattle.yw_moved.proofs.Parents.{apart, is_same}
use Rattle.yw_state.proofs.Clear.{some_stands}
use Rattle.yw_state.proofs.Drawing.{first-drawn}
use Rattle.yw_state.proofs.Entries.{find-entry, passing}
use Rattle.yw_state.proofs.Gone.{removed-gone}
use Rattle.yw_state.proofs.MapLemmas.{by_name, get-update_other, get-update_same}
use Rattle.yw_state.proofs.Tests.{by_test, never, nowhere, or_cases, then_some, there, there_and}
use Rattle.yw_state.proofs.Under.{all_above}
use Rattle.yw_state.specs.After.{change, with_run}
use Rattle.yw_state.specs.Allowed.{Allowed, allows}
use Rattle.yw_state.specs.Events.{after}
use Rattle.yw_state.specs.Exlets.{case_above, end_if_over, suspend, taken_first}
use Rattle.yw_state.specs.Gone.{removes}
use Rattle.yw_state.specs.Identity.{Ident, is_case_ident, same, strictly_under}
use Rattle.yw_state.specs.Map.{entries, get}
use Rattle.yw_state.specs.Options.{is_some_and}
use Rattle.yw_state.specs.State.{State, Site, RunPart, is_case, is_item, is_suspended, run_part}
use Rattle.yw_state.specs.Texts.{Reader, Said}
use Rattle.yw_state.specs.Well.{IsWell, Stands, is_drawn}
use Rattle.yw_state.specs.Words.{held, shielded}
use Rattle.yw_state.specs.declared.event.Event.{Event}
use Rattle.yw_state.specs.declared.event.Event.TheVariants as events
use Rattle.yw_state.specs.declared.tree.Primitive.TheVariants.{SuspendItem, ContinueItem, SuspendCase, ContinueCase}

-- ---- what is made is numbered anew

module _ (s : State) (q : Ident) (drawn : is_drawn s q ≡ true) where
  none_new : (i : Ident) (count first : ℕ) → s.next ≤ first → list_any (same q) (map (child i) (range_with_len first count)) ≡ false
  none_new i zero first later = refl
  none_new i (suc count) first later =
      neither (same q (child i first)) _ (not_new s q i first drawn later) (none_new i count (first + 1) (omega (arith, later)))

  one_new : (i : Ident) (n : ℕ) → n ≡ s.next → list_any (same q) (child i n ∷ []) ≡ false
  one_new i n is = ap (λ b. b || false) (not_new s q i n drawn (omega (arith, is)))

  pub not_made : (e : Event) (said : Said) → Allowed s e said → list_any (same q) (makes e) ≡ false
  not_made (events.Launch n name vals) said ok =
      one_new [] n (first-drawn s (events.Launch n name vals) said n ok.0 refl)
  not_made (events.Enter i t places first count) said ok =
      let is = first-drawn s (events.Enter i t places first count) said first ok.0 refl in none_new i count first (omega (arith, is))
  not_made (events.Add i t value n) said ok = one_new i n (first-drawn s (events.Add i t value n) said n ok.0 refl)
  not_made (events.Except j check node n) said ok =
      one_new j n (first-drawn s (events.Except j check node n) said n ok.0 refl)
  not_made (events.Raise j kind node n) said ok =
      one_new j n (first-drawn s (events.Raise j kind node n) said n ok.0 refl)
  not_made e said ok = refl

-- ---- marks

abbrev marks_at : Site → Option Bool
marks_at x = Some x.suspended

marks_ignored : Ignores marks_at
marks_ignored = record { net = λ x n. refl; item = λ x y. refl; due = λ x c. refl; run = λ x f. refl }

abbrev marked : Option Bool → Bool
marked o = is_some_and o (λ b. b)

mark_of : (o : Option Site) → is_some_and o (λ x. x.suspended) ≡ marked (option_and_then marks_at o)
mark_of None = refl
mark_of (Some x) = refl

module _ (k : Ident) where
  -- the mark is as it was
  mark_same : (s t : State) → option_and_then marks_at (get t.sites k) ≡ option_and_then marks_at (get s.sites k) → is_suspended t k ≡ is_suspended s k
  mark_same s t alike = mark_of (get t.sites k) ∙ ap marked alike ∙ sym (mark_of (get s.sites k))

  site_mark : (s t : State) → get t.sites k ≡ get s.sites k → is_suspended t k ≡ is_suspended s k
  site_mark s t here = ap (λ o. is_some_and o (λ (x : Site). x.suspended)) here

  set_too : (s : State) (i : Ident) → is_suspended s k ≡ true → is_suspended (suspend s i) k ≡ true
  set_too s i is = by_test (same k i) here (λ other. site_mark s (suspend s i) (get-update_other by_name s.sites i _ k (apart k i other)) ∙ is)
    where
      set : (o : Option Site) → is_some_and o (λ x. x.suspended) ≡ true
          → is_some_and (option_map (λ (x : Site). record x { suspended = true }) o) (λ x. x.suspended) ≡ true
      set None none = never none
      set (Some x) some = refl

      here : same k i ≡ true → is_suspended (suspend s i) k ≡ true
      here at =
          ap (λ q. is_some_and (get (suspend s q).sites k) (λ (x : Site). x.suspended)) (sym (is_same k i at))
          ∙ ap (λ o. is_some_and o (λ (x : Site). x.suspended)) (get-update_same by_name s.sites k _)
          ∙ set (get s.sites k) is

pub mark_there : (s : State) (e : Event) (said : Said) (k : Ident) → Allowed s e said → marks e ≡ false → removes s e k ≡ false
    → list_any (same k) (makes e) ≡ false → is_run_of e k ≡ false → is_suspended (after s e said) k ≡ is_suspended s k
mark_there s e said k ok unmarked stays new other =
    mark_same k s (after s e said) (part_kept marks_at marks_ignored k s e said ok (inl unmarked) stays new other)

module _ {reader : Reader} (s : State) (well : IsWell reader s) where
  -- what is suspended is no run
  no_run : (k : Ident) (r : RunPart) → is_suspended s k ≡ true → run_part s k ≡ Some r → ⊥
  no_run k r is run =
      elim (or_cases (is_case s k) (is_item s k) (well.marks.suspended k is)) [
        | inl case ↦
            let long = well.parents.run_depth k r run in
            let one = eqb-true (length k) 1 (and_parts (is_case_ident k) _ case).0 in absurd (omega (arith, long, one))
        | inr item ↦ never (sym (well.parents.not_both k item) ∙ ap is_some run)
      ]

  module _ (k j : Ident) (is : is_suspended s k ≡ true) (lies : under j k ≡ true) where
    drawn_mark : is_drawn s k ≡ true
    drawn_mark = let (x, at, on) = there_and (get s.sites k) (λ x. x.suspended) is in well.numbers.drawn k x at

    not_run : (e : Event) (said : Said) → Allowed s e said → is_run_of e k ≡ false
    unfolding allows
    not_run (events.Prim r p) said ok =
        false_from_ne_true _ (λ here.
        let (y, run, works) = there_and (run_part s r) _ ok.0 in no_run k y is (ap (run_part s) (is_same k r here) ∙ run))
    not_run (events.Compensated r) said ok =
        false_from_ne_true _ (λ here.
        let (y, run, waits) = there_and (run_part s r) _ (and_parts _ _ (and_parts _ _ ok.0).0).0 in
        no_run k y is (ap (run_part s) (is_same k r here) ∙ run))
    not_run e said ok = refl

    -- what isn't above j is another
    not_above : (i : Ident) → under j i ≡ false → same k i ≡ false
    not_above i out = false_from_ne_true _ (λ here. never (sym out ∙ ap (under j) (sym (is_same k i here)) ∙ lies))

    begun_mark : (r : Ident) → is_suspended (change s r (with_run taken_first)) k ≡ true
    begun_mark r =
        mark_same k s (change s r (with_run taken_first)) (changed-kept marks_at marks_ignored k s r (with_run taken_first) (λ y. refl)) ∙ is

    mark_stays : (e : Event) (said : Said) → Allowed s e said → removes s e k ≡ false → continues e j ≡ false → is_suspended (after s e said) k ≡ true
    unfolding after
    mark_stays (events.Suspend i) said ok stays free = set_too k s i is
    mark_stays (events.Continue i) said ok stays free =
        site_mark k s (after s (events.Continue i) said) (get-update_other by_name s.sites i _ k (apart k i (not_above i free))) ∙ is
    mark_stays (events.Prim r SuspendItem) said ok stays free =
        let other = not_run (events.Prim r SuspendItem) said ok in
        let set : State = suspend (change s r (with_run taken_first)) (parent r) in
        mark_same k set (end_if_over set r) (over-kept marks_at marks_ignored k s r other set)
        ∙ set_too k (change s r (with_run taken_first)) (parent r) (begun_mark r)
    mark_stays (events.Prim r SuspendCase) said ok stays free =
        let other = not_run (events.Prim r SuspendCase) said ok in
        let set : State = suspend (change s r (with_run taken_first)) (case_above r) in
        mark_same k set (end_if_over set r) (over-kept marks_at marks_ignored k s r other set)
        ∙ set_too k (change s r (with_run taken_first)) (case_above r) (begun_mark r)
    mark_stays (events.Prim r ContinueItem) said ok stays free =
        let other = not_run (events.Prim r ContinueItem) said ok in
        site_mark k s (after s (events.Prim r ContinueItem) said)
        (others_stay k s (events.Prim r ContinueItem) said refl stays (neither (same k r) (same k (parent r)) other (not_above (parent r) free)))
        ∙ is
    mark_stays (events.Prim r ContinueCase) said ok stays free =
        let other = not_run (events.Prim r ContinueCase) said ok in
        site_mark k s (after s (events.Prim r ContinueCase) said)
        (others_stay k s (events.Prim r ContinueCase) said refl stays (neither (same k r) (same k (case_above r)) other (not_above (case_above r) free)))
        ∙ is
    mark_stays e said ok stays free = mark_there s e said k ok refl stays (not_made s k drawn_mark e said ok) (not_run e said ok) ∙ is

-- ---- runs

-- the run that takes a primitive, or whose compensation goes, stands
run_stands : (s : State) (e : Event) (said : Said) (k : Ident) → Allowed s e said → is_run_of e k ≡ true → is_some (run_part s k) ≡ true
unfolding allows
run_stands s (events.Prim r p) said k ok here =
    let (y, run, works) = there_and (run_part s r) _ ok.0 in ap (λ q. is_some (run_part s q)) (is_same k r here) ∙ ap is_some run
run_stands s (events.Compensated r) said k ok here =
    let (y, run, waits) = there_and (run_part s r) _ (and_parts _ _ (and_parts _ _ ok.0).0).0 in
    ap (λ q. is_some (run_part s q)) (is_same k r here) ∙ ap is_some run
run_stands s e said k ok here = never here

-- ---- the law

module _ {reader : Reader} (s : State) (e : Event) (said : Said) (j : Ident) (x y : Site) (well : IsWell reader s) (ok : Allowed s e said)
    (stood : Stands s j x) (stands : Stands (after s e said) j y) (free : continues e j ≡ false) where
  abbrev t : State
  t = after s e said

  drawn : is_drawn s j ≡ true
  drawn = well.numbers.drawn j x stood

  module _ (k : Ident) (lies : under j k ≡ true) where
    drawn_above : is_drawn s k ≡ true
    drawn_above = all_above (λ n. nat_lt n s.next) j k lies drawn

    stays_above : removes s e k ≡ false
    stays_above = false_from_ne_true _ (λ gone. nowhere (sym (removed-gone j s e said ok (goes_below s e k j gone lies)) ∙ stands))

    run_was : is_some (run_part t k) ≡ true → is_some (run_part s k) ≡ true
    run_was some =
        by_test (is_run_of e k)
        (λ of_event. run_stands s e said k ok of_event)
        (λ other. sym (run_there s e said k ok stays_above (not_made s k drawn_above e said ok) other) ∙ some)

  shield_was : (i : Ident) → shielded t j i ≡ true → shielded s j i ≡ true
  shield_was i some =
      let (f, within, is) = passing (λ (f : Ident × Site). is_some f.1.run && strictly_under f.0 i && under j f.0) (entries t.sites) some in
      let parts = and_parts (is_some f.1.run && strictly_under f.0 i) (under j f.0) is in
      let run = and_parts (is_some f.1.run) (strictly_under f.0 i) parts.0 in
      let at : Stands t f.0 f.1 = find-entry by_name (entries t.sites) f t.sites.sorted within in
      let has = run_was f.0 parts.1 (ap (λ (o : Option Site). is_some (option_and_then (λ (z : Site). z.run) o)) at ∙ run.0) in
      let (r, there_is) = there (run_part s f.0) has in
      let (z, here, run_is) = then_some (λ (z : Site). z.run) (get s.sites f.0) r there_is in
      some_stands s (λ q z. is_some z.run && strictly_under q i && under j q) f.0 z here
      (and_from _ _ (and_from _ _ (ap is_some run_is) run.1) parts.1)

  pub stays_held : held s j ≡ true → held t j ≡ true
  stays_held some =
      let (f, within, is) = passing (λ (f : Ident × Site). f.1.suspended && under j f.0 && not (shielded s j f.0)) (entries s.sites) some in
      let parts = and_parts (f.1.suspended && under j f.0) (not (shielded s j f.0)) is in
      let mark = and_parts f.1.suspended (under j f.0) parts.0 in
      let at : Stands s f.0 f.1 = find-entry by_name (entries s.sites) f s.sites.sorted within in
      let marked_there : is_suspended s f.0 ≡ true = ap (λ (o : Option Site). is_some_and o (λ z. z.suspended)) at ∙ mark.0 in
      let (z, here, on) = there_and (get t.sites f.0) (λ z. z.suspended)
      (mark_stays s well f.0 j marked_there mark.1 e said ok (stays_above f.0 mark.1) free) in
      some_stands t (λ q z. z.suspended && under j q && not (shielded t j q)) f.0 z here
      (and_from _ _ (and_from _ _ on mark.1)
      (ap not (false_from_ne_true _ (λ shield. never (sym (ap not (shield_was f.0 shield)) ∙ parts.1)))))
