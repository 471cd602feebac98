-- An exit leaves no token on a place of its removal set that gets none.
use Rattle.std.specs.Prelude.{◌≡◌, ℕ, zero, suc, ◌+◌, ◌||◌, Bool, true, false, not, List, [], ◌∷◌, fold, Option, Some, None, option_map, option_and_then, unwrap_or, slice_get, slice_set, nat_eq, refl, if◌then◌else◌}
use Rattle.std.proofs.Common.{sym, ◌∙◌, ap, subst}
use Rattle.std.proofs.lemmas.Bool.{eqb-false, eqb-true}
use Rattle.yw_spec.specs.declared.spec.Place.{Place}
use Rattle.yw_state.specs.After.{exit, make_due, produce, region_emptied, values_assigned, wipe, with_net, with_sites, without_items}
use Rattle.yw_state.specs.Allowed.{place_numbers}
use Rattle.yw_state.specs.Events.{after}
use Rattle.yw_state.specs.Gone.{exit_empties}
use Rattle.yw_state.specs.Identity.{Ident}
use Rattle.yw_state.specs.Judged.{case_place}
use Rattle.yw_state.specs.Map.{get, retain}
use Rattle.yw_state.specs.Nets.{is_among}
use Rattle.yw_state.specs.Options.{is_some_and}
use Rattle.yw_state.specs.State.{NetPart, Site, State, TaskAt, drop, drop_all, task_at, tokens_on}
use Rattle.yw_state.specs.Texts.{Said}
use Rattle.yw_state.specs.declared.event.Event.TheVariants as events
use Rattle.yw_state.specs.declared.tree.TreeKind.TheVariants.{Post}
use Rattle.yw_state.specs.declared.tree.TreePlace.{TreePlace}
use Rattle.yw_state.proofs.Absent.{idents_of, part-kept}
use Rattle.yw_state.proofs.MapLemmas.{by_name, by_test, get-retain_gone, get-retain_kept, get-update_same, never}
use Rattle.yw_state.proofs.Tests.{and_left, and_right, is_not, there_and}

-- ---- counts

abbrev count : List ℕ → ℕ → ℕ
count tokens c = unwrap_or (slice_get tokens c) 0

abbrev none_on : List ℕ → ℕ → List ℕ
none_on tokens c = slice_set tokens c 0

abbrev one_on : List ℕ → ℕ → List ℕ
one_on tokens c = slice_set tokens c (count tokens c + 1)

none-same : (tokens : List ℕ) (c : ℕ) → count (none_on tokens c) c ≡ 0
none-same [] c = refl
none-same (n ∷ tokens) zero = refl
none-same (n ∷ tokens) (suc c) = none-same tokens c

set-other : (tokens : List ℕ) (c d n : ℕ) → ¬ (c ≡ d) → count (slice_set tokens d n) c ≡ count tokens c
set-other [] c d n other = refl
set-other (m ∷ tokens) zero zero n other = absurd (other refl)
set-other (m ∷ tokens) (suc c) zero n other = refl
set-other (m ∷ tokens) zero (suc d) n other = refl
set-other (m ∷ tokens) (suc c) (suc d) n other = set-other tokens c d n (λ e. other (ap suc e))

none-keeps : (tokens : List ℕ) (c d : ℕ) → count tokens c ≡ 0 → count (none_on tokens d) c ≡ 0
none-keeps tokens c d empty =
    by_test (nat_eq c d)
    (λ same. subst (λ e. count (none_on tokens e) c ≡ 0) (eqb-true c d same) (none-same tokens c))
    (λ other. set-other tokens c d 0 (eqb-false c d other) ∙ empty)

wipe-keeps : (ds : List ℕ) (tokens : List ℕ) (c : ℕ) → count tokens c ≡ 0 → count (fold none_on tokens ds) c ≡ 0
wipe-keeps [] tokens c empty = empty
wipe-keeps (d ∷ ds) tokens c empty = wipe-keeps ds (none_on tokens d) c (none-keeps tokens c d empty)

wiped : (ds : List ℕ) (tokens : List ℕ) (c : ℕ) → is_among ds c ≡ true → count (fold none_on tokens ds) c ≡ 0
wiped [] tokens c within = never within
wiped (d ∷ ds) tokens c within =
    by_test (nat_eq c d)
    (λ same. wipe-keeps ds (none_on tokens d) c (subst (λ e. count (none_on tokens e) c ≡ 0) (eqb-true c d same) (none-same tokens c)))
    (λ other. wiped ds (none_on tokens d) c (ap (λ b. b || is_among ds c) (sym other) ∙ within))

neither : (a b : Bool) → (a || b) ≡ false → (a ≡ false) × (b ≡ false)
neither true b e = never (sym e)
neither false b e = (refl, e)

given-other : (cs : List ℕ) (tokens : List ℕ) (c : ℕ) → is_among cs c ≡ false → count (fold one_on tokens cs) c ≡ count tokens c
given-other [] tokens c without = refl
given-other (d ∷ cs) tokens c without =
    let both = neither (nat_eq c d) _ without in
    given-other cs (one_on tokens d) c both.1 ∙ set-other tokens c d _ (eqb-false c d both.0)

-- ---- the net at i

module _ (i : Ident) (c : ℕ) where
  abbrev tokens_of : Option NetPart → ℕ
  tokens_of o = unwrap_or (option_and_then (λ (n : NetPart). slice_get n.tokens c) o) 0

  abbrev net_of : Option Site → Option NetPart
  net_of o = option_and_then (λ (x : Site). x.net) o

  abbrev IsEmpty : State → Type 0
  IsEmpty s = tokens_on s i c ≡ 0

  retain-empty : (s : State) (p : Ident → Bool) → IsEmpty s → IsEmpty (with_sites s (retain s.sites p))
  retain-empty s p empty =
      by_test (p i)
      (λ kept. ap (λ o. tokens_of (net_of o)) (get-retain_kept by_name s.sites p i kept) ∙ empty)
      (λ gone. ap (λ o. tokens_of (net_of o)) (get-retain_gone by_name s.sites p i gone))

  drop_all-empty : (js : List Ident) (s : State) → IsEmpty s → IsEmpty (with_sites s (drop_all s.sites js))
  drop_all-empty [] s empty = empty
  drop_all-empty (j ∷ js) s empty = drop_all-empty js (with_sites s (drop s.sites j)) (retain-empty s _ empty)

  each-empty : (us : List ℕ) (s : State) → IsEmpty s → IsEmpty (fold (without_items i) s us)
  each-empty [] s empty = empty
  each-empty (u ∷ us) s empty = each-empty us (without_items i s u) (drop_all-empty (idents_of s i u) s empty)

  part_wiped : (f : NetPart → NetPart) → ((n : NetPart) → count (f n).tokens c ≡ 0) → (o : Option NetPart) → tokens_of (option_map f o) ≡ 0
  part_wiped f wipes None = refl
  part_wiped f wipes (Some n) = wipes n

  site_wiped : (f : NetPart → NetPart) → ((n : NetPart) → count (f n).tokens c ≡ 0) → (o : Option Site) → tokens_of (net_of (option_map (with_net f) o)) ≡ 0
  site_wiped f wipes None = refl
  site_wiped f wipes (Some x) = part_wiped f wipes x.net

  part_same : (f : NetPart → NetPart) → ((n : NetPart) → count (f n).tokens c ≡ count n.tokens c) → (o : Option NetPart) → tokens_of (option_map f o) ≡ tokens_of o
  part_same f same None = refl
  part_same f same (Some n) = same n

  site_same : (f : NetPart → NetPart) → ((n : NetPart) → count (f n).tokens c ≡ count n.tokens c) → (o : Option Site) → tokens_of (net_of (option_map (with_net f) o)) ≡ tokens_of (net_of o)
  site_same f same None = refl
  site_same f same (Some x) = part_same f same x.net

  wipe-empty : (s : State) (ds : List ℕ) → is_among ds c ≡ true → IsEmpty (wipe s i ds)
  wipe-empty s ds within =
      let f : NetPart → NetPart = λ n. record n { tokens = fold none_on n.tokens ds } in
      ap (λ o. tokens_of (net_of o)) (get-update_same by_name s.sites i (with_net f)) ∙ site_wiped f (λ n. wiped ds n.tokens c within) (get s.sites i)

  produce-empty : (s : State) (cs : List ℕ) → is_among cs c ≡ false → IsEmpty s → IsEmpty (produce s i cs)
  produce-empty s cs without empty =
      let f : NetPart → NetPart = λ n. record n { tokens = fold one_on n.tokens cs } in
      ap (λ o. tokens_of (net_of o)) (get-update_same by_name s.sites i (with_net f)) ∙ site_same f (λ n. given-other cs n.tokens c without) (get s.sites i) ∙ empty

  due-empty : (s : State) (p : TreePlace) → IsEmpty s → IsEmpty (make_due s i p)
  due-empty s p empty = ap tokens_of (part-kept (λ x. x.net) _ (λ x. refl) s.sites i i) ∙ empty

  if-empty : (b : Bool) (s t : State) → IsEmpty s → IsEmpty t → IsEmpty (if b then s else t)
  if-empty true s t there here = there
  if-empty false s t there here = here

  exit-empty : (s : State) (places : List Place) (x : TaskAt) (cs : List ℕ) → place_numbers x.within.net places ≡ Some cs → is_among x.task.drop_places c ≡ true → is_among cs c ≡ false → IsEmpty (exit s i places x)
  exit-empty s places x cs e within without =
      let kept : State = values_assigned s i x in
      let empty : IsEmpty (region_emptied s i x) = each-empty x.task.drop_tasks (wipe kept i x.task.drop_places) (wipe-empty kept x.task.drop_places within) in
      let to : List ℕ = unwrap_or (place_numbers x.within.net places) [] in
      let t : State = produce (region_emptied s i x) i to in
      let post : TreePlace = case_place x.within.part.spec Post in
      let done : IsEmpty t = produce-empty (region_emptied s i x) to (ap (λ (o : Option (List ℕ)). is_among (unwrap_or o []) c) e ∙ without) empty in
      if-empty _ (make_due t i post) t (due-empty t post done) done

pub emptied : (s : State) (i : Ident) (t : List ℕ) (places : List Place) (said : Said) (c : ℕ) → is_some_and (task_at s i t) (exit_empties places c) ≡ true → tokens_on (after s (events.Exit i t places) said) i c ≡ 0
unfolding after
emptied s i t places said c empties =
    let x = there_and (task_at s i t) (exit_empties places c) empties in
    let cs = there_and (place_numbers x.0.within.net places) (λ ds. not (is_among ds c)) (and_right _ _ x.2) in
    rw x.1 (exit-empty i c s places x.0 cs.0 cs.1 (and_left _ _ x.2) (is_not _ cs.2))
