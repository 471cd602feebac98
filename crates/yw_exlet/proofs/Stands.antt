-- What the map has at an identity, and what is found there.
use Rattle.std.proofs.Common.{Box, Global, ◌∙◌, ap, arith, refl, subst, sym}
use Rattle.std.specs.Prelude.{◌≡◌, ◌&&◌, ◌||◌, Bool, IfSome, IsSome, IsSomeAnd, List, None, Option, Some, [], ℕ, false, if◌then◌else◌, is_some, not, option_map, true}
use Rattle.yw_base.specs.Identity.{case_number, is_identity, parent}
use Rattle.yw_exlet.proofs.OwnSite.{apart, is_same, run_is}
use Rattle.yw_exlet.specs.Changes.{Changes}
use Rattle.yw_exlet.specs.Stands.{BareRunAt, RunAt, TargetAt, is_bare_run, is_no_run, is_run}
use Rattle.yw_sites.proofs.Prefix.{same_refl, under_refl}
use Rattle.yw_state.proofs.MapLemmas.{by_name, get-retain_kept, get-update_other, get-update_same}
use Rattle.yw_state.proofs.Tests.{by_test, never}
use Rattle.std.proofs.lemmas.Bool.{and_parts}
use Rattle.yw_state.specs.After.{with_run}
use Rattle.yw_state.specs.Exlets.{going_on, taken_first}
use Rattle.yw_state.specs.Identity.{Ident, is_case_ident, same, strictly_under}
use Rattle.yw_state.specs.Map.{get, retain, update}
use Rattle.yw_state.specs.Options.{is_some_and}
use Rattle.yw_state.specs.State.{RunPart, Site, Sites, bare, bare_but, without_net}
use Rattle.yw_tree.proofs.FindLaw.{find_is}
use Rattle.yw_base.proofs.Parents.{identity_long}
use Rattle.yw_tree.proofs.Parents.{identity_short}
use Rattle.yw_tree.proofs.RunFound.{none_at_case}
use Rattle.yw_tree.specs.Becomes.{Bares, BaresBut}
use Rattle.yw_tree.specs.Cases.{case_at}
use Rattle.yw_tree.specs.Coming.{HasNoNet, TargetStands}
use Rattle.yw_tree.specs.Entries.{net_part_of}
use Rattle.yw_tree.specs.Forest.{IsForest, item_of, sites_of}
use Rattle.yw_tree.specs.Places.{net_of_run, run_of}
use Rattle.yw_tree.specs.Ways.{net_in}
use Rattle.yw_tree.specs.Spots.{Part, a_case, a_run, an_item, item_or_run, part_at, part_site}
use Rattle.yw_tree.specs.declared.Case.{Case}
use Rattle.yw_tree.specs.declared.Forest.{Forest}
use Rattle.yw_tree.specs.declared.NetState.{NetState}
use Rattle.yw_tree.specs.declared.Node.{Node}
use Rattle.yw_tree.specs.declared.Run.{Run, out-Run}

-- a test that a change leaves as it is
pub kept_test : (m : Sites) (r j : Ident) (g : Site → Site) (p : Site → Bool) → ((x : Site) → p (g x) ≡ p x) → is_some_and (get (update m r g) j) p ≡ is_some_and (get m j) p
kept_test m r j g p keeps =
    by_test (same j r)
    (λ here.
    let e = is_same j r here in
    ap (λ k. is_some_and (get (update m r g) k) p) e ∙ ap (λ o. is_some_and o p) (get-update_same by_name m r g) ∙ mapped (get m r) ∙ sym (ap (λ k. is_some_and (get m k) p) e))
    (λ other. ap (λ o. is_some_and o p) (get-update_other by_name m r g j (apart j r other)))
  where
    mapped : (o : Option Site) → is_some_and (option_map g o) p ≡ is_some_and o p
    mapped None = refl
    mapped (Some x) = keeps x

-- the same, where one forest became another by that change
pub kept_at : (a b : Forest) (r j : Ident) (g : Site → Site) (p : Site → Bool) → ((x : Site) → p (g x) ≡ p x) → Changes a b r g
    → ((names : ℕ → List ℕ) → is_some_and (get (sites_of names a) j) p ≡ true) → (names : ℕ → List ℕ) → is_some_and (get (sites_of names b) j) p ≡ true
kept_at a b r j g p keeps changes holds names = ap (λ m. is_some_and (get m j) p) (changes names) ∙ kept_test (sites_of names a) r j g p keeps ∙ holds names

still_run : (h : RunPart → RunPart) (o : Option RunPart) → is_some (option_map h o) ≡ is_some o
still_run h None = refl
still_run h (Some x) = refl

pub step_no_run : (x : Site) → is_no_run (with_run taken_first x) ≡ is_no_run x
step_no_run x = ap not (still_run taken_first x.run)

pub step_bare_run : (x : Site) → is_bare_run (with_run taken_first x) ≡ is_bare_run x
step_bare_run x = ap (λ b. b && not (is_some x.net)) (still_run taken_first x.run)

pub goes_bare_run : (x : Site) → is_bare_run (with_run going_on x) ≡ is_bare_run x
goes_bare_run x = ap (λ b. b && not (is_some x.net)) (still_run going_on x.run)

module _ (f : Forest) (b : IsForest f) (id : Ident) (i : is_identity id ≡ true) where
  abbrev pub no_names : ℕ → List ℕ
  no_names k = []

  abbrev pub site_at : Part → Site
  site_at = part_site no_names

  pub found : get (sites_of no_names f) id ≡ option_map site_at (part_at f id)
  found = let l = identity_short id i in find_is no_names f b id (identity_long id i) (omega arith)

  pub no_net : (o : Option (Box NetState Global)) → not (is_some (net_part_of no_names o)) ≡ true → o ≡ None
  no_net None e = refl
  no_net (Some n) e = never e

  by_part : (o : Option Part) → part_at f id ≡ o → is_some_and (option_map site_at o) is_bare_run ≡ true → IsSome (run_of f id)
  by_part None e t = never t
  by_part (Some (a_case c)) e t = never t
  by_part (Some (an_item n)) e t = never t
  by_part (Some (a_run r)) e t = run_is f id r e

  pub run_there : BareRunAt f id → IsSome (run_of f id)
  run_there t = by_part (part_at f id) refl (sym (ap (λ o. is_some_and o is_bare_run) found) ∙ t no_names)

  at_case : (o : Option Case) → is_some_and (option_map site_at (option_map a_case o)) is_no_run ≡ true → is_some o ≡ true
  at_case None e = never e
  at_case (Some c) e = refl

  at_item : (o : Option Node) (u : Option Run) → is_some_and (option_map site_at (item_or_run o u)) is_no_run ≡ true → is_some o ≡ true
  at_item None None e = never e
  at_item None (Some r) e = never e
  at_item (Some n) u e = refl

  abbrev of_case : Option Part
  of_case = option_map a_case (case_at (case_number id) f.cases)

  abbrev of_rest : Option Part
  of_rest = item_or_run (item_of f id) (run_of f id)

  abbrev chosen : (Option Part → Type 0) → Bool → Type 0
  chosen P k = P (if k then of_case else of_rest)

  pub target_there : TargetAt f id → TargetStands f id
  target_there t =
      let here : is_some_and (option_map site_at (part_at f id)) is_no_run ≡ true = sym (ap (λ o. is_some_and o is_no_run) found) ∙ t no_names in
      let P : Option Part → Type 0 = λ o. is_some_and (option_map site_at o) is_no_run ≡ true in
      by_test (is_case_ident id)
      (λ case. ap (λ k. if k then is_some (case_at (case_number id) f.cases) else is_some (item_of f id)) case ∙ at_case (case_at (case_number id) f.cases) (subst (chosen P) case here))
      (λ other. ap (λ k. if k then is_some (case_at (case_number id) f.cases) else is_some (item_of f id)) other ∙ at_item (item_of f id) (run_of f id) (subst (chosen P) other here))

  -- what stands there has no run
  no_run_case : (names : ℕ → List ℕ) (o : Option Case) → is_some o ≡ true → is_some_and (option_map (part_site names) (option_map a_case o)) is_no_run ≡ true
  no_run_case names None e = never e
  no_run_case names (Some c) e = refl

  no_run_item : (names : ℕ → List ℕ) (o : Option Node) (u : Option Run) → is_some o ≡ true → is_some_and (option_map (part_site names) (item_or_run o u)) is_no_run ≡ true
  no_run_item names None u e = never e
  no_run_item names (Some n) u e = refl

  pub there_target : TargetStands f id → TargetAt f id
  there_target e = λ names.
      let l = identity_short id i in
      let P : Bool → Type 0 = λ k. is_some_and (option_map (part_site names) (if k then of_case else of_rest)) is_no_run ≡ true in
      let Q : Bool → Type 0 = λ k. (if k then is_some (case_at (case_number id) f.cases) else is_some (item_of f id)) ≡ true in
      ap (λ o. is_some_and o is_no_run) (find_is names f b id (identity_long id i) (omega arith))
      ∙ by_test (is_case_ident id)
      (λ case. subst P (sym case) (no_run_case names (case_at (case_number id) f.cases) (subst Q case e)))
      (λ other. subst P (sym other) (no_run_item names (item_of f id) (run_of f id) (subst Q other e)))

  is_bare : (o : Option Node) (u : Option Run) → is_some_and (option_map site_at (item_or_run o u)) is_bare_run ≡ true → IfSome u HasNoNet
  is_bare None None e = never e
  is_bare None (Some r) e = no_net (out-Run r).net e
  is_bare (Some n) u e = never e

  case_is_none : (o : Option Case) → is_some_and (option_map site_at (option_map a_case o)) is_bare_run ≡ true → IfSome (run_of f id) HasNoNet
  case_is_none None e = never e
  case_is_none (Some c) e = never e

  pub run_alone : BareRunAt f id → IfSome (run_of f id) HasNoNet
  run_alone t =
      let here : is_some_and (option_map site_at (part_at f id)) is_bare_run ≡ true = sym (ap (λ o. is_some_and o is_bare_run) found) ∙ t no_names in
      let P : Option Part → Type 0 = λ o. is_some_and (option_map site_at o) is_bare_run ≡ true in
      by_test (is_case_ident id)
      (λ case. case_is_none (case_at (case_number id) f.cases) (subst (chosen P) case here))
      (λ other. is_bare (item_of f id) (run_of f id) (subst (chosen P) other here))

  by_run : (o : Option Part) → part_at f id ≡ o → is_some_and (option_map site_at o) is_run ≡ true → IsSome (run_of f id)
  by_run None e t = never t
  by_run (Some (a_case c)) e t = never t
  by_run (Some (an_item n)) e t = never t
  by_run (Some (a_run r)) e t = run_is f id r e

  pub run_stands : RunAt f id → IsSome (run_of f id)
  run_stands t = by_run (part_at f id) refl (sym (ap (λ o. is_some_and o is_run) found) ∙ t no_names)

-- ---- a run whose net goes
without_its_net : (o : Option Site) → is_some_and o is_run ≡ true → is_some_and (option_map without_net o) is_bare_run ≡ true
without_its_net None e = never e
without_its_net (Some x) e = ap (λ b. b && true) e

pub bared_run : (m : Sites) (r : Ident) → is_some_and (get m r) is_run ≡ true → is_some_and (get (bare m r) r) is_bare_run ≡ true
bared_run m r t =
    ap (λ o. is_some_and o is_bare_run) (get-update_same by_name (retain m (λ k. not (strictly_under k r))) r without_net)
    ∙ ap (λ o. is_some_and (option_map without_net o) is_bare_run) (get-retain_kept by_name m (λ k. not (strictly_under k r)) r itself)
    ∙ without_its_net (get m r) t
  where
    itself : not (strictly_under r r) ≡ true
    itself = ap (λ b. not (b && not (same r r))) (under_refl r) ∙ ap (λ b. not (not b)) (same_refl r)

-- ---- what stays of an item where only its run is kept

true_kept : (o : Option Site) (g : Site → Site) (p : Site → Bool) → ((x : Site) → p x ≡ true → p (g x) ≡ true) → is_some_and o p ≡ true → is_some_and (option_map g o) p ≡ true
true_kept None g p keeps t = t
true_kept (Some x) g p keeps t = keeps x t

or_true : (b : Bool) → (b || true) ≡ true
or_true true = refl
or_true false = refl

bare_stays : (x : Site) → is_bare_run x ≡ true → is_bare_run (without_net x) ≡ true
bare_stays x t = ap (λ b. b && true) (and_parts (is_some x.run) (not (is_some x.net)) t).0

module _ (m : Sites) (r j : Ident) where
  abbrev kept_there : Ident → Bool
  kept_there k = not (strictly_under k j) || same k r

  -- the item itself
  pub item_but : is_some_and (get m j) is_no_run ≡ true → is_some_and (get (bare_but m j r) j) is_no_run ≡ true
  item_but t =
      ap (λ o. is_some_and o is_no_run) (get-update_same by_name (retain m kept_there) j without_net)
      ∙ ap (λ o. is_some_and (option_map without_net o) is_no_run) (get-retain_kept by_name m kept_there j itself)
      ∙ true_kept (get m j) without_net is_no_run (λ x e. e) t
    where
      itself : kept_there j ≡ true
      itself = ap (λ b. not (b && not (same j j)) || same j r) (under_refl j) ∙ ap (λ b. not (not b) || same j r) (same_refl j)

  -- the run
  pub run_but : is_some_and (get m r) is_bare_run ≡ true → is_some_and (get (bare_but m j r) r) is_bare_run ≡ true
  run_but t =
      by_test (same r j)
      (λ here.
      let e = is_same r j here in
      ap (λ k. is_some_and (get (update (retain m kept_there) k without_net) r) is_bare_run) (sym e)
      ∙ ap (λ o. is_some_and o is_bare_run) (get-update_same by_name (retain m kept_there) r without_net)
      ∙ ap (λ o. is_some_and (option_map without_net o) is_bare_run) (get-retain_kept by_name m kept_there r run_kept)
      ∙ true_kept (get m r) without_net is_bare_run bare_stays t)
      (λ other.
      ap (λ o. is_some_and o is_bare_run) (get-update_other by_name (retain m kept_there) j without_net r (apart r j other) ∙ get-retain_kept by_name m kept_there r run_kept) ∙ t)
    where
      run_kept : kept_there r ≡ true
      run_kept = ap (λ b. not (strictly_under r j) || b) (same_refl r) ∙ or_true (not (strictly_under r j))

-- where it isn't a case
pub target_item : (f : Forest) (b : IsForest f) (id : Ident) (i : is_identity id ≡ true) → is_case_ident id ≡ false → TargetAt f id → IsSome (item_of f id)
target_item f b id i below t =
    sym (ap (λ k. if k then is_some (case_at (case_number id) f.cases) else is_some (item_of f id)) below) ∙ target_there f b id i t

pub run_alone_there : (o : Option Run) → IsSome o → IfSome o HasNoNet → IsSomeAnd o HasNoNet
run_alone_there None t e = never t
run_alone_there (Some r) t e = e

pub no_net_there : (o : Option Run) → IfSome o HasNoNet → net_of_run o ≡ None
no_net_there None e = refl
no_net_there (Some r) e = ap net_in e

pub runs_bare : (o : Option Site) → is_some_and o is_bare_run ≡ true → is_some_and o is_run ≡ true
runs_bare None t = never t
runs_bare (Some x) t = (and_parts (is_some x.run) (not (is_some x.net)) t).0

-- ---- once the run has taken its first

module _ (old mid : Forest) (r : Ident) (steps : Changes old mid r (with_run taken_first)) where
  pub bare_still : BareRunAt old r → BareRunAt mid r
  bare_still = kept_at old mid r r (with_run taken_first) is_bare_run step_bare_run steps

  pub target_still : (j : Ident) → TargetAt old j → TargetAt mid j
  target_still j = kept_at old mid r j (with_run taken_first) is_no_run step_no_run steps

-- ---- once all under its item is gone but the run

module _ (mid cut : Forest) (r j : Ident) (target : j ≡ parent r) (bares : BaresBut mid cut (parent r) r) where
  pub there : (names : ℕ → List ℕ) → sites_of names cut ≡ bare_but (sites_of names mid) j r
  there names = bares names ∙ ap (λ k. bare_but (sites_of names mid) k r) (sym target)

  pub target_but : TargetAt mid j → TargetAt cut j
  target_but holds = λ names. ap (λ m. is_some_and (get m j) is_no_run) (there names) ∙ item_but (sites_of names mid) r j (holds names)

  pub bare_but_run : BareRunAt mid r → BareRunAt cut r
  bare_but_run holds = λ names. ap (λ m. is_some_and (get m r) is_bare_run) (there names) ∙ run_but (sites_of names mid) r j (holds names)

-- ---- once its net is gone

pub bared_still : (old mid : Forest) (r : Ident) → Bares old mid r → RunAt old r → BareRunAt mid r
bared_still old mid r bares holds = λ names. ap (λ m. is_some_and (get m r) is_bare_run) (bares names) ∙ bared_run (sites_of names old) r (holds names)

-- a run isn't a case
pub run_below : (f : Forest) → IsForest f → (r : Ident) → is_identity r ≡ true → BareRunAt f r → is_case_ident r ≡ false
run_below f boxed r identity runs =
    by_test (is_case_ident r)
    (λ case. never (sym (ap is_some (none_at_case f r case)) ∙ run_there f boxed r identity runs))
    (λ other. other)
