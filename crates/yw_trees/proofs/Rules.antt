-- What is kept by numbers is what stands at the places that are named after them, also with one rule more.
use Rattle.std.proofs.Common.{◌≡◌, ℕ, suc, zero, List, [], ◌∷◌, ◌++◌, Bool, true, false, cond, Option, Some, refl, sym, ap, subst, ◌∙◌}
use Rattle.std.specs.Ordering.{eq_by_cmp}
use Rattle.std.specs.Prelude.{slice_get, unwrap_or}
use Rattle.std.specs.declared.cmp.Ordering.{Ordering}
use Rattle.yw_state.proofs.MapLemmas.{KeyOrder, apart, by_names, get-insert, same_map, tied, tied_self}
use Rattle.yw_state.proofs.Tests.{by_test, never, nowhere, some_same}
use Rattle.yw_state.proofs.TreePlaces.{one_place}
use Rattle.yw_state.specs.Judged.{place_key}
use Rattle.yw_state.specs.Map.{Map, get, insert, lexical_each}
use Rattle.yw_state.specs.RuleTree.{TreeRule}
use Rattle.yw_state.specs.declared.loaded.Loaded.{Loaded}
use Rattle.yw_state.specs.declared.tree.TreePlace.{TreePlace}
use Rattle.yw_trees.proofs.OwnersLemmas.{one_owner, one_place_of}
use Rattle.yw_trees.proofs.Same.{slot_from, slot_self}
use Rattle.yw_trees.specs.Owners.{IsNamed, Owns, SpecsApart, spec_number}
use Rattle.yw_trees.specs.Placed.{AllOwned, AreOwned, Placed, a_tree, is_its, more, rules_for, rules_of, with_rule}
use Rattle.yw_trees.specs.declared.owner.Owner.{Owner}

-- ---- one value at a key, and then another

over : {V : Type 0} (c : Bool) (a b : V) (x : Option V) → cond c (Some b) (cond c (Some a) x) ≡ cond c (Some b) x
over true a b x = refl
over false a b x = refl

both_ways : {V : Type 0} (c d : Bool) (a b : V) (x : Option V) → (c ≡ true → d ≡ true → ⊥)
    → cond c (Some a) (cond d (Some b) x) ≡ cond d (Some b) (cond c (Some a) x)
both_ways true true a b x other = absurd (other refl refl)
both_ways true false a b x other = refl
both_ways false true a b x other = refl
both_ways false false a b x other = refl

module _ {K V : Type 0} {R : K → K → Ordering} (o : KeyOrder R) (m : Map R V) where
  insert_over : (k : K) (a b : V) → insert (insert m k a) k b ≡ insert m k b
  insert_over k a b = same_map o _ _ (λ q.
      get-insert o (insert m k a) k b q ∙ ap (cond (eq_by_cmp R q k) (Some b)) (get-insert o m k a q) ∙ over (eq_by_cmp R q k) a b (get m q)
      ∙ sym (get-insert o m k b q))

  insert_both : (k j : K) (a b : V) → (k ≡ j → ⊥) → insert (insert m j b) k a ≡ insert (insert m k a) j b
  insert_both k j a b other = same_map o _ _ (λ q.
      get-insert o (insert m j b) k a q ∙ ap (cond (eq_by_cmp R q k) (Some a)) (get-insert o m j b q)
      ∙ both_ways (eq_by_cmp R q k) (eq_by_cmp R q j) a b (get m q) (λ c d. other (sym (tied o q k c) ∙ tied o q j d))
      ∙ sym (get-insert o (insert m k a) j b q ∙ ap (cond (eq_by_cmp R q j) (Some b)) (get-insert o m k a q)))

-- ---- what is owned

rest_owned : (specs : List Loaded) (t : Placed) (ts : List Placed) → AllOwned specs (t ∷ ts) → AllOwned specs ts
rest_owned specs t ts owned n u at = owned (suc n) u at

abbrev rules_in_map : Map lexical_each (List TreeRule) → TreePlace → List TreeRule
rules_in_map m p = unwrap_or (get m (place_key p)) []

in_front : (specs : List Loaded) (t : Placed) (ts : List Placed) → Owns specs t.owner t.place → AllOwned specs ts → AllOwned specs (t ∷ ts)
in_front specs t ts owns rest zero u at = subst (λ (x : Placed). Owns specs x.owner x.place) (some_same t u at) owns
in_front specs t ts owns rest (suc n) u at = rest n u at

-- ---- at the place of one

module _ (specs : List Loaded) (apart_names : SpecsApart specs) (owner : Owner) (p : TreePlace) (is : IsNamed specs owner p) where
  module _ (t : Placed) (owns : Owns specs t.owner t.place) where
    its_key : is_its owner p.kind t ≡ true → place_key t.place ≡ place_key p
    its_key h =
        let (of, kind) = slot_from t.owner t.place.kind owner p.kind h in
        ap place_key (one_place_of specs owner t.place p (subst (λ o. IsNamed specs o t.place) of owns.is) is kind)

    other_key : is_its owner p.kind t ≡ false → place_key t.place ≡ place_key p → ⊥
    other_key h e =
        let place : t.place ≡ p = one_place t.place p e in
        let of : t.owner ≡ owner = one_owner specs apart_names t.owner owner p (subst (IsNamed specs t.owner) place owns.is) is in
        let its : is_its owner p.kind t ≡ true =
        ap (λ o. is_its owner p.kind (record { owner = o; place = t.place; rules = t.rules })) of
        ∙ ap (λ q. is_its owner p.kind (record { owner = owner; place = q; rules = t.rules })) place
        ∙ slot_self owner p.kind in
        never (sym h ∙ its)

  -- the rules by numbers stand at the place
  pub at_place : (ts : List Placed) → AllOwned specs ts → rules_in_map (rules_of ts) p ≡ rules_for owner p.kind ts
  at_place [] owned = refl
  at_place (t ∷ ts) owned =
      let here = get-insert by_names (rules_of ts) (place_key t.place) t.rules (place_key p) in
      let rest = at_place ts (rest_owned specs t ts owned) in
      let owns = owned zero t refl in
      by_test (is_its owner p.kind t)
      (λ h.
      let same : eq_by_cmp lexical_each (place_key p) (place_key t.place) ≡ true =
      ap (eq_by_cmp lexical_each (place_key p)) (its_key t owns h) ∙ tied_self by_names (place_key p) in
      ap (λ o. unwrap_or o []) (here ∙ ap (λ b. cond b (Some t.rules) (get (rules_of ts) (place_key p))) same)
      ∙ sym (ap (λ b. cond b t.rules (rules_for owner p.kind ts)) h))
      (λ h.
      let other : eq_by_cmp lexical_each (place_key p) (place_key t.place) ≡ false =
      apart by_names (place_key p) (place_key t.place) (λ e. other_key t owns h (sym e)) in
      ap (λ o. unwrap_or o []) (here ∙ ap (λ b. cond b (Some t.rules) (get (rules_of ts) (place_key p))) other)
      ∙ rest
      ∙ sym (ap (λ b. cond b t.rules (rules_for owner p.kind ts)) h))

  module _ (r : TreeRule) where
    abbrev then_more : Bool → Placed → List Placed → List Placed
    then_more b t ts = cond b (more t r ∷ ts) (t ∷ with_rule owner p r ts)

    abbrev rules_then : Bool → Placed → List Placed → List TreeRule
    rules_then b t ts = cond b t.rules (rules_for owner p.kind ts) ++ r ∷ []

    -- one rule more by numbers is one more at the place
    pub added_there : (ts : List Placed) → AllOwned specs ts
        → rules_of (with_rule owner p r ts) ≡ insert (rules_of ts) (place_key p) (rules_for owner p.kind ts ++ r ∷ [])
    added_there [] owned = refl
    added_there (t ∷ ts) owned =
        let rest = added_there ts (rest_owned specs t ts owned) in
        let owns = owned zero t refl in
        by_test (is_its owner p.kind t)
        (λ h.
        ap (λ b. rules_of (then_more b t ts)) h
        ∙ ap (λ k. insert (rules_of ts) k (t.rules ++ r ∷ [])) (its_key t owns h)
        ∙ sym (insert_over by_names (rules_of ts) (place_key p) t.rules (t.rules ++ r ∷ []))
        ∙ ap (λ k. insert (insert (rules_of ts) k t.rules) (place_key p) (t.rules ++ r ∷ [])) (sym (its_key t owns h))
        ∙ sym (ap (λ b. insert (insert (rules_of ts) (place_key t.place) t.rules) (place_key p) (rules_then b t ts)) h))
        (λ h.
        ap (λ b. rules_of (then_more b t ts)) h
        ∙ ap (λ m. insert m (place_key t.place) t.rules) rest
        ∙ insert_both by_names (rules_of ts) (place_key t.place) (place_key p) t.rules (rules_for owner p.kind ts ++ r ∷ []) (other_key t owns h)
        ∙ sym (ap (λ b. insert (insert (rules_of ts) (place_key t.place) t.rules) (place_key p) (rules_then b t ts)) h))

    -- each tree stands where it may
    pub still_owned : Owns specs owner p → (ts : List Placed) → AllOwned specs ts → AllOwned specs (with_rule owner p r ts)
    still_owned owns [] owned zero t at =
        let same : a_tree owner p r ≡ t = some_same (a_tree owner p r) t at in
        subst (λ (x : Placed). Owns specs x.owner x.place) same owns
    still_owned owns [] owned (suc n) t at = nowhere at
    still_owned owns (u ∷ us) owned n t at =
        by_test (is_its owner p.kind u)
        (λ h. in_front specs (more u r) us (owned zero u refl) (rest_owned specs u us owned) n t (ap (λ b. slice_get (then_more b u us) n) (sym h) ∙ at))
        (λ h.
        in_front specs u (with_rule owner p r us) (owned zero u refl) (still_owned owns us (rest_owned specs u us owned)) n t
        (ap (λ b. slice_get (then_more b u us) n) (sym h) ∙ at))

-- ---- elsewhere

module _ (specs : List Loaded) (p : TreePlace) (none : (owner : Owner) → Owns specs owner p → ⊥) where
  pub nothing_at : (ts : List Placed) → AllOwned specs ts → rules_in_map (rules_of ts) p ≡ []
  nothing_at [] owned = refl
  nothing_at (t ∷ ts) owned =
      let owns = owned zero t refl in
      let other : eq_by_cmp lexical_each (place_key p) (place_key t.place) ≡ false =
      apart by_names (place_key p) (place_key t.place)
      (λ e. none t.owner (subst (Owns specs t.owner) (one_place t.place p (sym e)) owns)) in
      ap (λ o. unwrap_or o [])
      (get-insert by_names (rules_of ts) (place_key t.place) t.rules (place_key p)
      ∙ ap (λ b. cond b (Some t.rules) (get (rules_of ts) (place_key p))) other)
      ∙ nothing_at ts (rest_owned specs t ts owned)

-- ---- more specifications

still_there : {A : Type 0} (xs ys : List A) (k : ℕ) (x : A) → slice_get xs k ≡ Some x → slice_get (xs ++ ys) k ≡ Some x
still_there [] ys k x e = nowhere e
still_there (z ∷ zs) ys zero x e = e
still_there (z ∷ zs) ys (suc k) x e = still_there zs ys k x e

pub none_owned : (specs : List Loaded) → SpecsApart specs → AreOwned specs []
none_owned specs apart_names = record { apart = apart_names; owned = λ n t at. nowhere at }

pub all_behind : (specs last : List Loaded) (ts : List Placed) → AllOwned specs ts → AllOwned (specs ++ last) ts
all_behind specs last ts owned n t at =
    let o = owned n t at in
    record {
      is = record {
        loaded = o.is.loaded;
        numbered = still_there specs last (spec_number t.owner) o.is.loaded o.is.numbered;
        named = o.is.named;
        here = o.is.here;
      };
      may = o.may;
    }

pub owned_behind : (specs last : List Loaded) (ts : List Placed) → SpecsApart (specs ++ last) → AreOwned specs ts → AreOwned (specs ++ last) ts
owned_behind specs last ts apart_names owned = record { apart = apart_names; owned = all_behind specs last ts owned.owned }
