-- What is seen at an identity is put in the place of what was listed there.
use Rattle.std.proofs.Common.{ap, refl, sym, ◌∙◌}
use Rattle.std.proofs.lemmas.Bool.{cond-false, cond-true}
use Rattle.std.specs.BTreeMap as tree
use Rattle.std.specs.Prelude.{◌≡◌, ◌||◌, [], Bool, cond, false, is_some, List, None, Option, Some, unwrap_or}
use Rattle.yw_state.proofs.MapLemmas.{by_name, tied, tied_self}
use Rattle.yw_state.proofs.Tests.{by_option, by_test, never}
use Rattle.yw_state.specs.Identity.{Ident}
use Rattle.yw_state.specs.Map.{lexical}
use Rattle.yw_work.specs.declared.open.Open.{Open}
use Rattle.yw_worklist.proofs.Offering.{changed}
use Rattle.yw_worklist.specs.Fronts.{SetsFront}
use Rattle.yw_worklist.specs.Lists.{ArePooled, Places, PutsPlace, PutsSeen, has_place, opens_at, works_at}
use Rattle.yw_worklist.specs.Offers.{Turns, came, has_by, is_here, is_offered, left}
use Rattle.yw_worklist.specs.declared.fronts.Fronts.{Fronts}
use Rattle.yw_worklist.specs.declared.lists.Lists.{Lists}
use Rattle.yw_worklist.specs.declared.lists.Seen.{Seen}
use Rattle.yw_worklist.specs.declared.offers.Offers.{Offers}

-- nothing is listed at the identity any more, and elsewhere what was
abbrev pub IsTaken : Places → Places → Ident → Type 0
IsTaken old new id = (j : Ident) → tree.get lexical new j ≡ cond (is_here id j) None (tree.get lexical old j)

pub none_placed : (old new : Places) (id : Ident) → IsTaken old new id → has_place new id ≡ false
none_placed old new id taken =
    ap is_some (taken id ∙ cond-true {A = Option (List Open)} (is_here id id) None (tree.get lexical old id) (tied_self by_name id))

nothing_open : (p : Places) (j : Ident) → has_place p j ≡ false → opens_at p j ≡ []
nothing_open p j none =
    by_option (tree.get lexical p j)
    (λ e. ap (λ o. unwrap_or o []) e)
    (λ opens e. never (sym none ∙ ap is_some e))

pub put_nothing : (p : Places) (id : Ident) (opens : List Open) (must : Bool) → has_place p id ≡ false → opens ≡ [] → must ≡ false → PutsPlace p p id opens must
put_nothing p id opens must none are free = record {
  works = λ j. by_test (is_here id j)
      (λ here.
      ap (opens_at p) (sym (tied by_name id j here)) ∙ nothing_open p id none ∙ sym are ∙ sym (cond-true (is_here id j) opens (opens_at p j) here))
      (λ off. sym (cond-false (is_here id j) opens (opens_at p j) off));
  kept = λ j off there. there;
  here = λ e. never (sym free ∙ e);
}

pub put_some : (p q : Places) (id key : Ident) (opens : List Open) (must : Bool) → key ≡ id
    → ((j : Ident) → tree.get lexical q j ≡ cond (is_here key j) (Some opens) (tree.get lexical p j)) → PutsPlace p q id opens must
put_some p q id key opens must is puts =
    let at : (j : Ident) → tree.get lexical q j ≡ cond (is_here id j) (Some opens) (tree.get lexical p j) =
    λ j. puts j ∙ ap (λ k. cond (is_here k j) (Some opens) (tree.get lexical p j)) is in
    record {
      works = λ j. by_test (is_here id j)
          (λ here.
          ap (λ o. unwrap_or o []) (at j ∙ cond-true (is_here id j) (Some opens) (tree.get lexical p j) here)
          ∙ sym (cond-true (is_here id j) opens (opens_at p j) here))
          (λ off.
          ap (λ o. unwrap_or o []) (at j ∙ cond-false (is_here id j) (Some opens) (tree.get lexical p j) off)
          ∙ sym (cond-false (is_here id j) opens (opens_at p j) off));
      kept = λ j off there. ap is_some (at j ∙ cond-false (is_here id j) (Some opens) (tree.get lexical p j) off) ∙ there;
      here = λ e. ap is_some (at id ∙ cond-true (is_here id id) (Some opens) (tree.get lexical p id) (tied_self by_name id));
    }

module _ (old : Lists) (p q : Places) (o : Offers) (m r : Fronts) (id : Ident) (seen : Seen) (before : List Open) where
  abbrev new : Lists
  new = record old { places = q; offers = o; marks = m; runs = r }

  module _ (were : before ≡ works_at old id) (taken : IsTaken old.places p id)
      (turns : Turns old.offers o id (λ c b. came before seen.opens c (left before seen.opens c b)))
      (puts : PutsPlace p q id seen.opens (seen.suspended || seen.run)) where
    elsewhere : (j : Ident) → is_here id j ≡ false → tree.get lexical p j ≡ tree.get lexical old.places j
    elsewhere j off = taken j ∙ cond-false (is_here id j) None (tree.get lexical old.places j) off

    works_are : (j : Ident) → opens_at q j ≡ cond (is_here id j) seen.opens (works_at old j)
    works_are j = by_test (is_here id j)
        (λ here.
        puts.works j ∙ cond-true (is_here id j) seen.opens (opens_at p j) here ∙ sym (cond-true (is_here id j) seen.opens (works_at old j) here))
        (λ off.
        puts.works j ∙ cond-false (is_here id j) seen.opens (opens_at p j) off ∙ ap (λ z. unwrap_or z []) (elsewhere j off)
        ∙ sym (cond-false (is_here id j) seen.opens (works_at old j) off))

    pooled_still : ArePooled old → ArePooled new
    pooled_still pooled = λ by j. by_test (is_here id j)
        (λ here.
        let had : is_offered old.offers by j ≡ has_by by before =
        pooled by j ∙ ap (λ i. has_by by (works_at old i)) (sym (tied by_name id j here)) ∙ ap (has_by by) (sym were) in
        turns by j ∙ cond-true (is_here id j) (came before seen.opens by (left before seen.opens by (is_offered old.offers by j))) (is_offered old.offers by j) here
        ∙ ap (λ b. came before seen.opens by (left before seen.opens by b)) had ∙ changed (has_by by before) (has_by by seen.opens)
        ∙ ap (has_by by) (sym (works_are j ∙ cond-true (is_here id j) seen.opens (works_at old j) here)))
        (λ off.
        turns by j ∙ cond-false (is_here id j) (came before seen.opens by (left before seen.opens by (is_offered old.offers by j))) (is_offered old.offers by j) off
        ∙ pooled by j ∙ ap (has_by by) (sym (works_are j ∙ cond-false (is_here id j) seen.opens (works_at old j) off)))

    pub put_seen : SetsFront old.marks m id seen.suspended → SetsFront old.runs r id seen.run → PutsSeen old new id seen
    put_seen marks runs = record {
      places = record {
        works = works_are;
        kept = λ j off there. puts.kept j off (ap is_some (elsewhere j off) ∙ there);
        here = puts.here;
      };
      marks = marks;
      runs = runs;
      pooled = pooled_still;
      people = refl;
    }
