-- A specification that is found under a name, and a name under which none is; and trees at its places.
use Rattle.std.proofs.Common.{◌≡◌, inl, inr, ℕ, List, [], true, Option, None, Some, sym, ap, subst, ◌∙◌}
use Rattle.std.specs.Borrow.{Bor}
use Rattle.std.specs.Prelude.{MatchOption, is_some, slice_get}
use Rattle.yw_library.proofs.NamedLemmas.{Looked, found_in, get-map_of, looked}
use Rattle.yw_library.specs.Holdings.{Holdings, IsKept, spec_name, state_of, with_holdings, with_library}
use Rattle.yw_library.specs.Numbers.{NoneNamed}
use Rattle.yw_trees.proofs.HasOwner.{none_stands}
use Rattle.yw_trees.proofs.PlaceLemmas.{in_its_spec, may_stand}
use Rattle.yw_trees.proofs.Rules.{at_place, nothing_at}
use Rattle.yw_trees.specs.Owners.{IsNamed, Owns, may_own, owner_in, spec_number}
use Rattle.yw_trees.specs.Placed.{AreOwned, rules_for}
use Rattle.yw_trees.specs.declared.owner.Owner.{Owner}
use Rattle.yw_spec.specs.declared.spec.Spec.{Spec}
use Rattle.yw_state.proofs.Tests.{never, nowhere, some_same}
use Rattle.yw_state.specs.Judged.{is_tree_place, rules_at}
use Rattle.yw_state.specs.Map.{get, has_key}
use Rattle.yw_state.specs.State.{State}
use Rattle.yw_state.specs.declared.loaded.Loaded.{Loaded}
use Rattle.yw_state.specs.declared.tree.TreePlace.{TreePlace}

-- ---- by name

abbrev itself : Loaded → Loaded
itself l = l

found_so : (known : Holdings) (name : List ℕ) (o : Option Loaded) → get (state_of known).specs name ≡ o → found_in spec_name itself known.specs name ≡ o
unfolding with_library
found_so known name o e = sym (get-map_of spec_name itself known.specs name) ∙ e

named_by : (known : Holdings) (name : List ℕ) (l : Loaded) → get (state_of known).specs name ≡ Some l → Looked spec_name itself known.specs name
    → l.spec.name ≡ name
named_by known name l e (inl missing) = nowhere (sym missing.is ∙ found_so known name (Some l) e)
named_by known name l e (inr first) =
    ap (λ (x : Loaded). x.spec.name) (some_same l first.one (sym (found_so known name (Some l) e) ∙ first.is)) ∙ first.has

-- what is found under a name has it
pub kept_named : (known : Holdings) (name : List ℕ) (spec : Spec) (number : ℕ) → IsKept known name spec number → spec.name ≡ name
kept_named known name spec number kept = named_by known name (record { text = kept.text; spec = spec }) kept.kept (looked spec_name itself known.specs name)

missing_by : (known : Holdings) (name : List ℕ) → get (state_of known).specs name ≡ None → Looked spec_name itself known.specs name
    → NoneNamed spec_name known.specs name
missing_by known name e (inl missing) = missing.none
missing_by known name e (inr first) = nowhere (sym (found_so known name None e) ∙ first.is)

-- a name under which none is found is no one's
pub none_named : (known : Holdings) (name : List ℕ) → get (state_of known).specs name ≡ None → NoneNamed spec_name known.specs name
none_named known name e = missing_by known name e (looked spec_name itself known.specs name)

-- whether one is found is whether one is loaded
pub is_key : (known : Holdings) (name : List ℕ) (found : Option (Bor Spec × ℕ))
    → MatchOption found (get (state_of known).specs name ≡ None) (λ e. IsKept known name e.0.now e.1) → is_some found ≡ has_key (state_of known).specs name
is_key known name None none = sym (ap is_some none)
is_key known name (Some e) kept = sym (ap is_some kept.kept)

-- ---- where no tree stands, and where one may

module _ (known : Holdings) (owned : AreOwned known.specs known.rules) (p : TreePlace) where
  -- the rules by numbers stand at the place that is named after them
  pub rules_here : (owner : Owner) → IsNamed known.specs owner p → (s : State) → rules_at (with_holdings s known) p ≡ rules_for owner p.kind known.rules
  rules_here owner is s = at_place known.specs owned.apart owner p is known.rules owned.owned

  -- at a place of a specification that isn't loaded
  pub none_of_spec : get (state_of known).specs p.spec ≡ None → (s : State) → rules_at (with_holdings s known) p ≡ []
  none_of_spec none s =
      nothing_at known.specs p
      (λ owner o. none_named known p.spec none (spec_number owner) o.is.loaded o.is.numbered o.is.named)
      known.rules owned.owned

  module _ (spec : Spec) (number : ℕ) (kept : IsKept known p.spec spec number) where
    abbrev its_text : Loaded
    its_text = record { text = kept.text; spec = spec }

    stands_in : (owner : Owner) → Owns known.specs owner p → is_tree_place spec p ≡ true
    stands_in owner o =
        let names : o.is.loaded.spec.name ≡ spec.name = o.is.named ∙ sym (kept_named known p.spec spec number kept) in
        let numbers : spec_number owner ≡ number = owned.apart (spec_number owner) number o.is.loaded its_text o.is.numbered kept.stands names in
        let loaded : o.is.loaded ≡ its_text = some_same o.is.loaded its_text (sym o.is.numbered ∙ ap (slice_get known.specs) numbers ∙ kept.stands) in
        ap (λ (l : Loaded). is_tree_place l.spec p) (sym loaded) ∙ o.may

    -- at what is no place of one that is
    pub none_at_place : may_own number spec p ≡ None → (s : State) → rules_at (with_holdings s known) p ≡ []
    none_at_place none s =
        nothing_at known.specs p (λ owner o. never (sym (none_stands number spec p none) ∙ stands_in owner o)) known.rules owned.owned

-- ---- what is named at a place

abbrev pub named_here : (known : Holdings) (p : TreePlace) (spec : Spec) (number : ℕ) (kept : IsKept known p.spec spec number) (owner : Owner)
    → may_own number spec p ≡ Some owner
    → IsNamed known.specs owner p
named_here known p spec number kept owner may = record {
  loaded = record { text = kept.text; spec = spec };
  numbered = ap (slice_get known.specs) (in_its_spec number spec p owner (may_stand number spec p owner may).1) ∙ kept.stands;
  named = kept_named known p.spec spec number kept;
  here = subst (λ k. owner_in k spec p ≡ Some owner) (sym (in_its_spec number spec p owner (may_stand number spec p owner may).1))
      (may_stand number spec p owner may).1;
}
