-- What an event that adds a rule leads to, and when it leads nowhere.
use Rattle.std.proofs.Common.{◌≡◌, ◌+◌, ◌++◌, ◌∷◌, [], ℕ, List, Bool, true, false, Option, None, Some, Ok, Err, refl, sym, ap, subst, ◌∙◌, length}
use Rattle.std.proofs.lemmas.Bool.{and_from, and_parts, eq-eqb, eqb-true, not-true}
use Rattle.std.specs.Prelude.{◌&&◌, ◌==◌, is_none, not}
use Rattle.yw_expr.specs.Tree.{Tree}
use Rattle.yw_library.proofs.Concluding.{concludes}
use Rattle.yw_library.proofs.Refusing as refusing
use Rattle.yw_library.proofs.RuleTable as rows
use Rattle.yw_library.proofs.KnownSpecs.{rules_here}
use Rattle.yw_library.specs.Adding.{AlwaysGrows, AlwaysRefuses, HasRoom, IsGrown, NeverGrows, a_command, command_of, rule_of}
use Rattle.yw_library.specs.Holdings.{Holdings, with_holdings, with_library, with_tree_rule}
use Rattle.yw_trees.proofs.Rules.{added_there}
use Rattle.yw_trees.specs.Placed.{rules_for, rules_of}
use Rattle.yw_library.specs.declared.trees.Room.{Room}
use Rattle.yw_library.specs.declared.trees.Wanted.{Wanted}
use Rattle.yw_texts.proofs.ReadingOnce.{reads_one}
use Rattle.yw_texts.specs.Texts.{reader}
use Rattle.yw_spec.specs.declared.spec.Spec.{Spec}
use Rattle.yw_state.proofs.OneRule.{command-breaks-one}
use Rattle.yw_state.proofs.Tests.{some_same}
use Rattle.yw_state.specs.Allowed.{Allowed, allows, fits_tree}
use Rattle.yw_state.specs.Broken.{Breaks, checks}
use Rattle.yw_state.specs.Events.{Leads, after}
use Rattle.yw_state.specs.Judged as judged
use Rattle.yw_state.specs.Judged.{is_tree_place, place_key}
use Rattle.yw_state.specs.Map.{insert}
use Rattle.yw_state.specs.NewRule.{has_room, is_side, is_taken, may_conclude, tree_scope}
use Rattle.yw_state.specs.Options.{is_some_and}
use Rattle.yw_state.specs.RuleTree.{TreeRule}
use Rattle.yw_state.specs.State.{State, spec_called}
use Rattle.yw_state.specs.Texts.{a_test}
use Rattle.yw_state.specs.declared.event.Event.TheVariants as events
use Rattle.yw_state.specs.declared.rule.Refusal.{Refusal}
use Rattle.yw_state.specs.declared.tree.Conclusion.{Conclusion}
use Rattle.yw_state.specs.declared.tree.TreePlace.{TreePlace}

-- ---- an event that leads on

module _ (u t : State) (p : TreePlace) (at : ℕ) (side : Bool) (when : List ℕ) (c : Conclusion) (node : ℕ)
    (leads : Leads reader u (events.AddRule p at side when c node) t) where
  -- what it is allowed by
  record IsAllowed : Type 0 where
    pub spec : Spec
    pub called : spec_called u p.spec ≡ Some spec
    pub test : Tree
    pub spells : reader.condition when (tree_scope spec p) (Ok test)
    pub place : is_tree_place spec p ≡ true
    pub side_there : is_side (length (judged.rules_at u p)) at side ≡ true
    pub free : not (is_taken (judged.rules_at u p) at side) ≡ true
    pub can : may_conclude u p c ≡ true
    pub room : has_room u p ≡ true
    pub numbered : (node == length (judged.rules_at u p) + 1) ≡ true

  is_allowed : IsAllowed
  unfolding allows
  is_allowed =
      let (spec, test, called, spells, said_is) = leads.says in
      let allowed = subst (λ x. Allowed u (events.AddRule p at side when c node) x) said_is leads.allowed in
      let fits = is_some_and (spec_called u p.spec) (fits_tree u p at side) in
      let numbered = and_parts (fits && may_conclude u p c && has_room u p) (node == length (judged.rules_at u p) + 1) allowed.0 in
      let room = and_parts (fits && may_conclude u p c) (has_room u p) numbered.0 in
      let may = and_parts fits (may_conclude u p c) room.0 in
      let fit : fits_tree u p at side spec ≡ true = ap (λ o. is_some_and o (fits_tree u p at side)) (sym called) ∙ may.0 in
      let sides = and_parts (is_tree_place spec p && is_side (length (judged.rules_at u p)) at side) (not (is_taken (judged.rules_at u p) at side)) fit in
      let placed = and_parts (is_tree_place spec p) (is_side (length (judged.rules_at u p)) at side) sides.0 in
      record {
        spec = spec;
        called = called;
        test = test;
        spells = spells;
        place = placed.0;
        side_there = placed.1;
        free = sides.1;
        can = may.1;
        room = room.1;
        numbered = numbered.1;
      }

  pub leads_numbered : node ≡ length (judged.rules_at u p) + 1
  leads_numbered = eqb-true node (length (judged.rules_at u p) + 1) is_allowed.numbered

  abbrev Misspelt : List ℕ → Type 0
  Misspelt text = (spec : Spec) × (spec_called u p.spec ≡ Some spec) × reader.condition when (tree_scope spec p) (Err text)

  leads_spelt : (text : List ℕ) → Misspelt text → ⊥
  leads_spelt text (spec, is_it, fault) =
      let a = is_allowed in
      let same : a.spec ≡ spec = some_same a.spec spec (sym a.called ∙ is_it) in
      let one = reads_one.condition when (tree_scope a.spec p) (Ok a.test) (Err text) a.spells
      (subst (λ (x : Spec). reader.condition when (tree_scope x p) (Err text)) (sym same) fault) in
      cc

  leads_placed : not (is_some_and (spec_called u p.spec) (λ spec. is_tree_place spec p) && is_side (length (judged.rules_at u p)) at side) ≡ false
  leads_placed =
      let a = is_allowed in
      ap not (and_from _ _ (ap (λ (o : Option Spec). is_some_and o (λ spec. is_tree_place spec p)) a.called ∙ a.place) a.side_there)

  pub leads_unbroken : Breaks reader u (a_command p at side when c) None
  unfolding checks
  leads_unbroken =
      let a = is_allowed in
      rows.none Misspelt leads_spelt _ _ _ _ _ (ap is_none a.called) leads_placed (not-true (is_taken (judged.rules_at u p) at side) a.free)
      (ap not a.can) (ap not a.room)

-- a rule that breaks one leads nowhere
pub refused_never : (known : Holdings) (p : TreePlace) (at : ℕ) (side : Bool) (when : List ℕ) (c : Conclusion) (node : ℕ) (refusal : Refusal)
    → AlwaysRefuses known (a_command p at side when c) (Some refusal) → NeverGrows known (events.AddRule p at side when c node)
refused_never known p at side when c node refusal breaks s t leads =
    let u = with_holdings s known in
    let same = command-breaks-one reader reads_one u (a_command p at side when c) None (Some refusal) (leads_unbroken u t p at side when c node leads)
    (breaks s) in
    cc

-- ---- where there is room

module _ (known : Holdings) (w : Wanted) (c : Conclusion) (room : Room) (has : HasRoom known w c room) where
  abbrev p : TreePlace
  p = w.place.now

  -- the rules of the tree that it joins or begins
  abbrev its_rules : List TreeRule
  its_rules = rules_for room.owner p.kind known.rules

  -- the rule breaks none
  pub unbroken : (s : State) → Breaks reader (with_holdings s known) (command_of w c) None
  unbroken s =
      refusing.unbroken s known p w.at w.side w.when.now c has.is.loaded has.called has.owned room.owner has.is has.may has.takes.there has.takes.free
      room.test has.spells has.concludes has.takes.room

  module _ (s : State) where
    abbrev u : State
    u = with_holdings s known

    rules_are : judged.rules_at u p ≡ its_rules
    rules_are = rules_here known has.owned p room.owner has.is s

    spec_is : spec_called u p.spec ≡ Some has.is.loaded.spec
    spec_is = refusing.spec_is s known p w.at w.side w.when.now c has.is.loaded has.called

    fits : is_some_and (spec_called u p.spec) (fits_tree u p w.at w.side) ≡ true
    fits =
        let count = refusing.count_is s known p w.at w.side w.when.now c has.is.loaded has.called has.owned room.owner has.is has.may in
        let taken = refusing.taken_is s known p w.at w.side w.when.now c has.is.loaded has.called has.owned room.owner has.is has.may in
        ap (λ (o : Option Spec). is_some_and o (fits_tree u p w.at w.side)) spec_is
        ∙ and_from _ _ (and_from _ _ has.may (ap (λ n. is_side n w.at w.side) count ∙ has.takes.there)) (ap not (taken ∙ has.takes.free))

    leads_to : (node : ℕ) (t : State) → node ≡ length (judged.rules_at u p) + 1
        → t ≡ after u (events.AddRule p w.at w.side w.when.now c node) (a_test room.test)
        → Leads reader u (events.AddRule p w.at w.side w.when.now c node) t
    unfolding allows
    leads_to node t numbered then =
        let place = refusing.has_place s known p w.at w.side w.when.now c has.is.loaded has.called has.owned room.owner has.is has.may
        has.takes.there has.takes.free room.test has.spells has.concludes has.takes.room in
        record {
          said = a_test room.test;
          says = (has.is.loaded.spec, room.test, spec_is, has.spells, refl);
          allowed = (
            and_from _ _ (and_from _ _ (and_from _ _ fits (concludes s known p c ∙ has.concludes)) place)
                (eq-eqb node (length (judged.rules_at u p) + 1) numbered),
            tt,
          );
          then = then;
        }

    abbrev rule : TreeRule
    rule = rule_of w room.test c

    becomes : (node : ℕ) → with_holdings s (with_tree_rule known room.owner p rule)
        ≡ after u (events.AddRule p w.at w.side w.when.now c node) (a_test room.test)
    unfolding after with_library
    becomes node =
        ap (λ m. record (with_library s known) { rules = m })
        (added_there known.specs has.owned.apart room.owner p has.is rule known.rules has.owned.owned
        ∙ ap (λ rs. insert (rules_of known.rules) (place_key p) (rs ++ rule ∷ [])) (sym rules_are))

  pub grown_number : (new : Holdings) (node : ℕ) → IsGrown known new room.owner p (rule_of w room.test c) node → node ≡ length its_rules + 1
  grown_number new node grown = grown.numbered

  pub grows : (new : Holdings) (node : ℕ) → IsGrown known new room.owner p (rule_of w room.test c) node
      → AlwaysGrows known (events.AddRule p w.at w.side w.when.now c node) new
  grows new node grown s =
      leads_to s node (with_holdings s new) (grown.numbered ∙ ap (λ rs. length rs + 1) (sym (rules_are s)))
      (ap (with_holdings s) grown.grown ∙ becomes s node)

  -- another number than the next leads nowhere
  pub renumbered_never : (node : ℕ) → (length its_rules + 1 ≡ node → ⊥) → NeverGrows known (events.AddRule p w.at w.side w.when.now c node)
  renumbered_never node other s t leads =
      other (ap (λ rs. length rs + 1) (sym (rules_are s)) ∙ sym (leads_numbered (u s) t p w.at w.side w.when.now c node leads))
