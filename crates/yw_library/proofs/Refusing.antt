-- Which rule a new rule of a tree breaks first, from what is found of it in the trees and the specifications.
use Rattle.std.proofs.Common.{◌≡◌, ◌≤◌, ◌<◌, ℕ, List, Bool, true, false, Option, None, Some, Ok, Err, sym, ap, subst, ◌∙◌, length}
use Rattle.std.proofs.lemmas.Bool.{le-ltb, lt-ltb}
use Rattle.std.specs.Prelude.{◌&&◌, is_none, is_some, not, nat_lt, option_map}
use Rattle.yw_library.proofs.Concluding.{concludes}
use Rattle.yw_library.proofs.RuleTable as rows
use Rattle.yw_library.proofs.RuleTable.{table}
use Rattle.yw_library.proofs.KnownSpecs.{rules_here}
use Rattle.yw_library.proofs.SideLemmas.{as_many, as_taken}
use Rattle.yw_library.specs.Adding.{a_command, side_rule}
use Rattle.yw_library.specs.Holdings.{Holdings, state_of, with_holdings, with_library}
use Rattle.yw_trees.specs.Owners.{IsNamed}
use Rattle.yw_trees.specs.Placed.{AreOwned, links_for, rules_for}
use Rattle.yw_trees.specs.declared.owner.Owner.{Owner}
use Rattle.yw_texts.proofs.ReadingOnce.{reads_one}
use Rattle.yw_texts.specs.Texts.{ReadsCondition, reader}
use Rattle.yw_rdr.specs.Attached.{IfFault, Takes}
use Rattle.yw_rdr.specs.Rules as rdr
use Rattle.yw_rdr.specs.declared.fault.RdrFault.{RdrFault}
use Rattle.yw_rdr.specs.declared.fault.RdrFault.TheVariants as faults
use Rattle.yw_expr.specs.Tree.{Tree}
use Rattle.yw_spec.specs.declared.spec.Spec.{Spec}
use Rattle.yw_state.proofs.Tests.{never, nowhere, some_same}
use Rattle.yw_state.specs.Broken.{Breaks, First, checks, placed, placeless}
use Rattle.yw_state.specs.Judged as judged
use Rattle.yw_state.specs.Judged.{is_tree_place}
use Rattle.yw_state.specs.Map.{get}
use Rattle.yw_state.specs.NewRule.{has_room, is_side, is_taken, may_conclude, most_rules, tree_scope}
use Rattle.yw_state.specs.Options.{is_some_and}
use Rattle.yw_state.specs.State.{State, spec_called}
use Rattle.yw_state.specs.declared.loaded.Loaded.{Loaded}
use Rattle.yw_state.specs.declared.rule.Refusal.{Refusal}
use Rattle.yw_state.specs.declared.rule.Rule.{Rule}
use Rattle.yw_state.specs.declared.rule.Rule.TheVariants as rules
use Rattle.yw_state.specs.declared.tree.Conclusion.{Conclusion}
use Rattle.yw_state.specs.declared.tree.TreePlace.{TreePlace}

module _ (s : State) (known : Holdings) (p : TreePlace) (at : ℕ) (side : Bool) (when : List ℕ) (c : Conclusion) where
  abbrev u : State
  u = with_holdings s known

  abbrev Misspelt : List ℕ → Type 0
  Misspelt text = (spec : Spec) × (spec_called u p.spec ≡ Some spec) × reader.condition when (tree_scope spec p) (Err text)

  abbrev no_place : Bool
  no_place = not (is_some_and (spec_called u p.spec) (λ spec. is_tree_place spec p) && is_side (length (judged.rules_at u p)) at side)

  abbrev rows_are : Option Refusal → Type 0
  rows_are found =
      First (table (is_none (spec_called u p.spec)) no_place (is_taken (judged.rules_at u p) at side) Misspelt (not (may_conclude u p c))
      (not (has_room u p))) found

  abbrev BreaksHere : Option Refusal → Type 0
  BreaksHere found = Breaks reader u (a_command p at side when c) found

  -- the table is the definitions' own
  pub as_table : (found : Option Refusal) → rows_are found → BreaksHere found
  unfolding checks
  as_table found f = f

  pub of_table : (found : Option Refusal) → BreaksHere found → rows_are found
  unfolding checks
  of_table found f = f

  pub no_spec : get (state_of known).specs p.spec ≡ None → BreaksHere (Some (placeless rules.UnknownSpec))
  unfolding with_library
  no_spec none =
      as_table (Some (placeless rules.UnknownSpec))
      (rows.unknown_spec Misspelt _ _ _ _ _ (ap (λ (o : Option Loaded). is_none (option_map (λ (l : Loaded). l.spec) o)) none))

  module _ (l : Loaded) (called : get (state_of known).specs p.spec ≡ Some l) where
    pub spec_is : spec_called u p.spec ≡ Some l.spec
    unfolding with_library
    spec_is = ap (option_map (λ (x : Loaded). x.spec)) called

    there : is_none (spec_called u p.spec) ≡ false
    there = ap is_none spec_is

    pub not_there : is_tree_place l.spec p ≡ false → BreaksHere (Some (placeless rules.UnknownPlace))
    not_there none =
        as_table (Some (placeless rules.UnknownPlace))
        (rows.unknown_place Misspelt _ _ _ _ _ there
        (ap (λ (o : Option Spec). not (is_some_and o (λ spec. is_tree_place spec p) && is_side (length (judged.rules_at u p)) at side)) spec_is
        ∙ ap (λ b. not (b && is_side (length (judged.rules_at u p)) at side)) none))

    module _ (owned : AreOwned known.specs known.rules) (owner : Owner) (is : IsNamed known.specs owner p) (may : is_tree_place l.spec p ≡ true) where
      abbrev links : List rdr.Kept
      links = links_for owner p.kind known.rules

      pub rules_are : judged.rules_at u p ≡ rules_for owner p.kind known.rules
      rules_are = rules_here known owned p owner is s

      pub count_is : length (judged.rules_at u p) ≡ length links
      count_is = ap length rules_are ∙ as_many (rules_for owner p.kind known.rules)

      pub taken_is : is_taken (judged.rules_at u p) at side ≡ is_taken (rdr.rules_of links) at side
      taken_is = ap (λ rs. is_taken rs at side) rules_are ∙ as_taken (rules_for owner p.kind known.rules) at side

      place_is : no_place ≡ not (is_side (length links) at side)
      place_is =
          ap (λ (o : Option Spec). not (is_some_and o (λ spec. is_tree_place spec p) && is_side (length (judged.rules_at u p)) at side)) spec_is
          ∙ ap (λ b. not (b && is_side (length (judged.rules_at u p)) at side)) may
          ∙ ap (λ n. not (is_side n at side)) count_is

      no_side : is_side (length links) at side ≡ false → BreaksHere (Some (placeless rules.UnknownPlace))
      no_side none = as_table (Some (placeless rules.UnknownPlace)) (rows.unknown_place Misspelt _ _ _ _ _ there (place_is ∙ ap not none))

      module _ (has_side : is_side (length links) at side ≡ true) where
        placed_right : no_place ≡ false
        placed_right = place_is ∙ ap not has_side

        side_is_taken : is_taken (rdr.rules_of links) at side ≡ true → BreaksHere (Some (placeless rules.PlaceTaken))
        side_is_taken taken = as_table (Some (placeless rules.PlaceTaken)) (rows.side_taken Misspelt _ _ _ _ _ there placed_right (taken_is ∙ taken))

        module _ (free : is_taken (rdr.rules_of links) at side ≡ false) where
          pub misspelt : (text : List ℕ) → ReadsCondition when (tree_scope l.spec p) (Err text) → BreaksHere (Some (placed rules.BadExpr text))
          misspelt text reads =
              as_table (Some (placed rules.BadExpr text))
              (rows.misspelt Misspelt _ _ _ _ _ there placed_right (taken_is ∙ free) text (l.spec, spec_is, reads))

          module _ (test : Tree) (reads : ReadsCondition when (tree_scope l.spec p) (Ok test)) where
            spelt : (text : List ℕ) → Misspelt text → ⊥
            spelt text (spec, is_it, fault) =
                let same : l.spec ≡ spec = some_same l.spec spec (sym spec_is ∙ is_it) in
                let one = reads_one.condition when (tree_scope l.spec p) (Ok test) (Err text) reads
                (subst (λ (x : Spec). reader.condition when (tree_scope x p) (Err text)) (sym same) fault) in
                cc

            pub bad_conclusion : may_conclude (state_of known) p c ≡ false → BreaksHere (Some (placeless rules.BadConclusion))
            bad_conclusion none =
                as_table (Some (placeless rules.BadConclusion))
                (rows.bad_conclusion Misspelt spelt _ _ _ _ _ there placed_right (taken_is ∙ free) (ap not (concludes s known p c ∙ none)))

            module _ (can : may_conclude (state_of known) p c ≡ true) where
              pub full : most_rules ≤ length links → BreaksHere (Some (placeless rules.Numbers))
              full many =
                  as_table (Some (placeless rules.Numbers))
                  (rows.full Misspelt spelt _ _ _ _ _ there placed_right (taken_is ∙ free) (ap not (concludes s known p c ∙ can))
                  (ap (λ n. not (nat_lt n most_rules)) count_is ∙ ap not (le-ltb (length links) most_rules many)))

              pub has_place : length links < most_rules → has_room u p ≡ true
              has_place few = ap (λ n. nat_lt n most_rules) count_is ∙ lt-ltb (length links) most_rules few

              pub unbroken : length links < most_rules → BreaksHere None
              unbroken few =
                  as_table None
                  (rows.none Misspelt spelt _ _ _ _ _ there placed_right (taken_is ∙ free) (ap not (concludes s known p c ∙ can))
                  (ap not (has_place few)))

      -- ---- what a tree answers of a side

      pub side_breaks : (fault : Option RdrFault) (broken : Rule) → IfFault fault links at side → side_rule fault ≡ Some broken
          → BreaksHere (Some (placeless broken))
      side_breaks None broken f e = nowhere e
      side_breaks (Some faults.UnknownPlace) broken f e = subst (λ r. BreaksHere (Some (placeless r))) (some_same rules.UnknownPlace broken e) (no_side f)
      side_breaks (Some faults.PlaceTaken) broken f e = subst (λ r. BreaksHere (Some (placeless r))) (some_same rules.PlaceTaken broken e)
          (side_is_taken f.0 f.1)
      side_breaks (Some faults.Many) broken f e = nowhere e
      side_breaks (Some faults.Memory) broken f e = nowhere e

-- where a side is there and free, the tree may be full alone
pub record IsFree (ks : List rdr.Kept) (at : ℕ) (side full : Bool) : Type 0 where
  pub there : is_side (length ks) at side ≡ true
  pub free : is_taken (rdr.rules_of ks) at side ≡ false
  pub many : full ≡ true → most_rules ≤ length ks
  pub few : full ≡ false → Takes ks at side

pub is_free : (ks : List rdr.Kept) (at : ℕ) (side : Bool) (fault : Option RdrFault) → IfFault fault ks at side → side_rule fault ≡ None
    → IsFree ks at side (is_some fault)
is_free ks at side None f e = record { there = f.there; free = f.free; many = λ x. never x; few = λ x. f }
is_free ks at side (Some faults.UnknownPlace) f e = nowhere (sym e)
is_free ks at side (Some faults.PlaceTaken) f e = nowhere (sym e)
is_free ks at side (Some faults.Many) f e = record { there = f.0; free = f.1; many = λ x. f.2; few = λ x. never (sym x) }
is_free ks at side (Some faults.Memory) f e = absurd f
