-- Where a rule can stand, and what it breaks else, by what is found on the way.
use Rattle.std.proofs.Common.{◌≡◌, inl, ℕ, List, true, false, Option, None, Some, Result, Ok, Err, refl, sym, subst}
use Rattle.std.specs.Prelude.{IfOk, is_some}
use Rattle.std.specs.declared.alloc.AllocError.{AllocError}
use Rattle.yw_expr.specs.Parsing.{MeansOr}
use Rattle.yw_expr.specs.Tree.{Tree}
use Rattle.yw_expr.specs.declared.fault.ExprFault.{ExprFault}
use Rattle.yw_expr.specs.declared.fault.ExprFault.TheVariants as exprs
use Rattle.yw_expr.specs.declared.scope.Binding.{Binding}
use Rattle.yw_library.proofs.KnownSpecs.{named_here}
use Rattle.yw_library.proofs.Refusing as refusing
use Rattle.yw_library.proofs.ScopeLemmas.{same_scope}
use Rattle.yw_library.specs.Accepts.{IfRefused}
use Rattle.yw_library.specs.Adding.{AlwaysRefuses, HasRoom, command_of, side_rule}
use Rattle.yw_library.specs.Conditions.{IsFault, IsSaid, Misspells}
use Rattle.yw_library.specs.Holdings.{Holdings, IsKept, state_of, with_holdings}
use Rattle.yw_library.specs.Scopes.{scope_of}
use Rattle.yw_library.specs.declared.fault.LibraryFault.{LibraryFault}
use Rattle.yw_library.specs.declared.fault.LibraryFault.TheVariants as faults
use Rattle.yw_library.specs.declared.trees.Room.{Room}
use Rattle.yw_library.specs.declared.trees.Wanted.{Wanted}
use Rattle.yw_trees.proofs.HasOwner.{none_stands}
use Rattle.yw_trees.proofs.PlaceLemmas.{may_stand}
use Rattle.yw_trees.specs.Owners.{IsNamed, may_own}
use Rattle.yw_trees.specs.Placed.{AreOwned, Placed, links_for}
use Rattle.yw_trees.specs.declared.owner.Owner.{Owner}
use Rattle.yw_texts.specs.Texts.{IsMisspelt, ReadsCondition, reader}
use Rattle.yw_rdr.specs.Attached.{IfFault}
use Rattle.yw_rdr.specs.declared.fault.RdrFault.{RdrFault}
use Rattle.yw_spec.specs.declared.spec.Spec.{Spec}
use Rattle.yw_state.specs.Broken.{Breaks, placeless}
use Rattle.yw_state.specs.Map.{get}
use Rattle.yw_state.specs.NewRule.{may_conclude, tree_scope}
use Rattle.yw_state.specs.declared.loaded.Loaded.{Loaded}
use Rattle.yw_state.specs.declared.rule.Rule.{Rule}
use Rattle.yw_state.specs.declared.rule.Rule.TheVariants as rules
use Rattle.yw_state.specs.declared.tree.Conclusion.{Conclusion}
use Rattle.yw_state.specs.declared.tree.TreePlace.{TreePlace}

-- ---- faults of a text

misspelt_by : (text : List ℕ) (scope : List Binding) (fault : ExprFault) (at : List ℕ) → MeansOr text scope (Err fault) → IsSaid fault at
    → IsMisspelt text scope at
misspelt_by text scope (exprs.Lex n) at means said = record { fault = exprs.Lex n; means = means; place = said }
misspelt_by text scope exprs.Deep at means said = record { fault = exprs.Deep; means = means; place = said }
misspelt_by text scope (exprs.Syntax n) at means said = record { fault = exprs.Syntax n; means = means; place = said }
misspelt_by text scope (exprs.UnknownName n) at means said = record { fault = exprs.UnknownName n; means = means; place = said }
misspelt_by text scope (exprs.Types n) at means said = record { fault = exprs.Types n; means = means; place = said }
misspelt_by text scope exprs.Memory at means said = absurd said

-- what is said of a fault that is found is why the rule is refused
pub refused_by : (text : List ℕ) (scope : List Binding) (said : Result (List ℕ) AllocError) (fault : LibraryFault) → IsFault said fault
    → IfOk said (λ at. ReadsCondition text scope (Err at)) → IfRefused {A = Tree} (Err fault) (Misspells text scope)
refused_by text scope (Ok at) fault is reads =
    subst (λ f. IfRefused {A = Tree} (Err f) (Misspells text scope)) (sym is) (record { at = at; said = refl; misspelt = reads })
refused_by text scope (Err e) fault is reads = subst (λ f. IfRefused {A = Tree} (Err f) (Misspells text scope)) (sym is) tt

pub misread : (text : List ℕ) (scope : List Binding) (fault : ExprFault) (said : Result (List ℕ) AllocError) → MeansOr text scope (Err fault)
    → IfOk said (IsSaid fault)
    → IfOk said (λ at. ReadsCondition text scope (Err at))
misread text scope fault (Ok at) means said = inl (misspelt_by text scope fault at means said)
misread text scope fault (Err e) means said = tt

-- ---- on the way to a place

module _ (known : Holdings) (w : Wanted) (c : Conclusion) where
  abbrev p : TreePlace
  p = w.place.now

  abbrev Refuses : Rule → Type 0
  Refuses rule = AlwaysRefuses known (command_of w c) (Some (placeless rule))

  pub refused_for : (fault : LibraryFault) (broken : Rule) → fault ≡ faults.Refused (placeless broken) → Refuses broken
      → IfRefused {A = Room} (Err fault) (λ refusal. AlwaysRefuses known (command_of w c) (Some refusal))
  refused_for fault broken is refuses = subst (λ f. IfRefused {A = Room} (Err f) (λ refusal. AlwaysRefuses known (command_of w c) (Some refusal)))
      (sym is) refuses

  pub no_spec : get (state_of known).specs p.spec ≡ None → Refuses rules.UnknownSpec
  no_spec none = λ s. refusing.no_spec s known p w.at w.side w.when.now c none

  module _ (spec : Spec) (number : ℕ) (kept : IsKept known p.spec spec number) where
    abbrev its_text : Loaded
    its_text = record { text = kept.text; spec = spec }

    pub no_place : may_own number spec p ≡ None → Refuses rules.UnknownPlace
    no_place none = λ s. refusing.not_there s known p w.at w.side w.when.now c its_text kept.kept (none_stands number spec p none)

    module _ (owned : AreOwned known.specs known.rules) (owner : Owner) (may : may_own number spec p ≡ Some owner) (fault : Option RdrFault)
        (asked : IfFault fault (links_for owner p.kind known.rules) w.at w.side) where
      abbrev named : IsNamed known.specs owner p
      named = named_here known p spec number kept owner may

      pub bad_side : (broken : Rule) → side_rule fault ≡ Some broken → Refuses broken
      bad_side broken e = λ s.
          refusing.side_breaks s known p w.at w.side w.when.now c its_text kept.kept owned owner named
          (may_stand number spec p owner may).0 fault broken asked e

      module _ (free : side_rule fault ≡ None) where
        side_free : refusing.IsFree (links_for owner p.kind known.rules) w.at w.side (is_some fault)
        side_free = refusing.is_free (links_for owner p.kind known.rules) w.at w.side fault asked free

        scopes : tree_scope spec p ≡ scope_of spec owner
        scopes = same_scope number spec p owner (may_stand number spec p owner may).1

        pub bad_text : (answer : LibraryFault) → IfRefused {A = Tree} (Err answer) (Misspells w.when.now (scope_of spec owner))
            → IfRefused {A = Room} (Err answer) (λ refusal. AlwaysRefuses known (command_of w c) (Some refusal))
        bad_text (faults.Refused refusal) m = λ s.
            subst (λ r. Breaks reader (with_holdings s known) (command_of w c) (Some r)) (sym m.said)
            (refusing.misspelt s known p w.at w.side w.when.now c its_text kept.kept owned owner named
            (may_stand number spec p owner may).0 side_free.there
            side_free.free m.at (subst (λ scope. ReadsCondition w.when.now scope (Err m.at)) (sym scopes) m.misspelt))
        bad_text faults.Memory m = tt

        module _ (test : Tree) (reads : ReadsCondition w.when.now (scope_of spec owner) (Ok test)) where
          spells : ReadsCondition w.when.now (tree_scope spec p) (Ok test)
          spells = subst (λ scope. ReadsCondition w.when.now scope (Ok test)) (sym scopes) reads

          pub bad_conclusion : may_conclude (state_of known) p c ≡ false → Refuses rules.BadConclusion
          bad_conclusion none = λ s.
              refusing.bad_conclusion s known p w.at w.side w.when.now c its_text kept.kept owned owner named
              (may_stand number spec p owner may).0 side_free.there
              side_free.free test spells none

          module _ (can : may_conclude (state_of known) p c ≡ true) where
            pub full : is_some fault ≡ true → Refuses rules.Numbers
            full many = λ s.
                refusing.full s known p w.at w.side w.when.now c its_text kept.kept owned owner named
                (may_stand number spec p owner may).0 side_free.there
                side_free.free test spells can (side_free.many many)

            pub has_room : is_some fault ≡ false → HasRoom known w c (record { owner = owner; test = test })
            has_room few = record {
              owned = owned;
              is = named_here known p spec number kept owner may;
              called = kept.kept;
              may = (may_stand number spec p owner may).0;
              takes = side_free.few few;
              spells = spells;
              concludes = can;
            }

-- what trees answer, that are those of the library
pub asked_so : (known : Holdings) (w : Wanted) (c : Conclusion) (owner : Owner) (trees : List Placed) (fault : Option RdrFault) → trees ≡ known.rules
    → IfFault fault (links_for owner w.place.now.kind trees) w.at w.side
    → IfFault fault (links_for owner w.place.now.kind known.rules) w.at w.side
asked_so known w c owner trees fault same asked =
    subst (λ ts. IfFault fault (links_for owner w.place.now.kind ts) w.at w.side) same asked
