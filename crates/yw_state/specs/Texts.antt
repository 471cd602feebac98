-- What the text of an event says. Which texts are specifications and which spell conditions is said elsewhere: here it is a relation
-- that is given, so that what events do stands on no way of writing. Our own.
use Rattle.std.specs.Prelude.{◌≡◌, ℕ, List, Some, Result, Ok}
use Rattle.yw_expr.specs.Tree.{Tree}
use Rattle.yw_expr.specs.declared.scope.Binding.{Binding}
use Rattle.yw_spec.specs.declared.spec.Spec.{Spec}
use Rattle.yw_state.specs.NewRule.{tree_scope}
use Rattle.yw_state.specs.State.{State, spec_called}
use Rattle.yw_state.specs.declared.event.Event.{Event}
use Rattle.yw_state.specs.declared.event.Event.TheVariants as events
use Rattle.yw_state.specs.declared.rule.Refusal.{Refusal}
use Rattle.yw_state.specs.declared.tree.TreePlace.{TreePlace}

-- A text is a specification, or has a first fault; and over some names it is a condition that is true or false, or has a fault, which
-- is named with its place.
pub record Reader : Type 1 where
  pub spec : List ℕ → Result Spec Refusal → Type 0
  pub condition : List ℕ → List Binding → Result Tree (List ℕ) → Type 0

-- a text is read in one way
pub record IsOne (reader : Reader) : Type 0 where
  pub spec : (text : List ℕ) (a b : Result Spec Refusal) → reader.spec text a → reader.spec text b → a ≡ b
  pub condition : (text : List ℕ) (scope : List Binding) (a b : Result Tree (List ℕ)) → reader.condition text scope a → reader.condition text scope b → a ≡ b

-- what the text of an event says; most events have none
pub data Said : Type 0 where
  nothing : Said
  a_spec : (spec : Spec) → Said
  a_test : (test : Tree) → Said

-- The text of an event: a specification's, a condition's in a tree, or none.
pub data EventText : Type 0 where
  no_text : EventText
  spec_text : (text : List ℕ) → EventText
  condition_text : (p : TreePlace) (when : List ℕ) → EventText

abbrev pub text_of : Event → EventText
text_of (events.Load name text) = spec_text text
text_of (events.AddRule p at side when conclusion number) = condition_text p when
text_of e = no_text

abbrev pub TextSays : Reader → State → EventText → Said → Type 0
TextSays reader s no_text said = said ≡ nothing
TextSays reader s (spec_text text) said = (spec : Spec) × reader.spec text (Ok spec) × (said ≡ a_spec spec)
TextSays reader s (condition_text p when) said =
    (spec : Spec) × (test : Tree) × (spec_called s p.spec ≡ Some spec) × reader.condition when (tree_scope spec p) (Ok test) × (said ≡ a_test test)

-- the event's text, if it has one, says this
abbrev pub Says : Reader → State → Event → Said → Type 0
Says reader s e = TextSays reader s (text_of e)
