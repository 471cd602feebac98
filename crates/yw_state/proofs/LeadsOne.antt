-- An event leads to one state at most, and so do events in turn.
use Rattle.std.specs.Prelude.{◌≡◌, List, [], ◌∷◌, Result, Ok, Option, Some}
use Rattle.std.proofs.Common.{sym, ◌∙◌, ap, subst}
use Rattle.yw_spec.specs.declared.spec.Spec.{Spec}
use Rattle.yw_state.specs.Events.{Leads, LeadAll, after}
use Rattle.yw_state.specs.NewRule.{tree_scope}
use Rattle.yw_state.specs.State.{State}
use Rattle.yw_state.specs.Texts.{EventText, IsOne, Reader, Said, TextSays, a_spec, a_test, condition_text, no_text, spec_text, text_of}
use Rattle.yw_state.specs.declared.event.Event.{Event}

same_ok : {A E : Type 0} (x y : A) → ◌≡◌ {A = Result A E} (Ok x) (Ok y) → x ≡ y
same_ok x y e = cc

same_some : {A : Type 0} (x y : A) → ◌≡◌ {A = Option A} (Some x) (Some y) → x ≡ y
same_some x y e = cc

module _ (reader : Reader) (one : IsOne reader) where
  -- what a text says is one
  says_one : (s : State) (t : EventText) (a b : Said) → TextSays reader s t a → TextSays reader s t b → a ≡ b
  says_one s no_text a b p q = p ∙ sym q
  says_one s (spec_text text) a b p q = p.2 ∙ ap a_spec (same_ok p.0 q.0 (one.spec text (Ok p.0) (Ok q.0) p.1 q.1)) ∙ sym q.2
  says_one s (condition_text place when) a b p q =
      let specs : q.0 ≡ p.0 = same_some q.0 p.0 (sym q.2 ∙ p.2) in
      let other = subst (λ (spec : Spec). reader.condition when (tree_scope spec place) (Ok q.1)) specs q.3 in
      p.4 ∙ ap a_test (same_ok p.1 q.1 (one.condition when (tree_scope p.0 place) (Ok p.1) (Ok q.1) p.3 other)) ∙ sym q.4

  pub leads_one : (s : State) (e : Event) (t u : State) → Leads reader s e t → Leads reader s e u → t ≡ u
  leads_one s e t u a b = a.then ∙ ap (after s e) (says_one s (text_of e) a.said b.said a.says b.says) ∙ sym b.then

  pub lead_all_one : (es : List Event) (s t u : State) → LeadAll reader s es t → LeadAll reader s es u → t ≡ u
  lead_all_one [] s t u a b = a ∙ sym b
  lead_all_one (e ∷ es) s t u (m, a, more) (n, b, others) =
      let same : n ≡ m = leads_one s e n m b a in
      lead_all_one es m t u more (subst (λ (k : State). LeadAll reader k es u) same others)
