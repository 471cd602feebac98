-- Each command breaks a first rule or none, and one that breaks none has an event. So none lacks an answer.
use Rattle.std.specs.Prelude.{◌≡◌, ℕ, Bool, true, false, List, [], ◌∷◌, Option, Some, None, Result, Ok, Err, refl}
use Rattle.std.proofs.Common.{⊎_elim, inl, inr}
use Rattle.yw_asked.proofs.CasesAsked.{advance_has_event, cancel_has_event, continue_has_event, launch_has_event, load_has_event, person_has_event, suspend_has_event}
use Rattle.yw_asked.proofs.ItemsAsked.{complete_has_event, start_has_event}
use Rattle.yw_asked.proofs.TasksAsked.{add_has_event, enter_has_event}
use Rattle.yw_asked.proofs.TreesAsked.{raise_has_event, rule_has_event}
use Rattle.yw_asked.proofs.Unbroken.{none_broken, some_of}
use Rattle.yw_asked.specs.Asked.{HasEvent}
use Rattle.yw_expr.specs.Tree.{Tree}
use Rattle.yw_texts.proofs.Lacking.{decided, follows, here}
use Rattle.yw_lines.specs.Meaning.{IsProper}
use Rattle.yw_lines.specs.Replies.{done_line, refused_line}
use Rattle.yw_model.specs.Run.{Entry}
use Rattle.yw_texts.specs.Lacking.{CannotLack}
use Rattle.yw_texts.specs.Texts.{reader}
use Rattle.yw_spec.specs.declared.spec.Spec.{Spec}
use Rattle.yw_state.specs.Broken.{Breaks, Check, First, checks, fact, fact_at, fault, placed, placeless, test, test_at}
use Rattle.yw_state.specs.NewRule.{tree_scope}
use Rattle.yw_state.specs.State.{State, spec_called}
use Rattle.yw_state.specs.Texts.{Reader}
use Rattle.yw_state.specs.Well.{IsWell}
use Rattle.yw_state.specs.declared.command.Command.{Command}
use Rattle.yw_state.specs.declared.command.Command.TheVariants as commands
use Rattle.yw_state.specs.declared.rule.Refusal.{Refusal}
use Rattle.yw_state.specs.declared.tree.Conclusion.{Conclusion}
use Rattle.yw_state.specs.declared.tree.TreePlace.{TreePlace}
use Rattle.yw_turns.proofs.Entries.{has_entry}
use Rattle.yw_turns.specs.Turns.{HasEntry}
use Rattle.yw_within.specs.Within.{HoldsWithin}
use Rattle.yw_answered.specs.Answered.{CommandHasAnswer, FindsRule, ReadsAll}

-- ---- the first check that is broken

abbrev FindsFirst : List Check → Type 0
FindsFirst cs = CannotLack ((found : Option Refusal) × First cs found)

finds_first : (cs : List Check) → FindsFirst cs
finds_first [] = here (None, refl)
finds_first (test true r ∷ cs) = here (Some (placeless r), refl)
finds_first (test false r ∷ cs) = finds_first cs
finds_first (test_at (Some at) r ∷ cs) = here (Some (placed r at), refl)
finds_first (test_at None r ∷ cs) = finds_first cs
finds_first (fact P r ∷ cs) =
    let rest = finds_first cs in
    follows (decided P) (λ d. ⊎_elim
    (λ (broken : P). here (Some (placeless r), inl (broken, refl)))
    (λ (holds : P → ⊥). follows rest (λ f. here (f.0, inr (holds, f.1))))
    d)
finds_first (fact_at P r ∷ cs) =
    let rest = finds_first cs in
    follows (decided ((at : List ℕ) × P at)) (λ d. ⊎_elim
    (λ (broken : (at : List ℕ) × P at). here (Some (placed r broken.0), inl (broken.0, broken.1, refl)))
    (λ (holds : ((at : List ℕ) × P at) → ⊥). follows rest (λ f. here (f.0, inr ((λ at p. holds (at, p)), f.1))))
    d)
finds_first (fault P ∷ cs) =
    let rest = finds_first cs in
    follows (decided ((refusal : Refusal) × P refusal)) (λ d. ⊎_elim
    (λ (broken : (refusal : Refusal) × P refusal). here (Some broken.0, inl (broken.0, broken.1, refl)))
    (λ (holds : ((refusal : Refusal) × P refusal) → ⊥). follows rest (λ f. here (f.0, inr ((λ refusal p. holds (refusal, p)), f.1))))
    d)

pub is_judged : (reader : Reader) (s : State) (c : Command) → FindsRule reader s c
is_judged reader s c = finds_first (checks reader s c)

-- ---- an event, where none is broken

module _ (reader : Reader) (reads : ReadsAll reader) (s : State) (well : IsWell reader s) (holds : HoldsWithin s) where
  load_event : (text : List ℕ) → Breaks reader s (commands.Load text) None → CannotLack (HasEvent reader s (commands.Load text))
  unfolding checks
  load_event text unbroken = follows (reads.spec text) (λ said. by_said said.0 said.1)
    where
      by_said : (said : Result Spec Refusal) → reader.spec text said → CannotLack (HasEvent reader s (commands.Load text))
      by_said (Ok spec) says = here (load_has_event reader s text spec says unbroken)
      by_said (Err refusal) says = absurd ((none_broken (checks reader s (commands.Load text)) unbroken).0 refusal says)

  module _ (p : TreePlace) (at : ℕ) (side : Bool) (when : List ℕ) (conclusion : Conclusion) where
    abbrev rule : Command
    rule = commands.Rule p.spec p.net p.task p.kind at side when conclusion

    rule_event : Breaks reader s rule None → CannotLack (HasEvent reader s rule)
    unfolding checks
    rule_event unbroken =
        let none = none_broken (checks reader s rule) unbroken in
        let (spec, called) = some_of (spec_called s p.spec) none.0 in
        follows (reads.condition when (tree_scope spec p)) (λ said. by_said spec called none.1.1.1.0 said.0 said.1)
      where
        by_said : (spec : Spec) → spec_called s p.spec ≡ Some spec → ((at : List ℕ) → ((u : Spec) × (spec_called s p.spec ≡ Some u) × reader.condition when (tree_scope u p) (Err at)) → ⊥)
            → (said : Result Tree (List ℕ)) → reader.condition when (tree_scope spec p) said → CannotLack (HasEvent reader s rule)
        by_said spec called right (Ok tree) says = here (rule_has_event reader s p at side when conclusion spec tree called says unbroken)
        by_said spec called right (Err where_at) says = absurd (right where_at (spec, called, says))

  has_event : (c : Command) → IsProper c → Breaks reader s c None → CannotLack (HasEvent reader s c)
  has_event (commands.Person name roles) right unbroken = here (person_has_event reader s name roles right.2)
  has_event (commands.Load text) right unbroken = load_event text unbroken
  has_event (commands.Rule spec net task kind at side when conclusion) right unbroken =
      rule_event (record { spec = spec; net = net; task = task; kind = kind }) at side when conclusion unbroken
  has_event (commands.Launch name gs) right unbroken = here (launch_has_event reader s holds name gs unbroken)
  has_event (commands.Enter who i t) right unbroken = here (enter_has_event reader s well holds who i t unbroken)
  has_event (commands.Start who j) right unbroken = here (start_has_event reader s well who j unbroken)
  has_event (commands.Complete who j gs) right unbroken = here (complete_has_event reader s well who j gs unbroken)
  has_event (commands.Add who i t value) right unbroken = here (add_has_event reader s well holds who i t value unbroken)
  has_event (commands.Raise j kind) right unbroken = here (raise_has_event reader s j kind right unbroken)
  has_event (commands.Suspend j) right unbroken = here (suspend_has_event reader s j unbroken)
  has_event (commands.Continue j) right unbroken = here (continue_has_event reader s j unbroken)
  has_event (commands.Cancel j) right unbroken = here (cancel_has_event reader s j unbroken)
  has_event (commands.Advance j) right unbroken = here (advance_has_event reader s j unbroken)

  pub unbroken_has_entry : (c : Command) → IsProper c → Breaks reader s c None → CannotLack (HasEntry reader s c)
  unbroken_has_entry c right unbroken = follows (has_event c right unbroken) (λ h. has_entry reader s h.1 c h.0 unbroken h.2 h.3)

-- ---- an answer

module _ (reads : ReadsAll reader) (s : State) (n : ℕ) (well : IsWell reader s) (holds : HoldsWithin s) where
  pub has_answer : (c : Command) → IsProper c → CommandHasAnswer s n c
  has_answer c right = follows (is_judged reader s c) (λ f. by_found f.0 f.1)
    where
      by_found : (found : Option Refusal) → Breaks reader s c found → CommandHasAnswer s n c
      by_found (Some refusal) breaks = here (record { taken = []; reply = refused_line n refusal }, s, (Some refusal, breaks, record { nothing = refl; told = refl; same = refl }))
      by_found None breaks = follows (unbroken_has_entry reader reads s well holds c right breaks) (λ e.
          let entry : Entry = record { events = e.0; quiet = e.1 } in
          here (record { taken = entry ∷ []; reply = done_line n e.0 e.1 }, e.2, (None, breaks, record { entry = entry; legal = e.3; one = refl; told = refl })))
