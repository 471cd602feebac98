-- Events come of themselves one after another, and entries are made of them.
use Rattle.std.specs.Prelude.{◌≡◌, ◌&&◌, ℕ, ◌+◌, Bool, true, List, [], ◌∷◌, ◌++◌, Option, Some, None, refl}
use Rattle.std.specs.List.{list_all}
use Rattle.std.proofs.Common.{arith, sym, ◌∙◌, ap, subst, append_assoc}
use Rattle.std.proofs.lemmas.List.{length-append}
use Rattle.std.proofs.lemmas.List.Folds.{list_all-append}
use Rattle.yw_texts.specs.Texts.{reader}
use Rattle.yw_settle.specs.Settled.{AnswersWith, HaveCome, IsSettled, IsStep}
use Rattle.yw_state.specs.Automatic.{Comes, after_each, case_of}
use Rattle.yw_state.specs.Events.{after}
use Rattle.yw_state.specs.Legal.{IsLegal}
use Rattle.yw_state.specs.State.{State}
use Rattle.yw_state.specs.Texts.{nothing}
use Rattle.yw_state.specs.declared.event.Event.{Event}
use Rattle.yw_turns.proofs.Entries.{legal_alone, legal_turns}
use Rattle.yw_turns.proofs.RunningOut.{come_more}

-- ---- one event more

after_more : (s : State) (es : List Event) (e : Event) → after_each s (es ++ e ∷ []) ≡ after (after_each s es) e nothing
after_more s [] e = refl
after_more s (d ∷ es) e = after_more (after s d nothing) es e

both : (a b : Bool) → a ≡ true → b ≡ true → (a && (b && true)) ≡ true
both a b p q = ap (λ x. x && (b && true)) p ∙ ap (λ x. true && (x && true)) q

module _ (passes : Event → Bool) (s : State) (n : ℕ) (before : List Event) (t u : State) (told more : List Event) (count : ℕ) (e : Event) where
  come : HaveCome passes s n before t told count → IsStep passes t n (Some e) u → more ≡ told ++ e ∷ [] → HaveCome passes s n before u more (count + 1)
  come a step is = record {
    came = a.came ++ e ∷ [];
    in_order = is ∙ ap (λ (l : List Event). l ++ e ∷ []) a.in_order ∙ append_assoc before a.came (e ∷ []);
    in_turn = come_more s n a.came e a.in_turn (subst (λ (v : State). Comes v n e) a.then step.0);
    then = step.1 ∙ ap (λ (v : State). after v e nothing) a.then ∙ sym (after_more s a.came e);
    counted = let longer = length-append a.came (e ∷ []) in omega (arith, longer, a.counted);
    pass = list_all-append passes a.came (e ∷ []) ∙ both (list_all passes a.came) (passes e) a.pass step.2;
  }

  pub one_more : (found : Option Event) → HaveCome passes s n before t told count → IsStep passes t n found u → found ≡ Some e → more ≡ told ++ e ∷ []
      → HaveCome passes s n before u more (count + 1)
  one_more found a step some is = come a (subst (λ (o : Option Event). IsStep passes t n o u) some step) is

-- ---- entries

module _ (first : Event) (mid : State) (o : Option ℕ) (of : case_of first ≡ o) (empty begun : List Event) (none : empty ≡ [])
    (is : begun ≡ empty ++ first ∷ []) where
  begins : begun ≡ first ∷ []
  begins = is ∙ ap (λ (es : List Event). es ++ first ∷ []) none

  pub answers_alone : o ≡ None → AnswersWith first mid mid (record { events = begun; quiet = true })
  answers_alone without = λ s c unbroken asked leads.
      subst (λ (es : List Event). IsLegal reader s c es true mid) (sym begins) (legal_alone reader s mid c first unbroken asked leads (of ∙ without))

  pub answers_settled : (passes : Event → Bool) (n : ℕ) (t : State) (events : List Event) (quiet : Bool) → o ≡ Some n
      → IsSettled passes mid n begun t events quiet → AnswersWith first mid t (record { events = events; quiet = quiet })
  answers_settled passes n t events quiet some a = λ s c unbroken asked leads.
      subst (λ (es : List Event). IsLegal reader s c es quiet t) (sym (a.in_order ∙ ap (λ (es : List Event). es ++ a.came) begins))
      (legal_turns reader s mid c first unbroken asked leads n a.came quiet t (of ∙ some) a.runs_out)
