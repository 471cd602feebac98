-- What a net shows of an entry is whether a person may make it.
use Rattle.std.specs.Prelude.{◌≡◌, ℕ, ◌==◌, ◌&&◌, Bool, true, false, not, IsTrue, List, [], ◌∷◌, length, Option, Some, None, refl, drop, is_none, is_some, nat_lt, slice_get}
use Rattle.std.proofs.Common.{sym, ◌∙◌, ap, arith, subst, inl, inr}
use Rattle.std.proofs.lemmas.Bool.{and_parts, and_from, eq-eqb, eqb-true, false_from_ne_true, ltb-false, ltb-true}
use Rattle.yw_base.specs.Gates.{is_or}
use Rattle.yw_open.specs.Entries.{EntersAs, is_chosen, task_of}
use Rattle.yw_open.specs.Opens.{NoneChosen}
use Rattle.yw_spec.specs.declared.spec.Net.{Net}
use Rattle.yw_spec.specs.declared.task.Task.{Task}
use Rattle.yw_state.proofs.Tests.{by_test, is_not, never, nowhere, some_same}
use Rattle.yw_state.specs.Broken.{Check, First, fact, placeless, test}
use Rattle.yw_state.specs.Identity.{Ident}
use Rattle.yw_state.specs.Joins.{NoWait, Waits, has_tokens}
use Rattle.yw_state.specs.Judged.{is_manual, rules_at, task_place}
use Rattle.yw_state.specs.Nets.{is_atomic}
use Rattle.yw_state.specs.Options.{is_some_and}
use Rattle.yw_state.specs.State.{State, TaskAt, task_at}
use Rattle.yw_state.specs.Words.{active}
use Rattle.yw_state.specs.declared.rule.Refusal.{Refusal}
use Rattle.yw_state.specs.declared.rule.Rule.{Rule}
use Rattle.yw_state.specs.declared.rule.Rule.TheVariants as rules
use Rattle.yw_state.specs.declared.tree.TreeKind.TheVariants.{Select}
use Rattle.yw_task.proofs.EnterAsk.{task_stands}
use Rattle.yw_task.specs.Asked.{AsksEnter}
use Rattle.yw_tree.specs.declared.NetState.{NetState}

-- ---- whether persons enter it

none_left : (n : ℕ) → (n == 0) ≡ not (nat_lt 0 n)
none_left n =
    by_test (nat_lt 0 n)
    (λ some. let least = ltb-true 0 n some in false_from_ne_true _ (λ none. absurd (omega (arith, least, eqb-true n 0 none))) ∙ sym (ap not some))
    (λ none. let most = ltb-false 0 n none in eq-eqb n 0 (omega (arith, most)) ∙ sym (ap not none))

manual_is : (s : State) (x : TaskAt) (chosen : Bool) → is_chosen s x ≡ chosen → is_manual s x ≡ (is_atomic x.task && not chosen)
manual_is s x chosen is = ap (λ b. is_atomic x.task && b) (none_left (length (rules_at s (task_place x Select))) ∙ ap not is)

pub unchosen : (s : State) (x : TaskAt) → NoneChosen s → is_chosen s x ≡ false
unchosen s x none = none (task_place x Select) refl

-- ---- the rows of the table

passes : (b : Bool) (r : Rule) (cs : List Check) → First (test b r ∷ cs) None → (b ≡ false) × First cs None
passes true r cs e = nowhere e
passes false r cs rest = (refl, rest)

fine : (b : Bool) (r : Rule) (cs : List Check) (o : Option Refusal) → b ≡ false → First (test b r ∷ cs) o → First cs o
fine b r cs o e rest = subst (λ (x : Bool). First (test x r ∷ cs) o) e rest

not_not : (b : Bool) → not b ≡ false → b ≡ true
not_not true e = refl
not_not false e = never (sym e)

abbrev WaitsAt : State → Ident → List ℕ → Type 0
WaitsAt s i t = (x : TaskAt) × (task_at s i t ≡ Some x) × IsTrue (is_or x.task.join) × Waits s i x

abbrev shown : State → Ident → List ℕ → List Check
shown s i t =
    test (is_some_and (task_at s i t) (λ x. active s i x.number)) rules.Active
    ∷ test (is_some_and (task_at s i t) (λ x. not (has_tokens x.task.join s i x.task.before))) rules.NotEnabled
    ∷ fact (WaitsAt s i t) rules.OrWaits
    ∷ []

module _ (s : State) (i : Ident) (t : List ℕ) (x : TaskAt) (here : task_at s i t ≡ Some x) where
  its : (p : TaskAt → Bool) → is_some_and (task_at s i t) p ≡ p x
  its p = ap (λ o. is_some_and o p) here

  free : First (shown s i t) None → (active s i x.number ≡ false) × (has_tokens x.task.join s i x.task.before ≡ true) × NoWait s i x
  free w =
      let a = passes (is_some_and (task_at s i t) (λ y. active s i y.number)) rules.Active (drop 1 (shown s i t)) w in
      let b = passes (is_some_and (task_at s i t) (λ y. not (has_tokens y.task.join s i y.task.before))) rules.NotEnabled (drop 2 (shown s i t)) a.1 in
      let alone : WaitsAt s i t → ⊥ = elim b.1 [ inl broken ↦ nowhere broken.1 | inr none ↦ none.0 ] in (
        sym (its (λ y. active s i y.number)) ∙ a.0,
        not_not _ (sym (its (λ y. not (has_tokens y.task.join s i y.task.before))) ∙ b.0),
        λ is waits. alone (x, here, is, waits),
      )

  broken : (r : Rule) → First (shown s i t) (Some (placeless r)) → active s i x.number ≡ false
      → has_tokens x.task.join s i x.task.before ≡ true → NoWait s i x → ⊥
  broken r w idle fed goes =
      let a = fine (is_some_and (task_at s i t) (λ y. active s i y.number)) rules.Active (drop 1 (shown s i t)) (Some (placeless r))
      (its (λ y. active s i y.number) ∙ idle) w in
      let b = fine (is_some_and (task_at s i t) (λ y. not (has_tokens y.task.join s i y.task.before))) rules.NotEnabled (drop 2 (shown s i t))
      (Some (placeless r)) (its (λ y. not (has_tokens y.task.join s i y.task.before)) ∙ ap not fed) a in
      elim b [
        | inl waits ↦ at_wait waits.0
        | inr none ↦ nowhere (sym none.1)
      ]
    where
      at_wait : WaitsAt s i t → ⊥
      at_wait (y, there, is, waits) =
          let same : y ≡ x = some_same y x (sym there ∙ here) in
          goes (subst (λ (z : TaskAt). IsTrue (is_or z.task.join)) same is) (subst (λ (z : TaskAt). Waits s i z) same waits)

-- ---- the answer

turned : (o : Option Rule) (b : Bool) → is_some o ≡ not b → b ≡ is_none o
turned None true e = refl
turned None false e = never e
turned (Some r) true e = never (sym e)
turned (Some r) false e = refl

module _ (net : Net) (state : NetState) (t : ℕ) (chosen : Bool) (u : Task) (at : slice_get net.tasks t ≡ Some u) where
  abbrev pub manual : Task → Bool
  manual task = is_atomic task && not chosen

  -- persons don't enter it
  pub by_itself : manual u ≡ false → EntersAs net state t chosen false
  by_itself not_so = λ names f s i spec task stands within there is.
      let x : TaskAt = task_of names net state t task in
      let same : u ≡ task = some_same u task (sym at ∙ there) in (
        λ e. never e,
        λ m.
            let a = and_parts (is_manual s x) (not (active s i x.number) && has_tokens x.task.join s i x.task.before) m.may in
            never (sym not_so ∙ ap manual same ∙ sym (manual_is s x chosen is) ∙ a.0),
      )

  asked : manual u ≡ true → (o : Option Rule) → AsksEnter net state t o → EntersAs net state t chosen (is_none o)
  asked all None asks = λ names f s i spec task stands within there is.
      let x : TaskAt = task_of names net state t task in
      let same : task ≡ u = some_same task u (sym there ∙ at) in
      let here : task_at s i task.name ≡ Some x = task_stands names f s i net state stands spec within t task there in
      let w = free s i task.name x here (asks names f s i [] spec task stands within there) in (
        λ e. record {
          may = and_from _ _ (manual_is s x chosen is ∙ ap manual same ∙ all) (and_from _ _ (ap not w.0) w.1);
          goes = w.2;
        },
        λ m. refl,
      )
  asked all (Some r) asks = λ names f s i spec task stands within there is.
      let x : TaskAt = task_of names net state t task in
      let here : task_at s i task.name ≡ Some x = task_stands names f s i net state stands spec within t task there in (
        λ e. never e,
        λ m.
            let a = and_parts (is_manual s x) (not (active s i x.number) && has_tokens x.task.join s i x.task.before) m.may in
            let b = and_parts (not (active s i x.number)) (has_tokens x.task.join s i x.task.before) a.1 in
            absurd (broken s i task.name x here r (asks names f s i [] spec task stands within there) (is_not _ b.0) b.1 m.goes),
      )

  -- persons do, and this is the first that an entry breaks
  pub as_asked : manual u ≡ true → (o : Option Rule) → AsksEnter net state t o → (answer : Bool) → is_some o ≡ not answer
      → EntersAs net state t chosen answer
  as_asked all o asks answer e = subst (λ (b : Bool). EntersAs net state t chosen b) (sym (turned o answer e)) (asked all o asks)
