-- Plans that tell what is asked, or refuse it.
use Rattle.std.proofs.Common.{◌≡◌, ℕ, List, Bool, true, false, Option, Some, None, ap, sym, subst}
use Rattle.std.proofs.lemmas.Result.{IfOk-weaker}
use Rattle.std.specs.Prelude.{◌&&◌, is_some, if◌then◌else◌, IfOk, refl, Result}
use Rattle.serde_json.specs.Data.{string}
use Rattle.yw_answered.proofs.QueriesAnswered.{fails, passes}
use Rattle.yw_base.specs.Identity.{case_number}
use Rattle.yw_lines.specs.Answers.{names_data, rows_data, shown_data}
use Rattle.yw_lines.specs.Ways.{way_text}
use Rattle.yw_serve.proofs.Planning.{refused_to_tell, told_so}
use Rattle.yw_serve.specs.Plans.{IsPlanToTell, Refuses, SaysAnswer}
use Rattle.yw_serve.specs.declared.plan.Plan.{Plan}
use Rattle.yw_state.proofs.Tests.{nowhere}
use Rattle.yw_state.specs.Answers.{IsShown, IsWorkList, ended_way, spec_names}
use Rattle.yw_state.specs.Broken.{is_ended, placeless, query_checks}
use Rattle.yw_state.specs.Identity.{Ident, is_case_ident}
use Rattle.yw_state.specs.Map.{has_key}
use Rattle.yw_state.specs.State.{State, is_case}
use Rattle.yw_state.specs.declared.answer.Shown.{Shown}
use Rattle.yw_state.specs.declared.answer.WorkRow.{WorkRow}
use Rattle.yw_state.specs.declared.command.Query.{Query}
use Rattle.yw_state.specs.declared.command.Query.TheVariants as queries
use Rattle.yw_state.specs.declared.part.Way.{Way}
use Rattle.yw_state.specs.declared.rule.Rule.TheVariants.{UnknownCase, UnknownPerson}

-- what is told in a state is told in the same
pub told_as : {E : Type 0} (s t : State) (n : ℕ) (p q : Query) (result : Result Plan E) → t ≡ s → q ≡ p → IfOk result (IsPlanToTell t n p)
    → IfOk result (IsPlanToTell s n q)
told_as s t n p q result same is told = IfOk-weaker result _ _ (λ plan plans.
    subst (λ (r : Query). IsPlanToTell s n r plan) (sym is) (subst (λ (u : State). IsPlanToTell u n p plan) same plans)) told

module _ (s : State) (n : ℕ) (plan : Plan) where
  module _ (who : List ℕ) where
    pub list_refused : has_key s.persons who ≡ false → Refuses n (placeless UnknownPerson) plan → IsPlanToTell s n (queries.List who) plan
    unfolding query_checks
    list_refused none plans =
        refused_to_tell s n (queries.List who) (placeless UnknownPerson) plan
        (λ a. (Some (placeless UnknownPerson), fails UnknownPerson (has_key s.persons who) none, a)) plans

    pub list_told : (rows : List WorkRow) → has_key s.persons who ≡ true → IsWorkList s who rows → SaysAnswer n (rows_data rows) plan
        → IsPlanToTell s n (queries.List who) plan
    unfolding query_checks
    list_told rows known work says =
        told_so s n (queries.List who) (rows_data rows) plan (rows, work, refl) (λ a. (None, passes UnknownPerson (has_key s.persons who) known, a)) says

  module _ (j : Ident) where
    pub show_refused : is_case s j ≡ false → Refuses n (placeless UnknownCase) plan → IsPlanToTell s n (queries.Show j) plan
    unfolding query_checks
    show_refused none plans =
        refused_to_tell s n (queries.Show j) (placeless UnknownCase) plan
        (λ a. (Some (placeless UnknownCase), fails UnknownCase (is_case s j) none, a)) plans

    pub show_told : (x : Shown) → is_case s j ≡ true → IsShown s (case_number j) x → SaysAnswer n (shown_data x) plan
        → IsPlanToTell s n (queries.Show j) plan
    unfolding query_checks
    show_told x stands shown says =
        told_so s n (queries.Show j) (shown_data x) plan (x, shown, refl) (λ a. (None, passes UnknownCase (is_case s j) stands, a)) says

    -- how a case at this identity ended, as it is looked up
    abbrev pub looked_up : Option Way
    looked_up = if is_case_ident j then ended_way s j else None

    pub ended_refused : looked_up ≡ None → Refuses n (placeless UnknownCase) plan → IsPlanToTell s n (queries.Ended j) plan
    unfolding query_checks
    ended_refused none plans =
        refused_to_tell s n (queries.Ended j) (placeless UnknownCase) plan
        (λ a. (Some (placeless UnknownCase), fails UnknownCase (is_ended s j) (isnt (is_case_ident j) (ended_way s j) none), a)) plans
      where
        isnt : (b : Bool) (o : Option Way) → (if b then o else None) ≡ None → (b && is_some o) ≡ false
        isnt true o e = ap is_some e
        isnt false o e = refl

    pub ended_told : (way : Way) → looked_up ≡ Some way → SaysAnswer n (string (way_text way)) plan → IsPlanToTell s n (queries.Ended j) plan
    unfolding query_checks
    ended_told way is says =
        let found = both (is_case_ident j) (ended_way s j) is in
        told_so s n (queries.Ended j) (string (way_text way)) plan (way, found.1, refl)
        (λ a. (None, passes UnknownCase (is_ended s j) found.0, a)) says
      where
        both : (b : Bool) (o : Option Way) → (if b then o else None) ≡ Some way → ((b && is_some o) ≡ true) × (o ≡ Some way)
        both true o e = (ap is_some e, e)
        both false o e = nowhere e

  pub specs_told : SaysAnswer n (names_data (spec_names s)) plan → IsPlanToTell s n queries.Specs plan
  unfolding query_checks
  specs_told says = told_so s n queries.Specs (names_data (spec_names s)) plan refl (λ a. (None, refl, a)) says
