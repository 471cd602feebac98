-- In a state that is well no query lacks an answer.
use Rattle.std.specs.Prelude.{◌≡◌, ℕ, Bool, true, false, not, List, [], ◌∷◌, map, filter, Option, Some, None, refl}
use Rattle.std.specs.List.{filter_map, flat_map}
use Rattle.std.proofs.Common.{subst, sym}
use Rattle.serde_json.specs.Data.{Data, string}
use Rattle.yw_answered.proofs.Tokens.{tokens_are_listed}
use Rattle.yw_answered.specs.Answered.{QueryHasAnswer}
use Rattle.yw_base.specs.Identity.{case_number}
use Rattle.yw_lines.specs.Answers.{answer_line, names_data, rows_data, shown_data}
use Rattle.yw_lines.specs.Replies.{refused_line}
use Rattle.yw_lines.specs.Ways.{way_text}
use Rattle.yw_texts.proofs.Lacking.{follows, here}
use Rattle.yw_model.specs.Run.{FoundTells, QueryAnswers, Refuses, Step, Tells}
use Rattle.yw_texts.specs.Lacking.{CannotLack}
use Rattle.yw_texts.specs.Texts.{reader}
use Rattle.yw_model.specs.Told.{IsTold}
use Rattle.yw_state.proofs.Tests.{and_right, there}
use Rattle.yw_state.specs.Answers.{IsShown, IsWorkList, due_rows, ended_way, item_row, net_row, of_case, run_row, spec_names}
use Rattle.yw_state.specs.Broken.{QueryBreaks, First, is_ended, placeless, query_checks, test}
use Rattle.yw_state.specs.Identity.{Ident, is_case_ident}
use Rattle.yw_state.specs.Map.{has_key}
use Rattle.yw_state.specs.State.{State, is_case}
use Rattle.yw_state.specs.Well.{IsWell}
use Rattle.yw_state.specs.declared.answer.Shown.{Shown}
use Rattle.yw_state.specs.declared.answer.WorkRow.{WorkRow}
use Rattle.yw_state.specs.declared.command.Query.{Query}
use Rattle.yw_state.specs.declared.command.Query.TheVariants as queries
use Rattle.yw_state.specs.declared.rule.Refusal.{Refusal}
use Rattle.yw_state.specs.declared.rule.Rule.{Rule}
use Rattle.yw_state.specs.declared.rule.Rule.TheVariants.{UnknownCase, UnknownPerson}
use Rattle.yw_within.specs.Within.{HoldsWithin}
use Rattle.yw_work.proofs.Lacking.{list_stands}

-- the first rule of a table of one
module _ (r : Rule) (b : Bool) where
  pub passes : b ≡ true → First (test (not b) r ∷ []) None
  passes is = subst (λ (c : Bool). First (test (not c) r ∷ []) None) (sym is) refl

  pub fails : b ≡ false → First (test (not b) r ∷ []) (Some (placeless r))
  fails is = subst (λ (c : Bool). First (test (not c) r ∷ []) (Some (placeless r))) (sym is) refl

-- what stands in a case can be told
can_be_shown : (s : State) (n : ℕ) → HoldsWithin s → CannotLack ((x : Shown) × IsShown s n x)
can_be_shown s n holds = follows (tokens_are_listed s n holds) (λ listed. here (
  record {
    due = flat_map due_rows (of_case s n);
    items = filter_map (item_row s) (of_case s n);
    nets = filter_map (net_row s) (of_case s n);
    runs = filter_map run_row (of_case s n);
    suspended = map (λ e. e.0) (filter (λ e. e.1.suspended) (of_case s n));
    tokens = listed.0;
  },
  record { due = refl; items = refl; nets = refl; runs = refl; suspended = refl; tokens = listed.1 },
))

-- a person's work can be told
can_be_listed : (s : State) (who : List ℕ) → IsWell reader s → CannotLack ((rows : List WorkRow) × IsWorkList s who rows)
can_be_listed s who well = λ no. list_stands s who well (λ rows is. no (rows, is))

module _ (s : State) (n : ℕ) where
  abbrev HasStep : (State → ℕ → Step → State → Type 0) → Type 0
  HasStep P = CannotLack ((step : Step) × (t : State) × P s n step t)

  refused : (refusal : Refusal) → HasStep (Refuses refusal)
  refused refusal = here (record { taken = []; reply = refused_line n refusal }, s, record { nothing = refl; told = refl; same = refl })

  told : (q : Query) (answer : Data) → IsTold s q answer → HasStep (Tells q)
  told q answer is =
      here (record { taken = []; reply = answer_line n answer }, s, record { nothing = refl; answer = answer; is = is; told = refl; same = refl })

  by_rule : (q : Query) (found : Option Refusal) → QueryBreaks s q found → HasStep (FoundTells found q) → HasStep (QueryAnswers q)
  by_rule q found breaks answered = follows answered (λ a. here (a.0, a.1, (found, breaks, a.2)))

  list_answered : (who : List ℕ) (known : Bool) → has_key s.persons who ≡ known → IsWell reader s → HasStep (QueryAnswers (queries.List who))
  unfolding query_checks
  list_answered who true is well =
      by_rule (queries.List who) None (passes UnknownPerson (has_key s.persons who) is)
      (follows (can_be_listed s who well) (λ x. told (queries.List who) (rows_data x.0) (x.0, x.1, refl)))
  list_answered who false is well =
      by_rule (queries.List who) (Some (placeless UnknownPerson)) (fails UnknownPerson (has_key s.persons who) is) (refused (placeless UnknownPerson))

  show_answered : (j : Ident) (stands : Bool) → is_case s j ≡ stands → HoldsWithin s → HasStep (QueryAnswers (queries.Show j))
  unfolding query_checks
  show_answered j true is holds =
      by_rule (queries.Show j) None (passes UnknownCase (is_case s j) is)
      (follows (can_be_shown s (case_number j) holds) (λ x. told (queries.Show j) (shown_data x.0) (x.0, x.1, refl)))
  show_answered j false is holds =
      by_rule (queries.Show j) (Some (placeless UnknownCase)) (fails UnknownCase (is_case s j) is) (refused (placeless UnknownCase))

  ended_answered : (j : Ident) (over : Bool) → is_ended s j ≡ over → HasStep (QueryAnswers (queries.Ended j))
  unfolding query_checks
  ended_answered j true is =
      let way = there (ended_way s j) (and_right (is_case_ident j) (has_key s.ended (case_number j)) is) in
      by_rule (queries.Ended j) None (passes UnknownCase (is_ended s j) is)
      (told (queries.Ended j) (string (way_text way.0)) (way.0, way.1, refl))
  ended_answered j false is =
      by_rule (queries.Ended j) (Some (placeless UnknownCase)) (fails UnknownCase (is_ended s j) is) (refused (placeless UnknownCase))

  specs_answered : HasStep (QueryAnswers queries.Specs)
  unfolding query_checks
  specs_answered = by_rule queries.Specs None refl (told queries.Specs (names_data (spec_names s)) refl)

  pub query_answered : IsWell reader s → HoldsWithin s → (q : Query) → QueryHasAnswer s n q
  query_answered well holds (queries.List who) = list_answered who (has_key s.persons who) refl well
  query_answered well holds (queries.Show j) = show_answered j (is_case s j) refl holds
  query_answered well holds (queries.Ended j) = ended_answered j (is_ended s j) refl
  query_answered well holds queries.Specs = specs_answered
