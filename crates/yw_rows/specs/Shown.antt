-- What is shown of a case, computed: its tokens are put in order as they are found. That it is what a query is told is a law.
use Rattle.std.specs.Prelude.{ℕ, ◌==◌, List, [], ◌∷◌, map, filter, Option, Some, None, option_and_then, slice_get, if◌then◌else◌}
use Rattle.std.specs.List.{filter_map, flat_map, enumerate_from}
use Rattle.std.specs.Ordering.{is_lt}
use Rattle.yw_spec.specs.Net.{place_text}
use Rattle.yw_spec.specs.declared.spec.Place.{Place}
use Rattle.yw_state.specs.Answers.{due_rows, item_row, net_row, of_case, run_row}
use Rattle.yw_state.specs.Identity.{Ident}
use Rattle.yw_state.specs.Map.{lexical}
use Rattle.yw_state.specs.State.{State, NetAt, net_at}
use Rattle.yw_state.specs.declared.answer.Shown.{Shown}
use Rattle.yw_state.specs.declared.answer.TokenRow.{TokenRow}

abbrev pub if_marked : Ident → ℕ → Place → Option TokenRow
if_marked i count p = if count == 0 then None else Some (record { net = i; place = p; count = count })

abbrev pub token_row : NetAt → Ident → ℕ × ℕ → Option TokenRow
token_row n i e = option_and_then (if_marked i e.1) (slice_get n.net.places e.0)

-- behind those whose places' texts are not greater
abbrev pub placed_among : TokenRow → List TokenRow → List TokenRow
placed_among r [] = r ∷ []
placed_among r (q ∷ qs) = if is_lt (lexical (place_text r.place) (place_text q.place)) then r ∷ q ∷ qs else q ∷ placed_among r qs

abbrev pub by_place : List TokenRow → List TokenRow
by_place [] = []
by_place (r ∷ rs) = placed_among r (by_place rs)

abbrev pub rows_of_net : Ident → Option NetAt → List TokenRow
rows_of_net i None = []
rows_of_net i (Some n) = by_place (filter_map (token_row n i) (enumerate_from 0 n.part.tokens))

abbrev pub shown : State → ℕ → Shown
shown s n =
    record {
      due = flat_map due_rows (of_case s n);
      items = filter_map (item_row s) (of_case s n);
      nets = filter_map (net_row s) (of_case s n);
      runs = filter_map run_row (of_case s n);
      suspended = map (λ e. e.0) (filter (λ e. e.1.suspended) (of_case s n));
      tokens = flat_map (λ e. rows_of_net e.0 (net_at s e.0)) (of_case s n);
    }
