-- The OR-join of the row: it waits for the item of q, and no more once that is gone.
use Rattle.std.specs.Prelude.{◌≡◌, ℕ, zero, suc, true, [], ◌∷◌, Contains, IsTrue, codes, refl}
use Rattle.std.proofs.Common.{arith}
use Rattle.yw_rows.proofs.Waiting.{AreClosed, elsewhere, enters, waits_not}
use Rattle.yw_rows.specs.Play.{Then, begun}
use Rattle.yw_rows.specs.Choices.{join_both, or_split_net, or_split_row}
use Rattle.yw_rows.specs.OrJoin.{or_join_net, or_row, join_late, join_early}
use Rattle.yw_rows.specs.Waiting.{WaitsThen, WaitsNotThen, AllowedThen, ForbiddenThen}
use Rattle.yw_spec.specs.Net.{places_after, at_place, at_task}
use Rattle.yw_state.specs.Allowed.{allows}
use Rattle.yw_state.specs.Events as events
use Rattle.yw_spec.specs.declared.spec.Place.TheVariants.{Named}
use Rattle.yw_state.specs.Texts.{nothing}
use Rattle.yw_state.specs.Nets.{is_among}

-- q stands active, and a flow leads from it to d2, which is empty
pub waits : WaitsThen or_row 10 (1 ∷ []) (codes "j")
unfolding allows events.after
waits =
    record {
      input = 6;
      of_task = (1, omega arith, refl);
      empty = refl;
      source = at_task 2;
      holds = refl;
      path = (1, (at_task 2, refl, (0, omega arith, refl)));
    }

-- To d2 (6) lead q (2), c2 (3), s (0) and the input (0): no other task leads to one of these places.
before_places : (t c : ℕ) → Contains (places_after or_join_net t) c → is_among (6 ∷ 3 ∷ 0 ∷ []) c ≡ true → is_among (2 ∷ 0 ∷ []) t ≡ true
before_places zero c h e = refl
before_places (suc zero) c h e = elsewhere (6 ∷ 3 ∷ 0 ∷ []) (2 ∷ 0 ∷ []) (places_after or_join_net 1) 1 c refl h e
before_places (suc (suc zero)) c h e = refl
before_places (suc (suc (suc zero))) c h e = elsewhere (6 ∷ 3 ∷ 0 ∷ []) (2 ∷ 0 ∷ []) (places_after or_join_net 3) 3 c refl h e
before_places (suc (suc (suc (suc zero)))) c h e = elsewhere (6 ∷ 3 ∷ 0 ∷ []) (2 ∷ 0 ∷ []) (places_after or_join_net 4) 4 c refl h e
before_places (suc (suc (suc (suc (suc t))))) c h e = elsewhere (6 ∷ 3 ∷ 0 ∷ []) (2 ∷ 0 ∷ []) [] (suc (suc (suc (suc (suc t))))) c refl h e

closed : AreClosed or_join_net (6 ∷ 3 ∷ 0 ∷ []) (2 ∷ 0 ∷ [])
closed = record { before_tasks = refl; before_places = before_places }

-- none of them holds a token, for k's exit has emptied q
pub waits_no_more : WaitsNotThen or_row 13 (1 ∷ []) (codes "j")
unfolding allows events.after
waits_no_more = waits_not _ (1 ∷ []) _ (6 ∷ 3 ∷ 0 ∷ []) (2 ∷ 0 ∷ []) closed refl refl refl

-- ---- so it isn't entered, and then it is

pub kept_out : ForbiddenThen or_row 10 join_early
unfolding allows events.after
kept_out (tokens, no_wait) = no_wait _ refl refl waits

has_tokens : Then or_row 13 (λ s. IsTrue (allows s join_late nothing))
unfolding allows events.after
has_tokens = refl

pub is_entered : AllowedThen or_row 13 join_late
is_entered = enters (begun or_row 13) (1 ∷ []) (codes "j") (Named (codes "d1") ∷ []) 6 1 has_tokens waits_no_more

-- ---- the join behind an OR-split: it waits for the token on c2, which q may bring to d2

pub waits_for_second : WaitsThen or_split_row 9 (1 ∷ []) (codes "j")
unfolding allows events.after
waits_for_second =
    record {
      input = 6;
      of_task = (1, omega arith, refl);
      empty = refl;
      source = at_place 3;
      holds = refl;
      path = (2, (at_task 2, (at_place 3, refl, (0, omega arith, refl)), (0, omega arith, refl)));
    }

-- To d3 (7) lead r (3), c3 (4), s (0) and the input (0).
before_third : (t c : ℕ) → Contains (places_after or_split_net t) c → is_among (7 ∷ 4 ∷ 0 ∷ []) c ≡ true → is_among (3 ∷ 0 ∷ []) t ≡ true
before_third zero c h e = refl
before_third (suc zero) c h e = elsewhere (7 ∷ 4 ∷ 0 ∷ []) (3 ∷ 0 ∷ []) (places_after or_split_net 1) 1 c refl h e
before_third (suc (suc zero)) c h e = elsewhere (7 ∷ 4 ∷ 0 ∷ []) (3 ∷ 0 ∷ []) (places_after or_split_net 2) 2 c refl h e
before_third (suc (suc (suc zero))) c h e = refl
before_third (suc (suc (suc (suc zero)))) c h e = elsewhere (7 ∷ 4 ∷ 0 ∷ []) (3 ∷ 0 ∷ []) (places_after or_split_net 4) 4 c refl h e
before_third (suc (suc (suc (suc (suc t))))) c h e = elsewhere (7 ∷ 4 ∷ 0 ∷ []) (3 ∷ 0 ∷ []) [] (suc (suc (suc (suc (suc t))))) c refl h e

waits_for_none : WaitsNotThen or_split_row 12 (1 ∷ []) (codes "j")
unfolding allows events.after
waits_for_none =
    waits_not _ (1 ∷ []) _ (7 ∷ 4 ∷ 0 ∷ []) (3 ∷ 0 ∷ []) (record { before_tasks = refl; before_places = before_third }) refl refl refl

has_both : Then or_split_row 12 (λ s. IsTrue (allows s join_both nothing))
unfolding allows events.after
has_both = refl

pub both_taken : AllowedThen or_split_row 12 join_both
both_taken = enters (begun or_split_row 12) (1 ∷ []) (codes "j") (Named (codes "d1") ∷ Named (codes "d2") ∷ []) 5 1 has_both waits_for_none
