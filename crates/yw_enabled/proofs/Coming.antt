-- A task that may be entered by a choice of its join, or left, gives the event that comes of itself.
use Rattle.std.proofs.Common.{Bool, List, Some, [], ap, false, length, refl, subst, sym, true, ℕ, ◌+◌, ◌∙◌, ◌∷◌, ◌≡◌}
use Rattle.std.proofs.lemmas.Bool.{and_from, and_parts, eq-eqb}
use Rattle.std.specs.Cmp.Lexicographic.{pointwise}
use Rattle.std.specs.List.{list_all}
use Rattle.std.specs.Prelude.{filter, nat_eq, nat_le, nat_lt, not, unwrap_or, ◌==◌, ◌&&◌}
use Rattle.yw_base.specs.Identity.{number_end, case_number}
use Rattle.yw_base.specs.declared.gate.Gate.{Gate}
use Rattle.yw_base.specs.declared.gate.Gate.TheVariants.{And, Or, Xor}
use Rattle.yw_enabled.proofs.LeaveLaw.{among_after}
use Rattle.yw_enabled.proofs.MadeCount.{not_zero}
use Rattle.yw_enabled.specs.Entered.{EntersFrom}
use Rattle.yw_enabled.specs.Steps.{EnterComes, ExitComes, MayCome}
use Rattle.yw_mark.specs.Taking.{taken_places}
use Rattle.yw_mark.specs.declared.join.Taken.{Taken}
use Rattle.yw_state.proofs.Tests.{never, same_numbers, some_same, there_and}
use Rattle.yw_state.specs.Allowed.{Allowed, allows, exit_values, has_room_for, may_exit, may_leave, place_numbers, puts_on}
use Rattle.yw_state.specs.Identity.{Ident}
use Rattle.yw_state.specs.Joins.{NoWait, has_tokens, joins, marked}
use Rattle.yw_state.specs.Judged.{is_manual}
use Rattle.yw_state.specs.Nets.{is_among}
use Rattle.yw_state.specs.Options.{is_some_and}
use Rattle.yw_state.specs.Passing.{entry_values, split_places, within_bounds}
use Rattle.yw_state.specs.State.{State, TaskAt}
use Rattle.yw_state.specs.Texts.{nothing}
use Rattle.yw_state.specs.Values.{Row}
use Rattle.yw_state.specs.Words.{active, clear}
use Rattle.yw_state.specs.declared.event.Event.TheVariants as events
use Rattle.yw_still.proofs.Numbers.{alike, all_filtered, one_of_all}
use Rattle.yw_still.specs.Still.{is_leaving, may_be_made, task_numbered}
use Rattle.yw_task.specs.Giving.{entry_rows}
use Rattle.yw_within.proofs.Finding.{net_within, numbered_of, places_are_named, task_found}
use Rattle.yw_within.specs.Within.{HoldsWithin, has_number}

-- a join takes from input places alone
taken_pass : (s : State) (i : Ident) (before : List ℕ) (g : Gate) (p : ℕ → Bool) → list_all p before ≡ true → (cs : List ℕ) → joins g s i before cs ≡ true → list_all p cs ≡ true
taken_pass s i before And p all cs j = ap (list_all p) (same_numbers cs before (and_parts (pointwise nat_eq cs before) (list_all (marked s i) before) j).0) ∙ all
taken_pass s i before Xor p all [] j = refl
taken_pass s i before Xor p all (b ∷ []) j =
    let rest : List ℕ = [] in
    let parts = and_parts (is_among before b && length rest == 0) (list_all (marked s i) (b ∷ rest)) j in
    and_from (p b) true (one_of_all p before b all (and_parts (is_among before b) (length rest == 0) parts.0).0) refl
taken_pass s i before Xor p all (b ∷ c ∷ cs) j =
    let parts = and_parts (is_among before b && length (c ∷ cs) == 0) (list_all (marked s i) (b ∷ c ∷ cs)) j in
    never (sym (not_zero (length cs)) ∙ (and_parts (is_among before b) (length (c ∷ cs) == 0) parts.0).1)
taken_pass s i before Or p all cs j =
    ap (list_all p) (same_numbers cs (filter (marked s i) before) (and_parts (pointwise nat_eq cs (filter (marked s i) before)) (nat_lt 0 (length cs)) j).0) ∙ all_filtered (marked s i) p before all

module _ (s : State) (holds : HoldsWithin s) (i : Ident) (t : ℕ) (x : TaskAt) (is : task_numbered s i t ≡ Some x) where
  -- whoever enters it
  pub enter_may : (taken : Taken) → EntersFrom s i x (taken_places x.within.part.tokens x.task.before taken) → MayCome s i x taken
  unfolding allows
  enter_may taken h =
      let of = numbered_of s i t x is in
      let w = net_within s holds i x.within of.stands in
      let named = task_found s holds i x of in
      let cs = taken_places x.within.part.tokens x.task.before taken in
      let made = and_parts _ (is_some_and (entry_values x.task x.within.part.vals) (may_be_made s x)) h.may in
      let joined = and_parts _ (has_tokens x.task.join s i x.task.before) made.0 in
      let free = and_parts (clear s i) (not (active s i x.number)) joined.0 in
      let all = taken_pass s i x.task.before x.task.join (has_number x.within.net.places) (w.1.each_task x.number x.task of.task).before cs h.takes in
      let put = places_are_named w.0 x.within.net w.1 cs all in
      let r = there_and (entry_values x.task x.within.part.vals) (may_be_made s x) made.1 in
      let bounds = and_parts (within_bounds x.task.many (length r.0)) (nat_le (s.next + length r.0) number_end) r.2 in
      let takes = ap (λ o. is_some_and o (joins x.task.join s i x.task.before)) put.1 ∙ h.takes in
      let makes = ap (λ o. is_some_and o (λ (rs : List Row). length rs == length r.0)) r.1 ∙ eq-eqb (length r.0) (length r.0) refl in
      let draws = and_from (s.next == s.next) (nat_le (s.next + length r.0) number_end) (eq-eqb s.next s.next refl) bounds.1 in
      let allowed : Allowed s (events.Enter i x.task.name put.0 s.next (length r.0)) nothing = (
        and_from _ _ free.0
            (ap (λ o. is_some_and o (λ (y : TaskAt). not (active s i y.number) && is_some_and (place_numbers y.within.net put.0) (joins y.task.join s i y.task.before)
            && (is_some_and (entry_values y.task y.within.part.vals) (λ rs. length rs == length r.0) && within_bounds y.task.many (length r.0))
            && (s.next == s.next && nat_le (s.next + length r.0) number_end))) named
            ∙ and_from _ _ (and_from _ _ (and_from _ _ free.1 takes) (and_from _ _ makes bounds.0)) draws),
        λ y is_y. subst (NoWait s i) (some_same x y (sym named ∙ is_y)) h.no_wait,
      ) in
      let count : length (entry_rows x.task x.within.part.vals) ≡ length r.0 = ap (λ o. length (unwrap_or o [])) r.1 in
      record {
        places = put.0;
        takes = put.1;
        allowed = subst (λ k. Allowed s (events.Enter i x.task.name put.0 s.next k) nothing) (sym count) allowed;
      }

  pub enter_comes : (taken : Taken) → is_manual s x ≡ false → EntersFrom s i x (taken_places x.within.part.tokens x.task.before taken) → EnterComes s (case_number i) i t taken
  enter_comes taken kind h =
      let may = enter_may taken h in
      let named = task_found s holds i x (numbered_of s i t x is) in
      record {
        of_task = x;
        numbered = is;
        places = may.places;
        takes = may.takes;
        comes = record {
          here = refl;
          automatic = ap (λ o. is_some_and o (λ (y : TaskAt). not (is_manual s y))) named ∙ ap not kind;
          allowed = may.allowed;
        };
      }

  pub exit_comes : is_leaving s i x ≡ true → ExitComes s (case_number i) i t
  unfolding allows
  exit_comes may =
      let of = numbered_of s i t x is in
      let w = net_within s holds i x.within of.stands in
      let named = task_found s holds i x of in
      let cs = split_places x.task (exit_values s i x) in
      let parts = and_parts (clear s i && active s i x.number && may_leave s i x) (list_all (has_room_for s i x) cs) may in
      let goes = and_parts (clear s i && active s i x.number) (may_leave s i x) parts.0 in
      let free = and_parts (clear s i) (active s i x.number) goes.0 in
      let all = among_after x.task (exit_values s i x) (has_number x.within.net.places) (w.1.each_task x.number x.task of.task).after in
      let put = places_are_named w.0 x.within.net w.1 cs all in
      let puts = ap (λ o. is_some_and o (puts_on s i x)) put.1 ∙ and_from _ _ (alike cs) parts.1 in
      record {
        of_task = x;
        numbered = is;
        places = put.0;
        puts = put.1;
        comes = record {
          here = refl;
          automatic = refl;
          allowed = (
            and_from _ _ free.0
                (ap (λ o. is_some_and o (may_exit s i put.0)) named
                ∙ and_from _ _ (and_from _ _ free.1 goes.1) puts),
            tt,
          );
        };
      }
