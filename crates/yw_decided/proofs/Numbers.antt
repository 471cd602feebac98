-- Numbers, at each thing that stands and each case that is over.
use Rattle.std.proofs.Common.{◌≡◌, ◌&&◌, ℕ, Bool, true, not, Some, ap}
use Rattle.std.specs.Prelude.{nat_le, nat_lt}
use Rattle.std.proofs.lemmas.Bool.{leb-true, le-leb, ltb-true, lt-ltb}
use Rattle.yw_base.specs.Identity.{case_number, is_identity, number_end}
use Rattle.yw_decided.proofs.Each.{all_of, and_left, and_right, at_each, both, from_each, of_all}
use Rattle.yw_decided.specs.Decided.{are_numbers, each_ended, each_site, numbers_stand, was_drawn}
use Rattle.yw_state.proofs.Entries.{IsIn, entry-found, find-entry}
use Rattle.yw_state.proofs.MapLemmas.{by_number}
use Rattle.yw_state.proofs.Tests.{is_not}
use Rattle.yw_state.specs.Identity.{Ident}
use Rattle.yw_state.specs.Map.{entries, get, has_key}
use Rattle.yw_state.specs.State.{Site, State}
use Rattle.yw_state.specs.Well.{NumbersFit, Stands, is_drawn}
use Rattle.yw_state.specs.declared.part.Way.{Way}

module _ (s : State) where
  abbrev passes : ℕ × Way → Bool
  passes e = was_drawn s e.0

  abbrev rest : Bool
  rest = each_ended s && each_site s (numbers_stand s)

  pub numbers_from : are_numbers s ≡ true → NumbersFit s
  numbers_from all = record {
    least = leb-true 1 s.next (and_left (nat_le 1 s.next) (nat_le s.next number_end && rest) all);
    most = leb-true s.next number_end (and_left (nat_le s.next number_end) rest after);
    identities = λ j x e. and_left (is_identity j) (is_drawn s j && not (has_key s.ended (case_number j))) (here j x e);
    drawn = λ j x e. and_left (is_drawn s j) (not (has_key s.ended (case_number j))) (later j x e);
    ended_some = λ n way e. leb-true 1 n (and_left (nat_le 1 n) (nat_lt n s.next) (over n way e));
    ended_drawn = λ n way e. ltb-true n s.next (and_right (nat_le 1 n) (nat_lt n s.next) (over n way e));
    over = λ j x e. is_not (has_key s.ended (case_number j)) (and_right (is_drawn s j) (not (has_key s.ended (case_number j))) (later j x e));
  }
    where
      after : (nat_le s.next number_end && rest) ≡ true
      after = and_right (nat_le 1 s.next) (nat_le s.next number_end && rest) all

      both_lists : rest ≡ true
      both_lists = and_right (nat_le s.next number_end) rest after

      here : (j : Ident) (x : Site) → Stands s j x → numbers_stand s j x ≡ true
      here j x e = at_each s (numbers_stand s) (and_right (each_ended s) (each_site s (numbers_stand s)) both_lists) j x e

      later : (j : Ident) (x : Site) → Stands s j x → (is_drawn s j && not (has_key s.ended (case_number j))) ≡ true
      later j x e = and_right (is_identity j) (is_drawn s j && not (has_key s.ended (case_number j))) (here j x e)

      over : (n : ℕ) (way : Way) → get s.ended n ≡ Some way → was_drawn s n ≡ true
      over n way e =
          of_all passes (entries s.ended) (n, way) (and_left (each_ended s) (each_site s (numbers_stand s)) both_lists)
          (entry-found by_number (entries s.ended) n way e)

  pub numbers_to : NumbersFit s → are_numbers s ≡ true
  numbers_to fit =
      both (nat_le 1 s.next) (nat_le s.next number_end && rest) (le-leb 1 s.next fit.least)
      (both (nat_le s.next number_end) rest (le-leb s.next number_end fit.most)
      (both (each_ended s) (each_site s (numbers_stand s)) (all_of passes (entries s.ended) over) (from_each s (numbers_stand s) here)))
    where
      over : (e : ℕ × Way) → IsIn (entries s.ended) e → passes e ≡ true
      over e within =
          let at = find-entry by_number (entries s.ended) e s.ended.sorted within in
          both (nat_le 1 e.0) (nat_lt e.0 s.next) (le-leb 1 e.0 (fit.ended_some e.0 e.1 at)) (lt-ltb e.0 s.next (fit.ended_drawn e.0 e.1 at))

      here : (j : Ident) (x : Site) → Stands s j x → numbers_stand s j x ≡ true
      here j x e =
          both (is_identity j) (is_drawn s j && not (has_key s.ended (case_number j))) (fit.identities j x e)
          (both (is_drawn s j) (not (has_key s.ended (case_number j))) (fit.drawn j x e) (ap not (fit.over j x e)))
