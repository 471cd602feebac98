-- What is well stays well when a case is over.
use Rattle.std.specs.Prelude.{◌≡◌, ◌≤◌, ◌<◌, ◌⊎◌, ℕ, ◌&&◌, true, not, length, Some, is_some, option_and_then, nat_le, nat_lt}
use Rattle.std.specs.List.{list_all}
use Rattle.std.proofs.Common.{sym, ◌∙◌, ap, subst, inl, inr, arith}
use Rattle.std.proofs.lemmas.Bool.{and_parts, ltb-true}
use Rattle.yw_base.specs.Identity.{is_number, most_numbers, number_end, under, case_number}
use Rattle.yw_state.proofs.Alike.{net_by}
use Rattle.yw_state.proofs.MapLemmas.{by_number, by_name, by_option, get-insert_other, insert_stands, never, retain_stands}
use Rattle.yw_state.proofs.RetainWell.{retained_is_well}
use Rattle.yw_state.proofs.Under.{other_case, outside}
use Rattle.yw_state.specs.After.{end_case}
use Rattle.yw_state.specs.Allowed.{Allowed, allows}
use Rattle.yw_state.specs.Events.{after}
use Rattle.yw_state.specs.Identity.{Ident, case_ident}
use Rattle.yw_state.specs.Joins.{at_output, marked}
use Rattle.yw_state.specs.Map.{get, insert}
use Rattle.yw_state.specs.Options.{is_some_and}
use Rattle.yw_state.specs.State.{State, Site, NetAt, net_part}
use Rattle.yw_state.specs.Texts.{Reader, Said}
use Rattle.yw_state.specs.Well.{IsWell, NumbersFit, Stands}
use Rattle.yw_state.specs.Words.{busy, clear}
use Rattle.yw_state.specs.declared.event.Event.TheVariants as events
use Rattle.yw_state.specs.declared.part.Way.{Way}
use Rattle.yw_state.specs.declared.part.Way.TheVariants.{Cancelled, Finished}

module _ (reader : Reader) (s : State) (n : ℕ) (way : Way) (well : IsWell reader s) where
  abbrev t : State
  t = end_case s n way

  -- the case stands, so its number is drawn
  some_number : (x : Site) → Stands s (case_ident n) x → 1 ≤ n
  some_number x stands =
      let numbers = and_parts (nat_lt 0 (length (case_ident n)) && nat_le (length (case_ident n)) most_numbers) (list_all is_number (case_ident n)) (well.numbers.identities (case_ident n) x stands) in
      let each = and_parts (is_number n) true numbers.1 in
      let here : 0 < n = ltb-true 0 n (and_parts (nat_lt 0 n) (nat_lt n number_end) each.0).0 in
      omega arith

  drawn_number : (x : Site) → Stands s (case_ident n) x → n < s.next
  drawn_number x stands = ltb-true n s.next (and_parts (nat_lt n s.next) true (well.numbers.drawn (case_ident n) x stands)).0

  numbers : (x : Site) → Stands s (case_ident n) x → NumbersFit t
  numbers x stands =
      record {
        least = well.numbers.least;
        most = well.numbers.most;
        identities = λ k y e. well.numbers.identities k y (before k y e).0;
        drawn = λ k y e. well.numbers.drawn k y (before k y e).0;
        ended_some = λ m w e. among (λ a. 1 ≤ a) (some_number x stands) m w (well.numbers.ended_some m w) e;
        ended_drawn = λ m w e. among (λ a. a < s.next) (drawn_number x stands) m w (well.numbers.ended_drawn m w) e;
        over = λ k y e.
            let stood = before k y e in
            ap is_some (get-insert_other by_number s.ended n way (case_number k) (other_case k n (well.numbers.identities k y stood.0) stood.1)) ∙ well.numbers.over k y stood.0;
      }
    where
      before : (k : Ident) (y : Site) → Stands t k y → Stands s k y × (not (under k (case_ident n)) ≡ true)
      before k y e = retain_stands by_name s.sites (λ q. not (under q (case_ident n))) k y e

      among : (P : ℕ → Type 0) → P n → (m : ℕ) (w : Way) → (get s.ended m ≡ Some w → P m) → get (insert s.ended n way) m ≡ Some w → P m
      among P here m w old e = known_or_old (insert_stands by_number s.ended n way m w e)
        where
          known_or_old : (m ≡ n) × (way ≡ w) ⊎ (get s.ended m ≡ Some w) → P m
          known_or_old (inl same) = subst P (sym same.0) here
          known_or_old (inr there) = old there

  -- a net stands as the case
  ended_is_well : is_some (net_part s (case_ident n)) ≡ true → IsWell reader t
  ended_is_well case =
      by_option (get s.sites (case_ident n))
      (λ none. never (ap (λ o. is_some (option_and_then (λ (x : Site). x.net) o)) (sym none) ∙ case))
      (λ x stands.
      retained_is_well s (λ k. not (under k (case_ident n))) (insert s.ended n way) (outside (case_ident n)) reader (numbers x stands) well)

module _ (reader : Reader) (s : State) (n : ℕ) (said : Said) (well : IsWell reader s) where
  pub cancel_keeps_well : Allowed s (events.Cancel n) said → IsWell reader (after s (events.Cancel n) said)
  unfolding allows after
  cancel_keeps_well allowed = ended_is_well reader s n Cancelled well (and_parts true (is_some (net_part s (case_ident n))) allowed.0).1

  net_there : at_output s (case_ident n) ≡ true → is_some (net_part s (case_ident n)) ≡ true
  net_there e =
      by_option (net_part s (case_ident n))
      (λ none. never (ap (λ o. is_some_and (option_and_then (net_by s) o) (λ (x : NetAt). marked s (case_ident n) x.net.output)) (sym none) ∙ e))
      (λ x some. ap is_some some)

  pub finish_keeps_well : Allowed s (events.Finish n) said → IsWell reader (after s (events.Finish n) said)
  unfolding allows after
  finish_keeps_well allowed =
      ended_is_well reader s n Finished well (net_there (and_parts (clear s (case_ident n) && not (busy s (case_ident n))) (at_output s (case_ident n)) allowed.0).1)
