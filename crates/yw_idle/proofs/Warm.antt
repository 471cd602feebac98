-- Where nothing changes at an identity or directly below it, what is urgent there was.
use Rattle.std.specs.Prelude.{◌≡◌, ◌∷◌, ◌&&◌, ◌||◌, [], true, false, not, List, map, Option, is_some, option_and_then, option_map, unwrap_or}
use Rattle.std.specs.List.{list_any}
use Rattle.std.proofs.Common.{◌∙◌, ap, sym, subst, inl, inr}
use Rattle.std.proofs.lemmas.Bool.{and_from, and_parts, false_from_ne_true, or_left, or_right}
use Rattle.std.proofs.lemmas.List.Folds.{list_any-append}
use Rattle.yw_base.specs.Identity.{is_identity, parent}
use Rattle.yw_idle.proofs.Goes.{goes_up}
use Rattle.yw_idle.proofs.Sites.{left_alone}
use Rattle.yw_idle.specs.Idle.{is_urgent_at}
use Rattle.yw_idle.specs.Warms.{changes, warms}
use Rattle.yw_moved.proofs.Parents.{is_same, parent_of_child, same_itself}
use Rattle.yw_state.proofs.Clear.{some_stands}
use Rattle.yw_state.proofs.Entries.{find-entry, passing}
use Rattle.yw_state.proofs.Gone.{removed-gone}
use Rattle.yw_state.proofs.MapLemmas.{by_name}
use Rattle.yw_state.proofs.Tests.{by_option, by_test, never, nowhere, or_cases}
use Rattle.yw_state.specs.Allowed.{Allowed}
use Rattle.yw_state.specs.Events.{after}
use Rattle.yw_state.specs.Gone.{removes}
use Rattle.yw_state.specs.Identity.{Ident, is_child, same}
use Rattle.yw_state.specs.Map.{entries, get}
use Rattle.yw_state.specs.State.{State, Site, no_checks}
use Rattle.yw_state.specs.Texts.{Said}
use Rattle.yw_state.specs.Well.{NumbersFit, Stands}
use Rattle.yw_state.specs.Words.{any_due, busy, is_at_work}
use Rattle.yw_state.specs.declared.event.Event.{Event}
use Rattle.yw_still.specs.Still.{check_waits, run_is_at_work}

-- ---- where it may leave something urgent

IsWarm : Event → Ident → Type 0
IsWarm e j = list_any (same j) (warms e) ≡ true

module _ (e : Event) (j : Ident) where
  split : list_any (same j) (warms e) ≡ (list_any (same j) (changes e) || list_any (same j) (map parent (changes e)))
  split = list_any-append (same j) (changes e) (map parent (changes e))

  changed : list_any (same j) (changes e) ≡ true → IsWarm e j
  unfolding IsWarm
  changed here = split ∙ or_left _ _ here

  above : list_any (same j) (map parent (changes e)) ≡ true → IsWarm e j
  unfolding IsWarm
  above here = split ∙ or_right (list_any (same j) (changes e)) _ here

-- directly above what is changed
pub parents : (xs : List Ident) (k : Ident) → list_any (same k) xs ≡ true → list_any (same (parent k)) (map parent xs) ≡ true
parents [] k some = never some
parents (x ∷ xs) k some = elim (or_cases (same k x) _ some) [
  | inl here ↦ or_left _ _ (ap (λ y. same (parent k) (parent y)) (sym (is_same k x here)) ∙ same_itself (parent k))
  | inr rest ↦ or_right (same (parent k) (parent x)) _ (parents xs k rest)
]

below_changed : (e : Event) (k : Ident) → list_any (same k) (changes e) ≡ true → IsWarm e (parent k)
below_changed e k some = above e (parent k) (parents (changes e) k some)

-- ---- the law

no_identity : {A : Type 0} (j : Ident) → is_identity j ≡ true → j ≡ [] → A
no_identity j is e = never (sym (ap is_identity e) ∙ is)

module _ (s : State) (e : Event) (said : Said) (j : Ident) (numbers : NumbersFit s) (ok : Allowed s e said) (cold : list_any (same j) (warms e) ≡ false) where
  abbrev t : State
  t = after s e said

  not_warm : {A : Type 0} → IsWarm e j → A
  unfolding IsWarm
  not_warm warm = never (sym cold ∙ warm)

  unchanged : list_any (same j) (changes e) ≡ false
  unchanged = by_test (list_any (same j) (changes e)) (λ some. not_warm (changed e j some)) (λ none. none)

  module _ (y : Site) (stands : Stands t j y) where
    stays : removes s e j ≡ false
    stays = by_test (removes s e j) (λ gone. nowhere (sym (removed-gone j s e said ok gone) ∙ stands)) (λ no. no)

    is_same_site : get t.sites j ≡ get s.sites j
    is_same_site = left_alone j s e said ok stays unchanged

    stood : Stands s j y
    stood = sym is_same_site ∙ stands

    -- a run directly below
    run_stays : (k : Ident) (x : Site) → Stands s k x → is_child k j ≡ true → Stands t k x
    run_stays k x at below =
        let up : parent k ≡ j = parent_of_child k j below in
        left_alone k s e said ok
        (false_from_ne_true _ (λ gone. elim (goes_up s e k (λ top. no_identity j (numbers.identities j y stood) (sym up ∙ top)) gone) [
          | inl too ↦ never (sym stays ∙ ap (removes s e) (sym up) ∙ too)
          | inr at_it ↦ never (sym unchanged ∙ ap (λ i. list_any (same i) (changes e)) (sym up) ∙ at_it)
        ]))
        (false_from_ne_true _ (λ some. not_warm (subst (IsWarm e) up (below_changed e k some))))
        ∙ at

    busy_stays : busy s j ≡ true → busy t j ≡ true
    busy_stays some =
        let (f, within, is) = passing (λ (f : Ident × Site). is_some f.1.run && is_child f.0 j) (entries s.sites) some in
        let parts = and_parts (is_some f.1.run) (is_child f.0 j) is in
        some_stands t (λ r x. is_some x.run && is_child r j) f.0 f.1
        (run_stays f.0 f.1 (find-entry by_name (entries s.sites) f s.sites.sorted within) parts.1) is

    waits : check_waits t j ≡ true → check_waits s j ≡ true
    waits due =
        let parts = and_parts _ (not (busy t j)) due in
        and_from _ (not (busy s j))
        (ap (λ (o : Option Site). any_due (unwrap_or (option_map (λ (z : Site). z.due) o) no_checks)) (sym is_same_site) ∙ parts.0)
        (by_test (busy s j) (λ some. never (sym (ap not (busy_stays some)) ∙ parts.1)) (λ none. ap not none))

    works : run_is_at_work t j ≡ true → run_is_at_work s j ≡ true
    works at = ap (λ (o : Option Site). is_at_work (option_and_then (λ (z : Site). z.run) o)) (sym is_same_site) ∙ at

  pub follows : is_urgent_at t j ≡ true → is_urgent_at s j ≡ true
  follows urgent = by_option (get t.sites j)
      (λ none. never (sym (ap
      (λ (o : Option Site). any_due (unwrap_or (option_map (λ (z : Site). z.due) o) no_checks) && not (busy t j) || is_at_work
      (option_and_then (λ (z : Site). z.run) o)) none) ∙ urgent))
      (λ y stands. elim (or_cases (check_waits t j) (run_is_at_work t j) urgent) [
        | inl due ↦ or_left _ _ (waits y stands due)
        | inr at ↦ or_right (check_waits s j) _ (works y stands at)
      ])
