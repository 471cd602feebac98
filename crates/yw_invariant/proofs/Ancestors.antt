-- What stands in a state that is well stands in a net or at a case or an item; so its case stands, and nothing stands under a run that doesn't wait.
use Rattle.std.specs.Prelude.{◌≡◌, ◌≤◌, ◌⊎◌, ℕ, zero, suc, ◌&&◌, ◌||◌, Bool, true, false, length, Option, Some, None, is_some, option_and_then, nat_le, nat_lt, refl}
use Rattle.std.specs.Ordering.{eq_by_cmp}
use Rattle.std.proofs.Common.{sym, ◌∙◌, ap, subst, inl, inr, arith}
use Rattle.std.proofs.lemmas.Bool.{and_parts, cases_lt, eq-eqb, ltb-true}
use Rattle.std.specs.List.{list_all}
use Rattle.yw_base.specs.Identity.{is_number, most_numbers, case_number, parent}
use Rattle.yw_invariant.proofs.Places.{case_of_parent, deep_is_no_case, is_its_case, longer_below, parent_below, shorter, strictly_under_other}
use Rattle.yw_state.proofs.Alike.{has_part, item_in, net_by}
use Rattle.yw_state.proofs.MapLemmas.{by_name, by_option, by_test, never, nowhere, tied, tied_self}
use Rattle.yw_state.proofs.Tests.{there}
use Rattle.yw_state.specs.Identity.{Ident, case_ident, is_case_ident, strictly_under}
use Rattle.yw_state.specs.Map.{get, lexical}
use Rattle.yw_state.specs.State.{State, Site, ItemPart, RunPart, is_case, is_target, item_part, net_part, run_part}
use Rattle.yw_state.specs.Texts.{Reader}
use Rattle.yw_state.specs.Well.{IsWell, Stands}

module _ (reader : Reader) (s : State) (well : IsWell reader s) where
  neither : (b : Bool) → (b && false || false) ≡ true → ⊥
  neither true e = never e
  neither false e = never e

  pub target_stands : (k : Ident) → is_target s k ≡ true → is_some (get s.sites k) ≡ true
  target_stands k e =
      by_option (get s.sites k)
      (λ none. absurd (neither (is_case_ident k) (ap (λ (o : Option Site). is_case_ident k && is_some (option_and_then (λ (x : Site). x.net) o) || is_some (option_and_then (λ (x : Site). x.item) o)) (sym none) ∙ e)))
      (λ x some. ap is_some some)

  pub net_stands : (k : Ident) → is_some (net_part s k) ≡ true → is_some (get s.sites k) ≡ true
  net_stands k e =
      by_option (get s.sites k)
      (λ none. never (ap (λ (o : Option Site). is_some (option_and_then (λ (x : Site). x.net) o)) (sym none) ∙ e))
      (λ x some. ap is_some some)

  -- an item is of a net
  pub net_of_item : (k : Ident) (x : ItemPart) → item_part s k ≡ Some x → is_some (net_part s (parent k)) ≡ true
  net_of_item k x e =
      by_option (net_part s (parent k))
      (λ none. never (nothing (item_part s k) ∙ ap (λ o. is_some (item_in (item_part s k) (option_and_then (net_by s) o))) (sym none) ∙ well.parents.item_of_net k x e))
      (λ n some. ap is_some some)
    where
      nothing : (part : Option ItemPart) → false ≡ is_some (item_in part None)
      nothing None = refl
      nothing (Some y) = refl

  none_of_three : (b : Bool) → b ≡ false → (b || false || false) ≡ true → ⊥
  none_of_three true is e = never (sym is)
  none_of_three false is e = never e

  -- what isn't a case stands in a net, or at a case or an item
  pub stands_at : (k : Ident) → is_some (get s.sites k) ≡ true → is_case_ident k ≡ false → (is_some (net_part s (parent k)) ≡ true) ⊎ (is_target s (parent k) ≡ true)
  stands_at k stands no_case =
      by_option (item_part s k)
      (λ no_item.
      by_option (run_part s k)
      (λ no_run.
      by_option (net_part s k)
      (λ no_net.
      by_option (get s.sites k)
      (λ none. never (ap is_some (sym none) ∙ stands))
      (λ x some.
      never
      (sym
      (ap (λ o. is_some o || is_some (item_part s k) || is_some (run_part s k)) no_net
      ∙ ap (λ o. is_some o || is_some (run_part s k)) no_item
      ∙ ap is_some no_run)
      ∙ ap has_part some
      ∙ well.parents.something k x some)))
      (λ n net.
      absurd
      (none_of_three (is_case_ident k) no_case
      (sym (ap (λ o. is_case_ident k || is_some o || is_some (run_part s k)) no_item ∙ ap (λ o. is_case_ident k || false || is_some o) no_run)
      ∙ well.nets.at_something k n net))))
      (λ r run. inr (well.parents.run_of_target k r run)))
      (λ x item. inl (net_of_item k x item))

  parent_stands : (k : Ident) → is_some (get s.sites k) ≡ true → is_case_ident k ≡ false → is_some (get s.sites (parent k)) ≡ true
  parent_stands k stands no_case = either (stands_at k stands no_case)
    where
      either : (is_some (net_part s (parent k)) ≡ true) ⊎ (is_target s (parent k) ≡ true) → is_some (get s.sites (parent k)) ≡ true
      either (inl net) = net_stands (parent k) net
      either (inr target) = target_stands (parent k) target

  some_number : (k : Ident) → is_some (get s.sites k) ≡ true → 1 ≤ length k
  some_number k stands =
      by_option (get s.sites k)
      (λ none. never (ap is_some (sym none) ∙ stands))
      (λ x some. ltb-true 0 (length k) (and_parts (nat_lt 0 (length k)) (nat_le (length k) most_numbers) (and_parts (nat_lt 0 (length k) && nat_le (length k) most_numbers) (list_all is_number k) (well.numbers.identities k x some)).0).0)

  -- a case is a net
  pub net_of_case : (k : Ident) → is_some (get s.sites k) ≡ true → is_case_ident k ≡ true → is_some (net_part s k) ≡ true
  net_of_case k stands case =
      by_option (get s.sites k)
      (λ none. never (ap is_some (sym none) ∙ stands))
      (λ x some. by_parts x some (item_part s k) refl (run_part s k) refl)
    where
      short : 2 ≤ length k → ⊥
      short deep = never (sym (deep_is_no_case k deep) ∙ case)

      third : (a : Bool) → (a || false || false) ≡ true → a ≡ true
      third true e = refl
      third false e = e

      by_parts : (x : Site) → Stands s k x → (o : Option ItemPart) → item_part s k ≡ o → (p : Option RunPart) → run_part s k ≡ p → is_some (net_part s k) ≡ true
      by_parts x some (Some y) item p run = absurd (short (well.parents.item_depth k y item))
      by_parts x some None item (Some y) run = absurd (short (well.parents.run_depth k y run))
      by_parts x some None item None run =
          third (is_some (net_part s k))
          (sym (ap (λ o. is_some (net_part s k) || is_some o || is_some (run_part s k)) item ∙ ap (λ o. is_some (net_part s k) || false || is_some o) run)
          ∙ ap has_part some
          ∙ well.parents.something k x some)

  case_within : (n : ℕ) (k : Ident) → length k ≤ n → is_some (get s.sites k) ≡ true → is_case s (case_ident (case_number k)) ≡ true
  case_within zero k short stands = let some = some_number k stands in absurd (omega (arith, some, short))
  case_within (suc n) k short stands =
      by_test (is_case_ident k)
      (λ case. subst (λ i. is_some (net_part s i) ≡ true) (is_its_case k case) (net_of_case k stands case))
      (λ no_case.
      let some = some_number k stands in
      let deep : 2 ≤ length k = elim (cases_lt 1 (length k)) [ inl lt ↦ omega (arith, lt) | inr le ↦ never (sym no_case ∙ eq-eqb (length k) 1 (omega (arith, le, some))) ] in
      let longer = shorter k some in
      ap (λ m. is_case s (case_ident m)) (sym (case_of_parent k deep)) ∙ case_within n (parent k) (omega (arith, short, longer)) (parent_stands k stands no_case))

  -- the case of what stands, stands
  pub case_stands : (k : Ident) → is_some (get s.sites k) ≡ true → is_case s (case_ident (case_number k)) ≡ true
  case_stands k stands = case_within (length k) k (omega arith) stands

  module _ (r : Ident) (y : RunPart) (run : run_part s r ≡ Some y) (no_net : net_part s r ≡ None) where
    no_item : item_part s r ≡ None
    no_item =
        by_option (item_part s r)
        (λ none. none)
        (λ x some. never (sym (well.parents.not_both r (ap is_some some)) ∙ ap is_some run))

    no_target : is_target s r ≡ false
    no_target =
        ap (λ o. is_case_ident r && is_some o || is_some (item_part s r)) no_net
        ∙ ap (λ o. is_case_ident r && false || is_some o) no_item
        ∙ none_both (is_case_ident r)
      where
        none_both : (b : Bool) → (b && false || false) ≡ false
        none_both true = refl
        none_both false = refl

    below_within : (n : ℕ) (k : Ident) → length k ≤ n → strictly_under k r ≡ true → get s.sites k ≡ None
    below_within zero k short lies = let longer = longer_below k r lies in absurd (omega (arith, short, longer))
    below_within (suc n) k short lies =
        by_option (get s.sites k)
        (λ none. none)
        (λ x some.
        let deep = well.parents.run_depth r y run in
        let longer = longer_below k r lies in
        let more = shorter k (omega (arith, longer)) in
        let stands = ap is_some some in
        let no_case = deep_is_no_case k (omega (arith, deep, longer)) in
        by_test (eq_by_cmp lexical (parent k) r)
        (λ e.
        let here = tied by_name (parent k) r e in
        at_run (stands_at k stands no_case) here)
        (λ e.
        let other : ¬ (parent k ≡ r) = λ same. never (sym e ∙ ap (λ q. eq_by_cmp lexical q r) same ∙ tied_self by_name r) in
        nowhere (sym (below_within n (parent k) (omega (arith, short, more)) (strictly_under_other (parent k) r other ∙ parent_below k r lies)) ∙ (there (get s.sites (parent k)) (parent_stands k stands no_case)).1)))
      where
        at_run : (is_some (net_part s (parent k)) ≡ true) ⊎ (is_target s (parent k) ≡ true) → parent k ≡ r → get s.sites k ≡ None
        at_run (inl net) here = never (sym (ap is_some no_net) ∙ ap (λ i. is_some (net_part s i)) (sym here) ∙ net)
        at_run (inr target) here = never (sym no_target ∙ ap (is_target s) (sym here) ∙ target)

    -- nothing stands under a run that has no net
    pub none_below : (k : Ident) → strictly_under k r ≡ true → get s.sites k ≡ None
    none_below k lies = below_within (length k) k (omega arith) lies
