-- From which places a join takes, by the choice that stands for them.
use Rattle.std.proofs.Common.{ap, get_or, length, refl, subst, sym, ◌∙◌}
use Rattle.std.proofs.lemmas.Bool.{and_from, and_parts}
use Rattle.std.specs.Cmp.Lexicographic.{pointwise}
use Rattle.std.specs.List.{list_all}
use Rattle.std.specs.Prelude.{Bool, List, Some, [], filter, map, nat_eq, nat_lt, option_map, true, unwrap_or, ℕ, ◌&&◌, ◌==◌, ◌∷◌, ◌≡◌}
use Rattle.yw_base.specs.declared.gate.Gate.{Gate}
use Rattle.yw_base.specs.declared.gate.Gate.TheVariants.{And, Or, Xor}
use Rattle.yw_cases.specs.Entering.{candidate, first_number, stands_for}
use Rattle.yw_enabled.proofs.MadeCount.{not_zero}
use Rattle.yw_mark.specs.Taking.{taken_places}
use Rattle.yw_mark.specs.Tokens.{HasMarks, is_marked}
use Rattle.yw_spec.specs.declared.spec.Net.{Net}
use Rattle.yw_spec.specs.declared.spec.Place.{Place}
use Rattle.yw_state.proofs.Tests.{map_some, never, same_numbers, some_same, then_some, there_and}
use Rattle.yw_state.specs.Allowed.{place_numbers}
use Rattle.yw_state.specs.Identity.{Ident}
use Rattle.yw_state.specs.Joins.{has_tokens, joins, marked}
use Rattle.yw_state.specs.Nets.{is_among, place_number}
use Rattle.yw_state.specs.Options.{all_of, is_some_and}
use Rattle.yw_state.specs.State.{State}
use Rattle.yw_still.proofs.Numbers.{alike, some_kept}
use Rattle.yw_task.specs.Enters.{is_choice}

-- the first of the places has the first of their numbers
first_is : (net : Net) (places : List Place) (b : ℕ) (bs : List ℕ) → place_numbers net places ≡ Some (b ∷ bs) → first_number net places ≡ b
first_is net [] b bs e = absurd (subst (λ (cs : List ℕ). nothing_in cs) (some_same [] (b ∷ bs) e) tt)
  where
    nothing_in : List ℕ → Type 0
    nothing_in [] = Unit {0}
    nothing_in (c ∷ cs) = ⊥
first_is net (p ∷ ps) b bs e =
    let x = then_some (λ (x : ℕ). option_map (λ (xs : List ℕ). x ∷ xs) (all_of (map (place_number net) ps))) (place_number net p) (b ∷ bs) e in
    let xs = map_some (λ (xs : List ℕ). x.0 ∷ xs) (all_of (map (place_number net) ps)) (b ∷ bs) x.2 in
    ap (λ o. unwrap_or o 0) x.1 ∙ ap (λ (zs : List ℕ). get_or zs 0 0) xs.2

module _ (s : State) (i : Ident) (marks : List ℕ) (has : HasMarks s i marks) (net : Net) (before : List ℕ) (places : List Place) where
  marked_is : marked s i ≡ is_marked marks
  marked_is = λ j c. nat_lt 0 (has c j)

  -- where the join takes from the places, the choice stands for them
  pub joined : (g : Gate) (cs : List ℕ) → place_numbers net places ≡ Some cs → joins g s i before cs ≡ true
      → stands_for net marks before places (candidate g net places) ≡ true
  joined And cs at j =
      ap (λ o. is_some_and o (λ ds. pointwise nat_eq ds before)) at ∙ (and_parts (pointwise nat_eq cs before) (list_all (marked s i) before) j).0
  joined Or cs at j =
      ap (λ o. is_some_and o (λ ds. pointwise nat_eq ds (filter (is_marked marks) before))) at
      ∙ ap (λ m. pointwise nat_eq cs (filter m before)) (sym marked_is)
      ∙ (and_parts (pointwise nat_eq cs (filter (marked s i) before)) (nat_lt 0 (length cs)) j).0
  joined Xor [] at j = never j
  joined Xor (b ∷ []) at j =
      let rest : List ℕ = [] in
      let parts = and_parts (is_among before b && length rest == 0) (list_all (marked s i) (b ∷ rest)) j in
      let among = (and_parts (is_among before b) (length rest == 0) parts.0).0 in
      let here = (and_parts (marked s i b) true parts.1).0 in
      subst (λ c. (is_marked marks c && is_among before c && is_some_and (place_numbers net places) (λ ds. pointwise nat_eq ds (c ∷ []))) ≡ true)
      (sym (first_is net places b rest at))
      (and_from (is_marked marks b && is_among before b) (is_some_and (place_numbers net places) (λ ds. pointwise nat_eq ds (b ∷ [])))
      (and_from (is_marked marks b) (is_among before b) (ap (λ m. m b) (sym marked_is) ∙ here) among)
      (ap (λ o. is_some_and o (λ ds. pointwise nat_eq ds (b ∷ []))) at ∙ alike (b ∷ rest)))
  joined Xor (b ∷ c ∷ cs) at j =
      let parts = and_parts (is_among before b && length (c ∷ cs) == 0) (list_all (marked s i) (b ∷ c ∷ cs)) j in
      never (sym (not_zero (length cs)) ∙ (and_parts (is_among before b) (length (c ∷ cs) == 0) parts.0).1)

  -- what is so where it stands for them
  pub record IsTakenBy (g : Gate) : Type 0 where
    pub numbers : place_numbers net places ≡ Some (taken_places marks before (candidate g net places))
    pub joins_them : joins g s i before (taken_places marks before (candidate g net places)) ≡ true
    pub chosen : is_choice g marks before (candidate g net places) ≡ true

  pub taken_by : (g : Gate) → has_tokens g s i before ≡ true → stands_for net marks before places (candidate g net places) ≡ true → IsTakenBy g
  taken_by And tokens stands =
      let cs = there_and (place_numbers net places) (λ ds. pointwise nat_eq ds before) stands in
      record { numbers = cs.1 ∙ ap Some (same_numbers cs.0 before cs.2); joins_them = and_from (pointwise nat_eq before before) (list_all (marked s i) before) (alike before) tokens; chosen = refl }
  taken_by Xor tokens stands =
      let c : ℕ = first_number net places in
      let parts = and_parts (is_marked marks c && is_among before c) (is_some_and (place_numbers net places) (λ ds. pointwise nat_eq ds (c ∷ []))) stands in
      let two = and_parts (is_marked marks c) (is_among before c) parts.0 in
      let cs = there_and (place_numbers net places) (λ ds. pointwise nat_eq ds (c ∷ [])) parts.1 in
      record {
        numbers = cs.1 ∙ ap Some (same_numbers cs.0 (c ∷ []) cs.2);
        joins_them = and_from (is_among before c && true) (marked s i c && true) (and_from (is_among before c) true two.1 refl)
            (and_from (marked s i c) true (ap (λ m. m c) marked_is ∙ two.0) refl);
        chosen = parts.0;
      }
  taken_by Or tokens stands =
      let cs = there_and (place_numbers net places) (λ ds. pointwise nat_eq ds (filter (is_marked marks) before)) stands in
      let by_state : joins Or s i before (filter (marked s i) before) ≡ true =
      and_from (pointwise nat_eq (filter (marked s i) before) (filter (marked s i) before)) (nat_lt 0 (length (filter (marked s i) before))) (alike (filter (marked s i) before))
      (some_kept (marked s i) before tokens) in
      record {
        numbers = cs.1 ∙ ap Some (same_numbers cs.0 (filter (is_marked marks) before) cs.2);
        joins_them = subst (λ (m : ℕ → Bool). joins Or s i before (filter m before) ≡ true) marked_is by_state;
        chosen = refl;
      }
