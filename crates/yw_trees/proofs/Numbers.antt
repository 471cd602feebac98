-- Where the tree of a kind stands in a list, and with one rule more.
use Rattle.std.proofs.Common.{◌≡◌, ◌+◌, ℕ, suc, zero, List, [], ◌∷◌, ◌++◌, length, Bool, true, false, cond, Option, None, Some, refl, sym, ap, ◌∙◌, arith}
use Rattle.std.specs.Option.{option_or}
use Rattle.std.specs.Prelude.{option_map, slice_get, slice_set}
use Rattle.yw_state.proofs.Tests.{by_test, map_some, nowhere, some_same}
use Rattle.yw_state.specs.RuleTree.{TreeRule}
use Rattle.yw_state.specs.declared.tree.TreeKind.{TreeKind}
use Rattle.yw_state.specs.declared.tree.TreePlace.{TreePlace}
use Rattle.yw_trees.specs.Grown.{IsMoreAt}
use Rattle.yw_trees.specs.Placed.{IsAdded, Placed, a_tree, is_its, more, number_for, rules_for, with_rule}
use Rattle.yw_trees.specs.declared.owner.Owner.{Owner}

map_none : {A B : Type 0} (f : A → B) (o : Option A) → option_map f o ≡ None → o ≡ None
map_none f None e = refl
map_none f (Some x) e = nowhere (sym e)

module _ (owner : Owner) (kind : TreeKind) where
  abbrev first_or : Bool → List Placed → Option ℕ
  first_or b ts = cond b (Some 0) (option_map suc (number_for owner kind ts))

  abbrev its_or : Bool → Placed → List Placed → List TreeRule
  its_or b t ts = cond b t.rules (rules_for owner kind ts)

  -- what is found stands there, and has the rules
  pub found : (ts : List Placed) (n : ℕ) → number_for owner kind ts ≡ Some n
      → (t : Placed) × (slice_get ts n ≡ Some t) × (rules_for owner kind ts ≡ t.rules)
  found [] n e = nowhere e
  found (t ∷ ts) n e =
      by_test (is_its owner kind t)
      (λ h.
      let first : 0 ≡ n = some_same 0 n (sym (ap (λ b. first_or b ts) h) ∙ e) in
      (t, ap (slice_get (t ∷ ts)) (sym first), ap (λ b. its_or b t ts) h))
      (λ h.
      let (m, at, is) = map_some suc (number_for owner kind ts) n (sym (ap (λ b. first_or b ts) h) ∙ e) in
      let (u, there, rules) = found ts m at in
      (u, ap (slice_get (t ∷ ts)) (sym is) ∙ there, ap (λ b. its_or b t ts) h ∙ rules))

  pub missing : (ts : List Placed) → number_for owner kind ts ≡ None → rules_for owner kind ts ≡ []
  missing [] e = refl
  missing (t ∷ ts) e =
      by_test (is_its owner kind t)
      (λ h. nowhere (sym e ∙ ap (λ b. first_or b ts) h))
      (λ h. ap (λ b. its_or b t ts) h ∙ missing ts (map_none suc (number_for owner kind ts) (sym (ap (λ b. first_or b ts) h) ∙ e)))

  pub numbered_rules : (ts : List Placed) (n : ℕ) (t : Placed) → number_for owner kind ts ≡ Some n → slice_get ts n ≡ Some t
      → rules_for owner kind ts ≡ t.rules
  numbered_rules ts n t e at =
      let (u, there, rules) = found ts n e in
      rules ∙ ap (λ (x : Placed). x.rules) (some_same u t (sym there ∙ at))

-- ---- one rule more

module _ (owner : Owner) (p : TreePlace) (r : TreeRule) where
  abbrev added_or : Bool → Placed → List Placed → List Placed
  added_or b t ts = cond b (more t r ∷ ts) (t ∷ with_rule owner p r ts)

  pub behind : (ts : List Placed) → number_for owner p.kind ts ≡ None → with_rule owner p r ts ≡ ts ++ a_tree owner p r ∷ []
  behind [] e = refl
  behind (t ∷ ts) e =
      by_test (is_its owner p.kind t)
      (λ h. nowhere (sym e ∙ ap (λ b. first_or owner p.kind b ts) h))
      (λ h.
      let none = map_none suc (number_for owner p.kind ts) (sym (ap (λ b. first_or owner p.kind b ts) h) ∙ e) in
      ap (λ b. added_or b t ts) h ∙ ap (λ us. t ∷ us) (behind ts none))

  pub inside : (ts : List Placed) (n : ℕ) (t : Placed) → number_for owner p.kind ts ≡ Some n → slice_get ts n ≡ Some t
      → with_rule owner p r ts ≡ slice_set ts n (more t r)
  inside [] n t e at = nowhere at
  inside (u ∷ us) n t e at =
      by_test (is_its owner p.kind u)
      (λ h.
      let first : 0 ≡ n = some_same 0 n (sym (ap (λ b. first_or owner p.kind b us) h) ∙ e) in
      let same : u ≡ t = some_same u t (ap (slice_get (u ∷ us)) first ∙ at) in
      ap (λ b. added_or b u us) h ∙ ap (λ (x : Placed). more x r ∷ us) same ∙ ap (λ k. slice_set (u ∷ us) k (more t r)) first)
      (λ h.
      let (m, here, is) = map_some suc (number_for owner p.kind us) n (sym (ap (λ b. first_or owner p.kind b us) h) ∙ e) in
      ap (λ b. added_or b u us) h ∙ ap (λ xs. u ∷ xs) (inside us m t here (ap (slice_get (u ∷ us)) is ∙ at))
      ∙ ap (λ k. slice_set (u ∷ us) k (more t r)) is)

  pub added_behind : (ts new : List Placed) → number_for owner p.kind ts ≡ None → new ≡ ts ++ a_tree owner p r ∷ [] → IsAdded ts new owner p r 1
  added_behind ts new none is = record {
    added = is ∙ sym (behind ts none);
    numbered = ap (λ rs. length rs + 1) (sym (missing owner p.kind ts none));
  }

  pub added_inside : (ts new : List Placed) (n : ℕ) → number_for owner p.kind ts ≡ Some n → (number : ℕ) → IsMoreAt ts new n r number
      → IsAdded ts new owner p r number
  added_inside ts new n e number more_so =
      let (t, at, rules) = found owner p.kind ts n e in
      let (set, numbered) = more_so t at in
      record {
        added = set ∙ sym (inside ts n t e at);
        numbered = numbered ∙ ap (λ rs. length rs + 1) (sym rules);
      }

-- ---- the numbers of all trees then

one_more : (b : Bool) (l k : ℕ) (o : Option ℕ) → k ≡ suc l
    → option_map suc (option_or o (cond b (Some l) None)) ≡ option_or (option_map suc o) (cond b (Some k) None)
one_more true l k None e = ap Some (sym e)
one_more false l k None e = refl
one_more b l k (Some m) e = refl

module _ (o : Owner) (k : TreeKind) where
  pub pushed : (ts : List Placed) (t : Placed) → number_for o k (ts ++ t ∷ []) ≡ option_or (number_for o k ts) (cond (is_its o k t) (Some (length ts)) None)
  pushed [] t = refl
  pushed (u ∷ us) t =
      let longer : length (u ∷ us) ≡ suc (length us) = omega arith in
      by_test (is_its o k u)
      (λ h.
      ap (λ b. first_or o k b (us ++ t ∷ [])) h
      ∙ sym (ap (λ b. option_or (first_or o k b us) (cond (is_its o k t) (Some (length (u ∷ us))) None)) h))
      (λ h.
      ap (λ b. first_or o k b (us ++ t ∷ [])) h
      ∙ ap (option_map suc) (pushed us t)
      ∙ one_more (is_its o k t) (length us) (length (u ∷ us)) (number_for o k us) longer
      ∙ sym (ap (λ b. option_or (first_or o k b us) (cond (is_its o k t) (Some (length (u ∷ us))) None)) h))

  pub unmoved : (ts : List Placed) (n : ℕ) (t : Placed) (r : TreeRule) → slice_get ts n ≡ Some t
      → number_for o k (slice_set ts n (more t r)) ≡ number_for o k ts
  unmoved [] n t r at = nowhere at
  unmoved (u ∷ us) zero t r at = ap (λ (x : Placed). first_or o k (is_its o k x) us) (sym (some_same u t at))
  unmoved (u ∷ us) (suc n) t r at = ap (λ m. cond (is_its o k u) (Some 0) (option_map suc m)) (unmoved us n t r at)
