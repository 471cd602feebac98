-- Identities that are found by the fronts of others, once one is put in or taken out; and whether work is held, front by front.
use Rattle.std.proofs.Common.{ap, arith, get_or, refl, subst, sym, take, ◌∙◌}
use Rattle.std.proofs.lemmas.Bool.{cond-false, cond-true}
use Rattle.std.proofs.lemmas.List.{take_more}
use Rattle.std.specs.BTreeSet.{insert_key}
use Rattle.std.specs.Ordering.{eq_by_cmp, is_eq, match_ordering}
use Rattle.std.specs.Prelude.{◌≡◌, ◌+◌, ◌<◌, ◌||◌, ◌++◌, [], ◌∷◌, ℕ, Bool, cond, false, length, List, true}
use Rattle.std.specs.Set.{remove_key}
use Rattle.std.specs.declared.cmp.Ordering.{Ordering}
use Rattle.std.specs.declared.cmp.Ordering.TheVariants.{Equal, Greater, Less}
use Rattle.yw_state.proofs.MapLemmas.{apart, by_name, tied, tied_self}
use Rattle.yw_state.proofs.Tests.{by_test, never}
use Rattle.yw_state.specs.Identity.{Ident}
use Rattle.yw_state.specs.Map.{lexical}
use Rattle.yw_work.specs.Holds.{goes_on, held_on}
use Rattle.yw_worklist.specs.Fronts.{Numbers, has_numbers}
use Rattle.yw_worklist.specs.Offers.{is_here}

abbrev pub numbers_cmp : Numbers → Numbers → Ordering
numbers_cmp x y = lexical x.items y.items

-- the order says the same of two the other way round
turned : (j k : Ident) → eq_by_cmp lexical j k ≡ eq_by_cmp lexical k j
turned j k =
    by_test (eq_by_cmp lexical k j)
    (λ t. subst (λ z. eq_by_cmp lexical j z ≡ true) (sym (tied by_name k j t)) (tied_self by_name j) ∙ sym t)
    (λ f. apart by_name j k (λ same. never (sym f ∙ subst (λ z. eq_by_cmp lexical k z ≡ true) (sym same) (tied_self by_name k))) ∙ sym f)

cond_or : (b c : Bool) → cond b true c ≡ (b || c)
cond_or true c = refl
cond_or false c = refl

or_again : (a b : Bool) → (a || (a || b)) ≡ (a || b)
or_again true b = refl
or_again false b = refl

or_turned : (a b c : Bool) → (a || (b || c)) ≡ (b || (a || c))
or_turned true true c = refl
or_turned true false c = refl
or_turned false true c = refl
or_turned false false c = refl

-- ---- one is put in

put_in : (ks : List Numbers) (k : Numbers) (j : Ident) → has_numbers (insert_key numbers_cmp ks k) j ≡ (eq_by_cmp lexical j k.items || has_numbers ks j)
put_in [] k j = refl
put_in (x ∷ ks) k j =
    elim (lexical k.items x.items) as (λ o. lexical k.items x.items ≡ o
    → has_numbers (match_ordering o (k ∷ x ∷ ks) (x ∷ ks) (x ∷ insert_key numbers_cmp ks k)) j
    ≡ (eq_by_cmp lexical j k.items || (eq_by_cmp lexical j x.items || has_numbers ks j))) [
      | Less ↦ λ e. refl
      | Equal ↦ λ e.
          sym (ap (λ i. eq_by_cmp lexical j i || (eq_by_cmp lexical j x.items || has_numbers ks j)) (by_name.same k.items x.items e)
          ∙ or_again (eq_by_cmp lexical j x.items) (has_numbers ks j))
      | Greater ↦ λ e.
          ap (λ b. eq_by_cmp lexical j x.items || b) (put_in ks k j)
          ∙ or_turned (eq_by_cmp lexical j x.items) (eq_by_cmp lexical j k.items) (has_numbers ks j)
    ] refl

pub front_put : (ks ms : List Numbers) (k : Numbers) (id : Ident) → k.items ≡ id → ms ≡ insert_key numbers_cmp ks k → (j : Ident)
    → has_numbers ms j ≡ cond (is_here id j) true (has_numbers ks j)
front_put ks ms k id is put = λ j.
    ap (λ ns. has_numbers ns j) put ∙ put_in ks k j ∙ ap (λ i. eq_by_cmp lexical j i || has_numbers ks j) is
    ∙ ap (λ b. b || has_numbers ks j) (turned j id) ∙ sym (cond_or (is_here id j) (has_numbers ks j))

-- ---- one is taken out

taken_out : (ks : List Numbers) (id j : Ident) → is_here id j ≡ false → has_numbers (remove_key (λ k. is_eq (lexical id k.items)) ks) j ≡ has_numbers ks j
taken_out [] id j off = refl
taken_out (x ∷ ks) id j off = by_test (eq_by_cmp lexical id x.items)
    (λ t.
    let other : eq_by_cmp lexical j x.items ≡ false = turned j x.items ∙ ap (λ i. eq_by_cmp lexical i j) (sym (tied by_name id x.items t)) ∙ off in
    ap (λ b. has_numbers (cond b ks (x ∷ remove_key (λ k. is_eq (lexical id k.items)) ks)) j) t ∙ sym (ap (λ b. b || has_numbers ks j) other))
    (λ f.
    ap (λ b. has_numbers (cond b ks (x ∷ remove_key (λ k. is_eq (lexical id k.items)) ks)) j) f
    ∙ ap (λ b. eq_by_cmp lexical j x.items || b) (taken_out ks id j off))

pub front_taken : (ks ms : List Numbers) (id at : Ident) → at ≡ id → has_numbers ms at ≡ false
    → ms ≡ remove_key (λ k. is_eq (lexical at k.items)) ks → (j : Ident)
    → has_numbers ms j ≡ cond (is_here id j) false (has_numbers ks j)
front_taken ks ms id at is gone taken = λ j. by_test (is_here id j)
    (λ here.
    ap (has_numbers ms) (sym (is ∙ tied by_name id j here)) ∙ gone ∙ sym (cond-true (is_here id j) false (has_numbers ks j) here))
    (λ off.
    ap (λ ns. has_numbers ns j) taken ∙ taken_out ks at j (ap (λ i. is_here i j) is ∙ off) ∙ sym (cond-false (is_here id j) false (has_numbers ks j) off))

pub no_numbers : (ks : List Numbers) → length ks ≡ 0 → (j : Ident) → has_numbers ks j ≡ false
no_numbers [] e j = refl
no_numbers (k ∷ ks) e j = absurd (omega (arith, e))

-- ---- held

-- one number more
held_longer : (marks runs : Ident → Bool) (above : Bool) (xs : Ident) (x : ℕ)
    → held_on marks runs above (xs ++ x ∷ []) ≡ goes_on (marks (xs ++ x ∷ [])) (runs (xs ++ x ∷ [])) (held_on marks runs above xs)
held_longer marks runs above [] x = refl
held_longer marks runs above (n ∷ xs) x = held_longer (λ i. marks (n ∷ i)) (λ i. runs (n ∷ i)) (goes_on (marks []) (runs []) above) xs x

pub held_more : (marks runs : Ident → Bool) (j front : Ident) (k : ℕ) → k < length j → front ≡ take (k + 1) j
    → goes_on (marks front) (runs front) (held_on marks runs false (take k j)) ≡ held_on marks runs false (take (k + 1) j)
held_more marks runs j front k lt is =
    let more : take (k + 1) j ≡ take k j ++ get_or j k 0 ∷ [] = take_more j k 0 lt in
    ap (λ i. goes_on (marks i) (runs i) (held_on marks runs false (take k j))) (is ∙ more)
    ∙ sym (held_longer marks runs false (take k j) (get_or j k 0)) ∙ ap (held_on marks runs false) (sym more)

pub never_held : (marks runs : Ident → Bool) (j : Ident) → ((i : Ident) → marks i ≡ false) → held_on marks runs false j ≡ false
never_held marks runs [] none = ap (λ b. goes_on b (runs []) false) (none [])
never_held marks runs (n ∷ j) none =
    ap (λ b. held_on (λ i. marks (n ∷ i)) (λ i. runs (n ∷ i)) (goes_on b (runs []) false) j) (none [])
    ∙ never_held (λ i. marks (n ∷ i)) (λ i. runs (n ∷ i)) j (λ i. none (n ∷ i))

-- by the same marks and runs
pub held_alike : (marks runs others more : Ident → Bool) (above : Bool) (j : Ident) → ((i : Ident) → marks i ≡ others i) → ((i : Ident) → runs i ≡ more i)
    → held_on marks runs above j ≡ held_on others more above j
held_alike marks runs others more above [] m r = ap (λ b. goes_on b (runs []) above) (m []) ∙ ap (λ b. goes_on (others []) b above) (r [])
held_alike marks runs others more above (n ∷ j) m r =
    ap (λ b. held_on (λ i. marks (n ∷ i)) (λ i. runs (n ∷ i)) (goes_on b (runs []) above) j) (m [])
    ∙ ap (λ b. held_on (λ i. marks (n ∷ i)) (λ i. runs (n ∷ i)) (goes_on (others []) b above) j) (r [])
    ∙ held_alike (λ i. marks (n ∷ i)) (λ i. runs (n ∷ i)) (λ i. others (n ∷ i)) (λ i. more (n ∷ i))
    (goes_on (others []) (more []) above) j (λ i. m (n ∷ i)) (λ i. r (n ∷ i))
