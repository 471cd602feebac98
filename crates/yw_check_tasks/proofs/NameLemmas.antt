-- Names among names, and how often one stands there.
use Rattle.std.proofs.Common.{◌≡◌, ◌==◌, ◌&&◌, ◌||◌, ℕ, ◌+◌, Bool, true, false, List, [], ◌∷◌, map, cond, count_by, nat_lt, Bor, BTreeMap, bytes_eq, refl, sym, ap, ◌∙◌, arith, zero-add}
use Rattle.std.proofs.lemmas.Bool.Decides.{nat_tests}
use Rattle.std.proofs.lemmas.List.Folds.{list_all-map}
use Rattle.std.proofs.lemmas.List.Sums.{sum_by-cons}
use Rattle.std.specs.List.{list_any, list_all}
use Rattle.yw_read.specs.declared.raw.RawBranch.{RawBranch}
use Rattle.yw_accept.specs.Nodes.{is_name_among}
use Rattle.yw_check_tasks.specs.Outputs.{texts_of, AreCounts, is_counted, is_counted_once}

-- tests of what elements are sent to
count_by_of_map : {A B : Type 0} (p : B → Bool) (f : A → B) (xs : List A) → count_by p (map f xs) ≡ count_by (λ x. p (f x)) xs
count_by_of_map p f [] = refl
count_by_of_map p f (x ∷ xs) =
    sum_by-cons (λ y. cond (p y) 1 0) (f x) (map f xs) ∙ ap (λ n. cond (p (f x)) 1 0 + n) (count_by_of_map p f xs) ∙ sym (sum_by-cons (λ y. cond (p (f y)) 1 0) x xs)

list_all_same : {A : Type 0} (p q : A → Bool) → ((x : A) → p x ≡ q x) → (xs : List A) → list_all p xs ≡ list_all q xs
list_all_same p q h [] = refl
list_all_same p q h (x ∷ xs) = ap (λ b. b && list_all p xs) (h x) ∙ ap (λ b. q x && b) (list_all_same p q h xs)

one_more : (b : Bool) (n : ℕ) (r : Bool) → nat_lt 0 n ≡ r → nat_lt 0 (cond b 1 0 + n) ≡ (b || r)
one_more true n r h = grind (arith, nat_tests)
one_more false n r h = ap (nat_lt 0) (zero-add n) ∙ h

-- some are counted exactly where one passes
counted_any : {A : Type 0} (p : A → Bool) (xs : List A) → nat_lt 0 (count_by p xs) ≡ list_any p xs
counted_any p [] = refl
counted_any p (x ∷ xs) = ap (nat_lt 0) (sum_by-cons (λ y. cond (p y) 1 0) x xs) ∙ one_more (p x) (count_by p xs) (list_any p xs) (counted_any p xs)

pub is_one : (n m : ℕ) → n ≡ m → n ≡ 1 → (m == 1) ≡ true
is_one n m e h = grind (arith, nat_tests)

pub not_one : (n m : ℕ) → n ≡ m → (n ≡ 1 → ⊥) → (m == 1) ≡ false
not_one n m e h = grind (arith, nat_tests)

-- branches looked up among counted outputs, and outputs among counted branches
pub branches_agree : (outputs : List (Bor (List ℕ))) (branches : List RawBranch) (given named : BTreeMap (Bor (List ℕ)) ℕ) →
    AreCounts (λ name. name.now) outputs given → AreCounts (λ (b : RawBranch). b.to) branches named → (last : Bool) →
    (list_all (is_counted given) branches && list_all (is_counted_once named) outputs && last)
    ≡ (list_all (λ (b : RawBranch). is_name_among (texts_of outputs) b.to) branches && list_all (λ output. count_by (λ (b : RawBranch). bytes_eq output b.to) branches == 1) (texts_of outputs) && last)
branches_agree outputs branches given named is_given is_named last =
    let text : Bor (List ℕ) → List ℕ = λ o. o.now in
    let leads : RawBranch → Bool = λ b. is_name_among (texts_of outputs) b.to in
    let once : List ℕ → Bool = λ output. count_by (λ (b : RawBranch). bytes_eq output b.to) branches == 1 in
    let each_leads : list_all (is_counted given) branches ≡ list_all leads branches =
    list_all_same _ _ (λ b. ap (nat_lt 0) (is_given b.to ∙ sym (count_by_of_map (bytes_eq b.to) text outputs)) ∙ counted_any (bytes_eq b.to) (texts_of outputs)) branches in
    let each_once : list_all (is_counted_once named) outputs ≡ list_all once (texts_of outputs) =
    list_all_same _ _ (λ o. ap (λ n. n == 1) (is_named o.now)) outputs ∙ sym (list_all-map once text outputs) in
    ap (λ b. b && list_all (is_counted_once named) outputs && last) each_leads ∙ ap (λ b. list_all leads branches && b && last) each_once
