-- Texts with a comma between each two, and identities with one number more.
use Rattle.std.proofs.Common.{◌≡◌, ℕ, ◌+◌, ◌<◌, List, [], ◌∷◌, ◌++◌, length, map, nat_lt, take, get_or, true, refl, sym, ap, ◌∙◌, append_assoc, arith}
use Rattle.std.proofs.lemmas.Bool.{lt-ltb}
use Rattle.std.proofs.lemmas.List.{length-map, length-take, map-append, take_more}
use Rattle.std.proofs.lemmas.List.FromFn.{length-map-range_with_len, map-range_with_len_more}
use Rattle.std.specs.Fmt.{decimal}
use Rattle.std.specs.List.{flat_map}
use Rattle.yw_base.specs.Identity.{dotted, child}
use Rattle.yw_lines.specs.EventTexts.{item_idents, listed}
use Rattle.yw_wire.specs.Listed.{comma_if}

listed_behind : (first : List ℕ) (texts : List (List ℕ)) (text : List ℕ) → listed ((first ∷ texts) ++ text ∷ []) ≡ (listed (first ∷ texts) ++ 44 ∷ []) ++ text
listed_behind t [] text = sym (append_assoc t (44 ∷ []) text)
listed_behind t (u ∷ us) text =
    ap (λ (ts : List ℕ). t ++ 44 ∷ ts) (listed_behind u us text) ∙ simp append_assoc

-- a list with one text more
listed_more : (texts : List (List ℕ)) (text : List ℕ) (k : ℕ) → length texts ≡ k → listed (texts ++ text ∷ []) ≡ (listed texts ++ comma_if (nat_lt 0 k)) ++ text
listed_more [] text k long = rw (sym long) refl
listed_more (t ∷ ts) text k long =
    let later : nat_lt 0 k ≡ true = lt-ltb 0 k (omega arith) in
    rw later (listed_behind t ts text)

-- A text that ends with a list, and then with a comma, where one is due, and one text more.
pub goes_on : (base : List ℕ) (texts more : List (List ℕ)) (word : List ℕ) (k : ℕ) (before comma after : List ℕ) → length texts ≡ k → more ≡ texts ++ word ∷ [] → before ≡ base ++ listed texts → comma ≡ before ++ comma_if (nat_lt 0 k) → after ≡ comma ++ word → after ≡ base ++ listed more
goes_on base texts more word k before comma after long grows is_before is_comma is_after =
    let written : after ≡ ((base ++ listed texts) ++ comma_if (nat_lt 0 k)) ++ word = cc in
    let one : ((base ++ listed texts) ++ comma_if (nat_lt 0 k)) ++ word ≡ base ++ ((listed texts ++ comma_if (nat_lt 0 k)) ++ word) = simp append_assoc in
    written ∙ one ∙ ap (λ (t : List ℕ). base ++ t) (sym (listed_more texts word k long)) ∙ ap (λ (ts : List (List ℕ)). base ++ listed ts) (sym grows)

-- the texts of the first elements, and of one more
pub front_more : {X : Type 0} (f : X → List ℕ) (xs : List X) (k : ℕ) (x : X) → k < length xs → x ≡ get_or xs k x → map f (take (k + 1) xs) ≡ map f (take k xs) ++ f x ∷ []
front_more f xs k x within is =
    ap (map f) (take_more xs k x within) ∙ map-append f (take k xs) (get_or xs k x ∷ []) ∙ ap (λ y. map f (take k xs) ++ f y ∷ []) (sym is)

pub length-front : {X : Type 0} (f : X → List ℕ) (xs : List X) (k : ℕ) → k < length xs → length (map f (take k xs)) ≡ k
length-front f xs k within = length-map (take k xs) f ∙ length-take k xs ∙ omega arith

-- one item more
pub items_more : (net : List ℕ) (first k number : ℕ) → first + k ≡ number → item_idents net first (k + 1) ≡ item_idents net first k ++ dotted (child net number) ∷ []
items_more net first k number same = map-range_with_len_more (λ n. dotted (child net n)) first k number same

pub length-item_idents : (net : List ℕ) (first k : ℕ) → length (item_idents net first k) ≡ k
length-item_idents net first k = length-map-range_with_len (λ n. dotted (child net n)) first k

-- numbers with a dot behind each
abbrev pub each_dotted : List ℕ → List ℕ
each_dotted numbers = flat_map (λ n. decimal n ++ 46 ∷ []) numbers

first_dotted : (first : ℕ) (numbers : List ℕ) (number : ℕ) → dotted (first ∷ (numbers ++ number ∷ [])) ≡ (decimal first ++ 46 ∷ []) ++ dotted (numbers ++ number ∷ [])
first_dotted first [] number = sym (append_assoc (decimal first) (46 ∷ []) (decimal number))
first_dotted first (n ∷ ns) number = sym (append_assoc (decimal first) (46 ∷ []) (dotted (n ∷ (ns ++ number ∷ []))))

-- an identity with one number more
child_dotted : (numbers : List ℕ) (number : ℕ) → dotted (child numbers number) ≡ each_dotted numbers ++ decimal number
child_dotted [] number = refl
child_dotted (n ∷ ns) number =
    first_dotted n ns number ∙ ap (λ t. (decimal n ++ 46 ∷ []) ++ t) (child_dotted ns number) ∙ sym (append_assoc (decimal n ++ 46 ∷ []) (each_dotted ns) (decimal number))

-- the last number behind those before it
pub child_written : (base numbers front : List ℕ) (number : ℕ) (before : List ℕ) → before ≡ base ++ each_dotted front → front ≡ numbers → before ++ decimal number ≡ base ++ dotted (child numbers number)
child_written base numbers front number before is_before all =
    ap (λ (t : List ℕ). t ++ decimal number) (is_before ∙ ap (λ (ns : List ℕ). base ++ each_dotted ns) all)
    ∙ append_assoc base (each_dotted numbers) (decimal number) ∙ ap (λ (t : List ℕ). base ++ t) (sym (child_dotted numbers number))
