-- What more bytes do to the lines.
use Rattle.std.proofs.Common.{◌≡◌, ◌≢◌, ℕ, suc, ◌==◌, List, [], ◌∷◌, ◌++◌, Bool, true, false, cond, refl, sym, ap, inl, inr, ◌∙◌, append_assoc, arith}
use Rattle.std.proofs.lemmas.Bool.Decides.{eqb_tells}
use Rattle.std.proofs.lemmas.List.{append-nil}
use Rattle.yw_lines.specs.Lines.{newline, HasNoNewline, with_byte, whole_lines, rest_after, last_part}

first_append : (x : ℕ) (t : Bool) → (x == newline) ≡ t → (ws : List (List ℕ)) (r ys : List ℕ)
    → cond t ([] ∷ (ws ++ whole_lines (r ++ ys))) (with_byte x (ws ++ whole_lines (r ++ ys))) ≡ cond t ([] ∷ ws) (with_byte x ws) ++ whole_lines (rest_after t x ws r ++ ys)
first_append x true e [] r ys = refl
first_append x true e (w ∷ ws) r ys = refl
first_append x false e [] r ys = sym (ap (λ (t : Bool). cond t ([] ∷ whole_lines (r ++ ys)) (with_byte x (whole_lines (r ++ ys)))) e)
first_append x false e (w ∷ ws) r ys = refl

eqb_no_newline : (b : ℕ) → b ≢ newline → (b == newline) ≡ false
eqb_no_newline b ne = elim (eqb_tells b newline) [ inl same ↦ absurd (ne same.1) | inr other ↦ other.0 ]

-- more bytes end more lines
pub whole_lines-append : (xs ys : List ℕ) → whole_lines (xs ++ ys) ≡ whole_lines xs ++ whole_lines (last_part xs ++ ys)
whole_lines-append [] ys = refl
whole_lines-append (x ∷ xs) ys =
    ap (λ (ws : List (List ℕ)). cond (x == newline) ([] ∷ ws) (with_byte x ws)) (whole_lines-append xs ys)
    ∙ first_append x (x == newline) refl (whole_lines xs) (last_part xs) ys

first_line : (t : Bool) (x : ℕ) (ws : List (List ℕ)) (r : List ℕ) → cond t ([] ∷ (ws ++ r ∷ [])) (with_byte x (ws ++ r ∷ [])) ≡ cond t ([] ∷ ws) (with_byte x ws) ++ rest_after t x ws r ∷ []
first_line true x [] r = refl
first_line true x (w ∷ ws) r = refl
first_line false x [] r = refl
first_line false x (w ∷ ws) r = refl

-- a newline ends the line that stands last
pub whole_lines-newline : (bs : List ℕ) → whole_lines (bs ++ newline ∷ []) ≡ whole_lines bs ++ last_part bs ∷ []
whole_lines-newline [] = refl
whole_lines-newline (x ∷ xs) = ap (λ (ws : List (List ℕ)). cond (x == newline) ([] ∷ ws) (with_byte x ws)) (whole_lines-newline xs) ∙ first_line (x == newline) x (whole_lines xs) (last_part xs)

no_rest : (t : Bool) (x : ℕ) (ws : List (List ℕ)) (r : List ℕ) → rest_after t x (ws ++ r ∷ []) [] ≡ []
no_rest t x [] r = refl
no_rest t x (w ∷ ws) r = refl

pub last_part-newline : (bs : List ℕ) → last_part (bs ++ newline ∷ []) ≡ []
last_part-newline [] = refl
last_part-newline (x ∷ xs) =
    ap (λ (r : List ℕ). rest_after (x == newline) x (whole_lines (xs ++ newline ∷ [])) r) (last_part-newline xs)
    ∙ ap (λ (ws : List (List ℕ)). rest_after (x == newline) x ws []) (whole_lines-newline xs)
    ∙ no_rest (x == newline) x (whole_lines xs) (last_part xs)

push_lines : (bs : List ℕ) (b : ℕ) → (b == newline) ≡ false → whole_lines (bs ++ b ∷ []) ≡ whole_lines bs
push_lines [] b e = ap (λ (t : Bool). cond t ([] ∷ []) []) e
push_lines (x ∷ xs) b e = ap (λ (ws : List (List ℕ)). cond (x == newline) ([] ∷ ws) (with_byte x ws)) (push_lines xs b e)

longer_rest : (t : Bool) (x : ℕ) (ws : List (List ℕ)) (r : List ℕ) (b : ℕ) → rest_after t x ws (r ++ b ∷ []) ≡ rest_after t x ws r ++ b ∷ []
longer_rest true x [] r b = refl
longer_rest false x [] r b = refl
longer_rest t x (w ∷ ws) r b = refl

push_part : (bs : List ℕ) (b : ℕ) → (b == newline) ≡ false → last_part (bs ++ b ∷ []) ≡ last_part bs ++ b ∷ []
push_part [] b e = ap (λ (t : Bool). cond t [] (b ∷ [])) e
push_part (x ∷ xs) b e =
    ap (λ (r : List ℕ). rest_after (x == newline) x (whole_lines (xs ++ b ∷ [])) r) (push_part xs b e)
    ∙ ap (λ (ws : List (List ℕ)). rest_after (x == newline) x ws (last_part xs ++ b ∷ [])) (push_lines xs b e)
    ∙ longer_rest (x == newline) x (whole_lines xs) (last_part xs) b

first_is_none : (b : ℕ) (bs : List ℕ) → HasNoNewline (b ∷ bs) → (b == newline) ≡ false
first_is_none b bs h = eqb_no_newline b (h 0 0 (omega arith))

rest_has_none : (b : ℕ) (bs : List ℕ) → HasNoNewline (b ∷ bs) → HasNoNewline bs
rest_has_none b bs h = λ k d less. h (suc k) d (omega arith)

-- bytes without a newline end no line
pub whole_lines-part : (bs part : List ℕ) → HasNoNewline part → whole_lines (bs ++ part) ≡ whole_lines bs
whole_lines-part bs [] h = ap whole_lines (append-nil bs)
whole_lines-part bs (b ∷ part) h =
    ap whole_lines (sym (append_assoc bs (b ∷ []) part)) ∙ whole_lines-part (bs ++ b ∷ []) part (rest_has_none b part h) ∙ push_lines bs b (first_is_none b part h)

-- they make the last part longer
pub last_part-part : (bs part : List ℕ) → HasNoNewline part → last_part (bs ++ part) ≡ last_part bs ++ part
last_part-part bs [] h = ap last_part (append-nil bs) ∙ sym (append-nil (last_part bs))
last_part-part bs (b ∷ part) h =
    ap last_part (sym (append_assoc bs (b ∷ []) part))
    ∙ last_part-part (bs ++ b ∷ []) part (rest_has_none b part h)
    ∙ ap (λ (r : List ℕ). r ++ part) (push_part bs b (first_is_none b part h))
    ∙ append_assoc (last_part bs) (b ∷ []) part
