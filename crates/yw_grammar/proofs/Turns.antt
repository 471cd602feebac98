-- The parser's loop and its ends.
use Rattle.std.proofs.Common.{◌≡◌, ℕ, suc, ◌+◌, ◌<◌, List, [], ◌∷◌, ◌++◌, length, take, drop, get_or, Option, Some, None, Result, Ok, Err, refl, sym, ap, ◌∙◌, subst, inl, inr, take-append-drop, append_assoc, ⊎_elim}
use Rattle.std.proofs.Math.Seq.{drop-cons}
use Rattle.std.proofs.lemmas.List.{take_more}
use Rattle.yw_grammar.specs.declared.symbol.Lexeme.{Lexeme}
use Rattle.yw_grammar.specs.declared.tree.SyntaxTree.{SyntaxTree}
use Rattle.yw_grammar.specs.declared.tree.SyntaxFault.{SyntaxFault}
use Rattle.yw_grammar.specs.declared.tree.SyntaxFault.TheVariants as faults
use Rattle.yw_grammar.specs.Grammar.{Form, AreAll, Begins, StopsAt, IsSyntaxFault}
use Rattle.yw_grammar.specs.Machine.{State, want, step, run_on, finish}
use Rattle.yw_grammar.specs.Reading.{IsFault, Reads, IsNoFault, IsOnly, IsPlace, IsOnlyFault}
use Rattle.yw_grammar.specs.SyntaxTree.{form_of}
use Rattle.yw_grammar.specs.Tie.{Fails, Finishes}
use Rattle.yw_grammar.proofs.Complete.{run_append}
use Rattle.yw_grammar.proofs.Sound.{sound, begins_if, begins_not, all_not, one_tree}

start : Option State
start = Some (want [])

module _ (ts : List Lexeme) (i : ℕ) (d : Lexeme) (s : State) (within : i < length ts) (ran : run_on (Some (want [])) (take i ts) ≡ Some s) where
  ran_more : run_on (Some (want [])) (take (i + 1) ts) ≡ step s (get_or ts i d)
  ran_more = ap (run_on (Some (want []))) (take_more ts i d within) ∙ run_append (Some (want [])) (take i ts) (get_or ts i d ∷ []) ∙ ap (λ o. run_on o (get_or ts i d ∷ [])) ran

  -- one lexeme more
  pub run_more : (next : State) → step s (get_or ts i d) ≡ Some next → run_on (Some (want [])) (take (i + 1) ts) ≡ Some next
  run_more next h = ran_more ∙ h

  -- the lexeme with which no expression begins
  pub stops : (end : ℕ) → step s (get_or ts i d) ≡ None → IsSyntaxFault ts end (get_or ts i d).at
  stops end h =
      let none : run_on (Some (want [])) (take i ts ++ get_or ts i d ∷ []) ≡ None = ap (run_on (Some (want []))) (sym (take_more ts i d within)) ∙ ran_more ∙ h in
      inl (
        take i ts,
        get_or ts i d,
        drop (suc i) ts,
        sym (take-append-drop i ts) ∙ ap (λ l. take i ts ++ l) (drop-cons ts i d within),
        begins_if (take i ts) s ran,
        begins_not (take i ts ++ get_or ts i d ∷ []) none,
        refl,
      )

  pub fault_at : (f : SyntaxFault) (end : ℕ) → Fails f (get_or ts i d).at (step s (get_or ts i d)) → IsFault f ts end
  fault_at faults.Memory end h = tt
  fault_at (faults.At p) end h = subst (λ q. IsSyntaxFault ts end q) (sym h.1) (stops end h.0)

pub ends_with : (ts : List Lexeme) (s : State) (end : ℕ) (r : Result SyntaxTree SyntaxFault) → run_on (Some (want [])) ts ≡ Some s → Finishes r (finish s) end → Reads r ts end
ends_with ts s end (Ok t) h k = sound ts s (form_of t) h k
ends_with ts s end (Err faults.Memory) h k = tt
ends_with ts s end (Err (faults.At at)) h k = inr ((begins_if ts s h, all_not ts s h k.0), k.1)

no_stop : (ts : List Lexeme) (at : ℕ) (e : Form) → AreAll ts e → StopsAt ts at → ⊥
no_stop ts at e r (front, t, back, eq, begun, stops, is) =
    stops (back, e, subst (λ l. AreAll l e) (eq ∙ sym (append_assoc front (t ∷ []) back)) r)

-- of two fronts of a list one goes on as the other does
pub data Compared (front other : List Lexeme) (t u : Lexeme) : Type 0 where
  same : front ≡ other → t ≡ u → Compared front other t u
  shorter : (more : List Lexeme) → other ≡ (front ++ t ∷ []) ++ more → Compared front other t u
  longer : (more : List Lexeme) → front ≡ (other ++ u ∷ []) ++ more → Compared front other t u

compared_more : {front other : List Lexeme} {t u : Lexeme} (x : Lexeme) → Compared front other t u → Compared (x ∷ front) (x ∷ other) t u
compared_more x (same p q) = same (ap (λ l. x ∷ l) p) q
compared_more x (shorter more p) = shorter more (ap (λ l. x ∷ l) p)
compared_more x (longer more p) = longer more (ap (λ l. x ∷ l) p)

compared : (front other back rest : List Lexeme) (t u : Lexeme) → front ++ t ∷ back ≡ other ++ u ∷ rest → Compared front other t u
compared [] [] back rest t u e = same refl cc
compared [] (y ∷ other) back rest t u e = shorter other cc
compared (x ∷ front) [] back rest t u e = longer front cc
compared (x ∷ front) (y ∷ other) back rest t u e =
    let h : x ≡ y = cc in
    subst (λ z. Compared (x ∷ front) (z ∷ other) t u) h (compared_more x (compared front other back rest t u cc))

-- what begins with more lexemes begins without them
begins_front : (front more : List Lexeme) → Begins (front ++ more) → Begins front
begins_front front more (rest, e, r) = (more ++ rest, e, subst (λ l. AreAll l e) (append_assoc front more rest) r)

same_stop : (front other : List Lexeme) (t u : Lexeme) → Begins front → (Begins (front ++ t ∷ []) → ⊥) → Begins other → (Begins (other ++ u ∷ []) → ⊥) → Compared front other t u → t.at ≡ u.at
same_stop front other t u b s c r (same p q) = ap (λ (l : Lexeme). l.at) q
same_stop front other t u b s c r (shorter more p) = absurd (s (begins_front (front ++ t ∷ []) more (subst Begins p c)))
same_stop front other t u b s c r (longer more p) = absurd (r (begins_front (other ++ u ∷ []) more (subst Begins p b)))

one_stop : (ts : List Lexeme) (p q : ℕ) → StopsAt ts p → StopsAt ts q → p ≡ q
one_stop ts p q (front, t, back, eq, b, s, is) (other, u, rest, eq2, c, r, is2) =
    is ∙ same_stop front other t u b s c r (compared front other back rest t u (sym eq ∙ eq2)) ∙ sym is2

not_both : (ts : List Lexeme) (p : ℕ) → StopsAt ts p → Begins ts → ⊥
not_both ts p (front, t, back, eq, b, s, is) h = s (begins_front (front ++ t ∷ []) back (subst Begins (eq ∙ sym (append_assoc front (t ∷ []) back)) h))

-- a fault is in one place
pub one_place : (ts : List Lexeme) (end p q : ℕ) → IsSyntaxFault ts end p → IsSyntaxFault ts end q → p ≡ q
one_place ts end p q (inl s) (inl r) = one_stop ts p q s r
one_place ts end p q (inl s) (inr h) = absurd (not_both ts p s h.0.0)
one_place ts end p q (inr h) (inl r) = absurd (not_both ts q r h.0.0)
one_place ts end p q (inr h) (inr k) = h.1 ∙ sym k.1

-- what is spelled has no fault
pub no_fault_in : (ts : List Lexeme) (end at : ℕ) (e : Form) → AreAll ts e → IsSyntaxFault ts end at → ⊥
no_fault_in ts end at e r (inl s) = no_stop ts at e r s
no_fault_in ts end at e r (inr q) = q.0.1 e r

no_fault : (f : SyntaxFault) (ts : List Lexeme) (end : ℕ) (e : Form) → AreAll ts e → IsFault f ts end → IsNoFault f
no_fault faults.Memory ts end e r h = tt
no_fault (faults.At at) ts end e r h = ⊎_elim (λ s. no_stop ts at e r s) (λ q. q.0.1 e r) h

pub only : (result : Result SyntaxTree SyntaxFault) (ts : List Lexeme) (end : ℕ) → Reads result ts end → (e : Form) → AreAll ts e → IsOnly result e
only (Ok t) ts end h e r = one_tree h r
only (Err f) ts end h e r = no_fault f ts end e r h

same_place : (f : SyntaxFault) (ts : List Lexeme) (end at : ℕ) → IsFault f ts end → IsSyntaxFault ts end at → IsPlace f at
same_place faults.Memory ts end at h k = tt
same_place (faults.At p) ts end at h k = one_place ts end p at h k

pub only_fault : (result : Result SyntaxTree SyntaxFault) (ts : List Lexeme) (end : ℕ) → Reads result ts end → (at : ℕ) → IsSyntaxFault ts end at → IsOnlyFault result at
only_fault (Ok t) ts end h at k = no_fault_in ts end at (form_of t) h k
only_fault (Err f) ts end h at k = same_place f ts end at h k
