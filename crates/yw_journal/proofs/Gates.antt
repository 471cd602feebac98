-- What the writes of a file made anew leave of it.
use Rattle.std.proofs.Common.{◌≡◌, ◌≢◌, ◌⊎◌, ◌==◌, ◌&&◌, ℕ, ◌+◌, ◌≤◌, ◌<◌, nat_le, List, [], ◌∷◌, ◌++◌, length, take, drop, get_or, Bool, true, false, inl, inr, ⊎_elim, refl, sym, subst, ap, ◌∙◌, arith, append_assoc, length-append, length-take}
use Rattle.std.proofs.lemmas.List.{take_at, drop_at, drop-drop, take-take, drop_more, get_or-take}
use Rattle.std.proofs.lemmas.Bool.{eqb-true, eqb-false, ne_eqb, leb-true}
use Rattle.yw_outside.specs.Image.{Holds, Torn}
use Rattle.yw_journal.specs.Calls.{IsFilledAfter, IsMadeOver, IsOpenOrEmpty, IsShut, IsShutOf}
use Rattle.yw_journal.specs.Files.{is_live}

and_false : (p q : Bool) → q ≡ false → (p && q) ≡ false
and_false true q e = e
and_false false q e = refl

-- a file whose gate isn't open isn't live
pub not_open : (l : List ℕ) → get_or l 0 0 ≢ 1 → is_live l ≡ false
not_open l shut = and_false (nat_le 30 (length l)) (get_or l 0 0 == 1) (ne_eqb (get_or l 0 0) 1 shut)

-- nor is a short one
pub not_long : (l : List ℕ) → length l < 30 → is_live l ≡ false
not_long l short =
    elim (nat_le 30 (length l)) as (λ b. nat_le 30 (length l) ≡ b → (b && (get_or l 0 0 == 1)) ≡ false) [
      | true ↦ λ e. absurd (omega (arith, leb-true 30 (length l) e))
      | false ↦ λ e. refl
    ] refl

-- whether the gate is open
pub open_or_not : (l : List ℕ) → (get_or l 0 0 ≡ 1) ⊎ (get_or l 0 0 ≢ 1)
open_or_not l =
    elim (get_or l 0 0 == 1) as (λ b. (get_or l 0 0 == 1) ≡ b → (get_or l 0 0 ≡ 1) ⊎ (get_or l 0 0 ≢ 1)) [
      | true ↦ λ e. inl (eqb-true (get_or l 0 0) 1 e)
      | false ↦ λ e. inr (eqb-false (get_or l 0 0) 1 e)
    ] refl

not_both : (n : ℕ) → n ≡ 0 → n ≡ 1 → ⊥
not_both n e f = omega arith

-- a file with an open gate has a first byte
open_some : (l : List ℕ) → get_or l 0 0 ≡ 1 → 1 ≤ length l
open_some [] e = absurd (not_both 0 refl e)
open_some (x ∷ l) e = omega arith

-- its bytes are the gate and what stands behind it
gate_and_rest : (l : List ℕ) (g : ℕ) → 1 ≤ length l → get_or l 0 0 ≡ g → l ≡ g ∷ drop 1 l
gate_and_rest l g some e = drop_more l 0 0 (omega arith) ∙ ap (λ (x : ℕ). x ∷ drop 1 l) e

-- the gate of an empty file, or an open one, is closed
pub shutting : (old c : List ℕ) → (length old ≡ 0) ⊎ (get_or old 0 0 ≡ 1) → Torn 0 1 old c → (c ≡ old) ⊎ (is_live c ≡ false)
shutting old c was torn = ⊎_elim (opened was) (λ (shut : get_or c 0 0 ≢ 1). inr (not_open c shut)) (open_or_not c)
  where
    opened : (length old ≡ 0) ⊎ (get_or old 0 0 ≡ 1) → get_or c 0 0 ≡ 1 → (c ≡ old) ⊎ (is_live c ≡ false)
    opened (inl empty) e = inr (not_long c (omega (arith, empty, torn.no_longer)))
    opened (inr open_) e = inl (gate_and_rest c 1 (open_some c e) e ∙ ap (λ (l : List ℕ). 1 ∷ l) torn.after ∙ sym (gate_and_rest old 1 (open_some old open_) open_))

pub is_shut : (old c : List ℕ) → IsOpenOrEmpty old → Holds old 0 (0 ∷ []) c → IsShutOf old c
is_shut old c was holds = record {
  some = omega (arith, ap length holds);
  gate = λ (e : get_or c 0 0 ≡ 1). not_both (get_or c 0 0) (ap (λ (l : List ℕ). get_or l 0 0) holds) e;
  after = ap (drop 1) holds;
}

-- a gate that is closed already stays so
pub stays_so : (file : List ℕ) → IsShut file → IsShutOf file file
stays_so file shut = record { some = shut.0; gate = shut.1; after = refl }

-- a write behind the gate leaves it
pub gate_stays : (at n : ℕ) (old c : List ℕ) → 1 ≤ at → Torn at n old c → take 1 c ≡ take 1 old
gate_stays at n old c le torn = sym (take-take 1 at c le) ∙ ap (take 1) torn.before ∙ take-take 1 at old le

same_gate : (old c : List ℕ) → take 1 c ≡ take 1 old → get_or c 0 0 ≡ get_or old 0 0
same_gate old c same = sym (get_or-take 1 c 0 0 (omega arith)) ∙ ap (λ (l : List ℕ). get_or l 0 0) same ∙ get_or-take 1 old 0 0 (omega arith)

pub stays_shut : (old c : List ℕ) → get_or old 0 0 ≢ 1 → take 1 c ≡ take 1 old → is_live c ≡ false
stays_shut old c shut same = not_open c (λ (e : get_or c 0 0 ≡ 1). shut (sym (same_gate old c same) ∙ e))

-- the header and what follows it stand after the gate
pub rest_written : (old mid c header framed : List ℕ) → 1 ≤ length old → length header ≡ 20 → Holds old 1 header mid → Holds mid 21 framed c → IsFilledAfter header framed old c
rest_written old mid c header framed some twenty first second =
    let one : length (take 1 old) ≡ 1 = omega (arith, length-take 1 old) in
    let size : length (take 1 old ++ header) ≡ 21 = omega (arith, length-append (take 1 old) header, one, twenty) in
    let front : take 21 mid ≡ take 1 old ++ header = ap (take 21) first ∙ take_at (take 1 old ++ header) (drop (1 + length header) old) 21 size in
    let tail : drop 21 mid ≡ drop 21 old =
    ap (drop 21) first ∙ drop_at (take 1 old ++ header) (drop (1 + length header) old) 21 size ∙ ap (λ (n : ℕ). drop (1 + n) old) twenty in
    second ∙ ap (λ (l : List ℕ). l ++ framed ++ drop (21 + length framed) mid) front
    ∙ ap (λ (l : List ℕ). take 1 old ++ header ++ framed ++ l)
    (sym (drop-drop (length framed) 21 mid) ∙ ap (drop (length framed)) tail ∙ drop-drop (length framed) 21 old)

pub written_size : (old mid header : List ℕ) → 1 ≤ length old → length header ≡ 20 → Holds old 1 header mid → 21 ≤ length mid
written_size old mid header some twenty first =
    omega (arith, ap length first, length-append (take 1 old ++ header) (drop (1 + length header) old), length-append (take 1 old) header, length-take 1 old, twenty)

-- the gate of a file that is whole behind it is opened
pub opening_gate : (old c whole : List ℕ) → drop 1 old ≡ whole → 1 ≤ length old → Torn 0 1 old c → (is_live c ≡ false) ⊎ (c ≡ 1 ∷ whole)
opening_gate old c whole rest some torn =
    ⊎_elim
    (λ (open_ : get_or c 0 0 ≡ 1). inr (gate_and_rest c 1 (open_some c open_) open_ ∙ ap (λ (l : List ℕ). 1 ∷ l) (torn.after ∙ rest)))
    (λ (shut : get_or c 0 0 ≢ 1). inl (not_open c shut))
    (open_or_not c)

-- what stands behind the gate of a file that is written but for it
pub behind_gate : (old c header framed behind : List ℕ) → 1 ≤ length old → c ≡ take 1 old ++ header ++ framed ++ behind → drop 1 c ≡ header ++ framed ++ behind
behind_gate old c header framed behind some is =
    ap (drop 1) (is ∙ append_assoc (take 1 old ++ header) framed behind ∙ append_assoc (take 1 old) header (framed ++ behind))
    ∙ drop_at (take 1 old) (header ++ (framed ++ behind)) 1 (omega (arith, length-take 1 old))
    ∙ sym (append_assoc header framed behind)

pub with_gate : (old c header framed behind : List ℕ) → 1 ≤ length old → c ≡ take 1 old ++ header ++ framed ++ behind → 1 ≤ length c
with_gate old c header framed behind some is =
    omega (arith, ap length is, length-append (take 1 old ++ header ++ framed) behind, length-append (take 1 old ++ header) framed, length-append (take 1 old) header, length-take 1 old)

-- the gate is opened of a file that was shut and is filled
pub made_over : (old shut filled c header framed : List ℕ) → IsShutOf old shut → IsFilledAfter header framed shut filled → Holds filled 0 (1 ∷ []) c → IsMadeOver header framed old c
made_over old shut filled c header framed closed is holds =
    let n = 20 + length framed in
    let more : 1 + n ≡ 21 + length framed = omega arith in
    let same : drop (1 + n) shut ≡ drop (1 + n) old = sym (drop-drop n 1 shut) ∙ ap (drop n) closed.after ∙ drop-drop n 1 old in
    let tail : drop (21 + length framed) shut ≡ drop (21 + length framed) old = subst (λ (k : ℕ). drop k shut ≡ drop k old) more same in
    holds ∙ ap (λ (l : List ℕ). 1 ∷ l) (behind_gate shut filled header framed (drop (21 + length framed) shut) closed.some is)
    ∙ ap (λ (l : List ℕ). 1 ∷ (header ++ framed ++ l)) tail
