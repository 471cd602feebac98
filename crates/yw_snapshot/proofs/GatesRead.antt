-- What stands at a gate.
use Rattle.std.proofs.Common.{◌≡◌, ℕ, ◌+◌, ◌≤◌, ◌<◌, List, ◌∷◌, ◌++◌, length, take, drop, get_or, inr, sym, ap, ◌∙◌, arith, append_assoc, length-append}
use Rattle.std.proofs.lemmas.List.{take_at, drop_more, get_or-take}
use Rattle.std.specs.Int.{w32, from_be_bytes}
use Rattle.yw_journal.specs.Records.{IsFrame}
use Rattle.yw_snapshot.specs.Reading.{IsCutHere}

-- the length after an open gate, where a record stands there
pub size_read : (rest frame after bytes : List ℕ) → rest ≡ 1 ∷ frame ++ after → IsFrame frame bytes → from_be_bytes w32 (take 4 (drop 1 rest)) ≡ length bytes
size_read rest frame after bytes split is =
    ap (from_be_bytes w32)
    (ap (λ (l : List ℕ). take 4 (drop 1 l)) split ∙ ap (λ (l : List ℕ). take 4 (l ++ after)) is.split ∙ ap (take 4) (append_assoc is.field bytes after) ∙ take_at is.field (bytes ++ after) 4 is.four)
    ∙ is.value

pub size_of_all : (rest frame after bytes : List ℕ) → rest ≡ 1 ∷ frame ++ after → IsFrame frame bytes → 5 + length bytes ≤ length rest
size_of_all rest frame after bytes split is =
    omega (arith, ap length split, length-append (1 ∷ frame) after, ap length is.split, length-append is.field bytes, is.four)

-- a gate that is open, read with what follows it
pub open_gate : (n : ℕ) (rest front : List ℕ) → 1 ≤ n → 1 ≤ length rest → front ≡ take n rest → get_or front 0 0 ≡ 1 → rest ≡ 1 ∷ drop 1 rest
open_gate n rest front some long e one =
    drop_more rest 0 0 (omega arith) ∙ ap (λ (g : ℕ). g ∷ drop 1 rest) (sym (get_or-take n rest 0 0 (omega arith)) ∙ ap (λ (l : List ℕ). get_or l 0 0) (sym e) ∙ one)

-- the record passes the end
pub cut_by_size : (size : ℕ) (rest : List ℕ) → rest ≡ 1 ∷ drop 1 rest → from_be_bytes w32 (take 4 (drop 1 rest)) ≡ size → length rest < 5 + size → IsCutHere rest
cut_by_size size rest gate value short = inr (
  drop 1 rest,
  gate,
  λ frame after bytes split is. absurd (omega (arith, value, size_read rest frame after bytes split is, size_of_all rest frame after bytes split is)),
)

-- no length stands after the gate
pub cut_short : (rest : List ℕ) → rest ≡ 1 ∷ drop 1 rest → length rest < 5 → IsCutHere rest
cut_short rest gate short = inr (drop 1 rest, gate, λ frame after bytes split is. absurd (omega (arith, size_of_all rest frame after bytes split is)))
