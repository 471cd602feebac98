-- How far an entry moves the journal's end on.
use Rattle.std.proofs.Common.{◌≡◌, ◌<◌, ◌≤◌, ◌+◌, ◌^◌, ℕ, List, [], ◌∷◌, ◌++◌, length, get_or, Result, Ok, Err, sym, ap, ◌∙◌, subst, arith}
use Rattle.std.proofs.Common.{append_assoc, length-append}
use Rattle.std.specs.Prelude.{IfErr, IsErrAnd}
use Rattle.std.proofs.lemmas.List.{get_or_append_left}
use Rattle.std.specs.Int.{w32, from_be_bytes}
use Rattle.yw_journal.specs.Records.{IsFramed}
use Rattle.yw_journal.specs.declared.journal.Journal.{Journal}
use Rattle.yw_serve.specs.Desks.{Grows, LacksRoom, longest_entry}
use Rattle.yw_serve.specs.declared.server.Stop.{Stop}
use Rattle.yw_serve.specs.declared.server.Stop.TheVariants as stops

four_small : (field : List ℕ) → get_or field 0 0 < 256 → get_or field 1 0 < 256 → get_or field 2 0 < 256 → get_or field 3 0 < 256
    → from_be_bytes w32 field < 2 ^ 32
four_small field a b c d = omega arith

front_small : (field rest : List ℕ) (k : ℕ) → k < length field → get_or (field ++ rest) k 0 < 256 → get_or field k 0 < 256
front_small field rest k within small = subst (λ (n : ℕ). n < 256) (get_or_append_left field rest 0 k within) small

-- a record as it is appended is no longer than its length can say
pub framed_short : (framed bytes : List ℕ) → ((k : ℕ) → get_or framed k 0 < 256) → IsFramed framed bytes → length framed ≤ longest_entry
framed_short framed bytes small is =
    let field : List ℕ = is.is_frame.field in
    let rest : List ℕ = bytes ++ is.gate ∷ [] in
    let whole : framed ≡ field ++ rest = is.split ∙ ap (λ (l : List ℕ). l ++ is.gate ∷ []) is.is_frame.split ∙ append_assoc field bytes (is.gate ∷ []) in
    let at : (k : ℕ) → k < 4 → get_or field k 0 < 256 = λ k few.
    front_small field rest k (omega (arith, is.is_frame.four)) (subst (λ (l : List ℕ). get_or l k 0 < 256) whole (small k)) in
    let value : from_be_bytes w32 field < 2 ^ 32 = four_small field (at 0 (omega arith)) (at 1 (omega arith)) (at 2 (omega arith)) (at 3 (omega arith)) in
    let said : length bytes < 2 ^ 32 = subst (λ (n : ℕ). n < 2 ^ 32) is.is_frame.value value in
    omega (arith, said, ap length whole, length-append field rest, length-append bytes (is.gate ∷ []), is.is_frame.four)

-- where no more than a say can fail
pub grows_said : {T : Type 0} (r : Result T Stop) (before now : Journal) → IfErr r (λ stop. stop ≡ stops.Write) → now.end ≤ before.end + longest_entry
    → Grows r before now
grows_said (Ok v) before now e fits = fits
grows_said (Err stop) before now e fits = subst (λ (s : Stop). LacksRoom s before) (sym e) tt

-- an answer that hands a stop on
pub grows_as : {T : Type 0} (r : Result T Stop) (stop : Stop) (before now : Journal) → IsErrAnd r (λ x. x ≡ stop) → LacksRoom stop before → Grows r before now
grows_as (Ok v) stop before now is lacks = absurd is
grows_as (Err s) stop before now is lacks = subst (λ (x : Stop). LacksRoom x before) (sym is) lacks
