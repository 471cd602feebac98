-- What a read does to how much was taken.
use Rattle.std.proofs.Common.{◌≡◌, ℕ, ◌+◌, ◌≤◌, List, [], ◌++◌, length, take, drop, Option, Some, refl, sym, ap, ◌∙◌, append_assoc, arith, length-take, length-append}
use Rattle.std.proofs.lemmas.List.{append-nil, take_all, drop_all, take_at, drop_at, take-append-drop}
use Rattle.std.specs.Io.KnownBytes.{Consumes, Keeps, IsAtEnd}
use Rattle.yw_outside.proofs.Reading.{consumed, still_left, at_end}
use Rattle.yw_judge.specs.Taken.{HasTaken, TakesSome, TakesAll}

pub taken_none : (bytes : List ℕ) (left : Option (List ℕ)) → left ≡ Some bytes → HasTaken bytes [] left
taken_none bytes left e = record { rest = bytes; split = refl; still = e }

-- nothing could be read
pub taken_still : (bytes taken : List ℕ) (left new : Option (List ℕ)) → HasTaken bytes taken left → Keeps left new → HasTaken bytes taken new
taken_still bytes taken left new h keeps = record {
  rest = h.rest;
  split = h.split;
  still = still_left h.rest left new h.still keeps;
}

-- one piece more is taken
pub taken_more : (bytes taken piece : List ℕ) (left new : Option (List ℕ)) → HasTaken bytes taken left → Consumes left new piece → HasTaken bytes (taken ++ piece) new
taken_more bytes taken piece left new h eats =
    let c = consumed h.rest piece left new h.still eats in
    record {
      rest = c.0;
      split = h.split ∙ ap (λ (r : List ℕ). taken ++ r) c.2 ∙ sym (append_assoc taken piece c.0);
      still = c.1;
    }

-- what is kept of the room for a piece
pub kept_piece : (text room later seen now : List ℕ) (n len : ℕ) → length room ≡ len → seen ≡ take len (room ++ later) → now ≡ text ++ take n seen → now ≡ text ++ take n room
kept_piece text room later seen now n len fits e kept = kept ∙ ap (λ (p : List ℕ). text ++ take n p) (e ∙ take_at room later len fits)

-- the end was read
pub taken_whole : (bytes taken : List ℕ) (left new : Option (List ℕ)) → HasTaken bytes taken left → Consumes left new [] → IsAtEnd new → (bytes ≡ taken) × (new ≡ Some [])
taken_whole bytes taken left new h eats ended =
    let c = consumed h.rest [] left new h.still eats in
    let none : c.0 ≡ [] = at_end c.0 new c.1 ended in
    (h.split ∙ ap (λ (r : List ℕ). taken ++ r) (c.2 ∙ none) ∙ append-nil taken, c.1 ∙ ap Some none)

pub took_whole : (limit : ℕ) (bytes taken : List ℕ) (left : Option (List ℕ)) → length taken ≤ limit → (bytes ≡ taken) × (left ≡ Some []) → (taken ≡ take (limit + 1) bytes) × TakesAll limit bytes left
took_whole limit bytes taken left within (whole, none) =
    let le : length bytes ≤ limit + 1 = omega (arith, ap length whole) in
    (sym whole ∙ sym (take_all (limit + 1) bytes le), none ∙ ap Some (sym (drop_all (limit + 1) bytes le)))

-- one byte more than the limit was taken
pub took_past : (limit : ℕ) (bytes taken : List ℕ) (left : Option (List ℕ)) → length taken ≡ limit + 1 → HasTaken bytes taken left → (taken ≡ take (limit + 1) bytes) × TakesAll limit bytes left
took_past limit bytes taken left exact h =
    (sym (ap (take (limit + 1)) h.split ∙ take_at taken h.rest (limit + 1) exact), h.still ∙ ap Some (sym (ap (drop (limit + 1)) h.split ∙ drop_at taken h.rest (limit + 1) exact)))

-- what was taken is no more than that
pub took_some : (limit : ℕ) (bytes taken : List ℕ) (left : Option (List ℕ)) → HasTaken bytes taken left → length taken ≤ limit + 1 → TakesSome limit bytes left
took_some limit bytes taken left h within = (taken, h, within)

-- nor with the piece that was read
pub took_more : (limit : ℕ) (bytes taken room : List ℕ) (n : ℕ) (left new : Option (List ℕ)) → HasTaken bytes taken left → Consumes left new (take n room) → length taken + n ≤ limit + 1 → TakesSome limit bytes new
took_more limit bytes taken room n left new h eats within =
    took_some limit bytes (taken ++ take n room) new (taken_more bytes taken (take n room) left new h eats) (omega (arith, length-append taken (take n room), length-take n room))

pub all_is_some : (limit : ℕ) (bytes : List ℕ) (left : Option (List ℕ)) → TakesAll limit bytes left → TakesSome limit bytes left
all_is_some limit bytes left all =
    (take (limit + 1) bytes, record { rest = drop (limit + 1) bytes; split = sym (take-append-drop (limit + 1) bytes); still = all }, omega (arith, length-take (limit + 1) bytes))
