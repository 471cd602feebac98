-- A file that is read and written piece by piece.
use Rattle.std.proofs.Common.{◌≡◌, ◌≤◌, ℕ, ◌+◌, ◌-◌, suc, zero, List, ◌++◌, Option, None, Some, length, take, drop, sym, ap, ◌∙◌, refl, arith, length-take, length-drop, length-take-le, take-take}
use Rattle.std.proofs.Math.Seq.{take-add, take-append-add, drop-drop}
use Rattle.std.proofs.lemmas.List.{drop-take}
use Rattle.std.proofs.lemmas.Slice.{take-put_mid}
use Rattle.std.specs.Option.{ForSome}
use borrow.Rule.Slice.PartMut.{put_mid}
use Rattle.yw_outside.specs.Image.{Torn}
use Rattle.yw_adapt.specs.Files.{TornAt}

-- what a buffer has in front after its part behind a was filled
pub put_front : (a k : ℕ) (xs ys : List ℕ) (n : ℕ) → a ≤ length xs → n ≤ length ys → take (a + n) (put_mid a k xs ys) ≡ take a xs ++ take n ys
put_front a k xs ys n le few =
    sym (take-take (a + n) (a + length ys) (put_mid a k xs ys) (omega arith))
    ∙ ap (take (a + n)) (take-put_mid a k xs ys (a + length ys) refl le)
    ∙ ap (λ (m : ℕ). take (m + n) (take a xs ++ ys)) (sym (length-take-le a xs le))
    ∙ take-append-add (take a xs) ys n

-- two pieces of a list, one behind the other
pub joined : (at done n : ℕ) (xs : List ℕ) → take done (drop at xs) ++ take n (drop (at + done) xs) ≡ take (done + n) (drop at xs)
joined at done n xs = ap (λ (l : List ℕ). take done (drop at xs) ++ take n l) (sym (drop-drop done at xs)) ∙ sym (take-add done n (drop at xs))

-- so far the file reaches, of which the first bytes of a piece were written
reaches : (at done : ℕ) (bytes old : List ℕ) → at ≤ length old → done ≤ length bytes → take done (drop at old) ≡ take done bytes → at + done ≤ length old
reaches at done bytes old le few same =
    omega (arith, ap length same, length-take done (drop at old), length-take done bytes, length-drop at old)

-- a write behind what was written leaves it
kept : (at done size : ℕ) (bytes old new : List ℕ) → done ≤ length bytes → take done (drop at old) ≡ take done bytes
    → (at + done ≤ length old → Torn (at + done) size old new) → take done (drop at new) ≡ take done bytes
kept at zero size bytes old new few same torn = refl
kept at (suc d) size bytes old new few same torn =
    let reach : at + suc d ≤ length old = omega (arith, ap length same, length-take (suc d) (drop at old), length-take (suc d) bytes, length-drop at old) in
    sym (drop-take at (suc d) new) ∙ ap (drop at) (torn reach).before ∙ drop-take at (suc d) old ∙ same

-- the bytes that stand there after one more piece
pub longer : (at done n : ℕ) (bytes held : List ℕ) (old : Option (List ℕ)) → done ≤ length bytes
    → ForSome old (λ before. take done (drop at before) ≡ take done bytes)
    → take n (drop (at + done) held) ≡ take n (drop done bytes)
    → TornAt (at + done) (length bytes - done) old (Some held)
    → take (done + n) (drop at held) ≡ take (done + n) bytes
longer at done n bytes held None few was now torn = absurd torn
longer at done n bytes held (Some before) few was now torn =
    sym (joined at done n held)
    ∙ ap (λ (l : List ℕ). l ++ take n (drop (at + done) held)) (kept at done (length bytes - done) bytes before held few (was before refl) torn)
    ∙ ap (λ (l : List ℕ). take done bytes ++ l) now
    ∙ sym (take-add done n bytes)

-- what one more piece leaves outside of the whole
pub torn_on : (at done : ℕ) (bytes : List ℕ) (first old new : Option (List ℕ)) → done ≤ length bytes
    → ForSome old (λ held. take done (drop at held) ≡ take done bytes)
    → TornAt at (length bytes) first old
    → TornAt (at + done) (length bytes - done) old new
    → TornAt at (length bytes) first new
torn_on at done bytes None None None few was before after = tt
torn_on at done bytes None None (Some zs) few was before after = absurd after
torn_on at done bytes None (Some ys) new few was before after = absurd before
torn_on at done bytes (Some xs) None new few was before after = absurd before
torn_on at done bytes (Some xs) (Some ys) None few was before after = absurd after
torn_on at done bytes (Some xs) (Some ys) (Some zs) few was before after = λ le.
    let first = before le in
    let next = after (reaches at done bytes ys (omega (arith, le, first.no_shorter)) few (was ys refl)) in
    let end : at + length bytes ≡ (at + done) + (length bytes - done) = omega (arith, few) in
    record {
      before = sym (take-take at (at + done) zs (omega arith)) ∙ ap (take at) next.before ∙ take-take at (at + done) ys (omega arith) ∙ first.before;
      after = ap (λ (m : ℕ). drop m zs) end ∙ next.after ∙ ap (λ (m : ℕ). drop m ys) (sym end) ∙ first.after;
      no_shorter = omega (arith, first.no_shorter, next.no_shorter);
      no_longer = omega (arith, first.no_longer, next.no_longer, few);
    }
