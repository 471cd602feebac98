-- Laws of a desk as a list of calls.
use Rattle.std.specs.Prelude.{map, reverse, ◌≡◌, ◌⊎◌, ℕ, ◌+◌, ◌≤◌, ◌<◌, ◌&&◌, nat_le, List, [], ◌∷◌, ◌++◌, length, take, drop, Bool, true, false, refl}
use Rattle.std.proofs.Common.{inl, inr, sym, ap, ◌∙◌, arith, length-append, length-take, length-drop}
use Rattle.std.proofs.lemmas.Bool.{leb-true}
use Rattle.std.proofs.lemmas.List.{map-append, reverse-append, take_at, drop_at, append_assoc, append-nil}
use Rattle.yw_outside.specs.declared.desk.File.{File}
use Rattle.yw_outside.specs.declared.desk.File.TheVariants.{A, B}
use Rattle.yw_outside.specs.declared.image.Image.{Image}
use Rattle.yw_outside.specs.declared.log.Call.{Call}
use Rattle.yw_outside.specs.declared.log.Call.TheVariants.{Look, Write, Sync, Say}
use Rattle.yw_outside.specs.Image.{file_in, overwritten, Torn, Writes, Stays, Speaks}
use Rattle.yw_outside.specs.Moments.{After, Passes}
use Rattle.yw_outside.specs.declared.log.Made.{Made}
use Rattle.yw_outside.specs.Log.{with_file, state_of, MayLeave, StandsWhole, LeftSince, are_placed, calls_in}

module _ (may : List Call → Image → Type 0) where
  pub counts_now : (calls : List Call) (t : ℕ) (c : Image) → t ≤ length calls → may calls c → LeftSince may calls t c
  counts_now [] t c le now = (le, now)
  counts_now (call ∷ older) t c le now = inl (le, now)

  -- no moment is later than now
  none_later : (calls : List Call) (t : ℕ) (c : Image) → length calls < t → LeftSince may calls t c → ⊥
  none_later [] t c lt left = absurd (omega (arith, left.0))
  none_later (call ∷ older) t c lt (inl here) = absurd (omega (arith, here.0))
  none_later (call ∷ older) t c lt (inr left) = none_later older t c (omega arith) left

  pub only_now : (calls : List Call) (c : Image) → LeftSince may calls (length calls) c → may calls c
  only_now [] c left = left.1
  only_now (call ∷ older) c (inl here) = here.1
  only_now (call ∷ older) c (inr left) = absurd (none_later older (length (call ∷ older)) c (omega arith) left)

  -- one call more
  pub passes : (step : Image → Image → Type 0) (call : Call) (older : List Call) → ((c : Image) → may (call ∷ older) c → After step (may older) c)
      → Passes step (length older) (length (call ∷ older)) (LeftSince may older) (LeftSince may (call ∷ older)) (may older) (may (call ∷ older))
  passes step call older crash = record {
    later = omega arith;
    crash = crash;
    within = λ t c le left. within t c left;
    keeps = λ t c le left. inr left;
  }
    where
      within : (t : ℕ) (c : Image) → LeftSince may (call ∷ older) t c → LeftSince may older t c ⊎ After step (may older) c
      within t c (inl here) = inr (crash c here.1)
      within t c (inr left) = inl left

  -- a call that isn't kept
  pub rests : (step : Image → Image → Type 0) (calls : List Call) → ((c : Image) → step c c)
      → Passes step (length calls) (length calls) (LeftSince may calls) (LeftSince may calls) (may calls) (may calls)
  rests step calls none = record {
    later = omega arith;
    crash = λ c now. (c, now, none c);
    within = λ t c le left. inl left;
    keeps = λ t c le left. left;
  }

-- a write that stands whole is one of those that a crash may leave of it
pub whole : (at : ℕ) (bytes old : List ℕ) → at ≤ length old → Torn at (length bytes) old (overwritten old at bytes)
whole at bytes old le =
    let prefix : length (take at old) ≡ at = omega (arith, length-take at old) in
    record {
      before = ap (take at) (append_assoc (take at old) bytes (drop (at + length bytes) old)) ∙ take_at (take at old) (bytes ++ drop (at + length bytes) old) at prefix;
      after = drop_at (take at old ++ bytes) (drop (at + length bytes) old) (at + length bytes) (omega (arith, length-append (take at old) bytes, prefix));
      no_shorter = omega (arith, length-append (take at old ++ bytes) (drop (at + length bytes) old), length-append (take at old) bytes, prefix, length-drop (at + length bytes) old);
      no_longer = omega (arith, length-append (take at old ++ bytes) (drop (at + length bytes) old), length-append (take at old) bytes, prefix, length-drop (at + length bytes) old);
    }

pub whole_write : (f : File) (at : ℕ) (bytes : List ℕ) (i : Image) → at ≤ length (file_in f i) → Writes f at (length bytes) i (with_file f (overwritten (file_in f i) at bytes) i)
whole_write A at bytes i le = record { torn = whole at bytes i.a le; other = refl; said = refl }
whole_write B at bytes i le = record { torn = whole at bytes i.b le; other = refl; said = refl }

pub untorn : (f : File) (at n : ℕ) (c : Image) → Writes f at n c c
untorn f at n c = record { torn = record { before = refl; after = refl; no_shorter = omega arith; no_longer = omega arith }; other = refl; said = refl }

pub stays : (c : Image) → Stays c c
stays c = refl

pub silent : (bytes : List ℕ) (c : Image) → Speaks bytes c c
silent bytes c = record { a = refl; b = refl; said = ([], bytes, refl, sym (append-nil c.said)) }

pub both : (p q : Bool) → (p && q) ≡ true → (p ≡ true) × (q ≡ true)
both true true e = (refl, refl)
both true false e = absurd (false_true e)
  where
    false_true : false ≡ true → ⊥
    false_true e = cc
both false q e = absurd (false_true e)
  where
    false_true : false ≡ true → ⊥
    false_true e = cc

-- a desk as it reads is one of its images
pub as_it_reads : (base : Image) (calls : List Call) → are_placed base calls ≡ true → MayLeave base calls (state_of base calls)
as_it_reads base [] e = refl
as_it_reads base (Look ∷ older) e = as_it_reads base older (both true _ e).1
as_it_reads base (Write f at bytes true ∷ older) e =
    let p = both (nat_le at (length (file_in f (state_of base older)))) _ e in
    (state_of base older, as_it_reads base older p.1, whole_write f at bytes (state_of base older) (leb-true at _ p.0))
as_it_reads base (Write f at bytes false ∷ older) e =
    let p = both (nat_le at (length (file_in f (state_of base older)))) _ e in
    (state_of base older, as_it_reads base older p.1, untorn f at (length bytes) (state_of base older))
as_it_reads base (Sync f ∷ older) e = (as_it_reads base older (both true _ e).1, refl)
as_it_reads base (Say bytes ∷ older) e = (state_of base older, as_it_reads base older (both true _ e).1, refl)

-- an image has what was said
pub said_by_now : (base : Image) (calls : List Call) (c : Image) → MayLeave base calls c → c.said ≡ (state_of base calls).said
said_by_now base [] c is = ap (λ (i : Image). i.said) is
said_by_now base (Look ∷ older) c left = said_by_now base older c left
said_by_now base (Write A at bytes true ∷ older) c left = left.2.said ∙ said_by_now base older left.0 left.1
said_by_now base (Write B at bytes true ∷ older) c left = left.2.said ∙ said_by_now base older left.0 left.1
said_by_now base (Write f at bytes false ∷ older) c left = left.2.said ∙ said_by_now base older left.0 left.1
said_by_now base (Sync f ∷ older) c left = said_by_now base older c left.0
said_by_now base (Say bytes ∷ older) c left = ap (λ (i : Image). i.said) left.2 ∙ ap (λ (l : List ℕ). l ++ bytes) (said_by_now base older left.0 left.1)

-- the newest call comes first
pub calls_in-push : (log : List Made) (m : Made) → calls_in (log ++ m ∷ []) ≡ m.call ∷ calls_in log
calls_in-push log m = ap reverse (map-append (λ (m : Made). m.call) log (m ∷ [])) ∙ reverse-append (map (λ (m : Made). m.call) log) (m.call ∷ [])

-- where each call stands whole at once
pub whole_said : (base : Image) (calls : List Call) (c : Image) → StandsWhole base calls c → c.said ≡ (state_of base calls).said
whole_said base calls c is = ap (λ (i : Image). i.said) is
