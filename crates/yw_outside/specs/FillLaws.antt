-- What stands by a fill is something that a crash may leave.
use Rattle.std.specs.Prelude.{◌≡◌, ℕ, ◌+◌, ◌-◌, ◌/◌, ◌≤◌, nat_le, List, [], ◌∷◌, ◌++◌, length, take, drop, Bool, true, false, cond, refl}
use Rattle.std.proofs.Common.{add-zero, sym, ap, ◌∙◌, subst, arith, length-append, length-take, length-drop}
use Rattle.std.proofs.lemmas.Bool.{leb-true}
use Rattle.std.proofs.lemmas.List.{take_at, drop_at, drop-drop, append-nil, append_assoc, take-append-drop, length-replicate}
use Rattle.yw_outside.specs.declared.desk.File.{File}
use Rattle.yw_outside.specs.declared.desk.File.TheVariants.{A, B}
use Rattle.yw_outside.specs.declared.image.Fill.{Fill}
use Rattle.yw_outside.specs.declared.image.Fill.TheVariants.{Old, New, Half, Byte}
use Rattle.yw_outside.specs.declared.image.Image.{Image}
use Rattle.yw_outside.specs.declared.log.Call.{Call}
use Rattle.yw_outside.specs.declared.log.Call.TheVariants.{Look, Write, Sync, Say}
use Rattle.yw_outside.specs.Fills.{front_of, stamped, standing, at_sync, image_by}
use Rattle.yw_outside.specs.Image.{file_in, overwritten, Torn}
use Rattle.yw_outside.specs.Log.{after_call, state_of, MayLeave, are_placed}
use Rattle.yw_outside.specs.LogLaws.{both, as_it_reads}

-- file A of one image and file B of another
abbrev pub mixed : Image → Image → Image
mixed c d = record { a = c.a; b = d.b; said = c.said }

-- the files are torn apart from one another
mixed_left : (base : Image) (calls : List Call) (c d : Image) → MayLeave base calls c → MayLeave base calls d → MayLeave base calls (mixed c d)
mixed_left base [] c d p q = subst (λ (x : Image). mixed x d ≡ base) (sym p) (subst (λ (y : Image). mixed base y ≡ base) (sym q) refl)
mixed_left base (Look ∷ older) c d p q = mixed_left base older c d p q
mixed_left base (Write A at bytes done ∷ older) c d p q =
    (mixed p.0 q.0, mixed_left base older p.0 q.0 p.1 q.1, record { torn = p.2.torn; other = q.2.other; said = p.2.said })
mixed_left base (Write B at bytes done ∷ older) c d p q =
    (mixed p.0 q.0, mixed_left base older p.0 q.0 p.1 q.1, record { torn = q.2.torn; other = p.2.other; said = p.2.said })
mixed_left base (Sync A ∷ older) c d p q = (mixed_left base older c d p.0 q.0, p.1)
mixed_left base (Sync B ∷ older) c d p q = (mixed_left base older c d p.0 q.0, q.1)
mixed_left base (Say bytes ∷ older) c d p q = (
  mixed p.0 q.0,
  mixed_left base older p.0 q.0 p.1 q.1,
  subst (λ (x : Image). mixed x d ≡ after_call (Say bytes) (mixed p.0 q.0)) (sym p.2) (subst (λ (y : Image). mixed (after_call (Say bytes) p.0) y ≡ after_call (Say bytes) (mixed p.0 q.0)) (sym q.2) refl),
)

-- fewer bytes than the write had, at its place
short_torn : (at n : ℕ) (prefix old : List ℕ) → at ≤ length old → length prefix ≤ n → Torn at n old (overwritten old at prefix)
short_torn at n prefix old le few =
    let head : length (take at old) ≡ at = omega (arith, length-take at old) in
    let size : length (take at old ++ prefix) ≡ at + length prefix = omega (arith, length-append (take at old) prefix, head) in
    record {
      before = ap (take at) (append_assoc (take at old) prefix (drop (at + length prefix) old)) ∙ take_at (take at old) (prefix ++ drop (at + length prefix) old) at head;
      after = in_two (overwritten old at prefix) ∙ ap (drop (n - length prefix)) (drop_at (take at old ++ prefix) (drop (at + length prefix) old) (at + length prefix) size) ∙ sym (in_two old);
      no_shorter = omega (arith, length-append (take at old ++ prefix) (drop (at + length prefix) old), size, length-drop (at + length prefix) old);
      no_longer = omega (arith, length-append (take at old ++ prefix) (drop (at + length prefix) old), size, length-drop (at + length prefix) old);
    }
  where
    in_two : (l : List ℕ) → drop (at + n) l ≡ drop (n - length prefix) (drop (at + length prefix) l)
    in_two l = ap (λ (m : ℕ). drop m l) (omega arith) ∙ sym (drop-drop (n - length prefix) (at + length prefix) l)

-- no bytes over others leave them
nothing : (at : ℕ) (l : List ℕ) → stamped l at [] ≡ l
nothing at l = elim (nat_le at (length l)) as (λ b. cond b (overwritten l at []) l ≡ l) [
  | true ↦ ap (λ (n : ℕ). take at l ++ [] ++ drop n l) (add-zero at) ∙ ap (λ (m : List ℕ). m ++ drop at l) (append-nil (take at l)) ∙ take-append-drop at l
  | false ↦ refl
]

-- it leaves no more bytes than the write had
front_fits : (fill : Fill) (bytes : List ℕ) (done : Bool) → length (front_of fill bytes done) ≤ length bytes
front_fits Old bytes done = omega arith
front_fits New bytes true = omega arith
front_fits New bytes false = omega arith
front_fits Half bytes done = omega (arith, length-take (length bytes / 2) bytes)
front_fits (Byte b) bytes done = omega (arith, length-replicate (length bytes) b)

same_torn : (at n : ℕ) (l : List ℕ) → Torn at n l l
same_torn at n l = record { before = refl; after = refl; no_shorter = omega arith; no_longer = omega arith }

stamped_torn : (at n : ℕ) (prefix left : List ℕ) → length prefix ≤ n → Torn at n left (stamped left at prefix)
stamped_torn at n prefix left few =
    elim (nat_le at (length left)) as (λ b. nat_le at (length left) ≡ b → Torn at n left (cond b (overwritten left at prefix) left)) [
      | true ↦ λ e. short_torn at n prefix left (leb-true at (length left) e) few
      | false ↦ λ e. same_torn at n left
    ] refl

said_by_write : (f : File) (at : ℕ) (bytes : List ℕ) (done : Bool) (i : Image) → (after_call (Write f at bytes done) i).said ≡ i.said
said_by_write A at bytes true i = refl
said_by_write B at bytes true i = refl
said_by_write A at bytes false i = refl
said_by_write B at bytes false i = refl

pub image_by_left : (fill : Fill) (base : Image) (calls : List Call) → are_placed base calls ≡ true → MayLeave base calls (image_by fill base calls)
image_by_left fill base [] e = refl
image_by_left fill base (Look ∷ older) e = image_by_left fill base older (both true _ e).1
image_by_left fill base (Write A at bytes done ∷ older) e = (
  image_by fill base older,
  image_by_left fill base older (both (nat_le at (length (state_of base older).a)) _ e).1,
  record { torn = stamped_torn at (length bytes) (front_of fill bytes done) (standing A fill base older) (front_fits fill bytes done); other = refl; said = said_by_write A at bytes done (state_of base older) },
)
image_by_left fill base (Write B at bytes done ∷ older) e = (
  image_by fill base older,
  image_by_left fill base older (both (nat_le at (length (state_of base older).b)) _ e).1,
  record { torn = stamped_torn at (length bytes) (front_of fill bytes done) (standing B fill base older) (front_fits fill bytes done); other = refl; said = said_by_write B at bytes done (state_of base older) },
)
image_by_left fill base (Sync A ∷ older) e =
    let p = (both true _ e).1 in
    (mixed_left base older (state_of base older) (image_by fill base older) (as_it_reads base older p) (image_by_left fill base older p), refl)
image_by_left fill base (Sync B ∷ older) e =
    let p = (both true _ e).1 in
    (mixed_left base older (image_by fill base older) (state_of base older) (image_by_left fill base older p) (as_it_reads base older p), refl)
image_by_left fill base (Say bytes ∷ older) e = (image_by fill base older, image_by_left fill base older (both true _ e).1, refl)

abbrev image : Image → List ℕ → List ℕ → Image
image i a b = record { a = a; b = b; said = i.said }

-- by `New` stands what reads give
new_file : (f : File) (base : Image) (calls : List Call) → are_placed base calls ≡ true → standing f New base calls ≡ file_in f (state_of base calls)
new_file f base [] e = refl
new_file f base (Look ∷ older) e = new_file f base older (both true _ e).1
new_file A base (Write A at bytes true ∷ older) e =
    let p = both (nat_le at (length (state_of base older).a)) _ e in
    ap (λ (l : List ℕ). stamped l at bytes) (new_file A base older p.1) ∙ ap (λ (b : Bool). cond b (overwritten (state_of base older).a at bytes) (state_of base older).a) p.0
new_file A base (Write A at bytes false ∷ older) e =
    let p = both (nat_le at (length (state_of base older).a)) _ e in
    ap (λ (l : List ℕ). stamped l at []) (new_file A base older p.1) ∙ nothing at (state_of base older).a
new_file A base (Write B at bytes true ∷ older) e = new_file A base older (both (nat_le at (length (state_of base older).b)) _ e).1
new_file A base (Write B at bytes false ∷ older) e = new_file A base older (both (nat_le at (length (state_of base older).b)) _ e).1
new_file B base (Write B at bytes true ∷ older) e =
    let p = both (nat_le at (length (state_of base older).b)) _ e in
    ap (λ (l : List ℕ). stamped l at bytes) (new_file B base older p.1) ∙ ap (λ (b : Bool). cond b (overwritten (state_of base older).b at bytes) (state_of base older).b) p.0
new_file B base (Write B at bytes false ∷ older) e =
    let p = both (nat_le at (length (state_of base older).b)) _ e in
    ap (λ (l : List ℕ). stamped l at []) (new_file B base older p.1) ∙ nothing at (state_of base older).b
new_file B base (Write A at bytes true ∷ older) e = new_file B base older (both (nat_le at (length (state_of base older).a)) _ e).1
new_file B base (Write A at bytes false ∷ older) e = new_file B base older (both (nat_le at (length (state_of base older).a)) _ e).1
new_file A base (Sync A ∷ older) e = refl
new_file A base (Sync B ∷ older) e = new_file A base older (both true _ e).1
new_file B base (Sync B ∷ older) e = refl
new_file B base (Sync A ∷ older) e = new_file B base older (both true _ e).1
new_file A base (Say bytes ∷ older) e = new_file A base older (both true _ e).1
new_file B base (Say bytes ∷ older) e = new_file B base older (both true _ e).1

pub new_reads : (base : Image) (calls : List Call) → are_placed base calls ≡ true → image_by New base calls ≡ state_of base calls
new_reads base calls e = two (state_of base calls) (standing A New base calls) (standing B New base calls) (new_file A base calls e) (new_file B base calls e)
  where
    two : (i : Image) (a b : List ℕ) → a ≡ i.a → b ≡ i.b → (record { a = a; b = b; said = i.said }) ≡ i
    two i a b p q = ap (λ (l : List ℕ). image i l b) p ∙ ap (λ (l : List ℕ). image i i.a l) q

-- by `Old` stands what reads gave at the last sync
pub old_file : (f : File) (base : Image) (calls : List Call) → standing f Old base calls ≡ at_sync f base calls
old_file f base [] = refl
old_file f base (Look ∷ older) = old_file f base older
old_file A base (Write A at bytes done ∷ older) = nothing at (standing A Old base older) ∙ old_file A base older
old_file A base (Write B at bytes done ∷ older) = old_file A base older
old_file B base (Write A at bytes done ∷ older) = old_file B base older
old_file B base (Write B at bytes done ∷ older) = nothing at (standing B Old base older) ∙ old_file B base older
old_file A base (Sync A ∷ older) = refl
old_file A base (Sync B ∷ older) = old_file A base older
old_file B base (Sync A ∷ older) = old_file B base older
old_file B base (Sync B ∷ older) = refl
old_file f base (Say bytes ∷ older) = old_file f base older
