-- What a call in memory keeps.
use Rattle.std.proofs.Common.{◌≡◌, ℕ, ◌≤◌, ◌&&◌, cond, length, Bool, true, false, List, [], ◌∷◌, ◌++◌, nat_le, Result, Ok, Err, OnOk, OnErr, refl, sym, ◌∙◌, subst, arith}
use Rattle.std.proofs.lemmas.Bool.{leb-true, le-leb}
use Rattle.yw_outside.specs.declared.image.Image.{Image}
use Rattle.yw_outside.specs.declared.desk.File.{File}
use Rattle.yw_outside.specs.declared.desk.File.TheVariants.{A, B}
use Rattle.yw_outside.specs.declared.log.Call.{Call}
use Rattle.yw_outside.specs.declared.log.Call.TheVariants.{Write}
use Rattle.yw_outside.specs.Image.{overwritten}
use Rattle.yw_outside.specs.declared.log.Made.{Made}
use Rattle.yw_outside.specs.declared.stored.Stored.{Stored}
use Rattle.yw_outside.specs.Log.{state_of, after_call, begins_within, are_placed, calls_in, are_numbered}
use Rattle.yw_outside.specs.LogLaws.{calls_in-push, both}
use Rattle.yw_outside.specs.Stored.{bytes_of, at_first, Stands}

joined : (p q : Bool) → p ≡ true → q ≡ true → (p && q) ≡ true
joined p q e f = cc

numbered_up : (n k : ℕ) (log : List Made) → n ≤ k → are_numbered n log ≡ true → are_numbered k log ≡ true
numbered_up n k [] le e = refl
numbered_up n k (m ∷ log) le e =
    let p = both (nat_le m.number n) (are_numbered n log) e in
    joined (nat_le m.number k) (are_numbered k log) (le-leb m.number k (omega (arith, leb-true m.number n p.0))) (numbered_up n k log le p.1)

numbered_push : (k : ℕ) (log : List Made) (m : Made) → m.number ≤ k → are_numbered k log ≡ true → are_numbered k (log ++ m ∷ []) ≡ true
numbered_push k [] m le e = joined (nat_le m.number k) true (le-leb m.number k le) refl
numbered_push k (x ∷ log) m le e =
    let p = both (nat_le x.number k) (are_numbered k log) e in
    joined (nat_le x.number k) (are_numbered k (log ++ m ∷ [])) p.0 (numbered_push k log m le p.1)

at_first_same : (a a' b b' : Stored) → a'.first ≡ a.first → b'.first ≡ b.first → at_first a' b' ≡ at_first a b
at_first_same a a' b b' e f = cc

module _ (a a' b b' : Stored) (output output' : List ℕ) (log : List Made) (made made' : ℕ)
    (stands : Stands a b output log made) (later : made ≤ made') (same_a : a'.first ≡ a.first) (same_b : b'.first ≡ b.first) where
  base : at_first a' b' ≡ at_first a b
  base = at_first_same a a' b b' same_a same_b

  -- a call that is kept
  pub kept_more : (call : Call) → begins_within call (state_of (at_first a b) (calls_in log)) ≡ true
      → bytes_of a' ≡ (after_call call (state_of (at_first a b) (calls_in log))).a
      → bytes_of b' ≡ (after_call call (state_of (at_first a b) (calls_in log))).b
      → output' ≡ (after_call call (state_of (at_first a b) (calls_in log))).said
      → Stands a' b' output' (log ++ (record { number = made'; call = call }) ∷ []) made'
  kept_more call placed at_a at_b at_said = record {
    placed = moved (λ (i : Image) (cs : List Call). are_placed i cs ≡ true) (joined (begins_within call (state_of (at_first a b) (calls_in log))) (are_placed (at_first a b) (calls_in log)) placed stands.placed);
    reads_a = moved (λ (i : Image) (cs : List Call). bytes_of a' ≡ (state_of i cs).a) at_a;
    reads_b = moved (λ (i : Image) (cs : List Call). bytes_of b' ≡ (state_of i cs).b) at_b;
    said = moved (λ (i : Image) (cs : List Call). output' ≡ (state_of i cs).said) at_said;
    numbered = numbered_push made' log m (omega arith) (numbered_up made made' log later stands.numbered);
  }
    where
      m : Made
      m = record { number = made'; call = call }

      moved : (P : Image → List Call → Type 0) → P (at_first a b) (call ∷ calls_in log) → P (at_first a' b') (calls_in (log ++ (record { number = made'; call = call }) ∷ []))
      moved P p = subst (λ (i : Image). P i (calls_in (log ++ (record { number = made'; call = call }) ∷ []))) (sym base) (subst (λ (cs : List Call). P (at_first a b) cs) (sym (calls_in-push log (record { number = made'; call = call }))) p)

  -- a call that found no memory
  pub kept_none : bytes_of a' ≡ bytes_of a → bytes_of b' ≡ bytes_of b → output' ≡ output → Stands a' b' output' log made'
  kept_none at_a at_b at_said = record {
    placed = moved (λ (i : Image). are_placed i (calls_in log) ≡ true) stands.placed;
    reads_a = at_a ∙ moved (λ (i : Image). bytes_of a ≡ (state_of i (calls_in log)).a) stands.reads_a;
    reads_b = at_b ∙ moved (λ (i : Image). bytes_of b ≡ (state_of i (calls_in log)).b) stands.reads_b;
    said = at_said ∙ moved (λ (i : Image). output ≡ (state_of i (calls_in log)).said) stands.said;
    numbered = numbered_up made made' log later stands.numbered;
  }
    where
      moved : (P : Image → Type 0) → P (at_first a b) → P (at_first a' b')
      moved P p = subst P (sym base) p

-- whichever answer came
pub either_way : {T E : Type 0} (X Y P : Type 0) (r : Result T E) → OnOk r X → OnErr r Y → (X → P) → (Y → P) → P
either_way X Y P (Ok x) ok err p q = p ok
either_way X Y P (Err x) ok err p q = q err

pub both_ways : {T E : Type 0} (X Y Z W P : Type 0) (r : Result T E) → OnOk r X → OnErr r Y → OnOk r Z → OnErr r W → (X → Z → P) → (Y → W → P) → P
both_ways X Y Z W P (Ok x) ok err ok2 err2 p q = p ok ok2
both_ways X Y Z W P (Err x) ok err ok2 err2 p q = q err err2

-- what a write does to the files and the output
pub write_a : (at : ℕ) (bytes : List ℕ) (done : Bool) (i : Image) → (after_call (Write A at bytes done) i).a ≡ cond done (overwritten i.a at bytes) i.a
write_a at bytes true i = refl
write_a at bytes false i = refl

pub write_b : (at : ℕ) (bytes : List ℕ) (done : Bool) (i : Image) → (after_call (Write B at bytes done) i).b ≡ cond done (overwritten i.b at bytes) i.b
write_b at bytes true i = refl
write_b at bytes false i = refl

pub write_other_b : (at : ℕ) (bytes : List ℕ) (done : Bool) (i : Image) → (after_call (Write A at bytes done) i).b ≡ i.b
write_other_b at bytes true i = refl
write_other_b at bytes false i = refl

pub write_other_a : (at : ℕ) (bytes : List ℕ) (done : Bool) (i : Image) → (after_call (Write B at bytes done) i).a ≡ i.a
write_other_a at bytes true i = refl
write_other_a at bytes false i = refl

pub write_said : (f : File) (at : ℕ) (bytes : List ℕ) (done : Bool) (i : Image) → (after_call (Write f at bytes done) i).said ≡ i.said
write_said A at bytes true i = refl
write_said B at bytes true i = refl
write_said A at bytes false i = refl
write_said B at bytes false i = refl

pub placed_in : (at : ℕ) (old : List ℕ) → at ≤ length old → nat_le at (length old) ≡ true
placed_in at old le = le-leb at (length old) le
