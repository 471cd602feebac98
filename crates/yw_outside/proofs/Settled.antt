-- A sync lets stand what reads give.
use Rattle.std.proofs.Common.{◌≡◌, ◌⊎◌, ℕ, ◌+◌, ◌≤◌, ◌<◌, ⊎_elim, true, false, List, [], ◌∷◌, ◌++◌, length, take, get_or, refl, sym, ap, ◌∙◌, subst, arith}
use Rattle.std.proofs.lemmas.List.{take_more, get_or_default}
use Rattle.yw_outside.specs.declared.desk.File.{File}
use Rattle.yw_outside.specs.declared.desk.File.TheVariants.{A, B}
use Rattle.yw_outside.specs.declared.image.Fill.{Fill}
use Rattle.yw_outside.specs.declared.image.Image.{Image}
use Rattle.yw_outside.specs.declared.log.Call.{Call}
use Rattle.yw_outside.specs.declared.log.Call.TheVariants.{Look, Write, Sync, Say}
use Rattle.yw_outside.specs.declared.log.Made.{Made}
use Rattle.yw_outside.specs.Fills.{is_sync, standing}
use Rattle.yw_outside.specs.Image.{file_in}
use Rattle.yw_outside.specs.Log.{state_of, calls_in}
use Rattle.yw_outside.specs.LogLaws.{calls_in-push}

false_true : false ≡ true → ⊥
false_true e = cc

pub sync_stands : (f : File) (fill : Fill) (i : Image) (call : Call) (older : List Call) → is_sync f call ≡ true → standing f fill i (call ∷ older) ≡ file_in f (state_of i (call ∷ older))
sync_stands f fill i Look older e = absurd (false_true e)
sync_stands f fill i (Write g at bytes done) older e = absurd (false_true e)
sync_stands A fill i (Sync A) older e = refl
sync_stands A fill i (Sync B) older e = absurd (false_true e)
sync_stands B fill i (Sync A) older e = absurd (false_true e)
sync_stands B fill i (Sync B) older e = refl
sync_stands f fill i (Say bytes) older e = absurd (false_true e)

-- the first calls and one more
pub one_more_call : (log : List Made) (k : ℕ) (m : Made) → k < length log → get_or log k m ≡ m → calls_in (take (k + 1) log) ≡ m.call ∷ calls_in (take k log)
one_more_call log k m lt e = ap calls_in (take_more log k m lt ∙ ap (λ (x : Made). take k log ++ x ∷ []) e) ∙ calls_in-push (take k log) m

pub settles : (log : List Made) (k : ℕ) (m : Made) (f : File) → k < length log → get_or log k m ≡ m → is_sync f m.call ≡ true
    → (i : Image) (fill : Fill) → standing f fill i (calls_in (take (k + 1) log)) ≡ file_in f (state_of i (calls_in (take (k + 1) log)))
settles log k m f lt e is i fill =
    subst (λ (cs : List Call). standing f fill i cs ≡ file_in f (state_of i cs)) (sym (one_more_call log k m lt e)) (sync_stands f fill i m.call (calls_in (take k log)) is)

-- of the first k calls those from this one on are no syncs of the file, and at it stands what reads give
pub record IsSettled (f : File) (log : List Made) (k settled : ℕ) : Type 0 where
  pub within : settled ≤ k
  pub stands : (i : Image) (fill : Fill) → standing f fill i (calls_in (take settled log)) ≡ file_in f (state_of i (calls_in (take settled log)))
  pub none : (j : ℕ) (d : Made) → settled ≤ j → j < k → is_sync f (get_or log j d).call ≡ false

pub at_sync : (log : List Made) (k : ℕ) (m : Made) (f : File) → k < length log → m ≡ get_or log k m → true ≡ is_sync f (get_or log k m).call → IsSettled f log (k + 1) (k + 1)
at_sync log k m f lt e is = record {
  within = omega arith;
  stands = settles log k m f lt (sym e) (ap (λ (x : Made). is_sync f x.call) e ∙ sym is);
  none = λ j d from below. absurd (omega (arith, from, below));
}

less_or_same : (j k : ℕ) → j ≤ k → (j < k) ⊎ (j ≡ k)
less_or_same j k le = grind arith

pub at_other : (log : List Made) (k settled : ℕ) (m : Made) (f : File) → k < length log → IsSettled f log k settled → false ≡ is_sync f (get_or log k m).call → IsSettled f log (k + 1) settled
at_other log k settled m f lt s is = record {
  within = omega (arith, s.within);
  stands = s.stands;
  none = λ j d from below. none j d from (omega arith);
}
  where
    none : (j : ℕ) (d : Made) → settled ≤ j → j ≤ k → is_sync f (get_or log j d).call ≡ false
    none j d from le = ⊎_elim
        (λ (less : j < k). s.none j d from less)
        (λ (same : j ≡ k). ap (λ (n : ℕ). is_sync f (get_or log n d).call) same ∙ ap (λ (x : Made). is_sync f x.call) (get_or_default log k d m lt) ∙ sym is)
        (less_or_same j k le)
