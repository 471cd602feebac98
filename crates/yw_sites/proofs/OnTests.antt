-- What holds where a test holds, or fails.
use Rattle.std.proofs.Common.{Bool, false, refl, sym, true, ◌≡◌, None, Option, Some}
use Rattle.std.specs.Prelude.{is_some}
use Rattle.std.specs.Bool.{OnFalse, OnTrue}
use Rattle.yw_state.proofs.Tests.{never}

pub of_true : (b : Bool) (P : Type 0) → OnTrue b P → b ≡ true → P
of_true true P h t = h
of_true false P h t = never t

pub of_false : (b : Bool) (P : Type 0) → OnFalse b P → b ≡ false → P
of_false true P h t = never (sym t)
of_false false P h t = h

pub on_true : (b : Bool) (P : Type 0) → (b ≡ true → P) → OnTrue b P
on_true true P h = h refl
on_true false P h = tt

pub on_false : (b : Bool) (P : Type 0) → (b ≡ false → P) → OnFalse b P
on_false true P h = tt
on_false false P h = h refl

pub not_there : {A : Type 0} (o : Option A) → is_some o ≡ false → o ≡ None
not_there None e = refl
not_there (Some x) e = never (sym e)
