-- What holds where a result is Ok, or an error.
use Rattle.std.specs.Prelude.{OnErr, OnOk, Result, Ok, Err}

pub on_ok : {A E : Type 0} (r : Result A E) (P Q : Type 0) → OnOk r P → (P → Q) → OnOk r Q
on_ok (Ok x) P Q p h = h p
on_ok (Err e) P Q p h = p

pub either_ok : {A E : Type 0} (r : Result A E) (P Q G : Type 0) → OnOk r P → OnErr r Q → (P → G) → (Q → G) → G
either_ok (Ok x) P Q G p q h k = h p
either_ok (Err e) P Q G p q h k = k q
