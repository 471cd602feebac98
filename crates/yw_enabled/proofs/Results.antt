-- What is so of a result where it is Ok.
use Rattle.std.specs.Prelude.{Err, IfOk, Ok, Result}

pub ok_then : {A E : Type 0} (r : Result A E) (P Q : A → Type 0) → IfOk r P → ((a : A) → P a → Q a) → IfOk r Q
ok_then (Ok a) P Q p h = h a p
ok_then (Err e) P Q p h = p
