-- What holds of the value of a result that is Ok.
use Rattle.std.specs.Prelude.{Err, IfOk, Ok, Result}

pub if_ok : {A E : Type 0} (r : Result A E) (P Q : A → Type 0) → IfOk r P → ((x : A) → P x → Q x) → IfOk r Q
if_ok (Ok x) P Q h then = then x h
if_ok (Err e) P Q h then = h
