-- What can't be lacking. Our own.

-- It can't be that there is none. So an existence is said where the logic, which has no excluded middle, names no witness.
abbrev pub CannotLack : Type 0 → Type 0
CannotLack A = (A → ⊥) → ⊥
