-- The number of digits so far is at most the number of all.
use Rattle.std.proofs.Common.{◌≡◌, ℕ, suc, zero, ◌+◌, ◌-◌, ◌*◌, ◌<◌, ◌≤◌, List, [], ◌∷◌, length, take, get_or, arith, fold}
use Rattle.std.proofs.lemmas.List.Sums.{fold_more}
use Rattle.yw_lex.specs.Spelling.{number_of}

abbrev step : ℕ → ℕ → ℕ
step n digit = n * 10 + (digit - 48)

grows : (n : ℕ) (ds : List ℕ) → n ≤ fold step n ds
grows n [] = omega arith
grows n (d ∷ ds) = let h = grows (step n d) ds in omega arith

fronts : (n i : ℕ) (ds : List ℕ) → fold step n (take i ds) ≤ fold step n ds
fronts n zero ds = grows n ds
fronts n (suc i) [] = omega arith
fronts n (suc i) (d ∷ ds) = fronts (step n d) i ds

pub number_of_front : (i : ℕ) (ds : List ℕ) → number_of (take i ds) ≤ number_of ds
number_of_front i ds = fronts 0 i ds

pub number_of_step : (ds : List ℕ) (i : ℕ) → i < length ds → number_of (take (i + 1) ds) ≡ number_of (take i ds) * 10 + (get_or ds i 0 - 48)
number_of_step ds i h = grind (arith, fold_more)
