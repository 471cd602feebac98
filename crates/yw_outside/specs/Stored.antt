-- What a file in memory stands for.
use Rattle.std.specs.Prelude.{◌≡◌, List, ℕ, [], true, unwrap_or}
use Rattle.std.specs.Option.{option_map}
use Rattle.yw_outside.specs.declared.image.Image.{Image}
use Rattle.yw_outside.specs.declared.log.Made.{Made}
use Rattle.yw_outside.specs.declared.stored.Stored.{Stored}
use Rattle.yw_outside.specs.Log.{state_of, are_placed, calls_in, are_numbered}

-- what a read gives
abbrev pub bytes_of : Stored → List ℕ
bytes_of s = unwrap_or (option_map (λ v. v.items) s.present) s.first.items

-- both files at first, and nothing said
abbrev pub at_first : Stored → Stored → Image
at_first a b = record { a = a.first.items; b = b.first.items; said = [] }

-- these bytes and this output are those that these calls made of both files at first, and each call has its number
pub record Stands (a b : Stored) (output : List ℕ) (log : List Made) (made : ℕ) : Type 0 where
  pub placed : are_placed (at_first a b) (calls_in log) ≡ true
  pub reads_a : bytes_of a ≡ (state_of (at_first a b) (calls_in log)).a
  pub reads_b : bytes_of b ≡ (state_of (at_first a b) (calls_in log)).b
  pub said : output ≡ (state_of (at_first a b) (calls_in log)).said
  pub numbered : are_numbered made log ≡ true
