-- A state's length, its bytes and a closed gate are its frame.
use Rattle.std.proofs.Common.{◌≡◌, ◌∙◌, ◌<◌, ◌^◌, ◌++◌, ◌∷◌, [], ℕ, List, drop, length, refl, rules, subst}
use Rattle.std.proofs.lemmas.Nat.{from_be_bytes-to_be_bytes_8}
use Rattle.byteorder.specs.Endian.{big_bytes}
use Rattle.yw_journal.specs.Records.{IsFramedState}

pub framed_is : (size : ℕ) (bytes framed : List ℕ) → size ≡ length bytes → size < 2 ^ 64 → framed ≡ (big_bytes 8 size ++ bytes) ++ 0 ∷ []
    → IsFramedState framed bytes
framed_is size bytes framed same fits is = record {
  field = big_bytes 8 size;
  gate = 0;
  split = is;
  eight = refl;
  value = from_be_bytes-to_be_bytes_8 size fits ∙ same;
  closed = search rules;
}

-- what stands behind a front
pub drop_front : (a b : List ℕ) (n : ℕ) → length a ≡ n → drop n (a ++ b) ≡ b
drop_front a b n e = subst (λ (k : ℕ). drop k (a ++ b) ≡ b) e (behind a)
  where
    behind : (c : List ℕ) → drop (length c) (c ++ b) ≡ b
    behind [] = refl
    behind (x ∷ c) = behind c
