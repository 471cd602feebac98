-- A record's length, its bytes and a closed gate are its frame.
use Rattle.std.proofs.Common.{◌≡◌, ℕ, ◌<◌, List, [], ◌∷◌, ◌++◌, length, refl, ◌∙◌, rules}
use Rattle.std.proofs.lemmas.Nat.{from_be_bytes-to_be_bytes_4}
use Rattle.byteorder.specs.Endian.{big_bytes}
use Rattle.yw_codec.specs.Fields.{u32_end}
use Rattle.yw_journal.specs.Records.{IsFramed}

pub framed_is : (size : ℕ) (bytes framed : List ℕ) → size ≡ length bytes → size < u32_end → framed ≡ (big_bytes 4 size ++ bytes) ++ 0 ∷ [] → IsFramed framed bytes
framed_is size bytes framed same fits is = record {
  frame = big_bytes 4 size ++ bytes;
  gate = 0;
  split = is;
  is_frame = record { field = big_bytes 4 size; split = refl; four = refl; value = from_be_bytes-to_be_bytes_4 size fits ∙ same };
  closed = search rules;
}
