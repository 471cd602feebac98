-- Texts are UTF-8.
use Rattle.std.proofs.Common.{◌≡◌, ◌&&◌, ℕ, ◌<◌, true, Bool, List, length, nat_lt}
use Rattle.std.specs.Str.{IsUtf8, is_utf8}
use Rattle.std.proofs.lemmas.Bool.{lt-ltb}
use Rattle.std.proofs.lemmas.Str.{is_utf8-from_IsUtf8}
use Rattle.yw_codec.specs.FieldLaws.{both_true}
use Rattle.yw_codec.specs.Fields.{u32_end, is_text}

-- such bytes are a text
pub text_is : (text : List ℕ) → IsUtf8 text → length text < u32_end → is_text text ≡ true
text_is text utf8 fits = both_true (is_utf8 text) (nat_lt (length text) u32_end) (is_utf8-from_IsUtf8 text utf8) (lt-ltb (length text) u32_end fits)
