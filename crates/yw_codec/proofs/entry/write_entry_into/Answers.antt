use Rattle.std.proofs.Common.{◌≡◌, ℕ, List, [], ◌∷◌, ◌++◌, OnOk, length, drop, ◌∙◌, ap, subst}
use Rattle.byteorder.specs.Endian.{big_bytes}
use Rattle.yw_codec.specs.Entries.{entry_bytes, framed}
use Rattle.yw_codec.proofs.entry.write_entry_into.Goals as goal

pub returns-clause-bytes : goal.returns-clause-bytes
unfolding framed
returns-clause-bytes c =
    let room : c.write.new.out.items ≡ big_bytes 4 0 = c.in_ok-write.ensures.bytes ∙ ap (λ (l : List ℕ). l ++ big_bytes 4 0) c.clear.ensures.items in
    let written = c.in_ok-push_entry.ensures.bytes ∙ ap (λ (l : List ℕ). l ++ entry_bytes c.as_slice.result.now) room in
    let entry : drop 4 c.push_entry.new.out.items ≡ entry_bytes c.args.events.now = ap (drop 4) written ∙ ap entry_bytes c.as_slice.ensures in
    subst (λ (b : List ℕ). OnOk c.frame.result (c.frame.new.out.items ≡ (big_bytes 4 (length b) ++ b) ++ 0 ∷ [])) entry c.frame.ensures.bytes
