use Rattle.std.proofs.Common.{◌≡◌, ℕ, ◌*◌, ◌/◌, ◌%◌, ◌^◌, ◌<◌, List, length, get_or, set, refl, sym, subst}
use Rattle.std.specs.Prelude.{bit_or}
use Rattle.std.proofs.lemmas.List.{get_or_read_under}
use Rattle.yw_path.proofs.BitLemmas.{inserted}
use Rattle.yw_path.proofs.bits.BitRow.insert.Goals as goal
use Rattle.yw_path.specs.Bits.{AddsOne}

pub returns : goal.returns
returns c =
    let row : List ℕ = c.self.inside.words.items in
    let k : ℕ = c.args.k in
    let lt : k / 64 < length row = let P : List ℕ → Type 0 = λ r. k / 64 < length r in subst P (sym c.self.view_is) c.requires in
    let read : c.index_mut.result.now ≡ get_or row (k / 64) 0 = get_or_read_under row (k / 64) (length row) c.index_mut.result.now 0 c.index_mut.ensures.value lt refl in
    let new : ℕ → List ℕ = λ word. set row (k / 64) (bit_or word (1 * 2 ^ (k % 64) % 2 ^ 64)) in
    let P : ℕ → Type 0 = λ word. AddsOne k row (new word) in
    let Q : List ℕ → Type 0 = λ old. AddsOne k old (new c.index_mut.result.now) in
    subst Q c.self.view_is (subst P (sym read) (inserted row k lt))
