use Rattle.std.proofs.Common.{◌≡◌, ℕ, List, length, sym, ap, ◌∙◌, subst, arith}
use Rattle.yw_path.proofs.BitLemmas.{joined_words, written_whole}
use Rattle.yw_path.proofs.bits.BitRow.join.Goals as goal
use Rattle.yw_path.specs.Bits.{Adds, Has}

pub returns : goal.returns
returns c =
    let old : List ℕ = c.deref_mut.result.now in
    let new : List ℕ = c.join_words.new.words in
    let old_is : old ≡ c.args.self.now = c.deref_mut.ensures.value ∙ c.self.view_is in
    let other_is : c.deref.result.now ≡ c.args.other.now = c.deref.ensures.value ∙ c.other.view_is in
    let len : length new ≡ length old = omega arith in
    let others : length c.deref.result.now ≡ length old = ap length other_is ∙ c.requires ∙ ap length (sym old_is) in
    let whole = written_whole c.self.inside.words.len new c.self.inside.words.items (len ∙ ap length c.deref_mut.ensures.value) (omega arith) in
    let P : List ℕ → Type 0 = λ row. Adds (Has c.args.other.now) c.args.self.now row in
    let Q : List ℕ → Type 0 = λ row. Adds (Has row) c.args.self.now new in
    let R : List ℕ → Type 0 = λ row. Adds (Has c.deref.result.now) row new in
    subst P (sym whole) (subst Q other_is (subst R old_is (joined_words old c.deref.result.now new len others c.join_words.ensures)))
