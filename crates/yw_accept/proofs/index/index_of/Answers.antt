use Rattle.std.proofs.Common.{◌≡◌, ◌≤◌, ℕ, List, [], ◌∷◌, ◌++◌, map, take, get_or, length, string_bytes, sym, ap, ◌∙◌, subst, arith}
use Rattle.std.proofs.lemmas.List.{take_more, length-take-le}
use Rattle.yw_accept.specs.Index.{IsIndexOf}
use Rattle.yw_accept.proofs.Among.{name_at}
use Rattle.yw_accept.proofs.index.index_of.Goals as goal

pub loop-number-preserved : goal.loop-number-preserved
loop-number-preserved g c =
    let names = map g.T.Named.name_of c.args.items.now in
    let i = c.loop-number.number in
    let at = name_at g.T.Named.name_of c.args.items.now i c.index-items-number.result c.name.result.now c.loop-number-test.true c.index-items-number.is c.name.ensures in
    let added = string_bytes c.in_ok-from_str.field-0 in
    let is : added ≡ get_or names i c.name.result.now = c.in_ok-from_str.ensures.ok ∙ c.as_str.ensures ∙ at.1 in
    let le : i ≤ length names = omega (arith, at.0) in
    let P : List (List ℕ) → Type 0 = λ xs. IsIndexOf xs c.add.new.self in
    subst P (ap (λ (x : List ℕ). take i names ++ x ∷ []) is ∙ sym (take_more names i c.name.result.now at.0))
    (c.in_ok-add.ensures (take i names) c.loop-number.invariant (sym (length-take-le i names le)))
