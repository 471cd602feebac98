use Rattle.std.proofs.Common.{◌≡◌, ◌+◌, ◌-◌, ◌∙◌, ℕ, List, Option, length, take, drop, ap, subst, arith, length-drop}
use Rattle.std.proofs.lemmas.List.{take_rest}
use Rattle.yw_adapt.proofs.Pieces.{longer, torn_on}
use Rattle.yw_adapt.specs.Files.{TornAt}
use Rattle.yw_adapt.proofs.slot.write_whole.Goals as goal

-- how much is left to write
left : (bytes : List ℕ) (done : ℕ) → length (take (length bytes - done) (drop done bytes)) ≡ length bytes - done
left bytes done = ap length (take_rest bytes done) ∙ length-drop done bytes

pub returns-in_err-done-clause-rest : goal.returns-in_err-done-clause-rest
returns-in_err-done-clause-rest g c =
    let (within, prefix, rest, path, kept, locked, same) = c.loop-done.invariant in
    let at = c.args.at in
    let done = c.loop-done.done in
    let bytes = c.args.bytes.now in
    let old = g.S.System.holds c.loop-done.file in
    let new = g.S.System.holds c.write_at.new.file in
    let torn : TornAt (at + done) (length bytes - done) old new = subst (λ (n : ℕ). TornAt (at + done) n old new) (left bytes done) c.write_at.ensures.rest in
    torn_on at done bytes _ old new within prefix rest torn

pub loop-done-preserved : goal.loop-done-preserved
loop-done-preserved g c =
    let (within, prefix, rest, path, kept, locked, same) = c.loop-done.invariant in
    let at = c.args.at in
    let done = c.loop-done.done in
    let bytes = c.args.bytes.now in
    let n = c.in_ok-done.field-0 in
    let old = g.S.System.holds c.loop-done.file in
    let new = g.S.System.holds c.write_at.new.file in
    let told = c.in_ok-done.ensures in
    let torn : TornAt (at + done) (length bytes - done) old new = subst (λ (m : ℕ). TornAt (at + done) m old new) (left bytes done) told.rest in (
      omega (arith, left bytes done, told.bound, within),
      λ held e. longer at done n bytes held old within prefix (told.bytes held e ∙ ap (take n) (take_rest bytes done)) (subst (λ (o : Option (List ℕ)). TornAt (at + done) (length bytes - done) old o) e torn),
      torn_on at done bytes _ old new within prefix rest torn,
      told.path ∙ path,
      told.kept ∙ kept,
      told.locked ∙ locked,
      told.counts.failed.one ∙ same,
    )
