use Rattle.std.proofs.Common.{◌≡◌, ◌≤◌, ◌∙◌, ◌∷◌, [], Some, ap, arith, length, refl, subst, sym}
use Rattle.std.proofs.lemmas.List.{length-map, take_all}
use Rattle.std.specs.Borrow.{Bor}
use Rattle.yw_idents.specs.Idents.{lent}
use Rattle.yw_library.specs.Names.{names_of}
use Rattle.yw_restore.proofs.Gathering.{gathers_next, gathers_none}
use Rattle.yw_restore.proofs.cases.gather_case.Goals as goal
use Rattle.yw_restore.specs.Gathers.{Gathers}
use Rattle.yw_shown.proofs.Walking.{entry_at}
use Rattle.yw_sites.specs.Entries.{Entry}
use Rattle.yw_state.specs.Answers.{of_case}
use Rattle.yw_state.specs.Identity.{Ident}
use Rattle.yw_state.specs.Map.{get}

pub loop-at-init : goal.loop-at-init
loop-at-init c = λ s n held at. gathers_none s [] refl c.args.lines.now

pub loop-at-preserved : goal.loop-at-preserved
loop-at-preserved c = λ s n held here.
    let same = c.in_ok-idents.ensures (names_of c.args.known.now) c.args.forest.now s n held.boxed held.sites here in
    let bs = c.deref-at-items.result.now in
    let (e, within, at, id, stands) = entry_at s n bs c.loop-at.at-index c.at-item.result (ap lent c.deref-at-items.ensures.value
    ∙ same) c.loop-at-test.true c.at-item.is in
    let old = c.loop-at.lines in
    let new = c.gather_at.new.lines in
    let adds = c.in_ok-gather_at.ensures s e.1 held (subst (λ j. get s.sites j ≡ Some e.1) id stands) in
    gathers_next s (of_case s n) c.loop-at.at-index e c.args.lines.now old new within at (c.loop-at.invariant s n held here)
    (subst (λ j. Gathers s ((j, e.1) ∷ []) old new) (sym id) adds)

pub returns : goal.returns
returns c = λ s n held here.
    let same = c.in_ok-idents.ensures (names_of c.args.known.now) c.args.forest.now s n held.boxed held.sites here in
    let bs = c.deref-at-items.result.now in
    let long : length (of_case s n) ≤ c.loop-at.at-index =
    omega (
      arith,
      c.loop-at-test.false,
      ap length (ap lent c.deref-at-items.ensures.value ∙ same),
      length-map bs (λ (b : Bor Ident). b.now),
      length-map (of_case s n) (λ (e : Entry). e.0),
    ) in
    subst (λ es. Gathers s es c.args.lines.now c.loop-at.lines) (take_all c.loop-at.at-index (of_case s n) long) (c.loop-at.invariant s n held here)
