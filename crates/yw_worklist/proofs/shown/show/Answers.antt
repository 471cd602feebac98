use Rattle.std.proofs.Common.{◌≡◌, ◌≤◌, ◌∙◌, Some, ap, arith, length, subst, sym}
use Rattle.std.proofs.lemmas.List.{length-map, take_all}
use Rattle.std.specs.Borrow.{Bor}
use Rattle.yw_idents.specs.Idents.{lent}
use Rattle.yw_library.specs.Names.{names_of}
use Rattle.yw_shown.proofs.Walking.{all_shown, entry_at, next_shown, no_case_shown, none_shown}
use Rattle.yw_shown.specs.Shows.{AddsEntry, Entry, ShowsEntries}
use Rattle.yw_state.specs.Answers.{IsShown, of_case}
use Rattle.yw_state.specs.Identity.{Ident}
use Rattle.yw_state.specs.Map.{get}
use Rattle.yw_worklist.proofs.shown.show.Goals as goal

pub loop-at-init : goal.loop-at-init
loop-at-init c = λ s held. subst (ShowsEntries s _) (sym c.no_rows-shown.ensures) (none_shown s)

pub loop-at-preserved : goal.loop-at-preserved
loop-at-preserved c = λ s held.
    let n = c.args.n in
    let same = c.in_ok-idents.ensures (names_of c.args.known.now) c.args.forest.now s n held.boxed held.sites (sym c.in-Some.ensures) in
    let bs = c.deref-at-items.result.now in
    let (e, within, at, id, stands) = entry_at s n bs c.loop-at.at-index c.at-item.result (ap lent c.deref-at-items.ensures.value ∙ same) c.loop-at-test.true c.at-item.is in
    let adds = c.in_ok-push_entry.ensures s e.1 held (subst (λ j. get s.sites j ≡ Some e.1) id stands) in
    next_shown s n c.loop-at.at-index e c.loop-at.shown c.push_entry.new.shown within at (c.loop-at.invariant s held) (subst (λ j. AddsEntry s (j, e.1) c.loop-at.shown c.push_entry.new.shown) (sym id) adds)

pub returns : goal.returns
returns c = λ s held.
    let n = c.args.n in
    let same = c.in_ok-idents.ensures (names_of c.args.known.now) c.args.forest.now s n held.boxed held.sites (sym c.in-Some.ensures) in
    let bs = c.deref-at-items.result.now in
    let long : length (of_case s n) ≤ c.loop-at.at-index =
    omega (arith, c.loop-at-test.false, ap length (ap lent c.deref-at-items.ensures.value ∙ same), length-map bs (λ (b : Bor Ident). b.now), length-map (of_case s n) (λ (e : Entry). e.0)) in
    all_shown s n c.loop-at.shown (subst (λ es. ShowsEntries s es c.loop-at.shown) (take_all c.loop-at.at-index (of_case s n) long) (c.loop-at.invariant s held))

pub returns-in_default : goal.returns-in_default
returns-in_default c = λ s held.
    subst (IsShown s c.args.n) (sym c.no_rows-shown.ensures)
    (no_case_shown (names_of c.args.known.now) c.args.forest.now s c.args.n held.boxed held.sites (sym c.in_default.ensures))
