use Rattle.std.proofs.Common.{List, Some, ap, subst, sym, ℕ, ◌∙◌, ◌≡◌}
use Rattle.std.specs.Option.{option_copied}
use Rattle.std.specs.Prelude.{IfOk, Result, Ok, Err, slice_get}
use Rattle.yw_accepted.proofs.Loaded.{accepted_are_within}
use Rattle.yw_known.proofs.upstreams.row_of.Goals as goal
use Rattle.yw_known.specs.Upstreams.{AreUpstreams}
use Rattle.yw_library.proofs.HoldingsLemmas.{all_at}
use Rattle.yw_library.specs.Holdings.{SaysItsText}
use Rattle.yw_path.specs.declared.upstream.Upstream.{Upstream}
use Rattle.yw_state.proofs.Tests.{some_same}
use Rattle.yw_state.specs.declared.loaded.Loaded.{Loaded}
use Rattle.yw_within.specs.Within.{IsWithin}

-- what is so of one is so of the one that stands there
of_that : {E : Type 0} (r : Result (List Upstream) E) (specs : List Loaded) (number : ℕ) (m : Loaded) → slice_get specs number ≡ Some m → IsWithin m.spec
    → IfOk r (AreUpstreams m.spec.nets) → IfOk r (λ ups. (l : Loaded) → slice_get specs number ≡ Some l → IsWithin l.spec × AreUpstreams l.spec.nets ups)
of_that (Err e) specs number m at within fit = fit
of_that (Ok ups) specs number m at within fit = λ l here.
    let So : Loaded → Type 0 = λ z. IsWithin z.spec × AreUpstreams z.spec.nets ups in
    subst So (some_same m l (sym at ∙ here)) (within, fit)

pub upstreams_of-requires : goal.upstreams_of-requires
upstreams_of-requires c =
    let l = c.in-Some.loaded.now in
    let specs = c.args.library.now.specs in
    let at : slice_get specs c.args.number ≡ Some l = ap (λ z. slice_get z c.args.number) (sym c.specs.ensures.all) ∙ sym c.get.ensures ∙ ap option_copied c.in-Some.is in
    accepted_are_within l.text l.spec (all_at SaysItsText specs c.args.number l c.specs.ensures.accepted at)

pub returns-in-Some : goal.returns-in-Some
returns-in-Some c =
    let l = c.in-Some.loaded.now in
    let specs = c.args.library.now.specs in
    let at : slice_get specs c.args.number ≡ Some l = ap (λ z. slice_get z c.args.number) (sym c.specs.ensures.all) ∙ sym c.get.ensures ∙ ap option_copied c.in-Some.is in
    of_that c.upstreams_of.result specs c.args.number l at (accepted_are_within l.text l.spec (all_at SaysItsText specs c.args.number l c.specs.ensures.accepted at)) c.upstreams_of.ensures
