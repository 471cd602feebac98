use Rattle.std.proofs.Common.{List, Some, [], ap, arith, length, length-append, subst, sym, ◌+◌, ◌∙◌, ◌∷◌, ◌≡◌}
use Rattle.std.proofs.lemmas.Option.{slice_get-get_or}
use Rattle.std.specs.Prelude.{slice_get}
use Rattle.yw_known.proofs.Rows.{EachUpstream, each-push, places_fit}
use Rattle.yw_known.proofs.upstreams.upstreams_of.Goals as goal
use Rattle.yw_known.specs.Upstreams.{AreUpstreams}
use Rattle.yw_path.specs.declared.upstream.Upstream.{Upstream}
use Rattle.yw_spec.specs.declared.spec.Net.{Net}

pub build-requires : goal.build-requires
build-requires c =
    let items = c.as_slice-net-items.result.now in
    let k = c.loop-net.net-index in
    let at : slice_get items k ≡ Some c.net-item.result = slice_get-get_or items k c.net-item.result c.loop-net-test.true ∙ ap Some (sym c.net-item.is) in
    places_fit c.args.spec.now k c.net-item.result c.requires (ap (λ z. slice_get z k) (sym c.as_slice-net-items.ensures) ∙ at)

pub loop-net-preserved : goal.loop-net-preserved
loop-net-preserved c =
    let items = c.as_slice-net-items.result.now in
    let k = c.loop-net.net-index in
    let ups = c.loop-net.ups in
    let up = c.in_ok-build.field-0 in
    let at : slice_get items k ≡ Some c.net-item.result = slice_get-get_or items k c.net-item.result c.loop-net-test.true ∙ ap Some (sym c.net-item.is) in
    let So : List Upstream → Type 0 = λ z. (length z ≡ k + 1) × EachUpstream items z in
    subst So (sym c.in_ok-push.ensures.ok) (
      (let e = c.loop-net.invariant.0 in omega (arith, length-append ups (up ∷ []))),
      each-push items ups c.net-item.result up (ap (slice_get items) c.loop-net.invariant.0 ∙ at) c.in_ok-build.ensures c.loop-net.invariant.1,
    )

pub returns : goal.returns
returns c =
    let items = c.as_slice-net-items.result.now in
    let len : length c.loop-net.ups ≡ length items = (let e = c.loop-net.invariant.0 in omega (arith, c.loop-net-test.false, c.loop-net.auto.net-index-end)) in
    subst (λ (nets : List Net). AreUpstreams nets c.loop-net.ups) c.as_slice-net-items.ensures (record { len = len; each = c.loop-net.invariant.1 })
