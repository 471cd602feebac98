use Rattle.std.proofs.Common.{Some, false, length, refl, subst, sym, true, ◌≡◌}
use Rattle.std.proofs.lemmas.Bool.{le-ltb, lt-ltb}
use Rattle.std.specs.Option.{option_copied}
use Rattle.std.specs.Prelude.{nat_lt}
use Rattle.yw_base.specs.Identity.{is_identity}
use Rattle.yw_exlet.proofs.Handed.{hands_over, source_stands}
use Rattle.yw_exlet.proofs.ByKind.{begins_compensation, goes_too_deep}
use Rattle.yw_exlet.proofs.first.compensate_by.Goals as goal
use Rattle.yw_exlet.specs.Needs.{FitsTarget, handed}
use Rattle.yw_state.specs.Allowed.{depth_end}
use Rattle.yw_state.specs.declared.tree.Primitive.TheVariants.{Compensate}
use Rattle.yw_worklet.specs.Begins.{BeginsTop}

pub new_compensation-requires-clause-stands : goal.new_compensation-requires-clause-stands
new_compensation-requires-clause-stands c =
    source_stands (option_copied c.args.item) c.args.forest.now c.requires.boxed c.args.j.now c.numbers-target.ensures.identity c.requires.fits c.requires.stands

pub returns-then-depth-ge-DEPTH_END-clause-ok : goal.returns-then-depth-ge-DEPTH_END-clause-ok
returns-then-depth-ge-DEPTH_END-clause-ok c = λ name due is.
    goes_too_deep c.args.top.now (option_copied c.args.item) (Some (c.args.spec.now, c.args.number)) due c.args.r.now c.args.forest.now c.take_none.new.forest c.take_none.ensures.boxed name
    (subst (λ z. nat_lt (length z) depth_end ≡ false) c.numbers-depth.ensures.numbers (le-ltb (length c.numbers-depth.result.now) depth_end c.if-depth-ge-DEPTH_END.true)) c.take_none.ensures.takes

pub returns-clause-ok : goal.returns-clause-ok
returns-clause-ok c = λ name due is.
    let f = c.args.forest.now in
    let r = c.args.r.now in
    let top = c.args.top.now in
    let item = option_copied c.args.item in
    let spec = c.args.spec.now in
    let net = c.in_ok-net.net in
    let by : BeginsTop spec c.args.number (handed f c.args.j.now top item) net.value =
    subst (BeginsTop spec c.args.number (handed f c.args.j.now top item)) (sym c.in_ok-net.ensures.ok) c.in_ok-new_compensation.ensures in
    let comp = Some (spec, c.args.number) in
    begins_compensation top item comp due r f c.take_compensation.new.forest c.take_compensation.ensures.boxed name spec c.args.number refl
    (subst (λ z. nat_lt (length z) depth_end ≡ true) c.numbers-depth.ensures.numbers (lt-ltb (length c.numbers-depth.result.now) depth_end c.if-depth-ge-DEPTH_END.false)) (handed f (_) top item) net.value (subst (λ k. BeginsTop spec c.args.number (handed f k top item) net.value) is by)
    (hands_over top item comp due r (Compensate name) f c.requires.boxed (subst (λ k. is_identity k ≡ true) is c.numbers-target.ensures.identity) (subst (λ k. FitsTarget k item) is c.requires.fits))
    c.take_compensation.ensures.takes
