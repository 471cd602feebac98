use Rattle.std.proofs.Common.{◌∙◌, refl, subst}
use Rattle.yw_outside.specs.declared.image.Image.{Image}
use Rattle.yw_snapshot.specs.Heads.{IsHeadRead}
use Rattle.yw_snapshot.proofs.Fronts.{b_damaged, choice_is, higher_damaged, none_damaged}
use Rattle.yw_snapshot.proofs.choosing.choose.Goals as goal

pub returns-in-Some-fault_of-clause-cause : goal.returns-in-Some-fault_of-clause-cause
returns-in-Some-fault_of-clause-cause g c = (
  λ tells.
      let i = g.D.Desk.state c.args.desk.now in
      let a = c.in_ok-a.ensures.head tells in
      let b = subst (λ (k : Image). IsHeadRead k.b c.in_ok-b.b) c.in_ok-a.ensures.looked.same (c.in_ok-b.ensures.head (c.in_ok-a.ensures.looked.telling ∙ tells)) in
      b_damaged i c.in-Some-fault_of.place c.fault_of.result c.fault_of-2.result c.in_default.is (c.fault_of.ensures.damage i.a a) c.in-Some-fault_of.is (c.fault_of-2.ensures.damage i.b b),
  c.in_ok-b.ensures.cause.none_failed ∙ c.in_ok-a.ensures.cause.none_failed,
)

pub returns-in-Ok-clause-chosen : goal.returns-in-Ok-clause-chosen
returns-in-Ok-clause-chosen g c = λ tells.
    let i = g.D.Desk.state c.args.desk.now in
    let a = c.in_ok-a.ensures.head tells in
    let b = subst (λ (k : Image). IsHeadRead k.b c.in_ok-b.b) c.in_ok-a.ensures.looked.same (c.in_ok-b.ensures.head (c.in_ok-a.ensures.looked.telling ∙ tells)) in
    choice_is i c.in-Ok.found
    (none_damaged i c.fault_of.result c.fault_of-2.result c.in_default.is (c.fault_of.ensures.damage i.a a) c.in_default-fault_of.is (c.fault_of-2.ensures.damage i.b b))
    (c.in-Ok.ensures.none i a b)

pub returns-in-Err-clause-cause : goal.returns-in-Err-clause-cause
returns-in-Err-clause-cause g c = (
  λ tells.
      let i = g.D.Desk.state c.args.desk.now in
      let a = c.in_ok-a.ensures.head tells in
      let b = subst (λ (k : Image). IsHeadRead k.b c.in_ok-b.b) c.in_ok-a.ensures.looked.same (c.in_ok-b.ensures.head (c.in_ok-a.ensures.looked.telling ∙ tells)) in
      higher_damaged i c.in-Err.place
      (none_damaged i c.fault_of.result c.fault_of-2.result c.in_default.is (c.fault_of.ensures.damage i.a a) c.in_default-fault_of.is (c.fault_of-2.ensures.damage i.b b))
      (c.in-Err.ensures.err i a b c.in-Err.place refl),
  c.in_ok-b.ensures.cause.none_failed ∙ c.in_ok-a.ensures.cause.none_failed,
)
