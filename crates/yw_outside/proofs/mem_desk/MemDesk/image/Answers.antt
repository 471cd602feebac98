use Rattle.std.proofs.Common.{◌≡◌, ap, ◌∙◌}
use Rattle.yw_outside.specs.declared.image.Fill.{Fill}
use Rattle.yw_outside.specs.declared.image.Image.{Image}
use Rattle.yw_outside.specs.Disk.{first_of, log_of, calls_up_to}
use Rattle.yw_outside.specs.Fills.{image_by, standing, at_sync}
use Rattle.yw_outside.specs.FillLaws.{old_file}
use Rattle.yw_outside.specs.declared.desk.File.TheVariants.{A, B}
use Rattle.yw_outside.specs.Log.{MayLeave, calls_in, state_of}
use Rattle.yw_outside.proofs.Images.{might_leave, new_is, left_now, reads_now, ok_by}
use Rattle.yw_outside.proofs.mem_desk.MemDesk.image.Goals as goal

pub returns-clause-left : goal.returns-clause-left
returns-clause-left c =
    let d = c.args.self.now.disk in
    let base = first_of d in
    ok_by (image_by c.args.fill base (calls_up_to d c.args.call)) (MayLeave base (calls_up_to d c.args.call)) c.image.result c.image.ensures (might_leave base (log_of d) c.args.call d.kept.placed c.args.fill)

pub returns-clause-new : goal.returns-clause-new
returns-clause-new c = λ is.
    let d = c.args.self.now.disk in
    let base = first_of d in
    let s = state_of base (calls_up_to d c.args.call) in
    ok_by (image_by c.args.fill base (calls_up_to d c.args.call)) (λ (i : Image). i ≡ s) c.image.result c.image.ensures
    (ap (λ (f : Fill). image_by f base (calls_up_to d c.args.call)) is ∙ new_is base (log_of d) c.args.call d.kept.placed)

pub returns-clause-old_a : goal.returns-clause-old_a
returns-clause-old_a c = λ is.
    let d = c.args.self.now.disk in
    let base = first_of d in
    let calls = calls_up_to d c.args.call in
    ok_by (image_by c.args.fill base calls) (λ (i : Image). i.a ≡ at_sync A base calls) c.image.result c.image.ensures
    (ap (λ (f : Fill). standing A f base calls) is ∙ old_file A base calls)

pub returns-clause-old_b : goal.returns-clause-old_b
returns-clause-old_b c = λ is.
    let d = c.args.self.now.disk in
    let base = first_of d in
    let calls = calls_up_to d c.args.call in
    ok_by (image_by c.args.fill base calls) (λ (i : Image). i.b ≡ at_sync B base calls) c.image.result c.image.ensures
    (ap (λ (f : Fill). standing B f base calls) is ∙ old_file B base calls)

pub returns-clause-left_now : goal.returns-clause-left_now
returns-clause-left_now c = λ all.
    let d = c.args.self.now.disk in
    let base = first_of d in
    let i = image_by c.args.fill base (calls_up_to d c.args.call) in
    ok_by i (MayLeave base (calls_in (log_of d))) c.image.result c.image.ensures
    (left_now base (log_of d) c.args.call d.made all d.kept.numbered i (might_leave base (log_of d) c.args.call d.kept.placed c.args.fill))

pub returns-clause-new_now : goal.returns-clause-new_now
returns-clause-new_now c = λ all is.
    let d = c.args.self.now.disk in
    let base = first_of d in
    ok_by (image_by c.args.fill base (calls_up_to d c.args.call)) (λ (i : Image). i ≡ state_of base (calls_in (log_of d))) c.image.result c.image.ensures
    (ap (λ (f : Fill). image_by f base (calls_up_to d c.args.call)) is ∙ new_is base (log_of d) c.args.call d.kept.placed ∙ reads_now base (log_of d) c.args.call d.made all d.kept.numbered)
