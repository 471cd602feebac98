use Rattle.std.proofs.Common.{◌≡◌, ◌∙◌, ap, drop, length, subst}
use Rattle.yw_journal.specs.Records.{IsFramedState}
use Rattle.yw_restore.proofs.Framing.{drop_front}
use Rattle.yw_restore.proofs.framed.framed_state.Goals as goal

pub returns : goal.returns
returns c = λ s is.
    let written = c.in_ok-write_state.ensures.state s is in
    let new = c.write_state.new.out.items in
    let behind : drop 8 new ≡ written.0 = ap (drop 8) written.1 ∙ drop_front c.in_ok-out.out.items written.0 8 (ap length (c.in_ok-out.ensures.items_if_clones_equal (λ y e. e))) in
    (written.0, subst (λ bytes. IsFramedState c.frame.new.out.items bytes) behind c.in_ok-frame.ensures, written.2)
