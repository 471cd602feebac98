use Rattle.std.proofs.Common.{◌≡◌, ◌∙◌, ap, sym}
use Rattle.std.specs.Prelude.{position}
use Rattle.yw_revive.proofs.NetRows.{called_is, name_found, none_called, stands_at}
use Rattle.yw_revive.proofs.net.find_net.Goals as goal
use Rattle.yw_revive.specs.NetRead.{has_name}
use Rattle.yw_spec.specs.declared.spec.Spec.{Spec}
use Rattle.yw_state.proofs.Tests.{some_same}
use Rattle.yw_library.specs.Holdings.{with_library}
use Rattle.yw_state.specs.State.{spec_called}

pub returns-in_err-loaded : goal.returns-in_err-loaded
returns-in_err-loaded c =
    rw c.from_residual.ensures (λ s its called. absurd (none_called s c.args.library.now c.args.spec.now its c.in_err-loaded.ensures called))

pub returns-in_err-number : goal.returns-in_err-number
returns-in_err-number c =
    rw c.from_residual-in_err-number.ensures (λ s its called.
    let library = c.args.library.now in
    let same : its ≡ c.in_ok-loaded.loaded.now
    = some_same its c.in_ok-loaded.loaded.now (sym called
    ∙ called_is s library c.args.spec.now c.in_ok-loaded.loaded.now c.in_ok-loaded.place c.in_ok-loaded.ensures) in
    ap (λ (x : Spec). position (has_name c.args.net.now) x.nets) same ∙ sym c.in_err-number.ensures)

pub returns-in_err-there : goal.returns-in_err-there
returns-in_err-there c =
    absurd (stands_at (has_name c.args.net.now) c.in_ok-loaded.loaded.now.nets c.in_ok-number.number (sym c.in_ok-number.ensures) (sym c.in_err-there.ensures))

pub returns : goal.returns
returns c = record {
  its_spec = c.in_ok-loaded.loaded.now;
  kept = c.in_ok-loaded.ensures;
  numbered = sym c.in_ok-number.ensures;
  of_spec = sym c.in_ok-there.ensures;
  its_name = name_found c.in_ok-loaded.loaded.now.nets c.args.net.now c.in_ok-number.number c.in_ok-there.there.now (sym c.in_ok-number.ensures) (sym c.in_ok-there.ensures);
}
