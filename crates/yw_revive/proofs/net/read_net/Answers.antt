use Rattle.std.proofs.Common.{◌≡◌, ℕ, List, Option, None, Some, refl, subst}
use Rattle.yw_library.specs.Holdings.{Holdings}
use Rattle.yw_revive.proofs.NetRows.{has_row, none_has}
use Rattle.yw_revive.proofs.net.read_net.Goals as goal
use Rattle.yw_revive.specs.NetRead.{IsFoundNet, NoNetNamed}
use Rattle.yw_revive.specs.Taken.{IsTaken}
use Rattle.yw_revive.specs.declared.net.FoundNet.{FoundNet}
use Rattle.yw_spec.specs.declared.spec.Place.{Place}

none_found : (library : Holdings) (spec name : List ℕ) (o : Option FoundNet) → IsFoundNet library spec name o → ((x : FoundNet) → o ≡ Some x → ⊥)
    → NoNetNamed library spec name
none_found library spec name None none other = none
none_found library spec name (Some x) some other = absurd (other x refl)

pub returns-in_default : goal.returns-in_default
returns-in_default c = λ s n within has.
    let row = c.args.row in
    none_has c.args.library.now s n row.ident row within has
    (none_found c.args.library.now row.spec row.net c.find_net.result c.find_net.ensures c.in_default.not-Some)

pub returns : goal.returns
returns c =
    let library = c.args.library.now in
    let row = c.args.row in
    let found = c.in-Some.found in
    let tokens = c.args.tokens.now in
    has_row library row tokens c.args.from found (subst (IsFoundNet library row.spec row.net) c.in-Some.is c.find_net.ensures)
    c.in_ok-marks.marks c.in_ok-marks.next c.len-tasks.result
    (subst (λ (ps : List Place). IsTaken row.ident ps tokens c.args.from c.in_ok-marks.marks c.in_ok-marks.next) c.as_slice.ensures c.in_ok-marks.ensures)
    c.in_ok-net.net c.in_ok-net.ensures
