use Rattle.std.proofs.Common.{◌≡◌, ◌∙◌, false, find, bytes_eq, List, Option, Some, sym, ap, subst}
use Rattle.std.specs.Option.{option_copied, option_map_or}
use Rattle.yw_read.specs.declared.raw.RawNet.{RawNet}
use Rattle.yw_accept.specs.Facts.{AreDistinct, NetIsNamed}
use Rattle.yw_accept.specs.Nodes.{net_names}
use Rattle.yw_accept.specs.Scopes.{fits_child, net_named}
use Rattle.yw_check_sorts.proofs.NamedLemmas.{find_all}
use Rattle.yw_check_sorts.proofs.children.fits_net_named.Goals as goal

pub find_named-requires-clause-distinct : goal.find_named-requires-clause-distinct
find_named-requires-clause-distinct c =
    let P : List RawNet → Type 0 = λ nets. AreDistinct (net_names nets) in
    subst P (sym c.as_slice.ensures) c.requires.raw.nets_are.distinct

pub fits_child-requires-clause-child : goal.fits_child-requires-clause-child
fits_child-requires-clause-child c =
    let at : Some c.in-Some.child.now ≡ net_named c.args.raw.now c.args.name.now =
    sym (ap option_copied c.in-Some.is) ∙ c.find_named.ensures ∙ ap (find (λ (net : RawNet). bytes_eq net.name c.args.name.now)) c.as_slice.ensures in
    find_all NetIsNamed (λ (net : RawNet). bytes_eq net.name c.args.name.now) c.args.raw.now.net c.requires.raw.nets c.in-Some.child.now (sym at)

pub returns-in_ok-fit-in-Some : goal.returns-in_ok-fit-in-Some
returns-in_ok-fit-in-Some c =
    let at : Some c.in-Some.child.now ≡ net_named c.args.raw.now c.args.name.now =
    sym (ap option_copied c.in-Some.is) ∙ c.find_named.ensures ∙ ap (find (λ (net : RawNet). bytes_eq net.name c.args.name.now)) c.as_slice.ensures in
    c.in_ok-fit-in-Some.ensures ∙ ap (λ (o : Option RawNet). option_map_or (fits_child c.args.task.now) o false) at
