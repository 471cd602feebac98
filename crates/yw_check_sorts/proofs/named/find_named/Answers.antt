use Rattle.std.proofs.Common.{map, refl, sym, ap, ◌∙◌, true≢false}
use Rattle.std.specs.Option.{option_copied}
use Rattle.std.proofs.lemmas.Bool.{false_from_ne_true}
use Rattle.yw_accept.specs.Nodes.{is_name_among}
use Rattle.yw_check_sorts.proofs.NamedLemmas.{found_at, found_none, read_at}
use Rattle.yw_check_sorts.proofs.named.find_named.Goals as goal

pub returns-in_err-number : goal.returns-in_err-number
returns-in_err-number g c =
    let of = g.T.Named.name_of in
    let names = map of c.args.items.now in
    ap option_copied c.from_residual.ensures
    ∙ sym (found_none of c.args.name.now c.args.items.now (false_from_ne_true (is_name_among names c.args.name.now) (λ t. true≢false (sym (c.in_err-number.ensures.missed names c.requires.index t)))))

pub returns : goal.returns
returns g c =
    let of = g.T.Named.name_of in
    read_at c.get.result c.args.items.now c.in_ok-number.number c.get.ensures.lookup.0 c.get.ensures.lookup.1
    ∙ sym (found_at of c.args.name.now c.args.items.now c.requires.distinct c.in_ok-number.number (c.in_ok-number.ensures.found (map of c.args.items.now) c.requires.index c.in_ok-number.number refl))
