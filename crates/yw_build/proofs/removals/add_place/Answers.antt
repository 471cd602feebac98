use Rattle.std.proofs.Common.{◌≡◌, ◌∙◌, sym, ap, subst, map, ℕ, List, true, false}
use Rattle.yw_spec.specs.Net.{place_text}
use Rattle.yw_accept.specs.Built.{places_of}
use Rattle.yw_accept.specs.Nodes.{is_name_among, is_task, task_names}
use Rattle.yw_accept.proofs.Places.{emptied_there}
use Rattle.yw_build.proofs.removals.add_place.Goals as goal

pub place_called-requires-clause-is : goal.place_called-requires-clause-is
place_called-requires-clause-is c =
    let net = c.args.numbers.now.said.now in
    let P : List ℕ → Type 0 = λ text. is_name_among (map place_text (places_of net)) text ≡ true in
    let no_task : is_task net c.args.text.now ≡ false = ap (is_task net) (sym c.as_str.ensures) ∙ sym (c.has.ensures (task_names net.task) c.requires.numbers.tasks) ∙ c.if-has.false in
    subst P (sym c.as_str-2.ensures) (emptied_there net c.args.text.now c.requires.is no_task)
