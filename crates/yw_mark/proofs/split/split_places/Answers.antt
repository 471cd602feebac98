use Rattle.std.proofs.Common.{◌∙◌, ap}
use Rattle.yw_mark.proofs.SplitLemmas.{and_split, or_split, xor_split}
use Rattle.yw_mark.proofs.split.split_places.Goals as goal
use Rattle.yw_mark.proofs.split.split_places.Goals.{in-And+in_ok-places-in-And, in-Xor+in_ok-places-in-Xor, in-Or+in_ok-places-in-Or}

pub returns : goal.returns
returns g c = elim c.match-task.branch [
  | in-And+in_ok-places-in-And w ↦ c.from_vec.ensures ∙ ap (λ v. v.items) w.places-is ∙ w.in_ok-places-in-And.ensures.items ∙ w.as_slice.ensures ∙ and_split c.args.task.now (g.V.Values.values c.args.values.now) w.in-And.is
  | in-Xor+in_ok-places-in-Xor w ↦ c.from_vec.ensures ∙ ap (λ v. v.items) w.places-is ∙ w.in_ok-places-in-Xor.ensures ∙ xor_split c.args.task.now (g.V.Values.values c.args.values.now) w.in-Xor.is
  | in-Or+in_ok-places-in-Or w ↦ c.from_vec.ensures ∙ ap (λ v. v.items) w.places-is ∙ w.in_ok-places-in-Or.ensures ∙ or_split c.args.task.now (g.V.Values.values c.args.values.now) w.in-Or.is
]
