use Rattle.std.proofs.Common.{take}
use Rattle.std.specs.Prelude.{not, filter}
use Rattle.std.specs.List.{AllZip}
use Rattle.yw_accept.specs.Built.{IsPlaceCalled}
use Rattle.yw_accept.specs.Nodes.{is_task}
use Rattle.yw_build.proofs.removals.removed_places.Given as goal

abbrev pub invariant-loop-text : goal.invariant-loop-text
invariant-loop-text l = AllZip (IsPlaceCalled l.numbers.said.now) (filter (λ text. not (is_task l.numbers.said.now text)) (take l.text-index l.texts)) l.places
