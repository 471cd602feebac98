use Rattle.std.proofs.Common.{◌+◌, map, string_bytes, take}
use Rattle.yw_spec.specs.Net.{place_text}
use Rattle.yw_wire.proofs.StepLemmas.{front_more, goes_on, length-front}
use Rattle.yw_wire.proofs.steps.add_places.Goals as goal

pub loop-k-preserved : goal.loop-k-preserved
loop-k-preserved c =
    let places = c.args.places.now in
    let k = c.loop-k.k in
    let place = c.index-places-k.result in
    goes_on (string_bytes c.push.new.self) (map place_text (take k places)) (map place_text (take (k + 1) places)) (place_text place) k _ _ _ (length-front place_text places k c.loop-k-test.true) (front_more place_text places k place c.loop-k-test.true c.index-places-k.is) c.loop-k.invariant c.in_ok-push_comma.ensures c.in_ok-push_place.ensures
