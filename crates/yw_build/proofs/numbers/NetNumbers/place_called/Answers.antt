use Rattle.std.proofs.Common.{◌∙◌, sym, map, refl}
use Rattle.std.proofs.lemmas.Option.{slice_get-map}
use Rattle.yw_spec.specs.Net.{place_text}
use Rattle.yw_accept.specs.Built.{places_of}
use Rattle.yw_build.proofs.numbers.NetNumbers.place_called.Goals as goal

pub returns : goal.returns
returns c =
    let net = c.args.self.now.said.now in
    sym (slice_get-map place_text (places_of net) c.in-Some.number) ∙ c.in-Some.ensures.found (map place_text (places_of net)) c.requires.numbers.places c.in-Some.number refl
