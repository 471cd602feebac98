-- A flow's place is found by its text.
use Rattle.std.proofs.Common.{◌≡◌, ℕ, true, false, List, ◌++◌, map, Contains, Option, Some, None, refl, sym, ap, ◌∙◌, subst}
use Rattle.std.specs.Prelude.{slice_get, codes}
use Rattle.std.specs.Option.{option_map}
use Rattle.std.proofs.lemmas.List.Elements.{All-contains}
use Rattle.std.proofs.lemmas.Option.{get_or_from_slice_get, slice_get_within}
use Rattle.yw_spec.specs.Net.{place_text}
use Rattle.yw_spec.specs.declared.spec.Place.{Place}
use Rattle.yw_read.specs.declared.raw.RawFlow.{RawFlow}
use Rattle.yw_read.specs.declared.raw.RawNet.{RawNet}
use Rattle.yw_accept.specs.Built.{place_of, places_of, IsPlaceOf, IsPlaceCalled}
use Rattle.yw_accept.specs.Facts.{HasUsableEnds, NetIsNamed, NetLeads}
use Rattle.yw_accept.specs.Names.{may_lead}
use Rattle.yw_accept.specs.Nodes.{is_name_among, is_task}
use Rattle.yw_accept.proofs.Places.{IsNamedPlace, known_by_text, place_from, place_to, place_both, place_there, text_there, ends_named, ends_usable, all_named}

module _ (net : RawNet) (named : NetIsNamed net) (leads : NetLeads net) (flow : RawFlow) (there : Contains net.flows flow) where
  pub text_from : is_task net flow.from ≡ false → place_text (place_of net flow) ≡ flow.from
  text_from h = ap place_text (place_from net flow h)

  pub text_to : is_task net flow.from ≡ true → is_task net flow.to ≡ false → place_text (place_of net flow) ≡ flow.to
  text_to h g = ap place_text (place_to net flow h g)

  pub text_both : is_task net flow.from ≡ true → is_task net flow.to ≡ true → place_text (place_of net flow) ≡ flow.from ++ codes "->" ++ flow.to
  text_both h g = ap place_text (place_both net flow h g)

  pub flow_there : (text : List ℕ) → place_text (place_of net flow) ≡ text → is_name_among (map place_text (places_of net)) text ≡ true
  flow_there text e = text_there net (place_of net flow) text (place_there net flow (All-contains (λ f. may_lead net f ≡ true) net.flows flow leads.leads there) there) e

  by_text : (text : List ℕ) (k : ℕ) (o : Option Place) → place_text (place_of net flow) ≡ text → slice_get (places_of net) k ≡ o → option_map place_text o ≡ Some text → o ≡ Some (place_of net flow)
  by_text text k None e at h = cc
  by_text text k (Some p) e at h =
      let is_named : IsNamedPlace p = subst IsNamedPlace (get_or_from_slice_get (places_of net) k p p at) (all_named net named leads k p (slice_get_within (places_of net) k p at)) in
      let same : place_text p ≡ text = cc in
      ap Some (known_by_text p (place_of net flow) is_named (ends_named net flow (All-contains HasUsableEnds net.flows flow (ends_usable net named leads) there)) (same ∙ sym e))

  pub found_place : (text : List ℕ) (k : ℕ) → place_text (place_of net flow) ≡ text → IsPlaceCalled net text k → IsPlaceOf net flow k
  found_place text k e h = by_text text k (slice_get (places_of net) k) e refl h
