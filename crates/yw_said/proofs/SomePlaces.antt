-- The number of a flow's place, and of a place that a task removes.
use Rattle.std.proofs.Common.{◌≡◌, ℕ, true, false, List, Contains}
use Rattle.yw_spec.specs.Net.{place_text}
use Rattle.yw_read.specs.declared.raw.RawFlow.{RawFlow}
use Rattle.yw_read.specs.declared.raw.RawNet.{RawNet}
use Rattle.yw_accept.specs.Built.{place_of, places_of, IsPlaceOf, IsPlaceCalled}
use Rattle.yw_accept.specs.Names.{may_lead, may_be_emptied}
use Rattle.yw_accept.specs.Nodes.{is_task}
use Rattle.yw_accept.proofs.Places.{emptied_there, place_there}
use Rattle.yw_said.proofs.SomeLists.{number_of, number_called}

module _ (net : RawNet) where
  pub emptied_place : (text : List ℕ) → may_be_emptied net text ≡ true → is_task net text ≡ false → (k : ℕ) × IsPlaceCalled net text k
  emptied_place text h no_task = number_called place_text (places_of net) text (emptied_there net text h no_task)

  pub flow_place : (flow : RawFlow) → may_lead net flow ≡ true → Contains net.flows flow → (k : ℕ) × IsPlaceOf net flow k
  flow_place flow may there = number_of (places_of net) (place_of net flow) (place_there net flow may there)
