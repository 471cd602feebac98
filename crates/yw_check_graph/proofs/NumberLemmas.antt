-- Numbers of nodes.
use Rattle.std.proofs.Common.{◌≡◌, ℕ, ◌<◌, ◌++◌, List, [], ◌∷◌, length, Some, sym, ap, ◌∙◌}
use Rattle.std.specs.Prelude.{slice_get}
use Rattle.std.proofs.lemmas.List.{map_push}
use Rattle.std.proofs.lemmas.List.Elements.{All-push}
use Rattle.std.proofs.lemmas.Option.{get_or_from_slice_get, slice_get_within}
use Rattle.yw_read.specs.declared.raw.RawFlow.{RawFlow}
use Rattle.yw_reach.specs.declared.flow.Flow.{Flow}
use Rattle.yw_reach.specs.Flows.{IsWithin}
use Rattle.yw_reach.specs.Renaming.{named_flows}
use Rattle.yw_check_graph.specs.Graph.{name_at, flow_between, IsNumbered, AreNumbered}

pub found_at : (names : List (List ℕ)) (k : ℕ) (name : List ℕ) → slice_get names k ≡ Some name → (k < length names) × (name_at names k ≡ name)
found_at names k name h = (slice_get_within names k name h, get_or_from_slice_get names k name [] h)

pub numbered_more : (names : List (List ℕ)) (said : List RawFlow) (flows : List Flow) (s : RawFlow) (f : Flow) → AreNumbered names said flows → IsNumbered names s f → AreNumbered names (said ++ s ∷ []) (flows ++ f ∷ [])
numbered_more names said flows s f r h = record {
  within = All-push (IsWithin (length names)) flows f r.within h.within;
  same =
      let one : Flow → RawFlow = λ f. flow_between (name_at names f.from) (name_at names f.to) in
      ap (λ ss. ss ++ s ∷ []) r.same ∙ ap (λ t. named_flows (name_at names) flow_between flows ++ t ∷ []) h.same ∙ sym (map_push one flows f);
}
