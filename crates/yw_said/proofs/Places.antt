-- The places of a net are distinct, and so are their texts.
use Rattle.std.proofs.Common.{◌≡◌, ℕ, ◌<◌, true, List, [], ◌∷◌, ◌++◌, map, length, get_or, All, None, sym, ap, ◌∙◌, subst, arith, append_assoc, append-nil}
use Rattle.std.specs.Prelude.{filter}
use Rattle.std.specs.Str.{bytes_eq}
use Rattle.std.proofs.lemmas.Bool.{and_from, and_parts, both_ways, not-true}
use Rattle.std.proofs.lemmas.List.Elements.{All-map, filter_passes}
use Rattle.std.proofs.lemmas.List.Folds.{list_any_at}
use Rattle.std.proofs.lemmas.List.Kept.{AllPairs-filter}
use Rattle.std.proofs.lemmas.List.Quantifiers.{all_pairs_push}
use Rattle.std.proofs.lemmas.Slice.Eq.{bytes_eq-Decides}
use Rattle.yw_spec.specs.Net.{place_text}
use Rattle.yw_spec.specs.declared.spec.Place.TheVariants as places
use Rattle.yw_read.specs.declared.raw.RawFlow.{RawFlow}
use Rattle.yw_read.specs.declared.raw.RawNet.{RawNet}
use Rattle.yw_accept.specs.Built.{place_of, places_of}
use Rattle.yw_accept.specs.Facts.{NetIsNamed, NetLeads}
use Rattle.yw_accept.specs.Names.{is_usable, is_same_flow, FlowFits}
use Rattle.yw_accept.specs.Nodes.{is_implicit, named_places, task_names, nodes}
use Rattle.yw_accept.specs.Order.{InTurn}
use Rattle.yw_accept.proofs.Places.{IsNamedPlace, known_by_text, place_both, places_usable, all_named}
use Rattle.yw_said.proofs.Numbers.{Apart, apart_append, apart_left, apart_map, apart_names}

-- ---- an implicit place is a flow's alone

module _ (net : RawNet) where
  between : (flow : RawFlow) → is_implicit net flow ≡ true → place_of net flow ≡ places.Between flow.from flow.to
  between flow h = let ends = and_parts _ _ h in place_both net flow ends.0 ends.1

  one_flow : (f g : RawFlow) → is_implicit net f ≡ true → is_implicit net g ≡ true → place_of net f ≡ place_of net g → f ≡ g
  one_flow f g hf hg e =
      let same : places.Between f.from f.to ≡ places.Between g.from g.to = sym (between f hf) ∙ e ∙ between g hg in
      let from : f.from ≡ g.from = cc in
      let to : f.to ≡ g.to = cc in
      λ i. record { from = from i; to = to i }

  not_between : (name : List ℕ) (flow : RawFlow) → is_implicit net flow ≡ true → places.Named name ≡ place_of net flow → ⊥
  not_between name flow h e = let same : places.Named name ≡ places.Between flow.from flow.to = e ∙ between flow h in cc

-- ---- no flow comes twice

same_flow : (f g : RawFlow) → g ≡ f → is_same_flow f g ≡ true
same_flow f g e =
    let from : bytes_eq f.from g.from ≡ true = (bytes_eq-Decides f.from g.from).1 (ap (λ (h : RawFlow). h.from) (sym e)) in
    let to : bytes_eq f.to g.to ≡ true = (bytes_eq-Decides f.to g.to).1 (ap (λ (h : RawFlow). h.to) (sym e)) in
    and_from _ _ from to

flow_new : (net : RawNet) (seen : List RawFlow) (flow : RawFlow) → FlowFits net seen flow None → (k : ℕ) (d : RawFlow) → k < length seen → get_or seen k d ≡ flow → ⊥
flow_new net seen flow h k d lt e = both_ways _ (not-true _ (and_parts _ _ h).1) (list_any_at (is_same_flow flow) seen k d lt (same_flow flow (get_or seen k d) e))

flows_apart : (net : RawNet) (seen flows : List RawFlow) → Apart seen → InTurn (FlowFits net) seen flows None → Apart (seen ++ flows)
flows_apart net seen [] h g = let P : List RawFlow → Type 0 = λ fs. Apart fs in subst P (sym (append-nil seen)) h
flows_apart net seen (flow ∷ flows) h g =
    let P : List RawFlow → Type 0 = λ fs. Apart fs in
    let more : Apart (seen ++ flow ∷ []) = all_pairs_push (λ x y. x ≡ y → ⊥) seen flow h (flow_new net seen flow g.0) in
    subst P (append_assoc seen (flow ∷ []) flows) (flows_apart net (seen ++ flow ∷ []) flows more g.1)

-- ---- the places of a net of which the first two checks find nothing

module _ (net : RawNet) (named : NetIsNamed net) (leads : NetLeads net) (turn : InTurn (FlowFits net) [] net.flows None) where
  abbrev arrows : List RawFlow
  arrows = filter (is_implicit net) net.flows

  names_apart : Apart (named_places net)
  names_apart = apart_left (named_places net) (task_names net.task) (apart_names (nodes net) named.nodes_are.distinct)

  pub places_apart : Apart (places_of net)
  places_apart =
      apart_append (map places.Named (named_places net)) (map (place_of net) arrows)
      (apart_map places.Named (λ n. is_usable n ≡ true) (λ x y p q e. (cc)) (named_places net) (places_usable net named) names_apart)
      (apart_map (place_of net) (λ flow. is_implicit net flow ≡ true) (one_flow net) arrows (filter_passes (is_implicit net) net.flows) (AllPairs-filter (λ x y. x ≡ y → ⊥) (is_implicit net) net.flows (flows_apart net [] net.flows (λ i j d lt within e. omega (arith, within)) turn)))
      (All-map (λ p. All (λ q. p ≡ q → ⊥) (map (place_of net) arrows)) places.Named (named_places net) (λ i d lt.
      All-map (λ q. places.Named (get_or (named_places net) i d) ≡ q → ⊥) (place_of net) arrows (λ j c within. not_between net (get_or (named_places net) i d) (get_or arrows j c) (filter_passes (is_implicit net) net.flows j c within))))

  pub texts_apart : Apart (map place_text (places_of net))
  texts_apart = apart_map place_text IsNamedPlace known_by_text (places_of net) (all_named net named leads) places_apart
