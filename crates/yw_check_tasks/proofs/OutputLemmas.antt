-- The outputs of nodes, flow by flow.
use Rattle.std.proofs.Common.{◌≡◌, ℕ, ◌+◌, ◌<◌, Bool, true, false, List, [], ◌∷◌, ◌++◌, map, filter, length, get_or, take, cond, if◌then◌else◌, Bor, Vec, BTreeMap, bytes_eq, nat_cmp, refl, sym, ap, ◌∙◌}
use Rattle.std.proofs.lemmas.List.{map-append}
use Rattle.std.proofs.lemmas.List.Elements.{filter_more}
use Rattle.std.specs.BTreeMap.{is_at}
use Rattle.std.specs.Cmp.Lexicographic.{slice_cmp, nat_list_eq_equiv}
use Rattle.std.specs.Map.{lookup}
use Rattle.std.specs.Option.{option_map_or}
use Rattle.yw_read.specs.declared.raw.RawFlow.{RawFlow}
use Rattle.yw_check_tasks.specs.Outputs.{texts_of, AddsOutput, AreOutputs}

map_one : {X Y : Type 0} (f : X → Y) (b : Bool) (x : X) → map f (if b then x ∷ [] else []) ≡ (if b then f x ∷ [] else [])
map_one f true x = refl
map_one f false x = refl

-- what a map's entries hold, as it is written where one is changed
pub adds_output : {A : Type 0} (old new : List (Bor (List ℕ) × Vec (Bor (List ℕ)) A)) (from : List ℕ) (to : Bor (List ℕ)) →
    ((q : List ℕ) → option_map_or (λ g. g.items) (lookup (is_at (λ k. slice_cmp nat_cmp q k.now)) new) [] ≡ option_map_or (λ g. g.items) (lookup (is_at (λ k. slice_cmp nat_cmp q k.now)) old) [] ++ (if bytes_eq q from then to ∷ [] else [])) →
    (q : List ℕ) → texts_of (option_map_or (λ g. g.items) (lookup (is_at (λ k. slice_cmp nat_cmp q k.now)) new) []) ≡ texts_of (option_map_or (λ g. g.items) (lookup (is_at (λ k. slice_cmp nat_cmp q k.now)) old) []) ++ (if bytes_eq from q then to.now ∷ [] else [])
adds_output old new from to h = λ q.
    let f : Bor (List ℕ) → List ℕ = λ name. name.now in
    let before : List (List ℕ) = texts_of (option_map_or (λ g. g.items) (lookup (is_at (λ k. slice_cmp nat_cmp q k.now)) old) []) in
    ap (map f) (h q) ∙ map-append f _ _ ∙ ap (λ ys. before ++ ys) (map_one f (bytes_eq q from) to) ∙ ap (λ b. before ++ (if b then to.now ∷ [] else [])) (nat_list_eq_equiv.symm q from)

module _ {A : Type 0} (old new : BTreeMap (Bor (List ℕ)) (Vec (Bor (List ℕ)) A)) where
  pub outputs_more : (flows : List RawFlow) (i : ℕ) (flow : RawFlow) → i < length flows → flow ≡ get_or flows i flow → (from to : List ℕ) → from ≡ flow.from → to ≡ flow.to → AreOutputs (take i flows) old → AddsOutput old new from to → AreOutputs (take (i + 1) flows) new
  outputs_more flows i flow lt is from to at_from at_to before adds = λ node.
      let p : RawFlow → Bool = λ f. bytes_eq f.from node in
      let to_of : RawFlow → List ℕ = λ f. f.to in
      let more : map to_of (filter p (take (i + 1) flows)) ≡ map to_of (filter p (take i flows)) ++ (if bytes_eq flow.from node then flow.to ∷ [] else []) =
      ap (map to_of) (filter_more p flows i flow lt) ∙ map-append to_of _ _
      ∙ ap (λ (x : RawFlow). map to_of (filter p (take i flows)) ++ map to_of (cond (p x) (x ∷ []) [])) (sym is)
      ∙ ap (λ ys. map to_of (filter p (take i flows)) ++ ys) (map_one to_of (p flow) flow) in
      adds node ∙ ap (λ xs. xs ++ (if bytes_eq from node then to ∷ [] else [])) (before node)
      ∙ ap (λ (x : List ℕ). map to_of (filter p (take i flows)) ++ (if bytes_eq x node then to ∷ [] else [])) at_from
      ∙ ap (λ (x : List ℕ). map to_of (filter p (take i flows)) ++ (if bytes_eq flow.from node then x ∷ [] else [])) at_to
      ∙ sym more
