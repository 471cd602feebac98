-- One entry more of a map whose keys are read by bytes: the old ones stay, but for one under the same bytes.
use Rattle.std.proofs.Common.{◌≡◌, ◌⊎◌, ◌∙◌, ℕ, List, [], ◌∷◌, map, ap, inl, inr, refl, sym}
use Rattle.std.specs.BTreeMap.{insert_entry}
use Rattle.std.specs.Ordering.{match_ordering}
use Rattle.std.specs.declared.cmp.Ordering.{Ordering}
use Rattle.std.specs.declared.cmp.Ordering.TheVariants.{Less, Equal, Greater}
use Rattle.yw_shown.proofs.Elements.{in_map}
use Rattle.yw_state.proofs.Entries.{IsIn}
use Rattle.yw_state.proofs.MapLemmas.{by_name}
use Rattle.yw_state.specs.Map.{lexical}

-- the order of keys by their bytes
abbrev pub by_bytes : {K : Type 0} → (K → List ℕ) → K → K → Ordering
by_bytes bytes a b = lexical (bytes a) (bytes b)

module _ {K V : Type 0} (bytes : K → List ℕ) where
  pub from_insert : (es : List (K × V)) (k : K) (v : V) (e : K × V) → IsIn (insert_entry (by_bytes bytes) es k v) e → ((e.1 ≡ v) × (bytes e.0 ≡ bytes k)) ⊎ IsIn es e
  from_insert [] k v e (inl same) = inl (ap (λ (z : K × V). z.1) (sym same), ap (λ (z : K × V). bytes z.0) (sym same))
  from_insert [] k v e (inr none) = absurd none
  from_insert (f ∷ es) k v e within =
      elim (by_bytes bytes k f.0) as (λ o. by_bytes bytes k f.0 ≡ o → IsIn (match_ordering o ((k, v) ∷ f ∷ es) ((f.0, v) ∷ es) (f ∷ insert_entry (by_bytes bytes) es k v)) e
      → ((e.1 ≡ v) × (bytes e.0 ≡ bytes k)) ⊎ IsIn (f ∷ es) e) [
        | Less ↦ λ c at. elim at [
          | inl same ↦ inl (ap (λ (z : K × V). z.1) (sym same), ap (λ (z : K × V). bytes z.0) (sym same))
          | inr rest ↦ inr rest
        ]
        | Equal ↦ λ c at. elim at [
          | inl same ↦ inl (ap (λ (z : K × V). z.1) (sym same), ap (λ (z : K × V). bytes z.0) (sym same) ∙ sym (by_name.same (bytes k) (bytes f.0) c))
          | inr rest ↦ inr (inr rest)
        ]
        | Greater ↦ λ c at. elim at [
          | inl same ↦ inr (inl same)
          | inr rest ↦ elim (from_insert es k v e rest) [ inl new ↦ inl new | inr old ↦ inr (inr old) ]
        ]
      ] refl within

  pub new_value : (es : List (K × V)) (k : K) (v : V) → IsIn (map (λ (e : K × V). e.1) (insert_entry (by_bytes bytes) es k v)) v
  new_value [] k v = inl refl
  new_value (f ∷ es) k v =
      elim (by_bytes bytes k f.0) as (λ o. IsIn (map (λ (e : K × V). e.1) (match_ordering o ((k, v) ∷ f ∷ es) ((f.0, v) ∷ es) (f ∷ insert_entry (by_bytes bytes) es k v))) v)
      [ Less ↦ inl refl | Equal ↦ inl refl | Greater ↦ inr (new_value es k v) ]

  pub old_values : (es : List (K × V)) (k : K) (v : V) (e : K × V) → IsIn es e
      → IsIn (map (λ (f : K × V). f.1) (insert_entry (by_bytes bytes) es k v)) e.1 ⊎ (bytes k ≡ bytes e.0)
  old_values [] k v e within = absurd within
  old_values (f ∷ es) k v e within =
      elim (by_bytes bytes k f.0) as (λ o. by_bytes bytes k f.0 ≡ o
      → IsIn (map (λ (g : K × V). g.1) (match_ordering o ((k, v) ∷ f ∷ es) ((f.0, v) ∷ es) (f ∷ insert_entry (by_bytes bytes) es k v))) e.1 ⊎ (bytes k ≡ bytes e.0)) [
        | Less ↦ λ c. inl (inr (in_map (λ (z : K × V). z.1) (f ∷ es) e within))
        | Equal ↦ λ c. elim within [
          | inl same ↦ inr (by_name.same (bytes k) (bytes f.0) c ∙ ap (λ (z : K × V). bytes z.0) same)
          | inr rest ↦ inl (inr (in_map (λ (z : K × V). z.1) es e rest))
        ]
        | Greater ↦ λ c. elim within [
          | inl same ↦ inl (inl (ap (λ (z : K × V). z.1) same))
          | inr rest ↦ elim (old_values es k v e rest) [ inl there ↦ inl (inr there) | inr tie ↦ inr tie ]
        ]
      ] refl
