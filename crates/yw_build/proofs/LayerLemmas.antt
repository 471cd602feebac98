-- A variable is found by its name.
use Rattle.std.proofs.Common.{◌≡◌, ℕ, ◌+◌, ◌||◌, true, false, List, [], ◌∷◌, map, get_or, Option, Some, None, cond, refl, sym, ap, ◌∙◌, inl, inr, true≢false}
use Rattle.std.specs.Prelude.{slice_get}
use Rattle.std.specs.List.{list_any, position_from}
use Rattle.std.specs.Option.{option_map}
use Rattle.std.specs.Str.{bytes_eq}
use Rattle.std.proofs.lemmas.Bool.{cases_Bool}
use Rattle.std.proofs.lemmas.Iterator.Adapters.{position_from-zero}
use Rattle.std.proofs.lemmas.List.Quantifiers.{position-Some}
use Rattle.std.proofs.lemmas.Option.{slice_get-map, slice_get-get_or}
use Rattle.std.proofs.lemmas.Slice.Eq.{bytes_eq-Decides}
use Rattle.yw_base.specs.declared.value.Sort.TheVariants as sorts
use Rattle.yw_read.specs.declared.raw.RawNet.{RawNet}
use Rattle.yw_read.specs.declared.raw.RawVar.{RawVar}
use Rattle.yw_accept.specs.Built.{IsVarCalled}
use Rattle.yw_accept.specs.Scopes.{vars_scope}
use Rattle.yw_expr.specs.declared.scope.Binding.{Binding}
use Rattle.yw_expr.specs.Scope.{binding, place_in}
use Rattle.yw_accept.proofs.IndexLemmas.{not_same}

module _ (net : RawNet) (name : List ℕ) where
  called : (o : Option RawVar) (b : Binding) → option_map (λ (v : RawVar). binding v.name v.sort) o ≡ Some b → b.name ≡ name → option_map (λ (v : RawVar). v.name) o ≡ Some name
  called None b h e = cc
  called (Some v) b h e = let same : binding v.name v.sort ≡ b = cc in ap Some (ap (λ (c : Binding). c.name) same ∙ e)

  pub var_found : (layer : List Binding) (k : ℕ) → layer ≡ vars_scope net → Some k ≡ place_in layer name → IsVarCalled net name k
  var_found layer k same at =
      let none : Binding = binding [] sorts.Bool in
      let found = position-Some (λ (b : Binding). bytes_eq b.name name) (vars_scope net) k none (ap (λ bs. place_in bs name) (sym same) ∙ sym at) in
      called (slice_get net.vars k) (get_or (vars_scope net) k none) (sym (slice_get-map (λ (v : RawVar). binding v.name v.sort) net.vars k) ∙ slice_get-get_or (vars_scope net) k none found.0) ((bytes_eq-Decides (get_or (vars_scope net) k none).name name).0 found.1)

  missed_from : (i : ℕ) (vars : List RawVar) → position_from (λ (b : Binding). bytes_eq b.name name) i (map (λ (v : RawVar). binding v.name v.sort) vars) ≡ None → list_any (λ (v : RawVar). bytes_eq name v.name) vars ≡ false
  missed_from i [] h = refl
  missed_from i (v ∷ vars) h = elim (cases_Bool (bytes_eq v.name name)) [
    | inl t ↦ let e : Some i ≡ None = sym (ap (λ b. cond b (Some i) (position_from (λ (b : Binding). bytes_eq b.name name) (i + 1) (map (λ (v : RawVar). binding v.name v.sort) vars))) t) ∙ h in cc
    | inr f ↦
        let rest : position_from (λ (b : Binding). bytes_eq b.name name) (i + 1) (map (λ (v : RawVar). binding v.name v.sort) vars) ≡ None =
        sym (ap (λ b. cond b (Some i) (position_from (λ (b : Binding). bytes_eq b.name name) (i + 1) (map (λ (v : RawVar). binding v.name v.sort) vars))) f) ∙ h in
        ap (λ b. b || list_any (λ (v : RawVar). bytes_eq name v.name) vars) (not_same v.name name f) ∙ missed_from (i + 1) vars rest
  ]

  pub var_missed : (layer : List Binding) → layer ≡ vars_scope net → None ≡ place_in layer name → list_any (λ (v : RawVar). bytes_eq name v.name) net.vars ≡ true → ⊥
  var_missed layer same at h =
      true≢false (sym h ∙ missed_from 0 net.vars (sym (position_from-zero (λ (b : Binding). bytes_eq b.name name) (vars_scope net)) ∙ ap (λ bs. place_in bs name) (sym same) ∙ sym at))
