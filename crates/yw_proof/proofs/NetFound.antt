-- What is found of a net's weights that were tried.
use Rattle.std.proofs.Common.{◌≡◌, ℕ, List, Option, Some, Result, Ok, Err, sym, ap, ◌∙◌, subst}
use Rattle.std.specs.Prelude.{IfErr, IfOk, slice_get}
use Rattle.std.specs.declared.alloc.AllocError.{AllocError}
use Rattle.std.proofs.lemmas.Result.{IfOk-weaker}
use Rattle.serde_json.specs.Data.{Data}
use Rattle.yw_proof.specs.Found.{FindsNet, Tries, finding_by}
use Rattle.yw_proof.specs.Weights.{names_of, unknown_key, weights_in}
use Rattle.yw_proof.specs.declared.finding.ProofFinding.{ProofFinding}
use Rattle.yw_proper.specs.First.{IsFirst}
use Rattle.yw_proper.specs.Proper.{IsProved, OfNet}
use Rattle.yw_proper.specs.declared.certificate.ProofFault.{ProofFault}
use Rattle.yw_spec.specs.declared.spec.Net.{Net}
use Rattle.yw_spec.specs.declared.spec.Spec.{Spec}

tries : (net : Net) (w : List ℕ) (tried : Result ℕ ProofFault) → IfOk tried (IsProved net w) → IfErr tried (IsFirst net w) → Tries net w tried
tries net w (Ok bound) proved first = proved
tries net w (Err fault) proved first = first

module _ (spec : Spec) (number : ℕ) (net : Net) (at : slice_get spec.nets number ≡ Some net)
    (weights : Data) (names : List (List ℕ)) (names_is : names ≡ names_of net)
    (w : List ℕ) (w_is : w ≡ weights_in weights names)
    (unknown : Option (List ℕ)) (unknown_is : unknown ≡ unknown_key names weights)
    (name : List ℕ) (name_is : name ≡ spec.name) (tried : Result ℕ ProofFault) where
  found : Tries net w tried → (f : ProofFinding) → f ≡ finding_by name net unknown tried → FindsNet spec weights (slice_get spec.nets number) f
  found by f is = subst (λ (n : Option Net). FindsNet spec weights n f) (sym at) (
    tried,
    subst (λ (v : List ℕ). Tries net v tried) (w_is ∙ ap (weights_in weights) names_is) by,
    is ∙ ap (λ (n : List ℕ). finding_by n net unknown tried) name_is
        ∙ ap (λ (u : Option (List ℕ)). finding_by spec.name net u tried) (unknown_is ∙ ap (λ (ns : List (List ℕ)). unknown_key ns weights) names_is),
  )

  pub net_found : (result : Result ProofFinding AllocError) → OfNet spec number (λ n. IfOk tried (IsProved n w)) → OfNet spec number (λ n. IfErr tried (IsFirst n w))
      → IfOk result (λ f. f ≡ finding_by name net unknown tried) → IfOk result (FindsNet spec weights (slice_get spec.nets number))
  net_found result proved first said =
      IfOk-weaker result (λ f. f ≡ finding_by name net unknown tried) (FindsNet spec weights (slice_get spec.nets number)) (found (tries net w tried (proved net at) (first net at))) said
