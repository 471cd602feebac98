-- What a yes proves of the net that is named.
use Rattle.std.specs.Prelude.{◌≡◌, ℕ, List, Some, slice_get}
use Rattle.serde_json.specs.Data.{Data}
use Rattle.yw_texts.specs.Texts.{IsAccepted}
use Rattle.yw_proof.specs.Shape.{Proof, proof_in, value_said}
use Rattle.yw_proof.specs.Weights.{names_of, weights_in}
use Rattle.yw_proper.specs.Load.{TextStaysBounded}
use Rattle.yw_proper.specs.Proper.{weight_of_place}
use Rattle.yw_spec.specs.declared.spec.Net.{Net}
use Rattle.yw_spec.specs.declared.spec.Spec.{Spec}

-- the weights that are given for a net
abbrev pub given : Proof → Net → List ℕ
given proof net = weights_in proof.weights (names_of net)

-- The text gives weights of this net of an accepted specification, the input weighs so much, and each such net that is loaded with that text
-- stays bounded by them.
pub record ProvesBounded (text spec_name net_name : List ℕ) (bound : ℕ) : Type 0 where
  pub value : Data
  pub says : value_said text ≡ Some value
  pub proof : Proof
  pub gives : proof_in value ≡ Some proof
  pub spec : Spec
  pub accepted : IsAccepted proof.toml spec
  pub named : spec_name ≡ spec.name
  pub number : ℕ
  pub net : Net
  pub at : slice_get spec.nets number ≡ Some net
  pub called : net_name ≡ net.name
  pub input : bound ≡ weight_of_place (given proof net) net.input
  pub bounded : TextStaysBounded proof.toml number net (given proof net)
