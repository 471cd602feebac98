-- What a yes proves.
use Rattle.std.proofs.Common.{◌≡◌, ℕ, List, Option, None, Some, Result, Ok, Err, inl, inr, refl, sym, subst}
use Rattle.std.specs.Prelude.{option_and_then, position, slice_get}
use Rattle.std.specs.Str.{bytes_eq}
use Rattle.serde_json.specs.Data.{Data}
use Rattle.yw_texts.specs.Texts.{IsAccepted, ReadsSpec}
use Rattle.yw_proof.specs.Bounds.{ProvesBounded, given}
use Rattle.yw_proof.specs.Found.{FindsNet, FindsShape, FindsSpec, FindsValue, IsFound, Tries, finding_by}
use Rattle.yw_proof.specs.Shape.{Proof, proof_in, value_said}
use Rattle.yw_proof.specs.Weights.{names_of, unknown_key}
use Rattle.yw_proof.specs.declared.finding.ProofFinding.TheVariants.{Proved, Refused, Unproved}
use Rattle.yw_proof.specs.declared.rule.ProofRule.{ProofRule}
use Rattle.yw_proper.proofs.Accepted.{accepted_is_bounded}
use Rattle.yw_proper.specs.Proper.{IsProved}
use Rattle.yw_proper.specs.declared.certificate.ProofFault.{ProofFault}
use Rattle.yw_proper.specs.declared.certificate.ProofFault.TheVariants.{Weight, Join, Split, Ends}
use Rattle.yw_spec.specs.declared.spec.Net.{Net}
use Rattle.yw_spec.specs.declared.spec.Spec.{Spec}
use Rattle.yw_state.specs.Nets.{net_called}
use Rattle.yw_state.specs.declared.rule.Refusal.{Refusal}

-- a net that has the name has a number
by_number : (spec : Spec) (net : Net) (k : Option ℕ) → option_and_then (slice_get spec.nets) k ≡ Some net → (number : ℕ) × (slice_get spec.nets number ≡ Some net)
by_number spec net None e = absurd cc
by_number spec net (Some k) e = (k, e)

number_of : (spec : Spec) (name : List ℕ) (net : Net) → net_called spec name ≡ Some net → (number : ℕ) × (slice_get spec.nets number ≡ Some net)
number_of spec name net e = by_number spec net (position (λ (n : Net). bytes_eq n.name name) spec.nets) e

module _ (spec_name net_name : List ℕ) (bound : ℕ) where
  no_refusal : (refusal : Refusal) → Proved spec_name net_name bound ≡ Refused refusal → ⊥
  no_refusal refusal e = cc

  no_rule : (rule : ProofRule) (at : List ℕ) → Proved spec_name net_name bound ≡ Unproved rule at → ⊥
  no_rule rule at e = cc

  -- a yes comes of a certificate
  pub record IsYes (spec : List ℕ) (net : Net) (w : List ℕ) : Type 0 where
    pub proved : IsProved net w bound
    pub named : spec_name ≡ spec
    pub called : net_name ≡ net.name

  same_parts : (spec net : List ℕ) (weight : ℕ) → Proved spec_name net_name bound ≡ Proved spec net weight → (spec_name ≡ spec) × (net_name ≡ net) × (bound ≡ weight)
  same_parts spec net weight e = (cc, cc, cc)

  is_yes : (spec : List ℕ) (net : Net) (w : List ℕ) (unknown : Option (List ℕ)) (tried : Result ℕ ProofFault) → Tries net w tried
      → Proved spec_name net_name bound ≡ finding_by spec net unknown tried → IsYes spec net w
  is_yes spec net w None (Ok weight) proved e =
      let same = same_parts spec net.name weight e in
      record { proved = subst (λ (n : ℕ). IsProved net w n) (sym same.2) proved; named = same.0; called = same.1 }
  is_yes spec net w (Some key) (Ok weight) proved e = absurd (no_rule _ _ e)
  is_yes spec net w None (Err (Weight k)) first e = absurd (no_rule _ _ e)
  is_yes spec net w (Some key) (Err (Weight k)) first e = absurd (no_rule _ _ e)
  is_yes spec net w None (Err (Join k)) first e = absurd (no_rule _ _ e)
  is_yes spec net w (Some key) (Err (Join k)) first e = absurd (no_rule _ _ e)
  is_yes spec net w None (Err (Split k)) first e = absurd (no_rule _ _ e)
  is_yes spec net w (Some key) (Err (Split k)) first e = absurd (no_rule _ _ e)
  is_yes spec net w None (Err Ends) first e = absurd (no_rule _ _ e)
  is_yes spec net w (Some key) (Err Ends) first e = absurd (no_rule _ _ e)

  module _ (text : List ℕ) (value : Data) (says : value_said text ≡ Some value) where
    of_net : (proof : Proof) → proof_in value ≡ Some proof → (spec : Spec) → IsAccepted proof.toml spec → (net : Option Net) → net_called spec proof.net ≡ net
        → FindsNet spec proof.weights net (Proved spec_name net_name bound) → ProvesBounded text spec_name net_name bound
    of_net proof gives spec accepted None called is = absurd (no_rule _ _ is)
    of_net proof gives spec accepted (Some net) called (tried, tries, is) =
        let yes = is_yes spec.name net (given proof net) (unknown_key (names_of net) proof.weights) tried tries is in
        let number = number_of spec proof.net net called in
        record {
          value = value;
          says = says;
          proof = proof;
          gives = gives;
          spec = spec;
          accepted = accepted;
          named = yes.named;
          number = number.0;
          net = net;
          at = number.1;
          called = yes.called;
          input = yes.proved.input;
          bounded = accepted_is_bounded proof.toml spec accepted number.0 net (given proof net) number.1 yes.proved.proper;
        }

    of_spec : (proof : Proof) → proof_in value ≡ Some proof → (said : Result Spec Refusal) → ReadsSpec proof.toml said
        → FindsSpec proof said (Proved spec_name net_name bound) → ProvesBounded text spec_name net_name bound
    of_spec proof gives (Ok spec) accepted is = of_net proof gives spec accepted (net_called spec proof.net) refl is
    of_spec proof gives (Err refusal) unfit is = absurd (no_refusal _ is)

    of_shape : (proof : Option Proof) → proof_in value ≡ proof → FindsShape proof (Proved spec_name net_name bound) → ProvesBounded text spec_name net_name bound
    of_shape None gives is = absurd (no_rule _ _ is)
    of_shape (Some proof) gives (said, reads, is) = of_spec proof gives said reads is

  of_value : (text : List ℕ) (value : Option Data) → value_said text ≡ value → FindsValue value (Proved spec_name net_name bound) → ProvesBounded text spec_name net_name bound
  of_value text None says is = absurd (no_refusal _ is)
  of_value text (Some value) says is = of_shape text value says (proof_in value) refl is

  pub proved_bounded : (text : List ℕ) → IsFound text (Proved spec_name net_name bound) → ProvesBounded text spec_name net_name bound
  proved_bounded text (inl within) = of_value text (value_said text) refl within.finds
  proved_bounded text (inr past) = absurd (no_refusal _ past.refused)
