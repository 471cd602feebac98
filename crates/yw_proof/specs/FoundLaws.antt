-- One thing is found of a text, and it is found of its front.
use Rattle.std.proofs.Common.{◌≡◌, ℕ, ◌+◌, ◌≤◌, List, length, take, Option, None, Some, Result, Ok, Err, inl, inr, sym, ap, ◌∙◌, subst, arith, length-take}
use Rattle.std.proofs.lemmas.List.{take_all}
use Rattle.serde_json.specs.Data.{Data}
use Rattle.yw_texts.proofs.ReadingOnce.{reads_one}
use Rattle.yw_proof.specs.FaultLaws.{fault-once, proper_has_none}
use Rattle.yw_proof.specs.Found.{FindsNet, FindsShape, FindsSpec, FindsValue, FindsWeights, IsFoundBy, Tries, finding_by, proof_limit}
use Rattle.yw_proof.specs.Shape.{Proof, proof_in, value_said}
use Rattle.yw_proof.specs.Weights.{names_of, unknown_key, weights_in}
use Rattle.yw_proof.specs.declared.finding.ProofFinding.{ProofFinding}
use Rattle.yw_proper.specs.declared.certificate.ProofFault.{ProofFault}
use Rattle.yw_spec.specs.declared.spec.Net.{Net}
use Rattle.yw_spec.specs.declared.spec.Spec.{Spec}
use Rattle.yw_state.specs.Nets.{net_called}
use Rattle.yw_state.specs.declared.rule.Refusal.{Refusal}

tried-once : (net : Net) (w : List ℕ) (a b : Result ℕ ProofFault) → Tries net w a → Tries net w b → a ≡ b
tried-once net w (Ok m) (Ok n) p q = ap Ok (p.input ∙ sym q.input)
tried-once net w (Ok m) (Err b) p q = absurd (proper_has_none net w b p.proper q)
tried-once net w (Err a) (Ok n) p q = absurd (proper_has_none net w a q.proper p)
tried-once net w (Err a) (Err b) p q = ap Err (fault-once net w a b p q)

weights-once : (spec : List ℕ) (net : Net) (weights : Data) (f g : ProofFinding) → FindsWeights spec net weights f → FindsWeights spec net weights g → f ≡ g
weights-once spec net weights f g (a, p, is) (b, q, other) =
    is ∙ ap (finding_by spec net (unknown_key (names_of net) weights)) (tried-once net (weights_in weights (names_of net)) a b p q) ∙ sym other

net-once : (spec : Spec) (weights : Data) (net : Option Net) (f g : ProofFinding) → FindsNet spec weights net f → FindsNet spec weights net g → f ≡ g
net-once spec weights None f g is other = is ∙ sym other
net-once spec weights (Some net) f g is other = weights-once spec.name net weights f g is other

spec-once : (proof : Proof) (said : Result Spec Refusal) (f g : ProofFinding) → FindsSpec proof said f → FindsSpec proof said g → f ≡ g
spec-once proof (Ok spec) f g is other = net-once spec proof.weights (net_called spec proof.net) f g is other
spec-once proof (Err refusal) f g is other = is ∙ sym other

shape-once : (proof : Option Proof) (f g : ProofFinding) → FindsShape proof f → FindsShape proof g → f ≡ g
shape-once None f g is other = is ∙ sym other
shape-once (Some proof) f g (a, reads, is) (b, also, other) =
    let same : b ≡ a = reads_one.spec proof.toml b a also reads in
    spec-once proof a f g is (subst (λ (said : Result Spec Refusal). FindsSpec proof said g) same other)

value-once : (d : Option Data) (f g : ProofFinding) → FindsValue d f → FindsValue d g → f ≡ g
value-once None f g is other = is ∙ sym other
value-once (Some d) f g is other = shape-once (proof_in d) f g is other

once : (limit : ℕ) (text : List ℕ) (f g : ProofFinding) → IsFoundBy limit text f → IsFoundBy limit text g → f ≡ g
once limit text f g (inl a) (inl b) = value-once (value_said text) f g a.finds b.finds
once limit text f g (inl a) (inr b) = absurd (omega (arith, a.within, b.past))
once limit text f g (inr a) (inl b) = absurd (omega (arith, a.past, b.within))
once limit text f g (inr a) (inr b) = a.refused ∙ sym b.refused

-- one thing is found of a text
pub found-once : (text : List ℕ) (f g : ProofFinding) → IsFoundBy proof_limit text f → IsFoundBy proof_limit text g → f ≡ g
found-once text f g is other = once proof_limit text f g is other

-- what is found of a front that is longer than what is looked into, or whole
of_front : (limit : ℕ) (bytes : List ℕ) (f : ProofFinding) → IsFoundBy limit (take (limit + 1) bytes) f → IsFoundBy limit bytes f
of_front limit bytes f (inl a) =
    let short : length bytes ≤ limit + 1 = omega (arith, a.within, length-take (limit + 1) bytes) in
    subst (λ (t : List ℕ). IsFoundBy limit t f) (take_all (limit + 1) bytes short) (inl a)
of_front limit bytes f (inr a) = inr (record { past = omega (arith, a.past, length-take (limit + 1) bytes); refused = a.refused })

pub front-finds : (bytes : List ℕ) (f : ProofFinding) → IsFoundBy proof_limit (take (proof_limit + 1) bytes) f → IsFoundBy proof_limit bytes f
front-finds bytes f found = of_front proof_limit bytes f found
