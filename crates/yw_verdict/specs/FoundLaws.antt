-- Laws of what is found of a text: one thing is, and it is found of the text's front.
use Rattle.std.proofs.Common.{◌≡◌, ℕ, ◌+◌, ◌≤◌, List, length, take, None, Some, Result, Ok, inl, inr, refl, sym, ap, ◌∙◌, subst, arith, length-take}
use Rattle.std.proofs.lemmas.List.{take_all}
use Rattle.yw_texts.proofs.ReadingOnce.{judged_once}
use Rattle.yw_texts.specs.Accepted.{document_in}
use Rattle.yw_read.specs.declared.raw.RawSpec.{RawSpec}
use Rattle.yw_read.specs.declared.raw.ReadFault.{ReadFault}
use Rattle.yw_state.specs.declared.rule.Refusal.{Refusal}
use Rattle.yw_verdict.specs.Found.{text_limit, FindsSaid, IsFoundBy}
use Rattle.yw_verdict.specs.declared.finding.Finding.{Finding}
use Rattle.yw_verdict.specs.declared.finding.Finding.TheVariants.{Accepted, Refused}

same_ok : (said : Result RawSpec ReadFault) (raw other : RawSpec) → said ≡ Ok raw → said ≡ Ok other → raw ≡ other
same_ok said raw other e f = cc

same_some : (r q : Refusal) → Some r ≡ Some q → r ≡ q
same_some r q e = cc

not_both : (r : Refusal) → None ≡ Some r → ⊥
not_both r e = cc

finds-once : (said : Result RawSpec ReadFault) (f g : Finding) → FindsSaid said f → FindsSaid said g → f ≡ g
finds-once said (Accepted n) (Accepted m) (j, raw, is, named) (k, other, os, called) = ap Accepted (named ∙ ap (λ (r : RawSpec). r.name) (same_ok said raw other is os) ∙ sym called)
finds-once said (Accepted n) (Refused q) (j, raw, is, named) k = absurd (not_both q (judged_once said None (Some q) j k))
finds-once said (Refused r) (Accepted m) j (k, other, os, called) = absurd (not_both r (judged_once said None (Some r) k j))
finds-once said (Refused r) (Refused q) j k = ap Refused (same_some r q (judged_once said (Some r) (Some q) j k))

-- one thing is found of a text
pub found-once : (limit : ℕ) (text : List ℕ) (f g : Finding) → IsFoundBy limit text f → IsFoundBy limit text g → f ≡ g
found-once limit text f g (inl a) (inl b) = finds-once (document_in text) f g a.finds b.finds
found-once limit text f g (inl a) (inr b) = absurd (omega (arith, a.within, b.past))
found-once limit text f g (inr a) (inl b) = absurd (omega (arith, a.past, b.within))
found-once limit text f g (inr a) (inr b) = a.refused ∙ sym b.refused

-- what is found of a front that is longer than what is judged, or whole
of_front : (limit : ℕ) (bytes front : List ℕ) (f : Finding) → front ≡ take (limit + 1) bytes → IsFoundBy limit front f → IsFoundBy limit bytes f
of_front limit bytes front f e (inl a) =
    let short : length bytes ≤ limit + 1 = omega (arith, a.within, ap length e, length-take (limit + 1) bytes) in
    subst (λ (t : List ℕ). IsFoundBy limit t f) (e ∙ take_all (limit + 1) bytes short) (inl a)
of_front limit bytes front f e (inr a) = inr (record { past = omega (arith, a.past, ap length e, length-take (limit + 1) bytes); refused = a.refused })

pub front-finds : (bytes : List ℕ) (f : Finding) → IsFoundBy text_limit (take (text_limit + 1) bytes) f → IsFoundBy text_limit bytes f
front-finds bytes f found = of_front text_limit bytes (take (text_limit + 1) bytes) f refl found
