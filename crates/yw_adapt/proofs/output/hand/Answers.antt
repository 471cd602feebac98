use Rattle.std.proofs.Common.{◌≡◌, ℕ, ◌-◌, List, ◌++◌, None, Some, Option, length, take, drop, sym, ap, ◌∙◌, append_assoc, take-append-drop}
use Rattle.std.proofs.lemmas.List.{take_rest}
use Rattle.std.specs.Io.KnownBytes.{Appends}
use Rattle.yw_adapt.proofs.output.hand.Goals as goal

front_longer : (all done rest : List ℕ) (n : ℕ) → all ≡ done ++ rest → all ≡ (done ++ take n rest) ++ take (length rest - n) (drop n rest)
front_longer all done rest n e =
    e ∙ ap (λ l. done ++ l) (sym (take-append-drop n rest)) ∙ sym (append_assoc done (take n rest) (drop n rest)) ∙ ap (λ l. (done ++ take n rest) ++ l) (sym (take_rest rest n))

Appends-both : (a b c : Option (List ℕ)) (bs cs : List ℕ) → Appends a b bs → Appends b c cs → Appends a c (bs ++ cs)
Appends-both None b c bs cs p q = tt
Appends-both (Some xs) None c bs cs p q = absurd p
Appends-both (Some xs) (Some ys) None bs cs p q = absurd q
Appends-both (Some xs) (Some ys) (Some zs) bs cs p q = q ∙ ap (λ l. l ++ cs) p ∙ append_assoc xs bs cs

pub loop-rest-preserved : goal.loop-rest-preserved
loop-rest-preserved g c =
    let (same, (done, split, appended)) = c.loop-rest.invariant in
    let rest = c.loop-rest.rest.now in
    let n = c.in_ok-count.count in
    let told = c.in_ok-count.ensures in
    (told.counts.failed.one ∙ same, (done ++ take n rest, front_longer _ done rest n split, Appends-both _ _ _ done (take n rest) appended told.bytes))
