use Rattle.std.proofs.Common.{◌≡◌, ◌+◌, ◌-◌, ◌≤◌, ℕ, List, ◌++◌, length, take, min, cond, Result, Ok, Err, is_ok, ap, ◌∙◌, sym, arith}
use Rattle.std.specs.Prelude.{OnOk}
use Rattle.std.proofs.lemmas.List.{take_min}
use Rattle.std.proofs.Math.Seq.{take-append-add}
use Rattle.yw_serve.specs.Kept.{most_kept}
use Rattle.yw_serve.proofs.KeptLemmas.{kept_is}
use Rattle.yw_serve.proofs.pieces.keep.Goals as goal

-- a line so far and as much of a part as there is room for
filled : (m n : ℕ) (line part : List ℕ) → length line ≤ m → n ≡ min (m - length line) (length part) → line ++ take n part ≡ take m (line ++ part)
filled m n line part within e =
    let all : m ≡ length line + (m - length line) = omega arith in
    ap (λ k. line ++ take k part) e ∙ ap (λ (t : List ℕ). line ++ t) (take_min (m - length line) part)
    ∙ sym (ap (λ k. take k (line ++ part)) all ∙ take-append-add line part (m - length line))

grown : {T E : Type 0} (r : Result T E) (new longer old want : List ℕ) → new ≡ cond (is_ok r) longer old → longer ≡ want → OnOk r (new ≡ want)
grown (Ok x) new longer old want e w = e ∙ w
grown (Err x) new longer old want e w = tt

pub returns-clause-ok : goal.returns-clause-ok
returns-clause-ok c =
    let line = c.args.line.now in
    grown c.extend_from_slice.result _ _ _ _ c.extend_from_slice.ensures.items
    (filled most_kept c.min-count.result line.items c.args.part.now (omega (arith, kept_is, line.ok.0)) (omega (arith, kept_is, line.ok.0, c.min-count.ensures)))
