-- A stack in a vector, whose top is last.
use Rattle.std.proofs.Common.{◌≡◌, ℕ, ◌-◌, ◌<◌, true, List, [], ◌∷◌, ◌++◌, length, Option, Some, None, refl, sym, ap, ◌∙◌, subst, arith, length-append}
use Rattle.std.specs.Prelude.{slice_get, cond}
use Rattle.std.proofs.Math.Seq.{get_or-append_seam}
use Rattle.std.proofs.lemmas.Option.{slice_get-get_or}
use Rattle.yw_grammar.specs.declared.stack.Frame.{Frame}
use Rattle.yw_grammar.specs.Grammar.{Form}
use Rattle.yw_grammar.specs.Machine.{Begun, have, ends_top, joined, fold_top}
use Rattle.yw_grammar.specs.Tie.{begun_of, tops}

pub tops_push : (fs : List Frame) (f : Frame) → tops (fs ++ f ∷ []) ≡ begun_of f ∷ tops fs
tops_push [] f = refl
tops_push (x ∷ fs) f = ap (λ l. l ++ begun_of x ∷ []) (tops_push fs f)

-- a list is empty or has a last element
pub data Ending : List Frame → Type 0 where
  nothing : Ending []
  last_is : (init : List Frame) (f : Frame) → Ending (init ++ f ∷ [])

ending_more : (x : Frame) {fs : List Frame} → Ending fs → Ending (x ∷ fs)
ending_more x nothing = last_is [] x
ending_more x (last_is init f) = last_is (x ∷ init) f

ending : (fs : List Frame) → Ending fs
ending [] = nothing
ending (x ∷ fs) = ending_more x (ending fs)

abbrev IsTop : List Frame → Option Frame → Type 0
IsTop fs None = tops fs ≡ []
IsTop fs (Some f) = (below : List Begun) × (tops fs ≡ begun_of f ∷ below)

top_at : {fs : List Frame} → Ending fs → IsTop fs (slice_get fs (length fs - 1))
top_at nothing = refl
top_at (last_is init f) =
    let within : length init < length (init ++ f ∷ []) = omega (arith, length-append init (f ∷ [])) in
    let here = slice_get-get_or (init ++ f ∷ []) (length init) f within ∙ ap Some (get_or-append_seam init f [] f) in
    let n : length (init ++ f ∷ []) - 1 ≡ length init = omega (arith, length-append init (f ∷ [])) in
    let e : slice_get (init ++ f ∷ []) (length (init ++ f ∷ []) - 1) ≡ Some f = ap (slice_get (init ++ f ∷ [])) n ∙ here in
    subst (IsTop (init ++ f ∷ [])) (sym e) (tops init, tops_push init f)

pub top_of : (fs : List Frame) (o : Option Frame) → o ≡ slice_get fs (length fs - 1) → IsTop fs o
top_of fs o e = subst (IsTop fs) (sym e) (top_at (ending fs))

-- a turn of the loop that ends what is begun last
pub fold_step : (l : ℕ) (old new : List Frame) (f : Frame) (e after : Form) → tops old ≡ begun_of f ∷ tops new → ends_top l (tops old) ≡ true → after ≡ joined (begun_of f) e → fold_top l (tops old) e ≡ fold_top l (tops new) after
fold_step l old new f e after eq h j =
    let t = eq in
    ap (λ s. fold_top l s e) t
    ∙ ap (λ c. cond c (fold_top l (tops new) (joined (begun_of f) e)) (have (begun_of f ∷ tops new) e)) (sym (ap (ends_top l) t) ∙ h)
    ∙ ap (fold_top l (tops new)) (sym j)
