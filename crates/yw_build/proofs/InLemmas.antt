-- A parameter by its name.
use Rattle.std.proofs.Common.{◌≡◌, ℕ, ◌<◌, ◌+◌, ◌||◌, true, false, List, ◌∷◌, map, length, get_or, drop, Some, sym, ap, ◌∙◌}
use Rattle.std.specs.Prelude.{slice_get}
use Rattle.std.specs.Option.{option_map}
use Rattle.std.specs.Str.{bytes_eq}
use Rattle.std.proofs.lemmas.List.{drop_more}
use Rattle.std.proofs.lemmas.Option.{slice_get-get_or}
use Rattle.yw_read.specs.declared.raw.RawIn.{RawIn}
use Rattle.yw_accept.specs.Nodes.{is_name_among}
use Rattle.yw_accept.proofs.IndexLemmas.{not_same}

abbrev name_of : RawIn → List ℕ
name_of p = p.name

pub in_here : (ins : List RawIn) (i : ℕ) (p : RawIn) (name : List ℕ) → i < length ins → p ≡ get_or ins i p → p.name ≡ name → option_map (λ (q : RawIn). q.name) (slice_get ins i) ≡ Some name
in_here ins i p name lt is e = ap (option_map name_of) (slice_get-get_or ins i p lt) ∙ ap Some (ap name_of (sym is)) ∙ ap Some e

pub in_behind : (ins : List RawIn) (i : ℕ) (p : RawIn) (name : List ℕ) → i < length ins → p ≡ get_or ins i p → bytes_eq p.name name ≡ false → is_name_among (map (λ (q : RawIn). q.name) (drop i ins)) name ≡ true → is_name_among (map (λ (q : RawIn). q.name) (drop (i + 1) ins)) name ≡ true
in_behind ins i p name lt is e h =
    ap (λ b. b || is_name_among (map name_of (drop (i + 1) ins)) name) (sym (not_same p.name name e))
    ∙ ap (λ (q : RawIn). is_name_among (map name_of (q ∷ drop (i + 1) ins)) name) is
    ∙ ap (λ ps. is_name_among (map name_of ps) name) (sym (drop_more ins i p lt)) ∙ h
