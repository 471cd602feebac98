-- Values of a list's elements one after another: all are there, or one lacks.
use Rattle.std.proofs.Common.{List, None, Option, Some, [], ap, arith, get_or, length, map, refl, suc, sym, take, zero, ℕ, ◌++◌, ◌<◌, ◌∙◌, ◌∷◌, ◌≡◌}
use Rattle.std.specs.Prelude.{option_and_then, option_map, slice_get}
use Rattle.yw_state.proofs.Tests.{map_some, nowhere, some_same, then_some}
use Rattle.yw_state.specs.Options.{all_of}

pub read_at : {A : Type 0} (xs : List A) (k : ℕ) (x : A) → k < length xs → x ≡ get_or xs k x → slice_get xs k ≡ Some x
read_at [] k x l e = absurd (omega arith)
read_at (y ∷ xs) zero x l e = ap (λ z. Some z) (sym e)
read_at (y ∷ xs) (suc k) x l e = read_at xs k x (omega arith) e

none_then : {A B : Type 0} (o : Option A) → option_and_then (λ (x : A). (let n : Option B = None in n)) o ≡ None
none_then None = refl
none_then (Some x) = refl

module _ {A B : Type 0} (h : A → Option B) where
  -- those of one element more
  pub all_step : (vs : List A) (k : ℕ) (a : A) (ys : List B) (y : B) → slice_get vs k ≡ Some a → all_of (map h (take k vs)) ≡ Some ys → h a ≡ Some y → all_of (map h (take (suc k) vs)) ≡ Some (ys ++ (y ∷ []))
  all_step [] k a ys y at all here = nowhere at
  all_step (b ∷ vs) zero a ys y at all here =
      let one : List B = y ∷ [] in
      ap (option_and_then (λ (x : B). Some (x ∷ []))) (ap h (some_same b a at) ∙ here) ∙ ap (λ (zs : List B). Some (zs ++ one)) (some_same [] ys all)
  all_step (b ∷ vs) (suc k) a ys y at all here =
      let f = then_some (λ (x : B). option_map (λ xs. x ∷ xs) (all_of (map h (take k vs)))) (h b) ys all in
      let g = map_some (λ xs. f.0 ∷ xs) (all_of (map h (take k vs))) ys f.2 in
      let one : List B = y ∷ [] in
      ap (option_and_then (λ (x : B). option_map (λ xs. x ∷ xs) (all_of (map h (take (suc k) vs))))) f.1
      ∙ ap (option_map (λ xs. f.0 ∷ xs)) (all_step vs k a g.0 y at g.1 here)
      ∙ ap (λ (zs : List B). Some (zs ++ one)) g.2

  -- one lacks
  pub all_stops : (vs : List A) (k : ℕ) (a : A) → slice_get vs k ≡ Some a → h a ≡ None → all_of (map h vs) ≡ None
  all_stops [] k a at none = nowhere at
  all_stops (b ∷ vs) zero a at none = ap (option_and_then (λ (x : B). option_map (λ xs. x ∷ xs) (all_of (map h vs)))) (ap h (some_same b a at) ∙ none)
  all_stops (b ∷ vs) (suc k) a at none =
      ap (λ o. option_and_then (λ (x : B). option_map (λ xs. x ∷ xs) o) (h b)) (all_stops vs k a at none) ∙ none_then (h b)

-- each, as something that is there
pub read_some : {A : Type 0} (xs : List A) (k : ℕ) → k < length xs → slice_get (map (λ (x : A). Some x) xs) k ≡ Some (slice_get xs k)
read_some [] k l = absurd (omega arith)
read_some (x ∷ xs) zero l = refl
read_some (x ∷ xs) (suc k) l = read_some xs k (omega arith)
