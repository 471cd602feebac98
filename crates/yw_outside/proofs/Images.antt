-- The images of an earlier moment.
use Rattle.std.proofs.Common.{◌≡◌, Result, Ok, Err, IfOk, ℕ, nat_le, Bool, true, cond, List, [], ◌∷◌, ◌++◌, take, drop, map, reverse, refl, sym, ap, ◌∙◌, subst}
use Rattle.std.specs.List.{prefix_len}
use Rattle.std.proofs.lemmas.List.{take-append-drop, map-append, reverse-append}
use Rattle.std.proofs.lemmas.List.Sums.{take_while-cons}
use Rattle.yw_outside.specs.declared.image.Fill.{Fill}
use Rattle.yw_outside.specs.declared.image.Fill.TheVariants.{New}
use Rattle.yw_outside.specs.declared.image.Image.{Image}
use Rattle.yw_outside.specs.declared.log.Call.{Call}
use Rattle.yw_outside.specs.declared.log.Made.{Made}
use Rattle.yw_outside.specs.FillLaws.{image_by_left, new_reads}
use Rattle.yw_outside.specs.Fills.{image_by}
use Rattle.yw_outside.specs.Log.{state_of, MayLeave, begins_within, are_placed, calls_in, up_to, are_numbered}
use Rattle.yw_outside.specs.LogLaws.{both}

placed_older : (base : Image) (newer older : List Call) → are_placed base (newer ++ older) ≡ true → are_placed base older ≡ true
placed_older base [] older e = e
placed_older base (call ∷ newer) older e = placed_older base newer older (both (begins_within call (state_of base (newer ++ older))) (are_placed base (newer ++ older)) e).1

calls_in-append : (log more : List Made) → calls_in (log ++ more) ≡ calls_in more ++ calls_in log
calls_in-append log more = ap reverse (map-append (λ (m : Made). m.call) log more) ∙ reverse-append (map (λ (m : Made). m.call) log) (map (λ (m : Made). m.call) more)

placed_front : (base : Image) (log : List Made) (n : ℕ) → are_placed base (calls_in log) ≡ true → are_placed base (calls_in (take n log)) ≡ true
placed_front base log n e =
    placed_older base (calls_in (drop n log)) (calls_in (take n log))
    (subst (λ (cs : List Call). are_placed base cs ≡ true) (ap calls_in (sym (take-append-drop n log)) ∙ calls_in-append (take n log) (drop n log)) e)

-- no call has a number past the number of calls
all_up_to : (k : ℕ) (log : List Made) → are_numbered k log ≡ true → up_to k log ≡ log
all_up_to k [] e = refl
all_up_to k (m ∷ log) e =
    let p = both (nat_le m.number k) (are_numbered k log) e in
    take_while-cons (λ (x : Made). nat_le x.number k) m log ∙ ap (λ (b : Bool). cond b (m ∷ up_to k log) []) p.0 ∙ ap (λ (l : List Made). m ∷ l) (all_up_to k log p.1)

module _ (base : Image) (log : List Made) (call : ℕ) (placed : are_placed base (calls_in log) ≡ true) where
  pub might_leave : (fill : Fill) → MayLeave base (calls_in (up_to call log)) (image_by fill base (calls_in (up_to call log)))
  might_leave fill = image_by_left fill base (calls_in (up_to call log)) (placed_front base log (prefix_len (λ (m : Made). nat_le m.number call) log) placed)

  pub new_is : image_by New base (calls_in (up_to call log)) ≡ state_of base (calls_in (up_to call log))
  new_is = new_reads base (calls_in (up_to call log)) (placed_front base log (prefix_len (λ (m : Made). nat_le m.number call) log) placed)

-- at the number of all calls
module _ (base : Image) (log : List Made) (call made : ℕ) (same : call ≡ made) (numbered : are_numbered made log ≡ true) where
  all_calls : calls_in (up_to call log) ≡ calls_in log
  all_calls = ap (λ (k : ℕ). calls_in (up_to k log)) same ∙ ap calls_in (all_up_to made log numbered)

  pub left_now : (i : Image) → MayLeave base (calls_in (up_to call log)) i → MayLeave base (calls_in log) i
  left_now i left = subst (λ (cs : List Call). MayLeave base cs i) all_calls left

  pub reads_now : state_of base (calls_in (up_to call log)) ≡ state_of base (calls_in log)
  reads_now = ap (λ (cs : List Call). state_of base cs) all_calls

-- a fact of the value that is answered
pub ok_by : {T E : Type 0} (x : T) (P : T → Type 0) (r : Result T E) → IfOk r (λ (v : T). v ≡ x) → P x → IfOk r P
ok_by x P (Ok v) is p = subst P (sym is) p
ok_by x P (Err e) is p = is
