-- A net with another list at one task: its own part and all other lists stay.
use Rattle.std.proofs.Common.{◌≡◌, ℕ, zero, suc, refl, Some, List, [], ◌∷◌, ap, set, length, length-set, ◌∙◌}
use Rattle.std.specs.Prelude.{Vec, slice_get}
use Rattle.std.specs.Vec.{with_item}
use Rattle.std.specs.declared.alloc.Global.{Global}
use Rattle.yw_state.proofs.Tests.{nowhere}
use Rattle.yw_tree.specs.Shows.{KeepsOthers, KeepsOwn, items_in, row_or_none}
use Rattle.yw_tree.specs.declared.NetState.{NetState, NetState-F, out-NetState, out-roll-NetState, roll-NetState}
use Rattle.yw_tree.specs.declared.Node.{Node}
use Rattle.yw_tree.specs.declared.Run.{Run}

pub get_set : {A : Type 0} (xs : List A) (t : ℕ) (x y : A) → slice_get xs t ≡ Some x → slice_get (set xs t y) t ≡ Some y
get_set [] t x y e = nowhere e
get_set (z ∷ xs) zero x y e = refl
get_set (z ∷ xs) (suc t) x y e = get_set xs t x y e

pub get_set_other : {A : Type 0} (xs : List A) (t k : ℕ) (y : A) → (k ≡ t → ⊥) → slice_get (set xs t y) k ≡ slice_get xs k
get_set_other [] t k y ne = refl
get_set_other (x ∷ xs) zero zero y ne = absurd (ne refl)
get_set_other (x ∷ xs) zero (suc k) y ne = refl
get_set_other (x ∷ xs) (suc t) zero y ne = refl
get_set_other (x ∷ xs) (suc t) (suc k) y ne = get_set_other xs t k y (λ e. ne (ap suc e))

module _ (old : NetState) (t : ℕ) where
  abbrev Level : Type 0
  Level = NetState-F NetState Node Run

  abbrev opened : Vec Node Global → Level
  opened u = record (out-NetState old) { items = with_item (out-NetState old).items t u }

  abbrev pub relisted : Vec Node Global → NetState
  relisted u = roll-NetState (record (out-NetState old) { items = with_item (out-NetState old).items t u })

  pub keeps_own : (u : Vec Node Global) → KeepsOwn old (relisted u)
  keeps_own u =
      let is = out-roll-NetState (opened u) in
      record {
        spec = ap (λ (l : Level). l.spec) is;
        net = ap (λ (l : Level). l.net) is;
        marks = ap (λ (l : Level). l.marks) is;
        vals = ap (λ (l : Level). l.vals) is;
        lists = ap (λ (l : Level). length l.items.items) is ∙ length-set (out-NetState old).items.items t u;
      }

  pub keeps_others : (u : Vec Node Global) → KeepsOthers old (relisted u) t
  keeps_others u = record {
    own = keeps_own u;
    others = λ k ne. ap (λ (l : Level). slice_get l.items.items k) (out-roll-NetState (opened u)) ∙ get_set_other (out-NetState old).items.items t k u ne;
  }

  pub this_list : (v u : Vec Node Global) → slice_get (out-NetState old).items.items t ≡ Some v → items_in (relisted u) t ≡ u.items
  this_list v u at = ap (λ (l : Level). row_or_none (slice_get l.items.items t)) (out-roll-NetState (opened u)) ∙ ap row_or_none (get_set (out-NetState old).items.items t v u at)
