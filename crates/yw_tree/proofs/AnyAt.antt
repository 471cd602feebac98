-- Whether some of a list pass, by places.
use Rattle.std.proofs.Common.{Bool, List, Some, [], ap, false, length, refl, suc, true, zero, ℕ, ◌∙◌, ◌∷◌, ◌≡◌}
use Rattle.std.proofs.lemmas.Bool.{or_right}
use Rattle.std.proofs.lemmas.List.Folds.{list_any-append}
use Rattle.std.specs.List.{list_any}
use Rattle.std.specs.Prelude.{Vec, slice_get, ◌||◌}
use Rattle.std.specs.declared.alloc.Global.{Global}
use Rattle.yw_state.proofs.Tests.{nowhere, some_same}
use Rattle.yw_tree.proofs.Lists.{EachBelow, each_all}
use Rattle.yw_tree.proofs.UrgentWalk.{any_none, urgent_net_is}
use Rattle.yw_tree.specs.Entries.{row_nodes}
use Rattle.yw_tree.specs.Holding.{urgent_net, urgent_node}
use Rattle.yw_tree.specs.declared.NetState.{NetState, out-NetState}
use Rattle.yw_tree.specs.declared.Node.{Node}

pub any_at : {X : Type 0} (p : X → Bool) (xs : List X) (k : ℕ) (x : X) → slice_get xs k ≡ Some x → p x ≡ true → list_any p xs ≡ true
any_at p [] k x e t = nowhere e
any_at p (y ∷ xs) zero x e t = ap (λ b. b || list_any p xs) (ap p (some_same y x e) ∙ t)
any_at p (y ∷ xs) (suc k) x e t = or_right (p y) (list_any p xs) (any_at p xs k x e t)

pub any_not : {X : Type 0} (p : X → Bool) (xs : List X) → EachBelow (λ x. p x ≡ false) xs (length xs) → list_any p xs ≡ false
any_not p xs h = any_none p xs (each_all (λ x. p x ≡ false) xs h)

abbrev pub row_urgent : Vec Node Global → Bool
row_urgent v = list_any urgent_node v.items

rows_any : (vs : List (Vec Node Global)) → list_any urgent_node (row_nodes vs) ≡ list_any row_urgent vs
rows_any [] = refl
rows_any (v ∷ vs) = list_any-append urgent_node v.items (row_nodes vs) ∙ ap (λ b. row_urgent v || b) (rows_any vs)

-- what is asked of a net, list by list
pub urgent_rows : (s : NetState) → urgent_net s ≡ list_any row_urgent (out-NetState s).items.items
urgent_rows s = urgent_net_is s ∙ rows_any (out-NetState s).items.items
