-- What is put back as it was.
use mathlib.Core.Option as maybe
use Rattle.std.below.std_alloc.specs.formers.vec.Vec.{holding_along}
use Rattle.std.proofs.Common.{Bool, List, None, Option, Some, [], ap, cond, false, refl, set, subst, suc, sym, true, zero, ℕ, ⊎_elim, ◌∙◌, ◌∷◌, ◌≡◌}
use Rattle.std.proofs.lemmas.Bool.{false≢true}
use Rattle.std.specs.Borrow.{GName}
use Rattle.std.specs.Prelude.{Box, IsSome, Vec, slice_get, slice_index_or}
use Rattle.std.specs.Vec.{with_item}
use Rattle.std.specs.declared.alloc.Global.{Global}
use Rattle.yw_sites.proofs.Prefix.{either}
use Rattle.yw_tree.proofs.Split.{in_net}
use Rattle.yw_tree.specs.Ways.{inner_of, item_in_row, net_in, net_in_run, node_at, run_leads, run_with_net, with_inner, with_net, with_node, with_row}
use Rattle.yw_tree.specs.declared.NetState.{NetState, out-NetState, roll-NetState, roll-out-NetState}
use Rattle.yw_tree.specs.declared.Node.{Node, out-Node, roll-Node, roll-out-Node}
use Rattle.yw_tree.specs.declared.Run.{Run, out-Run, roll-Run, roll-out-Run}
use borrow.Follows.Closed.{read_of}

-- what indexing read, where there is something
pub get_read : {A : Type 0} (xs : List A) (i : ℕ) (x : A) → IsSome (slice_get xs i) → x ≡ slice_index_or xs i x → slice_get xs i ≡ Some x
get_read [] i x h e = absurd (false≢true h)
get_read (y ∷ xs) zero x h e = ap (λ z. Some z) (sym e)
get_read (y ∷ xs) (suc i) x h e = get_read xs i x h e

row_is_there : (o : Option (Vec Node Global)) (i : ℕ) → IsSome (item_in_row o i) → IsSome o
row_is_there None i h = h
row_is_there (Some v) i h = refl

pub row_read : (rows : List (Vec Node Global)) (t i : ℕ) (v : Vec Node Global) → IsSome (item_in_row (slice_get rows t) i) → v ≡ slice_index_or rows t v → slice_get rows t ≡ Some v
row_read rows t i v h e = get_read rows t v (row_is_there (slice_get rows t) i h) e

set_same : {A : Type 0} (xs : List A) (i : ℕ) (x : A) → slice_get xs i ≡ Some x → set xs i x ≡ xs
set_same [] i x e = refl
set_same (y ∷ xs) zero x e = let q : y ≡ x = cc in ap (λ z. z ∷ xs) (sym q)
set_same (y ∷ xs) (suc i) x e = ap (λ z. y ∷ z) (set_same xs i x e)

pub same_item : {A : Type 0} (v : Vec A Global) (i : ℕ) (x : A) → slice_get v.items i ≡ Some x → with_item v i x ≡ v
same_item v i x e = holding_along v _ _ (set_same v.items i x e) (with_item v i x).ok v.ok

pub same_node : (s : NetState) (t i : ℕ) (n : Node) → node_at s t i ≡ Some n → with_node s t i n ≡ s
same_node s t i n e =
    let rows = (out-NetState s).items in
    let r = in_net s t i n e in
    ap (λ (o : Option (Vec Node Global)). roll-NetState (record (out-NetState s) { items = with_row rows t i n o })) r.is_row
    ∙ ap (λ (z : Vec Node Global). roll-NetState (record (out-NetState s) { items = with_item rows t z })) (same_item r.row i n r.at)
    ∙ ap (λ (z : Vec (Vec Node Global) Global). roll-NetState (record (out-NetState s) { items = z })) (same_item rows t r.row r.is_row)
    ∙ roll-out-NetState s

pub same_net : (o : Option (Box NetState Global)) (s : NetState) → net_in o ≡ Some s → with_net o s ≡ o
same_net None s e = refl
same_net (Some b) s e = let q : b.value ≡ s = cc in ap (λ (z : NetState). Some (record { ptr = b.ptr; alloc = b.alloc; value = z })) (sym q)

pub same_run : (r : Option (Box Run Global)) (s : NetState) → net_in_run r ≡ Some s → run_with_net r s ≡ r
same_run None s e = refl
same_run (Some b) s e =
    ap (λ (z : Run). Some (record { ptr = b.ptr; alloc = b.alloc; value = z }))
    (ap (λ (o : Option (Box NetState Global)). roll-Run (record (out-Run b.value) { net = o })) (same_net (out-Run b.value).net s e) ∙ roll-out-Run b.value)

pub same_inner : (id : List ℕ) (n : Node) (s : NetState) → inner_of id n ≡ Some s → with_inner id n s ≡ n
same_inner id n s e =
    ⊎_elim
    (λ (l : run_leads id (out-Node n).run ≡ true).
    let e' : net_in_run (out-Node n).run ≡ Some s = subst (λ (u : Bool). cond u (net_in_run (out-Node n).run) (net_in (out-Node n).net) ≡ Some s) l e in
    ap (λ (u : Bool). cond u (roll-Node (record (out-Node n) { run = run_with_net (out-Node n).run s })) (roll-Node (record (out-Node n) { net = with_net (out-Node n).net s }))) l
    ∙ ap (λ (z : Option (Box Run Global)). roll-Node (record (out-Node n) { run = z })) (same_run (out-Node n).run s e') ∙ roll-out-Node n)
    (λ (l : run_leads id (out-Node n).run ≡ false).
    let e' : net_in (out-Node n).net ≡ Some s = subst (λ (u : Bool). cond u (net_in_run (out-Node n).run) (net_in (out-Node n).net) ≡ Some s) l e in
    ap (λ (u : Bool). cond u (roll-Node (record (out-Node n) { run = run_with_net (out-Node n).run s })) (roll-Node (record (out-Node n) { net = with_net (out-Node n).net s }))) l
    ∙ ap (λ (z : Option (Box NetState Global)). roll-Node (record (out-Node n) { net = z })) (same_net (out-Node n).net s e') ∙ roll-out-Node n)
    (either (run_leads id (out-Node n).run))

-- where two loans of an `Option` are the same
pub same_loan : {D E : Type 0} (m : maybe.Option GName) (F G : E → D) (v u : D) → ((x : E) → F x ≡ G x) → v ≡ u → read_of m F v ≡ read_of m G u
same_loan m F G v u f e = (λ j. read_of m (λ x. f x j) (e j))
