-- A run put back where it stands changes nothing.
use Rattle.std.proofs.Common.{◌≡◌, Bool, true, false, cond, refl, Option, Some, None, ap, sym, ◌∙◌}
use Rattle.std.specs.Prelude.{Box, IfSome, IsSome, is_some}
use Rattle.std.specs.declared.alloc.Global.{Global}
use Rattle.yw_state.specs.Identity.{Ident, is_case_ident, same}
use Rattle.yw_base.specs.Identity.{case_number, parent}
use Rattle.yw_state.proofs.Tests.{by_test, never, nowhere, some_same, then_some}
use Rattle.yw_tree.specs.Cases.{case_at, with_case}
use Rattle.yw_tree.specs.Forest.{item_of, item_replaced}
use Rattle.yw_tree.specs.Places.{has_run, over_case_run, over_item_run, placed_run, run_at, run_of, run_of_case, run_of_item}
use Rattle.yw_tree.specs.Ways.{run_in, with_run}
use Rattle.yw_tree.specs.declared.Case.{Case}
use Rattle.yw_tree.specs.declared.Forest.{Forest}
use Rattle.yw_tree.specs.declared.Node.{Node, out-Node, roll-Node, roll-out-Node}
use Rattle.yw_tree.specs.declared.Run.{Run, out-Run}
use Rattle.yw_tree.proofs.PutBack.{put_back}
use Rattle.yw_tree.proofs.RunFound.{none_at_case, placed_in_its_case, placed_in_its_item, run_at_case, run_at_item}
use Rattle.yw_tree.proofs.SameCase.{same_table}

pub has_some : (id : Ident) (o : Option (Box Run Global)) → has_run id o ≡ true → IsSome o
has_some id None h = never h
has_some id (Some b) h = refl

pub run_seen : (id : Ident) (o : Option (Box Run Global)) (y : Run) → has_run id o ≡ true → IfSome o (λ b. y ≡ b.value) → Some y ≡ run_at id o
run_seen id None y h e = never h
run_seen id (Some b) y h e = ap (λ z. Some z) e ∙ sym (ap (λ u. cond u (Some b.value) None) h)

-- the run that has the identity is the one that stands here
pub run_here : (id : Ident) (o : Option (Box Run Global)) (r : Run) → run_at id o ≡ Some r → (has_run id o ≡ true) × (run_in o ≡ Some r)
run_here id o r e =
    by_test (has_run id o)
    (λ (t : has_run id o ≡ true). (t, sym (ap (λ u. cond u (run_in o) None) t) ∙ e))
    (λ (t : has_run id o ≡ false). nowhere (sym (ap (λ u. cond u (run_in o) None) t) ∙ e))

pub same_hung : (o : Option (Box Run Global)) (r : Run) → run_in o ≡ Some r → with_run o r ≡ o
same_hung None r e = refl
same_hung (Some b) r e = let s : b.value ≡ r = some_same b.value r e in ap (λ (z : Run). Some (record { ptr = b.ptr; alloc = b.alloc; value = z })) (sym s)

-- where the run at an identity stands
pub by_host : {G : Type 0} (f : Forest) (id : Ident) (r : Run) → run_of f id ≡ Some r
    → (is_case_ident id ≡ false → is_case_ident (parent id) ≡ true → (c : Case) → case_at (case_number id) f.cases ≡ Some c → run_at id c.run ≡ Some r → G)
    → (is_case_ident id ≡ false → is_case_ident (parent id) ≡ false → (n : Node) → item_of f (parent id) ≡ Some n → run_at id (out-Node n).run ≡ Some r → G) → G
by_host f id r e in_case in_item =
    by_test (is_case_ident id)
    (λ (t : is_case_ident id ≡ true). nowhere (sym (none_at_case f id t) ∙ e))
    (λ (t : is_case_ident id ≡ false).
    by_test (is_case_ident (parent id))
    (λ (u : is_case_ident (parent id) ≡ true). let c = then_some (run_of_case id) (case_at (case_number id) f.cases) r (sym (run_at_case f id t u) ∙ e) in in_case t u c.0 c.1 c.2)
    (λ (u : is_case_ident (parent id) ≡ false). let n = then_some (run_of_item id) (item_of f (parent id)) r (sym (run_at_item f id t u) ∙ e) in in_item t u n.0 n.1 n.2))

pub run_back : (f : Forest) (id : Ident) (r : Run) → run_of f id ≡ Some r → placed_run f id r ≡ f
run_back f id r e =
    by_host f id r e
    (λ t u c at h.
    placed_in_its_case f id r u ∙ ap (over_case_run f (case_number id) r) at
    ∙ (λ j. record { cases = with_case (case_number id) f.cases (record c { run = same_hung c.run r (run_here id c.run r h).1 j }) })
    ∙ (λ j. record { cases = same_table (case_number id) f.cases c at j }))
    (λ t u n at h.
    let same : ◌≡◌ {A = Node} (roll-Node (record (out-Node n) { run = with_run (out-Node n).run r })) n = (λ j. roll-Node (record (out-Node n) { run = same_hung (out-Node n).run r (run_here id (out-Node n).run r h).1 j })) ∙ roll-out-Node n in
    placed_in_its_item f id r u ∙ ap (over_item_run f (parent id) r) at ∙ put_it f (parent id) n at _ same)
  where
    put_it : (f : Forest) (j : Ident) (n : Node) → item_of f j ≡ Some n → (w : Node) → w ≡ n → item_replaced f j w ≡ f
    put_it f j n at w s = ap (λ z. item_replaced f j z) s ∙ put_back j n f at

pub hung_there : (id : Ident) (o : Option (Box Run Global)) → has_run id o ≡ true → (r : Run) × (run_at id o ≡ Some r)
hung_there id None h = never h
hung_there id (Some b) h = (b.value, ap (λ u. cond u (Some b.value) None) h)

-- without a run there, none is found
pub hung_is : (id : Ident) (o : Option (Box Run Global)) → has_run id o ≡ is_some (run_at id o)
hung_is id None = refl
hung_is id (Some b) = alone (same (out-Run b.value).id id)
  where
    alone : (u : Bool) → u ≡ is_some (cond u (Some b.value) None)
    alone true = refl
    alone false = refl
