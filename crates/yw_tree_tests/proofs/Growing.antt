-- What grows stays well boxed, with numbers below the one that is drawn next.
use Rattle.std.proofs.Common.{List, None, Option, Some, [], ap, arith, false, length, refl, subst, sym, true, ℕ, ◌++◌, ◌+◌, ◌∙◌, ◌∷◌, ◌≡◌, ◌≤◌}
use Rattle.std.proofs.lemmas.Bool.{eqb-true}
use Rattle.std.specs.List.{list_all}
use Rattle.std.specs.Prelude.{IsSomeAnd, T, is_some, nat_lt}
use Rattle.yw_sites.proofs.Prefix.{is_child_of}
use Rattle.yw_sites.specs.Idents.{AreChildren}
use Rattle.yw_state.proofs.Tests.{by_test}
use Rattle.yw_state.specs.Identity.{Ident, is_case_ident, is_child}
use Rattle.yw_base.specs.Identity.{child, parent}
use Rattle.yw_state.specs.State.{Site}
use Rattle.yw_state.specs.Values.{Row}
use Rattle.yw_state.specs.declared.part.Checks.{Checks}
use Rattle.yw_state.specs.declared.tree.Primitive.{Primitive}
use Rattle.yw_tree.proofs.Drawn.{after_drawn}
use Rattle.yw_tree.proofs.Keys.{ids_are, kids}
use Rattle.yw_tree.proofs.Parents.{identity_short}
use Rattle.yw_base.proofs.Parents.{identity_long}
use Rattle.yw_tree.proofs.Stood.{found_in_map}
use Rattle.yw_tree.specs.Becomes.{Gets, GetsNet}
use Rattle.yw_tree.specs.Begins.{BeginsItem, BeginsRun}
use Rattle.yw_tree.specs.Boxed.{IsBoxedCase, IsBoxedNet}
use Rattle.yw_tree.specs.Coming.{ComesAfter, HasTask, ItemMayCome, RunMayCome, TargetStands}
use Rattle.yw_tree.specs.Entries.{nodes}
use Rattle.yw_tree.specs.Forest.{IsForest}
use Rattle.yw_tree.specs.Places.{hung_at, net_at}
use Rattle.yw_tree.specs.Spots.{part_at}
use Rattle.yw_tree.specs.declared.Forest.{Forest}
use Rattle.yw_tree.specs.declared.NetState.{NetState}
use Rattle.yw_tree.specs.declared.Node.{Node, out-Node}
use Rattle.yw_tree.specs.declared.Run.{Run, out-Run}
use Rattle.yw_tree_tests.proofs.Drawing.{below_child, drawn_gets, drawn_gets_net}
use Rattle.yw_tree_tests.specs.Grown.{Grown, HasRoom, IsBelow}

-- an identity of another length than 2 is directly under no case
pub parent_not_case : (id : Ident) → (length id ≡ 2 → ⊥) → is_case_ident (parent id) ≡ false
parent_not_case [] h = refl
parent_not_case (x ∷ []) h = refl
parent_not_case (x ∷ y ∷ []) h = absurd (h refl)
parent_not_case (x ∷ y ∷ z ∷ zs) h =
    by_test (is_case_ident (parent (x ∷ y ∷ z ∷ zs))) (λ t. let e = eqb-true (length (parent (x ∷ y ∷ z ∷ zs))) 1 t in absurd (omega arith)) (λ f. f)

-- a case without items and runs is well boxed
pub bare_case : (id : Ident) (net : NetState) (due : Checks) → nodes net ≡ [] → IsBoxedNet net → IsBoxedCase (record { id = id; net = net; suspended = false; due = due; run = None })
bare_case id net due empty boxed =
    let none : List Ident = [] in
    let nothing : AreChildren id [] = (tt, tt) in
    record { here = subst (λ z. AreChildren id (z ++ none)) (sym (ids_are net ∙ ap kids empty)) nothing; net = boxed; run = tt }

module _ (f : Forest) (n : ℕ) (g : Grown f n) (i : Ident) (id : Ident) (b : IsBelow i n id) where
  pub may_come : (t : ℕ) (given : Row) (node : Node) → HasRoom f i t → BeginsItem id t given node → ItemMayCome f i node
  may_come t given node room begins =
      let is : (out-Node node).id ≡ child i n = begins.id ∙ b.is in
      record {
        task_in = subst (λ k. IsSomeAnd (net_at f i) (HasTask k)) (sym begins.task) room.task;
        child = subst (λ k. is_child k i ≡ true) (sym is) (is_child_of (child i n) i (n, refl));
        after = subst (ComesAfter f i) (sym is) (after_drawn f i n g.boxed (identity_long i b.identity) (identity_short i b.identity) g.drawn);
        without_net = begins.without_net;
        without_run = begins.without_run;
      }

  pub run_may_come : (rest : List Primitive) (run : Run) → TargetStands f i → hung_at f i ≡ None → part_at f id ≡ None → BeginsRun id rest run → RunMayCome f i run
  run_may_come rest run target idle vacant begins =
      let is : (out-Run run).id ≡ child i n = begins.id ∙ b.is in
      record {
        target = target;
        idle = idle;
        child = subst (λ k. is_child k i ≡ true) (sym is) (is_child_of (child i n) i (n, refl));
        vacant = subst (λ k. part_at f k ≡ None) (sym begins.id) vacant;
        without_net = begins.without_net;
      }

  -- all numbers of what stands are drawn
  at_drawn : is_some (part_at f i) ≡ true → list_all (λ k. nat_lt k n) i ≡ true
  at_drawn there =
      let names : ℕ → List ℕ = λ k. [] in
      let short : length i ≤ 40 = identity_short i b.identity in
      let fits : length i ≤ 41 = omega arith in
      g.drawn names i (sym (found_in_map f g.boxed i (identity_long i b.identity) names fits) ∙ there)

  pub grows : (new : Forest) (k : Ident) (site : (ℕ → List ℕ) → Site) → is_some (part_at f i) ≡ true → k ≡ id → Gets f new k site → IsForest new → Grown new (n + 1)
  grows new k site there is gets boxed = record {
    boxed = boxed;
    drawn = drawn_gets f new n k site g.drawn (subst (λ z. list_all (λ k. nat_lt k (n + 1)) z ≡ true) (sym (is ∙ b.is)) (below_child n i (at_drawn there))) gets;
  }

pub grows_case : (f new : Forest) (n : ℕ) (k : Ident) (site : (ℕ → List ℕ) → Site) → Grown f n → k ≡ n ∷ [] → Gets f new k site → IsForest new → Grown new (n + 1)
grows_case f new n k site g is gets boxed = record {
  boxed = boxed;
  drawn = drawn_gets f new n k site g.drawn (subst (λ z. list_all (λ k. nat_lt k (n + 1)) z ≡ true) (sym is) (below_child n [] refl)) gets;
}

pub grows_net : (f new : Forest) (n : ℕ) (i : Ident) (net : NetState) → Grown f n → GetsNet f new i net → IsForest new → Grown new (n + 1)
grows_net f new n i net g gets boxed = record { boxed = boxed; drawn = drawn_gets_net f new n i net g.drawn gets }

pub nothing_there : {A : Type 0} (o : Option A) → is_some o ≡ false → o ≡ None
nothing_there None h = refl
nothing_there (Some x) h = absurd (subst T h tt)
