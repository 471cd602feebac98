-- Paths of a net, by paths from task to task.
use Rattle.std.proofs.Common.{◌≡◌, ℕ, zero, suc, ◌+◌, ◌<◌, ◌⊎◌, inl, inr, List, length, refl, sym, subst, arith}
use Rattle.std.specs.Prelude.{Contains, slice_get}
use Rattle.yw_path.specs.Direct.{AreDirect, Feeds}
use Rattle.yw_path.specs.Rows.{Leads}
use Rattle.yw_reach.proofs.Walks.{path_trans, walk-same, walk_split}
use Rattle.yw_reach.specs.Walks.{PathAlong, WalkAlong}
use Rattle.yw_spec.specs.Net.{HasFlow, Node, Path, places_after, at_place, at_task, places_before}
use Rattle.yw_spec.specs.declared.spec.Net.{Net}

-- ---- between tasks

module _ (net : Net) (rows : List (List ℕ)) (direct : AreDirect net rows) where
  -- a step of the rows is a path of the net
  step_path : (u t : ℕ) → Leads rows u t → Path net (at_task u) (at_task t)
  step_path u t h = elim (direct.only u t h) [
    | inl is ↦ let P : ℕ → Type 0 = λ v. Path net (at_task u) (at_task v) in subst P is (0, refl)
    | inr (c, out, into) ↦ (2, (at_place c, (at_task u, refl, out), into))
  ]

  walk_net : (u t n : ℕ) → WalkAlong (Leads rows) u t n → Path net (at_task u) (at_task t)
  walk_net u t zero w = let P : ℕ → Type 0 = λ v. Path net (at_task u) (at_task v) in subst P w (0, refl)
  walk_net u t (suc n) w = path_trans (HasFlow net) (at_task u) (at_task w.0) (at_task t) (walk_net u w.0 n w.1) (step_path w.0 t w.2)

  pub rows_net : (u t : ℕ) → PathAlong (Leads rows) u t → Path net (at_task u) (at_task t)
  rows_net u t p = walk_net u t p.0 p.1

  step_on : (u v t : ℕ) → PathAlong (Leads rows) u v → Feeds net v t → PathAlong (Leads rows) u t
  step_on u v t p f = (suc p.0, (v, p.1, direct.all v t f))

  same_task : (u t : ℕ) → at_task u ≡ at_task t → u ≡ t
  same_task u t e = cc

  -- a walk to a node before a task, and the flow to the task
  from_node : (n u t : ℕ) (x : Node) → WalkAlong (HasFlow net) (at_task u) x n → HasFlow net x (at_task t) → PathAlong (Leads rows) u t
  from_node n u t (at_task v) w f = absurd f
  from_node zero u t (at_place c) w f = cc
  from_node (suc zero) u t (at_place c) w f =
      let P : Node → Type 0 = λ x. HasFlow net x (at_place c) in
      let out : Contains (places_after net u) c = subst P (sym w.1) w.2 in
      step_on u u t (0, refl) (c, out, f)
  from_node (suc (suc n)) u t (at_place c) w f =
      elim w.0 as (λ x. WalkAlong (HasFlow net) (at_task u) x (suc n) → HasFlow net x (at_place c) → PathAlong (Leads rows) u t) [
        | at_place d ↦ λ walk g. absurd g
        | at_task v ↦ λ walk g. step_on u v t (from_node n u v walk.0 walk.1 walk.2) (c, g, f)
      ] w.1 w.2

  pub net_rows : (u t : ℕ) → Path net (at_task u) (at_task t) → PathAlong (Leads rows) u t
  net_rows u t (zero, w) = (0, same_task u t w)
  net_rows u t (suc n, w) = from_node n u t w.0 w.1 w.2

-- ---- to places

-- a path from a task to a place goes on from a task to it
pub last_task : (net : Net) (u c : ℕ) → Path net (at_task u) (at_place c) → (t : ℕ) × Path net (at_task u) (at_task t) × Contains (places_after net t) c
last_task net u c (zero, w) = cc
last_task net u c (suc n, w) =
    elim w.0 as (λ x. WalkAlong (HasFlow net) (at_task u) x n → HasFlow net x (at_place c) → (t : ℕ) × Path net (at_task u) (at_task t) × Contains (places_after net t) c) [
      | at_place d ↦ λ walk g. absurd g
      | at_task t ↦ λ walk g. (t, (n, walk), g)
    ] w.1 w.2

pub to_place : (net : Net) (u t c : ℕ) → Path net (at_task u) (at_task t) → Contains (places_after net t) c → Path net (at_task u) (at_place c)
to_place net u t c p out = (suc p.0, (at_task t, p.1, out))

pub from_place : (net : Net) (d u c : ℕ) → Contains (places_before net u) d → Path net (at_task u) (at_place c) → Path net (at_place d) (at_place c)
from_place net d u c into p = path_trans (HasFlow net) (at_place d) (at_task u) (at_place c) (1, (at_place d, refl, into)) p

-- a path from a place to another goes on to a task behind it
pub first_task : (net : Net) (d c : ℕ) → Path net (at_place d) (at_place c) → (d ≡ c) ⊎ ((u : ℕ) × Contains (places_before net u) d × Path net (at_task u) (at_place c))
first_task net d c (zero, w) = inl (let is : at_place d ≡ at_place c = w in cc)
first_task net d c (suc n, w) =
    let s = walk_split (HasFlow net) (at_place d) (at_place c) 1 n (walk-same (HasFlow net) (at_place d) (at_place c) (suc n) (1 + n) (omega arith) w) in
    let P : Node → Type 0 = λ x. HasFlow net x s.0 in
    let out : HasFlow net (at_place d) s.0 = subst P (sym s.1.1) s.1.2 in
    elim s.0 as (λ x. HasFlow net (at_place d) x → WalkAlong (HasFlow net) x (at_place c) n → (d ≡ c) ⊎ ((u : ℕ) × Contains (places_before net u) d × Path net (at_task u) (at_place c))) [
      | at_place e ↦ λ f rest. absurd f
      | at_task u ↦ λ f rest. inr (u, f, (n, rest))
    ] out s.2

-- a path from a task to a place begins with a flow from the task
pub first_flow : (net : Net) (u c : ℕ) → Path net (at_task u) (at_place c) → (d : ℕ) × Contains (places_after net u) d
first_flow net u c (zero, w) = cc
first_flow net u c (suc n, w) =
    let s = walk_split (HasFlow net) (at_task u) (at_place c) 1 n (walk-same (HasFlow net) (at_task u) (at_place c) (suc n) (1 + n) (omega arith) w) in
    let P : Node → Type 0 = λ x. HasFlow net x s.0 in
    let out : HasFlow net (at_task u) s.0 = subst P (sym s.1.1) s.1.2 in
    elim s.0 as (λ x. HasFlow net (at_task u) x → (d : ℕ) × Contains (places_after net u) d) [
      | at_place e ↦ λ f. (e, f)
      | at_task v ↦ λ f. absurd f
    ] out
