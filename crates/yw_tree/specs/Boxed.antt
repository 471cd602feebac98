-- What is well boxed: identities follow the boxes, and no two things have the same one.
use Rattle.std.specs.FinMap.Entries.{is_sorted}
use Rattle.std.specs.Ordering.{nat_cmp}
use Rattle.std.specs.Prelude.{Box, List, None, Option, Some, T, Vec, [], map, ℕ, ◌++◌, ◌+◌, ◌∷◌, ◌≡◌}
use Rattle.std.specs.declared.alloc.Global.{Global}
use Rattle.yw_sites.specs.Idents.{AreChildren, Each}
use Rattle.yw_state.specs.Identity.{Ident, case_ident}
use Rattle.yw_state.specs.Map.{lexical}
use Rattle.yw_tree.specs.Cases.{CaseList}
use Rattle.yw_tree.specs.declared.Case.{Case}
use Rattle.yw_tree.specs.declared.NetState.{NetState, NetState-F, every-NetState, out-NetState}
use Rattle.yw_tree.specs.declared.Node.{Node, Node-F, every-Node, out-Node}
use Rattle.yw_tree.specs.declared.Run.{Run, Run-F, every-Run, out-Run}

-- what is behind a box, if there is one
abbrev pub Held : {A : Type 0} → (A → Type 0) → Option (Box A Global) → Type 0
Held P None = Unit {0}
Held P (Some b) = P b.value

-- an item's identity and task
abbrev pub head : Node → Ident × ℕ
head n = ((out-Node n).id, (out-Node n).task)

abbrev pub heads : List (Vec Node Global) → List (List (Ident × ℕ))
heads vs = map (λ v. map head v.items) vs

-- those of one row after another
abbrev pub ids_of : List (List (Ident × ℕ)) → List Ident
ids_of [] = []
ids_of (hs ∷ hss) = map (λ h. h.0) hs ++ ids_of hss

-- each list has the items of its task, ascending
abbrev pub AreRows : ℕ → List (List (Ident × ℕ)) → Type 0
AreRows t [] = Unit {0}
AreRows t (hs ∷ hss) = Each (λ h. h.1 ≡ t) hs × T (is_sorted lexical hs) × AreRows (t + 1) hss

-- the identities of a net's items
abbrev pub ids : NetState → List Ident
ids s = ids_of (heads (out-NetState s).items.items)

abbrev pub IsNetAt : Ident → NetState → Type 0
IsNetAt i s = AreChildren i (ids s)

abbrev pub net_ids : Option (Box NetState Global) → List Ident
net_ids None = []
net_ids (Some b) = ids b.value

abbrev pub run_ids : Option (Box Run Global) → List Ident
run_ids None = []
run_ids (Some b) = (out-Run b.value).id ∷ []

abbrev pub AtNet : NetState-F NetState Node Run → Type 0
AtNet l = AreRows 0 (heads l.items.items)

abbrev pub AtNode : Node-F NetState Node Run → Type 0
AtNode l = AreChildren l.id (net_ids l.net ++ run_ids l.run)

abbrev pub AtRun : Run-F NetState Node Run → Type 0
AtRun l = AreChildren l.id (net_ids l.net)

-- at each level
abbrev pub IsBoxedNet : NetState → Type 0
IsBoxedNet = every-NetState AtNet AtNode AtRun

abbrev pub IsBoxedNode : Node → Type 0
IsBoxedNode = every-Node AtNet AtNode AtRun

abbrev pub IsBoxedRun : Run → Type 0
IsBoxedRun = every-Run AtNet AtNode AtRun

pub record IsBoxedCase (c : Case) : Type 0 where
  pub here : AreChildren c.id (ids c.net ++ run_ids c.run)
  pub net : IsBoxedNet c.net
  pub run : Held IsBoxedRun c.run

-- the cases stand in order of their numbers, each under its own
abbrev pub IsBoxed : CaseList → Type 0
IsBoxed cs = T (is_sorted nat_cmp cs) × Each (λ e. (e.1.id ≡ case_ident e.0) × IsBoxedCase e.1) cs
