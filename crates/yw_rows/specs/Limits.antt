-- States at the limits of numbers and tokens, and the deepest case.
use Rattle.std.specs.Prelude.{ℕ, zero, suc, ◌+◌, true, List, [], ◌∷◌, ◌++◌, take, Some, codes}
use Rattle.yw_base.specs.declared.value.Value.TheVariants as values
use Rattle.yw_expr.specs.Tree.{constant}
use Rattle.yw_rows.specs.Play.{Entry}
use Rattle.yw_rows.specs.Removal.{removal_row}
use Rattle.yw_rows.specs.Seq.{seq_row}
use Rattle.yw_rows.specs.Written.{load, net, person, plain, rule, spec, task, tree_place}
use Rattle.yw_spec.specs.declared.spec.Place.TheVariants.{Between, Named}
use Rattle.yw_spec.specs.declared.spec.Spec.{Spec}
use Rattle.yw_state.specs.After.{change, with_net}
use Rattle.yw_state.specs.Identity.{Ident}
use Rattle.yw_base.specs.Identity.{child}
use Rattle.yw_state.specs.State.{State}
use Rattle.yw_state.specs.declared.event.Event.{Event}
use Rattle.yw_state.specs.declared.event.Event.TheVariants as events
use Rattle.yw_state.specs.declared.tree.Conclusion.TheVariants.{Worklet}
use Rattle.yw_state.specs.declared.tree.TreeKind.TheVariants as kinds

-- the last number but one, 2^48 - 1, and the end of numbers
abbrev pub last_number : ℕ
last_number = 281474976710655

abbrev pub no_number : ℕ
no_number = 281474976710656

-- ---- tokens

-- so many tokens on the places of case 1
abbrev pub with_tokens : State → List ℕ → State
with_tokens s counts = change s (1 ∷ []) (with_net (λ n. record n { tokens = counts }))

-- an item that is completed, before its task exits
abbrev pub seq_done : List Entry
seq_done = take 5 seq_row ++ plain (events.Complete (1 ∷ 2 ∷ []) [] ∷ []) ∷ []

abbrev pub exit_a : Event
exit_a = events.Exit (1 ∷ []) (codes "a") (Between (codes "a") (codes "b") ∷ [])

-- the same of the task that empties the place to which it then brings a token
abbrev pub removal_done : List Entry
removal_done = take 8 removal_row ++ plain (events.Complete (1 ∷ 3 ∷ []) [] ∷ []) ∷ []

abbrev pub exit_to_c : Event
exit_to_c = events.Exit (1 ∷ []) (codes "a") (Named (codes "c") ∷ [])

-- ---- depth: a specification that stands for the item of its own task

abbrev pub own : Spec
own =
    spec (codes "w") (net (codes "main") (Named (codes "i") ∷ Named (codes "o") ∷ []) [] (task (codes "t") (0 ∷ []) (1 ∷ []) ∷ []) ∷ [])

-- in the net at j the task is entered, and its item is replaced, so many times one in another; the last item is passed
abbrev down : ℕ → Ident → ℕ → List Event
down zero j n = events.Enter j (codes "t") (Named (codes "i") ∷ []) n 1 ∷ events.Pass (child j n) kinds.Select ∷ []
down (suc k) j n = events.Enter j (codes "t") (Named (codes "i") ∷ []) n 1 ∷ events.Substitute (child j n) (codes "w") ∷ down k (child j n) (n + 1)

abbrev pub front : List Entry
front =
    person (codes "ann") (codes "clerk" ∷ [])
    ∷ load own
    ∷ rule (tree_place (codes "w") (Some (codes "main")) (Some (codes "t")) kinds.Select) 0 true (constant (values.Bool true)) (Worklet (codes "w")) 1
    ∷ []

-- 63 events: the launch, 31 entries, 30 replacements, and one that is passed
abbrev pub deepest : List Entry
deepest = front ++ plain (events.Launch 1 (codes "w") [] ∷ down 30 (1 ∷ []) 2) ∷ []

abbrev pub too_deep : List Entry
too_deep = front ++ plain (events.Launch 1 (codes "w") [] ∷ down 31 (1 ∷ []) 2) ∷ []

abbrev pub not_deep : List Entry
not_deep = front ++ plain (events.Launch 1 (codes "w") [] ∷ down 29 (1 ∷ []) 2) ∷ []
