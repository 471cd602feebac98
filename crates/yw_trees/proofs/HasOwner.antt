-- Where a tree may stand, something has it.
use Rattle.std.proofs.Common.{◌≡◌, ℕ, List, Bool, true, false, cond, Option, None, Some, refl, sym, ap, ◌∙◌}
use Rattle.std.specs.Prelude.{option_and_then, option_map, slice_get}
use Rattle.yw_trees.specs.Owners.{by_names, may_own, net_number, numbered_task, owner_in}
use Rattle.yw_trees.specs.declared.owner.Owner.{Owner}
use Rattle.yw_trees.specs.declared.owner.Owner.TheVariants.{Cases, Task}
use Rattle.yw_spec.specs.declared.spec.Net.{Net}
use Rattle.yw_spec.specs.declared.spec.Spec.{Spec}
use Rattle.yw_state.proofs.Tests.{by_test, never, nowhere, then_some}
use Rattle.yw_state.specs.Judged.{is_tree_place}
use Rattle.yw_state.specs.Nets.{net_called, task_called, task_number}
use Rattle.yw_state.specs.Options.{is_some_and}
use Rattle.yw_state.specs.declared.tree.TreeKind.{TreeKind}
use Rattle.yw_state.specs.declared.tree.TreePlace.{TreePlace}

some_there : {A : Type 0} (o : Option A) (p : A → Bool) → is_some_and o p ≡ true → (x : A) × (o ≡ Some x)
some_there None p e = never e
some_there (Some x) p e = (x, refl)

has_owner : (k : ℕ) (spec : Spec) (name : List ℕ) (net task : Option (List ℕ)) (kind : TreeKind)
    → is_tree_place spec (record { spec = name; net = net; task = task; kind = kind }) ≡ true → (o : Owner) × (by_names k spec net task ≡ Some o)
has_owner k spec name None None kind e = (Cases k, refl)
has_owner k spec name None (Some task) kind e = never e
has_owner k spec name (Some net) None kind e = never e
has_owner k spec name (Some net) (Some task) kind e =
    let (y, found) = some_there (option_and_then (λ (x : Net). task_called x task) (net_called spec net)) _ e in
    let (x, net_is, task_is) = then_some (λ (x : Net). task_called x task) (net_called spec net) y found in
    let (n, net_at, here) = then_some (slice_get spec.nets) (net_number spec net) x net_is in
    let (t, task_at, there) = then_some (slice_get x.tasks) (task_number x task) y task_is in (
      Task k n t,
      ap (option_and_then (numbered_task k spec task)) net_at
          ∙ ap (option_and_then (λ (z : Net). option_map (λ u. Task k n u) (task_number z task))) here ∙ ap (option_map (λ u. Task k n u)) task_at,
    )

-- what has none is no place of a tree
pub none_stands : (k : ℕ) (spec : Spec) (p : TreePlace) → may_own k spec p ≡ None → is_tree_place spec p ≡ false
none_stands k spec p e =
    by_test (is_tree_place spec p)
    (λ t.
    let (o, is) = has_owner k spec p.spec p.net p.task p.kind t in
    nowhere (sym e ∙ ap (λ b. cond b (owner_in k spec p) None) t ∙ is))
    (λ f. f)
