-- What has a tree, and the place that is named after it.
use Rattle.std.proofs.Common.{◌≡◌, ℕ, Bool, List, [], ◌∷◌, Option, None, Some, refl, sym, ap, subst, ◌∙◌}
use Rattle.std.proofs.lemmas.List.Quantifiers.{position-Some}
use Rattle.std.proofs.lemmas.Option.{get_or_from_slice_get, slice_get-get_or}
use Rattle.std.proofs.lemmas.Slice.Eq.{bytes_eq-Decides}
use Rattle.std.specs.Prelude.{get_or, option_and_then, option_map, position, slice_get}
use Rattle.std.specs.Str.{bytes_eq}
use Rattle.yw_trees.specs.Owners.{IsNamed, SpecsApart, by_names, net_number, numbered_task, owner_in, spec_number}
use Rattle.yw_trees.specs.declared.owner.Owner.{Owner}
use Rattle.yw_trees.specs.declared.owner.Owner.TheVariants.{Cases, Task}
use Rattle.yw_spec.specs.declared.spec.Net.{Net}
use Rattle.yw_spec.specs.declared.spec.Spec.{Spec}
use Rattle.yw_spec.specs.declared.task.Task as tasks
use Rattle.yw_state.proofs.Tests.{map_some, nowhere, some_same, then_some}
use Rattle.yw_state.specs.Nets.{task_number}
use Rattle.yw_state.specs.declared.loaded.Loaded.{Loaded}
use Rattle.yw_state.specs.declared.tree.TreePlace.{TreePlace}

-- ---- what is named by a place is one

pub one_owner : (specs : List Loaded) → SpecsApart specs → (a b : Owner) (p : TreePlace) → IsNamed specs a p → IsNamed specs b p → a ≡ b
one_owner specs apart a b p x y =
    let number : spec_number a ≡ spec_number b = apart (spec_number a) (spec_number b) x.loaded y.loaded x.numbered y.numbered (x.named ∙ sym y.named) in
    let same : x.loaded ≡ y.loaded = some_same x.loaded y.loaded (sym x.numbered ∙ ap (slice_get specs) number ∙ y.numbered) in
    some_same a b (sym x.here ∙ ap (λ k. owner_in k x.loaded.spec p) number ∙ ap (λ (l : Loaded). owner_in (spec_number b) l.spec p) same ∙ y.here)

-- ---- a place that is named after one is one

-- what is found stands there
pub stands : {A : Type 0} (p : A → Bool) (xs : List A) (k : ℕ) → position p xs ≡ Some k → (x : A) × (slice_get xs k ≡ Some x)
stands p [] k e = nowhere e
stands p (y ∷ ys) k e = let at = position-Some p (y ∷ ys) k y e in (get_or (y ∷ ys) k y, slice_get-get_or (y ∷ ys) k y at.0)

module _ {A : Type 0} (name : A → List ℕ) where
  -- what is found by name has the name
  pub has_name : (xs : List A) (wanted : List ℕ) (k : ℕ) (x : A) → position (λ y. bytes_eq (name y) wanted) xs ≡ Some k → slice_get xs k ≡ Some x
      → name x ≡ wanted
  has_name xs wanted k x found at =
      let passes = position-Some (λ y. bytes_eq (name y) wanted) xs k x found in
      ap name (sym (get_or_from_slice_get xs k x x at)) ∙ (bytes_eq-Decides (name (get_or xs k x)) wanted).0 passes.1

abbrev net_name : Spec → Owner → Option (List ℕ)
net_name spec (Cases k) = None
net_name spec (Task k n t) = option_map (λ (net : Net). net.name) (slice_get spec.nets n)

abbrev task_name : Spec → Owner → Option (List ℕ)
task_name spec (Cases k) = None
task_name spec (Task k n t) = option_map (λ (x : tasks.Task). x.name) (option_and_then (λ (net : Net). slice_get net.tasks t) (slice_get spec.nets n))

record AreNames (spec : Spec) (o : Owner) (net task : Option (List ℕ)) : Type 0 where
  pub of_net : net ≡ net_name spec o
  pub of_task : task ≡ task_name spec o

-- the names are those of the numbers
module _ (k : ℕ) (spec : Spec) where
  named : (a b : List ℕ) (n : ℕ) (net : Net) (t : ℕ) (task : tasks.Task) → slice_get spec.nets n ≡ Some net → net.name ≡ a
      → slice_get net.tasks t ≡ Some task → task.name ≡ b
      → AreNames spec (Task k n t) (Some a) (Some b)
  named a b n net t task here is there be = record {
    of_net = ap Some (sym is) ∙ ap (option_map (λ (x : Net). x.name)) (sym here);
    of_task = ap Some (sym be) ∙ ap (option_map (λ (x : tasks.Task). x.name)) (sym there)
        ∙ ap (λ (o : Option Net). option_map (λ (x : tasks.Task). x.name) (option_and_then (λ (x : Net). slice_get x.tasks t) o)) (sym here);
  }

  of_task : (a b : List ℕ) (o : Owner) → by_names k spec (Some a) (Some b) ≡ Some o → AreNames spec o (Some a) (Some b)
  of_task a b o e =
      let (n, net_at, numbered) = then_some (numbered_task k spec b) (net_number spec a) o e in
      let (net, here, tasked) = then_some (λ (x : Net). option_map (λ t. Task k n t) (task_number x b)) (slice_get spec.nets n) o numbered in
      let (t, task_at, is) = map_some (λ t. Task k n t) (task_number net b) o tasked in
      let (task, there) = stands (λ (x : tasks.Task). bytes_eq x.name b) net.tasks t task_at in
      subst (λ z. AreNames spec z (Some a) (Some b)) is
      (named a b n net t task here (has_name (λ (x : Net). x.name) spec.nets a n net net_at here) there
      (has_name (λ (x : tasks.Task). x.name) net.tasks b t task task_at there))

  names_of : (net task : Option (List ℕ)) (o : Owner) → by_names k spec net task ≡ Some o → AreNames spec o net task
  names_of None None o e = subst (λ z. AreNames spec z None None) (some_same (Cases k) o e) (record { of_net = refl; of_task = refl })
  names_of (Some a) (Some b) o e = of_task a b o e
  names_of None (Some b) o e = nowhere e
  names_of (Some a) None o e = nowhere e

pub one_place_of : (specs : List Loaded) (o : Owner) (p q : TreePlace) → IsNamed specs o p → IsNamed specs o q → p.kind ≡ q.kind → p ≡ q
one_place_of specs o p q x y kind =
    let same : x.loaded ≡ y.loaded = some_same x.loaded y.loaded (sym x.numbered ∙ y.numbered) in
    let of_p = names_of (spec_number o) x.loaded.spec p.net p.task o x.here in
    let of_q = names_of (spec_number o) y.loaded.spec q.net q.task o y.here in
    let spec : p.spec ≡ q.spec = sym x.named ∙ ap (λ (l : Loaded). l.spec.name) same ∙ y.named in
    let net : p.net ≡ q.net = of_p.of_net ∙ ap (λ (l : Loaded). net_name l.spec o) same ∙ sym of_q.of_net in
    let task : p.task ≡ q.task = of_p.of_task ∙ ap (λ (l : Loaded). task_name l.spec o) same ∙ sym of_q.of_task in
    λ i. record { spec = spec i; net = net i; task = task i; kind = kind i }
