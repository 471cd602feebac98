-- What a state fixes of an event that is allowed in it, so that its text needn't say it.
use Rattle.std.specs.Prelude.{◌≡◌, ◌<◌, ◌&&◌, ℕ, Bool, true, false, not, List, [], ◌∷◌, map, length, Option, Some, None, get_or, option_and_then, option_map, slice_get, refl}
use Rattle.std.specs.Str.{bytes_eq}
use Rattle.std.proofs.Common.{sym, ◌∙◌, ap, subst}
use Rattle.std.proofs.lemmas.Bool.{and_parts, not-true}
use Rattle.std.proofs.lemmas.List.Elements.{All-get_or}
use Rattle.std.proofs.lemmas.List.Quantifiers.{position-Some}
use Rattle.std.proofs.lemmas.List.Sums.{AllPass-from_list_all}
use Rattle.std.proofs.lemmas.Option.{get_or_from_slice_get}
use Rattle.std.proofs.lemmas.Slice.Eq.{bytes_eq-Decides}
use Rattle.yw_base.specs.Spelling.{is_name}
use Rattle.yw_spec.specs.declared.spec.Net.{Net}
use Rattle.yw_spec.specs.declared.spec.Place.{Place}
use Rattle.yw_spec.specs.declared.spec.Place.TheVariants.{Named, Between}
use Rattle.yw_spec.specs.declared.task.Task.{Task}
use Rattle.yw_state.proofs.Tests.{map_some, never, some_same, then_some}
use Rattle.yw_state.specs.Allowed.{is_first, is_worklet, place_numbers, same_primitive}
use Rattle.yw_state.specs.Identity.{Ident}
use Rattle.yw_state.specs.Nets.{place_number, same_place, task_number}
use Rattle.yw_state.specs.Options.{is_some_and}
use Rattle.yw_state.specs.State.{State, NetAt, TaskAt, net_at, task_at, task_in}
use Rattle.yw_state.specs.Words.{is_first_due}
use Rattle.yw_state.specs.declared.part.Checks.{Checks}
use Rattle.yw_state.specs.declared.tree.Conclusion.{Conclusion}
use Rattle.yw_state.specs.declared.tree.Conclusion.TheVariants.{Exlet, Worklet}
use Rattle.yw_state.specs.declared.tree.Primitive.{Primitive}
use Rattle.yw_state.specs.declared.tree.Primitive.TheVariants as primitives
use Rattle.yw_state.specs.declared.tree.TreeKind.{TreeKind}
use Rattle.yw_state.specs.declared.tree.TreeKind.TheVariants as kinds
use Rattle.yw_within.proofs.Finding.{named_of, net_within}
use Rattle.yw_within.specs.Within.{HoldsWithin, is_named_place}

-- ---- which check is the first that is due

abbrev check_of : Bool → Bool → TreeKind
check_of true select = kinds.Pre
check_of false true = kinds.Select
check_of false false = kinds.Post

abbrev pub first_due : Checks → TreeKind
first_due c = check_of c.pre c.select

pub first_due_is : (c : Checks) (check : TreeKind) → is_first_due c check ≡ true → first_due c ≡ check
first_due_is c kinds.Pre due = ap (λ b. check_of b c.select) due
first_due_is c kinds.Select due =
    let parts = and_parts c.select (not c.pre) due in
    ap (λ b. check_of b c.select) (not-true c.pre parts.1) ∙ ap (check_of false) parts.0
first_due_is c kinds.Post due =
    let parts = and_parts (c.post && not c.pre) (not c.select) due in
    let none = (and_parts c.post (not c.pre) parts.0).1 in
    ap (λ b. check_of b c.select) (not-true c.pre none) ∙ ap (check_of false) (not-true c.select parts.1)
first_due_is c kinds.External due = never due
first_due_is c kinds.Timeout due = never due
first_due_is c kinds.Abort due = never due

-- ---- the first primitive, and the worklet that is concluded

abbrev pub first_primitive : List Primitive → Primitive
first_primitive [] = primitives.Unknown []
first_primitive (p ∷ ps) = p

same_primitive_is : (p q : Primitive) → same_primitive p q ≡ true → q ≡ p
same_primitive_is primitives.SuspendItem primitives.SuspendItem e = refl
same_primitive_is primitives.ContinueItem primitives.ContinueItem e = refl
same_primitive_is primitives.RestartItem primitives.RestartItem e = refl
same_primitive_is primitives.CompleteItem primitives.CompleteItem e = refl
same_primitive_is primitives.RemoveItem primitives.RemoveItem e = refl
same_primitive_is primitives.SuspendCase primitives.SuspendCase e = refl
same_primitive_is primitives.ContinueCase primitives.ContinueCase e = refl
same_primitive_is primitives.RemoveCase primitives.RemoveCase e = refl
same_primitive_is (primitives.Compensate a) (primitives.Compensate b) e = ap primitives.Compensate (sym ((bytes_eq-Decides a b).0 e))
same_primitive_is (primitives.Unknown a) (primitives.Unknown b) e = ap primitives.Unknown (sym ((bytes_eq-Decides a b).0 e))
same_primitive_is p q e = never e

pub first_primitive_is : (p : Primitive) (ps : List Primitive) → is_first p ps ≡ true → first_primitive ps ≡ p
first_primitive_is p [] e = never e
first_primitive_is p (q ∷ ps) e = same_primitive_is p q e

abbrev pub worklet_in : Option Conclusion → List ℕ
worklet_in None = []
worklet_in (Some (Worklet name)) = name
worklet_in (Some (Exlet ps)) = []

pub worklet_in_is : (o : Option Conclusion) (name : List ℕ) → is_some_and o (is_worklet name) ≡ true → worklet_in o ≡ name
worklet_in_is None name e = never e
worklet_in_is (Some (Worklet other)) name e = (bytes_eq-Decides other name).0 e
worklet_in_is (Some (Exlet ps)) name e = never e

-- ---- places by their numbers

abbrev pub numbered : Net → ℕ → Place
numbered net c = get_or net.places c (Named [])

same_place_is : (p q : Place) → same_place p q ≡ true → q ≡ p
same_place_is (Named a) (Named b) e = ap Named (sym ((bytes_eq-Decides a b).0 e))
same_place_is (Between a b) (Between c d) e =
    let parts = and_parts (bytes_eq a c) (bytes_eq b d) e in
    let front = (bytes_eq-Decides a c).0 parts.0 in
    let back = (bytes_eq-Decides b d).0 parts.1 in
    cc
same_place_is p q e = never e

-- a place with this number is the one
pub numbered_is : (net : Net) (p : Place) (c : ℕ) → place_number net p ≡ Some c → (c < length net.places) × (numbered net c ≡ p)
numbered_is net p c e =
    let found = position-Some (same_place p) net.places c (Named []) e in
    (found.0, same_place_is p (numbered net c) found.1)

-- The number of the first place, and those of the others.
record FirstNumber (net : Net) (p : Place) (ps : List Place) (cs : List ℕ) : Type 0 where
  number : ℕ
  others : List ℕ
  here : place_number net p ≡ Some number
  more : place_numbers net ps ≡ Some others
  are : number ∷ others ≡ cs

first_number : (net : Net) (p : Place) (ps : List Place) (cs : List ℕ) → place_numbers net (p ∷ ps) ≡ Some cs → FirstNumber net p ps cs
first_number net p ps cs e =
    let (k, here, rest) = then_some (λ (c : ℕ). option_map (λ ds. c ∷ ds) (place_numbers net ps)) (place_number net p) cs e in
    let (ds, more, made) = map_some (λ (ds : List ℕ). k ∷ ds) (place_numbers net ps) cs rest in
    record { number = k; others = ds; here = here; more = more; are = made }

pub all_numbered : (net : Net) (ps : List Place) (cs : List ℕ) → place_numbers net ps ≡ Some cs → map (numbered net) cs ≡ ps
all_numbered net [] cs e = ap (map (numbered net)) (sym (some_same [] cs e))
all_numbered net (p ∷ ps) cs e =
    let f = first_number net p ps cs e in
    let one = (numbered_is net p f.number f.here).1 in
    let others = all_numbered net ps f.others f.more in
    ap (map (numbered net)) (sym f.are) ∙ ap (λ (q : Place). q ∷ map (numbered net) f.others) one ∙ ap (λ (qs : List Place). p ∷ qs) others

pub first_within : (net : Net) (ps : List Place) (c : ℕ) (cs : List ℕ) → place_numbers net ps ≡ Some (c ∷ cs) → c < length net.places
first_within net [] c cs e = absurd (none_first (some_same [] (c ∷ cs) e))
  where
    none_first : [] ≡ c ∷ cs → ⊥
    none_first same = cc
first_within net (p ∷ ps) c cs e =
    let f = first_number net p ps (c ∷ cs) e in
    let are = f.are in
    let same : f.number ≡ c = cc in
    subst (λ (m : ℕ). m < length net.places) same (numbered_is net p f.number f.here).0

-- ---- names

module _ (s : State) (holds : HoldsWithin s) (i : Ident) (t : List ℕ) (x : TaskAt) (is : task_at s i t ≡ Some x) where
  pub places_named : (c : ℕ) → c < length x.within.net.places → is_named_place (numbered x.within.net c) ≡ true
  places_named c lt =
      let (spec, within) = net_within s holds i x.within (named_of s i t x is).stands in
      All-get_or (λ (p : Place). is_named_place p ≡ true) x.within.net.places c (Named []) lt
      (AllPass-from_list_all is_named_place x.within.net.places within.place_names)

  pub task_is_named : is_name t ≡ true
  task_is_named =
      let (n, stands, found) = then_some (λ (m : NetAt). option_and_then (task_in m) (task_number m.net t)) (net_at s i) x is in
      let (k, number, in_net) = then_some (task_in n) (task_number n.net t) x found in
      let (task, at, made) = map_some (λ (u : Task). record { number = k; task = u; within = n }) (slice_get n.net.tasks k) x in_net in
      let (spec, within) = net_within s holds i n stands in
      let called = (position-Some (λ (u : Task). bytes_eq u.name t) n.net.tasks k task number).1 in
      let this = ap (λ (u : Task). bytes_eq u.name t) (sym (get_or_from_slice_get n.net.tasks k task task at)) ∙ called in
      ap is_name (sym ((bytes_eq-Decides task.name t).0 this)) ∙ (within.each_task k task at).name
