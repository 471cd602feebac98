-- Each tree is found by what has it and by its kind, also once a tree has begun or has one rule more.
use Rattle.std.proofs.Common.{◌≡◌, ◌+◌, ◌<◌, ℕ, List, [], ◌∷◌, ◌++◌, length, map, Bool, true, false, cond, Option, None, Some, Result, Ok, Err, refl, sym, ap, subst, ◌∙◌, arith}
use Rattle.std.proofs.lemmas.List.{length-map, map-append, map-set}
use Rattle.std.proofs.lemmas.List.Elements.{All-nil, All-push, All-set}
use Rattle.std.proofs.lemmas.Option.{get_or_from_slice_get, slice_get-get_or, slice_get-map, slice_get_within}
use Rattle.std.specs.Option.{option_or}
use Rattle.std.specs.Prelude.{All, IfOk, OnErr, get_or, option_map, slice_get, slice_set}
use Rattle.std.specs.declared.alloc.AllocError.{AllocError}
use Rattle.yw_rdr.specs.Attached.{Takes}
use Rattle.yw_state.proofs.Tests.{map_some, some_same}
use Rattle.yw_state.specs.RuleTree.{TreeRule}
use Rattle.yw_state.specs.declared.tree.TreeKind.{TreeKind}
use Rattle.yw_state.specs.declared.tree.TreePlace.{TreePlace}
use Rattle.yw_trees.proofs.Numbers.{found, missing, pushed, unmoved}
use Rattle.yw_trees.proofs.Same.{slot_from}
use Rattle.yw_trees.proofs.Texts.{its_links}
use Rattle.yw_trees.specs.Grown.{Agrees, AreRight, HasRules, IsFirst, IsMore, IsMoreAt, IsMoreIn, TakesAt, TakesIn, placed}
use Rattle.yw_trees.specs.Placed.{Placed, a_tree, is_its, more, number_for, same_slot}
use Rattle.yw_trees.specs.Slots.{IsPut, IsSame, slot_at}
use Rattle.yw_trees.specs.declared.grown.Grown.{Grown}
use Rattle.yw_trees.specs.declared.owner.Owner.{Owner}
use Rattle.yw_trees.specs.declared.slots.Slots.{Slots}

pub at_number : {A : Type 0} (P : A → Type 0) (xs : List A) → All P xs → (k : ℕ) (x : A) → slice_get xs k ≡ Some x → P x
at_number P xs all k x e = subst P (get_or_from_slice_get xs k x x e) (all k x (slice_get_within xs k x e))

-- where no tree has a rule
pub none_right : (gs : List Grown) (slots : Slots) → gs ≡ [] → ((o : Owner) (k : TreeKind) → slot_at slots o k ≡ None) → AreRight gs slots
none_right gs slots none free = subst (λ xs. AreRight xs slots) (sym none) (record { slotted = free; agree = All-nil Agrees })

pub same_right : (gs : List Grown) (old new : Slots) → AreRight gs old → IsSame old new → AreRight gs new
same_right gs old new right same = record { slotted = λ o k. same o k ∙ right.slotted o k; agree = right.agree }

placed_at : (gs : List Grown) (n : ℕ) (g : Grown) → slice_get gs n ≡ Some g → slice_get (map placed gs) n ≡ Some (placed g)
placed_at gs n g at = slice_get-map placed gs n ∙ ap (option_map placed) at

-- what has this number as one of the list that is kept
pub kept_at : (gs : List Grown) (n : ℕ) (t : Placed) → slice_get (map placed gs) n ≡ Some t → (g : Grown) × (slice_get gs n ≡ Some g) × (placed g ≡ t)
kept_at gs n t at = map_some placed (slice_get gs n) t (sym (slice_get-map placed gs n) ∙ at)

-- ---- what is found

module _ (gs : List Grown) (slots : Slots) (right : AreRight gs slots) (owner : Owner) (kind : TreeKind) where
  pub found_rules : (n : ℕ) (o : Option Grown) → slot_at slots owner kind ≡ Some n → o ≡ slice_get gs n → HasRules (map placed gs) owner kind o
  found_rules n o at is =
      let (t, there, rules) = found owner kind (map placed gs) n (sym (right.slotted owner kind) ∙ at) in
      let (g, here, same) = kept_at gs n t there in
      subst (HasRules (map placed gs) owner kind) (sym (is ∙ here))
      (at_number Agrees gs right.agree n g here, rules ∙ ap (λ (x : Placed). x.rules) (sym same))

  pub no_rules : slot_at slots owner kind ≡ None → HasRules (map placed gs) owner kind None
  no_rules none = missing owner kind (map placed gs) (sym (right.slotted owner kind) ∙ none)

-- ---- a tree more

or_none : (o : Option ℕ) → o ≡ option_or o None
or_none None = refl
or_none (Some n) = refl

put_last : (b : Bool) (l : ℕ) (o : Option ℕ) → (b ≡ true → o ≡ None) → cond b (Some l) o ≡ option_or o (cond b (Some l) None)
put_last true l o none = sym (ap (λ x. option_or x (Some l)) (none refl))
put_last false l o none = or_none o

module _ (gs : List Grown) (old new : Slots) (right : AreRight gs old) (owner : Owner) (p : TreePlace) (r : TreeRule)
    (free : number_for owner p.kind (map placed gs) ≡ None) (g : Grown) (first : IsFirst owner p r g) (put : IsPut old new owner p.kind (length gs)) where
  none_here : (o : Owner) (k : TreeKind) → same_slot owner p.kind o k ≡ true → number_for o k (map placed gs) ≡ None
  none_here o k e =
      let (of, is) = slot_from owner p.kind o k e in
      ap (λ x. number_for x k (map placed gs)) (sym of) ∙ ap (λ j. number_for owner j (map placed gs)) (sym is) ∙ free

  slotted : (o : Owner) (k : TreeKind) → slot_at new o k ≡ number_for o k (map placed (gs ++ g ∷ []))
  slotted o k =
      put o k
      ∙ ap (cond (same_slot owner p.kind o k) (Some (length gs))) (right.slotted o k)
      ∙ put_last (same_slot owner p.kind o k) (length gs) (number_for o k (map placed gs)) (none_here o k)
      ∙ ap (λ (t : Placed). option_or (number_for o k (map placed gs)) (cond (is_its o k t) (Some (length gs)) None)) (sym first.is)
      ∙ ap (λ n. option_or (number_for o k (map placed gs)) (cond (is_its o k (placed g)) (Some n) None)) (sym (length-map gs placed))
      ∙ sym (pushed o k (map placed gs) (placed g))
      ∙ ap (number_for o k) (sym (map-append placed gs (g ∷ [])))

  pub right_begun : AreRight (gs ++ g ∷ []) new
  right_begun = record { slotted = slotted; agree = All-push Agrees gs g right.agree first.agrees }

  pub view_begun : map placed (gs ++ g ∷ []) ≡ map placed gs ++ a_tree owner p r ∷ []
  view_begun = map-append placed gs (g ∷ []) ∙ ap (λ t. map placed gs ++ t ∷ []) first.is

-- ---- a rule more in one

module _ (gs : List Grown) (n : ℕ) (g h : Grown) (at : slice_get gs n ≡ Some g) (r : TreeRule) (number : ℕ) (is : IsMore g h r number) where
  view_set : map placed (slice_set gs n h) ≡ slice_set (map placed gs) n (more (placed g) r)
  view_set = map-set placed gs n h ∙ ap (slice_set (map placed gs) n) is.is

  right_set : (slots : Slots) → AreRight gs slots → AreRight (slice_set gs n h) slots
  right_set slots right = record {
    slotted = λ o k. right.slotted o k ∙ sym (ap (number_for o k) view_set ∙ unmoved o k (map placed gs) n (placed g) r (placed_at gs n g at));
    agree = All-set Agrees gs n h is.agrees right.agree;
  }

there_is : {A : Type 0} (xs : List A) (n : ℕ) → n < length xs → (x : A) × (slice_get xs n ≡ Some x)
there_is [] n few = absurd (omega (arith, few))
there_is (y ∷ ys) n few = (get_or (y ∷ ys) n y, slice_get-get_or (y ∷ ys) n y few)

-- whether memory was left for it or not
pub still_right : (gs new : List Grown) (slots : Slots) → AreRight gs slots → (n : ℕ) → n < length gs
    → (r : TreeRule) (answer : Result ℕ AllocError) → IfOk answer (IsMoreIn gs new n r) → OnErr answer (new ≡ gs)
    → AreRight new slots
still_right gs new slots right n few r (Ok number) added same =
    let (g, at) = there_is gs n few in
    let (h, set, is) = added g at in
    subst (λ xs. AreRight xs slots) (sym set) (right_set gs n g h at r number is slots right)
still_right gs new slots right n few r (Err e) added same = subst (λ xs. AreRight xs slots) (sym same) right

more_at : (gs new : List Grown) (n : ℕ) (r : TreeRule) (number : ℕ) → IsMoreIn gs new n r number
    → IsMoreAt (map placed gs) (map placed new) n r number
more_at gs new n r number added t at =
    let (g, here, same) = kept_at gs n t at in
    let (h, set, is) = added g here in (
      ap (map placed) set ∙ view_set gs n g h here r number is ∙ ap (λ (x : Placed). slice_set (map placed gs) n (more x r)) same,
      is.numbered ∙ ap (λ (x : Placed). length x.rules + 1) same,
    )

-- as the trees that are seen have it
pub more_known : (gs xs new ys : List Grown) (trees : List Placed) → xs ≡ gs → ys ≡ new → map placed gs ≡ trees → (n : ℕ) (r : TreeRule) (number : ℕ)
    → IsMoreIn xs new n r number → IsMoreAt trees (map placed ys) n r number
more_known gs xs new ys trees was is view n r number added =
    subst (λ ts. IsMoreAt ts (map placed ys) n r number) view
    (subst (λ zs. IsMoreAt (map placed gs) (map placed zs) n r number) (sym is)
    (more_at gs new n r number (subst (λ zs. IsMoreIn zs new n r number) was added)))

pub takes_in : (gs : List Grown) (slots : Slots) → AreRight gs slots → (trees : List Placed) → map placed gs ≡ trees → (xs : List Grown) → xs ≡ gs
    → (n at : ℕ) (side : Bool) → TakesAt trees n at side
    → TakesIn xs n at side
takes_in gs slots right trees view xs was n at side takes g here =
    let there = ap (λ zs. slice_get zs n) (sym was) ∙ here in
    let agrees = at_number Agrees gs right.agree n g there in
    subst (λ ks. Takes ks at side) (its_links g agrees) (takes (placed g) (ap (λ ts. slice_get ts n) (sym view) ∙ placed_at gs n g there))

-- written at its place
pub more_in : (gs : List Grown) (n : ℕ) (g : Grown) → slice_get gs n ≡ Some g → (h : Grown) (r : TreeRule) (number : ℕ) → IsMore g h r number
    → IsMoreIn gs (slice_set gs n h) n r number
more_in gs n g at h r number is x there =
    let same : g ≡ x = some_same g x (sym at ∙ there) in
    (h, refl, subst (λ y. IsMore y h r number) same is)
