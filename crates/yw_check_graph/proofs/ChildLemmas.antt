-- The children of tasks: which nets they name, and which nets lead to which.
use Rattle.std.proofs.Common.{◌≡◌, ◌↔◌, ℕ, zero, suc, ◌+◌, ◌<◌, ◌⊎◌, inl, inr, Bool, true, false, List, [], ◌∷◌, ◌++◌, length, get_or, Option, Some, None, Contains, option_map, refl, sym, ap, ◌∙◌, subst, arith}
use Rattle.std.specs.List.{filter_map, flat_map, cons_option}
use Rattle.std.specs.Prelude.{IsSome, if◌then◌else◌, slice_get}
use Rattle.std.proofs.lemmas.Bool.{cases_Bool, false≢true}
use Rattle.std.proofs.lemmas.List.{get_or_default}
use Rattle.std.proofs.lemmas.List.Elements.{Contains-append_cases, Contains-append_left, Contains-append_right}
use Rattle.yw_read.specs.declared.raw.RawFlow.{RawFlow}
use Rattle.yw_read.specs.declared.raw.RawNet.{RawNet}
use Rattle.yw_read.specs.declared.raw.RawSpec.{RawSpec}
use Rattle.yw_read.specs.declared.raw.RawTask.{RawTask}
use Rattle.yw_reach.specs.declared.flow.Flow.{Flow}
use Rattle.yw_reach.specs.Flows.{HasFlow}
use Rattle.yw_reach.specs.Renaming.{HasPair, Renames}
use Rattle.yw_reach.specs.Walks.{PathAlong, WalkAlong}
use Rattle.yw_reach.proofs.Renaming.{pairs_rename}
use Rattle.yw_accept.specs.Facts.{AreDistinct}
use Rattle.yw_accept.specs.Graph.{Holds, LeadsBack, child}
use Rattle.yw_accept.specs.Nodes.{is_name_among, is_net, net_names}
use Rattle.yw_accept.proofs.Among.{among_at}
use Rattle.yw_accept.proofs.Lists.{contains_map}
use Rattle.yw_check_graph.specs.Graph.{AreNumbered, flow_between, name_at}
use Rattle.yw_check_graph.specs.Nets.{IsChildNumber, IsMarkedAt, TellsBack, among, child_among, link, links, links_from}
use Rattle.yw_check_graph.proofs.LinkLemmas.{count_of_nets}
use Rattle.yw_check_graph.proofs.NumberLemmas.{found_at}
use Rattle.yw_check_graph.proofs.PathLemmas.{pairing}

-- ---- the nets that tasks name

kept_if : (b : Bool) (n name : List ℕ) → (if b then Some n else None) ≡ Some name → (b ≡ true) × (n ≡ name)
kept_if true n name e = (refl, cc)
kept_if false n name e = cc

among_is : (names : List (List ℕ)) (o : Option (List ℕ)) (name : List ℕ) → among names o ≡ Some name → (o ≡ Some name) × (is_name_among names name ≡ true)
among_is names None name e = cc
among_is names (Some n) name e =
    let r = kept_if (is_name_among names n) n name e in
    let P : List ℕ → Type 0 = λ m. is_name_among names m ≡ true in
    (ap Some r.1, subst P r.1 r.0)

among_some : (names : List (List ℕ)) (o : Option (List ℕ)) (name : List ℕ) → o ≡ Some name → is_name_among names name ≡ true → among names o ≡ Some name
among_some names o name e is = ap (among names) e ∙ ap (λ b. if b then Some name else None) is

among_none : (names : List (List ℕ)) (o : Option (List ℕ)) (name : List ℕ) → o ≡ Some name → (is_name_among names name ≡ true → ⊥) → among names o ≡ None
among_none names o name e isnt = ap (among names) e ∙ elim (cases_Bool (is_name_among names name)) [
  | inl t ↦ absurd (isnt t)
  | inr f ↦ ap (λ b. if b then Some name else None) f
]

is_among_at : (names : List (List ℕ)) (k : ℕ) → k < length names → is_name_among names (name_at names k) ≡ true
is_among_at names k lt = among_at names (name_at names k) (k, lt, get_or_default names k (name_at names k) [] lt)

pub child_nowhere : (names : List (List ℕ)) (task : RawTask) → child task ≡ None → IsChildNumber names task None
child_nowhere names task e = ap (among names) e

pub child_numbered : (names : List (List ℕ)) (task : RawTask) (text : List ℕ) (r : Option ℕ) → child task ≡ Some text → ((k : ℕ) → r ≡ Some k → slice_get names k ≡ Some text) → (is_name_among names text ≡ true → IsSome r) → IsChildNumber names task r
child_numbered names task text None e found missed = among_none names (child task) text e (λ t. false≢true (missed t))
child_numbered names task text (Some k) e found missed =
    let at = found_at names k text (found k refl) in
    (at.0, among_some names (child task) (name_at names k) (e ∙ ap Some (sym at.1)) (is_among_at names k at.0))

-- ---- a net holds a task that names another exactly where a flow goes between them

has_kept : {A B : Type 0} (f : A → Option B) (xs : List A) (x : A) (y : B) → Contains xs x → f x ≡ Some y → Contains (filter_map f xs) y
has_kept f [] x y c e = absurd (omega (arith, c.1))
has_kept {A} {B} f (z ∷ xs) x y (zero, lt, is) e =
    let P : Option B → Type 0 = λ o. Contains (cons_option o (filter_map f xs)) y in
    subst P (sym (ap f is ∙ e)) (0, omega arith, refl)
has_kept {A} {B} f (z ∷ xs) x y (suc k, lt, is) e =
    let later : Contains (filter_map f xs) y = has_kept f xs x y (k, omega (arith, lt), is) e in
    let P : Option B → Type 0 = λ o. Contains (cons_option o (filter_map f xs)) y in
    elim (f z) as P [ None ↦ later | Some w ↦ (suc later.0, omega (arith, later.1), later.2) ]

kept_is : {A B : Type 0} (f : A → Option B) (x : A) (xs : List A) (y : B) (o : Option B) → f x ≡ o → Contains (cons_option o (filter_map f xs)) y → (f x ≡ Some y) ⊎ Contains (filter_map f xs) y
kept_is f x xs y None e c = inr c
kept_is f x xs y (Some w) e (zero, lt, is) = inl (e ∙ ap Some is)
kept_is f x xs y (Some w) e (suc k, lt, is) = inr (k, omega (arith, lt), is)

kept_from : {A B : Type 0} (f : A → Option B) (xs : List A) (y : B) → Contains (filter_map f xs) y → (x : A) × Contains xs x × (f x ≡ Some y)
kept_from f [] y c = absurd (omega (arith, c.1))
kept_from f (x ∷ xs) y c = elim (kept_is f x xs y (f x) refl c) [
  | inl e ↦ (x, (0, omega arith, refl), e)
  | inr later ↦ (let r = kept_from f xs y later in (r.0, (suc r.1.0, omega (arith, r.1.1), r.1.2), r.2))
]

has_joined : {A B : Type 0} (f : A → List B) (xs : List A) (x : A) (y : B) → Contains xs x → Contains (f x) y → Contains (flat_map f xs) y
has_joined f [] x y c h = absurd (omega (arith, c.1))
has_joined {A} {B} f (z ∷ xs) x y (zero, lt, is) h =
    let P : A → Type 0 = λ w. Contains (f w) y in
    Contains-append_left (f z) (flat_map f xs) y (subst P (sym is) h)
has_joined f (z ∷ xs) x y (suc k, lt, is) h = Contains-append_right (f z) (flat_map f xs) y (has_joined f xs x y (k, omega (arith, lt), is) h)

joined_from : {A B : Type 0} (f : A → List B) (xs : List A) (y : B) → Contains (flat_map f xs) y → (x : A) × Contains xs x × Contains (f x) y
joined_from f [] y c = absurd (omega (arith, c.1))
joined_from f (x ∷ xs) y c = elim (Contains-append_cases (f x) (flat_map f xs) y c) [
  | inl here ↦ (x, (0, omega arith, refl), here)
  | inr later ↦ (let r = joined_from f xs y later in (r.0, (suc r.1.0, omega (arith, r.1.1), r.1.2), r.2))
]

linked : (outer : List ℕ) (o : Option (List ℕ)) (x y : List ℕ) → option_map (flow_between outer) o ≡ Some (flow_between x y) → (outer ≡ x) × (o ≡ Some y)
linked outer None x y e = cc
linked outer (Some z) x y e =
    let same : flow_between outer z ≡ flow_between x y = cc in
    let parts = pairing outer z x y same in
    (parts.0, ap Some parts.1)

module _ (raw : RawSpec) where
  -- a net holds a task that names a net of the specification
  abbrev pub HoldsNet : List ℕ → List ℕ → Type 0
  HoldsNet outer inner = Holds raw outer inner × (is_net raw inner ≡ true)

  abbrev HasLink : List ℕ → List ℕ → Type 0
  HasLink x y = HasPair flow_between (links (net_names raw.net) raw.net) x y

  holds_of_link : (x y : List ℕ) → HasLink x y → HoldsNet x y
  holds_of_link x y c =
      let r = joined_from (λ (net : RawNet). links_from (net_names raw.net) net.name net.task) raw.net (flow_between x y) c in
      let net : RawNet = r.0 in
      let s = kept_from (link (net_names raw.net) net.name) net.task (flow_between x y) r.2 in
      let task : RawTask = s.0 in
      let parts = linked net.name (child_among (net_names raw.net) task) x y s.2 in
      let is = among_is (net_names raw.net) (child task) y parts.1 in
      ((net, r.1, parts.0, task, s.1, is.0), is.1)

  link_of_holds : (x y : List ℕ) → HoldsNet x y → HasLink x y
  link_of_holds x y (h, is) =
      let net : RawNet = h.0 in
      let task : RawTask = h.3 in
      let P : List ℕ → Type 0 = λ outer. Contains (links (net_names raw.net) raw.net) (flow_between outer y) in
      subst P h.2 (has_joined (λ (n : RawNet). links_from (net_names raw.net) n.name n.task) raw.net net (flow_between net.name y) h.1
      (has_kept (link (net_names raw.net) net.name) net.task task (flow_between net.name y) h.4 (ap (option_map (flow_between net.name)) (among_some (net_names raw.net) (child task) y h.5 is))))

  pub nets_rename : (flows : List Flow) → AreDistinct (net_names raw.net) → AreNumbered (net_names raw.net) (links (net_names raw.net) raw.net) flows → Renames (length (net_names raw.net)) (name_at (net_names raw.net)) (HasFlow flows) HoldsNet
  nets_rename flows distinct numbered =
      let r : Renames (length (net_names raw.net)) (name_at (net_names raw.net)) (HasFlow flows) HasLink =
      pairs_rename (length (net_names raw.net)) (name_at (net_names raw.net)) flow_between (links (net_names raw.net) raw.net) flows distinct pairing numbered.within numbered.same in
      record {
        distinct = r.distinct;
        named = λ i j f. holds_of_link (name_at (net_names raw.net) i) (name_at (net_names raw.net) j) (r.named i j f);
        numbered = λ x y h. r.numbered x y (link_of_holds x y h);
      }

  -- ---- a walk to a net goes through nets alone

  pub is_net_of : (net : RawNet) → Contains raw.net net → is_net raw net.name ≡ true
  is_net_of net c = among_at (net_names raw.net) net.name (contains_map (λ (n : RawNet). n.name) raw.net net c)

  pub is_net_at : (k : ℕ) → k < length (net_names raw.net) → is_net raw (name_at (net_names raw.net) k) ≡ true
  is_net_at k lt = is_among_at (net_names raw.net) k lt

  is_outer : (x y : List ℕ) → Holds raw x y → is_net raw x ≡ true
  is_outer x y h =
      let P : List ℕ → Type 0 = λ n. is_net raw n ≡ true in
      subst P h.2 (is_net_of h.0 h.1)

  pub nets_walk : (a b : List ℕ) (n : ℕ) → is_net raw b ≡ true → WalkAlong (Holds raw) a b n → (is_net raw a ≡ true) × WalkAlong HoldsNet a b n
  nets_walk a b zero is w = (let P : List ℕ → Type 0 = λ m. is_net raw m ≡ true in subst P (sym w) is, w)
  nets_walk a b (suc n) is w =
      let r = nets_walk a w.0 n (is_outer w.0 b w.2) w.1 in
      (r.0, (w.0, r.1, (w.2, is)))

  -- ---- that a task leads back is told by the mark of the net that it names

  module _ (net : RawNet) (task : RawTask) (there : Contains raw.net net) (in_net : Contains net.task task) where
    pub told : (back : Option (List Bool)) (number : Option ℕ) → TellsBack raw net back → IsChildNumber (net_names raw.net) task number → IsMarkedAt back number ↔ LeadsBack raw net task
    told None number tells c = ((λ x. absurd x), (λ b. tells task in_net b))
    told (Some marks) None tells c = (
      (λ x. absurd x),
      (λ b.
          let w = nets_walk b.0 net.name b.2.0 (is_net_of net there) b.2.1 in
          let e : None ≡ Some b.0 = sym c ∙ among_some (net_names raw.net) (child task) b.0 b.1 w.0 in
          cc),
    )
    told (Some marks) (Some k) tells c =
        let lt : k < length raw.net = omega (arith, c.0, count_of_nets raw.net) in
        let is = among_is (net_names raw.net) (child task) (name_at (net_names raw.net) k) c.1 in (
          (λ m. (name_at (net_names raw.net) k, is.0, (tells.1 k lt).0 m)),
          (λ b.
              let e : Some b.0 ≡ Some (name_at (net_names raw.net) k) = sym b.1 ∙ is.0 in
              let same : b.0 ≡ name_at (net_names raw.net) k = cc in
              let P : List ℕ → Type 0 = λ inner. PathAlong (Holds raw) inner net.name in
              (tells.1 k lt).1 (subst P same b.2)),
        )
