-- What has a place under an identity stands together in order.
use Rattle.std.proofs.Common.{ap, inl, inr, refl, subst, sym, ◌∙◌}
use Rattle.std.proofs.lemmas.Bool.{and_from, and_parts, eq-eqb, eqb-true}
use Rattle.std.proofs.lemmas.Cmp.{tied_itself}
use Rattle.std.specs.BTreeMap as tree
use Rattle.std.specs.BTreeMap.{is_at}
use Rattle.std.specs.BTreeMap.Range.{entries_between, range_contains}
use Rattle.std.specs.BTreeSet.{contains}
use Rattle.std.specs.List.{AllByRecursion}
use Rattle.std.specs.List.Sorted.{IsStrictlySortedBy}
use Rattle.std.specs.Map.{keys_of, lookup}
use Rattle.std.specs.Ordering.{is_eq, is_le, is_lt, nat_cmp, ordering_reverse, ordering_then}
use Rattle.std.specs.Prelude.{◌≡◌, ◌⊎◌, ◌==◌, ◌&&◌, [], ◌∷◌, ℕ, Bool, cond, false, filter, if◌then◌else◌, is_some, List, Some, true}
use Rattle.std.specs.declared.cmp.Ordering.{Ordering}
use Rattle.std.specs.declared.cmp.Ordering.TheVariants.{Equal, Greater, Less}
use Rattle.std.specs.declared.ops.Bound.TheVariants.{Included, Unbounded}
use Rattle.yw_base.specs.Identity.{is_identity, under}
use Rattle.yw_shown.proofs.Elements.{from_filter, from_map, in_filter, in_map}
use Rattle.yw_shown.proofs.Rising.{Rises}
use Rattle.yw_sites.specs.Idents.{Each}
use Rattle.yw_state.proofs.Entries.{IsIn}
use Rattle.yw_state.proofs.MapLemmas.{by_name, by_number, tied}
use Rattle.yw_state.proofs.Tests.{by_test, never}
use Rattle.yw_state.specs.Identity.{Ident, same}
use Rattle.yw_state.specs.Map.{lexical}
use Rattle.yw_tree.specs.declared.Forest.{Forest}
use Rattle.yw_work.specs.declared.open.Open.{Open}
use Rattle.yw_worklist.proofs.Warming.{Ids}
use Rattle.yw_worklist.specs.Lists.{Places, has_place}
use Rattle.yw_worklist.specs.Touched.{Adds, is_gone}
use Rattle.std.proofs.lemmas.Slice.Eq.{bytes_eq-Decides}

-- ---- identities are put in one after another

-- What was there is there still, and so is each identity that passes, but for what is left.
pub record Takes (old now : Ids) (all : Ident → Bool) (left : List Ident) : Type 0 where
  pub was : (j : Ident) → contains lexical old j ≡ true → contains lexical now j ≡ true
  pub each : (j : Ident) → is_identity j ≡ true → all j ≡ true → (contains lexical now j ≡ true) ⊎ IsIn left j

module _ (all : Ident → Bool) where
  pub takes_none : (old : Ids) (left : List Ident) → ((j : Ident) → all j ≡ true → IsIn left j) → Takes old old all left
  takes_none old left among = record { was = λ j e. e; each = λ j identity e. inr (among j e) }

  pub takes_more : (old mid new : Ids) (k : Ident) (left rest : List Ident) → left ≡ k ∷ rest → Takes old mid all left
      → ((j : Ident) → contains lexical mid j ≡ true → contains lexical new j ≡ true)
      → ((j : Ident) → is_identity j ≡ true → all j ≡ true → same j k ≡ true → contains lexical new j ≡ true) → Takes old new all rest
  takes_more old mid new k left rest turn so_far stays puts = record {
    was = λ j e. stays j (so_far.was j e);
    each = λ j identity e. elim (so_far.each j identity e) [
      | inl there ↦ inl (stays j there)
      | inr later ↦ elim (subst (λ ks. IsIn ks j) turn later) [
        | inl first ↦ inl (puts j identity e ((bytes_eq-Decides j k).1 (sym first)))
        | inr behind ↦ inr behind
      ]
    ];
  }

  pub takes_stop : (old now : Ids) (left : List Ident) → ((j : Ident) → IsIn left j → all j ≡ true → ⊥) → Takes old now all left → Adds old now all
  takes_stop old now left none so_far = record {
    was = so_far.was;
    passing = λ j identity e. elim (so_far.each j identity e) [ inl there ↦ there | inr later ↦ absurd (none j later e) ];
  }

  pub takes_all : (old now : Ids) (left : List Ident) → left ≡ [] → Takes old now all left → Adds old now all
  takes_all old now left none so_far = takes_stop old now left (λ j within e. subst (λ ks. IsIn ks j) none within) so_far

-- ---- the order of identities, and what lies under one

compared : (x t : ℕ) → nat_cmp x t ≡ ordering_reverse (nat_cmp t x)
compared x t = by_number.total.antisymm x t

pub under_above : (j top : Ident) → under j top ≡ true → is_le (lexical top j) ≡ true
under_above [] [] e = refl
under_above (y ∷ j) [] e = refl
under_above [] (t ∷ top) e = never e
under_above (y ∷ j) (t ∷ top) e =
    let parts = and_parts (t == y) (under j top) e in
    ap (λ o. is_le (ordering_then o (lexical top j))) (ap (nat_cmp t) (sym (eqb-true t y parts.0)) ∙ tied_itself by_number.total t)
    ∙ under_above j top parts.1

-- what comes behind one that is above the identity and not under it isn't under it either
pub beyond : (top a j : Ident) → is_le (lexical top a) ≡ true → under a top ≡ false → is_lt (lexical a j) ≡ true → under j top ≡ true → ⊥
beyond [] [] j le off lt e = never (sym off)
beyond [] (x ∷ a) j le off lt e = never (sym off)
beyond (t ∷ top) [] j le off lt e = never le
beyond (t ∷ top) (x ∷ a) [] le off lt e = never e
beyond (t ∷ top) (x ∷ a) (y ∷ j) le off lt e =
    let parts = and_parts (t == y) (under j top) e in
    let at : t ≡ y = eqb-true t y parts.0 in
    let ahead : is_lt (ordering_then (nat_cmp x t) (lexical a j)) ≡ true = ap (λ z. is_lt (ordering_then (nat_cmp x z) (lexical a j))) at ∙ lt in
    by_order (nat_cmp t x) refl ahead (λ first off_rest behind. beyond top a j first off_rest behind parts.1)
  where
    by_order : (o : Ordering) → nat_cmp t x ≡ o → is_lt (ordering_then (nat_cmp x t) (lexical a j)) ≡ true
        → (is_le (lexical top a) ≡ true → under a top ≡ false → is_lt (lexical a j) ≡ true → ⊥) → ⊥
    by_order Less is ahead_of rest = never (sym (ap (λ r. is_lt (ordering_then r (lexical a j))) (compared x t ∙ ap ordering_reverse is)) ∙ ahead_of)
    by_order Equal is ahead_of rest =
        let tie : t ≡ x = by_number.same t x is in
        rest (sym (ap (λ r. is_le (ordering_then r (lexical top a))) is) ∙ le)
        (sym (ap (λ b. b && under a top) (eq-eqb t x tie)) ∙ off)
        (sym (ap (λ r. is_lt (ordering_then r (lexical a j))) (compared x t ∙ ap ordering_reverse is)) ∙ ahead_of)
    by_order Greater is ahead_of rest = never (sym (ap (λ r. is_le (ordering_then r (lexical top a))) is) ∙ le)

each_in : {A : Type 0} (Q : A → Type 0) (xs : List A) (x : A) → Each Q xs → IsIn xs x → Q x
each_in Q [] x each within = absurd within
each_in Q (y ∷ xs) x each (inl first) = subst Q first each.0
each_in Q (y ∷ xs) x each (inr rest) = each_in Q xs x each.1 rest

-- ---- the places in a range

abbrev pub Entries : Type 0
Entries = List (Ident × List Open)

placed_entry : (es : Entries) (j : Ident) → is_some (lookup (is_at (lexical j)) es) ≡ true → (e : Ident × List Open) × IsIn es e × (e.0 ≡ j)
placed_entry [] j some = never some
placed_entry (e ∷ es) j some = by_test (is_eq (lexical j e.0))
    (λ t. (e, inl refl, sym (tied by_name j e.0 t)))
    (λ f. let rest = placed_entry es j (sym (ap (λ b. is_some (cond b (Some e.1) (lookup (is_at (lexical j)) es))) f) ∙ some) in (rest.0, inr rest.1, rest.2))

pub placed_key : (p : Places) (j : Ident) → has_place p j ≡ true → IsIn (tree.keys p) j
placed_key p j some =
    let (e, within, is) = placed_entry p.entries j some in
    subst (IsIn (tree.keys p)) is (in_map (λ (f : Ident × List Open). f.0) p.entries e within)

-- They stand in order, none before the identity.
pub record Ahead (top : Ident) (left : List Ident) : Type 0 where
  pub from : (k : Ident) → IsIn left k → is_le (lexical top k) ≡ true
  pub up : Rises by_name left

module _ (top : Ident) where
  abbrev in_range : Ident × List Open → Bool
  in_range e = range_contains lexical (Included top) Unbounded e.0

  above_kept : (k : Ident) (es : Entries) → AllByRecursion (λ b. lexical k b ≡ Less) (keys_of es)
      → Each (λ y. is_lt (lexical k y) ≡ true) (keys_of (filter in_range es))
  above_kept k [] up = tt
  above_kept k (e ∷ es) up =
      elim (in_range e) as (λ b. Each (λ y. is_lt (lexical k y) ≡ true) (keys_of (if b then e ∷ filter in_range es else filter in_range es))) [
        | true ↦ (ap is_lt up.0, above_kept k es up.1)
        | false ↦ above_kept k es up.1
      ]

  kept_rise : (es : Entries) → IsStrictlySortedBy lexical (keys_of es) → Rises by_name (keys_of (filter in_range es))
  unfolding IsStrictlySortedBy
  kept_rise [] up = tt
  kept_rise (e ∷ es) up =
      elim (in_range e) as (λ b. Rises by_name (keys_of (if b then e ∷ filter in_range es else filter in_range es))) [
        | true ↦ (above_kept e.0 es up.0, kept_rise es up.1)
        | false ↦ kept_rise es up.1
      ]

  module _ (p : Places) (f : Forest) where
    abbrev pub under_placed : Ident → Bool
    under_placed j = has_place p j && (under j top && is_gone f j)

    in_between : (j : Ident) → under_placed j ≡ true → IsIn (keys_of (filter in_range p.entries)) j
    in_between j e =
        let parts = and_parts (has_place p j) (under j top && is_gone f j) e in
        let below = (and_parts (under j top) (is_gone f j) parts.1).0 in
        let (g, within, is) = placed_entry p.entries j parts.0 in
        let here : in_range g ≡ true = and_from (is_le (lexical top g.0)) true (ap (λ i. is_le (lexical top i)) is ∙ under_above j top below) refl in
        subst (IsIn (keys_of (filter in_range p.entries))) is
        (in_map (λ (h : Ident × List Open). h.0) (filter in_range p.entries) g (in_filter in_range p.entries g within here))

    pub is_under_gone : (j : Ident) → under_placed j ≡ true → is_gone f j ≡ true
    is_under_gone j e = (and_parts (under j top) (is_gone f j) (and_parts (has_place p j) (under j top && is_gone f j) e).1).1

    pub range_begins : (old : Ids) (left : Entries) → left ≡ entries_between lexical (Included top) Unbounded p.entries
        → IsStrictlySortedBy lexical (tree.keys p)
        → Takes old old under_placed (keys_of left) × Ahead top (keys_of left)
    range_begins old left is up =
        subst (λ es. Takes old old under_placed (keys_of es) × Ahead top (keys_of es)) (sym is) (
          takes_none under_placed old (keys_of (filter in_range p.entries)) in_between,
          record {
            from = λ k within.
                let (g, there, same_key) = from_map (λ (h : Ident × List Open). h.0) (filter in_range p.entries) k within in
                let (among, here) = from_filter in_range p.entries g there in
                ap (λ i. is_le (lexical top i)) (sym same_key) ∙ (and_parts (is_le (lexical top g.0)) true here).0;
            up = kept_rise p.entries up;
          },
        )

  pub ahead_more : (k : Ident) (left rest : List Ident) → left ≡ k ∷ rest → Ahead top left → Ahead top rest
  ahead_more k left rest turn ahead =
      let a : Ahead top (k ∷ rest) = subst (Ahead top) turn ahead in
      record { from = λ i within. a.from i (inr within); up = a.up.1 }

  pub none_beyond : (p : Places) (f : Forest) (k : Ident) (left rest : List Ident) → left ≡ k ∷ rest → Ahead top left → under k top ≡ false
      → (j : Ident) → IsIn left j → under_placed p f j ≡ true → ⊥
  none_beyond p f k left rest turn ahead off j within e =
      let a : Ahead top (k ∷ rest) = subst (Ahead top) turn ahead in
      let below : under j top ≡ true =
      (and_parts (under j top) (is_gone f j) (and_parts (has_place p j) (under j top && is_gone f j) e).1).0 in
      elim (subst (λ ks. IsIn ks j) turn within) [
        | inl first ↦ never (sym off ∙ ap (λ i. under i top) first ∙ below)
        | inr behind ↦ beyond top k j (a.from k (inl refl)) off (each_in (λ y. is_lt (lexical k y) ≡ true) rest j a.up.0 behind) below
      ]
