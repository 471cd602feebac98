-- The places of a net: each is known by its text, each flow has one, and so has what a task removes.
use Rattle.std.proofs.Common.{◌≡◌, ℕ, ◌&&◌, ◌||◌, Bool, true, false, List, [], ◌∷◌, ◌++◌, map, All, Contains, cond, refl, sym, ap, ◌∙◌, subst, inl, inr, arith, true≢false, length-append, append_assoc}
use Rattle.std.specs.Prelude.{filter, codes}
use Rattle.std.specs.List.{list_all}
use Rattle.std.proofs.lemmas.Bool.{cases_Bool, and_from, and_parts, and_right, or_right}
use Rattle.std.proofs.lemmas.List.{get_or_append_left}
use Rattle.std.proofs.lemmas.List.Elements.{All-append, All-map, All-filter, All-contains, All-weaker, filter_passes, Contains-append_left, Contains-append_right}
use Rattle.yw_base.specs.Spelling.{is_word_byte}
use Rattle.yw_spec.specs.Net.{arrow_text, place_text}
use Rattle.yw_spec.specs.declared.spec.Place.{Place}
use Rattle.yw_spec.specs.declared.spec.Place.TheVariants as places
use Rattle.yw_read.specs.declared.raw.RawFlow.{RawFlow}
use Rattle.yw_read.specs.declared.raw.RawNet.{RawNet}
use Rattle.yw_accept.specs.Built.{place_of, places_of}
use Rattle.yw_accept.specs.Facts.{HasUsableEnds, NetIsNamed, NetLeads}
use Rattle.yw_accept.specs.Names.{is_usable, may_lead, may_be_emptied}
use Rattle.yw_accept.specs.Nodes.{is_name_among, is_task, is_source, is_sink, is_implicit, named_places, implicit_places, arrow, task_names, nodes}
use Rattle.yw_accept.proofs.Among.{among_at, among_contains, usable_among}
use Rattle.yw_accept.proofs.FactsLemmas.{source_place}
use Rattle.yw_accept.proofs.Lists.{contains_map, contains_unmap, contains_filter}

-- ---- names have no `-`

is_word : (name : List ℕ) → is_usable name ≡ true → list_all is_word_byte name ≡ true
is_word name h = (and_parts _ _ (and_parts _ _ h).0).1

no_dash : (xs ys : List ℕ) → list_all is_word_byte (xs ++ 45 ∷ ys) ≡ true → ⊥
no_dash [] ys h = true≢false (sym h)
no_dash (x ∷ xs) ys h = no_dash xs ys (and_parts (is_word_byte x) (list_all is_word_byte (xs ++ 45 ∷ ys)) h).1

-- what stands before the first `-` and behind it
parts_same : (a b c d : List ℕ) → list_all is_word_byte a ≡ true → list_all is_word_byte c ≡ true → a ++ 45 ∷ b ≡ c ++ 45 ∷ d → (a ≡ c) × (b ≡ d)
parts_same [] b [] d wa wc e = (refl, cc)
parts_same [] b (x ∷ c) d wa wc e = let is : x ≡ 45 = cc in absurd (no_dash [] c (ap (λ y. list_all is_word_byte (y ∷ c)) (sym is) ∙ wc))
parts_same (x ∷ a) b [] d wa wc e = let is : x ≡ 45 = cc in absurd (no_dash [] a (ap (λ y. list_all is_word_byte (y ∷ a)) (sym is) ∙ wa))
parts_same (x ∷ a) b (y ∷ c) d wa wc e =
    let head : x ≡ y = cc in
    let rest : a ++ 45 ∷ b ≡ c ++ 45 ∷ d = cc in
    let both = parts_same a b c d (and_parts (is_word_byte x) (list_all is_word_byte a) wa).1 (and_parts (is_word_byte y) (list_all is_word_byte c) wc).1 rest in
    (ap (λ z. z ∷ a) head ∙ ap (λ zs. y ∷ zs) both.0, both.1)

-- what stands before `->` and behind it
pub around_arrow : (a b c d : List ℕ) → list_all is_word_byte a ≡ true → list_all is_word_byte c ≡ true → arrow_text a b ≡ arrow_text c d → (a ≡ c) × (b ≡ d)
around_arrow a b c d wa wc e =
    let same = parts_same a (62 ∷ b) c (62 ∷ d) wa wc (sym (append_assoc a (codes "->") b) ∙ e ∙ append_assoc c (codes "->") d) in
    (same.0, (let behind : 62 ∷ b ≡ 62 ∷ d = same.1 in cc))

-- ---- places by their texts

abbrev pub IsNamedPlace : Place → Type 0
IsNamedPlace (places.Named name) = is_usable name ≡ true
IsNamedPlace (places.Between from to) = (is_usable from ≡ true) × (is_usable to ≡ true)

dash_in : (name a b : List ℕ) → is_usable name ≡ true → name ≡ arrow_text a b → ⊥
dash_in name a b h e =
    no_dash a (62 ∷ b) (ap (list_all is_word_byte) (sym (append_assoc a (codes "->") b)) ∙ ap (list_all is_word_byte) (sym e) ∙ is_word name h)

pub known_by_text : (p q : Place) → IsNamedPlace p → IsNamedPlace q → place_text p ≡ place_text q → p ≡ q
known_by_text (places.Named a) (places.Named b) hp hq e = ap places.Named e
known_by_text (places.Named a) (places.Between b c) hp hq e = absurd (dash_in a b c hp e)
known_by_text (places.Between a b) (places.Named c) hp hq e = absurd (dash_in c a b hq (sym e))
known_by_text (places.Between a b) (places.Between c d) hp hq e =
    let same = around_arrow a b c d (is_word a hp.0) (is_word c hq.0) e in ap (λ x. places.Between x b) same.0 ∙ ap (λ x. places.Between c x) same.1

-- ---- the place of a flow, by which of its ends are tasks

abbrev by_ends : RawFlow → Bool → Bool → Place
by_ends flow from to = cond (from && to) (places.Between flow.from flow.to) (cond from (places.Named flow.to) (places.Named flow.from))

place_by_ends : (net : RawNet) (flow : RawFlow) (from to : Bool) → is_task net flow.from ≡ from → is_task net flow.to ≡ to → place_of net flow ≡ by_ends flow from to
place_by_ends net flow from to e f = ap (λ b. by_ends flow b (is_task net flow.to)) e ∙ ap (by_ends flow from) f

module _ (net : RawNet) (flow : RawFlow) where
  pub place_from : is_task net flow.from ≡ false → place_of net flow ≡ places.Named flow.from
  place_from h = place_by_ends net flow false (is_task net flow.to) h refl

  pub place_to : is_task net flow.from ≡ true → is_task net flow.to ≡ false → place_of net flow ≡ places.Named flow.to
  place_to h g = place_by_ends net flow true false h g

  pub place_both : is_task net flow.from ≡ true → is_task net flow.to ≡ true → place_of net flow ≡ places.Between flow.from flow.to
  place_both h g = place_by_ends net flow true true h g

-- ---- what stands among the places, and their texts

left_of : (x y : Bool) → (x || y) ≡ true → y ≡ false → x ≡ true
left_of true y h e = refl
left_of false y h e = absurd (true≢false (sym h ∙ e))

right_of : (x y : Bool) → (x || y) ≡ true → x ≡ false → y ≡ true
right_of true y h e = absurd (true≢false e)
right_of false y h e = h

module _ (net : RawNet) where
  named_there : (name : List ℕ) → is_name_among (named_places net) name ≡ true → Contains (places_of net) (places.Named name)
  named_there name h = Contains-append_left (map places.Named (named_places net)) (map (place_of net) (filter (is_implicit net) net.flows)) _ (contains_map places.Named (named_places net) name (among_contains (named_places net) name h))

  implicit_there : (flow : RawFlow) → Contains (filter (is_implicit net) net.flows) flow → Contains (places_of net) (place_of net flow)
  implicit_there flow h = Contains-append_right (map places.Named (named_places net)) (map (place_of net) (filter (is_implicit net) net.flows)) _ (contains_map (place_of net) (filter (is_implicit net) net.flows) flow h)

  pub text_there : (p : Place) (text : List ℕ) → Contains (places_of net) p → place_text p ≡ text → is_name_among (map place_text (places_of net)) text ≡ true
  text_there p text there e =
      let P : List ℕ → Type 0 = λ t. is_name_among (map place_text (places_of net)) t ≡ true in
      subst P e (among_at (map place_text (places_of net)) _ (contains_map place_text (places_of net) p there))

  arrow_there : (text : List ℕ) → is_name_among (implicit_places net) text ≡ true → is_name_among (map place_text (places_of net)) text ≡ true
  arrow_there text h =
      let (flow, there, e) = contains_unmap arrow (filter (is_implicit net) net.flows) text (among_contains (implicit_places net) text h) in
      let both = and_parts _ _ (All-contains (λ f. is_implicit net f ≡ true) (filter (is_implicit net) net.flows) flow (filter_passes (is_implicit net) net.flows) there) in
      text_there (place_of net flow) text (implicit_there flow there) (ap place_text (place_both net flow both.0 both.1) ∙ e)

  condition_there : (text : List ℕ) → is_name_among net.conditions text ≡ true → is_name_among (map place_text (places_of net)) text ≡ true
  condition_there text h = text_there (places.Named text) text (named_there text (or_right _ _ (or_right _ _ h))) refl

  -- what may be emptied and is no task is a place
  pub emptied_there : (text : List ℕ) → may_be_emptied net text ≡ true → is_task net text ≡ false → is_name_among (map place_text (places_of net)) text ≡ true
  emptied_there text h no_task = elim (cases_Bool (is_name_among net.conditions text)) [
    | inl t ↦ condition_there text t
    | inr f ↦ arrow_there text (right_of _ _ (left_of _ _ h no_task) f)
  ]

  module _ (flow : RawFlow) (may : may_lead net flow ≡ true) (there : Contains net.flows flow) where
    from_source : is_task net flow.from ≡ false → is_source net flow.from ≡ true
    from_source h = (and_parts _ _ (left_of _ _ may (ap (λ b. b && (is_sink net flow.to || is_task net flow.to)) h))).0

    to_sink : is_task net flow.to ≡ false → is_sink net flow.to ≡ true
    to_sink h = left_of _ _ (and_parts _ _ (right_of _ _ may (and_right (is_source net flow.from) _ h))).1 h

    -- a flow has its place
    pub place_there : Contains (places_of net) (place_of net flow)
    place_there =
        let P : Place → Type 0 = λ p. Contains (places_of net) p in
        elim (cases_Bool (is_task net flow.from)) [
          | inl t ↦ elim (cases_Bool (is_task net flow.to)) [
            | inl u ↦ implicit_there flow (contains_filter (is_implicit net) net.flows flow there (and_from _ _ t u))
            | inr g ↦ subst P (sym (place_to net flow t g)) (named_there flow.to (or_right _ _ (to_sink g)))
          ]
          | inr f ↦ subst P (sym (place_from net flow f)) (named_there flow.from (source_place net flow.from (from_source f)))
        ]

-- ---- the places of a net of which the first two checks find nothing have names

pub ends_named : (net : RawNet) (flow : RawFlow) → HasUsableEnds flow → IsNamedPlace (place_of net flow)
ends_named net flow h = elim (cases_Bool (is_task net flow.from)) [
  | inl t ↦ elim (cases_Bool (is_task net flow.to)) [
    | inl u ↦ subst IsNamedPlace (sym (place_both net flow t u)) h
    | inr g ↦ subst IsNamedPlace (sym (place_to net flow t g)) h.1
  ]
  | inr g ↦ subst IsNamedPlace (sym (place_from net flow g)) h.0
]

module _ (net : RawNet) (named : NetIsNamed net) where
  pub places_usable : All (λ n. is_usable n ≡ true) (named_places net)
  places_usable i d lt = ap is_usable (sym (get_or_append_left (named_places net) (task_names net.task) d i lt)) ∙ named.nodes_are.usable i d (omega (arith, lt, length-append (named_places net) (task_names net.task)))

  module _ (leads : NetLeads net) where
    pub ends_usable : All HasUsableEnds net.flows
    ends_usable i d lt = (usable_among (nodes net) _ named.nodes_are.usable (leads.from i d lt), usable_among (nodes net) _ named.nodes_are.usable (leads.to i d lt))

    pub all_named : All IsNamedPlace (places_of net)
    all_named =
        All-append IsNamedPlace (map places.Named (named_places net)) (map (place_of net) (filter (is_implicit net) net.flows))
        (All-map IsNamedPlace places.Named (named_places net) places_usable)
        (All-map IsNamedPlace (place_of net) (filter (is_implicit net) net.flows)
        (All-weaker HasUsableEnds (λ f. IsNamedPlace (place_of net f)) (ends_named net) (filter (is_implicit net) net.flows) (All-filter (is_implicit net) HasUsableEnds net.flows ends_usable)))
