-- Names in order are the keys of a map, and what stands under each is its entries.
use Rattle.std.proofs.Common.{◌≡◌, ◌∙◌, ◌<◌, ◌+◌, ◌++◌, ◌∷◌, [], ℕ, List, Option, Some, map, ap, get_or, inl, inr, length, refl, subst, sym, take}
use Rattle.std.proofs.lemmas.List.{map-append, take_more}
use Rattle.std.specs.BTreeMap.{insert_entry}
use Rattle.std.specs.Borrow.{Bor}
use Rattle.std.specs.FinMap.Entries.{find}
use Rattle.std.specs.List.{AllByRecursion}
use Rattle.std.specs.List.Sorted.{IsStrictlySortedBy}
use Rattle.std.specs.Ordering.{is_lt}
use Rattle.std.specs.Prelude.{flat_map, true}
use Rattle.std.specs.declared.cmp.Ordering.TheVariants.{Less}
use Rattle.yw_library.specs.Holdings.{Holdings, person_name, roles_under, spec_name, spec_under, state_of, with_library}
use Rattle.yw_library.specs.declared.items.Person.{Person}
use Rattle.yw_restore.specs.Names.{AreNames, NameUnder, names_in, person_rows_at, row_if_person, text_if_loaded, texts_at}
use Rattle.yw_shown.proofs.Elements.{from_map, in_left, in_map, in_one, in_right}
use Rattle.yw_shown.proofs.Inserted.{by_bytes, from_insert, new_value, old_values}
use Rattle.yw_shown.proofs.Keys.{firsts, found_listed, found_some, keys_rise}
use Rattle.yw_shown.proofs.Rising.{Rises, same_list}
use Rattle.yw_sites.specs.Idents.{Each}
use Rattle.yw_state.proofs.Entries.{IsIn, entry-found, find-entry}
use Rattle.yw_state.proofs.MapEntries.{get-of_entries}
use Rattle.yw_state.proofs.MapLemmas.{by_name}
use Rattle.yw_state.specs.Map.{Map, entries, get, keys, lexical, of_entries}
use Rattle.yw_state.specs.State.{State}
use Rattle.yw_state.specs.declared.loaded.Loaded.{Loaded}
use Rattle.yw_states.specs.States.{person_row, text_row}

abbrev bytes : Bor (List ℕ) → List ℕ
bytes b = b.now

-- ---- one name more

module _ (names : List (List ℕ)) (name : List ℕ) (k v : Bor (List ℕ)) (es : List NameUnder) (key : k.now ≡ name) (value : v.now ≡ name) where
  abbrev new : List NameUnder
  new = insert_entry (by_bytes bytes) es k v

  abbrev more : List (List ℕ)
  more = names ++ (name ∷ [])

  last_there : IsIn more name
  last_there = in_right names (name ∷ []) name (inl refl)

  in_names : (w : Bor (List ℕ)) → IsIn (map (λ (e : NameUnder). e.1) new) w → IsIn (names_in new) w.now
  in_names w within =
      let e = from_map (λ (f : NameUnder). f.1) new w within in
      subst (IsIn (names_in new)) (ap (λ (b : Bor (List ℕ)). b.now) e.2) (in_map (λ (f : NameUnder). f.1.now) new e.0 e.1)

  new_there : IsIn (names_in new) name
  new_there = subst (IsIn (names_in new)) value (in_names v (new_value bytes es k v))

  pub name_more : AreNames names es → AreNames more new
  name_more are = record {
    named = λ e within. elim (from_insert bytes es k v e within) [
      | inl put ↦ put.1 ∙ key ∙ sym value ∙ ap (λ (b : Bor (List ℕ)). b.now) (sym put.0)
      | inr old ↦ are.named e old
    ];
    each = λ e within. elim (from_insert bytes es k v e within) [
      | inl put ↦ subst (IsIn more) (sym value ∙ ap (λ (b : Bor (List ℕ)). b.now) (sym put.0)) last_there
      | inr old ↦ in_left names (name ∷ []) e.1.now (are.each e old)
    ];
    there = λ other within. elim (in_one names (name ∷ []) other within) [
      | inl old ↦
          let e = from_map (λ (f : NameUnder). f.1.now) es other (are.there other old) in
          elim (old_values bytes es k v e.0 e.1) [
            | inl stays ↦ subst (IsIn (names_in new)) e.2 (in_names e.0.1 stays)
            | inr tie ↦ subst (IsIn (names_in new)) (sym key ∙ tie ∙ are.named e.0 e.1 ∙ e.2) new_there
          ]
      | inr last ↦ elim last [ inl same ↦ subst (IsIn (names_in new)) same new_there | inr none ↦ absurd none ]
    ];
  }

-- the next name
pub names_put : {A : Type 0} (named : A → List ℕ) (things : List A) (i : ℕ) (x : A) (k v : Bor (List ℕ)) (es fs : List NameUnder)
    → i < length things → x ≡ get_or things i x → k.now ≡ named x → v.now ≡ named x → AreNames (map named (take i things)) es
    → fs ≡ insert_entry (by_bytes bytes) es k v → AreNames (map named (take (i + 1) things)) fs
names_put named things i x k v es fs within at key value are put =
    let grown : map named (take (i + 1) things) ≡ map named (take i things) ++ (named x ∷ []) =
    ap (map named) (take_more things i x within ∙ ap (λ z. take i things ++ (z ∷ [])) (sym at)) ∙ map-append named (take i things) (x ∷ []) in
    subst (λ gs. AreNames (map named (take (i + 1) things)) gs) (sym put)
    (subst (λ ns. AreNames ns (insert_entry (by_bytes bytes) es k v)) (sym grown)
    (name_more (map named (take i things)) (named x) k v es key value are))

pub no_names : AreNames [] []
no_names = record { named = λ e within. absurd within; each = λ e within. absurd within; there = λ name within. absurd within }

-- ---- they rise

above : (e : NameUnder) (es : List NameUnder) → ((f : NameUnder) → IsIn (e ∷ es) f → f.0.now ≡ f.1.now)
    → AllByRecursion (λ b. by_bytes bytes e.0 b ≡ Less) (map (λ (f : NameUnder). f.0) es) → Each (λ n. is_lt (lexical e.1.now n) ≡ true) (names_in es)
above e [] named up = tt
above e (f ∷ es) named up = (
  ap is_lt (ap (λ z. lexical z f.1.now) (sym (named e (inl refl))) ∙ ap (lexical e.0.now) (sym (named f (inr (inl refl)))) ∙ up.0),
  above e es (λ g within. elim within [ inl same ↦ named g (inl same) | inr rest ↦ named g (inr (inr rest)) ]) up.1,
)

names_rise : (es : List NameUnder) → ((f : NameUnder) → IsIn es f → f.0.now ≡ f.1.now)
    → IsStrictlySortedBy (by_bytes bytes) (map (λ (f : NameUnder). f.0) es) → Rises by_name (names_in es)
unfolding IsStrictlySortedBy
names_rise [] named up = tt
names_rise (e ∷ es) named up = (above e es named up.0, names_rise es (λ g within. named g (inr within)) up.1)

-- ---- they are the keys

module _ {X : Type 0} (m : Map lexical X) (list : List (List ℕ × X)) (is : m ≡ of_entries list) where
  found : (q : List ℕ) → get m q ≡ find lexical q list
  found q = ap (λ n. get n q) is ∙ get-of_entries by_name list q

  to_keys : (q : List ℕ) → IsIn (firsts list) q → IsIn (keys m) q
  to_keys q within =
      let there = found_some list q within in
      in_map (λ (e : List ℕ × X). e.0) (entries m) (q, there.0) (entry-found by_name (entries m) q there.0 (found q ∙ there.1))

  from_keys : (q : List ℕ) → IsIn (keys m) q → IsIn (firsts list) q
  from_keys q within =
      let e = from_map (λ (f : List ℕ × X). f.0) (entries m) q within in
      let at = find-entry by_name (entries m) e.0 m.sorted e.1 in
      subst (IsIn (firsts list)) e.2 (found_listed list e.0.0 e.0.1 (sym (found e.0.0) ∙ at))

  pub names_are : (es : List NameUnder) → AreNames (firsts list) es → IsStrictlySortedBy (by_bytes bytes) (map (λ (f : NameUnder). f.0) es)
      → names_in es ≡ keys m
  names_are es are up =
      same_list by_name (names_in es) (keys m) (names_rise es are.named up) (keys_rise (entries m) m.sorted)
      (λ q within. let e = from_map (λ (f : NameUnder). f.1.now) es q within in to_keys q (subst (IsIn (firsts list)) e.2 (are.each e.0 e.1)))
      (λ q within. are.there q (from_keys q within))

-- ---- what stands under each is the entries

module _ {X Y : Type 0} (m : Map lexical X) (f : List ℕ × X → Y) (made : List ℕ → Option X → List Y)
    (is : (k : List ℕ) (x : X) → made k (Some x) ≡ f (k, x) ∷ []) where
  abbrev made_at : List (List ℕ) → List Y
  made_at names = flat_map (λ (k : List ℕ). made k (get m k)) names

  each_made : (es : List (List ℕ × X)) → ((e : List ℕ × X) → IsIn es e → get m e.0 ≡ Some e.1) → made_at (firsts es) ≡ map f es
  each_made [] all = refl
  each_made (e ∷ es) all =
      ap (λ o. made e.0 o ++ made_at (firsts es)) (all e (inl refl)) ∙ ap (λ z. z ++ made_at (firsts es)) (is e.0 e.1)
      ∙ ap (λ z. f e ∷ z) (each_made es (λ d within. all d (inr within)))

  pub all_made : made_at (keys m) ≡ map f (entries m)
  all_made = each_made (entries m) (λ e within. find-entry by_name (entries m) e m.sorted within)

-- ---- persons and texts

person_firsts : (ps : List Person) → map person_name ps ≡ firsts (map roles_under ps)
person_firsts [] = refl
person_firsts (p ∷ ps) = ap (λ z. person_name p ∷ z) (person_firsts ps)

spec_firsts : (ls : List Loaded) → map spec_name ls ≡ firsts (map spec_under ls)
spec_firsts [] = refl
spec_firsts (l ∷ ls) = ap (λ z. spec_name l ∷ z) (spec_firsts ls)

module _ (s : State) (library : Holdings) (is : s ≡ with_library s library) (es : List NameUnder)
    (up : IsStrictlySortedBy (by_bytes bytes) (map (λ (f : NameUnder). f.0) es)) where
  persons_of : s.persons ≡ of_entries (map roles_under library.persons)
  unfolding with_library
  persons_of = ap (λ (t : State). t.persons) is

  persons_same : (state_of library).persons ≡ s.persons
  unfolding with_library
  persons_same = sym (ap (λ (t : State). t.persons) is)

  pub persons_are : AreNames (map person_name library.persons) es → person_rows_at library (names_in es) ≡ map person_row (entries s.persons)
  persons_are are =
      ap (λ (m : Map lexical (List (List ℕ))). flat_map (λ (k : List ℕ). row_if_person k (get m k)) (names_in es)) persons_same
      ∙ ap (flat_map (λ (k : List ℕ). row_if_person k (get s.persons k)))
      (names_are s.persons (map roles_under library.persons) persons_of es (subst (λ ns. AreNames ns es) (person_firsts library.persons) are) up)
      ∙ all_made s.persons person_row row_if_person (λ k x. refl)

  specs_of : s.specs ≡ of_entries (map spec_under library.specs)
  unfolding with_library
  specs_of = ap (λ (t : State). t.specs) is

  specs_same : (state_of library).specs ≡ s.specs
  unfolding with_library
  specs_same = sym (ap (λ (t : State). t.specs) is)

  pub texts_are : AreNames (map spec_name library.specs) es → texts_at library (names_in es) ≡ map text_row (entries s.specs)
  texts_are are =
      ap (λ (m : Map lexical Loaded). flat_map (λ (k : List ℕ). text_if_loaded k (get m k)) (names_in es)) specs_same
      ∙ ap (flat_map (λ (k : List ℕ). text_if_loaded k (get s.specs k)))
      (names_are s.specs (map spec_under library.specs) specs_of es (subst (λ ns. AreNames ns es) (spec_firsts library.specs) are) up)
      ∙ all_made s.specs text_row text_if_loaded (λ k x. refl)
