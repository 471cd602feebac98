-- The names of specifications, in order.
use Rattle.std.proofs.Common.{◌≡◌, ◌∙◌, ◌<◌, ◌+◌, ℕ, true, List, [], ◌∷◌, ◌++◌, map, length, get_or, take, ap, inl, inr, refl, subst, sym}
use Rattle.std.proofs.lemmas.List.{map-append, take_more}
use Rattle.std.specs.Borrow.{Bor}
use Rattle.std.specs.BTreeMap.{insert_entry}
use Rattle.std.specs.List.{AllByRecursion}
use Rattle.std.specs.List.Sorted.{IsStrictlySortedBy}
use Rattle.std.specs.Ordering.{is_lt}
use Rattle.std.specs.declared.cmp.Ordering.TheVariants.{Less}
use Rattle.yw_library.specs.Holdings.{Holdings, spec_name, spec_under, with_library}
use Rattle.yw_shown.proofs.Elements.{from_map, in_left, in_map, in_one, in_right}
use Rattle.yw_shown.proofs.Inserted.{by_bytes, from_insert, new_value, old_values}
use Rattle.yw_shown.proofs.Keys.{found_listed, found_some, keys_rise}
use Rattle.yw_shown.proofs.Rising.{Rises, same_list}
use Rattle.yw_sites.specs.Idents.{Each}
use Rattle.yw_state.proofs.Entries.{IsIn, entry-found, find-entry}
use Rattle.yw_state.proofs.MapEntries.{get-of_entries}
use Rattle.yw_state.proofs.MapLemmas.{by_name}
use Rattle.yw_state.specs.Answers.{spec_names}
use Rattle.yw_state.specs.Map.{entries, get, keys, lexical, of_entries}
use Rattle.yw_state.specs.State.{State}
use Rattle.yw_state.specs.declared.loaded.Loaded.{Loaded}
use Rattle.yw_worklist.specs.Names.{AreNames, Named, names_in}

abbrev bytes : Bor (List ℕ) → List ℕ
bytes b = b.now

-- ---- one name more

module _ (specs : List Loaded) (l : Loaded) (k v : Bor (List ℕ)) (es : List Named) (key : k.now ≡ spec_name l) (value : v.now ≡ spec_name l) where
  abbrev new : List Named
  new = insert_entry (by_bytes bytes) es k v

  abbrev more : List (List ℕ)
  more = map spec_name (specs ++ (l ∷ []))

  more_is : more ≡ map spec_name specs ++ (spec_name l ∷ [])
  more_is = map-append spec_name specs (l ∷ [])

  last_there : IsIn more (spec_name l)
  last_there = subst (λ xs. IsIn xs (spec_name l)) (sym more_is) (in_right (map spec_name specs) (spec_name l ∷ []) (spec_name l) (inl refl))

  in_names : (w : Bor (List ℕ)) → IsIn (map (λ (e : Named). e.1) new) w → IsIn (names_in new) w.now
  in_names w within =
      let e = from_map (λ (f : Named). f.1) new w within in
      subst (IsIn (names_in new)) (ap (λ (b : Bor (List ℕ)). b.now) e.2) (in_map (λ (f : Named). f.1.now) new e.0 e.1)

  new_there : IsIn (names_in new) (spec_name l)
  new_there = subst (IsIn (names_in new)) value (in_names v (new_value bytes es k v))

  pub names_more : AreNames specs es → AreNames (specs ++ (l ∷ [])) new
  names_more are = record {
    named = λ e within. elim (from_insert bytes es k v e within) [
      | inl put ↦ put.1 ∙ key ∙ sym value ∙ ap (λ (b : Bor (List ℕ)). b.now) (sym put.0)
      | inr old ↦ are.named e old
    ];
    each = λ e within. elim (from_insert bytes es k v e within) [
      | inl put ↦ subst (IsIn more) (sym value ∙ ap (λ (b : Bor (List ℕ)). b.now) (sym put.0)) last_there
      | inr old ↦ subst (λ xs. IsIn xs e.1.now) (sym more_is) (in_left (map spec_name specs) (spec_name l ∷ []) e.1.now (are.each e old))
    ];
    there = λ name within. elim (in_one (map spec_name specs) (spec_name l ∷ []) name (subst (λ xs. IsIn xs name) more_is within)) [
      | inl old ↦
          let e = from_map (λ (f : Named). f.1.now) es name (are.there name old) in
          elim (old_values bytes es k v e.0 e.1) [
            | inl stays ↦ subst (IsIn (names_in new)) e.2 (in_names e.0.1 stays)
            | inr tie ↦ subst (IsIn (names_in new)) (sym key ∙ tie ∙ are.named e.0 e.1 ∙ e.2) new_there
          ]
      | inr last ↦ elim last [ inl same ↦ subst (IsIn (names_in new)) same new_there | inr none ↦ absurd none ]
    ];
  }

-- the next specification's name
pub names_put : (specs : List Loaded) (i : ℕ) (l : Loaded) (k v : Bor (List ℕ)) (es fs : List Named) → i < length specs → l ≡ get_or specs i l
    → k.now ≡ spec_name l → v.now ≡ spec_name l → AreNames (take i specs) es → fs ≡ insert_entry (by_bytes bytes) es k v → AreNames (take (i + 1) specs) fs
names_put specs i l k v es fs within at key value are put =
    subst (λ gs. AreNames (take (i + 1) specs) gs) (sym put)
    (subst (λ ls. AreNames ls (insert_entry (by_bytes bytes) es k v)) (sym (take_more specs i l within ∙ ap (λ m. take i specs ++ (m ∷ [])) (sym at)))
    (names_more (take i specs) l k v es key value are))

pub no_names : AreNames [] []
no_names = record { named = λ e within. absurd within; each = λ e within. absurd within; there = λ name within. absurd within }

-- ---- they rise, and are the keys of the map

above : (e : Named) (es : List Named) → ((f : Named) → IsIn (e ∷ es) f → f.0.now ≡ f.1.now)
    → AllByRecursion (λ b. by_bytes bytes e.0 b ≡ Less) (map (λ (f : Named). f.0) es) → Each (λ n. is_lt (lexical e.1.now n) ≡ true) (names_in es)
above e [] named up = tt
above e (f ∷ es) named up = (
  ap is_lt (ap (λ z. lexical z f.1.now) (sym (named e (inl refl))) ∙ ap (lexical e.0.now) (sym (named f (inr (inl refl)))) ∙ up.0),
  above e es (λ g within. elim within [ inl same ↦ named g (inl same) | inr rest ↦ named g (inr (inr rest)) ]) up.1,
)

names_rise : (es : List Named) → ((f : Named) → IsIn es f → f.0.now ≡ f.1.now) → IsStrictlySortedBy (by_bytes bytes) (map (λ (f : Named). f.0) es) → Rises by_name (names_in es)
unfolding IsStrictlySortedBy
names_rise [] named up = tt
names_rise (e ∷ es) named up = (above e es named up.0, names_rise es (λ g within. named g (inr within)) up.1)

firsts_are : (specs : List Loaded) → map (λ (e : List ℕ × Loaded). e.0) (map spec_under specs) ≡ map spec_name specs
firsts_are [] = refl
firsts_are (l ∷ specs) = ap (λ z. spec_name l ∷ z) (firsts_are specs)

module _ (s : State) (library : Holdings) (is : s ≡ with_library s library) where
  specs_are : s.specs ≡ of_entries (map spec_under library.specs)
  unfolding with_library
  specs_are = ap (λ (t : State). t.specs) is

  found : (q : List ℕ) → get s.specs q ≡ get (of_entries {R = lexical} (map spec_under library.specs)) q
  found q = ap (λ m. get m q) specs_are

  to_keys : (q : List ℕ) → IsIn (map spec_name library.specs) q → IsIn (keys s.specs) q
  to_keys q within =
      let there = found_some (map spec_under library.specs) q (subst (λ xs. IsIn xs q) (sym (firsts_are library.specs)) within) in
      let at = entry-found by_name (entries s.specs) q there.0 (found q ∙ get-of_entries by_name (map spec_under library.specs) q ∙ there.1) in
      in_map (λ (e : List ℕ × Loaded). e.0) (entries s.specs) (q, there.0) at

  from_keys : (q : List ℕ) → IsIn (keys s.specs) q → IsIn (map spec_name library.specs) q
  from_keys q within =
      let e = from_map (λ (f : List ℕ × Loaded). f.0) (entries s.specs) q within in
      let at = find-entry by_name (entries s.specs) e.0 s.specs.sorted e.1 in
      let listed = found_listed (map spec_under library.specs) e.0.0 e.0.1 (sym (found e.0.0 ∙ get-of_entries by_name (map spec_under library.specs) e.0.0) ∙ at) in
      subst (IsIn (map spec_name library.specs)) e.2 (subst (λ xs. IsIn xs e.0.0) (firsts_are library.specs) listed)

  pub names_are : (es : List Named) → AreNames library.specs es → IsStrictlySortedBy (by_bytes bytes) (map (λ (f : Named). f.0) es) → names_in es ≡ spec_names s
  names_are es are up =
      same_list by_name (names_in es) (keys s.specs) (names_rise es are.named up) (keys_rise (entries s.specs) s.specs.sorted)
      (λ q within. let e = from_map (λ (f : Named). f.1.now) es q within in to_keys q (subst (IsIn (map spec_name library.specs)) e.2 (are.each e.0 e.1)))
      (λ q within. are.there q (from_keys q within))
