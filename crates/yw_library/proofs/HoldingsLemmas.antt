-- What a library's lists stand for, after a change.
use Rattle.std.proofs.Common.{◌≡◌, ◌⊎◌, inl, inr, ℕ, suc, zero, List, [], ◌∷◌, ◌++◌, Bool, true, false, cond, Option, Some, None, Result, Ok, Err, nat_cmp, refl, sym, ap, subst, ◌∙◌}
use Rattle.std.specs.Prelude.{All, IfOk, OnErr, length, map, is_some, slice_get, slice_set}
use Rattle.std.specs.Cmp.Lexicographic.{slice_cmp}
use Rattle.std.specs.FinMap.{get as fin_get, insert}
use Rattle.std.specs.FinMap.Entries.{find}
use Rattle.std.specs.Str.{bytes_eq}
use Rattle.std.proofs.lemmas.List.{map-append}
use Rattle.std.proofs.lemmas.List.Elements.{All-nil, All-push}
use Rattle.std.proofs.lemmas.Option.{slice_get_within, get_or_from_slice_get}
use Rattle.std.proofs.lemmas.Slice.Eq.{bytes_eq-Decides}
use Rattle.yw_state.specs.Events.{after}
use Rattle.yw_state.specs.Map.{Map, get, has_key, lexical, of_entries}
use Rattle.yw_state.specs.State.{State}
use Rattle.yw_state.specs.declared.loaded.Loaded.{Loaded}
use Rattle.yw_state.specs.Texts.{a_spec, nothing}
use Rattle.yw_state.proofs.MapEntries.{get-of_entries, of_entries-push}
use Rattle.yw_state.proofs.MapLemmas.{by_name, get-insert, same_map}
use Rattle.yw_state.specs.declared.event.Event.TheVariants as events
use Rattle.std.specs.declared.alloc.AllocError.{AllocError}
use Rattle.yw_state.proofs.Tests.{nowhere, some_same}
use Rattle.yw_state.specs.RuleTree.{TreeRule}
use Rattle.yw_state.specs.declared.tree.TreePlace.{TreePlace}
use Rattle.yw_trees.proofs.Rules.{all_behind, still_owned}
use Rattle.yw_trees.specs.Owners.{Owns, SpecsApart}
use Rattle.yw_trees.specs.Placed.{IsAdded, Placed}
use Rattle.yw_trees.specs.declared.owner.Owner.{Owner}
use Rattle.yw_library.specs.Adding.{IsGrown}
use Rattle.yw_library.specs.Holdings.{Holdings, IsKeptRight, SaysItsText, person_name, put_person, roles_under, spec_name, spec_under, state_of, with_library, with_person, with_spec}
use Rattle.yw_library.specs.Numbers.{NumberedNames, AreFound, IsNumberOf, NoneNamed}
use Rattle.yw_library.specs.declared.items.Person.{Person}
use Rattle.yw_library.proofs.NamedLemmas.{is_same, same_from_true, get_where_found, get_where_none, key_where_none, key_where_one, found-push, found-set, found-stale}

abbrev roles_in : List Person → List ℕ → Option (List (List ℕ))
roles_in ps q = find (slice_cmp nat_cmp) q (map roles_under ps)

pub differ : (a b : List ℕ) → bytes_eq a b ≡ false → a ≡ b → ⊥
differ a b e same = let t = (bytes_eq-Decides a b).1 same in cc

-- ---- what is found

pub roles-none : (library : Holdings) (name : List ℕ) → NoneNamed person_name library.persons name → get (state_of library).persons name ≡ None
unfolding with_library
roles-none library name none = get_where_none person_name (λ (p : Person). p.roles) library.persons name none

pub roles-found : (library : Holdings) (numbers : NumberedNames) (name : List ℕ) (i : ℕ) (p : Person) → AreFound person_name library.persons numbers
    → slice_get library.persons i ≡ Some p → IsNumberOf person_name library.persons name (Some i) → get (state_of library).persons name ≡ Some p.roles
unfolding with_library
roles-found library numbers name i p found at (one, there, has) =
    let same : one ≡ p = cc in
    get_where_found person_name (λ (p : Person). p.roles) library.persons numbers name i p found at (ap person_name (sym same) ∙ has)

pub spec-missing : (library : Holdings) (name : List ℕ) → NoneNamed spec_name library.specs name → get (state_of library).specs name ≡ None
unfolding with_library
spec-missing library name none = get_where_none spec_name (λ l. l) library.specs name none

pub spec-found : (library : Holdings) (numbers : NumberedNames) (name : List ℕ) (i : ℕ) (l : Loaded) → AreFound spec_name library.specs numbers
    → slice_get library.specs i ≡ Some l → IsNumberOf spec_name library.specs name (Some i) → get (state_of library).specs name ≡ Some l
unfolding with_library
spec-found library numbers name i l found at (one, there, has) =
    let same : one ≡ l = cc in
    get_where_found spec_name (λ l. l) library.specs numbers name i l found at (ap spec_name (sym same) ∙ has)

pub spec-free : (s : State) (library : Holdings) (name : List ℕ) → NoneNamed spec_name library.specs name → has_key (with_library s library).specs name ≡ false
unfolding with_library
spec-free s library name none = key_where_none spec_name (λ l. l) library.specs name none

pub spec-known : (s : State) (library : Holdings) (name : List ℕ) (i : ℕ) → IsNumberOf spec_name library.specs name (Some i)
    → has_key (with_library s library).specs name ≡ true
unfolding with_library
spec-known s library name i one = key_where_one spec_name (λ l. l) library.specs name i one

-- ---- persons

pub put_person-push : (new : Person) (ps : List Person) → NoneNamed person_name ps new.name → put_person new ps ≡ ps ++ new ∷ []
put_person-push new [] none = refl
put_person-push new (p ∷ ps) none = by (bytes_eq p.name new.name) refl (put_person-push new ps (λ i x. none (suc i) x))
  where
    by : (b : Bool) → bytes_eq p.name new.name ≡ b → put_person new ps ≡ ps ++ new ∷ [] → put_person new (p ∷ ps) ≡ p ∷ (ps ++ new ∷ [])
    by true e rest = absurd (none 0 p refl ((bytes_eq-Decides p.name new.name).0 e))
    by false e rest = ap (λ (b : Bool). cond b (new ∷ ps) (p ∷ put_person new ps)) e ∙ ap (λ (qs : List Person). p ∷ qs) rest

-- the place into which a person of this name comes
record IsReplaced (new : Person) (ps : List Person) : Type 0 where
  pub place : ℕ
  pub one : Person
  pub stands : slice_get ps place ≡ Some one
  pub has : one.name ≡ new.name
  pub is : put_person new ps ≡ slice_set ps place new

replaced : (new : Person) (ps : List Person) → NoneNamed person_name ps new.name ⊎ IsReplaced new ps
replaced new [] = inl (λ i x e h. cc)
replaced new (p ∷ ps) = by (bytes_eq p.name new.name) refl (replaced new ps)
  where
    none : bytes_eq p.name new.name ≡ false → NoneNamed person_name ps new.name → NoneNamed person_name (p ∷ ps) new.name
    none e rest zero x is h = let same : p ≡ x = cc in differ p.name new.name e (ap person_name same ∙ h)
    none e rest (suc i) x is h = rest i x is h

    by : (b : Bool) → bytes_eq p.name new.name ≡ b → NoneNamed person_name ps new.name ⊎ IsReplaced new ps → NoneNamed person_name (p ∷ ps) new.name ⊎ IsReplaced new (p ∷ ps)
    by true e rest = inr (record {
      place = 0;
      one = p;
      stands = refl;
      has = (bytes_eq-Decides p.name new.name).0 e;
      is = ap (λ (b : Bool). cond b (new ∷ ps) (p ∷ put_person new ps)) e;
    })
    by false e (inl rest) = inl (none e rest)
    by false e (inr r) = inr (record {
      place = suc r.place;
      one = r.one;
      stands = r.stands;
      has = r.has;
      is = ap (λ (b : Bool). cond b (new ∷ ps) (p ∷ put_person new ps)) e ∙ ap (λ (qs : List Person). p ∷ qs) r.is;
    })

pub put_person-set : (new : Person) (ps : List Person) (numbers : NumberedNames) (n : ℕ)
    → AreFound person_name ps numbers → IsNumberOf person_name ps new.name (Some n) → put_person new ps ≡ slice_set ps n new
put_person-set new ps numbers n found (p, at, has) = by (replaced new ps)
  where
    by : NoneNamed person_name ps new.name ⊎ IsReplaced new ps → put_person new ps ≡ slice_set ps n new
    by (inl none) = absurd (none n p at has)
    by (inr r) =
        let here = found.found n p at in
        let there = found.found r.place r.one r.stands in
        let names : r.one.name ≡ p.name = r.has ∙ sym has in
        let places : r.place ≡ n = cc in
        r.is ∙ ap (λ (k : ℕ). slice_set ps k new) places

slice_set-same : {A : Type 0} (xs : List A) (i : ℕ) (x : A) → slice_get xs i ≡ Some x → slice_set xs i x ≡ xs
slice_set-same [] i x at = cc
slice_set-same (y ∷ ys) zero x at = cc
slice_set-same (y ∷ ys) (suc i) x at = ap (λ zs. y ∷ zs) (slice_set-same ys i x at)

-- who comes once more with the same roles changes nothing
pub put_person-same : (new p : Person) (ps : List Person) (numbers : NumberedNames) (n : ℕ) → AreFound person_name ps numbers
    → IsNumberOf person_name ps new.name (Some n) → slice_get ps n ≡ Some p → p.roles ≡ new.roles → put_person new ps ≡ ps
put_person-same new p ps numbers n found (q, there, has) at roles =
    let one : q ≡ p = cc in
    let names : p.name ≡ new.name = sym (ap person_name one) ∙ has in
    let same : p ≡ new = λ i. record { name = names i; roles = roles i } in
    put_person-set new ps numbers n found (q, there, has) ∙ slice_set-same ps n new (at ∙ ap Some same)

hidden : {V : Type 0} (c d : Bool) (a b x : Option V) → d ≡ c → cond c a x ≡ cond c a (cond d b x)
hidden true d a b x e = refl
hidden false true a b x e = cc
hidden false false a b x e = refl

swapped : {V : Type 0} (c d : Bool) (a b x : Option V) → (c ≡ true → d ≡ true → ⊥) → cond d b (cond c a x) ≡ cond c a (cond d b x)
swapped true true a b x apart = absurd (apart refl refl)
swapped true false a b x apart = refl
swapped false true a b x apart = refl
swapped false false a b x apart = refl

roles_in-put_person : (new : Person) (ps : List Person) (q : List ℕ) → roles_in (put_person new ps) q ≡ cond (is_same q new.name) (Some new.roles) (roles_in ps q)
roles_in-put_person new [] q = refl
roles_in-put_person new (p ∷ ps) q = by (bytes_eq p.name new.name) refl (roles_in-put_person new ps q)
  where
    by : (b : Bool) → bytes_eq p.name new.name ≡ b → roles_in (put_person new ps) q ≡ cond (is_same q new.name) (Some new.roles) (roles_in ps q)
        → roles_in (put_person new (p ∷ ps)) q ≡ cond (is_same q new.name) (Some new.roles) (roles_in (p ∷ ps) q)
    by true e rest =
        ap (λ (b : Bool). roles_in (cond b (new ∷ ps) (p ∷ put_person new ps)) q) e
        ∙ hidden (is_same q new.name) (is_same q p.name) (Some new.roles) (Some p.roles) (roles_in ps q) (ap (is_same q) ((bytes_eq-Decides p.name new.name).0 e))
    by false e rest =
        ap (λ (b : Bool). roles_in (cond b (new ∷ ps) (p ∷ put_person new ps)) q) e
        ∙ ap (cond (is_same q p.name) (Some p.roles)) rest
        ∙ swapped (is_same q new.name) (is_same q p.name) (Some new.roles) (Some p.roles) (roles_in ps q)
        (λ a b. differ p.name new.name e (sym (same_from_true q p.name b) ∙ same_from_true q new.name a))

pub state-with_person : (s : State) (library : Holdings) (new : Person)
    → with_library s (with_person library new) ≡ after (with_library s library) (events.Person new.name new.roles) nothing
unfolding with_library after
state-with_person s library new =
    let specs : Map lexical Loaded = of_entries (map spec_under library.specs) in
    ap (λ (m : Map lexical (List (List ℕ))). record s { specs = specs; persons = m })
    (same_map by_name _ _ (λ q.
    get-of_entries by_name (map roles_under (put_person new library.persons)) q
    ∙ roles_in-put_person new library.persons q
    ∙ sym (get-insert by_name (of_entries (map roles_under library.persons)) new.name new.roles q
    ∙ ap (cond (is_same q new.name) (Some new.roles)) (get-of_entries by_name (map roles_under library.persons) q))))

-- ---- specifications

none_from_some : {V : Type 0} (o : Option V) → is_some o ≡ false → o ≡ None
none_from_some None e = refl
none_from_some (Some x) e = cc

pub state-with_spec : (s : State) (library : Holdings) (loaded : Loaded) → has_key (with_library s library).specs loaded.spec.name ≡ false
    → with_library s (with_spec library loaded) ≡ after (with_library s library) (events.Load loaded.spec.name loaded.text) (a_spec loaded.spec)
unfolding with_library after
state-with_spec s library loaded free =
    let roles : Map lexical (List (List ℕ)) = of_entries (map roles_under library.persons) in
    let specs = map spec_under library.specs in
    let none = sym (get-of_entries by_name specs loaded.spec.name) ∙ none_from_some (get (of_entries specs) loaded.spec.name) free in
    ap (λ (m : Map lexical Loaded). record s { specs = m; persons = roles })
    (ap (λ (es : List (List ℕ × Loaded)). of_entries es) (map-append spec_under library.specs (loaded ∷ []))
    ∙ of_entries-push by_name specs loaded.spec.name loaded none)

pub all_at : {A : Type 0} (P : A → Type 0) (xs : List A) (i : ℕ) (x : A) → All P xs → slice_get xs i ≡ Some x → P x
all_at P xs i x all at = subst P (get_or_from_slice_get xs i x x at) (all i x (slice_get_within xs i x at))

-- ---- what stays so

pub apart_by : (ss : List Loaded) (sn : NumberedNames) → AreFound spec_name ss sn → SpecsApart ss
apart_by ss sn found i j l m at there same =
    some_same i j (sym (found.found i l at) ∙ ap (fin_get sn) same ∙ found.found j m there)

pub kept-nothing : (persons specs : NumberedNames) → IsKeptRight [] persons [] specs []
kept-nothing persons specs = record {
  persons_found = record { found = λ i x e. cc };
  specs_found = record { found = λ i x e. cc };
  accepted = All-nil SaysItsText;
  owned = λ n t at. nowhere at;
}

module _ (ps : List Person) (pn : NumberedNames) (ss : List Loaded) (sn : NumberedNames) (ts : List Placed) (k : IsKeptRight ps pn ss sn ts) where
  pub kept-stale_person : (name : List ℕ) (n : ℕ) → NoneNamed person_name ps name → IsKeptRight ps (insert pn name n) ss sn ts
  kept-stale_person name n none = record {
    persons_found = found-stale person_name ps pn name n k.persons_found none;
    specs_found = k.specs_found;
    accepted = k.accepted;
    owned = k.owned;
  }

  pub kept-push_person : (new : Person) → NoneNamed person_name ps new.name
      → IsKeptRight (ps ++ new ∷ []) (insert pn new.name (length ps)) ss sn ts
  kept-push_person new none = record {
    persons_found = found-push person_name ps pn new k.persons_found none;
    specs_found = k.specs_found;
    accepted = k.accepted;
    owned = k.owned;
  }

  pub kept-set_person : (new : Person) (n : ℕ) → IsNumberOf person_name ps new.name (Some n) → IsKeptRight (slice_set ps n new) pn ss sn ts
  kept-set_person new n (old, at, has) = record {
    persons_found = found-set person_name ps pn n old new k.persons_found at has;
    specs_found = k.specs_found;
    accepted = k.accepted;
    owned = k.owned;
  }

  pub kept-stale_spec : (name : List ℕ) (n : ℕ) → NoneNamed spec_name ss name → IsKeptRight ps pn ss (insert sn name n) ts
  kept-stale_spec name n none = record {
    persons_found = k.persons_found;
    specs_found = found-stale spec_name ss sn name n k.specs_found none;
    accepted = k.accepted;
    owned = k.owned;
  }

  pub kept-push_spec : (new : Loaded) → NoneNamed spec_name ss new.spec.name → SaysItsText new
      → IsKeptRight ps pn (ss ++ new ∷ []) (insert sn new.spec.name (length ss)) ts
  kept-push_spec new none says = record {
    persons_found = k.persons_found;
    specs_found = found-push spec_name ss sn new k.specs_found none;
    accepted = All-push SaysItsText ss new k.accepted says;
    owned = all_behind ss (new ∷ []) ts k.owned;
  }

  -- one rule more, whether memory was left for it or not
  pub kept-rule : (owner : Owner) (p : TreePlace) (r : TreeRule) → Owns ss owner p → (new : List Placed) (answer : Result ℕ AllocError)
      → IfOk answer (IsAdded ts new owner p r) → OnErr answer (new ≡ ts)
      → IsKeptRight ps pn ss sn new
  kept-rule owner p r owns new (Ok number) added same =
      subst (IsKeptRight ps pn ss sn) (sym added.added) (record {
        persons_found = k.persons_found;
        specs_found = k.specs_found;
        accepted = k.accepted;
        owned = still_owned ss (apart_by ss sn k.specs_found) owner p owns.is r owns ts k.owned;
      })
  kept-rule owner p r owns new (Err e) added same = subst (IsKeptRight ps pn ss sn) (sym same) k

-- ---- one rule more

pub grown_as : (h known : Holdings) → h ≡ known → (new : List Placed) (owner : Owner) (p : TreePlace) (r : TreeRule) (number : ℕ)
    → IsAdded h.rules new owner p r number
    → IsGrown known (record { persons = h.persons; specs = h.specs; rules = new }) owner p r number
grown_as h known view new owner p r number added =
    subst (λ (z : Holdings). IsGrown z (record { persons = h.persons; specs = h.specs; rules = new }) owner p r number) view
    (record {
      grown = λ i. record { persons = h.persons; specs = h.specs; rules = added.added i };
      numbered = added.numbered;
    })
