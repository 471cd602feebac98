-- For whom there is work at an identity, once something is open there or isn't.
use Rattle.std.proofs.Common.{ap, get_or, refl, sym, take, ◌∙◌}
use Rattle.std.proofs.lemmas.Bool.{cond-false, cond-true}
use Rattle.std.proofs.lemmas.List.{take_more}
use Rattle.std.proofs.lemmas.List.Folds.{list_any-append}
use Rattle.std.proofs.lemmas.Slice.Eq.{bytes_eq-Decides}
use Rattle.std.specs.BTreeSet.{BTreeSet}
use Rattle.std.specs.Prelude.{◌≡◌, ◌+◌, ◌<◌, ◌&&◌, ◌||◌, ◌++◌, [], ◌∷◌, ℕ, Bool, cond, false, length, List, not, true}
use Rattle.std.specs.Str.{bytes_eq}
use Rattle.yw_state.proofs.Tests.{by_test, never}
use Rattle.yw_state.specs.Identity.{Ident}
use Rattle.yw_work.specs.declared.open.By.{By}
use Rattle.yw_work.specs.declared.open.By.TheVariants as bys
use Rattle.yw_work.specs.declared.open.Open.{Open}
use Rattle.yw_worklist.specs.Offers.{SetsIn, SetsOffer, Turns, came, has_by, is_here, is_offered, left, same_by}
use Rattle.yw_worklist.specs.Pools.{Sets}
use Rattle.yw_worklist.specs.declared.offers.Offers.{Offers}
use Rattle.yw_worklist.specs.declared.pools.Pools.{Pools}

pub same_by_is : (a b : By) → same_by a b ≡ true → a ≡ b
same_by_is bys.Anyone bys.Anyone e = refl
same_by_is (bys.Role a) (bys.Role b) e = ap bys.Role ((bytes_eq-Decides a b).0 e)
same_by_is (bys.Person a) (bys.Person b) e = ap bys.Person ((bytes_eq-Decides a b).0 e)
same_by_is a b e = never e

-- ---- one of the three tables is changed

module _ (o : Offers) (id : Ident) (b : Bool) where
  anyone_at : (set : BTreeSet Ident) → SetsIn o.anyone set id b → (c : By) (j : Ident)
      → is_offered (record o { anyone = set }) c j ≡ cond (same_by bys.Anyone c) (cond (is_here id j) b (is_offered o c j)) (is_offered o c j)
  anyone_at set sets bys.Anyone j = sets j
  anyone_at set sets (bys.Role q) j = refl
  anyone_at set sets (bys.Person q) j = refl

  role_at : (pools : Pools) (role : List ℕ) → Sets bytes_eq o.roles.map pools.map role id b → (c : By) (j : Ident)
      → is_offered (record o { roles = pools }) c j ≡ cond (same_by (bys.Role role) c) (cond (is_here id j) b (is_offered o c j)) (is_offered o c j)
  role_at pools role sets bys.Anyone j = refl
  role_at pools role sets (bys.Role q) j = sets q j
  role_at pools role sets (bys.Person q) j = refl

  person_at : (pools : Pools) (name : List ℕ) → Sets bytes_eq o.persons.map pools.map name id b → (c : By) (j : Ident)
      → is_offered (record o { persons = pools }) c j ≡ cond (same_by (bys.Person name) c) (cond (is_here id j) b (is_offered o c j)) (is_offered o c j)
  person_at pools name sets bys.Anyone j = refl
  person_at pools name sets (bys.Role q) j = refl
  person_at pools name sets (bys.Person q) j = sets q j

  pub anyone_set : (set : BTreeSet Ident) → SetsIn o.anyone set id b → SetsOffer o (record o { anyone = set }) bys.Anyone id b
  anyone_set set sets = anyone_at set sets

  pub role_set : (pools : Pools) (role : List ℕ) → Sets bytes_eq o.roles.map pools.map role id b
      → SetsOffer o (record o { roles = pools }) (bys.Role role) id b
  role_set pools role sets = role_at pools role sets

  pub person_set : (pools : Pools) (name : List ℕ) → Sets bytes_eq o.persons.map pools.map name id b
      → SetsOffer o (record o { persons = pools }) (bys.Person name) id b
  person_set pools name sets = person_at pools name sets

-- ---- turns

same_either : {A : Type 0} (t : Bool) (x : A) → cond t x x ≡ x
same_either true x = refl
same_either false x = refl

pub same_turns : (o : Offers) (id : Ident) (f : By → Bool → Bool) → ((c : By) (b : Bool) → b ≡ f c b) → Turns o o id f
same_turns o id f same = λ c j.
    let was = is_offered o c j in
    sym (ap (λ x. cond (is_here id j) x was) (sym (same c was)) ∙ same_either (is_here id j) was)

pub then_turns : (old mid new : Offers) (id : Ident) (f g : By → Bool → Bool) → Turns old mid id f → Turns mid new id g
    → Turns old new id (λ c b. g c (f c b))
then_turns old mid new id f g first second = λ c j.
    let was = is_offered old c j in
    let between = is_offered mid c j in
    by_test (is_here id j)
    (λ here.
    second c j ∙ cond-true (is_here id j) (g c between) between here ∙ ap (g c) (first c j ∙ cond-true (is_here id j) (f c was) was here)
    ∙ sym (cond-true (is_here id j) (g c (f c was)) was here))
    (λ off.
    second c j ∙ cond-false (is_here id j) (g c between) between off ∙ first c j ∙ cond-false (is_here id j) (f c was) was off
    ∙ sym (cond-false (is_here id j) (g c (f c was)) was off))

pub as_turns : (old new : Offers) (id : Ident) (f g : By → Bool → Bool) → Turns old new id f → ((c : By) (b : Bool) → f c b ≡ g c b)
    → Turns old new id g
as_turns old new id f g turns same = λ c j.
    turns c j ∙ ap (λ x. cond (is_here id j) x (is_offered old c j)) (same c (is_offered old c j))

swapped : (s t b x : Bool) → cond s (cond t b x) x ≡ cond t (cond s b x) x
swapped true true b x = refl
swapped true false b x = refl
swapped false true b x = refl
swapped false false b x = refl

set_turns : (old new : Offers) (by : By) (id : Ident) (b : Bool) → SetsOffer old new by id b → Turns old new id (λ c x. cond (same_by by c) b x)
set_turns old new by id b sets = λ c j. sets c j ∙ swapped (same_by by c) (is_here id j) b (is_offered old c j)

-- those for whom it is are those for whom it is by the other test
module _ (opens : List Open) (by c : By) where
  among : (b : Bool) → has_by by opens ≡ b → same_by by c ≡ true → has_by c opens ≡ b
  among b has tie = ap (λ d. has_by d opens) (sym (same_by_is by c tie)) ∙ has

-- ---- what is open no longer

left_out : (x s n : Bool) → (s ≡ true → n ≡ false) → cond s false x ≡ (x && not ((s || false) && not n))
left_out x true true h = never (sym (h refl))
left_out true true false h = refl
left_out false true false h = refl
left_out true false n h = refl
left_out false false n h = refl

left_in : (x s n : Bool) → (s ≡ true → n ≡ true) → x ≡ (x && not ((s || false) && not n))
left_in true true true h = refl
left_in true true false h = never (h refl)
left_in true false n h = refl
left_in false s n h = refl

left_none : (b : Bool) → b ≡ (b && true)
left_none true = refl
left_none false = refl

left_two : (b h s n : Bool) → ((b && not (h && not n)) && not ((s || false) && not n)) ≡ (b && not ((h || (s || false)) && not n))
left_two false h s n = refl
left_two true false s n = refl
left_two true true true true = refl
left_two true true false true = refl
left_two true true s false = refl

module _ (old new : Offers) (id : Ident) (o : Open) (after : List Open) where
  pub one_left : has_by o.by after ≡ false → SetsOffer old new o.by id false → Turns old new id (left (o ∷ []) after)
  one_left none sets =
      as_turns old new id (λ c x. cond (same_by o.by c) false x) (left (o ∷ []) after) (set_turns old new o.by id false sets)
      (λ c b. left_out b (same_by o.by c) (has_by c after) (among after o.by c false none))

  pub one_kept : has_by o.by after ≡ true → Turns old old id (left (o ∷ []) after)
  one_kept some = same_turns old id (left (o ∷ []) after) (λ c b. left_in b (same_by o.by c) (has_by c after) (among after o.by c true some))

pub none_left : (o : Offers) (id : Ident) (after : List Open) → Turns o o id (left [] after)
none_left o id after = same_turns o id (left [] after) (λ c b. left_none b)

module _ (xs : List Open) (i : ℕ) (o : Open) (lt : i < length xs) (at : o ≡ get_or xs i o) where
  abbrev more : List Open
  more = take (i + 1) xs

  more_is : more ≡ take i xs ++ o ∷ []
  more_is = take_more xs i o lt ∙ ap (λ z. take i xs ++ z ∷ []) (sym at)

  pub has_more : (c : By) → has_by c more ≡ (has_by c (take i xs) || (same_by o.by c || false))
  has_more c = ap (has_by c) more_is ∙ list_any-append (λ z. same_by z.by c) (take i xs) (o ∷ [])

  module _ (old mid new : Offers) (id : Ident) (others : List Open) where
    pub more_left : Turns old mid id (left (take i xs) others) → Turns mid new id (left (o ∷ []) others) → Turns old new id (left more others)
    more_left those that =
        as_turns old new id (λ c b. left (o ∷ []) others c (left (take i xs) others c b)) (left more others)
        (then_turns old mid new id (left (take i xs) others) (left (o ∷ []) others) those that)
        (λ c b. left_two b (has_by c (take i xs)) (same_by o.by c) (has_by c others)
        ∙ ap (λ h. b && not (h && not (has_by c others))) (sym (has_more c)))

    pub more_came : Turns old mid id (came others (take i xs)) → Turns mid new id (came others (o ∷ [])) → Turns old new id (came others more)
    more_came those that =
        as_turns old new id (λ c b. came others (o ∷ []) c (came others (take i xs) c b)) (came others more)
        (then_turns old mid new id (came others (take i xs)) (came others (o ∷ [])) those that)
        (λ c b. came_two b (has_by c (take i xs)) (same_by o.by c) (has_by c others)
        ∙ ap (λ h. b || (h && not (has_by c others))) (sym (has_more c)))
      where
        came_two : (b h s n : Bool) → ((b || (h && not n)) || ((s || false) && not n)) ≡ (b || ((h || (s || false)) && not n))
        came_two true h s n = refl
        came_two false false s n = refl
        came_two false true s false = refl
        came_two false true true true = refl
        came_two false true false true = refl

-- ---- what is open now

came_in : (x s n : Bool) → (s ≡ true → n ≡ false) → cond s true x ≡ (x || ((s || false) && not n))
came_in x true true h = never (sym (h refl))
came_in true true false h = refl
came_in false true false h = refl
came_in true false n h = refl
came_in false false n h = refl

came_before : (x s n : Bool) → (s ≡ true → n ≡ true) → x ≡ (x || ((s || false) && not n))
came_before true s n h = refl
came_before false true true h = refl
came_before false true false h = never (h refl)
came_before false false n h = refl

came_none : (b : Bool) → b ≡ (b || false)
came_none true = refl
came_none false = refl

module _ (old new : Offers) (id : Ident) (before : List Open) (o : Open) where
  pub one_came : has_by o.by before ≡ false → SetsOffer old new o.by id true → Turns old new id (came before (o ∷ []))
  one_came none sets =
      as_turns old new id (λ c x. cond (same_by o.by c) true x) (came before (o ∷ [])) (set_turns old new o.by id true sets)
      (λ c b. came_in b (same_by o.by c) (has_by c before) (among before o.by c false none))

  pub one_there : has_by o.by before ≡ true → Turns old old id (came before (o ∷ []))
  one_there some = same_turns old id (came before (o ∷ [])) (λ c b. came_before b (same_by o.by c) (has_by c before) (among before o.by c true some))

pub none_came : (o : Offers) (id : Ident) (before : List Open) → Turns o o id (came before [])
none_came o id before = same_turns o id (came before []) (λ c b. came_none b)

-- ---- both

pub changed : (h n : Bool) → ((h && not (h && not n)) || (n && not h)) ≡ n
changed true true = refl
changed true false = refl
changed false true = refl
changed false false = refl
