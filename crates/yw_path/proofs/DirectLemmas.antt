-- Which tasks lead to each place, and which tasks feed which.
use Rattle.std.proofs.Common.{◌≡◌, ℕ, ◌+◌, ◌/◌, ◌<◌, ◌≤◌, ◌⊎◌, inl, inr, List, [], ◌∷◌, ◌++◌, length, get_or, set, take, refl, sym, ap, ◌∙◌, subst, arith, get_or-set_same, get_or-set_other, Some}
use Rattle.std.specs.Prelude.{All, Contains, replicate, slice_get}
use Rattle.std.specs.Option.{option_map_or}
use Rattle.std.proofs.lemmas.Bool.{cases_eq, cases_lt}
use Rattle.std.proofs.lemmas.List.{get_or-replicate, get_or_append_left, get_or_past, get_or_push, get_or_read_under, length_push, length-set, length-replicate}
use Rattle.std.proofs.lemmas.List.Elements.{Contains-append_left, Contains-get_or, Contains-push, Contains-push_cases}
use Rattle.std.proofs.lemmas.Option.{slice_get_past, slice_get_read}
use Rattle.yw_path.proofs.BitLemmas.{has-empty}
use Rattle.yw_path.proofs.ClosureLemmas.{leads-within}
use Rattle.yw_path.proofs.FirstLemmas.{contains-nil, first_cases, first_has, first_keeps}
use Rattle.yw_path.specs.Bits.{Adds, AddsOne, Has, words_for}
use Rattle.yw_path.specs.Direct.{AreDirect, AreInto, Feeds, IsDirectRow, PushesEach}
use Rattle.yw_path.specs.Rows.{AreRows, Leads}
use Rattle.yw_spec.specs.Net.{places_after, places_before}
use Rattle.yw_spec.specs.declared.spec.Net.{Net}
use Rattle.yw_spec.specs.declared.task.Task.{Task}

-- ---- lists of tasks by places

-- one list is longer by a task
module _ (old : List (List ℕ)) (c t : ℕ) (lt : c < length old) where
  abbrev longer : List (List ℕ)
  longer = set old c (get_or old c [] ++ t ∷ [])

  there : (d : ℕ) → d ≡ c → get_or longer d [] ≡ get_or old c [] ++ t ∷ []
  there d e = ap (λ n. get_or longer n []) e ∙ get_or-set_same old c (get_or old c [] ++ t ∷ []) [] lt

  elsewhere : (d : ℕ) → (d ≡ c → ⊥) → get_or longer d [] ≡ get_or old d []
  elsewhere d ne = get_or-set_other old c d (get_or old c [] ++ t ∷ []) [] ne

  pub push_one : PushesEach (λ d. d ≡ c) t old longer
  push_one = record {
    len = length-set old c (get_or old c [] ++ t ∷ []);
    only = λ d u h. elim (cases_eq d c) [
      | inl e ↦
          let P : List ℕ → Type 0 = λ us. Contains us u in
          let Q : ℕ → Type 0 = λ n. Contains (get_or old n []) u in
          elim (Contains-push_cases (get_or old c []) t u (subst P (there d e) h)) [ inl was ↦ inl (subst Q (sym e) was) | inr is ↦ inr (sym is, e) ]
      | inr ne ↦ let P : List ℕ → Type 0 = λ us. Contains us u in inl (subst P (elsewhere d ne) h)
    ];
    keeps = λ d u h. elim (cases_eq d c) [
      | inl e ↦
          let P : List ℕ → Type 0 = λ us. Contains us u in
          let Q : ℕ → Type 0 = λ n. Contains (get_or old n []) u in
          subst P (sym (there d e)) (Contains-append_left (get_or old c []) (t ∷ []) u (subst Q e h))
      | inr ne ↦ let P : List ℕ → Type 0 = λ us. Contains us u in subst P (sym (elsewhere d ne)) h
    ];
    all = λ d e. let P : List ℕ → Type 0 = λ us. Contains us t in subst P (sym (there d e)) (Contains-push (get_or old c []) t);
  }

pub pushes_none : (t : ℕ) (old : List (List ℕ)) → PushesEach (Contains []) t old old
pushes_none t old = record { len = refl; only = λ c u h. inl h; keeps = λ c u h. h; all = λ c h. absurd (contains-nil c h) }

pub pushes_join : (P Q R : ℕ → Type 0) (t : ℕ) (a b c : List (List ℕ)) → ((k : ℕ) → P k → R k) → ((k : ℕ) → Q k → R k) → ((k : ℕ) → R k → P k ⊎ Q k) → PushesEach P t a b → PushesEach Q t b c → PushesEach R t a c
pushes_join P Q R t a b c from_p from_q parts p q = record {
  len = q.len ∙ p.len;
  only = λ k u h. elim (q.only k u h) [
    | inl was ↦ elim (p.only k u was) [ inl first ↦ inl first | inr (is, x) ↦ inr (is, from_p k x) ]
    | inr (is, x) ↦ inr (is, from_q k x)
  ];
  keeps = λ k u h. q.keeps k u (p.keeps k u h);
  all = λ k h. elim (parts k h) [ inl x ↦ q.keeps k t (p.all k x) | inr x ↦ q.all k x ];
}

-- ---- for each place the tasks that lead to it

-- the places behind the task with this number
pub after_at : (net : Net) (t : ℕ) (task : Task) → slice_get net.tasks t ≡ Some task → places_after net t ≡ task.after
after_at net t task e = ap {B = List ℕ} (λ o. option_map_or (λ (x : Task). x.after) o []) e

pub before_at : (net : Net) (t : ℕ) (task : Task) → slice_get net.tasks t ≡ Some task → places_before net t ≡ task.before
before_at net t task e = ap {B = List ℕ} (λ o. option_map_or (λ (x : Task). x.before) o []) e

pub no_list : (n c : ℕ) → let none : List ℕ = [] in get_or (replicate n none) c [] ≡ none
no_list n c = elim (cases_lt c n) [
  | inl lt ↦ get_or-replicate n c [] [] lt
  | inr past ↦ get_or_past (replicate n []) c [] (omega (arith, past, length-replicate {A = List ℕ} n []))
]

pub into_none : (net : Net) (into : List (List ℕ)) → into ≡ replicate (length net.places) [] → AreInto net 0 into
into_none net into e = record {
  len = ap length e ∙ length-replicate (length net.places) [];
  only = λ c u h.
      let P : List ℕ → Type 0 = λ us. Contains us u in
      absurd (contains-nil u (subst P (ap (λ ls. get_or ls c []) e ∙ no_list (length net.places) c) h));
  all = λ c u lt. absurd (omega (arith, lt));
}

pub into_more : (net : Net) (t : ℕ) (into new : List (List ℕ)) → AreInto net t into → PushesEach (Contains (places_after net t)) t into new → AreInto net (t + 1) new
into_more net t into new are pushes = record {
  len = pushes.len ∙ are.len;
  only = λ c u h. elim (pushes.only c u h) [
    | inl was ↦ let before_t = are.only c u was in (omega (arith, before_t.0), before_t.1)
    | inr (is, leads) ↦ (omega (arith, is), let P : ℕ → Type 0 = λ v. Contains (places_after net v) c in subst P (sym is) leads)
  ];
  all = λ c u lt leads. elim (cases_eq u t) [
    | inl is ↦
        let P : ℕ → Type 0 = λ v. Contains (places_after net v) c in
        let Q : ℕ → Type 0 = λ v. Contains (get_or new c []) v in
        subst Q (sym is) (pushes.all c (subst P is leads))
    | inr other ↦ pushes.keeps c u (are.all c u (omega (arith, lt, other)) leads)
  ];
}

-- ---- for each task those that feed it

pub direct_none : (count t : ℕ) (into : List (List ℕ)) (empty row : List ℕ) → empty ≡ replicate (words_for count) 0 → AddsOne t empty row → IsDirectRow count t (Contains []) into row
direct_none count t into empty row e adds = record {
  len = adds.len ∙ ap length e ∙ length-replicate (words_for count) 0;
  only = λ u h. elim (adds.only u h) [
    | inl was ↦ let P : List ℕ → Type 0 = λ r. Has r u in absurd (has-empty (words_for count) u (subst P e was))
    | inr is ↦ inl is
  ];
  itself = adds.all t refl;
  all = λ c u h. absurd (contains-nil c h);
}

pub direct_more : (count t : ℕ) (P R : ℕ → Type 0) (into : List (List ℕ)) (row new : List ℕ) (at : ℕ) → ((c : ℕ) → P c → R c) → R at → ((c : ℕ) → R c → P c ⊎ (c ≡ at)) → IsDirectRow count t P into row → Adds (Contains (get_or into at [])) row new → IsDirectRow count t R into new
direct_more count t P R into row new at more here parts is adds = record {
  len = adds.len ∙ is.len;
  only = λ u h. elim (adds.only u h) [
    | inl was ↦ elim (is.only u was) [ inl itself ↦ inl itself | inr (c, p, leads) ↦ inr (c, more c p, leads) ]
    | inr leads ↦ inr (at, here, leads)
  ];
  itself = adds.keeps t is.itself;
  all = λ c u r leads. elim (parts c r) [
    | inl p ↦ adds.keeps u (is.all c u p leads)
    | inr e ↦ let Q : ℕ → Type 0 = λ d. Contains (get_or into d []) u in adds.all u (subst Q e leads)
  ];
}

-- ---- what the code reads

-- a list that stands at a place
pub list_read : (lists : List (List ℕ)) (at : ℕ) (item slice : List ℕ) → slice ≡ item → item ≡ get_or lists at item → at < length lists → slice ≡ get_or lists at []
list_read lists at item slice e f lt = e ∙ get_or_read_under lists at (length lists) item [] f lt refl

pub task_read : (net : Net) (tasks : List Task) (t : ℕ) (task : Task) → tasks ≡ net.tasks → task ≡ get_or tasks t task → t < length tasks → slice_get net.tasks t ≡ Some task
task_read net tasks t task e f lt = ap (λ ts. slice_get ts t) (sym e) ∙ slice_get_read tasks (length tasks) t task refl lt f

-- numbers of tasks have room
pub tasks_fit : (count : ℕ) (into : List (List ℕ)) (at : ℕ) (slice row : List ℕ) → slice ≡ get_or into at [] → ((c u : ℕ) → Contains (get_or into c []) u → u < count) → length row ≡ words_for count → All (λ k. k / 64 < length row) slice
tasks_fit count into at slice row e within len k d lt =
    let P : List ℕ → Type 0 = λ us. Contains us (get_or slice k d) in
    let below = within at (get_or slice k d) (subst P e (Contains-get_or slice k d lt)) in
    omega (arith, below, len)

-- what all that a list has is, its elements are
pub all_of : (P : ℕ → Type 0) (xs ys : List ℕ) → xs ≡ ys → ((c : ℕ) → Contains ys c → P c) → All P xs
all_of P xs ys e holds k d lt = let Q : List ℕ → Type 0 = λ zs. Contains zs (get_or xs k d) in holds (get_or xs k d) (subst Q e (Contains-get_or xs k d lt))

-- one place more
pub push_more : (places : List ℕ) (i t : ℕ) (old into : List (List ℕ)) (item list : List ℕ) → i < length places → get_or places i 0 < length into → PushesEach (Contains (take i places)) t old into → item ≡ get_or into (get_or places i 0) item → list ≡ item ++ t ∷ [] → PushesEach (Contains (take (i + 1) places)) t old (set into (get_or places i 0) list)
push_more places i t old into item list lt at_lt so_far read pushed =
    let at : ℕ = get_or places i 0 in
    let is : list ≡ get_or into at [] ++ t ∷ [] = pushed ∙ ap (λ us. us ++ t ∷ []) (get_or_read_under into at (length into) item [] read at_lt refl) in
    let P : List ℕ → Type 0 = λ us. PushesEach (λ d. d ≡ at) t into (set into at us) in
    pushes_join (Contains (take i places)) (λ d. d ≡ at) (Contains (take (i + 1) places)) t old into (set into at list)
    (first_keeps places i lt) (first_has places i lt) (first_cases places i lt) so_far
    (subst P (sym is) (push_one into at t at_lt))

-- ---- all rows

-- The first n rows are those of tasks.
pub record DirectBelow (net : Net) (n : ℕ) (into rows : List (List ℕ)) : Type 0 where
  pub len : length rows ≡ n
  pub each : (t : ℕ) → t < n → IsDirectRow (length net.tasks) t (Contains (places_before net t)) into (get_or rows t [])

pub direct_begins : (net : Net) (into rows : List (List ℕ)) → rows ≡ [] → DirectBelow net 0 into rows
direct_begins net into rows e = record { len = ap length e; each = λ t lt. absurd (omega (arith, lt)) }

pub direct_goes_on : (net : Net) (n : ℕ) (into rows new : List (List ℕ)) (row : List ℕ) → DirectBelow net n into rows → IsDirectRow (length net.tasks) n (Contains (places_before net n)) into row → new ≡ rows ++ row ∷ [] → DirectBelow net (n + 1) into new
direct_goes_on net n into rows new row so_far is e = record {
  len = ap length e ∙ length_push rows row ∙ ap (λ k. k + 1) so_far.len;
  each = λ t lt. elim (cases_eq t n) [
    | inl same ↦
        let P : ℕ → Type 0 = λ k. IsDirectRow (length net.tasks) k (Contains (places_before net k)) into (get_or new k []) in
        let Q : List ℕ → Type 0 = λ r. IsDirectRow (length net.tasks) n (Contains (places_before net n)) into r in
        subst P (sym same) (subst Q (sym (ap (λ rs. get_or rs n []) e ∙ get_or_push rows row [] n so_far.len)) is)
    | inr other ↦
        let le : t < n = omega (arith, lt, other) in
        let Q : List ℕ → Type 0 = λ r. IsDirectRow (length net.tasks) t (Contains (places_before net t)) into r in
        subst Q (sym (ap (λ rs. get_or rs t []) e ∙ get_or_append_left rows (row ∷ []) [] t (omega (arith, le, so_far.len)))) (so_far.each t le)
  ];
}

-- only tasks of the net have flows
pub task_behind : (net : Net) (t c : ℕ) → Contains (places_before net t) c → t < length net.tasks
task_behind net t c h = elim (cases_lt t (length net.tasks)) [
  | inl lt ↦ lt
  | inr past ↦
      let P : List ℕ → Type 0 = λ cs. Contains cs c in
      let e : places_before net t ≡ [] = ap {B = List ℕ} (λ o. option_map_or (λ (x : Task). x.before) o []) (slice_get_past net.tasks t past) in
      absurd (contains-nil c (subst P e h))
]

pub task_ahead : (net : Net) (t c : ℕ) → Contains (places_after net t) c → t < length net.tasks
task_ahead net t c h = elim (cases_lt t (length net.tasks)) [
  | inl lt ↦ lt
  | inr past ↦
      let P : List ℕ → Type 0 = λ cs. Contains cs c in
      let e : places_after net t ≡ [] = ap {B = List ℕ} (λ o. option_map_or (λ (x : Task). x.after) o []) (slice_get_past net.tasks t past) in
      absurd (contains-nil c (subst P e h))
]

pub direct_ends : (net : Net) (n : ℕ) (into rows : List (List ℕ)) → n ≡ length net.tasks → AreInto net (length net.tasks) into → DirectBelow net n into rows → AreDirect net rows
direct_ends net n into rows e are_into done = record {
  are_rows = record {
    len = done.len ∙ e;
    width = λ t lt. (done.each t (omega (arith, lt, e))).len;
    within = λ u t h.
        let lt : t < n = omega (arith, leads-within rows u t h, done.len) in
        elim ((done.each t lt).only u h) [ inl is ↦ omega (arith, is, lt, e) | inr found ↦ (are_into.only found.0 u found.2).0 ];
  };
  only = λ u t h.
      let lt : t < n = omega (arith, leads-within rows u t h, done.len) in
      elim ((done.each t lt).only u h) [ inl is ↦ inl is | inr found ↦ inr (found.0, (are_into.only found.0 u found.2).1, found.1) ];
  itself = λ t lt. (done.each t (omega (arith, lt, e))).itself;
  all = λ u t feeds.
      (done.each t (omega (arith, task_behind net t feeds.0 feeds.2, e))).all feeds.0 u feeds.2
      (are_into.all feeds.0 u (task_ahead net u feeds.0 feeds.1) feeds.1);
}
