-- What a loop from the last to the first has found by names.
use Rattle.std.specs.Prelude.{◌≡◌, ◌||◌, ℕ, zero, suc, Bool, true, false, cond, not, List, [], ◌∷◌, Option, Some, None, filter, find, is_some, length, map, option_and_then, slice_get, refl}
use denote.Bor.{Bor}
use Rattle.std.specs.List.{list_any}
use Rattle.std.specs.Option.{option_copied}
use Rattle.std.specs.Map.{update}
use Rattle.std.specs.Str.{bytes_eq}
use Rattle.std.proofs.Common.{sym, ◌∙◌, ◌<◌, ap, arith, drop, get_or}
use Rattle.yw_base.specs.Order.{lesser}
use Rattle.yw_given.specs.Found.{number_of}
use Rattle.yw_given.specs.declared.numbers.Numbers.{Numbers}
use Rattle.yw_state.proofs.Tests.{nowhere, some_same}
use Rattle.yw_state.specs.Given.{first_failing, least}
use Rattle.yw_state.specs.declared.command.Given.{Given}

-- what is read at a number within the list stands there
pub read_at : {A : Type 0} (xs : List A) (k : ℕ) (x : A) → k < length xs → x ≡ get_or xs k x → slice_get xs k ≡ Some x
read_at [] k x l e = absurd (omega arith)
read_at (y ∷ xs) zero x l e = ap (λ z. Some z) (sym e)
read_at (y ∷ xs) (suc k) x l e = read_at xs k x (omega arith) e

pub drop_at : {A : Type 0} (xs : List A) (i : ℕ) (x : A) → slice_get xs i ≡ Some x → drop i xs ≡ x ∷ drop (suc i) xs
drop_at [] i x at = nowhere at
drop_at (y ∷ ys) zero x at = ap (λ z. z ∷ ys) (some_same y x at)
drop_at (y ∷ ys) (suc i) x at = drop_at ys i x at

pub drop_all : {A : Type 0} (xs : List A) → drop (length xs) xs ≡ []
drop_all [] = refl
drop_all (x ∷ xs) = drop_all xs

-- ---- numbers by names

module _ {A : Type 0} (has : A → List ℕ → Bool) (xs : List A) where
  -- of those from number i on that have a name, the first is found
  abbrev pub FindsFrom : ℕ → Numbers → Type 0
  FindsFrom i numbers = (name : List ℕ) → option_and_then (slice_get xs) (number_of numbers name) ≡ find (λ x. has x name) (drop i xs)

  pub none_yet : (numbers : Numbers) → ((name : List ℕ) → number_of numbers name ≡ None) → FindsFrom (length xs) numbers
  none_yet numbers none name = ap (option_and_then (slice_get xs)) (none name) ∙ sym (ap (find (λ x. has x name)) (drop_all xs))

  pub one_more : (i : ℕ) (x : A) (key : List ℕ) (old new : Numbers)
      → slice_get xs i ≡ Some x → ((name : List ℕ) → has x name ≡ bytes_eq key name)
      → ((name : List ℕ) → number_of new name ≡ update bytes_eq (number_of old) key (Some i) name) → FindsFrom (suc i) old → FindsFrom i new
  one_more i x key old new at named put before name =
      ap (option_and_then (slice_get xs)) (put name)
      ∙ chosen (bytes_eq key name)
      ∙ sym (ap (λ b. cond b (Some x) (find (λ y. has y name) (drop (suc i) xs))) (named name))
      ∙ sym (ap (find (λ y. has y name)) (drop_at xs i x at))
    where
      chosen : (b : Bool) → option_and_then (slice_get xs) (cond b (Some i) (number_of old name)) ≡ cond b (Some x) (find (λ y. has y name) (drop (suc i) xs))
      chosen true = at
      chosen false = before name

  pub one_passed : (i : ℕ) (x : A) (numbers : Numbers) → slice_get xs i ≡ Some x → ((name : List ℕ) → has x name ≡ false) → FindsFrom (suc i) numbers → FindsFrom i numbers
  one_passed i x numbers at unnamed before name =
      before name
      ∙ sym (ap (λ b. cond b (Some x) (find (λ y. has y name) (drop (suc i) xs))) (unnamed name))
      ∙ sym (ap (find (λ y. has y name)) (drop_at xs i x at))

-- ---- the first that passes

pub some_copied : {A : Type 0} (o : Option (Bor A)) → is_some o ≡ is_some (option_copied o)
some_copied None = refl
some_copied (Some x) = refl

pub find_any : {A : Type 0} (p : A → Bool) (xs : List A) → is_some (find p xs) ≡ list_any p xs
find_any p [] = refl
find_any p (x ∷ xs) = elim (p x) as (λ b. is_some (cond b (Some x) (find p xs)) ≡ (b || list_any p xs)) [ true ↦ refl | false ↦ find_any p xs ]

-- it is here
pub found_here : {A : Type 0} (p : A → Bool) (xs : List A) (i : ℕ) (x : A) → slice_get xs i ≡ Some x → p x ≡ true → find p (drop i xs) ≡ Some x
found_here p xs i x at passes = ap (find p) (drop_at xs i x at) ∙ ap (λ b. cond b (Some x) (find p (drop (suc i) xs))) passes

-- it is further on
pub found_later : {A : Type 0} (p : A → Bool) (xs : List A) (i : ℕ) (x : A) → slice_get xs i ≡ Some x → p x ≡ false → find p (drop i xs) ≡ find p (drop (suc i) xs)
found_later p xs i x at fails = ap (find p) (drop_at xs i x at) ∙ ap (λ b. cond b (Some x) (find p (drop (suc i) xs))) fails

pub found_nowhere : {A : Type 0} (p : A → Bool) (xs : List A) → find p (drop (length xs) xs) ≡ None
found_nowhere p xs = ap (find p) (drop_all xs)

-- ---- the least name that fails

module _ (p : Given → Bool) (gs : List Given) (i : ℕ) (g : Given) (at : slice_get gs i ≡ Some g) where
  -- the names, where the first of the values fails or doesn't
  abbrev least_where : Bool → Option (List ℕ)
  least_where b =
      let rest = filter (λ h. not (p h)) (drop (suc i) gs) in
      least (map (λ (h : Given). h.name) (cond (not b) (g ∷ rest) rest))

  pub fails_here : p g ≡ false → first_failing p (drop i gs) ≡ Some (lesser g.name (first_failing p (drop (suc i) gs)))
  fails_here e = ap (first_failing p) (drop_at gs i g at) ∙ ap least_where e

  pub passes_here : p g ≡ true → first_failing p (drop i gs) ≡ first_failing p (drop (suc i) gs)
  passes_here e = ap (first_failing p) (drop_at gs i g at) ∙ ap least_where e

pub none_failing : (p : Given → Bool) (gs : List Given) → first_failing p (drop (length gs) gs) ≡ None
none_failing p gs = ap (first_failing p) (drop_all gs)
