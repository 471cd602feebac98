-- The unknown key of a table is the least of those that stand in it.
use Rattle.std.proofs.Common.{◌≡◌, ◌⊎◌, ℕ, List, Bool, Option, Some, None, IsSome, refl, sym, ap, subst, ◌∙◌, true, false, cond, Ordering, Less, Equal, Greater, nat_cmp, inl, inr}
use Rattle.std.proofs.lemmas.Bool.{false≢true}
use Rattle.std.proofs.lemmas.Cmp.{nat_list_cmp_total}
use Rattle.std.proofs.lemmas.Map.Lookups.{exact_bytes}
use Rattle.std.specs.Cmp.{tied_itself, upto}
use Rattle.std.specs.Cmp.Lexicographic.{slice_cmp}
use Rattle.std.specs.List.{list_any}
use Rattle.std.specs.Ordering.{match_ordering, ordering_reverse, is_gt}
use Rattle.std.specs.Str.{bytes_eq}
use Rattle.toml.specs.Data.{Data, Members, no_members, member, get_member}
use Rattle.yw_base.specs.Order.{lesser}
use Rattle.yw_read.specs.Keys.{unknown_key, IsLeastUnknown, HasKnownKeys}

abbrev order : List ℕ → List ℕ → Ordering
order = slice_cmp nat_cmp

abbrev is_known : List (List ℕ) → List ℕ → Bool
is_known known key = list_any (bytes_eq key) known

-- what stands in a table stands in it with one member more
found_further : (o : Ordering) (rest first : Option Data) → IsSome rest → IsSome first → IsSome (match_ordering o rest first rest)
found_further Less rest first h k = h
found_further Equal rest first h k = k
found_further Greater rest first h k = h

stands_further : (key first : List ℕ) (d : Data) (t : Members) → IsSome (get_member key t) → IsSome (get_member key (member first d t))
stands_further key first d t h = found_further (order key first) (get_member key t) (Some d) h refl

-- the first member's key stands
stands_first : (first : List ℕ) (d : Data) (t : Members) → IsSome (get_member first (member first d t))
stands_first first d t = rw (tied_itself nat_list_cmp_total first) refl

-- a key that stands is the first one, or stands among the rest
split_by : (key first : List ℕ) (d : Data) (t : Members) (o : Ordering) → order key first ≡ o → IsSome (match_ordering o (get_member key t) (Some d) (get_member key t)) → (key ≡ first) ⊎ IsSome (get_member key t)
split_by key first d t Less e h = inr h
split_by key first d t Equal e h = inl (exact_bytes key first e)
split_by key first d t Greater e h = inr h

split : (key first : List ℕ) (d : Data) (t : Members) → IsSome (get_member key (member first d t)) → (key ≡ first) ⊎ IsSome (get_member key t)
split key first d t h = split_by key first d t (order key first) refl h

not_after_itself : (key : List ℕ) → is_gt (order key key) ≡ false
not_after_itself key = ap is_gt (tied_itself nat_list_cmp_total key)

-- the rest has this key for its least unknown one, or each of its keys is known
abbrev IsFound : List (List ℕ) → Members → Option (List ℕ) → Type 0
IsFound known t None = HasKnownKeys known t
IsFound known t (Some key) = IsLeastUnknown known t key

-- behind a first member whose key is known
past_known : (known : List (List ℕ)) (first : List ℕ) (d : Data) (t : Members) (key : List ℕ) → is_known known first ≡ true → IsLeastUnknown known t key → IsLeastUnknown known (member first d t) key
past_known known first d t key is rest =
    record {
      stands = stands_further key first d t rest.stands;
      unknown = rest.unknown;
      least =
          λ other stands unknown. elim (split other first d t stands) [
            | inl same ↦ absurd (false≢true (sym unknown ∙ ap (is_known known) same ∙ is))
            | inr further ↦ rest.least other further unknown
          ];
    }

-- the first member's key is before the unknown ones of the rest
first_least : (known : List (List ℕ)) (first : List ℕ) (d : Data) (t : Members) → is_known known first ≡ false → ((other : List ℕ) → IsSome (get_member other t) → is_known known other ≡ false → is_gt (order first other) ≡ false) → IsLeastUnknown known (member first d t) first
first_least known first d t is rest =
    record {
      stands = stands_first first d t;
      unknown = is;
      least =
          λ other stands unknown. elim (split other first d t stands) [
            | inl same ↦ ap (λ key. is_gt (order first key)) same ∙ not_after_itself first
            | inr further ↦ rest other further unknown
          ];
    }

-- the rest has a lesser one
rest_least : (known : List (List ℕ)) (first : List ℕ) (d : Data) (t : Members) (key : List ℕ) → order first key ≡ Greater → IsLeastUnknown known t key → IsLeastUnknown known (member first d t) key
rest_least known first d t key after rest =
    record {
      stands = stands_further key first d t rest.stands;
      unknown = rest.unknown;
      least =
          λ other stands unknown. elim (split other first d t stands) [
            | inl same ↦ ap (λ o. is_gt (order key o)) same ∙ ap is_gt (nat_list_cmp_total.antisymm key first) ∙ ap (λ o. is_gt (ordering_reverse o)) after
            | inr further ↦ rest.least other further unknown
          ];
    }

-- the lesser of the first key and the rest's, when the first is unknown
lesser_by : (known : List (List ℕ)) (first : List ℕ) (d : Data) (t : Members) (key : List ℕ) (o : Ordering) → order first key ≡ o → is_known known first ≡ false → IsLeastUnknown known t key → IsLeastUnknown known (member first d t) (match_ordering o first first key)
lesser_by known first d t key Less e is rest =
    first_least known first d t is (λ other stands unknown. upto nat_list_cmp_total first key other (ap is_gt e) (rest.least other stands unknown))
lesser_by known first d t key Equal e is rest =
    first_least known first d t is (λ other stands unknown. upto nat_list_cmp_total first key other (ap is_gt e) (rest.least other stands unknown))
lesser_by known first d t key Greater e is rest = rest_least known first d t key e rest

least_of : (known : List (List ℕ)) (first : List ℕ) (d : Data) (t : Members) (found : Option (List ℕ)) → is_known known first ≡ false → IsFound known t found → IsLeastUnknown known (member first d t) (lesser first found)
least_of known first d t None is rest =
    first_least known first d t is (λ other stands unknown. absurd (false≢true (sym unknown ∙ rest other stands)))
least_of known first d t (Some key) is rest = lesser_by known first d t key (order first key) refl is rest

known_further : (known : List (List ℕ)) (first : List ℕ) (d : Data) (t : Members) (found : Option (List ℕ)) → is_known known first ≡ true → IsFound known t found → IsFound known (member first d t) found
known_further known first d t None is rest =
    λ key stands. elim (split key first d t stands) [
      | inl same ↦ ap (is_known known) same ∙ is
      | inr further ↦ rest key further
    ]
known_further known first d t (Some key) is rest = past_known known first d t key is rest

found_by : (known : List (List ℕ)) (first : List ℕ) (d : Data) (t : Members) (found : Option (List ℕ)) (is : Bool) → is_known known first ≡ is → IsFound known t found → IsFound known (member first d t) (cond is found (Some (lesser first found)))
found_by known first d t found true e rest = known_further known first d t found e rest
found_by known first d t found false e rest = least_of known first d t found e rest

found : (known : List (List ℕ)) (t : Members) → IsFound known t (unknown_key known t)
found known no_members = λ key stands. absurd (false≢true stands)
found known (member first d t) =
    found_by known first d t (unknown_key known t) (is_known known first) refl (found known t)

-- what is found is the least unknown key
pub unknown_key-least : (known : List (List ℕ)) (t : Members) (key : List ℕ) → Some key ≡ unknown_key known t → IsLeastUnknown known t key
unknown_key-least known t key e = subst (IsFound known t) (sym e) (found known t)

-- where none is found, each key is known
pub unknown_key-none : (known : List (List ℕ)) (t : Members) → None ≡ unknown_key known t → HasKnownKeys known t
unknown_key-none known t e = subst (IsFound known t) (sym e) (found known t)
