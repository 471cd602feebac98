-- How a table is read: key by key in order, up to the first fault.
use Rattle.std.specs.Prelude.{◌≡◌, ℕ, ◌+◌, List, [], ◌∷◌, ◌++◌, Option, Some, None, IsSome, false, true, Result, Ok, Err, codes, decimal, if◌then◌else◌, ok_or, option_map}
use Rattle.std.specs.Cmp.Lexicographic.{slice_cmp}
use Rattle.std.specs.List.{list_any}
use Rattle.std.specs.Ordering.{nat_cmp, is_gt}
use Rattle.std.specs.Str.{bytes_eq}
use Rattle.yw_base.specs.Order.{lesser}
use Rattle.toml.specs.Data.{Data, Items, no_items, item, Members, no_members, member, get_member, as_table, as_array}
use Rattle.yw_read.specs.declared.raw.ReadFault.{ReadFault}
use Rattle.yw_read.specs.declared.raw.ReadFault.TheVariants.{NotToml, Shape, Memory}

-- A table says a value, or there is the path from it to its first fault.
infixl 10 ◌>>=◌
abbrev pub ◌>>=◌ : {A B : Type 0} → Result A (List ℕ) → (A → Result B (List ℕ)) → Result B (List ℕ)
(Ok x) >>= f = f x
(Err path) >>= f = Err path

-- what stands at a key, if it is of the kind; `missing` where nothing stands there
abbrev pub at_key : {A : Type 0} → (Data → Option A) → Result A (List ℕ) → List ℕ → Option Data → Result A (List ℕ)
at_key kind missing key None = missing
at_key kind missing key (Some d) = ok_or (kind d) key

-- a key that has to be there
abbrev pub required : {A : Type 0} → (Data → Option A) → List ℕ → Members → Result A (List ℕ)
required kind key t = at_key kind (Err key) key (get_member key t)

-- a key that stands for `x` where it is missing
abbrev pub value_or : {A : Type 0} → (Data → Option A) → A → List ℕ → Members → Result A (List ℕ)
value_or kind x key t = at_key kind (Ok x) key (get_member key t)

-- a key that may be missing
abbrev pub optional : {A : Type 0} → (Data → Option A) → List ℕ → Members → Result (Option A) (List ℕ)
optional kind key t = value_or (λ d. option_map Some (kind d)) None key t

-- `key[k]`
abbrev pub place : List ℕ → ℕ → List ℕ
place key k = key ++ codes "[" ++ decimal k ++ codes "]"

-- the path of a fault, seen from the table above
abbrev pub below : {A : Type 0} → List ℕ → Result A (List ℕ) → Result A (List ℕ)
below at (Ok x) = Ok x
below at (Err path) = Err (at ++ codes "." ++ path)

-- an element that has to be a table
abbrev pub element : {A : Type 0} → (Members → Result A (List ℕ)) → List ℕ → Option Members → Result A (List ℕ)
element shape at None = Err at
element shape at (Some t) = below at (shape t)

-- each element whole, in order, the first of them numbered k
abbrev pub elements : {A : Type 0} → (Members → Result A (List ℕ)) → List ℕ → ℕ → Items → Result (List A) (List ℕ)
elements shape key k no_items = Ok []
elements shape key k (item d ds) = element shape (place key k) (as_table d) >>= λ x. elements shape key (k + 1) ds >>= λ xs. Ok (x ∷ xs)

abbrev pub tables_in : {A : Type 0} → (Members → Result A (List ℕ)) → List ℕ → Option Items → Result (List A) (List ℕ)
tables_in shape key None = Err key
tables_in shape key (Some ds) = elements shape key 0 ds

abbrev pub tables_held : {A : Type 0} → (Members → Result A (List ℕ)) → Result (List A) (List ℕ) → List ℕ → Option Data → Result (List A) (List ℕ)
tables_held shape missing key None = missing
tables_held shape missing key (Some d) = tables_in shape key (as_array d)

-- a key that has to be there, with a list of tables
abbrev pub required_tables : {A : Type 0} → (Members → Result A (List ℕ)) → List ℕ → Members → Result (List A) (List ℕ)
required_tables shape key t = tables_held shape (Err key) key (get_member key t)

-- a key with a list of tables, of which there are none where it is missing
abbrev pub optional_tables : {A : Type 0} → (Members → Result A (List ℕ)) → List ℕ → Members → Result (List A) (List ℕ)
optional_tables shape key t = tables_held shape (Ok []) key (get_member key t)

-- the least key in byte order that is none of those known
abbrev pub unknown_key : List (List ℕ) → Members → Option (List ℕ)
unknown_key known no_members = None
unknown_key known (member key d t) = if list_any (bytes_eq key) known then unknown_key known t else Some (lesser key (unknown_key known t))

-- the key stands in the table and is none of those known, and no other such key is before it in byte order
pub record IsLeastUnknown (known : List (List ℕ)) (t : Members) (key : List ℕ) : Type 0 where
  pub stands : IsSome (get_member key t)
  pub unknown : list_any (bytes_eq key) known ≡ false
  pub least : (other : List ℕ) → IsSome (get_member other t) → list_any (bytes_eq other) known ≡ false → is_gt (slice_cmp nat_cmp key other) ≡ false

-- each key that stands in the table is among those known
abbrev pub HasKnownKeys : List (List ℕ) → Members → Type 0
HasKnownKeys known t = (key : List ℕ) → IsSome (get_member key t) → list_any (bytes_eq key) known ≡ true

abbrev pub unless : {A : Type 0} → A → Option (List ℕ) → Result A (List ℕ)
unless x None = Ok x
unless x (Some key) = Err key

-- `x`, where no key stands in the table but those known
abbrev pub with_no_other : {A : Type 0} → List (List ℕ) → Members → A → Result A (List ℕ)
with_no_other known t x = unless x (unknown_key known t)

-- The fault is the one that there is, or want of memory.
abbrev pub Fails : {A : Type 0} → ReadFault → Result A (List ℕ) → Type 0
Fails Memory said = Unit {0}
Fails NotToml said = ⊥
Fails (Shape path) said = said ≡ Err path

-- The result is what is said, unless memory ran out.
abbrev pub Gives : {A : Type 0} → Result A ReadFault → Result A (List ℕ) → Type 0
Gives (Ok x) said = said ≡ Ok x
Gives (Err fault) said = Fails fault said
