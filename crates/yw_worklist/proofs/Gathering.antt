-- The identities where there is work for a person.
use Rattle.indexmap.specs.IndexMap.{IndexMap, get}
use Rattle.std.proofs.Common.{ap, get_or, inl, inr, subst, sym, take, ◌∙◌}
use Rattle.std.proofs.lemmas.List.{take_more}
use Rattle.std.proofs.lemmas.List.Folds.{list_any-append}
use Rattle.std.proofs.Math.Bool.{or-false}
use Rattle.std.proofs.lemmas.Bool.{or_left, or_right}
use Rattle.std.proofs.lemmas.Slice.Eq.{bytes_eq-Decides}
use Rattle.std.specs.BTreeSet.{BTreeSet, insert_key}
use Rattle.std.specs.Borrow.{Bor}
use Rattle.std.specs.List.{list_any}
use Rattle.std.specs.Prelude.{◌≡◌, ◌⊎◌, ◌+◌, ◌<◌, ◌||◌, ◌++◌, [], ◌∷◌, ℕ, length, List, None, Some, true}
use Rattle.std.specs.Str.{bytes_eq}
use Rattle.yw_idents.specs.Idents.{lent}
use Rattle.yw_shown.proofs.Inserted.{by_bytes}
use Rattle.yw_state.proofs.Entries.{IsIn}
use Rattle.yw_state.proofs.Tests.{never, or_cases}
use Rattle.yw_state.specs.Identity.{Ident}
use Rattle.yw_work.specs.Open.{admits}
use Rattle.yw_work.specs.declared.open.By.{By}
use Rattle.yw_work.specs.declared.open.By.TheVariants as bys
use Rattle.yw_worklist.proofs.Keys.{in_keys, key_there, keys_stay, lent_to}
use Rattle.yw_worklist.specs.Offers.{Gains, HasAdmitted, is_in_some, is_offered}
use Rattle.yw_worklist.specs.Pools.{in_set, is_in}
use Rattle.yw_worklist.specs.declared.offers.Offers.{Offers}

-- ---- a set's identities, one after another

-- What was there is there still, and so is each of these, but for what is left.
pub record Gathers (old now all left : List Ident) : Type 0 where
  pub was : (j : Ident) → IsIn old j → IsIn now j
  pub each : (j : Ident) → IsIn all j → IsIn now j ⊎ IsIn left j

pub gathers_none : (old all : List Ident) → Gathers old old all all
gathers_none old all = record { was = λ j within. within; each = λ j within. inr within }

pub gathers_more : (old all left rest : List Ident) (ks ms : List (Bor Ident)) (k : Bor Ident) → left ≡ k.now ∷ rest
    → ms ≡ insert_key (by_bytes lent_to) ks k → Gathers old (lent ks) all left → Gathers old (lent ms) all rest
gathers_more old all left rest ks ms k turn put so_far =
    subst (λ ns. Gathers old (lent ns) all rest) (sym put) (record {
      was = λ j within. keys_stay ks k j (so_far.was j within);
      each = λ j within. elim (so_far.each j within) [
        | inl there ↦ inl (keys_stay ks k j there)
        | inr later ↦ elim (subst (λ js. IsIn js j) turn later) [
          | inl same ↦ inl (subst (IsIn (lent (insert_key (by_bytes lent_to) ks k))) same (key_there ks k))
          | inr behind ↦ inr behind
        ]
      ];
    })

pub gathers_all : (old now all left : List Ident) → left ≡ [] → Gathers old now all left → Gains old now (IsIn all)
gathers_all old now all left none so_far = record {
  was = so_far.was;
  all = λ j within. elim (so_far.each j within) [ inl there ↦ there | inr later ↦ absurd (subst (λ js. IsIn js j) none later) ];
}

-- ---- the set of a name

module _ {S : Type 0} (m : IndexMap (List ℕ) (BTreeSet Ident) S) (by : List ℕ) (old new : List Ident) where
  pub pool_gained : (set : BTreeSet Ident) → Some set ≡ get bytes_eq m by → Gains old new (IsIn set.keys) → Gains old new (λ j. is_in bytes_eq m by j ≡ true)
  pool_gained set is gains = record { was = gains.was; all = λ j e. gains.all j (in_keys set.keys j (ap (λ o. in_set o j) is ∙ e)) }

  pub no_pool : None ≡ get bytes_eq m by → Gains old old (λ j. is_in bytes_eq m by j ≡ true)
  no_pool is = record { was = λ j within. within; all = λ j e. never (ap (λ o. in_set o j) is ∙ e) }

-- ---- the sets of several names

module _ {S : Type 0} (m : IndexMap (List ℕ) (BTreeSet Ident) S) where
  abbrev pub InSome : List (List ℕ) → Ident → Type 0
  InSome names j = list_any (λ by. is_in bytes_eq m by j) names ≡ true

  pub no_names_gained : (old : List Ident) → Gains old old (InSome [])
  no_names_gained old = record { was = λ j within. within; all = λ j e. never e }

  pub name_gained : (names : List (List ℕ)) (i : ℕ) (by : List ℕ) (old mid new : List Ident) → i < length names → by ≡ get_or names i by
      → Gains old mid (InSome (take i names)) → Gains mid new (λ j. is_in bytes_eq m by j ≡ true) → Gains old new (InSome (take (i + 1) names))
  name_gained names i by old mid new lt at those that = record {
    was = λ j within. that.was j (those.was j within);
    all = λ j e. elim (or_cases (list_any (λ b. is_in bytes_eq m b j) (take i names)) (is_in bytes_eq m by j) (sym (more j) ∙ e)) [
      | inl before ↦ that.was j (those.all j before)
      | inr here ↦ that.all j here
    ];
  }
    where
      more : (j : Ident) → list_any (λ b. is_in bytes_eq m b j) (take (i + 1) names)
          ≡ (list_any (λ b. is_in bytes_eq m b j) (take i names) || is_in bytes_eq m by j)
      more j =
          ap (list_any (λ b. is_in bytes_eq m b j)) (take_more names i by lt ∙ ap (λ b. take i names ++ b ∷ []) (sym at))
          ∙ list_any-append (λ b. is_in bytes_eq m b j) (take i names) (by ∷ [])
          ∙ ap (λ b. list_any (λ d. is_in bytes_eq m d j) (take i names) || b) (or-false (is_in bytes_eq m by j))

-- ---- what is for a person

role_some : (o : Offers) (roles : List (List ℕ)) (role : List ℕ) (j : Ident) → list_any (bytes_eq role) roles ≡ true
    → is_in bytes_eq o.roles.map role j ≡ true → is_in_some o roles j ≡ true
role_some o [] role j has is = never has
role_some o (r ∷ roles) role j has is = elim (or_cases (bytes_eq role r) (list_any (bytes_eq role) roles) has) [
  | inl same ↦ or_left (is_in bytes_eq o.roles.map r j) (is_in_some o roles j)
      (subst (λ n. is_in bytes_eq o.roles.map n j ≡ true) ((bytes_eq-Decides role r).0 same) is)
  | inr later ↦ or_right (is_in bytes_eq o.roles.map r j) (is_in_some o roles j) (role_some o roles role j later is)
]

pub admitted_gained : (o : Offers) (roles : List (List ℕ)) (who : List ℕ) (a b c d : List Ident) → Gains a b (IsIn o.anyone.keys)
    → Gains b c (λ j. is_in bytes_eq o.persons.map who j ≡ true) → Gains c d (λ j. is_in_some o roles j ≡ true) → HasAdmitted o roles who d
admitted_gained o roles who a b c d anyone persons some = λ by j admit is. by_kind by j admit is
  where
    by_kind : (by : By) (j : Ident) → admits roles who by ≡ true → is_offered o by j ≡ true → IsIn d j
    by_kind bys.Anyone j admit is = some.was j (persons.was j (anyone.all j (in_keys o.anyone.keys j is)))
    by_kind (bys.Role role) j admit is = some.all j (role_some o roles role j admit is)
    by_kind (bys.Person name) j admit is =
        some.was j (persons.all j (subst (λ n. is_in bytes_eq o.persons.map n j ≡ true) ((bytes_eq-Decides name who).0 admit) is))
