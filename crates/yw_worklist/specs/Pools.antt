-- At which identities there is work, by a name. Our own.
use Rattle.indexmap.specs.IndexMap.{IndexMap, get}
use Rattle.std.specs.BTreeSet.{BTreeSet, contains}
use Rattle.std.specs.Ordering.{eq_by_cmp}
use Rattle.std.specs.Prelude.{◌≡◌, Bool, cond, false, None, Option, Some}
use Rattle.yw_state.specs.Identity.{Ident}
use Rattle.yw_state.specs.Map.{lexical}

abbrev pub in_set : Option (BTreeSet Ident) → Ident → Bool
in_set None j = false
in_set (Some set) j = contains lexical set j

-- there is work at j for those of this name
abbrev pub is_in : {K S : Type 0} → (K → K → Bool) → IndexMap K (BTreeSet Ident) S → K → Ident → Bool
is_in eq m by j = in_set (get eq m by) j

-- the same but at this identity for those of this name, where there is some or none
abbrev pub Sets : {K S : Type 0} → (K → K → Bool) → IndexMap K (BTreeSet Ident) S → IndexMap K (BTreeSet Ident) S → K → Ident → Bool → Type 0
Sets {K} eq old new by id b =
    (q : K) (j : Ident) → is_in eq new q j ≡ cond (eq by q) (cond (eq_by_cmp lexical id j) b (is_in eq old q j)) (is_in eq old q j)
