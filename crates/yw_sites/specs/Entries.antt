-- What stands as a list of entries, in any order: each is an identity, and what stands there.
use Rattle.std.specs.Prelude.{◌≡◌, true, false, Bool, List, [], ◌∷◌, ◌++◌}
use Rattle.std.specs.FinMap.Entries.{find}
use Rattle.std.specs.List.{list_any}
use Rattle.yw_base.specs.Identity.{under}
use Rattle.yw_sites.specs.Idents.{Each}
use Rattle.yw_state.specs.Identity.{Ident}
use Rattle.yw_state.specs.Map.{get, lexical}
use Rattle.yw_state.specs.State.{Site, Sites}

abbrev pub Entry : Type 0
Entry = Ident × Site

abbrev pub Entries : Type 0
Entries = List Entry

-- each stands under i
abbrev pub AllUnder : Ident → Entries → Type 0
AllUnder i es = Each (λ (e : Entry). under e.0 i ≡ true) es

-- none stands under i
abbrev pub NoneUnder : Ident → Entries → Type 0
NoneUnder i es = Each (λ (e : Entry). under e.0 i ≡ false) es

-- q is one of these, or stands under one of them
abbrev pub under_any : Ident → List Ident → Bool
under_any q js = list_any (λ j. under q j) js

-- no two stand at one identity
abbrev pub Unique : Entries → Type 0
Unique [] = Unit {0}
Unique (e ∷ es) = Each (λ (f : Entry). f.0 ≡ e.0 → ⊥) es × Unique es

-- Of es all that stands under i is old, in one piece. In fs new stands there in its place, and all else is as in es.
pub record Swaps (i : Ident) (old new es fs : Entries) : Type 0 where
  pub front : Entries
  pub back : Entries
  pub before : es ≡ front ++ (old ++ back)
  pub after : fs ≡ front ++ (new ++ back)
  pub front_apart : NoneUnder i front
  pub back_apart : NoneUnder i back

-- At i and under it n has what these entries say, and elsewhere what m has.
pub record Gains (m : Sites) (i : Ident) (es : Entries) (n : Sites) : Type 0 where
  pub within : (q : Ident) → under q i ≡ true → get n q ≡ find lexical q es
  pub elsewhere : (q : Ident) → under q i ≡ false → get n q ≡ get m q
