-- Persons of rows that ascend by name.
use Rattle.std.proofs.Common.{◌≡◌, ◌∙◌, ◌++◌, ◌∷◌, [], ℕ, List, T, true, map, refl, sym, ap, subst}
use Rattle.std.proofs.lemmas.List.{map-append}
use Rattle.std.specs.Ordering.{is_lt}
use Rattle.yw_library.proofs.HoldingsLemmas.{put_person-push}
use Rattle.yw_library.specs.Holdings.{person_name, put_person, roles_under}
use Rattle.yw_library.specs.Numbers.{NoneNamed}
use Rattle.yw_library.specs.declared.items.Person.{Person}
use Rattle.yw_revive.proofs.InOrder.{ascend_keys, earlier, entries_are, lower, not_itself}
use Rattle.yw_revive.proofs.Lists.{in_at, in_map, map_map}
use Rattle.yw_revive.specs.Names.{person_of}
use Rattle.yw_state.proofs.Entries.{IsIn}
use Rattle.yw_state.proofs.MapLemmas.{by_name}
use Rattle.yw_state.specs.Map.{entries, lexical, of_entries}
use Rattle.yw_states.specs.Ascending.{ascend}
use Rattle.yw_states.specs.Rows.{person_before}
use Rattle.yw_states.specs.States.{person_row}
use Rattle.yw_states.specs.declared.kept.PersonRow.{PersonRow}

abbrev name : PersonRow → List ℕ
name row = row.name

names_up : (rows : List PersonRow) → ascend person_before rows ≡ true → ascend (lower by_name) (map name rows) ≡ true
names_up rows up = sym (ascend_keys name person_before (lower by_name) (λ a b. refl) rows) ∙ up

-- one person more
pub next_person : (rows front back : List PersonRow) (row : PersonRow) → rows ≡ front ++ (row ∷ back) → ascend person_before rows ≡ true
    → put_person (person_of row) (map person_of front) ≡ map person_of (front ++ (row ∷ []))
next_person rows front back row split up =
    put_person-push (person_of row) (map person_of front) none ∙ sym (map-append person_of front (row ∷ []))
  where
    keys : ascend (lower by_name) (map name front ++ (row.name ∷ map name back)) ≡ true
    keys = ap (ascend (lower by_name)) (sym (ap (map name) split ∙ map-append name front (row ∷ back))) ∙ names_up rows up

    none : NoneNamed person_name (map person_of front) row.name
    none i p at same =
        let within = in_map person_name (map person_of front) p (in_at (map person_of front) i p at) in
        let before = earlier by_name (map name front) (map name back) row.name keys p.name
        (subst (λ (ns : List (List ℕ)). IsIn ns p.name) (map_map person_of person_name front) within) in
        not_itself by_name row.name (subst (λ (n : List ℕ). T (is_lt (lexical n row.name))) same before)

pub all_persons : (rows : List PersonRow) → ascend person_before rows ≡ true
    → map person_row (entries (of_entries {R = lexical} (map roles_under (map person_of rows)))) ≡ rows
all_persons rows up =
    ap (map person_row)
    (entries_are by_name (map roles_under (map person_of rows)) (ap (ascend (lower by_name)) (keys_same rows) ∙ names_up rows up)) ∙ rows_same rows
  where
    keys_same : (rows : List PersonRow) → map (λ (e : List ℕ × List (List ℕ)). e.0) (map roles_under (map person_of rows)) ≡ map name rows
    keys_same [] = refl
    keys_same (r ∷ rs) = ap (λ z. r.name ∷ z) (keys_same rs)

    rows_same : (rows : List PersonRow) → map person_row (map roles_under (map person_of rows)) ≡ rows
    rows_same [] = refl
    rows_same (r ∷ rs) = ap (λ z. r ∷ z) (rows_same rs)
