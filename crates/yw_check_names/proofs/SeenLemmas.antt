-- What a set of names has after one name more.
use Rattle.std.proofs.Common.{◌≡◌, ℕ, ◌||◌, ◌++◌, List, [], ◌∷◌, Bool, true, false, cond, not, String, Global, refl, sym, ap, ◌∙◌}
use Rattle.std.proofs.Math.Bool.{or_comm, or-false}
use Rattle.std.proofs.lemmas.List.Folds.{list_any-append}
use Rattle.std.proofs.lemmas.Map.Text.{btree_set_updates_text}
use Rattle.std.specs.BTreeSet.{IsEmpty, Updates, contains, contains_text}
use Rattle.std.specs.Cmp.Lexicographic.{nat_list_eq_equiv}
use Rattle.std.specs.Str.{bytes_eq}
use Rattle.std.specs.String.{string_bytes, string_cmp}
use Rattle.yw_accept.specs.Names.{is_new}
use Rattle.yw_accept.specs.Nodes.{is_name_among}
use Rattle.yw_check_names.specs.Seen.{NameSet, Knows, Adds}

cond_or : (b c : Bool) → cond b true c ≡ (b || c)
cond_or true c = refl
cond_or false c = refl

pub adds : (old new : NameSet) (key : String Global) (added : Bool) → added ≡ not (contains string_cmp old key) → Updates string_cmp old new key true → Adds old new (string_bytes key) added
adds old new key added is_new updates = record {
  is_new = is_new;
  has = λ other.
      btree_set_updates_text (string_bytes key) old new true updates other
      ∙ cond_or (bytes_eq (string_bytes key) other) (contains_text old other)
      ∙ or_comm (bytes_eq (string_bytes key) other) (contains_text old other)
      ∙ ap (λ b. contains_text old other || b) (nat_list_eq_equiv.symm (string_bytes key) other);
}

pub knows_none : (set : NameSet) → IsEmpty set → Knows set []
knows_none set empty = record { has = λ name. rw empty refl }

pub is_name_among-push : (names : List (List ℕ)) (name other : List ℕ) → is_name_among (names ++ name ∷ []) other ≡ (is_name_among names other || bytes_eq other name)
is_name_among-push names name other =
    list_any-append (bytes_eq other) names (name ∷ []) ∙ ap (λ b. is_name_among names other || b) (or-false (bytes_eq other name))

pub knows_more : (old new : NameSet) (name : List ℕ) (added : Bool) → Adds old new name added → (names : List (List ℕ)) → Knows old names → Knows new (names ++ name ∷ [])
knows_more old new name added adds names knows = record {
  has = λ other. adds.has other ∙ ap (λ b. b || bytes_eq other name) (knows.has other) ∙ sym (is_name_among-push names name other);
}
