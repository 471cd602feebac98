-- Texts by their numbers.
use Rattle.std.specs.Prelude.{◌≡◌, ℕ, List, false, Some, None, slice_get}
use Rattle.std.specs.BTreeMap.{get_by_text}
use Rattle.yw_accept.specs.Nodes.{is_name_among}
use Rattle.yw_accept.specs.declared.index.Index.{Index}

-- what is found stands there under its number, and what isn't found isn't among the texts
pub record IsIndexOf (texts : List (List ℕ)) (index : Index) : Type 0 where
  pub found : (text : List ℕ) (k : ℕ) → get_by_text index.numbers text ≡ Some k → slice_get texts k ≡ Some text
  pub missed : (text : List ℕ) → get_by_text index.numbers text ≡ None → is_name_among texts text ≡ false
