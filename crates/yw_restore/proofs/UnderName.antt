-- The text of what is loaded under a name.
use Rattle.std.proofs.Common.{◌≡◌, ◌∙◌, ◌∷◌, [], List, ℕ, Option, Some, None, ap, refl, sym}
use Rattle.std.specs.Prelude.{option_map}
use Rattle.yw_restore.specs.Names.{text_if_loaded, text_in}
use Rattle.yw_state.proofs.Tests.{nowhere, some_same}
use Rattle.yw_state.specs.declared.loaded.Loaded.{Loaded}

pub listed : (name : List ℕ) (o : Option Loaded) (text : List ℕ) → option_map text_in o ≡ Some text → text ∷ [] ≡ text_if_loaded name o
listed name None text e = nowhere e
listed name (Some l) text e = ap (λ (t : List ℕ). t ∷ []) (sym (some_same (text_in l) text e))

pub none_listed : (name : List ℕ) (o : Option Loaded) → option_map text_in o ≡ None → text_if_loaded name o ≡ []
none_listed name None e = refl
none_listed name (Some l) e = nowhere (sym e)
