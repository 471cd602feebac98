-- Names of specifications under their bytes.
use Rattle.std.specs.Prelude.{◌≡◌, ℕ, List, map}
use Rattle.std.specs.Borrow.{Bor}
use Rattle.yw_library.specs.Holdings.{spec_name}
use Rattle.yw_state.proofs.Entries.{IsIn}
use Rattle.yw_state.specs.declared.loaded.Loaded.{Loaded}

abbrev pub Named : Type 0
Named = Bor (List ℕ) × Bor (List ℕ)

-- the names, in the order of the entries
abbrev pub names_in : List Named → List (List ℕ)
names_in es = map (λ e. e.1.now) es

-- Each name of a specification under its bytes, and no other.
pub record AreNames (specs : List Loaded) (es : List Named) : Type 0 where
  pub named : (e : Named) → IsIn es e → e.0.now ≡ e.1.now
  pub each : (e : Named) → IsIn es e → IsIn (map spec_name specs) e.1.now
  pub there : (name : List ℕ) → IsIn (map spec_name specs) name → IsIn (names_in es) name
