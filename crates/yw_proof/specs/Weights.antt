-- The weights that a net's places and tasks are given: whole numbers under their names. Our own.
use Rattle.std.specs.Prelude.{ℕ, List, [], ◌∷◌, ◌++◌, map, not, find, Option, unwrap_or, option_and_then}
use Rattle.std.specs.List.{list_any}
use Rattle.std.specs.Option.{option_map_or}
use Rattle.std.specs.Str.{bytes_eq}
use Rattle.serde_json.specs.Data.{Data, Members, no_members, member}
use Rattle.serde_json.specs.Find.{as_number, as_object, as_u64, get}
use Rattle.yw_spec.specs.Net.{place_text}
use Rattle.yw_spec.specs.declared.spec.Net.{Net}
use Rattle.yw_spec.specs.declared.task.Task.{Task}

abbrev pub task_name : Task → List ℕ
task_name task = task.name

-- the names of the places and then of the tasks, in the order in which weights go
abbrev pub names_of : Net → List (List ℕ)
names_of net = map place_text net.places ++ map task_name net.tasks

-- ---- numbers

abbrev pub whole_number : Data → Option ℕ
whole_number d = option_and_then as_u64 (as_number d)

-- the whole number under a name, and 0, which is no weight, where there is none
abbrev pub number_under : Data → List ℕ → ℕ
number_under d name = unwrap_or (option_and_then whole_number (get name d)) 0

abbrev pub weights_in : Data → List (List ℕ) → List ℕ
weights_in d names = map (number_under d) names

-- ---- keys

abbrev pub keys_of : Members → List (List ℕ)
keys_of no_members = []
keys_of (member k d ms) = k ∷ keys_of ms

-- the first of these keys that is none of the names
abbrev pub unknown_among : List (List ℕ) → List (List ℕ) → Option (List ℕ)
unknown_among names keys = find (λ key. not (list_any (bytes_eq key) names)) keys

-- the first key of an object, in byte order, that is none of the names
abbrev pub unknown_key : List (List ℕ) → Data → Option (List ℕ)
unknown_key names d = unknown_among names (option_map_or keys_of (as_object d) [])
