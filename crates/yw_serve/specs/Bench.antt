-- The lines of a bench: a large input that two numbers make. One person and one specification, and for each case four lines. Our own.
use Rattle.std.specs.Prelude.{ℕ, ◌+◌, ◌*◌, ◌/◌, ◌%◌, ◌^◌, List, [], ◌∷◌, ◌++◌, codes}
use Rattle.std.specs.Fmt.{decimal}
use Rattle.std.proofs.Common.{zero, suc}

-- the person who does all work
unfoldable pub person_line : List ℕ
person_line = codes "{\"cmd\":\"person\",\"name\":\"bot\",\"roles\":[]}"

-- The specification: a task by hand, and behind it one of two empty ones, by the amount. In the line `\n` stands for the end of a line of its text.
unfoldable pub load_line : List ℕ
load_line =
    codes "{\"cmd\":\"load\",\"toml\":\"name='bench'\\ntop='main'\\n[[net]]\\nname='main'\\ninput='i'\\noutput='o'\\n"
    ++ codes "vars=[{name='amount',sort='int',use='in'}]\\n"
    ++ codes "flows=[['i','t'],['t','low'],['t','high'],['low','o'],['high','o']]\\n"
    ++ codes "[[net.task]]\\nname='t'\\nsplit='xor'\\nbranch=[{to='low',when='amount < 500'},{to='high'}]\\n"
    ++ codes "[[net.task]]\\nname='low'\\nkind='empty'\\n[[net.task]]\\nname='high'\\nkind='empty'\"}"

unfoldable pub launch_line : ℕ → List ℕ
launch_line amount = codes "{\"cmd\":\"launch\",\"spec\":\"bench\",\"data\":{\"amount\":" ++ decimal amount ++ codes "}}"

unfoldable pub enter_line : ℕ → List ℕ
enter_line case = codes "{\"cmd\":\"enter\",\"who\":\"bot\",\"case\":\"" ++ decimal case ++ codes "\",\"task\":\"t\"}"

-- the item that a case's `enter` makes has the number behind the case's
unfoldable pub start_line : ℕ → List ℕ
start_line case =
    codes "{\"cmd\":\"start\",\"who\":\"bot\",\"item\":\"" ++ decimal case ++ codes "." ++ decimal (case + 1) ++ codes "\"}"

unfoldable pub complete_line : ℕ → List ℕ
complete_line case =
    codes "{\"cmd\":\"complete\",\"who\":\"bot\",\"item\":\"" ++ decimal case ++ codes "." ++ decimal (case + 1) ++ codes "\",\"out\":{}}"

-- the row of numbers by which amounts are chosen: the next after one, and the one after so many steps
abbrev pub next_seed : ℕ → ℕ
next_seed seed = (seed * 1103515245 + 12345) % (2 ^ 31)

abbrev pub seed_after : ℕ → ℕ → ℕ
seed_after start zero = start
seed_after start (suc k) = next_seed (seed_after start k)

-- 0 to 999
abbrev pub amount_of : ℕ → ℕ
amount_of seed = (seed / 65536) % 1000

-- the lines of the case with this number and this amount
abbrev pub case_lines : ℕ → ℕ → List (List ℕ)
case_lines case amount = launch_line amount ∷ enter_line case ∷ start_line case ∷ complete_line case ∷ []

-- those of so many cases: a case draws three numbers, for itself and two items, so that case k + 1 has the number 3k + 1
abbrev pub cases_lines : ℕ → ℕ → List (List ℕ)
cases_lines start zero = []
cases_lines start (suc k) = cases_lines start k ++ case_lines (3 * k + 1) (amount_of (seed_after start (suc k)))

abbrev pub bench_lines : ℕ → ℕ → List (List ℕ)
bench_lines start count = person_line ∷ load_line ∷ cases_lines start count
