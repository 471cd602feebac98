-- Cases by number.
use Rattle.std.specs.BTreeMap.{is_at}
use Rattle.std.specs.Borrow.{Fml, LendsIf, MutBor}
use Rattle.std.specs.Map.{lookup, remove_entry, set_value}
use Rattle.std.specs.Ordering.{nat_cmp}
use Rattle.std.specs.Prelude.{List, Option, ℕ}
use Rattle.yw_tree.specs.contracts.Case.{the_row as case_row}
use Rattle.yw_tree.specs.contracts.cases.CaseTable.{the_row as table_row}
use Rattle.yw_tree.specs.declared.Case.{Case}

abbrev pub CaseList : Type 0
CaseList = List (ℕ × Case)

abbrev pub case_at : ℕ → CaseList → Option Case
case_at n es = lookup (is_at (nat_cmp n)) es

-- with c as the case of number n
abbrev pub with_case : ℕ → CaseList → Case → CaseList
with_case n es c = set_value (is_at (nat_cmp n)) es c

abbrev pub without_case : ℕ → CaseList → CaseList
without_case n es = remove_entry (is_at (nat_cmp n)) es

abbrev pub LendsCase : MutBor CaseList → ℕ → Option (MutBor Case) → Fml
LendsCase s n r = LendsIf table_row case_row s r (with_case n s.now) s.now
