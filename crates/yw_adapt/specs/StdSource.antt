-- What a source over a reader counts.
use Rattle.std.specs.Prelude.{ℕ}
use Rattle.yw_adapt.specs.declared.calls.Calls.{Calls}
use Rattle.yw_adapt.specs.declared.std_source.StdSource.{StdSource}

-- the reader
abbrev pub inner_of : {R : Type 0} → StdSource R → R
inner_of s = s.inner

-- how many bytes the last read with Ok gave
abbrev pub piece_of : {R : Type 0} → StdSource R → ℕ
piece_of s = s.piece

-- the calls of the reader
abbrev pub calls_of : {R : Type 0} → StdSource R → Calls
calls_of s = s.calls

-- how often it has failed
abbrev pub faults_of : {R : Type 0} → StdSource R → ℕ
faults_of s = s.calls.failed
