-- What a source in memory stands for that fails where it is told to.
use Rattle.std.specs.Prelude.{ℕ, List, Option, Some, drop}
use Rattle.yw_outside.specs.declared.mem_source.MemSource.{MemSource}

-- the bytes still to come
abbrev pub left_of : MemSource → Option (List ℕ)
left_of s = Some (drop s.at s.bytes.items)

-- how many bytes the last read with Ok gave
abbrev pub piece_of : MemSource → ℕ
piece_of s = s.piece

-- how often it has failed
abbrev pub faults_of : MemSource → ℕ
faults_of s = s.faults

-- how many bytes a read gives at most
abbrev pub most_of : MemSource → ℕ
most_of s = s.most

-- the numbers, from 1, of the reads that fail
abbrev pub failing_reads : MemSource → List ℕ
failing_reads s = s.fail.items

-- how many reads there were
abbrev pub reads_of : MemSource → ℕ
reads_of s = s.reads
