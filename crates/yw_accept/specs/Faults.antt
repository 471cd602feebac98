-- What is named for a demand that isn't met.
use Rattle.std.specs.Prelude.{ℕ, List, ◌++◌, codes, if◌then◌else◌}
use Rattle.std.specs.Fmt.{decimal}
use Rattle.yw_base.specs.Spelling.{is_name}
use Rattle.yw_accept.specs.declared.broken.Broken.{Broken}

-- a text that isn't a name is `?`
abbrev pub name_or_mark : List ℕ → List ℕ
name_or_mark name = if is_name name then name else codes "?"

-- of something in a net
abbrev pub in_net : ℕ → List ℕ → List ℕ → Broken
in_net number net offender = record { number = number; net = name_or_mark net; offender = name_or_mark offender }

-- of a net, whose name stands in both places
abbrev pub of_net : ℕ → List ℕ → Broken
of_net number net = in_net number net net

-- of the specification, for which `-` stands in the net's place
abbrev pub of_spec : ℕ → List ℕ → Broken
of_spec number offender = record { number = number; net = codes "-"; offender = name_or_mark offender }

-- `V3 main x`
abbrev pub broken_text : Broken → List ℕ
broken_text broken = codes "V" ++ decimal broken.number ++ codes " " ++ broken.net ++ codes " " ++ broken.offender
