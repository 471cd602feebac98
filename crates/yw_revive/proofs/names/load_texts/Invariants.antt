use Rattle.std.proofs.Common.{◌≡◌, map, take}
use Rattle.yw_revive.proofs.names.load_texts.Given as goal
use Rattle.yw_revive.specs.Names.{text_of}

-- the texts so far are loaded
abbrev pub invariant-loop-text : goal.invariant-loop-text
invariant-loop-text l = record {
  persons : l.library.persons ≡ l.fn.library.persons;
  loaded : map text_of l.library.specs ≡ take l.text-index l.texts;
}
