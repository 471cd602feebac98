use Rattle.yw_library.specs.Names.{names_of}
use Rattle.yw_worklist.proofs.look.see.Goals as goal

pub returns : goal.returns
returns c = λ s held.
    let marks = c.marks_at-suspended.ensures (names_of c.args.known.now) s held.held.boxed held.held.sites in
    record { opens = c.in_ok-opens.ensures s held; mark = marks.0; run = marks.1 }
