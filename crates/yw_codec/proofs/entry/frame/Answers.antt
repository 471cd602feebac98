use Rattle.std.proofs.Common.{◌≡◌, ◌<◌, [], ◌∷◌, ◌++◌, length, drop, arith, length-drop}
use Rattle.std.proofs.lemmas.Grind.{common_steps}
use Rattle.byteorder.specs.Endian.{big_bytes}
use Rattle.yw_codec.proofs.Frames.{framed_is}
use Rattle.yw_codec.proofs.entry.frame.Goals as goal
use Rattle.yw_codec.specs.Fields.{u32_end}

pub returns-clause-frame : goal.returns-clause-frame
returns-clause-frame c =
    let bytes = drop 4 c.args.out.now.items in
    let size : c.in-Ok.size ≡ length bytes = omega (arith, length-drop 4 c.args.out.now.items) in
    let fits : c.in-Ok.size < u32_end = omega arith in
    let is : c.push.new.self.items ≡ (big_bytes 4 c.in-Ok.size ++ bytes) ++ 0 ∷ [] = grind (arith, common_steps) in
    framed_is c.in-Ok.size bytes c.push.new.self.items size fits is
