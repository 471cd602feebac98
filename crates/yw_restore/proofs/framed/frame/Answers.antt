use Rattle.std.proofs.Common.{◌≡◌, ◌-◌, ◌<◌, ◌^◌, [], ◌∷◌, ◌++◌, length, drop, arith, length-drop}
use Rattle.std.proofs.lemmas.Grind.{common_steps}
use Rattle.byteorder.specs.Endian.{big_bytes}
use Rattle.yw_restore.proofs.Framing.{framed_is}
use Rattle.yw_restore.proofs.framed.frame.Goals as goal

pub returns : goal.returns
returns c =
    let bytes = drop 8 c.args.out.now.items in
    let number = length c.args.out.now.items - 8 in
    let size : number ≡ length bytes = omega (arith, length-drop 8 c.args.out.now.items) in
    let fits : number < 2 ^ 64 = omega arith in
    let is : c.push.new.self.items ≡ (big_bytes 8 number ++ bytes) ++ 0 ∷ [] = grind (arith, common_steps) in
    framed_is number bytes c.push.new.self.items size fits is
