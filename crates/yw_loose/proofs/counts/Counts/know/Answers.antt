use Rattle.std.proofs.Common.{sym}
use Rattle.yw_loose.proofs.Counting.{put_right}
use Rattle.yw_loose.proofs.counts.Counts.know.Goals as goal

pub returns : goal.returns
returns c = λ known s held was.
    put_right known c.args.forest.now s held c.args.at.now c.numbers.ensures.identity c.args.self.now c.put.new.self c.in_ok-done_counts.field-0
    c.in-Some.net.now (sym c.in-Some.ensures) c.in_ok-done_counts.ensures c.put.ensures was
