use Rattle.std.proofs.Common.{map, refl, sym}
use Rattle.std.proofs.lemmas.Result.{on_ok_weaker}
use Rattle.yw_restore.proofs.Growing.{one_more}
use Rattle.yw_restore.proofs.gather.gather_run.Goals as goal
use Rattle.yw_restore.specs.Lines.{ident_of_mark, row_of_due, row_of_run}
use Rattle.yw_sites.proofs.Each.{nil_right}

pub returns : goal.returns
returns c =
    let old = c.args.lines.now in
    on_ok_weaker c.push.result
    (λ pushed names. record {
      runs = one_more row_of_run old.runs c.push.new.self _ _ pushed refl;
      suspended = sym (nil_right (map ident_of_mark old.suspended));
      due = sym (nil_right (map row_of_due old.due));
      nets = refl;
      tokens = refl;
      items = refl;
    }) c.push.ensures.ok
