use Rattle.std.proofs.Common.{get_or, refl, subst, sym, ◌∙◌}
use Rattle.yw_base.specs.Identity.{case_number}
use Rattle.yw_known.proofs.Items.{one_number}
use Rattle.yw_library.specs.Names.{names_of}
use Rattle.yw_walk.proofs.Stepping.{finishes_at}
use Rattle.yw_walk.proofs.items.finish_of.Goals as goal
use Rattle.yw_walk.specs.Finds.{IsFound}

pub returns-in-len1 : goal.returns-in-len1
returns-in-len1 c = λ known s held free out.
    let id = c.numbers.result.now in
    subst (IsFound s (case_number c.args.id.now)) (sym c.plainly.ensures)
    (record {
      comes = finishes_at s c.args.id.now (get_or id 0 0)
          (sym c.numbers.ensures.numbers ∙ one_number id c.in-len1.len_at_least c.in-len1.len_below) free
          (sym (c.is_busy.ensures.busy (names_of known) s held.boxed held.sites) ∙ c.if-not-is_busy.true) (out ∙ c.if-ends.true);
      computed = refl;
    })
