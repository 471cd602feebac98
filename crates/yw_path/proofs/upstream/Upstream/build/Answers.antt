use Rattle.std.proofs.Common.{ℕ, List, [], length, get_or, ap, subst, arith}
use Rattle.std.specs.Prelude.{Contains}
use Rattle.yw_path.proofs.UpstreamLemmas.{is_upstream}
use Rattle.yw_path.proofs.upstream.Upstream.build.Goals as goal
use Rattle.yw_path.specs.Places.{HaveRows}

pub row_numbers-requires-clause-into : goal.row_numbers-requires-clause-into
row_numbers-requires-clause-into c = λ d t h.
    let P : List (List ℕ) → Type 0 = λ ls. Contains (get_or ls d []) t in
    omega (arith, (c.in_ok-into.ensures.only d t (subst P c.deref-2.ensures.value h)).0, ap length c.as_slice.ensures)

pub returns : goal.returns
returns c =
    let P : List (List ℕ) → Type 0 = λ ls. HaveRows (length ls) ls c.close.new.rows.items c.row_numbers.new.rows.items c.in_ok-row_numbers.row_numbers.items in
    is_upstream c.args.net.now c.requires c.in_ok-into.into.items c.in_ok-rows.rows.items c.close.new.rows.items _
    c.in_ok-into.ensures c.in_ok-rows.ensures c.in_ok-close.ensures (subst P c.deref-2.ensures.value c.in_ok-row_numbers.ensures) c.in_ok-inputs.ensures
