use Rattle.std.proofs.Common.{◌≡◌, ℕ, ◌<◌, List, [], length, get_or, refl, ◌∙◌, subst, arith}
use Rattle.std.proofs.lemmas.List.{get_or_read_under}
use Rattle.yw_path.proofs.ClosureLemmas.{Closing, closing_all, closing_more}
use Rattle.yw_path.proofs.closure.close.Goals as goal
use Rattle.yw_path.specs.Bits.{Has}
use Rattle.yw_path.specs.Rows.{AddsWhere}

pub loop-k-preserved : goal.loop-k-preserved
loop-k-preserved c =
    let rows : List (List ℕ) = c.loop-k.rows.items in
    let lt : c.loop-k.k < length rows = omega (arith, c.loop-k.invariant.are_rows.len) in
    let pivot_is : c.in_ok-pivot.pivot ≡ get_or rows c.loop-k.k [] = c.in_ok-pivot.ensures ∙ get_or_read_under rows c.loop-k.k (length rows) c.index.result.now [] c.index.ensures lt refl in
    let P : List ℕ → Type 0 = λ pivot. AddsWhere c.loop-k.k (Has pivot) rows c.join_where.new.rows.items in
    closing_more c.loop-k.k c.args.rows.now.items rows c.join_where.new.rows.items c.loop-k.invariant (subst P pivot_is c.join_where.ensures)

pub returns : goal.returns
returns c =
    let last : c.loop-k.k ≡ length c.args.rows.now.items = omega arith in
    let P : ℕ → Type 0 = λ n. Closing n c.args.rows.now.items c.loop-k.rows.items in
    closing_all c.args.rows.now.items c.loop-k.rows.items c.requires.rows c.requires.each (subst P last c.loop-k.invariant)
