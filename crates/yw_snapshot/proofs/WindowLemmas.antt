-- What a window has of a file.
use Rattle.std.proofs.Common.{◌≡◌, ◌≤◌, ℕ, ◌+◌, ◌-◌, List, take, drop, sym, ap, ◌∙◌, arith}
use Rattle.std.proofs.lemmas.List.{drop-drop, drop-take, take-take}
use Rattle.yw_snapshot.specs.Window.{Covers, Shows, part_of, room_of}
use Rattle.yw_snapshot.specs.declared.window.Window.{Window}

-- a part of the first bytes is a part of all
part_of_first : (from count n : ℕ) (l : List ℕ) → from + count ≤ n → take count (drop from (take n l)) ≡ take count (drop from l)
part_of_first from count n l within =
    ap (λ k. take count (drop from (take k l))) (omega arith) ∙ ap (take count) (drop-take from (n - from) l) ∙ take-take count (n - from) (drop from l) (omega arith)

pub part_shown : (file : List ℕ) (window : Window) (at count : ℕ) → Covers window at count → Shows file window → part_of window at count ≡ take count (drop at file)
part_shown file window at count covers shows =
    let from = at - window.at in
    sym (part_of_first from count window.count (room_of window) (omega (arith, covers.from, covers.to)))
    ∙ ap (λ (l : List ℕ). take count (drop from l)) shows
    ∙ part_of_first from count window.count (drop window.at file) (omega (arith, covers.from, covers.to))
    ∙ ap (take count) (drop-drop from window.at file) ∙ ap (λ n. take count (drop n file)) (omega (arith, covers.from))
