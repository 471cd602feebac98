use Rattle.std.proofs.Common.{None, Some, [], ap, append-nil, get_or, sym, take, ◌++◌, ◌∙◌, ◌∷◌, ◌≡◌}
use Rattle.std.proofs.lemmas.List.{get_or_default}
use Rattle.std.specs.Option.{option_copied, option_to_list}
use Rattle.std.specs.Prelude.{slice_get}
use Rattle.yw_task.proofs.MadeLaw.{found_more}
use Rattle.yw_walk.proofs.places.places_of.Goals as goal
use Rattle.yw_walk.proofs.places.places_of.Goals.{in-Some+in_ok-copy_of+in_ok-push, in_default}
use Rattle.yw_walk.specs.Places.{places_numbered}

pub loop-c-preserved : goal.loop-c-preserved
loop-c-preserved c =
    let g = slice_get c.args.net.now.places in
    let xs = c.args.numbers.now in
    let k = get_or xs c.loop-c.c-index 0 in
    let so_far = places_numbered c.args.net.now (take c.loop-c.c-index xs) in
    let more = found_more g xs c.loop-c.c-index k c.loop-c-test.true (get_or_default xs c.loop-c.c-index 0 k c.loop-c-test.true) in
    elim c.match-get.branch [
      | in-Some+in_ok-copy_of+in_ok-push w ↦
          let found : Some w.in_ok-copy_of.field-0 ≡ g k = ap (λ t. Some t) w.in_ok-copy_of.ensures ∙ w.in-Some.ensures in
          w.places-is ∙ w.in_ok-push.ensures.ok ∙ ap (λ z. z ++ w.in_ok-copy_of.field-0 ∷ []) c.loop-c.invariant ∙ ap
          (λ o. so_far ++ option_to_list o) found ∙ sym more
      | in_default w ↦
          let none : None ≡ g k = sym (ap option_copied w.in_default.is) ∙ c.get.ensures in
          w.places-is ∙ c.loop-c.invariant ∙ sym (append-nil so_far) ∙ ap (λ o. so_far ++ option_to_list o) none ∙ sym more
    ]
