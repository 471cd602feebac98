-- Places of trees in the order of their keys.
use Rattle.std.proofs.Common.{◌≡◌, ◌∙◌, ap, refl}
use Rattle.std.specs.Ordering.{nat_cmp, ordering_then}
use Rattle.std.specs.declared.cmp.Ordering.{Ordering}
use Rattle.std.specs.declared.cmp.Ordering.TheVariants.{Less, Equal, Greater}
use Rattle.yw_state.specs.Judged.{kind_number, name_key, place_key}
use Rattle.yw_state.specs.Map.{lexical, lexical_each}
use Rattle.yw_state.specs.declared.tree.TreePlace.{TreePlace}

then_equal : (o : Ordering) → ordering_then o Equal ≡ o
then_equal Less = refl
then_equal Equal = refl
then_equal Greater = refl

-- by specification, then net, then task, then kind
pub places_ordered : (a b : TreePlace) → lexical_each (place_key a) (place_key b)
    ≡ ordering_then (lexical a.spec b.spec) (ordering_then (lexical (name_key a.net) (name_key b.net))
    (ordering_then (lexical (name_key a.task) (name_key b.task)) (nat_cmp (kind_number a.kind) (kind_number b.kind))))
places_ordered a b =
    ap (λ (o : Ordering). ordering_then (lexical a.spec b.spec)
    (ordering_then (lexical (name_key a.net) (name_key b.net)) (ordering_then (lexical (name_key a.task) (name_key b.task)) o)))
    (then_equal (ordering_then (nat_cmp (kind_number a.kind) (kind_number b.kind)) Equal)
    ∙ then_equal (nat_cmp (kind_number a.kind) (kind_number b.kind)))
