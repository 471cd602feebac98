-- A case more among those that are over.
use Rattle.std.proofs.Common.{ap, sym, ◌∙◌}
use Rattle.std.proofs.lemmas.Cmp.{nat_cmp_total}
use Rattle.std.specs.BTreeMap.{insert_entry, is_at}
use Rattle.std.specs.FinMap.Entries.{find, find-put, put}
use Rattle.std.specs.Map.{lookup}
use Rattle.std.specs.Ordering.{eq_by_cmp, nat_cmp}
use Rattle.std.specs.Prelude.{List, Some, [], cond, refl, ℕ, ◌∷◌, ◌≡◌}
use Rattle.std.specs.declared.cmp.Ordering.{Ordering}
use Rattle.std.specs.declared.cmp.Ordering.TheVariants.{Equal, Greater, Less}
use Rattle.yw_library.specs.Ended.{ended_of}
use Rattle.yw_state.proofs.MapEntries.{get-of_entries}
use Rattle.yw_state.proofs.MapLemmas.{by_number, get-insert, same_map}
use Rattle.yw_state.specs.Map.{get, insert}
use Rattle.yw_state.specs.declared.part.Way.{Way}

-- an entry goes to the place at which a map has it
by_place : (n : ℕ) (way : Way) (e : ℕ × Way) (es : List (ℕ × Way)) (o : Ordering) → nat_cmp n e.0 ≡ o → insert_entry nat_cmp es n way ≡ put nat_cmp n way es
    → insert_entry nat_cmp (e ∷ es) n way ≡ put nat_cmp n way (e ∷ es)
by_place n way e es Less is rest = rw is refl
by_place n way e es Equal is rest = rw is refl
by_place n way e es Greater is rest = rw is (ap (λ z. e ∷ z) rest)

as_put : (n : ℕ) (way : Way) (es : List (ℕ × Way)) → insert_entry nat_cmp es n way ≡ put nat_cmp n way es
as_put n way [] = refl
as_put n way (e ∷ es) = by_place n way e es (nat_cmp n e.0) refl (as_put n way es)

pub put_ended : (es : List (ℕ × Way)) (n : ℕ) (way : Way) → ended_of (insert_entry nat_cmp es n way) ≡ insert (ended_of es) n way
put_ended es n way = same_map by_number (ended_of (insert_entry nat_cmp es n way)) (insert (ended_of es) n way) (λ q.
    get-of_entries by_number (insert_entry nat_cmp es n way) q
    ∙ ap (find nat_cmp q) (as_put n way es)
    ∙ find-put nat_cmp nat_cmp_total q n way es
    ∙ sym (get-insert by_number (ended_of es) n way q ∙ ap (cond (eq_by_cmp nat_cmp q n) (Some way)) (get-of_entries by_number es q)))

found : (n : ℕ) (es : List (ℕ × Way)) → lookup (is_at (nat_cmp n)) es ≡ find nat_cmp n es
found n [] = refl
found n (e ∷ es) = ap (cond (eq_by_cmp nat_cmp n e.0) (Some e.1)) (found n es)

pub get_ended : (n : ℕ) (es : List (ℕ × Way)) → lookup (is_at (nat_cmp n)) es ≡ get (ended_of es) n
get_ended n es = found n es ∙ sym (get-of_entries by_number es n)
