use Rattle.std.proofs.Common.{List, All, sym, subst, ◌≡◌, true, ℕ}
use Rattle.yw_accept.specs.Names.{is_usable}
use Rattle.yw_accept.proofs.Places.{ends_usable}
use Rattle.yw_accept.proofs.ReadyLemmas.{usable_input, usable_output, usable_conditions}
use Rattle.yw_build.proofs.places.places_of.Goals as goal

pub push_named-requires : goal.push_named-requires
push_named-requires c = usable_input c.args.net.now c.requires.named

pub push_named-requires-2 : goal.push_named-requires-2
push_named-requires-2 c = usable_output c.args.net.now c.requires.named

pub push_conditions-requires : goal.push_conditions-requires
push_conditions-requires c =
    let P : List (List ℕ) → Type 0 = λ names. All (λ name. is_usable name ≡ true) names in
    subst P (sym c.as_slice.ensures) (usable_conditions c.args.net.now c.requires.named)

pub push_implicit-requires-clause-names : goal.push_implicit-requires-clause-names
push_implicit-requires-clause-names c = ends_usable c.args.net.now c.requires.named c.requires.leads
