-- What lists of values say.
use Rattle.std.proofs.Common.{◌≡◌, List, ◌∷◌, ℕ, map, Option, Some, None, refl, sym, ap, ◌∙◌}
use Rattle.std.specs.Prelude.{option_and_then, option_map, codes}
use Rattle.serde_json.specs.Data.{Data, Items, no_items, item}
use Rattle.serde_json.specs.Find.{as_array, as_str, get}
use Rattle.yw_lines.specs.Fields.{exlet_of, field, list_of}
use Rattle.yw_lines.specs.Primitives.{primitive_in}
use Rattle.yw_lines.specs.Values.{each_of}
use Rattle.yw_state.specs.declared.tree.Conclusion.TheVariants.{Exlet}
use Rattle.yw_state.specs.declared.tree.Primitive.{Primitive}
use Rattle.yw_wire.specs.Steps.{step_of, steps_of}

with_step : (text : Option (List ℕ)) (texts : Option (List (List ℕ)))
    → option_and_then (λ step. option_map (λ steps. step ∷ steps) (option_map (map primitive_in) texts)) (option_map primitive_in text)
    ≡ option_map (map primitive_in) (option_and_then (λ t. option_map (λ ts. t ∷ ts) texts) text)
with_step None texts = refl
with_step (Some t) None = refl
with_step (Some t) (Some ts) = refl

each_step : (ds : Items) → each_of step_of ds ≡ option_map (map primitive_in) (each_of as_str ds)
each_step no_items = refl
each_step (item d ds) = ap (λ (steps : Option (List Primitive)). option_and_then (λ step. option_map (λ ss. step ∷ ss) steps) (step_of d)) (each_step ds) ∙ with_step (as_str d) (each_of as_str ds)

steps_in : (ds : Option Items) → option_and_then (each_of step_of) ds ≡ option_map (map primitive_in) (option_and_then (each_of as_str) ds)
steps_in None = refl
steps_in (Some ds) = each_step ds

exlet_from : (texts : Option (List (List ℕ))) → option_map (λ ts. Exlet (map primitive_in ts)) texts ≡ option_map Exlet (option_map (map primitive_in) texts)
exlet_from None = refl
exlet_from (Some ts) = refl

exlet_at : (d : Option Data) → option_map (λ ts. Exlet (map primitive_in ts)) (option_and_then (list_of as_str) d) ≡ option_map Exlet (option_and_then steps_of d)
exlet_at None = refl
exlet_at (Some d) = exlet_from (list_of as_str d) ∙ ap (option_map Exlet) (sym (steps_in (as_array d)))

-- the steps of an exlet are those of its texts
pub exlet_of_steps : (d : Data) → exlet_of d ≡ option_map Exlet (field steps_of (codes "exlet") d)
exlet_of_steps d = exlet_at (get (codes "exlet") d)
