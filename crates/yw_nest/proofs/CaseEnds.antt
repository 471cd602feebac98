-- A case that ends: what the map has then.
use Rattle.std.proofs.Common.{List, ap, sym, ℕ, ◌∙◌, ◌≡◌}
use Rattle.yw_nest.specs.Cases.{Cancels, Finishes, with_ended}
use Rattle.yw_state.specs.After.{end_case, with_sites}
use Rattle.yw_state.specs.Events.{after}
use Rattle.yw_state.specs.Identity.{case_ident}
use Rattle.yw_state.specs.State.{State, drop}
use Rattle.yw_state.specs.declared.part.Way.{Way}
use Rattle.yw_state.specs.declared.part.Way.TheVariants.{Cancelled, Finished}
use Rattle.yw_tree.specs.Becomes.{Drops}
use Rattle.yw_tree.specs.Forest.{IsForest, sites_of}
use Rattle.yw_tree.specs.declared.Forest.{Forest}

module _ (old new : Forest) (n : ℕ) (drops : Drops old new (case_ident n)) where
  over : (way : Way) (names : ℕ → List ℕ) (s : State) → s.sites ≡ sites_of names old → end_case s n way ≡ with_sites (with_ended n way s) (sites_of names new)
  over way names s is = ap (with_sites (with_ended n way s)) (ap (λ m. drop m (case_ident n)) is ∙ sym (drops names))

  pub finished : IsForest new → Finishes n old new
  unfolding after
  finished boxed = record { leads = λ names s said is needs. over Finished names s is; boxed = boxed }

  pub cancelled : IsForest new → Cancels n old new
  unfolding after
  cancelled boxed = record { leads = λ names s said is needs. over Cancelled names s is; boxed = boxed }
