-- An OR-join's wait, by what is kept of tokens and active tasks.
use Rattle.std.proofs.Common.{◌≡◌, ℕ, Bool, true, List, sym, ap, ◌∙◌}
use Rattle.std.specs.Prelude.{not}
use Rattle.yw_mark.proofs.JoinLemmas.{marked-same}
use Rattle.yw_mark.specs.Tokens.{HasMarks}
use Rattle.yw_path.proofs.DirectLemmas.{task_ahead}
use Rattle.yw_path.proofs.NetLemmas.{first_flow}
use Rattle.yw_path.specs.Waiting as kept
use Rattle.yw_path.specs.Waiting.{HasActive, MayFill}
use Rattle.yw_spec.specs.Net.{Node, Path, at_place, at_task}
use Rattle.yw_state.specs.Identity.{Ident}
use Rattle.yw_state.specs.Joins.{Waits, holds_token}
use Rattle.yw_state.specs.State.{State, TaskAt}

module _ (s : State) (i : Ident) (x : TaskAt) (marks : List ℕ) (actives : List Bool) (has : HasMarks s i marks) (active : HasActive s i x.within.net actives) where
  -- what has a path to a place holds a token in the net exactly where it does by what is kept
  holds-same : (source : Node) (c : ℕ) → Path x.within.net source (at_place c) → holds_token s i source ≡ kept.holds_token marks actives source
  holds-same (at_place d) c p = marked-same s i marks has d
  holds-same (at_task t) c p = let flow = first_flow x.within.net t c p in active t (task_ahead x.within.net t flow.0 flow.1)

  pub fills : Waits s i x → MayFill x.within.net x.task marks actives
  fills w = record {
    input = w.input;
    of_task = w.of_task;
    empty = ap not (sym (marked-same s i marks has w.input)) ∙ w.empty;
    comes = record { source = w.source; holds = sym (holds-same w.source w.input w.path) ∙ w.holds; path = w.path };
  }

  pub waits : MayFill x.within.net x.task marks actives → Waits s i x
  waits f = record {
    input = f.input;
    of_task = f.of_task;
    empty = ap not (marked-same s i marks has f.input) ∙ f.empty;
    source = f.comes.source;
    holds = holds-same f.comes.source f.input f.comes.path ∙ f.comes.holds;
    path = f.comes.path;
  }
