-- The places of trees that are named after specifications and their tasks.
use Rattle.std.proofs.Common.{◌≡◌, ◌∙◌, ℕ, List, Some, refl, sym, ap, subst}
use Rattle.std.specs.Prelude.{All, option_and_then, option_map, slice_get}
use Rattle.yw_accept.proofs.FactsLemmas.{is_named}
use Rattle.yw_accept.specs.Built.{IsNet}
use Rattle.yw_accept.specs.Nodes.{net_names}
use Rattle.yw_accept.specs.Verdict.{IsVerdict}
use Rattle.yw_accepted.proofs.Found.{zip_names}
use Rattle.yw_accepted.proofs.Loaded.{accepted_are_within}
use Rattle.yw_accepted.proofs.Numbered.{named_at}
use Rattle.yw_library.specs.Holdings.{SaysItsText}
use Rattle.yw_trees.proofs.Right.{at_number}
use Rattle.yw_trees.specs.Owners.{NamesCases, NamesTasks, net_number, numbered_task}
use Rattle.yw_trees.specs.declared.owner.Owner.TheVariants.{Task}
use Rattle.yw_texts.specs.Texts.{IsAccepted}
use Rattle.yw_read.specs.declared.raw.RawNet.{RawNet}
use Rattle.yw_said.proofs.Numbers.{Apart, apart_names}
use Rattle.yw_spec.specs.declared.spec.Net.{Net}
use Rattle.yw_spec.specs.declared.spec.Spec.{Spec}
use Rattle.yw_state.specs.Nets.{task_number}
use Rattle.yw_state.specs.declared.loaded.Loaded.{Loaded}

nets_numbered : (text : List ℕ) (spec : Spec) → IsAccepted text spec → (n : ℕ) (net : Net) → slice_get spec.nets n ≡ Some net
    → net_number spec net.name ≡ Some n
unfolding IsVerdict
nets_numbered text spec a n net at =
    let names = zip_names (IsNet a.raw) (λ (rn : RawNet). rn.name) (λ (x : Net). x.name) (λ x y r. r.name) a.raw.net spec.nets a.is_spec.nets in
    named_at (λ (x : Net). x.name) spec.nets (subst Apart (sym names) (apart_names (net_names a.raw.net) (is_named a.raw a.accepted.0).nets_are.distinct))
    n net at

pub names_cases : (specs : List Loaded) → NamesCases specs
names_cases specs k l kind at = record { loaded = l; numbered = at; named = refl; here = refl }

pub names_tasks : (specs : List Loaded) → All SaysItsText specs → NamesTasks specs
names_tasks specs say k n t l net task kind at net_at task_at =
    let accepted : IsAccepted l.text l.spec = at_number SaysItsText specs say k l at in
    record {
      loaded = l;
      numbered = at;
      named = refl;
      here =
          ap (option_and_then (numbered_task k l.spec task.name)) (nets_numbered l.text l.spec accepted n net net_at)
          ∙ ap (option_and_then (λ (y : Net). option_map (λ u. Task k n u) (task_number y task.name))) net_at
          ∙ ap (option_map (λ u. Task k n u)) (((accepted_are_within l.text l.spec accepted).nets n net net_at).tasks t task task_at);
    }
