-- The exit of a task, on the whole forest.
use Rattle.std.proofs.Common.{Bool, List, Some, ap, cond, subst, sym, true, ℕ, ◌∙◌, ◌≡◌}
use Rattle.std.proofs.lemmas.Bool.{and_parts}
use Rattle.std.specs.Prelude.{slice_get, ◌&&◌}
use Rattle.yw_base.specs.Identity.{is_identity, case_number}
use Rattle.yw_spec.specs.declared.spec.Net.{Net}
use Rattle.yw_spec.specs.declared.spec.Place.{Place}
use Rattle.yw_spec.specs.declared.task.Task.{Task}
use Rattle.yw_state.proofs.Tests.{by_test}
use Rattle.yw_state.specs.After.{make_due, post_at_output, with_sites}
use Rattle.yw_state.specs.Allowed.{Allowed, allows}
use Rattle.yw_state.specs.Events.{after}
use Rattle.yw_state.specs.Identity.{Ident, is_case_ident}
use Rattle.yw_state.specs.Judged.{case_place, has_rules}
use Rattle.yw_state.specs.Map.{update}
use Rattle.yw_state.specs.Nets.{is_among}
use Rattle.yw_state.specs.State.{NetPart, State}
use Rattle.yw_state.specs.Texts.{Said, nothing}
use Rattle.yw_state.specs.declared.event.Event.TheVariants as events
use Rattle.yw_state.specs.declared.tree.TreeKind.TheVariants.{Post}
use Rattle.yw_state.specs.declared.tree.TreePlace.{TreePlace}
use Rattle.yw_steps.proofs.NetFound.{part_is, stands_so}
use Rattle.yw_steps.proofs.PostLaw.{judged_after, post_kept, post_map}
use Rattle.yw_steps.specs.Exits.{Exits, MayExit, NetLeaves, case_with_post, judged}
use Rattle.yw_task.proofs.EnterAsk.{net_with}
use Rattle.yw_task.specs.Leaving.{Exits as NetExits, ExitsTo}
use Rattle.yw_tree.proofs.NetAt.{case_ident_is, case_placed}
use Rattle.yw_tree.specs.Forest.{IsForest, sites_of}
use Rattle.yw_tree.specs.Places.{net_at as net_found, placed_net}
use Rattle.yw_tree.specs.declared.Forest.{Forest}
use Rattle.yw_tree.specs.declared.NetState.{NetState, out-NetState}

-- an exit says nothing of a text
for_each_text : (s : State) (i : Ident) (name : List ℕ) (places : List Place) (said : Said) → Allowed s (events.Exit i name places) nothing → Allowed s (events.Exit i name places) said
unfolding allows
for_each_text s i name places said allowed = allowed

module _ (f : Forest) (boxed : IsForest f) (i : Ident) (identity : is_identity i ≡ true) (u : NetState) (found : net_found f i ≡ Some u) (net : Net) (t : ℕ) (due_post : Bool) (w : NetState) (numbers : List ℕ) (does : NetExits net t u w numbers) where
  exits_to : (names : ℕ → List ℕ) (s : State) (said : Said) (task : Task) (places : List Place) → s.sites ≡ sites_of names f → slice_get net.tasks t ≡ Some task → MayExit net i task places due_post s
      → ExitsTo names f s i (net_with names net u) task places said w numbers
  exits_to names s said task places sites at may =
      does names f s i may.net_is.spec task places said (stands_so f boxed i identity u found names s sites net may.net_is) may.net_is.within at (for_each_text s i task.name places said may.allowed)

  -- the check of a case after its end
  module _ (names : ℕ → List ℕ) (s : State) (kept : IsForest (placed_net f i w)) (rule : is_case_ident i ≡ true → due_post ≡ has_rules s (case_place (names (out-NetState u).spec) Post)) where
    abbrev z : State
    z = with_sites s (sites_of names (placed_net f i w))

    abbrev p : TreePlace
    p = case_place (names (out-NetState u).spec) Post

    due_then : is_case_ident i && is_among numbers net.output ≡ true
        → (make_due z i p ≡ with_sites s (sites_of names (case_with_post (placed_net f i w) (case_number i) due_post))) × IsForest (case_with_post (placed_net f i w) (case_number i) due_post)
    due_then e =
        let alone : is_case_ident i ≡ true = (and_parts (is_case_ident i) (is_among numbers net.output) e).0 in
        let g : Forest = placed_net f i w in
        let c = case_placed f i u w alone found in
        let m = sites_of names g in (
          ap (λ (b : Bool). with_sites s (update m i (judged_after b))) (sym (rule alone))
              ∙ ap (λ (j : Ident). with_sites s (update m j (judged_after due_post))) (sym (case_ident_is i alone))
              ∙ ap (with_sites s) (sym (post_map g kept (case_number i) c.0 c.1 due_post names)),
          post_kept g kept (case_number i) c.0 c.1 due_post,
        )

    judged_then : (post_at_output z i (net_with names net u) numbers ≡ with_sites s (sites_of names (judged i net numbers due_post (placed_net f i w)))) × IsForest (judged i net numbers due_post (placed_net f i w))
    judged_then =
        let g : Forest = placed_net f i w in
        let h : Forest = case_with_post g (case_number i) due_post in
        by_test (is_case_ident i && is_among numbers net.output)
        (λ e.
        let d = due_then e in (
          ap (λ (b : Bool). cond b (make_due z i p) z) e ∙ d.0 ∙ ap (λ (b : Bool). with_sites s (sites_of names (cond b h g))) (sym e),
          subst (λ (b : Bool). IsForest (cond b h g)) (sym e) d.1,
        ))
        (λ e. (
          ap (λ (b : Bool). cond b (make_due z i p) z) e ∙ ap (λ (b : Bool). with_sites s (sites_of names (cond b h g))) (sym e),
          subst (λ (b : Bool). IsForest (cond b h g)) (sym e) kept,
        ))

  exited : (names : ℕ → List ℕ) (s : State) (said : Said) (task : Task) (places : List Place) → s.sites ≡ sites_of names f → slice_get net.tasks t ≡ Some task → MayExit net i task places due_post s
      → (after s (events.Exit i task.name places) said ≡ with_sites s (sites_of names (judged i net numbers due_post (placed_net f i w)))) × IsForest (judged i net numbers due_post (placed_net f i w))
  exited names s said task places sites at may =
      let to = exits_to names s said task places sites at may in
      let n = may.net_is in
      let rule : is_case_ident i ≡ true → due_post ≡ has_rules s (case_place (names (out-NetState u).spec) Post) =
      λ alone. may.rule alone ∙ ap (λ (q : NetPart). has_rules s (case_place q.spec Post)) (part_is f boxed i identity u found names s sites n.there n.stands) in
      let j = judged_then names s to.kept rule in
      (to.map ∙ j.0, j.1)

  pub exits : Exits net i t due_post f (judged i net numbers due_post (placed_net f i w))
  exits = λ task places at names s sites may.
      record {
        leads = λ others r said are so. (exited others r said task places are at so).0;
        boxed = (exited names s nothing task places sites at may).1;
      }

-- as the boxes have it
module _ (f : Forest) (boxed : IsForest f) (i : Ident) (identity : is_identity i ≡ true) (net : Net) (t : ℕ) (due_post : Bool) (g : Forest) (numbers : List ℕ) (leaves : NetLeaves net i t f g numbers) where
  pub exits_so : Exits net i t due_post f (judged i net numbers due_post g)
  exits_so =
      subst (λ (k : Forest). Exits net i t due_post f (judged i net numbers due_post k)) (sym leaves.placed)
      (exits f boxed i identity leaves.before leaves.found net t due_post leaves.later numbers leaves.exits)
