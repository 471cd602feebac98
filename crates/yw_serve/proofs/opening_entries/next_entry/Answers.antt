use Rattle.std.proofs.Common.{◌≡◌, ◌+◌, ℕ, Bool, List, [], ◌∷◌, ◌++◌, IsTrue, take, drop, sym, ap, ◌∙◌, subst, rules}
use Rattle.std.proofs.lemmas.List.{drop-drop}
use Rattle.std.specs.Bool.{MatchBool}
use Rattle.yw_outside.specs.declared.image.Image.{Image}
use Rattle.yw_engine.specs.Held as engine
use Rattle.yw_state.specs.State.{State}
use Rattle.yw_serve.specs.Damage.{EntryLeads}
use Rattle.yw_serve.specs.Opening.{IsReached, IsOpenHere, IsCutHere}
use Rattle.yw_serve.proofs.OpenRecords.{cut_at, none_at, reached_further, frame_here}
use Rattle.yw_serve.proofs.opening_entries.next_entry.Goals as goal

pub returns-in-Cut-clause-cause : goal.returns-in-Cut-clause-cause
returns-in-Cut-clause-cause g c = λ records. (
  (λ tells reached.
      let file = (g.D.Desk.state c.args.desk.now).a in
      let s : State = engine.state_of c.args.engine.now in
      let cut : IsCutHere (drop c.args.at file) = search rules in
      cut_at file c.args.at records s reached cut),
  c.in_ok-gate_at.ensures.cause.none_failed,
)

pub returns-then-branch-clause-reached : goal.returns-then-branch-clause-reached
returns-then-branch-clause-reached g c = λ tells records reached.
    let D = g.D.Desk in
    let file = (D.state c.args.desk.now).a in
    let at = c.args.at in
    let rest = drop at file in
    let size = c.in-Open.size in
    let s : State = engine.state_of c.args.engine.now in
    let t : State = engine.state_of c.apply_record.new.engine in
    let looked = c.in_ok-gate_at.ensures.looked in
    let telling : IsTrue (D.tells c.gate_at.new.desk) = looked.telling ∙ tells in
    let open_ : IsOpenHere size rest = search rules in
    let there = take size (drop (at + 5) (D.state c.gate_at.new.desk).a) in
    let same : there ≡ take size (drop 5 rest) = ap (λ (i : Image). take size (drop (at + 5) i.a)) looked.same ∙ ap (take size) (sym (drop-drop 5 at file)) in
    let got : EntryLeads s there t = subst (λ (b : Bool). MatchBool b (EntryLeads s there t) ((u : State) → EntryLeads s there u → ⊥)) c.if-branch.true
    (c.in_ok-apply_record-in-Open.ensures.applied telling) in (
      take size (drop 5 rest),
      subst (λ (n : ℕ). IsReached file (at + 5 + n) (records ++ take size (drop 5 rest) ∷ []) t) (sym c.from.ensures)
          (reached_further file at records s reached size t (frame_here size rest open_) (subst (λ (bs : List ℕ). EntryLeads s bs t) same got)),
    )

pub returns-else-branch-clause-cause : goal.returns-else-branch-clause-cause
returns-else-branch-clause-cause g c = λ records. (
  (λ tells reached.
      let D = g.D.Desk in
      let file = (D.state c.args.desk.now).a in
      let at = c.args.at in
      let rest = drop at file in
      let size = c.in-Open.size in
      let s : State = engine.state_of c.args.engine.now in
      let t : State = engine.state_of c.apply_record.new.engine in
      let looked = c.in_ok-gate_at.ensures.looked in
      let telling : IsTrue (D.tells c.gate_at.new.desk) = looked.telling ∙ tells in
      let open_ : IsOpenHere size rest = search rules in
      let there = take size (drop (at + 5) (D.state c.gate_at.new.desk).a) in
      let same : there ≡ take size (drop 5 rest) = ap (λ (i : Image). take size (drop (at + 5) i.a)) looked.same ∙ ap (take size) (sym (drop-drop 5 at file)) in
      let got : (u : State) → EntryLeads s there u → ⊥ = subst (λ (b : Bool). MatchBool b (EntryLeads s there t) ((u : State) → EntryLeads s there u → ⊥)) c.if-branch.false
      (c.in_ok-apply_record-in-Open.ensures.applied telling) in
      none_at file at records s reached size (frame_here size rest open_) (subst (λ (bs : List ℕ). (u : State) → EntryLeads s bs u → ⊥) same got)),
  c.in_ok-apply_record-in-Open.ensures.cause ∙ c.in_ok-gate_at.ensures.cause.none_failed,
)
