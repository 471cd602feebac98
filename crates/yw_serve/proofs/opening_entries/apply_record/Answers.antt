use Rattle.std.proofs.Common.{List, ℕ, ◌∙◌, subst}
use Rattle.std.specs.Bool.{MatchBool}
use Rattle.yw_engine.specs.Held as engine
use Rattle.yw_state.specs.State.{State}
use Rattle.yw_serve.specs.Damage.{EntryLeads}
use Rattle.yw_serve.proofs.opening_entries.apply_record.Goals as goal

pub returns-then-count-piece-clause-applied : goal.returns-then-count-piece-clause-applied
returns-then-count-piece-clause-applied g c = λ tells.
    let s : State = engine.state_of c.args.engine.now in
    let t : State = engine.state_of c.apply_entry.new.engine in
    let allowed = c.in_ok-apply_entry.field-0 in
    subst (λ (bs : List ℕ). MatchBool allowed (EntryLeads s bs t) ((u : State) → EntryLeads s bs u → ⊥))
    (c.deref.ensures.value ∙ c.in_ok-bytes.ensures.bytes tells) c.in_ok-apply_entry.ensures

pub returns-clause-applied : goal.returns-clause-applied
returns-clause-applied g c = λ tells.
    let s : State = engine.state_of c.args.engine.now in
    let t : State = engine.state_of c.apply_entry-2.new.engine in
    let allowed = c.in_ok-apply_entry-2.field-0 in
    subst (λ (bs : List ℕ). MatchBool allowed (EntryLeads s bs t) ((u : State) → EntryLeads s bs u → ⊥))
    (c.part-bytes.ensures.bytes (g.D.Desk.state c.args.desk.now).a (c.in_ok-reach.ensures.at_hand.shows tells)) c.in_ok-apply_entry-2.ensures
