-- Plans that answer a command, a line.
use Rattle.std.proofs.Common.{◌≡◌, ℕ, List, [], ◌∷◌, Option, None, Some, Ok, Err, refl, sym, ap, subst}
use Rattle.yw_journal.specs.Records.{IsFramed}
use Rattle.yw_lines.specs.Meaning.{meaning}
use Rattle.serde_json.specs.Data.{Data}
use Rattle.yw_lines.specs.Answers.{answer_line}
use Rattle.yw_lines.specs.Replies.{done_line, refused_line}
use Rattle.yw_model.proofs.Answering.{answers_by}
use Rattle.yw_model.specs.Run.{Entry, QueryAnswers, Refuses as Refusing, Step, Tells, built_words}
use Rattle.yw_model.specs.Told.{IsTold}
use Rattle.yw_texts.specs.Texts.{reader}
use Rattle.yw_state.specs.Broken.{Breaks, placeless}
use Rattle.yw_state.specs.Legal.{IsLegal}
use Rattle.yw_state.specs.State.{State}
use Rattle.yw_state.specs.declared.command.Asked.TheVariants as asked
use Rattle.yw_state.specs.declared.command.Command.{Command}
use Rattle.yw_state.specs.declared.command.Query.{Query}
use Rattle.yw_state.specs.declared.rule.Refusal.{Refusal}
use Rattle.yw_state.specs.declared.rule.Rule.{Rule}
use Rattle.yw_serve.specs.Plans.{Accepts, CanBeAppended, Does, IsPlan, IsPlanFor, IsPlanToTell, Refuses, RefusesBy, SaysAnswer}
use Rattle.yw_serve.specs.Session.{bytes_of}
use Rattle.yw_serve.specs.declared.plan.Plan.{Plan}
use Rattle.yw_serve.specs.declared.plan.Plan.TheVariants.{Say, Accept}

-- an entry that may answer the command is taken
pub accepted : (s t : State) (n : ℕ) (c : Command) (entry : Entry) (plan : Plan) (buffer : List ℕ) → IsLegal reader s c entry.events entry.quiet t → Accepts n entry buffer plan
    → IsPlanFor s n c plan buffer t
accepted s t n c entry (Say reply) buffer legal plans = absurd plans
accepted s t n c entry (Accept decided reply) buffer legal plans = record {
  step = record { taken = entry ∷ []; reply = done_line n entry.events entry.quiet };
  answers = (None, legal.unbroken, record { entry = entry; legal = legal; one = refl; told = refl });
  does = record { entry = entry; is = plans.0; taken = refl; has = plans.1; told = sym plans.2 };
}

abbrev refusal_step : ℕ → Refusal → Step
refusal_step n refusal = record { taken = []; reply = refused_line n refusal }

refuses_does : (n : ℕ) (refusal : Refusal) (plan : Plan) (buffer : List ℕ) → Refuses n refusal plan → Does plan buffer (refusal_step n refusal)
refuses_does n refusal (Say reply) buffer plans = (refl, sym plans)
refuses_does n refusal (Accept decided reply) buffer plans = absurd plans

-- a command that breaks a rule is refused
pub refused_so : (s t : State) (n : ℕ) (c : Command) (refusal : Refusal) (plan : Plan) (buffer : List ℕ) → Breaks reader s c (Some refusal) → Refuses n refusal plan → t ≡ s
    → IsPlanFor s n c plan buffer t
refused_so s t n c refusal plan buffer breaks plans same = record {
  step = refusal_step n refusal;
  answers = (Some refusal, breaks, record { nothing = refl; told = refl; same = same });
  does = refuses_does n refusal plan buffer plans;
}

-- a line that asks nothing is refused
rule_line : (s : State) (n : ℕ) (line : List ℕ) (rule : Rule) (plan : Plan) (buffer : List ℕ) → meaning built_words line ≡ Err rule → Refuses n (placeless rule) plan → IsPlan s n line plan buffer s
rule_line s n line rule plan buffer means plans = record {
  step = refusal_step n (placeless rule);
  answers = answers_by s n line (Err rule) (refusal_step n (placeless rule)) s means (record { nothing = refl; told = refl; same = refl });
  does = refuses_does n (placeless rule) plan buffer plans;
}

-- by the rule of its fault
pub fault_line : (s : State) (n : ℕ) (line : List ℕ) (broken : Option Rule) (plan : Plan) (buffer : List ℕ) → ((rule : Rule) → broken ≡ Some rule → meaning built_words line ≡ Err rule)
    → RefusesBy n broken plan → IsPlan s n line plan buffer s
fault_line s n line (Some r) plan buffer means plans = rule_line s n line r plan buffer (means r refl) plans
fault_line s n line None plan buffer means plans = absurd plans

-- a query that breaks a rule is refused, and one that breaks none is told its answer
pub refused_to_tell : (s : State) (n : ℕ) (q : Query) (refusal : Refusal) (plan : Plan)
    → (Refusing refusal s n (refusal_step n refusal) s → QueryAnswers q s n (refusal_step n refusal) s) → Refuses n refusal plan → IsPlanToTell s n q plan
refused_to_tell s n q refusal (Accept decided reply) answers plans = absurd plans
refused_to_tell s n q refusal (Say reply) answers plans = record {
  step = refusal_step n refusal;
  answers = answers (record { nothing = refl; told = refl; same = refl });
  nothing = refl;
  says = ap Say plans;
}

abbrev answer_step : ℕ → Data → Step
answer_step n answer = record { taken = []; reply = answer_line n answer }

pub told_so : (s : State) (n : ℕ) (q : Query) (answer : Data) (plan : Plan) → IsTold s q answer
    → (Tells q s n (answer_step n answer) s → QueryAnswers q s n (answer_step n answer) s) → SaysAnswer n answer plan → IsPlanToTell s n q plan
told_so s n q answer (Accept decided reply) is answers plans = absurd plans
told_so s n q answer (Say reply) is answers plans = record {
  step = answer_step n answer;
  answers = answers (record { nothing = refl; answer = answer; is = is; told = refl; same = refl });
  nothing = refl;
  says = ap Say plans;
}

-- so a line that asks for a query is answered as that
pub query_line : (s : State) (n : ℕ) (line : List ℕ) (q : Query) (plan : Plan) (buffer : List ℕ) → meaning built_words line ≡ Ok (asked.Query q) → IsPlanToTell s n q plan
    → IsPlan s n line plan buffer s
query_line s n line q plan buffer means p = record {
  step = p.step;
  answers = answers_by s n line (Ok (asked.Query q)) p.step s means p.answers;
  does = subst (λ (x : Plan). Does x buffer p.step) (sym p.says) (p.nothing, refl);
}

-- and one that asks for a command is answered as that
pub command_line : (s t : State) (n : ℕ) (line : List ℕ) (c : Command) (plan : Plan) (buffer : List ℕ) → meaning built_words line ≡ Ok (asked.Command c) → IsPlanFor s n c plan buffer t
    → IsPlan s n line plan buffer t
command_line s t n line c plan buffer means p = record {
  step = p.step;
  answers = answers_by s n line (Ok (asked.Command c)) p.step t means p.answers;
  does = p.does;
}

-- a plan that takes an entry has it to append
pub framed_for : (n : ℕ) (line : List ℕ) (plan : Plan) (buffer : List ℕ) (s t : State) → IsPlan s n line plan buffer t → CanBeAppended buffer plan
framed_for n line (Say reply) buffer s t p = tt
framed_for n line (Accept decided reply) buffer s t p =
    let has = p.does.has in (bytes_of p.does.entry, subst (λ (l : List ℕ). IsFramed l (bytes_of p.does.entry)) (sym has.bytes) has.frame)
