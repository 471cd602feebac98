use Rattle.std.proofs.Common.{◌≡◌, ℕ, List, [], ◌∷◌, ◌++◌, refl, ◌∙◌, subst, string_bytes}
use Rattle.std.proofs.lemmas.Result.{IfOk-at_ok, IfOk-weaker}
use Rattle.yw_serve.proofs.FaultLemmas.{failed_as}
use Rattle.yw_serve.specs.Counted.{HasTaken}
use Rattle.yw_serve.specs.declared.counted.BenchFault.TheVariants.{Memory}
use Rattle.yw_serve.proofs.counted.Counted.take_made.Goals as goal

pub returns-in_err-line-clause-faults : goal.returns-in_err-line-clause-faults
returns-in_err-line-clause-faults g c =
    let desk = c.args.desk.now in
    failed_as g.D.Desk desk desk c.from_residual.result Memory c.from_residual.ensures.1 (record { disk = refl; say = refl })

pub returns-clause-ok : goal.returns-clause-ok
returns-clause-ok g c = IfOk-weaker c.take.result _ _ (λ x taken text lines made begin h.
    let is : c.as_bytes.result.now ≡ text = c.as_bytes.ensures.value ∙ IfOk-at_ok (λ line. string_bytes line ≡ text) c.in_ok-line.was made in
    subst (λ (l : List ℕ). HasTaken g.D.Desk c.take.new.self (lines ++ l ∷ []) begin c.take.new.desk) is (taken lines begin h)) c.take.ensures.ok
