use Rattle.std.proofs.Common.{◌≡◌, ◌≢◌, ◌+◌, ◌<◌, ◌≤◌, ◌∷◌, [], ℕ, List, length, Result, Err, inl, inr, refl, sym, ap, ◌∙◌, subst, arith, rules}
use Rattle.std.proofs.lemmas.Bool.{cases_lt}
use Rattle.std.proofs.lemmas.Result.{IfOk-weaker, IfErr-weaker}
use Rattle.yw_outside.specs.declared.desk.File.{File}
use Rattle.yw_outside.specs.Image.{file_in, other_in}
use Rattle.yw_outside.specs.Since.{LeavesOnly}
use Rattle.yw_codec.specs.Entries.{framed}
use Rattle.yw_journal.specs.FileLaws.{content_end}
use Rattle.yw_journal.specs.Journal.{IsBeforeOrAfter, appended, with_record}
use Rattle.yw_journal.specs.Records.{IsFramed}
use Rattle.yw_journal.specs.declared.journal.AppendFault.{AppendFault}
use Rattle.yw_journal.specs.declared.journal.AppendFault.TheVariants.{Full}
use Rattle.yw_journal.proofs.Passing.{weakened}
use Rattle.yw_model.specs.Run.{Step, taken_by}
use Rattle.yw_serve.specs.Session.{OfSteps, Why, bytes_of, file_after}
use Rattle.yw_serve.specs.declared.server.Stop.{Stop}
use Rattle.yw_serve.specs.Plans.{Does, CanBeAppended}
use Rattle.yw_serve.specs.declared.plan.Plan.{Plan}
use Rattle.yw_serve.specs.declared.plan.Plan.TheVariants.{Say, Accept}
use Rattle.yw_serve.proofs.Doing.{leaves_nothing}
use Rattle.yw_serve.proofs.FaultLemmas.{call_then}
use Rattle.yw_serve.proofs.Growing.{framed_short, grows_said}
use Rattle.yw_serve.proofs.Telling.{not_begun, of_append, leaves_telling, done_by_telling, current_none, current_one, current_same, same_file}
use Rattle.yw_serve.proofs.Written.{file_after-none, file_after-one, room_for_one, taken_none, written_none, written_one}
use Rattle.yw_serve.proofs.server.carry_out.Goals as goal

does_as : (p q : Plan) (buffer : List ℕ) (step : Step) → p ≡ q → Does p buffer step → Does q buffer step
does_as p q buffer step e d = subst (λ (x : Plan). Does x buffer step) e d

can_append : (p q : Plan) (buffer : List ℕ) → p ≡ q → CanBeAppended buffer p → CanBeAppended buffer q
can_append p q buffer e h = subst (CanBeAppended buffer) e h

framed_as : (items : List ℕ) (bytes : List ℕ) (whole : List ℕ) → items ≡ whole → IsFramed whole bytes → IsFramed items bytes
framed_as items bytes whole e h = subst (λ (l : List ℕ). IsFramed l bytes) (sym e) h

-- what isn't refused as too long ends within the limit
fits : {T : Type 0} (limit end : ℕ) (result : Result T AppendFault) → (limit < end → result ≡ Err (Full end)) → ((n : ℕ) → result ≢ Err (Full n)) → end ≤ limit
fits limit end result full never = elim (cases_lt limit end) [ inl over ↦ absurd (never end (full over)) | inr within ↦ within ]

pub returns-in-Say-clause-ok : goal.returns-in-Say-clause-ok
returns-in-Say-clause-ok g c = IfOk-weaker c.tell.result _ _ (λ x said tells content current step does.
    let D = g.D.Desk in
    let old = c.args.desk.now in
    let journal = c.args.journal.now in
    let d = does_as c.args.plan.now (Say c.in-Say.reply) c.args.entry.now step c.in-Say.is does in
    let settled = c.requires.stands.settled tells in
    let told = c.tell.ensures in
    let first = leaves_nothing D old (OfSteps journal.file content (step ∷ []) (D.state old)) settled (g.met.D.Desk.said_by_now old) (g.met.D.Desk.only_now old)
    (not_begun journal.file content step (D.state old) (D.state old) (journal.end, current.holds) refl refl) in
    done_by_telling D content step journal old old c.tell.new.desk c.as_slice.result.now (c.as_slice.ensures ∙ sym d.1) (written_none step d.0)
    (current_none journal content step (D.state old) d.0 current) refl refl first (told.any_moment tells settled)
    (inl (taken_none step d.0)) (file_after-none (file_in journal.file (D.state old)) (file_in journal.file (D.state old)) content step d.0 refl) told.a told.b (said tells) (told.settled tells settled)) c.tell.ensures.said

pub returns-in-Say-clause-moments : goal.returns-in-Say-clause-moments
returns-in-Say-clause-moments g c = IfErr-weaker c.tell.result _ _ (λ x write tells content current step does.
    let D = g.D.Desk in
    let old = c.args.desk.now in
    let journal = c.args.journal.now in
    let d = does_as c.args.plan.now (Say c.in-Say.reply) c.args.entry.now step c.in-Say.is does in
    let settled = c.requires.stands.settled tells in
    let first = leaves_nothing D old (OfSteps journal.file content (step ∷ []) (D.state old)) settled (g.met.D.Desk.said_by_now old) (g.met.D.Desk.only_now old)
    (not_begun journal.file content step (D.state old) (D.state old) (journal.end, current.holds) refl refl) in
    leaves_telling D content step journal old old c.tell.new.desk c.as_slice.result.now (c.as_slice.ensures ∙ sym d.1) (written_none step d.0)
    (current_none journal content step (D.state old) d.0 current) refl refl first (c.tell.ensures.any_moment tells settled)) c.tell.ensures.write

pub returns-in-Ok-clause-ok : goal.returns-in-Ok-clause-ok
returns-in-Ok-clause-ok g c = IfOk-weaker c.tell-in-Ok.result _ _ (λ x said tells content current step does.
    let D = g.D.Desk in
    let old = c.args.desk.now in
    let mid = c.append.new.desk in
    let before = c.args.journal.now in
    let journal = c.append.new.self in
    let d = does_as c.args.plan.now (Accept _ c.in-Accept.reply) c.args.entry.now step c.in-Accept.is does in
    let e = d.entry in
    let bytes : List ℕ = bytes_of e in
    let whole : IsFramed c.args.entry.now bytes = framed_as c.args.entry.now bytes (framed e.events) d.has.bytes d.has.frame in
    let kept = c.in-Ok.ensures in
    let file : journal.file ≡ before.file = ap (λ j. j.file) kept.journal in
    let tells_mid = kept.counts.tells ∙ tells in
    let settled = (kept.rewrites tells).settled in
    let first = weakened D old mid (IsBeforeOrAfter before.file content bytes (D.state old)) (OfSteps journal.file content (step ∷ []) (D.state old)) (kept.any_moment tells content bytes current whole)
    (λ i h. subst (λ (f : File). OfSteps f content (step ∷ []) (D.state old) i) (sym file) (of_append before.file content step e (D.state old) i d.taken d.has.written h)) in
    let other : other_in journal.file (D.state mid) ≡ other_in journal.file (D.state old) = subst (λ (f : File). other_in f (D.state mid) ≡ other_in f (D.state old)) (sym file) (kept.rewrites tells).other in
    let entry : c.args.entry.now ≡ framed e.events = d.has.bytes in
    let at = content_end (file_in before.file (D.state old)) content before.end current.holds.file in
    let within = fits before.limit (before.end + length c.args.entry.now) c.append.result (λ over. c.append.ensures.fits _ (refl, over)) (λ n e. cc (c.in-Ok.is, e)) in
    let written : file_in before.file (D.state mid) ≡ file_after (file_in before.file (D.state old)) content (taken_by (step ∷ [])) =
    file_after-one (file_in before.file (D.state old)) (file_in before.file (D.state mid)) content step e before.end d.taken at ((kept.rewrites tells).bytes ∙ ap (appended (file_in before.file (D.state old)) before.end) entry) in
    let told = c.tell-in-Ok.ensures in
    done_by_telling D content step journal old mid c.tell-in-Ok.new.desk c.as_slice-in-Ok.result.now (c.as_slice-in-Ok.ensures ∙ sym d.told) (written_one step e d.taken d.has.written)
    (current_one journal content step e (D.state mid) d.taken (kept.ok tells content bytes current whole).current) (kept.rewrites tells).said other first (told.any_moment tells_mid settled)
    (room_for_one journal.limit content step e before.end d.taken d.has.frame at (omega (arith, within, ap length entry, ap (λ j. j.limit) kept.journal)))
    (subst (λ (f : File). file_in f (D.state mid) ≡ file_after (file_in f (D.state old)) content (taken_by (step ∷ []))) (sym file) written)
    told.a told.b (said tells_mid) (told.settled tells_mid settled))
    c.tell-in-Ok.ensures.said

pub returns-in-Ok-clause-moments : goal.returns-in-Ok-clause-moments
returns-in-Ok-clause-moments g c = IfErr-weaker c.tell-in-Ok.result _ _ (λ x write tells content current step does.
    let D = g.D.Desk in
    let old = c.args.desk.now in
    let mid = c.append.new.desk in
    let before = c.args.journal.now in
    let journal = c.append.new.self in
    let d = does_as c.args.plan.now (Accept _ c.in-Accept.reply) c.args.entry.now step c.in-Accept.is does in
    let e = d.entry in
    let bytes : List ℕ = bytes_of e in
    let whole : IsFramed c.args.entry.now bytes = framed_as c.args.entry.now bytes (framed e.events) d.has.bytes d.has.frame in
    let kept = c.in-Ok.ensures in
    let file : journal.file ≡ before.file = ap (λ j. j.file) kept.journal in
    let first = weakened D old mid (IsBeforeOrAfter before.file content bytes (D.state old)) (OfSteps journal.file content (step ∷ []) (D.state old)) (kept.any_moment tells content bytes current whole)
    (λ i h. subst (λ (f : File). OfSteps f content (step ∷ []) (D.state old) i) (sym file) (of_append before.file content step e (D.state old) i d.taken d.has.written h)) in
    let other : other_in journal.file (D.state mid) ≡ other_in journal.file (D.state old) = subst (λ (f : File). other_in f (D.state mid) ≡ other_in f (D.state old)) (sym file) (kept.rewrites tells).other in
    subst (λ (f : File). LeavesOnly D old c.tell-in-Ok.new.desk (OfSteps f content (step ∷ []) (D.state old))) file
    (leaves_telling D content step journal old mid c.tell-in-Ok.new.desk c.as_slice-in-Ok.result.now (c.as_slice-in-Ok.ensures ∙ sym d.told) (written_one step e d.taken d.has.written)
    (current_one journal content step e (D.state mid) d.taken (kept.ok tells content bytes current whole).current) (kept.rewrites tells).said other first (c.tell-in-Ok.ensures.any_moment (kept.counts.tells ∙ tells) (kept.rewrites tells).settled)))
    c.tell-in-Ok.ensures.write

pub returns-in-Ok-clause-stands : goal.returns-in-Ok-clause-stands
returns-in-Ok-clause-stands g c = IfOk-weaker c.tell-in-Ok.result _ _ (λ x said.
    let D = g.D.Desk in
    let mid = c.append.new.desk in
    let new = c.tell-in-Ok.new.desk in
    let kept = c.in-Ok.ensures in
    let told = c.tell-in-Ok.ensures in
    let framed = can_append c.args.plan.now (Accept _ c.in-Accept.reply) c.args.entry.now c.in-Accept.is c.requires.framed in
    let whole : IsFramed c.args.entry.now framed.0 = framed.1 in
    record {
      ready = kept.ready;
      current = λ telling.
          let tells_mid = sym told.counts.telling ∙ telling in
          let tells = sym kept.counts.tells ∙ tells_mid in
          let now = c.requires.stands.current tells in
          (with_record now.0 framed.0, current_same c.append.new.self (with_record now.0 framed.0) (D.state mid) (D.state new) told.a told.b (kept.ok tells now.0 framed.0 now.1 whole).current);
      settled = λ telling.
          let tells_mid = sym told.counts.telling ∙ telling in
          told.settled tells_mid ((kept.rewrites (sym kept.counts.tells ∙ tells_mid)).settled);
    }) c.tell-in-Ok.ensures.said

pub returns-in-Err-Disk-clause-moments : goal.returns-in-Err-Disk-clause-moments
returns-in-Err-Disk-clause-moments g c = λ tells content current step does.
    let D = g.D.Desk in
    let old = c.args.desk.now in
    let before = c.args.journal.now in
    let d = does_as c.args.plan.now (Accept _ c.in-Accept.reply) c.args.entry.now step c.in-Accept.is does in
    let e = d.entry in
    let bytes : List ℕ = bytes_of e in
    let whole : IsFramed c.args.entry.now bytes = framed_as c.args.entry.now bytes (framed e.events) d.has.bytes d.has.frame in
    weakened D old c.append.new.desk (IsBeforeOrAfter before.file content bytes (D.state old)) (OfSteps before.file content (step ∷ []) (D.state old)) (c.append.ensures.any_moment tells content bytes current whole)
    (λ i h. of_append before.file content step e (D.state old) i d.taken d.has.written h)

pub returns-in-Err-Full-clause-moments : goal.returns-in-Err-Full-clause-moments
returns-in-Err-Full-clause-moments g c = λ tells content current step does.
    let D = g.D.Desk in
    let old = c.args.desk.now in
    let before = c.args.journal.now in
    let d = does_as c.args.plan.now (Accept _ c.in-Accept.reply) c.args.entry.now step c.in-Accept.is does in
    let e = d.entry in
    let bytes : List ℕ = bytes_of e in
    let whole : IsFramed c.args.entry.now bytes = framed_as c.args.entry.now bytes (framed e.events) d.has.bytes d.has.frame in
    weakened D old c.append.new.desk (IsBeforeOrAfter before.file content bytes (D.state old)) (OfSteps before.file content (step ∷ []) (D.state old)) (c.append.ensures.any_moment tells content bytes current whole)
    (λ i h. of_append before.file content step e (D.state old) i d.taken d.has.written h)

pub returns-in-Say-clause-why : goal.returns-in-Say-clause-why
returns-in-Say-clause-why g c = IfErr-weaker c.tell.result _ _ (λ x write tells content current step does.
    let D = g.D.Desk in
    let old = c.args.desk.now in
    let journal = c.args.journal.now in
    let d = does_as c.args.plan.now (Say c.in-Say.reply) c.args.entry.now step c.in-Say.is does in
    subst (λ (stop : Stop). Why D content stop journal (step ∷ []) old c.tell.new.desk) (sym write)
    (inl (taken_none step d.0), file_after-none _ _ content step d.0 (same_file journal.file (D.state old) (D.state c.tell.new.desk) c.tell.ensures.a c.tell.ensures.b))) c.tell.ensures.write

pub returns-in-Ok-clause-why : goal.returns-in-Ok-clause-why
returns-in-Ok-clause-why g c = IfErr-weaker c.tell-in-Ok.result _ _ (λ x write tells content current step does.
    let D = g.D.Desk in
    let old = c.args.desk.now in
    let mid = c.append.new.desk in
    let before = c.args.journal.now in
    let d = does_as c.args.plan.now (Accept _ c.in-Accept.reply) c.args.entry.now step c.in-Accept.is does in
    let e = d.entry in
    let kept = c.in-Ok.ensures in
    let told = c.tell-in-Ok.ensures in
    let entry : c.args.entry.now ≡ framed e.events = d.has.bytes in
    let at = content_end (file_in before.file (D.state old)) content before.end current.holds.file in
    let within = fits before.limit (before.end + length c.args.entry.now) c.append.result (λ over. c.append.ensures.fits _ (refl, over)) (λ n e. cc (c.in-Ok.is, e)) in
    let written : file_in before.file (D.state mid) ≡ file_after (file_in before.file (D.state old)) content (taken_by (step ∷ [])) =
    file_after-one (file_in before.file (D.state old)) (file_in before.file (D.state mid)) content step e before.end d.taken at ((kept.rewrites tells).bytes ∙ ap (appended (file_in before.file (D.state old)) before.end) entry) in
    subst (λ (stop : Stop). Why D content stop before (step ∷ []) old c.tell-in-Ok.new.desk) (sym write)
    (room_for_one before.limit content step e before.end d.taken d.has.frame at (omega (arith, within, ap length entry)), same_file before.file (D.state mid) (D.state c.tell-in-Ok.new.desk) told.a told.b ∙ written))
    c.tell-in-Ok.ensures.write

pub returns-in-Err-Disk-clause-why : goal.returns-in-Err-Disk-clause-why
returns-in-Err-Disk-clause-why g c = λ tells content current step does.
    let D = g.D.Desk in
    let before = c.args.journal.now in
    let d = does_as c.args.plan.now (Accept _ c.in-Accept.reply) c.args.entry.now step c.in-Accept.is does in
    let e = d.entry in
    let entry : c.args.entry.now ≡ framed e.events = d.has.bytes in
    let at = content_end (file_in before.file (D.state c.args.desk.now)) content before.end current.holds.file in
    let within = fits before.limit (before.end + length c.args.entry.now) c.append.result (λ over. c.append.ensures.fits _ (refl, over)) (λ n e. cc (c.in-Err-Disk.is, e)) in
    room_for_one before.limit content step e before.end d.taken d.has.frame at (omega (arith, within, ap length entry))

pub returns-in-Ok-clause-faults : goal.returns-in-Ok-clause-faults
returns-in-Ok-clause-faults g c =
    let counts = c.in-Ok.ensures.counts in
    call_then g.D.Desk c.args.desk.now c.append.new.desk c.tell-in-Ok.new.desk (record { disk = counts.disk; say = counts.say }) c.tell-in-Ok.result c.tell-in-Ok.ensures.faults

pub returns-in-Say-clause-grows : goal.returns-in-Say-clause-grows
returns-in-Say-clause-grows g c = grows_said c.tell.result c.args.journal.now c.args.journal.now c.tell.ensures.write (omega arith)

pub returns-in-Ok-clause-grows : goal.returns-in-Ok-clause-grows
returns-in-Ok-clause-grows g c =
    let framed = can_append c.args.plan.now (Accept _ c.in-Accept.reply) c.args.entry.now c.in-Accept.is c.requires.framed in
    let short = framed_short c.args.entry.now framed.0 (λ k. (c.type_inv.entry k).fits) framed.1 in
    grows_said c.tell-in-Ok.result c.args.journal.now c.append.new.self c.tell-in-Ok.ensures.write (omega (arith, short, ap (λ j. j.end) c.in-Ok.ensures.journal))

pub returns-in-Err-Full-clause-grows : goal.returns-in-Err-Full-clause-grows
returns-in-Err-Full-clause-grows g c =
    let framed = can_append c.args.plan.now (Accept _ c.in-Accept.reply) c.args.entry.now c.in-Accept.is c.requires.framed in
    let short = framed_short c.args.entry.now framed.0 (λ k. (c.type_inv.entry k).fits) framed.1 in
    let is : c.append.result ≡ Err (Full c.in-Err-Full.end) = search rules in
    let full = (c.append.ensures.full c.in-Err-Full.end is).0 in
    omega (arith, short, full.0, full.1)
