use Rattle.std.proofs.Common.{Ok, Err, sym, subst}
use Rattle.std.proofs.lemmas.Str.{is_utf8-from_IsUtf8}
use Rattle.yw_spec.specs.declared.spec.Spec.{Spec}
use Rattle.yw_texts.specs.Texts.{IsUnfit}
use Rattle.yw_library.specs.Accepts.{IfRefused}
use Rattle.yw_library.specs.declared.fault.LibraryFault.{LibraryFault}
use Rattle.yw_library.proofs.AcceptsLemmas.{document_said, unread-unfit, unchecked-unfit}
use Rattle.yw_library.proofs.accepted.accepted.Goals as goal

pub returns-in-Err-clause-refused : goal.returns-in-Err-clause-refused
returns-in-Err-clause-refused c =
    let text = c.args.text.now in
    subst (λ (f : LibraryFault). IfRefused {A = Spec} (Err f) (IsUnfit text)) (sym c.unread.ensures)
    (unread-unfit Spec text c.in-Err.fault (is_utf8-from_IsUtf8 text c.utf8.text) c.in-Err.ensures.says)

pub returns-in-Ok-check-clause-ok : goal.returns-in-Ok-check-clause-ok
returns-in-Ok-check-clause-ok c =
    let text = c.args.text.now in
    record {
      raw = c.in-Ok.raw;
      says = document_said text (Ok c.in-Ok.raw) (is_utf8-from_IsUtf8 text c.utf8.text) c.in-Ok.ensures.says;
      accepted = c.in-Ok-check.ensures.judges.0;
      is_spec = c.in-Ok-check.ensures.judges.1;
    }

pub returns-in-Err-check-clause-refused : goal.returns-in-Err-check-clause-refused
returns-in-Err-check-clause-refused c =
    let text = c.args.text.now in
    let said = document_said text (Ok c.in-Ok.raw) (is_utf8-from_IsUtf8 text c.utf8.text) c.in-Ok.ensures.says in
    subst (λ (f : LibraryFault). IfRefused {A = Spec} (Err f) (IsUnfit text)) (sym c.unchecked.ensures)
    (unchecked-unfit Spec text c.in-Ok.raw c.in-Err-check.fault said c.in-Err-check.ensures.judges)
