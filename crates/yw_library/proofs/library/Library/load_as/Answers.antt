use Rattle.std.proofs.Common.{◌≡◌, false, Some, Err, refl, subst, rules}
use Rattle.std.specs.Str.{bytes_eq}
use Rattle.yw_spec.specs.declared.spec.Spec.{Spec}
use Rattle.yw_state.specs.declared.command.Command.TheVariants as commands
use Rattle.yw_state.specs.declared.rule.Refusal.{Refusal}
use Rattle.yw_library.specs.Accepts.{IfRefused}
use Rattle.yw_library.specs.Always.{AlwaysBreaks}
use Rattle.yw_library.specs.declared.fault.LibraryFault.{LibraryFault}
use Rattle.yw_library.proofs.AcceptsLemmas.{broken-never, renamed-never}
use Rattle.yw_library.proofs.HoldingsLemmas.{differ}
use Rattle.yw_library.proofs.library.Library.load_as.Goals as goal

pub returns-in-Err-Refused-clause-tried : goal.returns-in-Err-Refused-clause-tried
returns-in-Err-Refused-clause-tried c =
    let library = c.args.self.now in
    let name = c.args.name.now in
    let text = c.args.text.now in
    let breaks : AlwaysBreaks library (commands.Load text) (Some c.in-Err-Refused.field-0-0) =
    subst (λ (f : LibraryFault). IfRefused {A = Spec} (Err f) (λ (r : Refusal). AlwaysBreaks library (commands.Load text) (Some r))) c.in-Err-Refused.field-0-is c.in-Err-Refused.ensures.refused in
    (broken-never library name text c.in-Err-Refused.field-0-0 breaks, refl)

pub returns-then-ne-clause-tried : goal.returns-then-ne-clause-tried
returns-then-ne-clause-tried c =
    let spec = c.in-Ok.spec in
    let name = c.args.name.now in
    let other : bytes_eq spec.name name ≡ false = search rules in
    (renamed-never c.args.self.now name c.args.text.now spec c.in-Ok.ensures.ok.accepted (differ spec.name name other), refl)
