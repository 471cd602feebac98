-- What a text breaks, from what is found on the way to its specification.
use Rattle.std.proofs.Common.{◌≡◌, ℕ, List, Bool, true, Option, None, Some, Result, Ok, Err, refl, sym, ap, subst, ◌∙◌}
use Rattle.std.specs.Prelude.{cond}
use Rattle.std.specs.Str.{is_utf8}
use Rattle.yw_spec.specs.declared.spec.Spec.{Spec}
use Rattle.yw_read.specs.Reading as reading
use Rattle.yw_read.specs.Reading.{spec_in}
use Rattle.yw_read.specs.declared.raw.RawSpec.{RawSpec}
use Rattle.yw_read.specs.declared.raw.ReadFault.{ReadFault}
use Rattle.yw_read.specs.declared.raw.ReadFault.TheVariants as reads
use Rattle.yw_check.specs.Judged.{Judges}
use Rattle.yw_check.specs.declared.fault.CheckFault.{CheckFault}
use Rattle.yw_check.specs.declared.fault.CheckFault.TheVariants as checks
use Rattle.yw_state.specs.Broken.{Breaks, placeless, placed}
use Rattle.yw_state.specs.State.{State}
use Rattle.yw_state.specs.declared.command.Command.TheVariants as commands
use Rattle.yw_state.specs.declared.event.Event.TheVariants as events
use Rattle.yw_state.specs.declared.rule.Refusal.{Refusal}
use Rattle.yw_state.specs.declared.rule.Rule.TheVariants.{SpecCheck, SpecShape, SpecText}
use Rattle.yw_state.proofs.OneRule.{command-breaks-one}
use Rattle.yw_texts.specs.Accepted.{check_refusal, document_in, JudgesSaid}
use Rattle.yw_texts.specs.Texts.{IsAccepted, IsUnfit, reader}
use Rattle.yw_texts.proofs.Loading.{load_told, load_unbroken, unfit_breaks}
use Rattle.yw_texts.proofs.ReadingOnce.{reads_one}
use Rattle.yw_library.specs.Accepts.{Answers, IfRefused, unchecked, unread}
use Rattle.yw_library.specs.Always.{AlwaysBreaks, NeverLeads}
use Rattle.yw_library.specs.Holdings.{Holdings, with_library}
use Rattle.yw_library.specs.declared.fault.LibraryFault.{LibraryFault}
use Rattle.yw_library.specs.declared.fault.LibraryFault.TheVariants as faults

-- a text of UTF-8 is a document where it is one of TOML
document : (text : List ℕ) → is_utf8 text ≡ true → document_in text ≡ spec_in text
unfolding document_in
document text utf8 = ap (λ (b : Bool). cond b (spec_in text) (Err reads.NotToml)) utf8

pub document_said : (text : List ℕ) (said : Result RawSpec ReadFault) → is_utf8 text ≡ true → spec_in text ≡ said → document_in text ≡ said
document_said text said utf8 is = document text utf8 ∙ is

-- what is wrong with what a text says is wrong with the text
unfit_by : (text : List ℕ) (said : Result RawSpec ReadFault) (refusal : Refusal) → document_in text ≡ said → JudgesSaid said (Some refusal) → IsUnfit text refusal
unfit_by text said refusal is judged = subst (λ (d : Result RawSpec ReadFault). JudgesSaid d (Some refusal)) (sym is) judged

pub unread-unfit : (A : Type 0) (text : List ℕ) (fault : ReadFault) → is_utf8 text ≡ true → reading.Answers {A = RawSpec} (Err fault) (spec_in text)
    → IfRefused {A = A} (Err (unread fault)) (IsUnfit text)
unread-unfit A text reads.NotToml utf8 is = unfit_by text (Err reads.NotToml) (placeless SpecText) (document text utf8 ∙ is) refl
unread-unfit A text (reads.Shape path) utf8 is = unfit_by text (Err (reads.Shape path)) (placed SpecShape path) (document text utf8 ∙ is) refl
unread-unfit A text reads.Memory utf8 is = tt

pub unchecked-unfit : (A : Type 0) (text : List ℕ) (raw : RawSpec) (fault : CheckFault) → document_in text ≡ Ok raw → Judges raw (Err fault)
    → IfRefused {A = A} (Err (unchecked fault)) (IsUnfit text)
unchecked-unfit A text raw (checks.Broken number at) is (broken, verdict, e) =
    let same : check_refusal broken ≡ placed SpecCheck at = cc in
    unfit_by text (Ok raw) (placed SpecCheck at) is (Some broken, verdict, ap Some (sym same))
unchecked-unfit A text raw checks.Memory is judged = tt

-- ---- answers

-- a load breaks one rule first, or none
pub load-breaks-one : (s : State) (text : List ℕ) (a b : Option Refusal) → Breaks reader s (commands.Load text) a → Breaks reader s (commands.Load text) b → a ≡ b
load-breaks-one s text a b p q = command-breaks-one reader reads_one s (commands.Load text) a b p q

-- a text that can't be loaded whatever is kept
pub unfit-breaks : (library : Holdings) (text : List ℕ) (fault : LibraryFault) → IfRefused {A = Spec} (Err fault) (IsUnfit text)
    → IfRefused {A = Spec} (Err fault) (λ refusal. AlwaysBreaks library (commands.Load text) (Some refusal))
unfit-breaks library text (faults.Refused refusal) unfit = λ s. unfit_breaks (with_library s library) text refusal unfit
unfit-breaks library text faults.Memory unfit = tt

-- the same said of another answer, where nothing has changed
pub still-refused : (library : Holdings) (text : List ℕ) (fault : LibraryFault) → IfRefused {A = Spec} (Err fault) (λ refusal. AlwaysBreaks library (commands.Load text) (Some refusal))
    → IfRefused {A = List ℕ} (Err fault) (λ refusal. AlwaysBreaks library (commands.Load text) (Some refusal) × (library ≡ library))
still-refused library text (faults.Refused refusal) breaks = (breaks, refl)
still-refused library text faults.Memory breaks = tt

pub refused-only : (library : Holdings) (text : List ℕ) (fault : LibraryFault) → IfRefused {A = Spec} (Err fault) (λ refusal. AlwaysBreaks library (commands.Load text) (Some refusal))
    → (s : State) (found : Option Refusal) → Breaks reader (with_library s library) (commands.Load text) found → Answers {A = List ℕ} (Err fault) found
refused-only library text (faults.Refused refusal) breaks s found h = load-breaks-one (with_library s library) text found (Some refusal) h (breaks s)
refused-only library text faults.Memory breaks s found h = tt

-- ---- events

-- a text that breaks a rule is loaded under no name
pub broken-never : (library : Holdings) (name text : List ℕ) (refusal : Refusal) → AlwaysBreaks library (commands.Load text) (Some refusal) → NeverLeads library (events.Load name text)
broken-never library name text refusal breaks s t leads =
    let u = with_library s library in
    let same = load-breaks-one u text None (Some refusal) (load_unbroken u t name text leads) (breaks s) in
    cc

-- a text says one name
pub renamed-never : (library : Holdings) (name text : List ℕ) (spec : Spec) → IsAccepted text spec → (spec.name ≡ name → ⊥) → NeverLeads library (events.Load name text)
renamed-never library name text spec accepted other s t leads =
    let told = load_told (with_library s library) t name text leads in
    let specs : Ok spec ≡ Ok told.spec = reads_one.spec text (Ok spec) (Ok told.spec) accepted told.accepted in
    let same : spec ≡ told.spec = cc in
    other (ap (λ (x : Spec). x.name) same ∙ told.named)
