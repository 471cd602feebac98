-- What entries make of a file, and that they have room.
use Rattle.std.proofs.Common.{◌≡◌, ℕ, ◌+◌, ◌≤◌, List, [], ◌∷◌, ◌++◌, length, map, inl, inr, ⊎_elim, sym, ap, ◌∙◌, subst, append_assoc, arith}
use Rattle.std.proofs.lemmas.List.{append-nil, map-append}
use Rattle.yw_journal.specs.Files.{Content, end_of}
use Rattle.yw_journal.specs.FileLaws.{end_with_record}
use Rattle.yw_journal.specs.Journal.{appended, with_record}
use Rattle.yw_journal.specs.Records.{IsFramed}
use Rattle.yw_codec.specs.Entries.{IsEntry, framed}
use Rattle.yw_model.specs.Run.{Entry, Step, taken_by}
use Rattle.yw_model.proofs.RunLemmas.{taken_by-append}
use Rattle.yw_serve.specs.Session.{EachWritten, HasRoom, bytes_of, file_after, with_entries, with_steps}

abbrev with_records : Content → List (List ℕ) → Content
with_records c records = record { generation = c.generation; count = c.count; snapshot = c.snapshot; records = records }

pub with_steps-none : (c : Content) → with_steps c [] ≡ c
with_steps-none c = ap (with_records c) (append-nil c.records)

pub with_steps-append : (c : Content) (steps more : List Step) → with_steps (with_steps c steps) more ≡ with_steps c (steps ++ more)
with_steps-append c steps more = ap (with_records c)
    (append_assoc c.records (map bytes_of (taken_by steps)) (map bytes_of (taken_by more))
    ∙ ap (λ (rs : List (List ℕ)). c.records ++ rs) (sym (map-append bytes_of (taken_by steps) (taken_by more)) ∙ ap (map bytes_of) (sym (taken_by-append steps more))))

-- the words of a step with one entry or none
pub with_step : (c : Content) (step : Step) → with_steps c (step ∷ []) ≡ with_entries c step.taken
with_step c step = ap (with_entries c) (append-nil step.taken)

pub with_one : (c : Content) (step : Step) (entry : Entry) → step.taken ≡ entry ∷ [] → with_steps c (step ∷ []) ≡ with_record c (bytes_of entry)
with_one c step entry e = with_step c step ∙ ap (with_entries c) e

pub with_none : (c : Content) (step : Step) → step.taken ≡ [] → with_steps c (step ∷ []) ≡ c
with_none c step e = with_step c step ∙ ap (with_entries c) e ∙ with_steps-none c

-- entries after entries
file_after-append : (file : List ℕ) (c : Content) (entries more : List Entry) → file_after (file_after file c entries) (with_entries c entries) more ≡ file_after file c (entries ++ more)
file_after-append file c [] more = ap (λ (x : Content). file_after file x more) (with_steps-none c)
file_after-append file c (e ∷ es) more =
    ap (λ (rs : List (List ℕ)). file_after (file_after (appended file (end_of c) (framed e.events)) (with_entries c (e ∷ [])) es) (with_records c rs) more)
    (sym (append_assoc c.records (bytes_of e ∷ []) (map bytes_of es)))
    ∙ file_after-append (appended file (end_of c) (framed e.events)) (with_entries c (e ∷ [])) es more

-- steps after steps
pub file_after-steps : (file mid new : List ℕ) (c : Content) (steps more : List Step) → mid ≡ file_after file c (taken_by steps) → new ≡ file_after mid (with_steps c steps) (taken_by more)
    → new ≡ file_after file c (taken_by (steps ++ more))
file_after-steps file mid new c steps more first last =
    last ∙ ap (λ (l : List ℕ). file_after l (with_steps c steps) (taken_by more)) first
    ∙ file_after-append file c (taken_by steps) (taken_by more) ∙ ap (file_after file c) (sym (taken_by-append steps more))

pub room_for_both : (limit : ℕ) (c : Content) (steps more : List Step) → HasRoom limit c steps → HasRoom limit (with_steps c steps) more → HasRoom limit c (steps ++ more)
room_for_both limit c steps more first last = ⊎_elim
    (λ (none : taken_by more ≡ []). ⊎_elim
    (λ (nothing : taken_by steps ≡ []). inl (taken_by-append steps more ∙ ap (λ (es : List Entry). es ++ taken_by more) nothing ∙ none))
    (λ (fits : end_of (with_steps c steps) ≤ limit). inr (subst (λ (x : Content). end_of x ≤ limit)
    (sym (with_steps-none (with_steps c steps)) ∙ ap (with_entries (with_steps c steps)) (sym none) ∙ with_steps-append c steps more) fits))
    first)
    (λ (fits : end_of (with_steps (with_steps c steps) more) ≤ limit). inr (subst (λ (x : Content). end_of x ≤ limit) (with_steps-append c steps more) fits))
    last

-- a step that takes nothing leaves the file as it is
pub taken_none : (step : Step) → step.taken ≡ [] → taken_by (step ∷ []) ≡ []
taken_none step e = append-nil step.taken ∙ e

pub file_after-none : (file new : List ℕ) (c : Content) (step : Step) → step.taken ≡ [] → new ≡ file → new ≡ file_after file c (taken_by (step ∷ []))
file_after-none file new c step e same = same ∙ ap (file_after file c) (sym (taken_none step e))

pub file_after-one : (file new : List ℕ) (c : Content) (step : Step) (entry : Entry) (end : ℕ) → step.taken ≡ entry ∷ [] → end ≡ end_of c → new ≡ appended file end (framed entry.events)
    → new ≡ file_after file c (taken_by (step ∷ []))
file_after-one file new c step entry end e at is =
    is ∙ ap (λ n. appended file n (framed entry.events)) at ∙ ap (file_after file c) (sym (append-nil step.taken ∙ e))

pub room_for_one : (limit : ℕ) (c : Content) (step : Step) (entry : Entry) (end : ℕ) → step.taken ≡ entry ∷ [] → IsFramed (framed entry.events) (bytes_of entry) → end ≡ end_of c → end + length (framed entry.events) ≤ limit
    → HasRoom limit c (step ∷ [])
room_for_one limit c step entry end e is at fits =
    inr (subst (λ (x : Content). end_of x ≤ limit) (sym (with_one c step entry e)) (omega (arith, end_with_record c (bytes_of entry) (framed entry.events) is)))

-- ---- entries that can be written

written_both : (es fs : List Entry) → EachWritten es → EachWritten fs → EachWritten (es ++ fs)
written_both [] fs one two = two
written_both (e ∷ es) fs one two = (one.0, written_both es fs one.1 two)

pub written_steps : (steps more : List Step) → EachWritten (taken_by steps) → EachWritten (taken_by more) → EachWritten (taken_by (steps ++ more))
written_steps steps more one two = subst EachWritten (sym (taken_by-append steps more)) (written_both (taken_by steps) (taken_by more) one two)

-- of a step that takes nothing, and of one that takes this entry
pub written_none : (step : Step) → step.taken ≡ [] → EachWritten (taken_by (step ∷ []))
written_none step e = subst (λ (es : List Entry). EachWritten (es ++ [])) (sym e) tt

pub written_one : (step : Step) (entry : Entry) → step.taken ≡ entry ∷ [] → IsEntry entry.events (bytes_of entry) → EachWritten (taken_by (step ∷ []))
written_one step entry e is = subst (λ (es : List Entry). EachWritten (es ++ [])) (sym e) (is, tt)
