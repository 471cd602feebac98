-- The checks of an identity as rows.
use Rattle.std.proofs.Common.{◌≡◌, ◌∙◌, List, [], ◌∷◌, ◌++◌, Bool, true, false, Option, None, map, ap, append_assoc, refl, sym}
use Rattle.std.specs.List.{cons_option, filter_map}
use Rattle.std.specs.Prelude.{cond, if◌then◌else◌, option_map}
use Rattle.yw_shown.specs.Shows.{Entry, suspended_in}
use Rattle.yw_sites.proofs.Each.{nil_right}
use Rattle.yw_state.specs.Answers.{due_rows, run_row}
use Rattle.yw_state.specs.Identity.{Ident}
use Rattle.yw_state.specs.State.{RunPart, Site}
use Rattle.yw_state.specs.declared.answer.DueRow.{DueRow}
use Rattle.yw_state.specs.declared.answer.RunRow.{RunRow}
use Rattle.yw_state.specs.declared.part.Checks.{Checks}
use Rattle.yw_state.specs.declared.tree.TreeKind.{TreeKind}
use Rattle.yw_state.specs.declared.tree.TreeKind.TheVariants.{Pre, Select, Post}

abbrev one : Ident → Bool → TreeKind → List DueRow
one j b check = if b then record { at = j; check = check } ∷ [] else []

three : (j : Ident) (x : Site) (p s t : Bool) → one j p Pre ++ (one j s Select ++ one j t Post) ≡ due_rows (j, record x { due = record { pre = p; select = s; post = t } })
three j x true true true = refl
three j x true true false = refl
three j x true false true = refl
three j x true false false = refl
three j x false true true = refl
three j x false true false = refl
three j x false false true = refl
three j x false false false = refl

-- one behind another they are those that are due
pub due_added : (j : Ident) (due : Checks) (x : Site) (a b c d : List DueRow) → x.due ≡ due → b ≡ a ++ one j due.pre Pre → c ≡ b ++ one j due.select Select
    → d ≡ c ++ one j due.post Post → d ≡ a ++ due_rows (j, x)
due_added j due x a b c d same first second third =
    third ∙ ap (λ z. z ++ one j due.post Post) (second ∙ ap (λ z. z ++ one j due.select Select) first)
    ∙ append_assoc (a ++ one j due.pre Pre) (one j due.select Select) (one j due.post Post)
    ∙ append_assoc a (one j due.pre Pre) (one j due.select Select ++ one j due.post Post)
    ∙ ap (λ z. a ++ z) (three j x due.pre due.select due.post) ∙ ap (λ (w : Checks). a ++ due_rows (j, record x { due = w })) (sym same)

-- ---- marks and runs

mark_rows : (j : Ident) (x : Site) (b : Bool) → map (λ (e : Entry). e.0) (cond b ((j, x) ∷ []) []) ≡ (if b then j ∷ [] else [])
mark_rows j x true = refl
mark_rows j x false = refl

pub mark_added : (j : Ident) (x : Site) (b : Bool) (a c : List Ident) → x.suspended ≡ b → c ≡ a ++ (if b then j ∷ [] else []) → c ≡ a ++ suspended_in ((j, x) ∷ [])
mark_added j x b a c same added =
    added ∙ ap (λ z. a ++ z) (sym (ap (λ w. map (λ (e : Entry). e.0) (cond w ((j, x) ∷ []) [])) same ∙ mark_rows j x b))

abbrev run_row_of : Ident → RunPart → RunRow
run_row_of j r = record { run = j; waiting = r.waiting; rest = r.rest }

pub no_run : (j : Ident) (x : Site) (a : List RunRow) → x.run ≡ None → a ≡ a ++ filter_map run_row ((j, x) ∷ [])
no_run j x a none = sym (ap (λ (r : Option RunPart). a ++ cons_option (option_map (run_row_of j) r) []) none ∙ nil_right a)
