-- Where a case isn't urgent, no check is due at what isn't busy.
use Rattle.std.specs.Prelude.{◌≡◌, ◌==◌, ◌&&◌, ◌||◌, Bool, true, not, List, [], ◌∷◌, cond, Some, refl}
use Rattle.std.specs.FinMap.Entries.{find}
use Rattle.std.specs.List.{list_any}
use Rattle.std.specs.Ordering.{eq_by_cmp}
use Rattle.std.specs.declared.cmp.Ordering.{Ordering}
use Rattle.std.proofs.Common.{sym, ◌∙◌, ap}
use Rattle.std.proofs.lemmas.Bool.{and_from, and_parts, eq-eqb, not-true, or_left, or_right}
use Rattle.yw_state.proofs.MapLemmas.{KeyOrder, by_name, by_test, never, nowhere, some_same, tied}
use Rattle.yw_state.specs.Identity.{Ident}
use Rattle.yw_base.specs.Identity.{case_number}
use Rattle.yw_state.specs.Map.{entries}
use Rattle.yw_state.specs.Options.{is_some_and}
use Rattle.yw_state.specs.State.{State, Site, RunPart, some_site}
use Rattle.yw_state.specs.Well.{Stands}
use Rattle.yw_state.specs.Words.{any_due, busy, clear, has_check, held, urgent}
use Rattle.yw_state.specs.declared.part.Checks.{Checks}
use Rattle.yw_state.specs.declared.tree.TreeKind.{TreeKind}
use Rattle.yw_state.specs.declared.tree.TreeKind.TheVariants.{Pre, Post, Select}

-- an entry that is found passes among all
any_found : {K X : Type 0} {R : K → K → Ordering} (o : KeyOrder R) (p : K → X → Bool) (k : K) (x : X) → p k x ≡ true → (es : List (K × X)) → find R k es ≡ Some x → list_any (λ e. p e.0 e.1) es ≡ true
any_found o p k x passes [] found = nowhere found
any_found {K} {X} {R} o p k x passes (e ∷ es) found =
    by_test (eq_by_cmp R k e.0)
    (λ b.
    let here : e.1 ≡ x = some_same e.1 x (sym (ap (λ c. cond c (Some e.1) (find R k es)) b) ∙ found) in
    or_left (p e.0 e.1) (list_any (λ e. p e.0 e.1) es) (ap (p e.0) here ∙ ap (λ q. p q x) (sym (tied o k e.0 b)) ∙ passes))
    (λ b. or_right (p e.0 e.1) (list_any (λ e. p e.0 e.1) es) (any_found o p k x passes es (sym (ap (λ c. cond c (Some e.1) (find R k es)) b) ∙ found)))

pub some_stands : (s : State) (p : Ident → Site → Bool) (j : Ident) (x : Site) → Stands s j x → p j x ≡ true → some_site s p ≡ true
some_stands s p j x stands passes = any_found by_name p j x passes (entries s.sites) stands

check_any : (c : Checks) (kind : TreeKind) → has_check c kind ≡ true → any_due c ≡ true
check_any c Pre e = or_left (c.pre || c.select) c.post (or_left c.pre c.select e)
check_any c Select e = or_left (c.pre || c.select) c.post (or_right c.pre c.select e)
check_any c Post e = or_right (c.pre || c.select) c.post e
check_any c kind e = never e

-- no check is due there
pub none_due : (s : State) (j : Ident) (x : Site) → Stands s j x → (clear s j && not (busy s j)) ≡ true → (kind : TreeKind) → has_check x.due kind ≡ true → {A : Type 0} → A
none_due s j x stands calm kind due =
    let parts = and_parts (clear s j) (not (busy s j)) calm in
    let quiet = and_parts (not (held s j)) (not (urgent s (case_number j))) parts.0 in
    let here = and_from (any_due x.due) (not (busy s j)) (check_any x.due kind due) parts.1 in
    let urgent_here = some_stands s (λ k y. case_number k == case_number j && (any_due y.due && not (busy s k) || is_some_and y.run (λ (r : RunPart). not r.waiting))) j x stands
    (and_from _ _ (eq-eqb (case_number j) (case_number j) refl) (or_left _ (is_some_and x.run (λ (r : RunPart). not r.waiting)) here)) in
    never (sym (not-true _ quiet.1) ∙ urgent_here)
