-- What stands is the same where its parts are: its nets, items, runs, marks and checks.
use Rattle.std.proofs.Common.{◌≡◌, ◌||◌, Bool, true, false, Option, None, Some, refl, sym, ap, ◌∙◌}
use Rattle.std.specs.FinMap.Entries.{find}
use Rattle.std.specs.Prelude.{is_some, option_and_then, if◌then◌else◌}
use Rattle.yw_sites.proofs.Picked.{find_picked}
use Rattle.yw_state.proofs.MapLemmas.{by_name, same_map}
use Rattle.yw_state.proofs.Tests.{nowhere, some_same}
use Rattle.yw_state.specs.Identity.{Ident}
use Rattle.yw_state.specs.Map.{entries, get, lexical}
use Rattle.yw_state.specs.State.{ItemPart, NetPart, RunPart, Site, State}
use Rattle.yw_state.specs.Well.{ParentsStand}
use Rattle.yw_state.specs.Words.{any_due}
use Rattle.yw_state.specs.declared.part.Checks.{Checks}
use Rattle.yw_states.specs.States.{due_of_site, item_of_site, mark_of_site, net_of_site, parts, run_of_site}

-- Two states have the same parts.
pub record SameParts (s t : State) : Type 0 where
  pub nets : parts net_of_site s.sites ≡ parts net_of_site t.sites
  pub items : parts item_of_site s.sites ≡ parts item_of_site t.sites
  pub runs : parts run_of_site s.sites ≡ parts run_of_site t.sites
  pub marks : parts mark_of_site s.sites ≡ parts mark_of_site t.sites
  pub dues : parts due_of_site s.sites ≡ parts due_of_site t.sites

-- what is picked at an identity
picked_at : {Y : Type 0} (g : Ident → Site → Option Y) (s t : State) → parts g s.sites ≡ parts g t.sites
    → (q : Ident) → option_and_then (g q) (get s.sites q) ≡ option_and_then (g q) (get t.sites q)
picked_at g s t e q =
    sym (find_picked g q (entries s.sites) s.sites.sorted) ∙ ap (find lexical q) e ∙ find_picked g q (entries t.sites) t.sites.sorted

same_mark : (a b : Bool) → (if a then Some true else None) ≡ (if b then Some true else None) → a ≡ b
same_mark true true e = refl
same_mark true false e = cc
same_mark false true e = cc
same_mark false false e = refl

checks_are : (c d : Checks) → c.pre ≡ d.pre → c.select ≡ d.select → c.post ≡ d.post → c ≡ d
checks_are c d pre select post =
    ap (λ (b : Bool). let x : Checks = record { pre = b; select = c.select; post = c.post } in x) pre
    ∙ ap (λ (b : Bool). let x : Checks = record { pre = d.pre; select = b; post = c.post } in x) select
    ∙ ap (λ (b : Bool). let x : Checks = record { pre = d.pre; select = d.select; post = b } in x) post

none_of : (p q r : Bool) → (p || q || r) ≡ false → (p ≡ false) × (q ≡ false) × (r ≡ false)
none_of true q r e = cc
none_of false true r e = cc
none_of false false true e = cc
none_of false false false e = (refl, refl, refl)

nothing_due : (c d : Checks) → any_due c ≡ false → any_due d ≡ false → c ≡ d
nothing_due c d e f =
    let p = none_of c.pre c.select c.post e in
    let q = none_of d.pre d.select d.post f in
    checks_are c d (p.0 ∙ sym q.0) (p.1 ∙ sym q.1) (p.2 ∙ sym q.2)

same_due : (c d : Checks) → (if any_due c then Some c else None) ≡ (if any_due d then Some d else None) → c ≡ d
same_due c d e = by (any_due c) (any_due d) refl refl e
  where
    by : (a b : Bool) → any_due c ≡ a → any_due d ≡ b → (if any_due c then Some c else None) ≡ (if any_due d then Some d else None) → c ≡ d
    by true true p q e = some_same c d (sym (ap (λ (x : Bool). if x then Some c else None) p) ∙ e ∙ ap (λ (x : Bool). if x then Some d else None) q)
    by true false p q e = absurd (nowhere
        (sym (sym (ap (λ (x : Bool). if x then Some c else None) p) ∙ e ∙ ap (λ (x : Bool). if x then Some d else None) q)))
    by false true p q e = absurd (nowhere
        (sym (ap (λ (x : Bool). if x then Some c else None) p) ∙ e ∙ ap (λ (x : Bool). if x then Some d else None) q))
    by false false p q e = nothing_due c d p q

site_is : (x y : Site) → x.net ≡ y.net → x.item ≡ y.item → x.run ≡ y.run → x.suspended ≡ y.suspended → x.due ≡ y.due → x ≡ y
site_is x y net item run suspended due =
    ap (λ (o : Option NetPart). let z : Site = record { net = o; item = x.item; run = x.run; suspended = x.suspended; due = x.due } in z) net
    ∙ ap (λ (o : Option ItemPart). let z : Site = record { net = y.net; item = o; run = x.run; suspended = x.suspended; due = x.due } in z) item
    ∙ ap (λ (o : Option RunPart). let z : Site = record { net = y.net; item = y.item; run = o; suspended = x.suspended; due = x.due } in z) run
    ∙ ap (λ (b : Bool). let z : Site = record { net = y.net; item = y.item; run = y.run; suspended = b; due = x.due } in z) suspended
    ∙ ap (λ (c : Checks). let z : Site = record { net = y.net; item = y.item; run = y.run; suspended = y.suspended; due = c } in z) due

-- what stands has a net, an item or a run
has_part : (y : Site) → None ≡ y.net → None ≡ y.item → None ≡ y.run → (is_some y.net || is_some y.item || is_some y.run) ≡ true → ⊥
has_part y net item run e = none_true (is_some y.net) (is_some y.item) (is_some y.run) (ap is_some (sym net)) (ap is_some (sym item))
    (ap is_some (sym run)) e
  where
    none_true : (p q r : Bool) → p ≡ false → q ≡ false → r ≡ false → (p || q || r) ≡ true → ⊥
    none_true p q r a b c e = cc

module _ (s t : State) (left : ParentsStand s) (right : ParentsStand t) (rows : SameParts s t) where
  at : (q : Ident) (a b : Option Site) → get s.sites q ≡ a → get t.sites q ≡ b → a ≡ b
  at q None None e f = refl
  at q (Some x) None e f = absurd (has_part x (part net_of_site rows.nets) (part item_of_site rows.items) (part run_of_site rows.runs)
      (left.something q x e))
    where
      part : {Y : Type 0} (g : Ident → Site → Option Y) → parts g s.sites ≡ parts g t.sites → None ≡ g q x
      part g same = sym (ap (option_and_then (g q)) f) ∙ sym (picked_at g s t same q) ∙ ap (option_and_then (g q)) e
  at q None (Some y) e f = absurd (has_part y (part net_of_site rows.nets) (part item_of_site rows.items) (part run_of_site rows.runs)
      (right.something q y f))
    where
      part : {Y : Type 0} (g : Ident → Site → Option Y) → parts g s.sites ≡ parts g t.sites → None ≡ g q y
      part g same = sym (ap (option_and_then (g q)) e) ∙ picked_at g s t same q ∙ ap (option_and_then (g q)) f
  at q (Some x) (Some y) e f =
      ap Some (site_is x y (part net_of_site rows.nets) (part item_of_site rows.items) (part run_of_site rows.runs)
      (same_mark x.suspended y.suspended (part mark_of_site rows.marks)) (same_due x.due y.due (part due_of_site rows.dues)))
    where
      part : {Y : Type 0} (g : Ident → Site → Option Y) → parts g s.sites ≡ parts g t.sites → g q x ≡ g q y
      part g same = sym (ap (option_and_then (g q)) e) ∙ picked_at g s t same q ∙ ap (option_and_then (g q)) f

pub same_sites : (s t : State) → ParentsStand s → ParentsStand t → SameParts s t → s.sites ≡ t.sites
same_sites s t left right rows = same_map by_name s.sites t.sites (λ q. at s t left right rows q (get s.sites q) (get t.sites q) refl refl)
