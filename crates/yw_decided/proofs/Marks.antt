-- Marks and checks, at each thing that stands.
use Rattle.std.proofs.Common.{◌≡◌, ◌&&◌, Bool, true, false, Some, None, Option, refl, sym, ap, ◌∙◌}
use Rattle.std.specs.Prelude.{option_map, option_and_then, unwrap_or}
use Rattle.yw_state.proofs.Tests.{by_option, never}
use Rattle.yw_state.specs.Identity.{Ident}
use Rattle.yw_state.specs.Judged.{has_rule}
use Rattle.yw_state.specs.Map.{get}
use Rattle.yw_state.specs.Options.{is_some_and}
use Rattle.yw_state.specs.State.{ItemPart, Site, State, due_at, is_suspended, is_target, item_part, no_checks}
use Rattle.yw_state.specs.Well.{MarksStand, Stands}
use Rattle.yw_state.specs.Words.{has_check, is_ready}
use Rattle.yw_state.specs.declared.part.Checks.{Checks}
use Rattle.yw_state.specs.declared.tree.TreeKind.{TreeKind}
use Rattle.yw_state.specs.declared.tree.TreeKind.TheVariants.{Pre, Select, Post, External, Timeout, Abort}
use Rattle.yw_decided.specs.Decided.{check_stands, each_site, implies, marks_stand}
use Rattle.yw_decided.proofs.Each.{and_left, and_right, at_each, both, from_each, from_implies, to_implies}

-- nothing is due where nothing stands
nothing_due : (kind : TreeKind) → has_check no_checks kind ≡ false
nothing_due Pre = refl
nothing_due Select = refl
nothing_due Post = refl
nothing_due External = refl
nothing_due Timeout = refl
nothing_due Abort = refl

module _ (s : State) where
  abbrev due_is : (j : Ident) (x : Site) → Stands s j x → due_at s j ≡ x.due
  due_is j x e = ap (λ (o : Option Site). unwrap_or (option_map (λ (y : Site). y.due) o) no_checks) e

  suspended_is : (j : Ident) (x : Site) → Stands s j x → is_suspended s j ≡ x.suspended
  suspended_is j x e = ap (λ (o : Option Site). is_some_and o (λ (y : Site). y.suspended)) e

  item_is : (j : Ident) (x : Site) → Stands s j x → item_part s j ≡ x.item
  item_is j x e = ap (λ (o : Option Site). option_and_then (λ (y : Site). y.item) o) e

  none_due : (j : Ident) (kind : TreeKind) → get s.sites j ≡ None → has_check (due_at s j) kind ≡ false
  none_due j kind e = ap (λ (o : Option Site). has_check (unwrap_or (option_map (λ (y : Site). y.due) o) no_checks) kind) e ∙ nothing_due kind

  none_suspended : (j : Ident) → get s.sites j ≡ None → is_suspended s j ≡ false
  none_suspended j e = ap (λ (o : Option Site). is_some_and o (λ (y : Site). y.suspended)) e

  module _ (all : each_site s (marks_stand s) ≡ true) where
    abbrev checks : (j : Ident) (x : Site) → Bool
    checks j x =
        check_stands s j x Pre && (check_stands s j x Select && (check_stands s j x Post && implies x.due.select (is_some_and x.item (λ i. is_ready i.stage))))

    here : (j : Ident) (x : Site) → Stands s j x → marks_stand s j x ≡ true
    here j x e = at_each s (marks_stand s) all j x e

    others : (j : Ident) (x : Site) → Stands s j x → checks j x ≡ true
    others j x e = and_right (implies x.suspended (is_target s j)) (checks j x) (here j x e)

    check_here : (kind : TreeKind) (j : Ident) (x : Site) → Stands s j x → check_stands s j x kind ≡ true
    check_here Pre j x e = and_left (check_stands s j x Pre) _ (others j x e)
    check_here Select j x e = and_left (check_stands s j x Select) _ (and_right (check_stands s j x Pre) _ (others j x e))
    check_here Post j x e = and_left (check_stands s j x Post) _ (and_right (check_stands s j x Select) _ (and_right (check_stands s j x Pre) _ (others j x e)))
    check_here kind j x e = refl

    due_here : (j : Ident) (kind : TreeKind) → has_check (due_at s j) kind ≡ true → (is_target s j && has_rule s j kind) ≡ true
    due_here j kind due =
        by_option (get s.sites j)
        (λ (none : get s.sites j ≡ None). absurd (never (sym (none_due j kind none) ∙ due)))
        (λ (x : Site) (e : get s.sites j ≡ Some x).
        from_implies (has_check x.due kind) (is_target s j && has_rule s j kind) (check_here kind j x e)
        (ap (λ (c : Checks). has_check c kind) (sym (due_is j x e)) ∙ due))

    pub marks_from : MarksStand s
    marks_from = record {
      suspended = λ j on.
          by_option (get s.sites j)
          (λ (none : get s.sites j ≡ None). absurd (never (sym (none_suspended j none) ∙ on)))
          (λ (x : Site) (e : get s.sites j ≡ Some x).
          from_implies x.suspended (is_target s j) (and_left (implies x.suspended (is_target s j)) (checks j x) (here j x e)) (sym (suspended_is j x e) ∙ on));
      due = λ j kind due. and_left (is_target s j) (has_rule s j kind) (due_here j kind due);
      due_has_rule = λ j kind due. and_right (is_target s j) (has_rule s j kind) (due_here j kind due);
      select = λ j due.
          by_option (get s.sites j)
          (λ (none : get s.sites j ≡ None). absurd (never (sym (none_due j Select none) ∙ due)))
          (λ (x : Site) (e : get s.sites j ≡ Some x).
          let last = and_right (check_stands s j x Post) _ (and_right (check_stands s j x Select) _ (and_right (check_stands s j x Pre) _ (others j x e))) in
          ap (λ (o : Option ItemPart). is_some_and o (λ i. is_ready i.stage)) (item_is j x e)
          ∙ from_implies x.due.select (is_some_and x.item (λ i. is_ready i.stage)) last (ap (λ (c : Checks). has_check c Select) (sym (due_is j x e)) ∙ due));
    }

  module _ (well : MarksStand s) where
    check_stands_here : (kind : TreeKind) (j : Ident) (x : Site) → Stands s j x → check_stands s j x kind ≡ true
    check_stands_here kind j x e = to_implies (has_check x.due kind) (is_target s j && has_rule s j kind) (λ due.
        let on : has_check (due_at s j) kind ≡ true = ap (λ (c : Checks). has_check c kind) (due_is j x e) ∙ due in
        both (is_target s j) (has_rule s j kind) (well.due j kind on) (well.due_has_rule j kind on))

    pub marks_to : each_site s (marks_stand s) ≡ true
    marks_to = from_each s (marks_stand s) (λ j x e.
        both _ _ (to_implies x.suspended (is_target s j) (λ on. well.suspended j (suspended_is j x e ∙ on)))
        (both _ _ (check_stands_here Pre j x e)
        (both _ _ (check_stands_here Select j x e)
        (both _ _ (check_stands_here Post j x e)
        (to_implies x.due.select (is_some_and x.item (λ i. is_ready i.stage)) (λ due.
        ap (λ (o : Option ItemPart). is_some_and o (λ i. is_ready i.stage)) (sym (item_is j x e))
        ∙ well.select j (ap (λ (c : Checks). has_check c Select) (due_is j x e) ∙ due)))))))
