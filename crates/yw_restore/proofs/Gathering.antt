-- What is gathered of entries one after another.
use Rattle.std.proofs.Common.{◌≡◌, ◌∙◌, ◌<◌, ◌+◌, ◌++◌, ◌∷◌, [], ℕ, List, Option, map, ap, get_or, length, subst, sym, take}
use Rattle.std.proofs.lemmas.List.{map-append, take_more}
use Rattle.std.proofs.lemmas.List.Concat.{flat_map-append}
use Rattle.std.proofs.lemmas.List.Elements.{filter_map-append}
use Rattle.std.specs.Prelude.{flat_map}
use Rattle.yw_restore.proofs.Growing.{both_more}
use Rattle.yw_restore.specs.Gathers.{Gathers, due_rows_in, item_rows_in, marks_in, net_rows_in, run_rows_in, token_rows_in}
use Rattle.yw_restore.specs.Lines.{ident_of_mark, row_of_due, row_of_item, row_of_net, row_of_run, row_of_token}
use Rattle.yw_restore.specs.declared.lines.CaseLines.{CaseLines}
use Rattle.yw_sites.proofs.Each.{nil_right}
use Rattle.yw_sites.proofs.Picked.{pick, picked}
use Rattle.yw_sites.specs.Entries.{Entry}
use Rattle.yw_state.specs.Identity.{Ident}
use Rattle.yw_state.specs.State.{Site, State}
use Rattle.yw_states.specs.States.{due_of_site, due_row, item_of_site, item_row, mark_of_site, net_of_site, net_row, run_of_site, run_row, token_rows}

module _ {Y Z : Type 0} (g : Ident → Site → Option Y) (f : Ident × Y → Z) (es fs : List Entry) where
  mapped_both : map f (picked g (es ++ fs)) ≡ map f (picked g es) ++ map f (picked g fs)
  mapped_both = ap (map f) (filter_map-append (pick g) es fs) ∙ map-append f (picked g es) (picked g fs)

module _ (s : State) where
  tokens_both : (es fs : List Entry) → token_rows_in s (es ++ fs) ≡ token_rows_in s es ++ token_rows_in s fs
  tokens_both es fs =
      ap (flat_map (token_rows s)) (filter_map-append (pick net_of_site) es fs)
      ∙ flat_map-append (token_rows s) (picked net_of_site es) (picked net_of_site fs)

  pub gathers_both : (es fs : List Entry) (a b c : CaseLines) → Gathers s es a b → Gathers s fs b c → Gathers s (es ++ fs) a c
  gathers_both es fs a b c first next = record {
    nets = both_more (net_rows_in s) es fs (map row_of_net a.nets) (map row_of_net b.nets) (map row_of_net c.nets)
        (mapped_both net_of_site (net_row s) es fs) first.nets next.nets;
    tokens = both_more (token_rows_in s) es fs (map row_of_token a.tokens) (map row_of_token b.tokens) (map row_of_token c.tokens)
        (tokens_both es fs) first.tokens next.tokens;
    items = both_more (item_rows_in s) es fs (map row_of_item a.items) (map row_of_item b.items) (map row_of_item c.items)
        (mapped_both item_of_site (item_row s) es fs) first.items next.items;
    runs = both_more run_rows_in es fs (map row_of_run a.runs) (map row_of_run b.runs) (map row_of_run c.runs)
        (mapped_both run_of_site run_row es fs) first.runs next.runs;
    suspended = both_more marks_in es fs (map ident_of_mark a.suspended) (map ident_of_mark b.suspended) (map ident_of_mark c.suspended)
        (mapped_both mark_of_site (λ e. e.0) es fs) first.suspended next.suspended;
    due = both_more due_rows_in es fs (map row_of_due a.due) (map row_of_due b.due) (map row_of_due c.due)
        (mapped_both due_of_site due_row es fs) first.due next.due;
  }

  pub gathers_none : (es : List Entry) → es ≡ [] → (l : CaseLines) → Gathers s es l l
  gathers_none es none l = subst (λ (fs : List Entry). Gathers s fs l l) (sym none) (record {
    nets = sym (nil_right (map row_of_net l.nets));
    tokens = sym (nil_right (map row_of_token l.tokens));
    items = sym (nil_right (map row_of_item l.items));
    runs = sym (nil_right (map row_of_run l.runs));
    suspended = sym (nil_right (map ident_of_mark l.suspended));
    due = sym (nil_right (map row_of_due l.due));
  })

  -- the next of a list of entries
  pub gathers_next : (es : List Entry) (i : ℕ) (e : Entry) (a b c : CaseLines) → i < length es → e ≡ get_or es i e → Gathers s (take i es) a b
      → Gathers s (e ∷ []) b c → Gathers s (take (i + 1) es) a c
  gathers_next es i e a b c within at first next =
      subst (λ (fs : List Entry). Gathers s fs a c) (sym (take_more es i e within ∙ ap (λ z. take i es ++ z ∷ []) (sym at)))
      (gathers_both (take i es) (e ∷ []) a b c first next)
