use Rattle.std.proofs.Common.{◌≡◌, ℕ, List, [], ◌∷◌, get_or, set, Bool, true, false, inl, inr, sym, ◌∙◌, subst}
use Rattle.std.proofs.lemmas.Bool.{false≢true}
use Rattle.yw_reach.specs.Search.{Visits}
use Rattle.yw_reach.proofs.MarkLemmas.{either}
use Rattle.yw_reach.proofs.SearchLemmas.{visits_known, visits_new}
use Rattle.yw_reach.proofs.search.visit.Goals as goal

pub returns-then-get : goal.returns-then-get
returns-then-get c = visits_known _ _ _ (c.get.ensures.0 c.if-get.true)

pub returns : goal.returns
returns c =
    let P : List Bool → List ℕ → Type 0 = λ ms ps. Visits (c.args.node ∷ []) c.args.search.now.marks c.args.search.now.pending.items ms ps in
    let bare : get_or c.args.search.now.marks c.args.node false ≡ false = elim (either (get_or c.args.search.now.marks c.args.node false)) [
      | inl e ↦ absurd (false≢true (sym c.if-get.false ∙ c.get.ensures.1 e))
      | inr e ↦ e
    ] in
    subst (λ ms. P ms c.push.new.self.items) (sym c.mark.ensures)
    (subst (λ ps. P (set c.args.search.now.marks c.args.node true) ps) (sym c.in_ok-push.ensures.items)
    (visits_new c.args.search.now.marks c.args.search.now.pending.items c.args.node c.requires bare))
