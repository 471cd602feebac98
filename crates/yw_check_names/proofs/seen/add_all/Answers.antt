use Rattle.std.proofs.Common.{◌≡◌, ℕ, List, [], ◌∷◌, ◌++◌, map, take, get_or, string_bytes, sym, ap, ◌∙◌, subst, append_assoc}
use Rattle.std.proofs.lemmas.List.{take_more}
use Rattle.yw_accept.proofs.Among.{name_at}
use Rattle.yw_check_names.specs.Seen.{Knows}
use Rattle.yw_check_names.proofs.SeenLemmas.{knows_more}
use Rattle.yw_check_names.proofs.seen.add_all.Goals as goal

pub loop-item-preserved : goal.loop-item-preserved
loop-item-preserved g c =
    let names = map g.T.Named.name_of c.args.items.now in
    let i = c.loop-item.item-index in
    let at = name_at g.T.Named.name_of c.args.items.now i c.item-item.result c.name.result.now c.loop-item-test.true c.item-item.is c.name.ensures in
    let added = string_bytes c.in_ok-from_str.field-0 in
    let is : added ≡ get_or names i c.name.result.now = c.in_ok-from_str.ensures.ok ∙ c.as_str.ensures ∙ at.1 in
    record {
      knows = λ seen knows.
          subst (Knows c.add.new.set)
          (append_assoc seen (take i names) (added ∷ [])
          ∙ ap (λ (x : List ℕ). seen ++ (take i names ++ x ∷ [])) is
          ∙ ap (λ (xs : List (List ℕ)). seen ++ xs) (sym (take_more names i c.name.result.now at.0)))
          (knows_more c.loop-item.set c.add.new.set added c.in_ok-add.field-0 c.in_ok-add.ensures (seen ++ take i names) (c.loop-item.invariant.knows seen knows));
    }
