use Rattle.std.proofs.Common.{ap, length, subst, sym, ◌<◌, ◌∙◌, ◌≡◌}
use Rattle.std.proofs.lemmas.List.{length-map}
use Rattle.std.proofs.lemmas.Result.{IfOk-weaker}
use Rattle.std.specs.Prelude.{IfOk, OnErr}
use Rattle.yw_trees.proofs.Right.{more_known, still_right, takes_in}
use Rattle.yw_trees.proofs.trees.Trees.add_to.Goals as goal
use Rattle.yw_trees.specs.Grown.{AreRight, IsMoreIn, placed, rule_of}

pub add_at-added-requires-clause-takes : goal.add_at-added-requires-clause-takes
add_at-added-requires-clause-takes c =
    takes_in c.self.inside.grown c.self.inside.slots c.self.invariant c.args.self.now c.self.view_is c.into_vec-grown.result.items
    (c.into_vec-grown.ensures ∙ c.replace.ensures.value) c.args.number c.args.rule.at c.args.rule.side c.requires.takes

pub invariant_of-self : goal.invariant_of-self
invariant_of-self c =
    let gs = c.self.inside.grown in
    let new = c.add_at-added.new.grown.items in
    let was = c.into_vec-grown.ensures ∙ c.replace.ensures.value in
    let r = rule_of c.args.rule in
    let there : c.args.number < length gs = subst (λ n. c.args.number < n) (ap length (sym c.self.view_is) ∙ length-map gs placed) c.requires.there in
    subst (λ xs. AreRight xs c.self.inside.slots) (sym c.from_vec.ensures)
    (still_right gs new c.self.inside.slots c.self.invariant c.args.number there r c.add_at-added.result
    (subst (λ xs. IfOk c.add_at-added.result (IsMoreIn xs new c.args.number r)) was c.add_at-added.ensures.ok)
    (subst (λ xs. OnErr c.add_at-added.result (new ≡ xs)) was c.add_at-added.ensures.err))

pub returns-clause-ok : goal.returns-clause-ok
returns-clause-ok c =
    IfOk-weaker c.add_at-added.result _ _
    (more_known c.self.inside.grown c.into_vec-grown.result.items c.add_at-added.new.grown.items c.from_vec.result c.args.self.now
    (c.into_vec-grown.ensures ∙ c.replace.ensures.value) c.from_vec.ensures c.self.view_is c.args.number (rule_of c.args.rule))
    c.add_at-added.ensures.ok
