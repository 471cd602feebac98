use Rattle.std.proofs.Common.{Err, Some, ap, arith, length, refl, subst, sym, ◌+◌, ◌∙◌, ◌≡◌}
use Rattle.yw_library.proofs.RuleLeads.{grown_number, grows, refused_never, renumbered_never}
use Rattle.yw_library.proofs.SideLemmas.{as_many}
use Rattle.yw_library.proofs.library.Library.rule_as.Goals as goal
use Rattle.yw_library.specs.Accepts.{IfRefused}
use Rattle.yw_library.specs.Adding.{AlwaysGrows, AlwaysRefuses, a_command}
use Rattle.yw_library.specs.declared.fault.LibraryFault.{LibraryFault}
use Rattle.yw_library.specs.declared.trees.Room.{Room}
use Rattle.yw_library.specs.declared.trees.Wanted.{Wanted}
use Rattle.yw_state.specs.declared.event.Event.TheVariants as events
use Rattle.yw_state.specs.declared.rule.Refusal.{Refusal}
use Rattle.yw_trees.specs.Placed.{rules_for}

pub returns-in-Err-Refused-clause-tried : goal.returns-in-Err-Refused-clause-tried
returns-in-Err-Refused-clause-tried c =
    let refusal = c.in-Err-Refused.field-0-0 in
    let breaks : AlwaysRefuses c.args.self.now (a_command c.args.place.now c.args.at c.args.side c.args.when.now c.args.conclusion) (Some refusal) =
    subst (λ (f : LibraryFault). IfRefused {A = Room} (Err f) (λ (r : Refusal). AlwaysRefuses c.args.self.now
    (a_command c.args.place.now c.args.at c.args.side c.args.when.now c.args.conclusion) (Some r)))
    c.in-Err-Refused.field-0-is c.in-Err-Refused.ensures.refused in (
      refused_never c.args.self.now c.args.place.now c.args.at c.args.side c.args.when.now c.args.conclusion c.args.number refusal breaks,
      refl,
    )

pub overflow_add-next : goal.overflow_add-next
overflow_add-next c =
    let rules = rules_for c.in-Ok.room.owner c.args.place.now.kind c.args.self.now.rules in
    let count : c.count_of-next.result ≡ length rules =
    c.count_of-next.ensures ∙ ap (λ ts. length (rules_for c.in-Ok.room.owner c.args.place.now.kind ts)) c.trees.ensures.same in
    omega (arith, count, as_many rules, c.in-Ok.ensures.ok.takes.room)

pub returns-then-next-told-clause-tried : goal.returns-then-next-told-clause-tried
returns-then-next-told-clause-tried c =
    let w : Wanted = record { place = c.args.place; at = c.args.at; side = c.args.side; when = c.args.when } in
    let count = c.count_of-next.ensures ∙ ap (λ ts. length (rules_for c.in-Ok.room.owner c.args.place.now.kind ts)) c.trees.ensures.same in (
      renumbered_never c.args.self.now w c.args.conclusion c.in-Ok.room c.in-Ok.ensures.ok c.args.number
          (λ e. c.if-next-told.true (ap (λ n. n + 1) count ∙ e)),
      refl,
    )

pub keep_rule-requires : goal.keep_rule-requires
keep_rule-requires c = c.in-Ok.ensures.ok

pub returns-clause-tried : goal.returns-clause-tried
returns-clause-tried c =
    let w : Wanted = record { place = c.args.place; at = c.args.at; side = c.args.side; when = c.args.when } in
    let new = c.keep_rule.new.self in
    let node = c.in_ok-keep_rule.field-0 in
    let count = c.count_of-next.ensures ∙ ap (λ ts. length (rules_for c.in-Ok.room.owner c.args.place.now.kind ts)) c.trees.ensures.same in
    let number : node ≡ c.args.number =
    grown_number c.args.self.now w c.args.conclusion c.in-Ok.room c.in-Ok.ensures.ok new node c.in_ok-keep_rule.ensures.ok
    ∙ ap (λ n. n + 1) (sym count) ∙ c.if-next-told.false in
    subst (λ n. AlwaysGrows c.args.self.now (events.AddRule c.args.place.now c.args.at c.args.side c.args.when.now c.args.conclusion n) new) number
    (grows c.args.self.now w c.args.conclusion c.in-Ok.room c.in-Ok.ensures.ok new node c.in_ok-keep_rule.ensures.ok)
