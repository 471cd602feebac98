use Rattle.std.proofs.Common.{◌≤◌, ◌≡◌, ◌++◌, ◌∷◌, [], List, ℕ, arith, refl, sym, subst, ap, ◌∙◌}
use Rattle.yw_outside.specs.declared.log.Made.{Made}
use Rattle.yw_outside.specs.declared.log.Call.TheVariants.{Say}
use Rattle.yw_outside.specs.Stored.{Stands}
use Rattle.yw_outside.proofs.Kept.{kept_more, kept_none, both_ways}
use Rattle.yw_outside.proofs.disk.Disk.keep_say.Goals as goal

pub invariant_of-self : goal.invariant_of-self
invariant_of-self c =
    let d = c.args.self.now in
    let made = c.saturating_add-self.result in
    let later : d.made ≤ made = omega (arith, c.saturating_add-self.ensures) in
    let bytes = c.args.bytes.now in
    let log = c.say_noted.new.log.items in
    let said = c.say_noted.new.said.items in
    let P : List Made → Type 0 = λ l. Stands d.a d.b said l made in
    let more = d.log.items ++ (record { number = made; call = Say bytes }) ∷ [] in
    record {
      kept = both_ways (log ≡ more) (log ≡ d.log.items) (said ≡ d.said.items ++ bytes) (said ≡ d.said.items) (P log) c.say_noted.result
          c.say_noted.ensures.ok c.say_noted.ensures.err c.say_noted.ensures.said c.say_noted.ensures.none
          (λ e f. subst P (sym e) (kept_more d.a d.a d.b d.b d.said.items said d.log.items d.made made d.kept later refl refl (Say bytes) refl d.kept.reads_a d.kept.reads_b
          (f ∙ ap (λ (l : List ℕ). l ++ bytes) d.kept.said)))
          (λ e f. subst P (sym e) (kept_none d.a d.a d.b d.b d.said.items said d.log.items d.made made d.kept later refl refl refl refl f));
    }
