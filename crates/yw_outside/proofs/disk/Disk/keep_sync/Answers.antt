use Rattle.std.proofs.Common.{◌≤◌, ◌≡◌, ◌++◌, ◌∷◌, [], List, arith, refl, sym, subst}
use Rattle.yw_outside.specs.declared.log.Made.{Made}
use Rattle.yw_outside.specs.declared.log.Call.TheVariants.{Sync}
use Rattle.yw_outside.specs.Stored.{Stands}
use Rattle.yw_outside.proofs.Kept.{kept_more, kept_none, either_way}
use Rattle.yw_outside.proofs.disk.Disk.keep_sync.Goals as goal

pub invariant_of-self : goal.invariant_of-self
invariant_of-self c =
    let d = c.args.self.now in
    let made = c.saturating_add-self.result in
    let later : d.made ≤ made = omega (arith, c.saturating_add-self.ensures) in
    let P : List Made → Type 0 = λ l. Stands d.a d.b d.said.items l made in
    let more = d.log.items ++ (record { number = made; call = Sync c.args.f }) ∷ [] in
    record {
      kept = either_way (c.note.new.log.items ≡ more) (c.note.new.log.items ≡ d.log.items) (P c.note.new.log.items) c.note.result c.note.ensures.ok c.note.ensures.err
          (λ e. subst P (sym e) (kept_more d.a d.a d.b d.b d.said.items d.said.items d.log.items d.made made d.kept later refl refl (Sync c.args.f) refl d.kept.reads_a d.kept.reads_b d.kept.said))
          (λ e. subst P (sym e) (kept_none d.a d.a d.b d.b d.said.items d.said.items d.log.items d.made made d.kept later refl refl refl refl refl));
    }
