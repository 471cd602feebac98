use Rattle.std.proofs.Common.{◌≡◌, true, List, All, sym, subst}
use Rattle.yw_read.specs.declared.raw.RawVar.{RawVar}
use Rattle.yw_accept.specs.Names.{is_usable}
use Rattle.yw_accept.proofs.ReadyLemmas.{usable_each}
use Rattle.yw_build.proofs.nets.net_of.Goals as goal

pub vars_of-requires : goal.vars_of-requires
vars_of-requires c =
    let P : List RawVar → Type 0 = λ vars. All (λ (v : RawVar). is_usable v.name ≡ true) vars in
    subst P (sym c.as_slice-2.ensures) (usable_each (λ (v : RawVar). v.name) c.args.said.now.vars c.requires.ready.named.vars.usable)
