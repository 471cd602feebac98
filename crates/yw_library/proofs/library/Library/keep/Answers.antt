use Rattle.std.proofs.Common.{sym, subst}
use Rattle.yw_library.specs.Holdings.{Holdings, spec_name}
use Rattle.yw_library.specs.Numbers.{NoneNamed}
use Rattle.yw_library.proofs.HoldingsLemmas.{kept-push_spec, kept-stale_spec}
use Rattle.yw_library.proofs.library.Library.keep.Goals as goal

pub invariant_of-self-in_err-push : goal.invariant_of-self-in_err-push
invariant_of-self-in_err-push c =
    let name = c.args.loaded.spec.name in
    let none = subst (λ (l : Holdings). NoneNamed spec_name l.specs name) (sym c.self.view_is) c.requires.new in
    rw (c.in_err-push.ensures.err, c.in_ok-put.ensures.ok, c.as_str.ensures.text) (kept-stale_spec _ _ _ _ _ c.self.invariant name c.len-number.result none)

pub invariant_of-self-2 : goal.invariant_of-self-2
invariant_of-self-2 c =
    let new = c.args.loaded in
    let none = subst (λ (l : Holdings). NoneNamed spec_name l.specs new.spec.name) (sym c.self.view_is) c.requires.new in
    rw (c.in_ok-push.ensures.ok, c.in_ok-put.ensures.ok, c.as_str.ensures.text, c.len-number.ensures) (kept-push_spec _ _ _ _ _ c.self.invariant new none c.requires.accepted)
