use Rattle.std.proofs.Common.{◌∙◌, Bool, ap, map, subst, sym}
use Rattle.std.specs.List.{list_all}
use Rattle.yw_library.specs.Holdings.{Holdings}
use Rattle.yw_revive.proofs.Named.{is_named, none_fits, none_loads}
use Rattle.yw_revive.proofs.names.read_library.Goals as goal
use Rattle.yw_revive.specs.Names.{LoadsAll, are_roles_of, person_of}

pub returns-then-not-all_fit : goal.returns-then-not-all_fit
returns-then-not-all_fit c =
    none_fits c.args.persons.now c.args.texts.now (ap (list_all are_roles_of) (sym c.as_slice-rows.ensures.rows) ∙ sym c.if-not-all_fit.ensures)

pub returns-then-not-branch : goal.returns-then-not-branch
returns-then-not-branch c =
    none_loads c.args.persons.now c.args.texts.now
    (subst (λ (b : Bool). LoadsAll c.add_persons.new.library c.args.texts.now b c.load_all.new.library) c.if-not-branch.true c.in_ok-load_all.ensures)

pub returns : goal.returns
returns c =
    let tells
    = subst (λ (b : Bool). LoadsAll c.add_persons.new.library c.args.texts.now b c.load_all.new.library) c.if-not-branch.false c.in_ok-load_all.ensures in
    is_named c.args.persons.now c.args.texts.now c.load_all.new.library c.as_slice-rows.ensures.ascend
    (ap (list_all are_roles_of) (sym c.as_slice-rows.ensures.rows) ∙ sym c.if-not-all_fit.ensures)
    (tells.0 ∙ ap (λ (l : Holdings). l.persons) c.in_ok-add_persons.ensures ∙ ap (map person_of) c.as_slice-rows.ensures.rows) tells.1
