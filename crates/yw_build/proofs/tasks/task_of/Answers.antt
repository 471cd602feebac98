use Rattle.std.proofs.Common.{◌∙◌, List, All, refl, sym, subst, ◌≡◌, true, ap}
use Rattle.std.specs.Prelude.{not, filter}
use Rattle.yw_read.specs.declared.raw.RawIn.{RawIn}
use Rattle.yw_read.specs.declared.raw.RawOut.{RawOut}
use Rattle.yw_accept.specs.Built.{IsPlaceCalled, IsTaskCalled, IsParam, out_of}
use Rattle.yw_accept.specs.Names.{is_usable}
use Rattle.yw_accept.specs.Nodes.{is_task}
use Rattle.yw_build.specs.Expressions.{InIsReady}
use Rattle.yw_build.proofs.RowLemmas.{row_zip}
use Rattle.yw_build.proofs.TaskLemmas.{branches_ready, ins_ready, outs_usable, sets_ready, each_ready}
use Rattle.yw_build.proofs.ZipLemmas.{zip_along}
use Rattle.std.proofs.Common.{map}
use Rattle.yw_build.proofs.tasks.task_of.Goals as goal

pub branches_of-requires-clause-ready : goal.branches_of-requires-clause-ready
branches_of-requires-clause-ready c = branches_ready c.args.spec.now.said.now c.args.numbers.now.said.now c.args.said.now c.requires.ready

pub ins_of-requires-clause-ready : goal.ins_of-requires-clause-ready
ins_of-requires-clause-ready c =
    let P : List RawIn → Type 0 = λ ins. All (InIsReady c.args.numbers.now.said.now) ins in
    subst P (sym c.as_slice-3.ensures) (ins_ready c.args.spec.now.said.now c.args.numbers.now.said.now c.args.said.now c.requires.ready)

pub outs_of-requires : goal.outs_of-requires
outs_of-requires c =
    let P : List RawOut → Type 0 = λ outs. All (λ (p : RawOut). is_usable p.name ≡ true) outs in
    subst P (sym c.as_slice-4.ensures) (outs_usable c.args.spec.now.said.now c.args.numbers.now.said.now c.args.said.now c.requires.ready)

pub sets_of-requires-clause-ready : goal.sets_of-requires-clause-ready
sets_of-requires-clause-ready c = sets_ready c.args.spec.now.said.now c.args.numbers.now.said.now c.args.said.now c.requires.ready

pub many_of-requires-clause-each : goal.many_of-requires-clause-each
many_of-requires-clause-each c = each_ready c.args.spec.now.said.now c.args.numbers.now.said.now c.args.said.now c.requires.ready

pub returns : goal.returns
returns c =
    let net = c.args.numbers.now.said.now in
    record {
      name = c.in_ok-name_of.ensures;
      kind = c.kind_of.ensures;
      role = c.in_ok-maybe_name.ensures ∙ c.as_ref.ensures.value;
      join = refl;
      split = refl;
      before = row_zip net (λ flow. flow.to) c.args.number c.args.said.now.name c.args.around.now.before.items c.deref.result.now c.in_ok-row_of.field-0 c.requires.around.before c.requires.within c.requires.is c.deref.ensures.value c.in_ok-row_of.ensures;
      after = row_zip net (λ flow. flow.from) c.args.number c.args.said.now.name c.args.around.now.after.items c.deref-2.result.now c.in_ok-row_of-2.field-0 c.requires.around.after c.requires.within c.requires.is c.deref-2.ensures.value c.in_ok-row_of-2.ensures;
      branch = c.in_ok-branches_of.ensures;
      drop_places = zip_along (IsPlaceCalled net) _ _ _ _ (ap (filter (λ text. not (is_task net text))) c.as_slice.ensures) refl c.in_ok-removed_places.ensures;
      drop_tasks = zip_along (IsTaskCalled net) _ _ _ _ (ap (filter (is_task net)) c.as_slice-2.ensures) refl c.in_ok-removed_tasks.ensures;
      ins = zip_along (IsParam net) _ _ _ _ c.as_slice-3.ensures refl c.in_ok-ins_of.ensures;
      outs = c.in_ok-outs_of.ensures ∙ ap (map out_of) c.as_slice-4.ensures;
      set = c.in_ok-sets_of.ensures;
      many = c.in_ok-many_of.ensures;
    }
