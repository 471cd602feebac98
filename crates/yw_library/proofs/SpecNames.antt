-- The names of an accepted specification of which conditions speak.
use Rattle.std.proofs.Common.{◌≡◌, ◌∙◌, ℕ, List, [], ◌∷◌, map, Some, None, refl, sym, ap, subst}
use Rattle.std.specs.Prelude.{slice_get}
use Rattle.yw_accept.proofs.FactsLemmas.{is_named}
use Rattle.yw_accept.specs.Built.{IsNet, IsParam, IsSpec, IsTask, out_of, var_of}
use Rattle.yw_accept.specs.Facts.{AreDistinct, NetIsNamed, TaskIsNamed}
use Rattle.yw_accept.specs.Verdict.{IsVerdict}
use Rattle.yw_accepted.proofs.Found.{all_at, zip_at, zip_names}
use Rattle.yw_library.specs.Scopes.{HasNames, IsApart, task_in}
use Rattle.yw_texts.specs.Texts.{IsAccepted}
use Rattle.yw_read.specs.declared.raw.RawIn.{RawIn}
use Rattle.yw_read.specs.declared.raw.RawNet.{RawNet}
use Rattle.yw_read.specs.declared.raw.RawOut.{RawOut}
use Rattle.yw_read.specs.declared.raw.RawSpec.{RawSpec}
use Rattle.yw_read.specs.declared.raw.RawTask.{RawTask}
use Rattle.yw_read.specs.declared.raw.RawVar.{RawVar}
use Rattle.yw_spec.specs.declared.spec.Net.{Net}
use Rattle.yw_spec.specs.declared.spec.Spec.{Spec}
use Rattle.yw_spec.specs.declared.spec.Var.{Var}
use Rattle.yw_spec.specs.declared.task.Param.{Param}
use Rattle.yw_spec.specs.declared.task.Task.{Task}
use Rattle.yw_state.proofs.Tests.{then_some}

same_vars : (vs : List RawVar) → map (λ (v : Var). v.name) (map var_of vs) ≡ map (λ (v : RawVar). v.name) vs
same_vars [] = refl
same_vars (v ∷ vs) = ap (λ ns. v.name ∷ ns) (same_vars vs)

same_outs : (ps : List RawOut) → map (λ (p : Param). p.name) (map out_of ps) ≡ map (λ (p : RawOut). p.name) ps
same_outs [] = refl
same_outs (p ∷ ps) = ap (λ ns. p.name ∷ ns) (same_outs ps)

task_apart : (raw : RawSpec) (rn : RawNet) (said : RawTask) (t : Task) → IsTask raw rn said t → TaskIsNamed said → IsApart t
task_apart raw rn said t is named = record {
  ins = subst AreDistinct (sym (zip_names (IsParam rn) (λ (p : RawIn). p.name) (λ (p : Param). p.name) (λ x y r. r.name) said.ins t.ins is.ins))
      named.ins.distinct;
  outs = subst AreDistinct (sym (ap (map (λ (p : Param). p.name)) is.outs ∙ same_outs said.outs)) named.outs.distinct;
}

module _ (raw : RawSpec) (verdict : IsVerdict raw None) (spec : Spec) (is_spec : IsSpec raw spec) where
  net_named : (k : ℕ) (rn : RawNet) → slice_get raw.net k ≡ Some rn → NetIsNamed rn
  unfolding IsVerdict
  net_named k rn at = all_at NetIsNamed raw.net (is_named raw verdict.0).nets k rn at

  vars_apart : (k : ℕ) (net : Net) → slice_get spec.nets k ≡ Some net → AreDistinct (map (λ (x : Var). x.name) net.vars)
  vars_apart k net at =
      let (rn, rat, built) = zip_at (IsNet raw) raw.net spec.nets is_spec.nets k net at in
      subst AreDistinct (sym (ap (map (λ (v : Var). v.name)) built.vars ∙ same_vars rn.vars)) (net_named k rn rat).vars.distinct

  params_apart : (n t : ℕ) (task : Task) → task_in spec n t ≡ Some task → IsApart task
  params_apart n t task e =
      let (net, at, there) = then_some (λ (x : Net). slice_get x.tasks t) (slice_get spec.nets n) task e in
      let (rn, rat, built) = zip_at (IsNet raw) raw.net spec.nets is_spec.nets n net at in
      let (said, said_at, is) = zip_at (IsTask raw rn) rn.task net.tasks built.tasks t task there in
      task_apart raw rn said task is (all_at TaskIsNamed rn.task (net_named n rn rat).tasks t said said_at)

pub accepted_names : (text : List ℕ) (spec : Spec) → IsAccepted text spec → HasNames spec
accepted_names text spec a = record {
  vars = λ net at. vars_apart a.raw a.accepted spec a.is_spec spec.top net at;
  params = params_apart a.raw a.accepted spec a.is_spec;
}
