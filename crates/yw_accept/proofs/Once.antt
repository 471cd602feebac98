-- A check finds one thing at most.
use Rattle.std.specs.Prelude.{◌≡◌, ℕ, List, [], ◌∷◌, ◌++◌, map, true, Option, Some, None, option_to_list, refl}
use Rattle.std.proofs.Common.{◌∙◌, ap, sym, inl, inr}
use Rattle.std.proofs.lemmas.Option.{none-some}
use Rattle.yw_read.specs.declared.raw.RawNet.{RawNet}
use Rattle.yw_read.specs.declared.raw.RawTask.{RawTask}
use Rattle.yw_read.specs.declared.raw.RawSpec.{RawSpec}
use Rattle.yw_read.specs.declared.raw.RawVar.{RawVar}
use Rattle.yw_accept.specs.declared.broken.Broken.{Broken}
use Rattle.yw_accept.specs.Faults.{in_net, of_net}
use Rattle.yw_accept.specs.Graph.{IsOnPath, NodeIsOnPath, PathsFit, ChildrenFit, LevelsFit, OrJoinsFit}
use Rattle.yw_accept.specs.Names.{is_new, IsNew, AreNew, TaskNames, NetNames, NamesFit, FlowsFit, RemovalsFit}
use Rattle.yw_accept.specs.Nodes.{nodes, net_names, named_places}
use Rattle.yw_accept.specs.Order.{Check, Demand, Then, Nothing, InOrder, InTurn}
use Rattle.yw_accept.specs.Scopes.{SortsFit, ParametersAgree}
use Rattle.yw_accept.specs.Tasks.{ItemsFit, SplitsFit, SizesFit}
use Rattle.yw_accept.specs.Verdict.{IsVerdict}

abbrev pub FindsOnce : Check → Type 0
FindsOnce check = (r q : Option Broken) → check r → check q → r ≡ q

pub demand-once : (holds : Type 0) (fault : Broken) → FindsOnce (Demand holds fault)
demand-once holds fault None None a b = refl
demand-once holds fault None (Some q) a (b, e) = absurd (b a)
demand-once holds fault (Some r) None (a, e) b = absurd (a b)
demand-once holds fault (Some r) (Some q) (a, e) (b, f) = ap Some (e ∙ sym f)

pub nothing-once : FindsOnce Nothing
nothing-once r q a b = a ∙ sym b

pub then-once : (first second : Check) → FindsOnce first → FindsOnce second → FindsOnce (Then first second)
then-once first second one two None None a b = refl
then-once first second one two None (Some q) (a, b) (inl c) = one None (Some q) a c
then-once first second one two None (Some q) (a, b) (inr (c, d)) = two None (Some q) b d
then-once first second one two (Some r) None (inl c) (a, b) = one (Some r) None c a
then-once first second one two (Some r) None (inr (c, d)) (a, b) = two (Some r) None d b
then-once first second one two (Some r) (Some q) (inl a) (inl b) = one (Some r) (Some q) a b
then-once first second one two (Some r) (Some q) (inl a) (inr (b, c)) = absurd (none-some r (sym (one (Some r) None a b)))
then-once first second one two (Some r) (Some q) (inr (a, c)) (inl b) = absurd (none-some q (one None (Some q) a b))
then-once first second one two (Some r) (Some q) (inr (a, c)) (inr (b, d)) = two (Some r) (Some q) c d

pub order-once : {A : Type 0} (check : A → Check) → ((x : A) → FindsOnce (check x)) → (xs : List A) → FindsOnce (InOrder check xs)
order-once check once [] = nothing-once
order-once check once (x ∷ xs) = then-once (check x) (InOrder check xs) (once x) (order-once check once xs)

pub turn-once : {A : Type 0} (check : List A → A → Check) → ((seen : List A) (x : A) → FindsOnce (check seen x)) → (seen xs : List A) → FindsOnce (InTurn check seen xs)
turn-once check once seen [] = nothing-once
turn-once check once seen (x ∷ xs) = then-once (check seen x) (InTurn check (seen ++ x ∷ []) xs) (once seen x) (turn-once check once (seen ++ x ∷ []) xs)

-- ---- each of the checks, and the first that fails

abbrev one : (holds : Type 0) (fault : Broken) → FindsOnce (Demand holds fault)
one = demand-once

new-once : (fault : List ℕ → Broken) (names : List (List ℕ)) → FindsOnce (AreNew fault names)
new-once fault names = turn-once (IsNew fault) (λ seen name. one (is_new seen name ≡ true) (fault name)) [] names

task_names-once : (net : RawNet) (seen : List RawTask) (task : RawTask) → FindsOnce (TaskNames net seen task)
task_names-once net seen task =
    then-once _ _ (one _ _)
    (then-once _ _ (order-once _ (λ name. one _ _) (option_to_list task.role))
    (then-once _ _ (new-once _ _)
    (then-once _ _ (new-once _ _) (new-once _ _))))

net_names-once : (seen : List RawNet) (net : RawNet) → FindsOnce (NetNames seen net)
net_names-once seen net =
    then-once _ _ (one (is_new (net_names seen) net.name ≡ true) (of_net 1 net.name))
    (then-once _ _ (new-once (in_net 1 net.name) (named_places net))
    (then-once _ _ (turn-once _ (task_names-once net) [] net.task) (new-once (in_net 1 net.name) (map (λ (v : RawVar). v.name) net.vars))))

names-once : (raw : RawSpec) → FindsOnce (NamesFit raw)
unfolding NamesFit
names-once raw = then-once _ _ (one _ _) (then-once _ _ (one _ _) (turn-once _ net_names-once [] raw.net))

flows-once : (raw : RawSpec) → FindsOnce (FlowsFit raw)
unfolding FlowsFit
flows-once raw = order-once _ (λ net. turn-once _ (λ seen flow. one _ _) [] net.flows) raw.net

paths-once : (raw : RawSpec) → FindsOnce (PathsFit raw)
unfolding PathsFit
paths-once raw = order-once _ (λ net. order-once (NodeIsOnPath net) (λ node. one (IsOnPath net node) (in_net 3 net.name node)) (nodes net)) raw.net

removals-once : (raw : RawSpec) → FindsOnce (RemovalsFit raw)
unfolding RemovalsFit
removals-once raw = order-once _ (λ net. order-once _ (λ task. one _ _) net.task) raw.net

items-once : (raw : RawSpec) → FindsOnce (ItemsFit raw)
unfolding ItemsFit
items-once raw = order-once _ (λ net. order-once _ (λ task. one _ _) net.task) raw.net

children-once : (raw : RawSpec) → FindsOnce (ChildrenFit raw)
unfolding ChildrenFit
children-once raw =
    then-once _ _ (order-once _ (λ net. order-once _ (λ task. one _ _) net.task) raw.net) (order-once _ (λ net. one _ _) raw.net)

levels-once : (raw : RawSpec) → FindsOnce (LevelsFit raw)
unfolding LevelsFit
levels-once raw = order-once _ (λ net. one _ _) raw.net

or_joins-once : (raw : RawSpec) → FindsOnce (OrJoinsFit raw)
unfolding OrJoinsFit
or_joins-once raw = order-once _ (λ net. order-once _ (λ task. one _ _) net.task) raw.net

sorts-once : (raw : RawSpec) → FindsOnce (SortsFit raw)
unfolding SortsFit
sorts-once raw = order-once _ (λ net. order-once _ (λ task. one _ _) net.task) raw.net

splits-once : (raw : RawSpec) → FindsOnce (SplitsFit raw)
unfolding SplitsFit
splits-once raw = order-once _ (λ net. order-once _ (λ task. one _ _) net.task) raw.net

parameters-once : (raw : RawSpec) → FindsOnce (ParametersAgree raw)
unfolding ParametersAgree
parameters-once raw = order-once _ (λ net. order-once _ (λ task. one _ _) net.task) raw.net

sizes-once : (raw : RawSpec) → FindsOnce (SizesFit raw)
unfolding SizesFit
sizes-once raw =
    then-once _ _ (one _ _) (order-once _ (λ net. then-once _ _ (one _ _) (order-once _ (λ task. one _ _) net.task)) raw.net)

pub verdict-once : (raw : RawSpec) → FindsOnce (IsVerdict raw)
unfolding IsVerdict
verdict-once raw =
    then-once _ _ (names-once raw)
    (then-once _ _ (flows-once raw)
    (then-once _ _ (paths-once raw)
    (then-once _ _ (removals-once raw)
    (then-once _ _ (items-once raw)
    (then-once _ _ (children-once raw)
    (then-once _ _ (levels-once raw)
    (then-once _ _ (or_joins-once raw)
    (then-once _ _ (sorts-once raw)
    (then-once _ _ (splits-once raw)
    (then-once _ _ (parameters-once raw)
    (sizes-once raw)))))))))))
