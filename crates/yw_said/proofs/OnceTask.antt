-- What stands at a task of an accepted document says one thing at most.
use Rattle.std.proofs.Common.{◌≡◌, ℕ, ℤ, pos, List, Option, Some, None, Ok, refl, sym, ap, ◌∙◌, subst}
use Rattle.yw_lex.proofs.TokenLemmas.{same_tokens}
use Rattle.yw_expr.specs.declared.scope.Binding.{Binding}
use Rattle.yw_expr.specs.Lexemes.{lexemes_of}
use Rattle.yw_expr.specs.Parsing.{Means, Reads}
use Rattle.yw_expr.specs.Tree.{Tree}
use Rattle.yw_expr.proofs.Once.{only}
use Rattle.yw_spec.specs.declared.task.Assign.{Assign}
use Rattle.yw_spec.specs.declared.task.Branch.{Branch}
use Rattle.yw_spec.specs.declared.task.Kind.{Kind}
use Rattle.yw_spec.specs.declared.task.Kind.TheVariants as kinds
use Rattle.yw_spec.specs.declared.task.Many.{Many}
use Rattle.yw_spec.specs.declared.task.Param.{Param}
use Rattle.yw_read.specs.declared.raw.RawBranch.{RawBranch}
use Rattle.yw_read.specs.declared.raw.RawFlow.{RawFlow}
use Rattle.yw_read.specs.declared.raw.RawIn.{RawIn}
use Rattle.yw_read.specs.declared.raw.RawKind.{RawKind}
use Rattle.yw_read.specs.declared.raw.RawKind.TheVariants as raw_kinds
use Rattle.yw_read.specs.declared.raw.RawNet.{RawNet}
use Rattle.yw_read.specs.declared.raw.RawSet.{RawSet}
use Rattle.yw_read.specs.declared.raw.RawSpec.{RawSpec}
use Rattle.yw_read.specs.declared.raw.RawTask.{RawTask}
use Rattle.yw_read.specs.declared.raw.RawVar.{RawVar}
use Rattle.yw_accept.specs.Built.{place_of, places_of, IsPlaceOf, IsNetCalled, IsInCalled, MayMean, IsBranch, IsParam, IsAssign, AreItems, MayBeItems, IsKind}
use Rattle.yw_accept.specs.Nodes.{net_names}
use Rattle.yw_accept.specs.Scopes.{vars_scope, set_scope}
use Rattle.yw_accept.specs.Tasks.{least, greatest, enough}
use Rattle.yw_said.proofs.Numbers.{Apart, one_number, one_called}
use Rattle.yw_said.proofs.OnceFacts.{InsApart, NetIsApart}

-- ---- a text has one meaning

one_meaning : (scope : List Binding) (text : List ℕ) (e f : Tree) → Means text scope (Ok e) → Means text scope (Ok f) → e ≡ f
one_meaning scope text e f (ts, p, r) (us, q, s) =
    let same : us ≡ ts = same_tokens p q in
    let there : Reads text scope (lexemes_of text ts) (Ok f) = subst (λ vs. Reads text scope (lexemes_of text vs) (Ok f)) same s in
    let is : Ok e ≡ Ok f = only text scope (lexemes_of text ts) (Ok e) r (Ok f) there in
    cc

one_meaning_if : (scope : List Binding) (text : Option (List ℕ)) (e f : Option Tree) → MayMean scope text e → MayMean scope text f → e ≡ f
one_meaning_if scope (Some text) (Some e) (Some f) p q = ap Some (one_meaning scope text e f p q)
one_meaning_if scope (Some text) (Some e) None p q = absurd q
one_meaning_if scope (Some text) None f p q = absurd p
one_meaning_if scope None (Some e) f p q = absurd p
one_meaning_if scope None None (Some f) p q = absurd q
one_meaning_if scope None None None p q = refl

-- ---- the kind

one_name : (o : Option (List ℕ)) (n m : List ℕ) → o ≡ Some n → o ≡ Some m → n ≡ m
one_name o n m p q = cc

pub one_kind : (raw : RawSpec) → Apart (net_names raw.net) → (kind : RawKind) (net : Option (List ℕ)) (a b : Kind) → IsKind raw kind net a → IsKind raw kind net b → a ≡ b
one_kind raw h raw_kinds.Atomic net a b p q = p ∙ sym q
one_kind raw h raw_kinds.Empty net a b p q = p ∙ sym q
one_kind raw h raw_kinds.Sub net a b (n, is_n, k, at_k, e) (m, is_m, j, at_j, f) =
    let same : m ≡ n = one_name net m n is_m is_n in
    let one : k ≡ j = one_called (λ (net : RawNet). net.name) raw.net h n k j at_k (subst (λ x. IsNetCalled raw x j) same at_j) in
    e ∙ ap kinds.Sub one ∙ sym f

-- ---- what is handed over, and where it goes on

module _ (net : RawNet) (h : NetIsApart net) where
  pub one_place : (flow : RawFlow) (k j : ℕ) → IsPlaceOf net flow k → IsPlaceOf net flow j → k ≡ j
  one_place flow k j p q = one_number (places_of net) h.places (place_of net flow) k j p q

  pub one_param : (raw : RawIn) (a b : Param) → IsParam net raw a → IsParam net raw b → a ≡ b
  one_param raw a b p q =
      let name : a.name ≡ b.name = p.name ∙ sym q.name in
      let sort : a.sort ≡ b.sort = p.sort ∙ sym q.sort in
      let value : a.value ≡ b.value = one_meaning_if (vars_scope net) raw.value a.value b.value p.value q.value in
      λ i. record { name = name i; sort = sort i; value = value i }

  pub one_branch : (task : RawTask) (raw : RawBranch) (a b : Branch) → IsBranch net task raw a → IsBranch net task raw b → a ≡ b
  one_branch task raw a b p q =
      let to : a.to ≡ b.to = one_place (record { from = task.name; to = raw.to }) a.to b.to p.to q.to in
      let when : a.when ≡ b.when = one_meaning_if (vars_scope net) raw.when a.when b.when p.when q.when in
      λ i. record { to = to i; when = when i }

  pub one_assign : (task : RawTask) (raw : RawSet) (a b : Assign) → IsAssign net task raw a → IsAssign net task raw b → a ≡ b
  one_assign task raw a b p q =
      let var : a.var ≡ b.var = one_called (λ (v : RawVar). v.name) net.vars h.vars raw.var a.var b.var p.var q.var in
      let value : a.value ≡ b.value = one_meaning (set_scope net task) raw.value a.value b.value p.value q.value in
      λ i. record { var = var i; value = value i }

-- ---- its items

one_natural : (n m : ℕ) (z : ℤ) → pos n ≡ z → pos m ≡ z → n ≡ m
one_natural n m z p q = let e : pos n ≡ pos m = p ∙ sym q in cc

module _ (net : RawNet) (task : RawTask) (h : InsApart task) where
  one_item : (k j : ℕ) → ((name : List ℕ) × (task.item ≡ Some name) × IsInCalled task name k) → ((name : List ℕ) × (task.item ≡ Some name) × IsInCalled task name j) → k ≡ j
  one_item k j (n, is_n, at_k) (m, is_m, at_j) =
      let same : m ≡ n = one_name task.item m n is_m is_n in
      one_called (λ (p : RawIn). p.name) task.ins h n k j at_k (subst (λ x. IsInCalled task x j) same at_j)

  one_many : (each : List ℕ) (a b : Many) → AreItems net task each a → AreItems net task each b → a ≡ b
  one_many each a b p q =
      let min : a.min ≡ b.min = one_natural a.min b.min (least task) p.min q.min in
      let max : a.max ≡ b.max = one_natural a.max b.max (greatest task) p.max q.max in
      let threshold : a.threshold ≡ b.threshold = one_natural a.threshold b.threshold (enough task) p.threshold q.threshold in
      let dynamic : a.dynamic ≡ b.dynamic = p.dynamic ∙ sym q.dynamic in
      let list : a.each ≡ b.each = one_meaning (vars_scope net) each a.each b.each p.each_is q.each_is in
      let item : a.item ≡ b.item = one_item a.item b.item p.item q.item in
      λ i. record { min = min i; max = max i; threshold = threshold i; dynamic = dynamic i; each = list i; item = item i }

  pub one_many_if : (each : Option (List ℕ)) (a b : Option Many) → MayBeItems net task each a → MayBeItems net task each b → a ≡ b
  one_many_if (Some each) (Some a) (Some b) p q = ap Some (one_many each a b p q)
  one_many_if (Some each) (Some a) None p q = absurd q
  one_many_if (Some each) None b p q = absurd p
  one_many_if None (Some a) b p q = absurd p
  one_many_if None None (Some b) p q = absurd q
  one_many_if None None None p q = refl
