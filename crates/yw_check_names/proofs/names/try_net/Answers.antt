use Rattle.std.proofs.Common.{◌≡◌, ◌++◌, List, [], ◌∷◌, true, sym, subst}
use Rattle.std.proofs.lemmas.List.{map-append}
use Rattle.yw_read.specs.declared.raw.RawNet.{RawNet}
use Rattle.yw_accept.specs.Faults.{of_net}
use Rattle.yw_accept.specs.Names.{is_new}
use Rattle.yw_accept.specs.Nodes.{net_names}
use Rattle.yw_accept.specs.Order.{Demand}
use Rattle.yw_check_names.specs.Seen.{NameSet, Knows}
use Rattle.yw_check_names.specs.Tried.{KnowsNets, NamesInNet}
use Rattle.yw_check_names.proofs.Thens.{go}
use Rattle.yw_check_names.proofs.Trying.{none_found}
use Rattle.yw_check_names.proofs.names.try_net.Goals as goal

-- behind the nets seen stands this one
net_known : (set : NameSet) (nets : List RawNet) (net : RawNet) → Knows set (net_names nets ++ net.name ∷ []) → KnowsNets set (nets ++ net ∷ [])
net_known set nets net knows = subst (Knows set) (sym (map-append (λ (n : RawNet). n.name) nets (net ∷ []))) knows

pub returns : goal.returns
returns c =
    let net = c.args.net.now in
    record {
      finds = λ nets knows.
          go (Demand (is_new (net_names nets) net.name ≡ true) (of_net 1 net.name)) (NamesInNet net)
          c.in_ok-broken.field-0 c.in_ok-found.found (c.in_ok-broken.ensures.finds (net_names nets) knows) c.in_default.not-Some c.in_ok-found.ensures;
      knows = λ nets knows none.
          net_known c.new_name.new.seen nets net (c.in_ok-broken.ensures.knows (net_names nets) knows (none_found c.in_ok-broken.field-0 c.in_default.not-Some));
    }
