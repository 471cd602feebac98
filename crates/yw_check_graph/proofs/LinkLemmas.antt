-- The flows between nets by numbers and by names.
use Rattle.std.proofs.Common.{◌≡◌, ℕ, ◌+◌, ◌<◌, ◌≤◌, List, [], ◌∷◌, ◌++◌, length, get_or, take, Option, Some, None, option_map, option_to_list, refl, sym, ap, ◌∙◌, subst, arith, append_assoc, append-nil}
use Rattle.std.specs.List.{filter_map, flat_map, cons_option}
use Rattle.std.proofs.lemmas.List.{get_or-map, length-map, take_all, take_more}
use Rattle.std.proofs.lemmas.List.Elements.{filter_map-append}
use Rattle.std.proofs.lemmas.Grind.{flat_map-append}
use Rattle.yw_read.specs.declared.raw.RawFlow.{RawFlow}
use Rattle.yw_read.specs.declared.raw.RawNet.{RawNet}
use Rattle.yw_read.specs.declared.raw.RawTask.{RawTask}
use Rattle.yw_reach.specs.declared.flow.Flow.{Flow}
use Rattle.yw_accept.specs.Nodes.{net_names}
use Rattle.yw_check_graph.specs.Graph.{AreNumbered, flow_between, name_at}
use Rattle.yw_check_graph.specs.Nets.{AddsFlows, IsChildNumber, link, links, links_from}
use Rattle.yw_check_graph.proofs.NumberLemmas.{numbered_more}

-- one element more
one_kept : {B : Type 0} (o : Option B) → cons_option o [] ≡ option_to_list o
one_kept None = refl
one_kept (Some b) = refl

filter_map_more : {A B : Type 0} (f : A → Option B) (xs : List A) (i : ℕ) (x : A) → i < length xs → x ≡ get_or xs i x → filter_map f (take (i + 1) xs) ≡ filter_map f (take i xs) ++ option_to_list (f x)
filter_map_more f xs i x lt is =
    ap (filter_map f) (take_more xs i x lt) ∙ filter_map-append f (take i xs) (get_or xs i x ∷ [])
    ∙ ap (λ y. filter_map f (take i xs) ++ cons_option (f y) []) (sym is) ∙ ap (λ ys. filter_map f (take i xs) ++ ys) (one_kept (f x))

flat_map_one_more : {A B : Type 0} (f : A → List B) (xs : List A) (i : ℕ) (x : A) → i < length xs → x ≡ get_or xs i x → flat_map f (take (i + 1) xs) ≡ flat_map f (take i xs) ++ f x
flat_map_one_more f xs i x lt is =
    ap (flat_map f) (take_more xs i x lt) ∙ flat_map-append f (take i xs) (get_or xs i x ∷ [])
    ∙ ap (λ y. flat_map f (take i xs) ++ (f y ++ [])) (sym is) ∙ ap (λ ys. flat_map f (take i xs) ++ ys) (append-nil (f x))

-- ---- the flows from one net

pub adds_none : (names : List (List ℕ)) (flows : List Flow) → AddsFlows names [] flows flows
adds_none names flows = λ said r. let P : List RawFlow → Type 0 = λ ss. AreNumbered names ss flows in subst P (sym (append-nil said)) r

pub adds_nothing : (names : List (List ℕ)) (outer : List ℕ) (task : RawTask) (flows : List Flow) → IsChildNumber names task None → AddsFlows names (option_to_list (link names outer task)) flows flows
adds_nothing names outer task flows h = λ said r.
    let P : Option (List ℕ) → Type 0 = λ o. AreNumbered names (said ++ option_to_list (option_map (flow_between outer) o)) flows in
    subst P (sym h) (adds_none names flows said r)

pub adds_one : (names : List (List ℕ)) (from : ℕ) (task : RawTask) (to : ℕ) (flows : List Flow) → from < length names → IsChildNumber names task (Some to) → AddsFlows names (option_to_list (link names (name_at names from) task)) flows (flows ++ record { from = from; to = to } ∷ [])
adds_one names from task to flows lt h = λ said r.
    let flow : Flow = record { from = from; to = to } in
    let P : Option (List ℕ) → Type 0 = λ o. AreNumbered names (said ++ option_to_list (option_map (flow_between (name_at names from)) o)) (flows ++ flow ∷ []) in
    subst P (sym h.1) (numbered_more names said flows (flow_between (name_at names from) (name_at names to)) flow r (record { within = (lt, h.0); same = refl }))

pub adds_more : (names : List (List ℕ)) (outer : List ℕ) (tasks : List RawTask) (i : ℕ) (task : RawTask) (old before after : List Flow) → i < length tasks → task ≡ get_or tasks i task → AddsFlows names (links_from names outer (take i tasks)) old before → AddsFlows names (option_to_list (link names outer task)) before after → AddsFlows names (links_from names outer (take (i + 1) tasks)) old after
adds_more names outer tasks i task old before after lt is h g = λ said r.
    let P : List RawFlow → Type 0 = λ ss. AreNumbered names ss after in
    let front : List RawFlow = links_from names outer (take i tasks) in
    let more : List RawFlow = option_to_list (link names outer task) in
    let e : (said ++ front) ++ more ≡ said ++ links_from names outer (take (i + 1) tasks) = append_assoc said front more ∙ ap (λ ss. said ++ ss) (sym (filter_map_more (link names outer) tasks i task lt is)) in
    subst P e (g (said ++ front) (h said r))

pub adds_all : (names : List (List ℕ)) (outer : List ℕ) (tasks : List RawTask) (i : ℕ) (old new : List Flow) → length tasks ≤ i → AddsFlows names (links_from names outer (take i tasks)) old new → AddsFlows names (links_from names outer tasks) old new
adds_all names outer tasks i old new le h =
    let P : List RawTask → Type 0 = λ ts. AddsFlows names (links_from names outer ts) old new in
    subst P (take_all i tasks le) h

-- ---- the flows from all nets

pub name_of_net : (nets : List RawNet) (i : ℕ) (d : RawNet) → i < length nets → name_at (net_names nets) i ≡ (get_or nets i d).name
name_of_net nets i d lt = get_or-map (λ (net : RawNet). net.name) nets i d [] lt

pub count_of_nets : (nets : List RawNet) → length (net_names nets) ≡ length nets
count_of_nets nets = length-map nets (λ (net : RawNet). net.name)

pub net_within : (names : List (List ℕ)) (nets : List RawNet) (i : ℕ) → names ≡ net_names nets → i < length nets → i < length names
net_within names nets i names_are lt =
    let P : List (List ℕ) → Type 0 = λ ns. i < length ns in
    subst P (sym names_are) (omega (arith, lt, count_of_nets nets))

pub net_more : (names : List (List ℕ)) (nets : List RawNet) (i : ℕ) (net : RawNet) (before after : List Flow) → names ≡ net_names nets → i < length nets → net ≡ get_or nets i net → AreNumbered names (links names (take i nets)) before → AddsFlows names (links_from names (name_at names i) net.task) before after → AreNumbered names (links names (take (i + 1) nets)) after
net_more names nets i net before after names_are lt is r adds =
    let P : List RawFlow → Type 0 = λ ss. AreNumbered names ss after in
    let name : name_at names i ≡ net.name = ap (λ ns. name_at ns i) names_are ∙ name_of_net nets i net lt ∙ ap (λ (n : RawNet). n.name) (sym is) in
    let Q : List ℕ → Type 0 = λ outer. AreNumbered names (links names (take i nets) ++ links_from names outer net.task) after in
    subst P (sym (flat_map_one_more (λ (n : RawNet). links_from names n.name n.task) nets i net lt is)) (subst Q name (adds (links names (take i nets)) r))

pub nets_all : (names : List (List ℕ)) (nets : List RawNet) (i : ℕ) (flows : List Flow) → length nets ≤ i → AreNumbered names (links names (take i nets)) flows → AreNumbered names (links names nets) flows
nets_all names nets i flows le r =
    let P : List RawNet → Type 0 = λ ns. AreNumbered names (links names ns) flows in
    subst P (take_all i nets le) r
