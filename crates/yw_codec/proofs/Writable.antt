-- Events that are built and allowed can be written.
use Rattle.std.proofs.Common.{◌≡◌, ◌&&◌, ◌≤◌, ℕ, Bool, true, List, [], ◌∷◌, length, nat_lt, nat_le, refl, ap, arith}
use Rattle.std.specs.List.{list_all}
use Rattle.std.proofs.lemmas.Bool.{leb-true, lt-ltb}
use Rattle.yw_base.specs.Spelling.{are_distinct}
use Rattle.yw_codec.specs.Entries.{is_writable}
use Rattle.yw_codec.specs.FieldLaws.{and_left, and_right, both_true}
use Rattle.yw_state.specs.Allowed.{Allowed, allows}
use Rattle.yw_built.specs.Built.{is_built}
use Rattle.yw_state.specs.Events.{LeadAll, Leads}
use Rattle.yw_state.specs.Legal.{IsLegal}
use Rattle.yw_state.specs.State.{State}
use Rattle.yw_state.specs.Texts.{Reader, Said}
use Rattle.yw_state.specs.declared.command.Command.{Command}
use Rattle.yw_state.specs.declared.event.Event.{Event}
use Rattle.yw_state.specs.declared.event.Event.TheVariants as events

-- ---- written

-- roles that a person may have are few enough
few_roles : (roles : List (List ℕ)) → (nat_le (length roles) 64 && are_distinct roles) ≡ true → nat_lt (length roles) 65 ≡ true
few_roles roles h =
    let most : length roles ≤ 64 = leb-true (length roles) 64 (and_left (nat_le (length roles) 64) (are_distinct roles) h) in
    lt-ltb (length roles) 65 (omega arith)

-- an event that is built and allowed can be written
pub allowed_writable : (s : State) (e : Event) (said : Said) → is_built e ≡ true → Allowed s e said → is_writable e ≡ true
unfolding allows
allowed_writable s (events.Person name roles) said built allowed = few_roles roles allowed.0
allowed_writable s (events.Load name text) said built allowed = refl
allowed_writable s e said built allowed = cc

pub leads_writable : (reader : Reader) (s : State) (e : Event) (t : State) → is_built e ≡ true → Leads reader s e t → is_writable e ≡ true
leads_writable reader s e t built leads = allowed_writable s e leads.said built leads.allowed

-- so can events that are built, each allowed in its turn
pub lead_all_writable : (reader : Reader) (s : State) (es : List Event) (t : State) → list_all is_built es ≡ true → LeadAll reader s es t → list_all is_writable es ≡ true
lead_all_writable reader s [] t built lead = refl
lead_all_writable reader s (e ∷ es) t built (mid, first, rest) =
    both_true (is_writable e) (list_all is_writable es) (leads_writable reader s e mid (and_left (is_built e) (list_all is_built es) built) first)
    (lead_all_writable reader mid es t (and_right (is_built e) (list_all is_built es) built) rest)

-- ---- how many

-- an entry that may answer a command has an event, and no more than can be written
pub legal_some : (reader : Reader) (s : State) (c : Command) (es : List Event) (quiet : Bool) (t : State) → IsLegal reader s c es quiet t → 1 ≤ length es
legal_some reader s c es quiet t legal = omega (arith, ap length legal.in_order)

pub legal_few : (reader : Reader) (s : State) (c : Command) (es : List Event) (quiet : Bool) (t : State) → IsLegal reader s c es quiet t → length es ≤ 4097
legal_few reader s c es quiet t legal = omega (arith, ap length legal.in_order, legal.within)
