-- A net of its row.
use Rattle.std.proofs.Common.{◌≡◌, ◌∙◌, ◌++◌, ◌∷◌, [], ℕ, List, Bool, true, Option, Some, None, length, drop, refl, sym, ap, subst}
use Rattle.std.proofs.lemmas.List.Quantifiers.{position-Some}
use Rattle.std.proofs.lemmas.Option.{get_or_from_slice_get, slice_get-get_or}
use Rattle.std.proofs.lemmas.Slice.Eq.{bytes_eq-Decides}
use Rattle.std.specs.Prelude.{option_and_then, option_map, position, slice_get, unwrap_or}
use Rattle.yw_library.proofs.KnownSpecs.{kept_named}
use Rattle.yw_library.specs.Holdings.{Holdings, IsKept, state_of, with_library}
use Rattle.yw_library.specs.Names.{name_in, names_of}
use Rattle.yw_revive.proofs.TokenLemmas.{counts_back, one_each, rows_back}
use Rattle.yw_revive.specs.Grown.{IsBareNet}
use Rattle.yw_revive.specs.NetRead.{HasRow, IsNetIn, IsNetNamed, NoNetNamed, has_name}
use Rattle.yw_revive.specs.Taken.{AreOnce, IsTaken, NoneOf, Taken, taken}
use Rattle.yw_revive.specs.declared.net.FoundNet.{FoundNet}
use Rattle.yw_spec.specs.declared.spec.Net.{Net}
use Rattle.yw_spec.specs.declared.spec.Place.{Place}
use Rattle.yw_spec.specs.declared.spec.Spec.{Spec}
use Rattle.yw_state.proofs.Tests.{nowhere, some_same}
use Rattle.yw_state.specs.Identity.{Ident}
use Rattle.yw_state.specs.Map.{get}
use Rattle.yw_state.specs.State.{NetPart, State, net_of, spec_called}
use Rattle.yw_state.specs.Values.{Row}
use Rattle.yw_state.specs.declared.loaded.Loaded.{Loaded}
use Rattle.yw_states.specs.States.{net_name, net_places, net_row, place_rows, token_rows}
use Rattle.yw_states.specs.declared.cases.NetRow.{NetRow}
use Rattle.yw_states.specs.declared.cases.TokenRow.{TokenRow}
use Rattle.yw_tree.specs.Begins.{BeginsNet}
use Rattle.yw_tree.specs.Entries.{net_part}
use Rattle.yw_tree.specs.declared.NetState.{NetState}

named_at : {A : Type 0} (p : A → Bool) (xs : List A) (i : ℕ) (x : A) → position p xs ≡ Some i → slice_get xs i ≡ Some x → p x ≡ true
named_at p xs i x e at = subst (λ y. p y ≡ true) (get_or_from_slice_get xs i x x at) (position-Some p xs i x e).1

pub stands_at : {A : Type 0} (p : A → Bool) (xs : List A) (i : ℕ) → position p xs ≡ Some i → slice_get xs i ≡ None → ⊥
stands_at p [] i e none = nowhere e
stands_at p (x ∷ xs) i e none =
    nowhere (sym none ∙ slice_get-get_or (x ∷ xs) i x (position-Some p (x ∷ xs) i x e).0)

pub name_found : (nets : List Net) (name : List ℕ) (i : ℕ) (net : Net) → position (has_name name) nets ≡ Some i → slice_get nets i ≡ Some net
    → net.name ≡ name
name_found nets name i net e at = (bytes_eq-Decides net.name name).0 (named_at (has_name name) nets i net e at)

-- the specifications of the state are those of the library, whatever else it has
same_loaded : (s : State) (library : Holdings) (name : List ℕ) → get (with_library s library).specs name ≡ get (state_of library).specs name
unfolding with_library
same_loaded s library name = refl

pub called_is : (s : State) (library : Holdings) (name : List ℕ) (spec : Spec) (number : ℕ) → IsKept library name spec number
    → spec_called (with_library s library) name ≡ Some spec
called_is s library name spec number kept =
    ap (option_map (λ (l : Loaded). l.spec)) (same_loaded s library name ∙ kept.kept)

pub none_called : (s : State) (library : Holdings) (name : List ℕ) (spec : Spec) → get (state_of library).specs name ≡ None
    → spec_called (with_library s library) name ≡ Some spec → ⊥
none_called s library name spec none called =
    nowhere (sym (ap (option_map (λ (l : Loaded). l.spec)) (same_loaded s library name ∙ none)) ∙ called)

module _ (library : Holdings) (spec name : List ℕ) (found : FoundNet) (is : IsNetNamed library spec name found) where
  spec_name : names_of library found.spec ≡ spec
  spec_name = ap name_in is.kept.stands ∙ kept_named library spec is.its_spec found.spec is.kept

  pub net_called : (s : State) (n : NetPart) → n.spec ≡ spec → n.net ≡ found.number → net_of (with_library s library) n ≡ Some found.net.now
  net_called s n of_spec of_net =
      ap (λ (x : List ℕ). option_and_then (λ (y : Spec). slice_get y.nets n.net) (spec_called (with_library s library) x)) of_spec
      ∙ ap (option_and_then (λ (y : Spec). slice_get y.nets n.net)) (called_is s library spec is.its_spec found.spec is.kept)
      ∙ ap (slice_get is.its_spec.nets) of_net ∙ is.of_spec

-- ---- a net that has the row is the net of its names

module _ (library : Holdings) (s : State) (n : NetPart) (j : Ident) (row : NetRow) (within : IsNetIn (with_library s library) n)
    (has : net_row (with_library s library) (j, n) ≡ row) where
  abbrev t : State
  t = with_library s library

  pub of_row : n.spec ≡ row.spec
  of_row = ap (λ (r : NetRow). r.spec) has

  net_is : net_of t n ≡ Some within.net
  net_is = ap (option_and_then (λ (y : Spec). slice_get y.nets n.net)) within.of_spec ∙ within.of_net

  pub name_is : within.net.name ≡ row.net
  name_is = sym (ap (λ (o : Option Net). unwrap_or (option_map (λ (x : Net). x.name) o) []) net_is) ∙ ap (λ (r : NetRow). r.net) has

  pub number_is : position (has_name row.net) within.spec.nets ≡ Some n.net
  number_is = subst (λ (x : List ℕ). position (has_name x) within.spec.nets ≡ Some n.net) name_is (within.named n.net within.net within.of_net)

  pub none_has : NoNetNamed library row.spec row.net → ⊥
  none_has none =
      nowhere (sym (none s within.spec (ap (spec_called t) (sym of_row) ∙ within.of_spec)) ∙ number_is)

  module _ (found : FoundNet) (is : IsNetNamed library row.spec row.net found) where
    same_spec : within.spec ≡ is.its_spec
    same_spec =
        some_same within.spec is.its_spec (sym within.of_spec ∙ ap (spec_called t) of_row ∙ called_is s library row.spec is.its_spec found.spec is.kept)

    pub same_number : n.net ≡ found.number
    same_number =
        some_same n.net found.number (sym number_is ∙ ap (λ (x : Spec). position (has_name row.net) x.nets) same_spec ∙ is.numbered)

    pub same_net : within.net ≡ found.net.now
    same_net =
        some_same within.net found.net.now (sym within.of_net ∙ ap (λ (x : Spec). slice_get x.nets n.net) same_spec
        ∙ ap (slice_get is.its_spec.nets) same_number ∙ is.of_spec)

-- ---- the net that is made

net_same : (m n : NetPart) → m.spec ≡ n.spec → m.net ≡ n.net → m.vals ≡ n.vals → m.tokens ≡ n.tokens → m ≡ n
net_same m n spec net vals tokens =
    ap (λ (x : List ℕ). let p : NetPart = record { spec = x; net = m.net; vals = m.vals; tokens = m.tokens } in p) spec
    ∙ ap (λ (x : ℕ). let p : NetPart = record { spec = n.spec; net = x; vals = m.vals; tokens = m.tokens } in p) net
    ∙ ap (λ (x : Row). let p : NetPart = record { spec = n.spec; net = n.net; vals = x; tokens = m.tokens } in p) vals
    ∙ ap (λ (x : List ℕ). let p : NetPart = record { spec = n.spec; net = n.net; vals = n.vals; tokens = x } in p) tokens

row_same : (a b : NetRow) → a.ident ≡ b.ident → a.spec ≡ b.spec → a.net ≡ b.net → a.values ≡ b.values → a ≡ b
row_same a b ident spec net values =
    ap (λ (x : Ident). let r : NetRow = record { ident = x; spec = a.spec; net = a.net; values = a.values } in r) ident
    ∙ ap (λ (x : List ℕ). let r : NetRow = record { ident = b.ident; spec = x; net = a.net; values = a.values } in r) spec
    ∙ ap (λ (x : List ℕ). let r : NetRow = record { ident = b.ident; spec = b.spec; net = x; values = a.values } in r) net
    ∙ ap (λ (x : Row). let r : NetRow = record { ident = b.ident; spec = b.spec; net = b.net; values = x } in r) values

module _ (library : Holdings) (row : NetRow) (tokens : List TokenRow) (from : ℕ) (found : FoundNet) (is : IsNetNamed library row.spec row.net found)
    (marks : List ℕ) (to tasks : ℕ) (of : IsTaken row.ident found.net.now.places tokens from marks to) (net : NetState)
    (begins : BeginsNet found.spec found.number marks row.values tasks net) where
  abbrev part : NetPart
  part = net_part (names_of library) net

  part_is : part ≡ record { spec = names_of library found.spec; net = found.number; vals = row.values; tokens = marks }
  part_is = begins.part (names_of library)

  spec_is : part.spec ≡ row.spec
  spec_is = ap (λ (p : NetPart). p.spec) part_is ∙ spec_name library row.spec row.net found is

  of_part : (s : State) → net_of (with_library s library) part ≡ Some found.net.now
  of_part s = net_called library row.spec row.net found is s part spec_is (ap (λ (p : NetPart). p.net) part_is)

  places_are : (s : State) → net_places (with_library s library) part ≡ found.net.now.places
  places_are s = ap (λ (o : Option Net). unwrap_or (option_map (λ (x : Net). x.places) o) []) (of_part s)

  tokens_are : part.tokens ≡ marks
  tokens_are = ap (λ (p : NetPart). p.tokens) part_is

  abbrev places : List Place
  places = found.net.now.places

  only_net : (s : State) (n : NetPart) (others : List TokenRow) → IsNetIn (with_library s library) n → net_row (with_library s library) (row.ident, n) ≡ row
      → NoneOf row.ident others → token_rows (with_library s library) (row.ident, n) ++ others ≡ drop from tokens → (n ≡ part) × (others ≡ drop to tokens)
  only_net s n others within has none rows =
      let same = same_net library s n row.ident row within has found is in
      let net_here = ap (option_and_then (λ (y : Spec). slice_get y.nets n.net)) within.of_spec ∙ within.of_net in
      let its_places : net_places (with_library s library) n ≡ places
      = ap (λ (o : Option Net). unwrap_or (option_map (λ (x : Net). x.places) o) []) net_here ∙ ap (λ (x : Net). x.places) same in
      let split : place_rows row.ident places n.tokens ++ others ≡ drop from tokens
      = sym (ap (λ ps. place_rows row.ident ps n.tokens ++ others) its_places) ∙ rows in
      let size : length n.tokens ≡ length places = within.places ∙ ap (λ (x : Net). length x.places) same in
      let counts : ◌≡◌ {A = Taken} (n.tokens, others) (marks, drop to tokens)
      = sym (counts_back row.ident places n.tokens others (subst (λ (x : Net). AreOnce x.places) same within.once) none size)
      ∙ ap (taken row.ident places) split ∙ of.are in (
        net_same n part (of_row library s n row.ident row within has ∙ sym spec_is)
            (same_number library s n row.ident row within has found is ∙ sym (ap (λ (p : NetPart). p.net) part_is))
            (ap (λ (r : NetRow). r.values) has ∙ sym (ap (λ (p : NetPart). p.vals) part_is)) (ap (λ (t : Taken). t.0) counts ∙ sym tokens_are),
        ap (λ (t : Taken). t.1) counts,
      )

  pub has_row : HasRow library row tokens from net to
  has_row = record {
    bare = record { boxed = begins.boxed; empty = begins.empty };
    within = of.within;
    its_row = λ s.
        row_same (net_row (with_library s library) (row.ident, part)) row refl spec_is
        (ap (λ (o : Option Net). unwrap_or (option_map (λ (x : Net). x.name) o) []) (of_part s) ∙ is.its_name)
        (ap (λ (p : NetPart). p.vals) part_is);
    its_tokens = λ s.
        ap (λ ps. place_rows row.ident ps part.tokens ++ drop to tokens) (places_are s)
        ∙ ap (λ ms. place_rows row.ident places ms ++ drop to tokens) tokens_are
        ∙ sym (ap (λ (t : Taken). place_rows row.ident places t.0 ++ t.1) of.are) ∙ rows_back row.ident places (drop from tokens);
    only = only_net;
  }
