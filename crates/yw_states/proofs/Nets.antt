-- Nets that stand are the same where their rows and those of their tokens are.
use Rattle.std.proofs.Common.{◌≡◌, ◌⊎◌, ◌==◌, ℕ, List, [], ◌∷◌, ◌++◌, length, Option, Some, Ok, inl, inr, refl, sym, ap, ◌∙◌, subst, arith}
use Rattle.std.specs.FinMap.Entries.{below_all, find, is_sorted}
use Rattle.std.specs.Prelude.{T, flat_map, map, option_and_then, option_map, position, slice_get, unwrap_or}
use Rattle.std.specs.Str.{bytes_eq}
use Rattle.yw_sites.proofs.Picked.{find_below, find_picked, halves, sorted_picked}
use Rattle.yw_spec.specs.declared.spec.Net.{Net}
use Rattle.yw_spec.specs.declared.spec.Place.{Place}
use Rattle.yw_spec.specs.declared.spec.Spec.{Spec}
use Rattle.yw_state.proofs.Entries.{IsIn, find-entry}
use Rattle.yw_state.proofs.MapLemmas.{by_name}
use Rattle.yw_state.proofs.Tests.{by_test, map_some, nowhere, some_same, then_some, there}
use Rattle.yw_state.specs.Identity.{Ident}
use Rattle.yw_state.specs.Map.{Map, entries, get, lexical}
use Rattle.yw_state.specs.State.{NetAt, NetPart, Site, State, net_at, net_of, net_part, spec_called}
use Rattle.yw_state.specs.Texts.{Reader}
use Rattle.yw_state.specs.Values.{Row}
use Rattle.yw_state.specs.Well.{IsWell}
use Rattle.yw_state.specs.declared.loaded.Loaded.{Loaded}
use Rattle.yw_states.proofs.Lists.{Each, both_same, first_same, pair_same, rest_same}
use Rattle.yw_states.proofs.Tokens.{AreOnce, NoneOf, a_row, no_row, row, same_counts}
use Rattle.yw_states.specs.States.{NetsAreNamed, ReadsNamed, net_of_site, net_places, net_row, parts, place_rows, token_rows}
use Rattle.yw_states.specs.declared.cases.NetRow.{NetRow}
use Rattle.yw_states.specs.declared.cases.TokenRow.{TokenRow}
use Rattle.yw_within.specs.Within.{NetIsWithin}

-- ---- what stands of a kind

pub parts_sorted : {Y : Type 0} (g : Ident → Site → Option Y) (s : State) → T (is_sorted lexical (parts g s.sites))
parts_sorted g s = sorted_picked g (entries s.sites) s.sites.sorted

pub part_at : {Y : Type 0} (g : Ident → Site → Option Y) (s : State) (e : Ident × Y) → IsIn (parts g s.sites) e
    → option_and_then (g e.0) (get s.sites e.0) ≡ Some e.1
part_at g s e within = sym (find_picked g e.0 (entries s.sites) s.sites.sorted) ∙ find-entry by_name (parts g s.sites) e (parts_sorted g s) within

-- ---- nets

-- A net that stands, with what its specification says of it.
pub record IsNet (s : State) (e : Ident × NetPart) : Type 0 where
  pub spec : Spec
  pub net : Net
  pub of_spec : spec_called s e.1.spec ≡ Some spec
  pub of_net : slice_get spec.nets e.1.net ≡ Some net
  pub named : NetsAreNamed spec
  pub within : NetIsWithin spec net
  pub places : length e.1.tokens ≡ length net.places

abbrev with_net : NetPart → Net → NetAt
with_net n net = record { part = n; net = net }

pub net_is : (reader : Reader) → ReadsNamed reader → (s : State) → IsWell reader s → (j : Ident) (n : NetPart) → net_part s j ≡ Some n
    → IsNet s (j, n)
net_is reader named s well j n here =
    let at = there (net_at s j) (well.content.of_spec j n here) in
    let of = map_some (with_net n) (net_of s n) at.0 (sym (ap (option_and_then (λ (m : NetPart). option_map (with_net m) (net_of s m))) here)
    ∙ at.1) in
    let spec = then_some (λ (x : Spec). slice_get x.nets n.net) (spec_called s n.spec) of.0 of.1 in
    let loaded = map_some (λ (l : Loaded). l.spec) (get s.specs n.spec) spec.0 spec.1 in
    let reads : reader.spec loaded.0.text (Ok spec.0) = subst (λ (x : Spec). reader.spec loaded.0.text (Ok x)) loaded.2
    (well.content.spec_text n.spec loaded.0 loaded.1) in
    record {
      spec = spec.0;
      net = of.0;
      of_spec = spec.1;
      of_net = spec.2;
      named = named.nets loaded.0.text spec.0 reads;
      within = (named.within loaded.0.text spec.0 reads).nets n.net of.0 spec.2;
      places = (well.content.net j (with_net n of.0) (at.1 ∙ ap (λ (x : NetAt). Some x) (sym of.2))).places;
    }

pub nets_are : (reader : Reader) → ReadsNamed reader → (s : State) → IsWell reader s → Each (IsNet s) (parts net_of_site s.sites)
nets_are reader named s well e within = net_is reader named s well e.0 e.1 (part_at net_of_site s e within)

pub net_of_is : (s : State) (e : Ident × NetPart) (p : IsNet s e) → net_of s e.1 ≡ Some p.net
net_of_is s e p = ap (option_and_then (λ (x : Spec). slice_get x.nets e.1.net)) p.of_spec ∙ p.of_net

-- no place has two numbers
places_once : (spec : Spec) (net : Net) → NetIsWithin spec net → AreOnce net.places
places_once spec net within i k p e d = some_same i k (sym (within.places i p e) ∙ within.places k p d)

-- ---- the rows of tokens of one net, and of the others

here_or_after : (j : Ident) (p : Place) (n : ℕ) (rows xs : List TokenRow) (r : TokenRow) → (IsIn rows r → (r.ident ≡ j) ⊎ IsIn xs r)
    → IsIn (row j p n ∷ rows) r → (r.ident ≡ j) ⊎ IsIn xs r
here_or_after j p n rows xs r others (inl same) = inl (sym (ap (λ (q : TokenRow). q.ident) same))
here_or_after j p n rows xs r others (inr rest) = others rest

of_one : (j : Ident) (ps : List Place) (ns : List ℕ) (xs : List TokenRow) (r : TokenRow) → IsIn (place_rows j ps ns ++ xs) r
    → (r.ident ≡ j) ⊎ IsIn xs r
of_one j [] ns xs r within = inr within
of_one j (p ∷ ps) [] xs r within = inr within
of_one j (p ∷ ps) (n ∷ ns) xs r within =
    by_test (n == 0)
    (λ e. of_one j ps ns xs r (subst (λ (rows : List TokenRow). IsIn (rows ++ xs) r) (no_row j p ps n ns e) within))
    (λ e. here_or_after j p n (place_rows j ps ns ++ xs) xs r (λ rest. of_one j ps ns xs r rest)
    (subst (λ (rows : List TokenRow). IsIn (rows ++ xs) r) (a_row j p ps n ns e) within))

-- a net of which the row is
abbrev HasRow : List (Ident × NetPart) → TokenRow → Type 0
HasRow xs r = (e : Ident × NetPart) × IsIn xs e × (r.ident ≡ e.0)

of_first_or_other : (x : Ident × NetPart) (xs : List (Ident × NetPart)) (rows : List TokenRow) (r : TokenRow) → (IsIn rows r → HasRow xs r)
    → (r.ident ≡ x.0) ⊎ IsIn rows r → HasRow (x ∷ xs) r
of_first_or_other x xs rows r others (inl same) = (x, inl refl, same)
of_first_or_other x xs rows r others (inr rest) = let further = others rest in (further.0, inr further.1, further.2)

of_some : (s : State) (xs : List (Ident × NetPart)) (r : TokenRow) → IsIn (flat_map (token_rows s) xs) r → HasRow xs r
of_some s [] r within = absurd within
of_some s (x ∷ xs) r within =
    of_first_or_other x xs (flat_map (token_rows s) xs) r (λ rest. of_some s xs r rest)
    (of_one x.0 (net_places s x.1) x.1.tokens (flat_map (token_rows s) xs) r within)

none_after : (s : State) (j : Ident) (xs : List (Ident × NetPart)) → T (below_all lexical j xs) → T (is_sorted lexical xs)
    → NoneOf j (flat_map (token_rows s) xs)
none_after s j xs below sorted r within same =
    let of = of_some s xs r within in
    nowhere (sym (find_below j xs below) ∙ ap (λ (k : Ident). find lexical k xs) (sym same ∙ of.2) ∙ find-entry by_name xs of.0 sorted of.1)

-- ---- the same rows, and the same rows of tokens

net_same : (m n : NetPart) → m.spec ≡ n.spec → m.net ≡ n.net → m.vals ≡ n.vals → m.tokens ≡ n.tokens → m ≡ n
net_same m n spec net vals tokens =
    ap (λ (x : List ℕ). let p : NetPart = record { spec = x; net = m.net; vals = m.vals; tokens = m.tokens } in p) spec
    ∙ ap (λ (x : ℕ). let p : NetPart = record { spec = n.spec; net = x; vals = m.vals; tokens = m.tokens } in p) net
    ∙ ap (λ (x : Row). let p : NetPart = record { spec = n.spec; net = n.net; vals = x; tokens = m.tokens } in p) vals
    ∙ ap (λ (x : List ℕ). let p : NetPart = record { spec = n.spec; net = n.net; vals = n.vals; tokens = x } in p) tokens

module _ (s t : State) (specs : s.specs ≡ t.specs) where
  called_same : (name other : List ℕ) → name ≡ other → spec_called s name ≡ spec_called t other
  called_same name other e = ap (λ (m : Map lexical Loaded). option_map (λ (l : Loaded). l.spec) (get m name)) specs ∙ ap (spec_called t) e

  -- nets of one row have one number, and one net of the specification
  alike : (x y : Ident × NetPart) (p : IsNet s x) (q : IsNet t y) → net_row s x ≡ net_row t y → (x.1.net ≡ y.1.net) × (p.net ≡ q.net)
  alike x y p q rows =
      let spec : p.spec ≡ q.spec = some_same p.spec q.spec (sym p.of_spec ∙ called_same x.1.spec y.1.spec (ap (λ (r : NetRow). r.spec) rows)
      ∙ q.of_spec) in
      let name : p.net.name ≡ q.net.name
      = sym (ap (λ (o : Option Net). unwrap_or (option_map (λ (net : Net). net.name) o) []) (net_of_is s x p)) ∙ ap (λ (r : NetRow). r.net) rows
      ∙ ap (λ (o : Option Net). unwrap_or (option_map (λ (net : Net). net.name) o) []) (net_of_is t y q) in
      let number : x.1.net ≡ y.1.net
      = some_same x.1.net y.1.net (sym (p.named x.1.net p.net p.of_net)
      ∙ ap (λ (sp : Spec). position (λ (n : Net). bytes_eq n.name p.net.name) sp.nets) spec
      ∙ ap (λ (called : List ℕ). position (λ (n : Net). bytes_eq n.name called) q.spec.nets) name ∙ q.named y.1.net q.net q.of_net) in (
        number,
        some_same p.net q.net (sym p.of_net ∙ ap (λ (sp : Spec). slice_get sp.nets x.1.net) spec ∙ ap (slice_get q.spec.nets) number
            ∙ q.of_net),
      )

  pub same_nets : (xs ys : List (Ident × NetPart)) → T (is_sorted lexical xs) → T (is_sorted lexical ys) → Each (IsNet s) xs → Each (IsNet t) ys
      → map (net_row s) xs ≡ map (net_row t) ys → flat_map (token_rows s) xs ≡ flat_map (token_rows t) ys → xs ≡ ys
  same_nets [] [] left right ps qs rows tokens = refl
  same_nets [] (y ∷ ys) left right ps qs rows tokens = absurd (omega (arith, ap length rows))
  same_nets (x ∷ xs) [] left right ps qs rows tokens = absurd (omega (arith, ap length rows))
  same_nets (x ∷ xs) (y ∷ ys) left right ps qs rows tokens =
      let p = ps x (inl refl) in
      let q = qs y (inl refl) in
      let row = first_same (net_row s x) (net_row t y) (map (net_row s) xs) (map (net_row t) ys) rows in
      let same = alike x y p q row in
      let below = halves (below_all lexical x.0 xs) (is_sorted lexical xs) left in
      let above = halves (below_all lexical y.0 ys) (is_sorted lexical ys) right in
      let ident : y.0 ≡ x.0 = sym (ap (λ (r : NetRow). r.ident) row) in
      let counts = same_counts x.0 p.net.places x.1.tokens y.1.tokens (flat_map (token_rows s) xs) (flat_map (token_rows t) ys)
      (places_once p.spec p.net p.within) p.places (q.places ∙ ap (λ (net : Net). length net.places) (sym same.1))
      (none_after s x.0 xs below.0 below.1) (subst (λ (j : Ident). NoneOf j (flat_map (token_rows t) ys)) ident (none_after t y.0 ys above.0 above.1))
      (sym (ap (λ (o : Option Net). place_rows x.0 (unwrap_or (option_map (λ (net : Net). net.places) o) []) x.1.tokens ++ flat_map
      (token_rows s) xs) (net_of_is s x p))
      ∙ tokens
      ∙ ap (λ (o : Option Net). place_rows y.0 (unwrap_or (option_map (λ (net : Net). net.places) o) []) y.1.tokens ++ flat_map (token_rows t) ys)
      (net_of_is t y q)
      ∙ ap (λ (j : Ident). place_rows j q.net.places y.1.tokens ++ flat_map (token_rows t) ys) ident
      ∙ ap (λ (net : Net). place_rows x.0 net.places y.1.tokens ++ flat_map (token_rows t) ys) (sym same.1)) in
      both_same x y xs ys
      (pair_same x y (sym ident) (net_same x.1 y.1 (ap (λ (r : NetRow). r.spec) row) same.0 (ap (λ (r : NetRow). r.values) row) counts.0))
      (same_nets xs ys below.1 above.1 (λ e within. ps e (inr within)) (λ e within. qs e (inr within))
      (rest_same (net_row s x) (net_row t y) (map (net_row s) xs) (map (net_row t) ys) rows) counts.1)
