-- What is kept beside the specifications, with one more of them.
use Rattle.std.proofs.Common.{List, None, Some, [], ap, arith, inl, inr, length, length-append, map, subst, sym, ℕ, ◌+◌, ◌++◌, ◌∙◌, ◌∷◌, ◌≡◌, ◌⊎◌}
use Rattle.std.proofs.lemmas.List.{map-append}
use Rattle.std.proofs.lemmas.Option.{slice_get_within}
use Rattle.std.specs.Prelude.{All, slice_get}
use Rattle.yw_accept.proofs.IndexLemmas.{slice_get-seam}
use Rattle.yw_known.proofs.Lists.{at_push, not_before, not_past}
use Rattle.yw_known.specs.Upstreams.{AreKnown, AreUpstreams, HaveRows, by_name}
use Rattle.yw_known.specs.Known.{IsKnownNet}
use Rattle.yw_known.specs.declared.known.KnownNet.{KnownNet}
use Rattle.yw_library.proofs.HoldingsLemmas.{all_at}
use Rattle.yw_library.specs.Holdings.{AreNamed, Holdings, SaysItsText, spec_under, with_library}
use Rattle.yw_path.specs.Direct.{HasItsPlaces}
use Rattle.yw_path.specs.Upstream.{IsUpstreamOf}
use Rattle.yw_path.specs.declared.upstream.Upstream.{Upstream}
use Rattle.yw_spec.specs.declared.spec.Net.{Net}
use Rattle.yw_spec.specs.declared.spec.Spec.{Spec}
use Rattle.yw_state.proofs.MapEntries.{get-of_entries, of_entries-push}
use Rattle.yw_state.proofs.MapLemmas.{by_name as order, get-insert_other, get-insert_same}
use Rattle.yw_state.proofs.Tests.{by_option, nowhere, some_same}
use Rattle.yw_state.specs.Map.{get, insert, lexical, of_entries}
use Rattle.yw_state.specs.declared.loaded.Loaded.{Loaded}
use Rattle.yw_within.proofs.Finding.{after_within, before_within}
use Rattle.yw_within.specs.Within.{IsWithin}

-- ---- the nets of one specification

-- flows go to and from places of each net
pub places_fit : (spec : Spec) (k : ℕ) (net : Net) → IsWithin spec → slice_get spec.nets k ≡ Some net → HasItsPlaces net
places_fit spec k net within at =
    let here = within.nets k net at in
    record {
      before = λ t c among. before_within spec net here t c among;
      after = λ t c among. after_within spec net here t c among;
    }

-- of each net so far
abbrev pub EachUpstream : List Net → List Upstream → Type 0
EachUpstream nets ups = (k : ℕ) (net : Net) (up : Upstream) → slice_get nets k ≡ Some net → slice_get ups k ≡ Some up → IsUpstreamOf net up

pub each-push : (nets : List Net) (ups : List Upstream) (net : Net) (up : Upstream) → slice_get nets (length ups) ≡ Some net → IsUpstreamOf net up
    → EachUpstream nets ups → EachUpstream nets (ups ++ up ∷ [])
each-push nets ups net up at is each k n u here there = by (at_push ups up k u there)
  where
    by : (slice_get ups k ≡ Some u) ⊎ ((k ≡ length ups) × (up ≡ u)) → IsUpstreamOf n u
    by (inl h) = each k n u here h
    by (inr h) =
        let same : net ≡ n = some_same net n (sym at ∙ ap (slice_get nets) (sym h.0) ∙ here) in
        subst (λ z. IsUpstreamOf z u) same (subst (IsUpstreamOf net) h.1 is)

-- ---- all specifications

-- the map with one more, whose name none has
pub by_name-push : (specs : List Loaded) (l : Loaded) → get (by_name specs) l.spec.name ≡ None → (q : List ℕ) (m : Loaded)
    → ((q ≡ l.spec.name) × (l ≡ m)) ⊎ (get (by_name specs) q ≡ Some m) → get (by_name (specs ++ l ∷ [])) q ≡ Some m
by_name-push specs l free q m which = ap (λ z. get z q) whole ∙ by which
  where
    whole : by_name (specs ++ l ∷ []) ≡ insert (by_name specs) l.spec.name l
    whole = ap (of_entries {R = lexical}) (map-append spec_under specs (l ∷ [])) ∙ of_entries-push order (map spec_under specs) l.spec.name l (sym (get-of_entries order (map spec_under specs) l.spec.name) ∙ free)

    by : ((q ≡ l.spec.name) × (l ≡ m)) ⊎ (get (by_name specs) q ≡ Some m) → get (insert (by_name specs) l.spec.name l) q ≡ Some m
    by (inl h) = ap (get (insert (by_name specs) l.spec.name l)) h.0 ∙ get-insert_same order (by_name specs) l.spec.name l ∙ ap Some h.1
    by (inr h) = get-insert_other order (by_name specs) l.spec.name l q (λ same. nowhere (sym free ∙ sym (ap (get (by_name specs)) same) ∙ h)) ∙ h

pub known-push : (specs : List Loaded) (rows : List (List Upstream)) (l : Loaded) (ups : List Upstream) → AreKnown specs rows → IsWithin l.spec
    → AreUpstreams l.spec.nets ups → get (by_name specs) l.spec.name ≡ None → AreKnown (specs ++ l ∷ []) (rows ++ ups ∷ [])
known-push specs rows l ups known within fit free =
    record {
      len = (let e = known.len in omega (arith, length-append rows (ups ∷ []), length-append specs (l ∷ [])));
      rows_fit = λ k m us at row. both k m us (at_push specs l k m at) (at_push rows ups k us row);
      within = λ k m at. inside k m (at_push specs l k m at);
      named = λ k m at. by_name-push specs l free m.spec.name m (named k m (at_push specs l k m at));
    }
  where
    both : (k : ℕ) (m : Loaded) (us : List Upstream) → (slice_get specs k ≡ Some m) ⊎ ((k ≡ length specs) × (l ≡ m))
        → (slice_get rows k ≡ Some us) ⊎ ((k ≡ length rows) × (ups ≡ us)) → AreUpstreams m.spec.nets us
    both k m us (inl a) (inl b) = known.rows_fit k m us a b
    both k m us (inl a) (inr b) = not_past specs k m a (let e = known.len in omega (arith, b.0))
    both k m us (inr a) (inl b) = not_past rows k us b (let e = known.len in omega (arith, a.0))
    both k m us (inr a) (inr b) = subst (λ (z : Loaded). AreUpstreams z.spec.nets us) a.1 (subst (AreUpstreams l.spec.nets) b.1 fit)

    inside : (k : ℕ) (m : Loaded) → (slice_get specs k ≡ Some m) ⊎ ((k ≡ length specs) × (l ≡ m)) → IsWithin m.spec
    inside k m (inl a) = known.within k m a
    inside k m (inr a) = subst (λ (z : Loaded). IsWithin z.spec) a.1 within

    named : (k : ℕ) (m : Loaded) → (slice_get specs k ≡ Some m) ⊎ ((k ≡ length specs) × (l ≡ m))
        → ((m.spec.name ≡ l.spec.name) × (l ≡ m)) ⊎ (get (by_name specs) m.spec.name ≡ Some m)
    named k m (inl a) = inr (known.named k m a)
    named k m (inr a) = inl (ap (λ (z : Loaded). z.spec.name) (sym a.1), a.1)

-- ---- what is there

pub row_there : {B : Type 0} (specs : List Loaded) (rows : List (List Upstream)) (k : ℕ) (l : Loaded) → AreKnown specs rows → slice_get specs k ≡ Some l → slice_get rows k ≡ None → B
row_there specs rows k l known at none = not_before rows k none (let within = slice_get_within specs k l at in let e = known.len in omega arith)

pub upstream_there : {B : Type 0} (nets : List Net) (ups : List Upstream) (k : ℕ) (net : Net) → AreUpstreams nets ups → slice_get nets k ≡ Some net → slice_get ups k ≡ None → B
upstream_there nets ups k net fit at none = not_before ups k none (let within = slice_get_within nets k net at in let e = fit.len in omega arith)

-- ---- with a specification more, which was loaded last

pub row_pushed : (specs all : List Loaded) (rows after : List (List Upstream)) (l : Loaded) (ups : List Upstream) (number : ℕ) → number ≡ length rows → all ≡ specs ++ l ∷ []
    → after ≡ rows ++ ups ∷ [] → ((m : Loaded) → slice_get all number ≡ Some m → IsWithin m.spec × AreUpstreams m.spec.nets ups) → AreKnown specs rows
    → get (by_name specs) l.spec.name ≡ None → AreKnown all after
row_pushed specs all rows after l ups number here is put row known free =
    let at : slice_get all number ≡ Some l = ap (λ z. slice_get z number) is ∙ ap (slice_get (specs ++ l ∷ [])) (here ∙ known.len) ∙ slice_get-seam specs [] l in
    let both = row l at in
    subst (AreKnown all) (sym put) (subst (λ z. AreKnown z (rows ++ ups ∷ [])) (sym is) (known-push specs rows l ups known both.0 both.1 free))

-- ---- what is found by numbers

pub known_net : (known seen : Holdings) (rows : List (List Upstream)) (k n : ℕ) (g : KnownNet) (text : List ℕ) (ups : List Upstream) → known ≡ seen → AreKnown known.specs rows
    → All SaysItsText known.specs → slice_get known.specs k ≡ Some (record { text = text; spec = g.spec.now }) → slice_get rows k ≡ Some ups
    → slice_get g.spec.now.nets n ≡ Some g.net.now → slice_get ups n ≡ Some g.up.now → IsKnownNet seen k n g
unfolding with_library
known_net known seen rows k n g text ups is are all at row of_spec up =
    let l : Loaded = record { text = text; spec = g.spec.now } in
    let within = are.within k l at in
    let here : IsKnownNet known k n g = record {
      kept = record { text = text; kept = are.named k l at; stands = at; accepted = all_at SaysItsText known.specs k l all at };
      of_spec = of_spec;
      spec_within = within;
      within = within.nets n g.net.now of_spec;
      upstream = (are.rows_fit k l ups at row).each n g.net.now g.up.now of_spec up;
    } in
    subst (λ z. IsKnownNet z k n g) is here

pub are_named : (known : Holdings) (rows : List (List Upstream)) → AreKnown known.specs rows → AreNamed known
unfolding with_library
are_named known rows are = are.named

-- ---- a whole library

-- one row more
pub rows-push : (specs : List Loaded) (rows : List (List Upstream)) (n : ℕ) (ups : List Upstream) → HaveRows specs rows n
    → ((l : Loaded) → slice_get specs n ≡ Some l → IsWithin l.spec × AreUpstreams l.spec.nets ups) → HaveRows specs (rows ++ ups ∷ []) (n + 1)
rows-push specs rows n ups have row =
    record {
      len = (let e = have.len in omega (arith, e, length-append rows (ups ∷ [])));
      fit = λ k l us at there. by k l us at (at_push rows ups k us there);
    }
  where
    by : (k : ℕ) (l : Loaded) (us : List Upstream) → slice_get specs k ≡ Some l → (slice_get rows k ≡ Some us) ⊎ ((k ≡ length rows) × (ups ≡ us))
        → IsWithin l.spec × AreUpstreams l.spec.nets us
    by k l us at (inl h) = have.fit k l us at h
    by k l us at (inr h) =
        let both = row l (ap (slice_get specs) (sym have.len ∙ sym h.0) ∙ at) in
        subst (λ (z : List Upstream). IsWithin l.spec × AreUpstreams l.spec.nets z) h.1 both

pub rows_known : (library : Holdings) (rows : List (List Upstream)) → HaveRows library.specs rows (length library.specs) → AreNamed library → AreKnown library.specs rows
unfolding with_library
rows_known library rows have named =
    record {
      len = have.len;
      rows_fit = λ k l ups at row. (have.fit k l ups at row).1;
      within = λ k l at.
          by_option (slice_get rows k)
          (λ none. not_before rows k none (let within = slice_get_within library.specs k l at in let e = have.len in omega arith))
          (λ ups row. (have.fit k l ups at row).0);
      named = named;
    }
