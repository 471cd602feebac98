-- Entries of one part in place of those of another: what a look-up then answers.
use Rattle.std.proofs.Common.{Bool, None, Option, Some, [], ap, append_assoc, cond, false, refl, subst, sym, true, ◌++◌, ◌∙◌, ◌∷◌, ◌≡◌}
use Rattle.std.specs.FinMap.Entries.{find}
use Rattle.std.specs.Ordering.{eq_by_cmp}
use Rattle.yw_base.specs.Identity.{under}
use Rattle.yw_sites.proofs.Each.{Each-append, nil_right}
use Rattle.yw_sites.proofs.Prefix.{apart_keys, not_true, under_trans}
use Rattle.yw_sites.specs.Entries.{AllUnder, Entries, Entry, NoneUnder, Swaps}
use Rattle.yw_sites.specs.Idents.{IsChild}
use Rattle.yw_state.proofs.MapLemmas.{by_name, tied}
use Rattle.yw_state.proofs.Tests.{by_test, never, nowhere}
use Rattle.yw_state.specs.Identity.{Ident}
use Rattle.yw_state.specs.Map.{lexical}
use Rattle.yw_state.specs.State.{Site}

pub swaps_whole : (id : Ident) (old new : Entries) → Swaps id old new old new
swaps_whole id old new = record { front = []; back = []; before = sym (nil_right old); after = sym (nil_right new); front_apart = tt; back_apart = tt }

pub swaps_before : (id : Ident) (old new es fs xs : Entries) → NoneUnder id xs → Swaps id old new es fs → Swaps id old new (xs ++ es) (xs ++ fs)
swaps_before id old new es fs xs h s = record {
  front = xs ++ s.front;
  back = s.back;
  before = ap (λ r. xs ++ r) s.before ∙ sym (append_assoc xs s.front (old ++ s.back));
  after = ap (λ r. xs ++ r) s.after ∙ sym (append_assoc xs s.front (new ++ s.back));
  front_apart = Each-append (λ (e : Entry). under e.0 id ≡ false) xs s.front h s.front_apart;
  back_apart = s.back_apart;
}

pub swaps_after : (id : Ident) (old new es fs xs : Entries) → NoneUnder id xs → Swaps id old new es fs → Swaps id old new (es ++ xs) (fs ++ xs)
swaps_after id old new es fs xs h s = record {
  front = s.front;
  back = s.back ++ xs;
  before = ap (λ r. r ++ xs) s.before ∙ append_assoc s.front (old ++ s.back) xs ∙ ap (λ r. s.front ++ r) (append_assoc old s.back xs);
  after = ap (λ r. r ++ xs) s.after ∙ append_assoc s.front (new ++ s.back) xs ∙ ap (λ r. s.front ++ r) (append_assoc new s.back xs);
  front_apart = s.front_apart;
  back_apart = Each-append (λ (e : Entry). under e.0 id ≡ false) s.back xs s.back_apart h;
}

-- entries under a sibling that doesn't lead to id
pub keys_apart : (id i j : Ident) → IsChild i j → under i id ≡ false → under id j ≡ false → (es : Entries) → AllUnder j es → NoneUnder id es
keys_apart id i j c out off [] h = tt
keys_apart id i j c out off (e ∷ es) h = (apart_keys id i j e.0 c out off h.0, keys_apart id i j c out off es h.1)

-- what isn't under p isn't under what lies below p
none_below : (p id : Ident) → under id p ≡ true → (es : Entries) → NoneUnder p es → NoneUnder id es
none_below p id h [] n = tt
none_below p id h (e ∷ es) n = (not_true (under e.0 id) (λ t. never (sym n.0 ∙ under_trans e.0 id p t h)), none_below p id h es n.1)

-- a part of a part: what stands behind xs changes alone
pub swaps_within : (p id : Ident) → under id p ≡ true → (xs old new es fs : Entries) → NoneUnder id xs → Swaps p (xs ++ old) (xs ++ new) es fs → Swaps id old new es fs
swaps_within p id h xs old new es fs n s = record {
  front = s.front ++ xs;
  back = s.back;
  before = s.before ∙ ap (λ r. s.front ++ r) (append_assoc xs old s.back) ∙ sym (append_assoc s.front xs (old ++ s.back));
  after = s.after ∙ ap (λ r. s.front ++ r) (append_assoc xs new s.back) ∙ sym (append_assoc s.front xs (new ++ s.back));
  front_apart = Each-append (λ (e : Entry). under e.0 id ≡ false) s.front xs (none_below p id h s.front s.front_apart) n;
  back_apart = none_below p id h s.back s.back_apart;
}

-- ---- looking up
module _ (q : Ident) where
  abbrev pub at : Entries → Option Site
  at es = find lexical q es

  pub at_skip : (xs ys : Entries) → at xs ≡ None → at (xs ++ ys) ≡ at ys
  at_skip [] ys h = refl
  at_skip (e ∷ xs) ys h =
      by_test (eq_by_cmp lexical q e.0)
      (λ t. nowhere (sym (ap (λ (b : Bool). cond b (Some e.1) (at xs)) (sym t) ∙ h)))
      (λ t. ap (λ (b : Bool). cond b (Some e.1) (at (xs ++ ys))) t ∙ at_skip xs ys (ap (λ (b : Bool). cond b (Some e.1) (at xs)) (sym t) ∙ h))

  pub at_more : (xs ys zs : Entries) → at ys ≡ at zs → at (xs ++ ys) ≡ at (xs ++ zs)
  at_more [] ys zs h = h
  at_more (e ∷ xs) ys zs h = ap (λ (o : Option Site). cond (eq_by_cmp lexical q e.0) (Some e.1) o) (at_more xs ys zs h)

  pub at_stop : (xs ys : Entries) → at ys ≡ None → at (xs ++ ys) ≡ at xs
  at_stop [] ys h = h
  at_stop (e ∷ xs) ys h = ap (λ (o : Option Site). cond (eq_by_cmp lexical q e.0) (Some e.1) o) (at_stop xs ys h)

  pub at_apart : (id : Ident) (es : Entries) → NoneUnder id es → under q id ≡ true → at es ≡ None
  at_apart id [] h u = refl
  at_apart id (e ∷ es) h u =
      by_test (eq_by_cmp lexical q e.0)
      (λ t. never (sym h.0 ∙ subst (λ z. under z id ≡ true) (tied by_name q e.0 t) u))
      (λ t. ap (λ (b : Bool). cond b (Some e.1) (at es)) t ∙ at_apart id es h.1 u)

  pub at_under : (id : Ident) (es : Entries) → AllUnder id es → under q id ≡ false → at es ≡ None
  at_under id [] h u = refl
  at_under id (e ∷ es) h u =
      by_test (eq_by_cmp lexical q e.0)
      (λ t. never (sym u ∙ subst (λ z. under z id ≡ true) (sym (tied by_name q e.0 t)) h.0))
      (λ t. ap (λ (b : Bool). cond b (Some e.1) (at es)) t ∙ at_under id es h.1 u)

module _ (id : Ident) (old new es fs : Entries) (s : Swaps id old new es fs) (q : Ident) where
  -- under id, what stood there and what stands there now; elsewhere, what stood
  pub old_at : under q id ≡ true → at q es ≡ at q old
  old_at u = ap (at q) s.before ∙ at_skip q s.front (old ++ s.back) (at_apart q id s.front s.front_apart u) ∙ at_stop q old s.back (at_apart q id s.back s.back_apart u)

  pub new_at : under q id ≡ true → at q fs ≡ at q new
  new_at u = ap (at q) s.after ∙ at_skip q s.front (new ++ s.back) (at_apart q id s.front s.front_apart u) ∙ at_stop q new s.back (at_apart q id s.back s.back_apart u)

  pub else_at : AllUnder id old → AllUnder id new → under q id ≡ false → at q fs ≡ at q es
  else_at o n u =
      ap (at q) s.after
      ∙ at_more q s.front (new ++ s.back) (old ++ s.back) (at_skip q new s.back (at_under q id new n u) ∙ sym (at_skip q old s.back (at_under q id old o u)))
      ∙ ap (at q) (sym s.before)

pub lift_keys : (i j : Ident) → under j i ≡ true → (es : Entries) → AllUnder j es → AllUnder i es
lift_keys i j h [] p = tt
lift_keys i j h (e ∷ es) p = (under_trans e.0 j i p.0 h, lift_keys i j h es p.1)
