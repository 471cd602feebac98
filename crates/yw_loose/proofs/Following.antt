-- What becomes of counts behind an event, step by step.
use Rattle.std.specs.BTreeMap.{Updates, is_at}
use Rattle.std.specs.Map.{lookup}
use Rattle.std.specs.Prelude.{◌≡◌, ◌≤◌, ◌<◌, ◌+◌, ◌==◌, ◌&&◌, ℕ, Bool, IfSome, IsSome, List, None, Option, Some, Vec, cond, false, filter, length, not, slice_get, true}
use Rattle.std.specs.declared.alloc.Global.{Global}
use Rattle.std.proofs.Common.{ap, arith, inl, inr, set, subst, sym, ◌∙◌}
use Rattle.std.proofs.Math.Bool.{and-false, and-true}
use Rattle.std.proofs.lemmas.Bool.{eq-eqb, eqb-true, false_from_ne_true}
use Rattle.std.proofs.lemmas.List.{length-set}
use Rattle.std.proofs.lemmas.Map.Entries.{lookup-filter-keys}
use Rattle.std.proofs.lemmas.Option.{slice_get_within}
use Rattle.yw_base.specs.Identity.{is_identity, case_number, parent}
use Rattle.yw_enabled.specs.Left.{is_done}
use Rattle.yw_loose.specs.Counts.{AreLeft, AreMore, CountsOne, Exits, Follows, Leaves, LosesCase, Puts, counts_at, is_done_item}
use Rattle.yw_loose.specs.declared.counts.Counts.{Counts}
use Rattle.yw_moved.proofs.Parents.{is_same, parent_of_child}
use Rattle.yw_progress.specs.Progress.{completed_by}
use Rattle.yw_sites.proofs.Prefix.{is_child_of}
use Rattle.yw_state.proofs.MapLemmas.{by_name, tied, tied_self}
use Rattle.yw_state.proofs.Tests.{by_test, never, nowhere, some_same}
use Rattle.yw_state.specs.Identity.{Ident, is_child, same}
use Rattle.yw_state.specs.Map.{lexical}
use Rattle.yw_state.specs.Options.{is_some_and}
use Rattle.yw_state.specs.declared.event.Event.{Event}
use Rattle.yw_tree.proofs.OneList.{get_set, get_set_other}
use Rattle.yw_tree.proofs.Parents.{parent_child, parent_length}
use Rattle.yw_base.proofs.Parents.{identity_long}
use Rattle.yw_task.specs.Asked.{is_active}
use Rattle.yw_tree.specs.Forest.{item_of}
use Rattle.yw_tree.specs.Places.{net_at}
use Rattle.yw_tree.specs.declared.Forest.{Forest}
use Rattle.yw_tree.specs.declared.NetState.{NetState}
use Rattle.yw_tree.specs.declared.Node.{Node, out-Node}
use Rattle.yw_within.proofs.Finding.{element_at}

-- ---- lists of counts

-- no more, where no task passes the test
pub no_more : (xs : List ℕ) (more : ℕ → Bool) → ((k : ℕ) → more k ≡ false) → AreMore xs xs more
no_more xs more none =
    record { each = λ k d one. let zero = ap {B = ℕ} (λ b. cond b 1 0) (none k) in (d, one, omega (arith, zero)) }

-- ---- one net's counts are put in

pub put_in : (old mid new : Counts) → ((i : Ident) (w : Vec ℕ Global) → counts_at mid i ≡ Some w → counts_at old i ≡ Some w) → (net : Ident) (v : Vec ℕ Global)
    → Updates lexical mid.nets new.nets net (Some v) → Puts old new net v
put_in old mid new fewer net v updates =
    record {
      each = λ i w at.
          by_test (is_at (lexical net) i)
          (λ here.
          inr (
            sym (tied by_name net i here),
            sym (some_same v w (sym (updates.0 i ∙ ap (λ b. cond b (Some v) (counts_at mid i)) here) ∙ at)),
          ))
          (λ there. inl (fewer i w (sym (updates.0 i ∙ ap (λ b. cond b (Some v) (counts_at mid i)) there) ∙ at)));
    }

-- ---- one net's counts are taken out

module _ (old new : Counts) (net : Ident) (updates : Updates lexical old.nets new.nets net None) (i : Ident) (v : Vec ℕ Global) (at : counts_at new i ≡ Some v) where
  -- it is another's that are left
  pub other_left : is_at (lexical net) i ≡ false
  other_left =
      false_from_ne_true _ (λ here. nowhere (sym (updates.0 i ∙ ap (λ b. cond b None (counts_at old i)) here) ∙ at))

  pub left_there : counts_at old i ≡ Some v
  left_there = sym (updates.0 i ∙ ap (λ b. cond b None (counts_at old i)) other_left) ∙ at

  pub not_that : i ≡ net → ⊥
  not_that same_net = never (sym other_left ∙ ap (is_at (lexical net)) same_net ∙ tied_self by_name net)

-- the first net's are taken out, where there are some
pub first_out : (old new : Counts) (popped : Option (Ident × Vec ℕ Global)) → IsSome popped → IfSome popped (λ p. Updates lexical old.nets new.nets p.0 None)
    → (i : Ident) (v : Vec ℕ Global) → counts_at new i ≡ Some v → counts_at old i ≡ Some v
first_out old new None some updates i v at = never some
first_out old new (Some p) some updates i v at = left_there old new p.0 updates i v at

-- those of one case are taken out
module _ (n : ℕ) (old new : Counts) (kept : new.nets.entries ≡ filter (λ (e : Ident × Vec ℕ Global). not (case_number e.0 == n)) old.nets.entries) (i : Ident)
    (v : Vec ℕ Global) (at : counts_at new i ≡ Some v) where
  abbrev other : Ident → Bool
  other k = not (case_number k == n)

  looked : counts_at new i ≡ cond (other i) (counts_at old i) None
  looked =
      ap (lookup (is_at (lexical i))) kept
      ∙ lookup-filter-keys (is_at (lexical i)) other (other i) (λ k same_key. ap other (sym (tied by_name i k same_key))) old.nets.entries

  out_there : {A : Type 0} → other i ≡ false → A
  out_there here = nowhere (sym (looked ∙ ap (λ b. cond b (counts_at old i) None) here) ∙ at)

  case_left : counts_at old i ≡ Some v
  case_left = by_test (other i) (λ stays. sym (looked ∙ ap (λ b. cond b (counts_at old i) None) stays) ∙ at) (λ here. out_there here)

  not_there : case_number i ≡ n → ⊥
  not_there here = out_there (ap not (eq-eqb (case_number i) n here))

pub case_out : (n : ℕ) (old new : Counts) → new.nets.entries ≡ filter (λ (e : Ident × Vec ℕ Global). not (case_number e.0 == n)) old.nets.entries
    → LosesCase n old new
case_out n old new kept = record { had = λ i v at. case_left n old new kept i v at; others = λ i v at. not_there n old new kept i v at }

-- ---- an item is completed

module _ (f : Forest) (j : Ident) where
  -- of no task in a net that has counts
  apart : (i : Ident) (v : Vec ℕ Global) → is_child j i ≡ false → AreMore v.items v.items (is_done_item f i j)
  apart i v out = no_more v.items (is_done_item f i j) (λ k. ap (λ b. b && is_some_and (item_of f j) (λ (n : Node). (out-Node n).task == k && is_done n)) out)

  -- there is none
  pub no_item : (c : Counts) → item_of f j ≡ None → CountsOne f j c c
  no_item c none =
      record {
        was = λ i v identity at. (
          v,
          at,
          no_more v.items (is_done_item f i j)
              (λ k. ap (λ o. is_child j i && is_some_and o (λ (n : Node). (out-Node n).task == k && is_done n)) none ∙ and-false (is_child j i)),
        );
      }

  -- it isn't done
  pub not_done : (c : Counts) (n : Node) → item_of f j ≡ Some n → is_done n ≡ false → CountsOne f j c c
  not_done c n found undone =
      record {
        was = λ i v identity at. (
          v,
          at,
          no_more v.items (is_done_item f i j)
              (λ k.
              ap (λ o. is_child j i && is_some_and o (λ (m : Node). (out-Node m).task == k && is_done m)) found
              ∙ ap (λ b. is_child j i && ((out-Node n).task == k && b)) undone
              ∙ ap (λ b. is_child j i && b) (and-false ((out-Node n).task == k))
              ∙ and-false (is_child j i)),
        );
      }

  -- no net stands above it
  pub no_net : (c : Counts) → (is_identity (parent j) ≡ true → ⊥) → CountsOne f j c c
  no_net c none =
      record {
        was = λ i v identity at. (
          v,
          at,
          apart i v (false_from_ne_true _ (λ below. none (ap is_identity (parent_of_child j i below) ∙ identity))),
        );
      }

  -- its net has no counts any more
  pub net_out : (old new : Counts) → Updates lexical old.nets new.nets (parent j) None → CountsOne f j old new
  net_out old new updates =
      record {
        was = λ i v identity at. (
          v,
          left_there old new (parent j) updates i v at,
          apart i v (false_from_ne_true _ (λ below. not_that old new (parent j) updates i v at (sym (parent_of_child j i below)))),
        );
      }

  -- or one more of its task
  pub net_back : (old mid new : Counts) (n : Node) (w more : Vec ℕ Global) → item_of f j ≡ Some n → is_done n ≡ true → is_identity (parent j) ≡ true
      → counts_at old (parent j) ≡ Some w → AreMore w.items more.items (λ k. (out-Node n).task == k) → Updates lexical old.nets mid.nets (parent j) None
      → Updates lexical mid.nets new.nets (parent j) (Some more) → CountsOne f j old new
  net_back old mid new n w more found done above had one out back =
      record {
        was = λ i v identity at.
            by_test (is_at (lexical (parent j)) i)
            (λ here.
            let same_net : parent j ≡ i = tied by_name (parent j) i here in
            let now : more ≡ v = some_same more v (sym (back.0 i ∙ ap (λ b. cond b (Some more) (counts_at mid i)) here) ∙ at) in (
              w,
              ap (counts_at old) (sym same_net) ∙ had,
              subst (λ (x : Vec ℕ Global). AreMore w.items x.items (is_done_item f i j)) now
                  (record {
                    each = λ k d e.
                        let (b, before, sum) = one.each k d e in
                        (b, before, sum ∙ ap (λ c. b + cond c 1 0) (sym (of_task i same_net k)));
                  }),
            ))
            (λ there. (net_out old mid out).was i v identity (sym (back.0 i ∙ ap (λ b. cond b (Some more) (counts_at mid i)) there) ∙ at));
      }
    where
      long : 1 ≤ length j
      long = let l = identity_long (parent j) above in let same_length = parent_length j in omega arith

      below : (i : Ident) → parent j ≡ i → is_child j i ≡ true
      below i same_net = ap (is_child j) (sym same_net) ∙ is_child_of j (parent j) (parent_child j long)

      of_task : (i : Ident) → parent j ≡ i → (k : ℕ) → is_done_item f i j k ≡ ((out-Node n).task == k)
      of_task i same_net k =
          ap (λ b. b && is_some_and (item_of f j) (λ (x : Node). (out-Node x).task == k && is_done x)) (below i same_net)
          ∙ ap (λ o. is_some_and o (λ (x : Node). (out-Node x).task == k && is_done x)) found
          ∙ ap (λ b. (out-Node n).task == k && b) done
          ∙ and-true ((out-Node n).task == k)

-- ---- an event

pub leaves_follows : (f : Forest) (e : Event) (old new : Counts) → completed_by e ≡ None → Leaves e old new → Follows f e old new
leaves_follows f e old new none leaves =
    record {
      stays = leaves.stays;
      was = λ i v identity at. (
        v,
        leaves.had i v at,
        no_more v.items (λ k. is_some_and (completed_by e) (λ (j : Ident). is_done_item f i j k))
            (λ k. ap (λ o. is_some_and o (λ (j : Ident). is_done_item f i j k)) none),
      );
    }

pub one_follows : (f : Forest) (e : Event) (j : Ident) (old mid new : Counts) → completed_by e ≡ Some j → Leaves e old mid → CountsOne f j mid new
    → Follows f e old new
one_follows f e j old mid new is leaves one =
    record {
      stays = λ i v identity at. let (w, at_mid, more) = one.was i v identity at in leaves.stays i w identity at_mid;
      was = λ i v identity at.
          let (w, at_mid, more) = one.was i v identity at in (
            w,
            leaves.had i w at_mid,
            subst (λ o. AreMore w.items v.items (λ k. is_some_and o (λ (l : Ident). is_done_item f i l k))) (sym is) more,
          );
    }

-- ---- a task exits

-- So it is of the first n tasks, and all others are as they were.
pub record AreLeftTo (net : NetState) (n : ℕ) (before now : List ℕ) : Type 0 where
  pub long : length now ≡ length before
  pub first : (k d : ℕ) → k < n → slice_get now k ≡ Some d → (b : ℕ) × (slice_get before k ≡ Some b) × (d ≡ cond (is_active net k) b 0)
  pub rest : (k : ℕ) → n ≤ k → slice_get now k ≡ slice_get before k

module _ (net : NetState) (before : List ℕ) where
  pub all_left : (n : ℕ) (now : List ℕ) → AreLeftTo net n before now → length now ≤ n → AreLeft net before now
  all_left n now to all =
      record {
        each = λ k d one.
            let within : k < length now = slice_get_within now k d one in
            to.first k d (omega (arith, within, all)) one;
      }

  module _ (n : ℕ) (now : List ℕ) (to : AreLeftTo net n before now) where
    earlier : (k : ℕ) → k < n + 1 → (n == k) ≡ false → k < n
    earlier k less apart = let other : n ≡ k → ⊥ = λ e. never (sym apart ∙ eq-eqb n k e) in omega (arith, less, other)

    -- where the next has items
    pub next_stays : is_active net n ≡ true → AreLeftTo net (n + 1) before now
    next_stays active =
        record {
          long = to.long;
          first = λ k d less one.
              by_test (n == k)
              (λ here.
              let at : n ≡ k = eqb-true n k here in (
                d,
                sym (to.rest k (omega (arith, at))) ∙ one,
                sym (ap {B = ℕ} (λ c. cond c d 0) (ap (is_active net) (sym at) ∙ active)),
              ))
              (λ apart. to.first k d (earlier k less apart) one);
          rest = λ k past. to.rest k (omega (arith, past));
        }

    -- where it has none
    pub next_goes : is_active net n ≡ false → n < length now → AreLeftTo net (n + 1) before (set now n 0)
    next_goes idle within =
        let (x, was) = element_at now n within in
        record {
          long = length-set now n 0 ∙ to.long;
          first = λ k d less one.
              by_test (n == k)
              (λ here.
              let at : n ≡ k = eqb-true n k here in
              let none : 0 ≡ d = some_same 0 d (sym (get_set now n x 0 was) ∙ ap (slice_get (set now n 0)) at ∙ one) in (
                x,
                ap (slice_get before) (sym at) ∙ sym (to.rest n (omega arith)) ∙ was,
                sym none ∙ sym (ap {B = ℕ} (λ c. cond c x 0) (ap (is_active net) (sym at) ∙ idle)),
              ))
              (λ apart.
              to.first k d (earlier k less apart)
              (sym (get_set_other now n k 0 (λ e. never (sym apart ∙ eq-eqb n k (sym e)))) ∙ one));
          rest = λ k past. get_set_other now n k 0 (λ e. absurd (omega (arith, past, e))) ∙ to.rest k (omega (arith, past));
        }

module _ (f : Forest) (at : Ident) where
  -- its net has no counts any more
  pub exit_out : (old new : Counts) → Updates lexical old.nets new.nets at None → Exits f at old new
  exit_out old new updates =
      record {
        each = λ i v is.
            inl (
              left_there old new at updates i v is,
              false_from_ne_true (same i at) (λ here. not_that old new at updates i v is (is_same i at here)),
            );
      }

  -- or those that are left
  pub exit_back : (old mid new : Counts) (net : NetState) (before now : Vec ℕ Global) → net_at f at ≡ Some net → counts_at old at ≡ Some before
      → AreLeft net before.items now.items → Updates lexical old.nets mid.nets at None → Updates lexical mid.nets new.nets at (Some now) → Exits f at old new
  exit_back old mid new net before now stands had left out back =
      record {
        each = λ i v is.
            by_test (is_at (lexical at) i)
            (λ here.
            let there : at ≡ i = tied by_name at i here in
            let now_is : now ≡ v = some_same now v (sym (back.0 i ∙ ap (λ b. cond b (Some now) (counts_at mid i)) here) ∙ is) in
            inr (
              sym there,
              record {
                net = net;
                stands = ap (net_at f) (sym there) ∙ stands;
                before = before;
                had = ap (counts_at old) (sym there) ∙ had;
                left = subst (λ (x : Vec ℕ Global). AreLeft net before.items x.items) now_is left;
              },
            ))
            (λ other. (exit_out old mid out).each i v (sym (back.0 i ∙ ap (λ b. cond b (Some now) (counts_at mid i)) other) ∙ is));
      }
