-- Rules of links and texts; a tree with its first rule, and with one rule more.
use Rattle.std.proofs.Common.{◌≡◌, ◌≤◌, ◌+◌, ℕ, List, [], ◌∷◌, ◌++◌, length, map, take, Some, refl, sym, ap, ◌∙◌, arith}
use Rattle.std.proofs.Math.Seq.{take-append_seam}
use Rattle.std.proofs.lemmas.List.{length-map, length_push, map-append}
use Rattle.std.specs.Prelude.{zip}
use Rattle.yw_rdr.specs.Rules.{Kept, kept_of}
use Rattle.yw_state.specs.RuleTree.{TreeRule}
use Rattle.yw_state.specs.declared.tree.TreePlace.{TreePlace}
use Rattle.yw_trees.specs.Grown.{Agrees, IsFirst, IsMore, rules_in, told}
use Rattle.yw_trees.specs.Placed.{linked}
use Rattle.yw_trees.specs.declared.grown.Grown.{Grown}
use Rattle.yw_trees.specs.declared.owner.Owner.{Owner}

-- ---- links

links_are : (ts : List (List ℕ)) (ks : List Kept) → length ts ≡ length ks → map kept_of (map told (zip ts ks)) ≡ ks
links_are [] [] e = refl
links_are [] (k ∷ ks) e = absurd (omega (arith, e))
links_are (t ∷ ts) [] e = absurd (omega (arith, e))
links_are (t ∷ ts) (k ∷ ks) e =
    let rest : length ts ≡ length ks = omega (arith, e) in
    ap (λ xs. k ∷ xs) (links_are ts ks rest)

pub its_links : (g : Grown) → Agrees g → map kept_of (rules_in g) ≡ g.tree
its_links g agrees = links_are g.texts g.tree agrees.as_many

pub its_count : (g : Grown) → Agrees g → length (rules_in g) ≡ length g.tree
its_count g agrees = sym (length-map (rules_in g) kept_of) ∙ ap length (its_links g agrees)

some_linked : (rs : List TreeRule) → 1 ≤ length rs → linked rs ≡ Some (map kept_of rs)
some_linked [] few = absurd (omega (arith, few))
some_linked (r ∷ rs) few = refl

pub its_linked : (g : Grown) → Agrees g → linked (rules_in g) ≡ Some g.tree
its_linked g agrees =
    let some : 1 ≤ length (rules_in g) = omega (arith, agrees.some, its_count g agrees) in
    some_linked (rules_in g) some ∙ ap Some (its_links g agrees)

-- ---- the first rule of a tree

pub is_first : (g : Grown) (owner : Owner) (p : TreePlace) (r : TreeRule) → g.owner ≡ owner → g.place ≡ p → g.texts ≡ r.when ∷ [] → g.tree ≡ kept_of r ∷ []
    → IsFirst owner p r g
is_first g owner p r of at texts tree =
    let rules : rules_in g ≡ r ∷ [] = ap (λ ts. map told (zip ts g.tree)) texts ∙ ap (λ ks. map told (zip (r.when ∷ []) ks)) tree in
    record {
      is = λ i. record { owner = of i; place = at i; rules = rules i };
      agrees = record {
        as_many = ap length texts ∙ sym (ap length tree);
        some = let one = ap length tree in omega (arith, one);
      };
    }

-- ---- one rule more

zip_push : (ts : List (List ℕ)) (ks : List Kept) (t : List ℕ) (k : Kept) → length ts ≡ length ks
    → zip (ts ++ t ∷ []) (ks ++ k ∷ []) ≡ zip ts ks ++ (t, k) ∷ []
zip_push [] [] t k e = refl
zip_push [] (b ∷ ks) t k e = absurd (omega (arith, e))
zip_push (a ∷ ts) [] t k e = absurd (omega (arith, e))
zip_push (a ∷ ts) (b ∷ ks) t k e =
    let rest : length ts ≡ length ks = omega (arith, e) in
    ap (λ l. (a, b) ∷ l) (zip_push ts ks t k rest)

pub is_more : (old new : Grown) (r : TreeRule) (number : ℕ) → Agrees old → new.owner ≡ old.owner → new.place ≡ old.place
    → new.texts ≡ old.texts ++ r.when ∷ []
    → new.tree ≡ old.tree ++ kept_of r ∷ []
    → number ≡ length new.tree
    → IsMore old new r number
is_more old new r number agrees of at texts tree next =
    let rules : rules_in new ≡ rules_in old ++ r ∷ [] =
    ap (λ ts. map told (zip ts new.tree)) texts ∙ ap (λ ks. map told (zip (old.texts ++ r.when ∷ []) ks)) tree
    ∙ ap (map told) (zip_push old.texts old.tree r.when (kept_of r) agrees.as_many)
    ∙ map-append told (zip old.texts old.tree) ((r.when, kept_of r) ∷ []) in
    let count : length new.tree ≡ length old.tree + 1 = ap length tree ∙ length_push old.tree (kept_of r) in
    record {
      is = λ i. record { owner = of i; place = at i; rules = rules i };
      agrees = record {
        as_many = ap length texts ∙ length_push old.texts r.when ∙ ap (λ n. n + 1) agrees.as_many ∙ sym count;
        some = omega (arith, count);
      };
      numbered = next ∙ count ∙ ap (λ n. n + 1) (sym (its_count old agrees));
    }

-- ---- without memory for it

pub cut_back : {A : Type 0} (xs pushed cut : List A) (x : A) (n : ℕ) → n ≡ length xs → pushed ≡ xs ++ x ∷ [] → cut ≡ take n pushed → cut ≡ xs
cut_back xs pushed cut x n count push is = is ∙ ap (take n) push ∙ ap (λ k. take k (xs ++ x ∷ [])) count ∙ take-append_seam xs (x ∷ [])

pub same_grown : (g : Grown) (texts : List (List ℕ)) (tree : List Kept) → texts ≡ g.texts → tree ≡ g.tree → record g { texts = texts; tree = tree } ≡ g
same_grown g texts tree a b = λ i. record { owner = g.owner; place = g.place; texts = a i; tree = b i }
