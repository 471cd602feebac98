-- Texts that are made of parts with a byte between each two, which the parts don't have: they are taken apart again.
use Rattle.std.specs.Prelude.{◌≡◌, ◌==◌, ℕ, Bool, true, false, List, [], ◌∷◌, ◌++◌, All, refl}
use Rattle.std.specs.List.{list_all, slice_split}
use Rattle.std.proofs.Common.{sym, ◌∙◌, ap, append_assoc}
use Rattle.std.proofs.lemmas.Bool.{ne_eqb}
use Rattle.std.proofs.lemmas.List.Elements.{All-weaker}
use Rattle.std.proofs.lemmas.List.Splits.{slice_split_at, slice_split_none}
use Rattle.std.proofs.lemmas.List.Sums.{AllPass-from_list_all}
use Rattle.yw_lines.specs.EventTexts.{words_text}
use Rattle.yw_state.proofs.Tests.{never}

-- the text doesn't have the byte
abbrev pub Lacks : ℕ → List ℕ → Type 0
Lacks c text = All (λ b. (b == c) ≡ false) text

-- the parts round the byte
abbrev pub cut : ℕ → List ℕ → List (List ℕ)
cut c text = slice_split (λ b. b == c) text

-- ---- what a text lacks

passes_elsewhere : (p : ℕ → Bool) (c b : ℕ) → p c ≡ false → p b ≡ true → (b == c) ≡ false
passes_elsewhere p c b fails passes = ne_eqb b c (λ same. never (sym fails ∙ ap p (sym same) ∙ passes))

-- a byte that fails where all bytes of the text pass
pub all_lack : (p : ℕ → Bool) (c : ℕ) (text : List ℕ) → p c ≡ false → list_all p text ≡ true → Lacks c text
all_lack p c text fails all =
    All-weaker (λ b. p b ≡ true) (λ b. (b == c) ≡ false) (λ b. passes_elsewhere p c b fails) text (AllPass-from_list_all p text all)

-- ---- parts

pub cut_one : (c : ℕ) (text : List ℕ) → Lacks c text → cut c text ≡ text ∷ []
cut_one c text lacks = slice_split_none (λ b. b == c) text lacks

pub cut_at : (c : ℕ) (part rest : List ℕ) → Lacks c part → (c == c) ≡ true → cut c (part ++ c ∷ rest) ≡ part ∷ cut c rest
cut_at c part rest lacks same = slice_split_at (λ b. b == c) part c rest lacks same

-- ---- words with a blank between each two

abbrev pub words_in : List ℕ → List (List ℕ)
words_in text = cut 32 text

-- a prefix of the first word stays where it is
prefix_apart : (prefix word : List ℕ) (words : List (List ℕ)) → words_text (prefix ++ word) words ≡ prefix ++ words_text word words
prefix_apart prefix word [] = refl
prefix_apart prefix word (w ∷ ws) = ap (λ t. words_text t ws) (append_assoc prefix word (32 ∷ w)) ∙ prefix_apart prefix (word ++ 32 ∷ w) ws

one_more : (first word : List ℕ) (words : List (List ℕ)) → words_text first (word ∷ words) ≡ first ++ 32 ∷ words_text word words
one_more first word words = prefix_apart first (32 ∷ word) words ∙ ap (λ (t : List ℕ). first ++ t) (prefix_apart (32 ∷ []) word words)

-- the first word is found, and the others after it
pub first_word : (first word : List ℕ) (words : List (List ℕ)) → Lacks 32 first
    → words_in (words_text first (word ∷ words)) ≡ first ∷ words_in (words_text word words)
first_word first word words lacks = ap words_in (one_more first word words) ∙ cut_at 32 first (words_text word words) lacks refl

-- what is found of words that follow one
abbrev pub following : List (List ℕ) → List (List ℕ)
following [] = []
following (word ∷ words) = words_in (words_text word words)

pub leading_word : (first : List ℕ) (words : List (List ℕ)) → Lacks 32 first → words_in (words_text first words) ≡ first ∷ following words
leading_word first [] lacks = cut_one 32 first lacks
leading_word first (word ∷ words) lacks = first_word first word words lacks
