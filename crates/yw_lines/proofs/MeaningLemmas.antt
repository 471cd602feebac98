-- A line that is too long means the same when it is cut behind the limit.
use Rattle.std.proofs.Common.{◌≡◌, ℕ, ◌+◌, ◌<◌, List, length, take, Bool, cond, nat_lt, Err, sym, ap, inl, inr, ◌∙◌, arith, length-take}
use Rattle.std.proofs.lemmas.List.{take_all}
use Rattle.std.proofs.lemmas.Bool.{cases_lt, lt-ltb}
use Rattle.yw_lines.specs.Lines.{line_limit}
use Rattle.yw_lines.specs.Meaning.{meaning, text_meaning}
use Rattle.yw_state.specs.declared.rule.Rule.TheVariants.{LineTooLong}
use Rattle.yw_lines.specs.declared.word.Word.{Word}

-- over any limit, and any meaning of a line within it
within_limit : {A : Type 0} (limit : ℕ) (f : List ℕ → A) (x : A) (line : List ℕ) → cond (nat_lt limit (length (take (limit + 1) line))) x (f (take (limit + 1) line)) ≡ cond (nat_lt limit (length line)) x (f line)
within_limit limit f x line =
    elim (cases_lt limit (length line)) [
      | inl long ↦
          let cut : limit < length (take (limit + 1) line) = omega (arith, length-take (limit + 1) line) in
          ap (λ (b : Bool). cond b x (f (take (limit + 1) line))) (lt-ltb limit _ cut) ∙ sym (ap (λ (b : Bool). cond b x (f line)) (lt-ltb limit _ long))
      | inr short ↦
          let same : take (limit + 1) line ≡ line = take_all (limit + 1) line (omega arith) in
          ap (λ (l : List ℕ). cond (nat_lt limit (length l)) x (f l)) same
    ]

pub meaning-take : (built : List Word) (line : List ℕ) → meaning built (take (line_limit + 1) line) ≡ meaning built line
unfolding meaning
meaning-take built line = within_limit line_limit (text_meaning built) (Err LineTooLong) line
