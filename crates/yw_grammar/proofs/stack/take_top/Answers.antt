use Rattle.std.proofs.Common.{◌≡◌, ℕ, ◌+◌, ap, ◌∙◌, List, [], ◌∷◌, ◌++◌, length, Option, Some, None, sym, refl, arith}
use Rattle.std.specs.Prelude.{MatchOption}
use Rattle.std.specs.Option.{option_to_list}
use Rattle.yw_grammar.specs.declared.stack.Frame.{Frame}
use Rattle.yw_grammar.specs.Tie.{begun_of, tops}
use Rattle.yw_grammar.proofs.Tops.{tops_push}
use Rattle.yw_grammar.proofs.stack.take_top.Goals as goal

none_of : (fs : List Frame) → length fs ≡ 0 → fs ≡ []
none_of [] h = refl
none_of (f ∷ fs) h = absurd (omega arith)

taken : (old new : List Frame) (o : Option Frame) (m n : ℕ) → old ≡ new ++ option_to_list o → MatchOption o ((m ≡ 0) × (n ≡ 0)) (λ f. n + 1 ≡ m) → m ≡ length old → MatchOption o (tops old ≡ []) (λ f. tops old ≡ begun_of f ∷ tops new)
taken old new None m n e h k = ap tops (none_of old (sym k ∙ h.0))
taken old new (Some f) m n e h k = ap tops e ∙ tops_push new f

pub returns-clause-top : goal.returns-clause-top
returns-clause-top c = taken c.args.stack.now.items c.pop.new.self.items c.pop.result _ _ c.pop.ensures.items c.pop.ensures.cases c.args.stack.now.ok.0
