-- The bytes of stages, of checks that are due and of how cases ended. Each is one byte, which tells it.
use Rattle.std.proofs.Common.{◌≡◌, ◌+◌, ◌==◌, ◌||◌, ◌∙◌, ℕ, List, [], ◌∷◌, ◌++◌, Bool, true, false, if◌then◌else◌, refl, sym, ap, arith, drop, get_or}
use Rattle.yw_codec.specs.FieldLaws.{head_of}
use Rattle.yw_codec.specs.Forms.{Stands, AreApart}
use Rattle.yw_state.specs.declared.part.Checks.{Checks}
use Rattle.yw_state.specs.declared.part.Stage.{Stage}
use Rattle.yw_state.specs.declared.part.Stage.TheVariants.{Ready, Executing, Completed}
use Rattle.yw_state.specs.declared.part.Way.{Way}
use Rattle.yw_state.specs.declared.part.Way.TheVariants.{Finished, Cancelled, Removed}

abbrev pub is_stage : Stage → Bool
is_stage stage = true

abbrev pub stage_bytes : Stage → List ℕ
stage_bytes Ready = 0 ∷ []
stage_bytes Executing = 1 ∷ []
stage_bytes Completed = 2 ∷ []

abbrev pub is_way : Way → Bool
is_way way = true

abbrev pub way_bytes : Way → List ℕ
way_bytes Finished = 0 ∷ []
way_bytes Cancelled = 1 ∷ []
way_bytes Removed = 2 ∷ []

abbrev pub is_checks : Checks → Bool
is_checks checks = true

-- one for the first, two for the second, four for the third
abbrev pub checks_byte : Bool → Bool → Bool → ℕ
checks_byte pre select post = (if pre then 1 else 0) + (if select then 2 else 0) + (if post then 4 else 0)

abbrev pub checks_bytes : Checks → List ℕ
checks_bytes checks = checks_byte checks.pre checks.select checks.post ∷ []

pub stage_apart : AreApart is_stage stage_bytes
stage_apart Ready Ready whole x y s t = (refl, ap (drop 1) (sym s.split ∙ t.split))
stage_apart Executing Executing whole x y s t = (refl, ap (drop 1) (sym s.split ∙ t.split))
stage_apart Completed Completed whole x y s t = (refl, ap (drop 1) (sym s.split ∙ t.split))
stage_apart v w whole x y s t = absurd (omega (arith, ap (λ (l : List ℕ). get_or l 0 0) (sym s.split ∙ t.split)))

pub way_apart : AreApart is_way way_bytes
way_apart Finished Finished whole x y s t = (refl, ap (drop 1) (sym s.split ∙ t.split))
way_apart Cancelled Cancelled whole x y s t = (refl, ap (drop 1) (sym s.split ∙ t.split))
way_apart Removed Removed whole x y s t = (refl, ap (drop 1) (sym s.split ∙ t.split))
way_apart v w whole x y s t = absurd (omega (arith, ap (λ (l : List ℕ). get_or l 0 0) (sym s.split ∙ t.split)))

checks_of : ℕ → Checks
checks_of byte = record {
  pre = byte == 1 || byte == 3 || byte == 5 || byte == 7;
  select = byte == 2 || byte == 3 || byte == 6 || byte == 7;
  post = byte == 4 || byte == 5 || byte == 6 || byte == 7;
}

told : (pre select post : Bool) → checks_of (checks_byte pre select post) ≡ record { pre = pre; select = select; post = post }
unfolding checks_of
told true true true = refl
told true true false = refl
told true false true = refl
told true false false = refl
told false true true = refl
told false true false = refl
told false false true = refl
told false false false = refl

pub checks_apart : AreApart is_checks checks_bytes
checks_apart v w whole x y s t =
    let e : checks_bytes v ++ x ≡ checks_bytes w ++ y = sym s.split ∙ t.split in
    (sym (told v.pre v.select v.post) ∙ ap checks_of (ap head_of e) ∙ told w.pre w.select w.post, ap (drop 1) e)
