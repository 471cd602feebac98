-- The line that says what was found.
use Rattle.std.specs.Prelude.{ℕ, List, true, false, codes}
use Rattle.serde_json.specs.Data.{Data, boolean, string, object, no_members, member}
use Rattle.yw_lines.specs.Replies.{line_of}
use Rattle.yw_state.specs.RuleNames.{rule_text}
use Rattle.yw_verdict.specs.declared.finding.Finding.{Finding}
use Rattle.yw_verdict.specs.declared.finding.Finding.TheVariants.{Accepted, Refused}

abbrev pub finding_data : Finding → Data
finding_data (Accepted name) =
    object (member (codes "ok") (boolean true)
    (member (codes "spec") (string name) no_members))
finding_data (Refused refusal) =
    object (member (codes "at") (string refusal.at)
    (member (codes "ok") (boolean false)
    (member (codes "rule") (string (rule_text refusal.rule)) no_members)))

unfoldable pub finding_line : Finding → List ℕ
finding_line finding = line_of (finding_data finding)
