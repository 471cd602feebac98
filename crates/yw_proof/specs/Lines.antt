-- The line that says what was found: compact JSON, keys in byte order. Our own.
use Rattle.std.specs.Prelude.{ℕ, List, true, false, codes}
use Rattle.serde_json.specs.Data.{Data, boolean, number, string, unsigned, object, no_members, member}
use Rattle.yw_lines.specs.Replies.{line_of}
use Rattle.yw_state.specs.RuleNames.{rule_text}
use Rattle.yw_proof.specs.declared.finding.ProofFinding.{ProofFinding}
use Rattle.yw_proof.specs.declared.finding.ProofFinding.TheVariants.{Proved, Refused, Unproved}
use Rattle.yw_proof.specs.declared.rule.ProofRule.{ProofRule}
use Rattle.yw_proof.specs.declared.rule.ProofRule.TheVariants as rules

-- the names of the rules of proofs, as lines have them
abbrev pub proof_rule_text : ProofRule → List ℕ
proof_rule_text rules.NotProof = codes "NotProof"
proof_rule_text rules.UnknownNet = codes "UnknownNet"
proof_rule_text rules.Weight = codes "Weight"
proof_rule_text rules.Rises = codes "Rises"

-- a rule that is broken, and where
abbrev pub broken_data : List ℕ → List ℕ → Data
broken_data at rule =
    object (member (codes "at") (string at)
    (member (codes "ok") (boolean false)
    (member (codes "rule") (string rule) no_members)))

abbrev pub finding_data : ProofFinding → Data
finding_data (Proved spec net bound) =
    object (member (codes "bound") (number (unsigned bound))
    (member (codes "net") (string net)
    (member (codes "ok") (boolean true)
    (member (codes "spec") (string spec) no_members))))
finding_data (Refused refusal) = broken_data refusal.at (rule_text refusal.rule)
finding_data (Unproved rule at) = broken_data at (proof_rule_text rule)

unfoldable pub finding_line : ProofFinding → List ℕ
finding_line finding = line_of (finding_data finding)
