-- What is found of a text of the words `prove`: that the weights that it gives are a certificate of the net, or the first that is wrong. Our own.
use Rattle.std.specs.Prelude.{◌≡◌, ◌⊎◌, ◌<◌, ◌≤◌, ℕ, List, [], ◌++◌, length, Bool, true, false, Option, Some, None, Result, Ok, Err, slice_get, unwrap_or, codes}
use Rattle.std.specs.Option.{option_map_or}
use Rattle.serde_json.specs.Data.{Data}
use Rattle.yw_texts.specs.Texts.{ReadsSpec}
use Rattle.yw_proof.specs.Shape.{Proof, proof_in, value_said}
use Rattle.yw_proof.specs.Weights.{names_of, task_name, unknown_key, weights_in}
use Rattle.yw_proof.specs.declared.finding.ProofFinding.{ProofFinding}
use Rattle.yw_proof.specs.declared.finding.ProofFinding.TheVariants.{Proved, Refused, Unproved}
use Rattle.yw_proof.specs.declared.rule.ProofRule.TheVariants as rules
use Rattle.yw_proper.specs.First.{IsFirst}
use Rattle.yw_proper.specs.Proper.{IsProved}
use Rattle.yw_proper.specs.declared.certificate.ProofFault.{ProofFault}
use Rattle.yw_proper.specs.declared.certificate.ProofFault.TheVariants.{Weight, Join, Split, Ends}
use Rattle.yw_spec.specs.declared.spec.Net.{Net}
use Rattle.yw_spec.specs.declared.spec.Spec.{Spec}
use Rattle.yw_state.specs.Broken.{placeless}
use Rattle.yw_state.specs.Nets.{net_called}
use Rattle.yw_state.specs.declared.rule.Refusal.{Refusal}
use Rattle.yw_state.specs.declared.rule.Rule.TheVariants.{LineTooLong, NotJson}

-- the most bytes of a text that is looked into
unfoldable pub proof_limit : ℕ
proof_limit = 2097152

-- ---- of weights

-- the weight of the input where they are a certificate, or the first fault
abbrev pub Tries : Net → List ℕ → Result ℕ ProofFault → Type 0
Tries net w (Ok bound) = IsProved net w bound
Tries net w (Err fault) = IsFirst net w fault

abbrev pub task_at : Net → ℕ → List ℕ
task_at net k = option_map_or task_name (slice_get net.tasks k) []

-- A place or a task without a weight comes first, then a key that is neither, then what may rise.
abbrev pub finding_by : List ℕ → Net → Option (List ℕ) → Result ℕ ProofFault → ProofFinding
finding_by spec net unknown (Err (Weight k)) = Unproved rules.Weight (unwrap_or (slice_get (names_of net) k) [])
finding_by spec net (Some key) tried = Unproved rules.Weight key
finding_by spec net None (Err (Join k)) = Unproved rules.Rises (codes "join " ++ task_at net k)
finding_by spec net None (Err (Split k)) = Unproved rules.Rises (codes "split " ++ task_at net k)
finding_by spec net None (Err Ends) = Unproved rules.Rises (codes "ends")
finding_by spec net None (Ok bound) = Proved spec net.name bound

abbrev pub FindsWeights : List ℕ → Net → Data → ProofFinding → Type 0
FindsWeights spec net weights finding =
    (tried : Result ℕ ProofFault) × Tries net (weights_in weights (names_of net)) tried
    × (finding ≡ finding_by spec net (unknown_key (names_of net) weights) tried)

-- ---- of what is given

-- of the net of that name, if the specification has one
abbrev pub FindsNet : Spec → Data → Option Net → ProofFinding → Type 0
FindsNet spec weights None finding = finding ≡ Unproved rules.UnknownNet []
FindsNet spec weights (Some net) finding = FindsWeights spec.name net weights finding

-- of the specification, or of what is first wrong with its text
abbrev pub FindsSpec : Proof → Result Spec Refusal → ProofFinding → Type 0
FindsSpec proof (Ok spec) finding = FindsNet spec proof.weights (net_called spec proof.net) finding
FindsSpec proof (Err refusal) finding = finding ≡ Refused refusal

-- of what the value gives, if it is of the shape
abbrev pub FindsShape : Option Proof → ProofFinding → Type 0
FindsShape None finding = finding ≡ Unproved rules.NotProof []
FindsShape (Some proof) finding = (said : Result Spec Refusal) × ReadsSpec proof.toml said × FindsSpec proof said finding

-- of the value that is read, if one is
abbrev pub FindsValue : Option Data → ProofFinding → Type 0
FindsValue None finding = finding ≡ Refused (placeless NotJson)
FindsValue (Some d) finding = FindsShape (proof_in d) finding

-- ---- of a text

-- The text isn't longer than what is looked into.
pub record IsFoundWithin (limit : ℕ) (text : List ℕ) (finding : ProofFinding) : Type 0 where
  pub within : length text ≤ limit
  pub finds : FindsValue (value_said text) finding

-- The text is longer, and isn't looked into.
pub record IsPast (limit : ℕ) (text : List ℕ) (finding : ProofFinding) : Type 0 where
  pub past : limit < length text
  pub refused : finding ≡ Refused (placeless LineTooLong)

-- what is found of a text of which at most so many bytes are looked into
abbrev pub IsFoundBy : ℕ → List ℕ → ProofFinding → Type 0
IsFoundBy limit text finding = IsFoundWithin limit text finding ⊎ IsPast limit text finding

abbrev pub IsFound : List ℕ → ProofFinding → Type 0
IsFound = IsFoundBy proof_limit

-- whether it is a yes
abbrev pub accepts : ProofFinding → Bool
accepts (Proved spec net bound) = true
accepts (Refused refusal) = false
accepts (Unproved rule at) = false
