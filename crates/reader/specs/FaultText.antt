-- How a fault is written.
use Rattle.std.specs.Prelude.{ℕ, List, [], ◌++◌, codes, decimal}
use Rattle.grammar.specs.Refusals.{rule_number, layer_of}
use Rattle.grammar.specs.Sentences.{layer_text}
use Rattle.grammar.specs.declared.refusal.Layer.{Layer}
use Rattle.grammar.specs.declared.refusal.Refusal.{Refusal}
use Rattle.grammar.specs.declared.refusal.Refusal.TheVariants.{Length, LineForm, Range, Absent, Start, Target, BadArgument, Plan}
use Rattle.reader.specs.declared.fault.Fault.{Fault}

abbrev pub place_text : ℕ → Layer → List ℕ → List ℕ
place_text line layer rest = codes "line=" ++ (decimal line ++ (codes " layer=" ++ (layer_text layer ++ rest)))

-- the plan rule, where the refusal is of a plan
abbrev pub rule_text : Refusal → List ℕ
rule_text Length = []
rule_text LineForm = []
rule_text Range = []
rule_text Absent = []
rule_text Start = []
rule_text Target = []
rule_text BadArgument = []
rule_text (Plan p) = codes " rule=" ++ decimal (rule_number p)

abbrev pub fault_text : Fault → List ℕ
fault_text f = place_text f.line (layer_of f.refusal) (rule_text f.refusal)
