-- The answers of the code as the model's.
use Rattle.answers.specs.declared.Fault.{Fault}
use Rattle.answers.specs.declared.Fault.TheVariants.{TooLong, BadForm, OverLimit, BadOperand, RepeatedMember, NoFiniteInstance, RootMoved, WrongEnd, WrongSteps, PathClash, Unexpected}
use Rattle.answers.specs.declared.Document.{Document}
use Rattle.answers.specs.declared.Document.TheVariants.{SourceTable, TargetTable, Embedding, Tree, Output, Operations}
use Rattle.answers.specs.declared.Refusal.{Refusal}
use Rattle.answers.specs.declared.Refusal.TheVariants.{Faulty, NoImage, Unreadable, ImageTooDeep, ImageTooLong, OutputTooShort, NoChoice}
use Rattle.answers.specs.declared.Written.{Written}
use Rattle.answers.specs.declared.Reason.{Reason}
use Rattle.answers.specs.declared.Reason.TheVariants.{EqualPaths, EarlierBegins, LaterBegins, PartAtSequence}
use Rattle.answers.specs.declared.Clash.{Clash}
use Rattle.answers.specs.declared.Explanation.{Explanation}
use Rattle.answers.specs.declared.Explanation.TheVariants as explaining
use Rattle.std.specs.Prelude.{ℕ, Option, Some, None, Result, Ok, Err, ⊤}
use Rattle.std.proofs.Math.Option as model
use Rattle.model.specs.Definitions.Basics
use Rattle.model.specs.Definitions.Refusals
use Rattle.model.specs.Definitions.EmbeddingChecks
use Rattle.model.specs.Definitions.Entries
use Rattle.model.specs.Definitions.Explanation as explanations

-- what a check finds
abbrev pub verdict : Result ⊤ ℕ → Basics.Verdict
verdict (Ok done) = Basics.passes
verdict (Err at) = Basics.fails at

abbrev pub fault : Fault → Refusals.Fault
fault TooLong = Refusals.too_long
fault (BadForm at) = Refusals.bad_form at
fault (OverLimit at) = Refusals.over_limit at
fault (BadOperand at) = Refusals.bad_operand at
fault (RepeatedMember at) = Refusals.repeated_member at
fault (NoFiniteInstance t) = Refusals.no_finite_instance t
fault RootMoved = Refusals.root_moved
fault (WrongEnd at) = Refusals.wrong_end at
fault (WrongSteps at) = Refusals.wrong_steps at
fault (PathClash at) = Refusals.path_clash at
fault (Unexpected at) = Refusals.unexpected at

-- what a judge of one document finds
abbrev pub judged : Result ⊤ Fault → Refusals.Judged
judged (Ok done) = Refusals.sound
judged (Err f) = Refusals.has (fault f)

abbrev pub document : Document → Refusals.Document
document SourceTable = Refusals.source_table
document TargetTable = Refusals.target_table
document Embedding = Refusals.embedding
document Tree = Refusals.tree
document Output = Refusals.output
document Operations = Refusals.operations

abbrev pub refusal : Refusal → Refusals.Refusal
refusal (Faulty d f) = Refusals.faulty (document d) (fault f)
refusal NoImage = Refusals.no_image
refusal (Unreadable at) = Refusals.unreadable at
refusal ImageTooDeep = Refusals.image_too_deep
refusal ImageTooLong = Refusals.image_too_long
refusal OutputTooShort = Refusals.output_too_short
refusal NoChoice = Refusals.no_choice

-- The model's answer for each outcome of what answers one number: judging, bringing back, an operation on a loaded table (02, N8).
abbrev pub counted_result : Result ℕ Refusal → Entries.Result
counted_result (Ok n) = Entries.accepted n 0
counted_result (Err r) = Entries.refused (refusal r)

-- The same of what answers two numbers: carrying, and reading along the paths (02, N4).
abbrev pub written_result : Result Written Refusal → Entries.Result
written_result (Ok w) = Entries.accepted w.length w.filler
written_result (Err r) = Entries.refused (refusal r)

-- ---- clashes explained (02, N9)

abbrev pub reason : Reason → EmbeddingChecks.Reason
reason EqualPaths = EmbeddingChecks.equal_paths
reason EarlierBegins = EmbeddingChecks.earlier_begins
reason LaterBegins = EmbeddingChecks.later_begins
reason PartAtSequence = EmbeddingChecks.part_at_sequence

abbrev pub clash : Clash → explanations.Clash
clash c = record { source_type = c.source; earlier = c.earlier; later = c.later; shared = c.shared; reason = reason c.reason; mark = c.mark }

-- what a search for a clash finds
abbrev pub search : Option Clash → model.Option explanations.Clash
search None = model.none
search (Some c) = model.some (clash c)

-- the model's explanation
abbrev pub explanation : Explanation → explanations.Explanation
explanation (explaining.Explained c) = explanations.explained (clash c)
explanation (explaining.Unexplained answer) = explanations.unexplained (counted_result answer)
