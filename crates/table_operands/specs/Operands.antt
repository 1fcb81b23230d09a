-- Check 4 on what is left of a document.
use Rattle.std.specs.Prelude.{ℕ, List, true}
use Rattle.table_operands.specs.declared.operands.Named.{Named}
use Rattle.table_form.specs.Left.{left_of}
use Rattle.model.specs.Definitions.Basics.{Verdict}
use Rattle.model.specs.Definitions.TableChecks.{names_type}

-- the verdict from an offset, in a table of so many types
abbrev pub operands_left : List ℕ → Named → ℕ → Verdict
operands_left bs n = left_of (names_type n.types) (λ u. true) bs tt
