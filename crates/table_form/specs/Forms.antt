-- The states of check 2 as the model's.
use Rattle.std.specs.Prelude.{ℕ, List, Option, Some, None}
use Rattle.table_form.specs.declared.form.State.{State}
use Rattle.table_form.specs.declared.form.State.TheVariants.{NoType, Whole, NeedsTwo, NeedsOne, Enough, Ended}
use Rattle.table_form.specs.Left.{left_of}
use Rattle.model.specs.Definitions.Basics as basics
use Rattle.model.specs.Definitions.TableChecks as model

abbrev pub state : State → model.TableState
state NoType = model.no_type
state Whole = model.whole
state NeedsTwo = model.members 2
state NeedsOne = model.members 1
state Enough = model.members 0
state Ended = model.table_ended

abbrev pub next : Option State → basics.Next model.TableState
next (Some s) = basics.goes (state s)
next None = basics.stops

-- the verdict of check 2 on what is left from an offset, in a state
abbrev pub form_left : List ℕ → State → ℕ → basics.Verdict
form_left bs s = left_of model.table_step model.table_complete bs (state s)
