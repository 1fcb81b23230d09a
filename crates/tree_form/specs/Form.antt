-- For the form check of a tree document the verdict of what is left from an offset on, and what a loop that makes the check
-- keeps: the offset is within the document, and what is left gives the verdict of the whole.
use Rattle.std.specs.Prelude.{◌≡◌, List, ℕ, ◌≤◌, ◌<◌, ⊤, length, Option, Some, None}
use Rattle.model.specs.Definitions.Basics as basics
use Rattle.model.specs.Definitions.Basics.{Verdict}
use Rattle.model.specs.Definitions.Commands.{tree_commands, tree_width}
use Rattle.model.specs.Definitions.TreeChecks.{TreeState, no_root, inside, root_closed, tree_ended, closed, tree_step, tree_complete, tree_form}
use Rattle.checking.specs.Checks.{left_by}
use Rattle.tree_form.specs.declared.form.TreeState as code
use Rattle.tree_form.specs.declared.form.TreeState.TheVariants as codes

-- the states of the code as the model's
abbrev pub state : code.TreeState → TreeState
state codes.NoRoot = no_root
state (codes.Inside around) = inside around
state codes.RootClosed = root_closed
state codes.Ended = tree_ended

abbrev pub next : Option code.TreeState → basics.Next TreeState
next (Some s) = basics.goes (state s)
next None = basics.stops

-- the verdict of what is left, in a state
abbrev pub form_left : List ℕ → TreeState → ℕ → Verdict
form_left = left_by tree_commands tree_width tree_step tree_complete

-- around an element stand fewer elements than bytes
abbrev pub Shallow : TreeState → ℕ → Type 0
Shallow no_root at = ⊤
Shallow (inside around) at = around < at
Shallow root_closed at = ⊤
Shallow tree_ended at = ⊤

-- the form check at an offset where `depth` elements are open, the root among them; none where it is closed
pub record InForm (bs : List ℕ) (depth at : ℕ) : Type 0 where
  pub within : at ≤ length bs
  pub deep : depth ≤ at
  pub whole : form_left bs (closed depth) at ≡ tree_form bs

-- the form check at an offset behind 3F
pub record AfterEnd (bs : List ℕ) (at : ℕ) : Type 0 where
  pub within : at ≤ length bs
  pub whole : form_left bs tree_ended at ≡ tree_form bs
