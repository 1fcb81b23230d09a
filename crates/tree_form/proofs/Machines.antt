-- A check of a tree document by one of the model's machines.
use Rattle.std.specs.Prelude.{◌≡◌, Bool, List, ℕ, ◌≤◌, ◌<◌, length}
use Rattle.std.proofs.Common.{arith}
use Rattle.model.specs.Definitions.Basics.{Next, stops}
use Rattle.model.specs.Definitions.Commands.{TreeCommand, alien_t, tree_command, tree_commands, tree_width}
use Rattle.model.proofs.Theorems.Reading.{raw_at, tree_reads, no_tree-commands}
use Rattle.checking.specs.Checks.{left_by, Ending}
use Rattle.checking.proofs.Machines as any
use Rattle.tree_form.specs.Commands.{command, ReadsCommand}
use Rattle.tree_form.specs.declared.command.TreeCommand as code
use Rattle.tree_form.specs.declared.command.TreeCommand.TheVariants.{Opens, Character, Closes, End}

-- a command that was read stands where it was read
pub stands : (bs : List ℕ) (at : ℕ) {c : TreeCommand} → at < length bs → c ≡ tree_command (raw_at bs at) → ReadsCommand bs at c
stands bs at h e = rw e (tree_reads bs at h)

module _ {S : Type 0} (step : S → TreeCommand → Next S) (complete : S → Bool) (stops_there : (s : S) → step s alien_t ≡ stops) where
  -- what the machine makes of the command at an offset
  pub moved : (bs : List ℕ) (at : ℕ) {c : TreeCommand} (s : S) (m : Next S) → at < length bs → c ≡ tree_command (raw_at bs at) → step s c ≡ m
      → any.Moved tree_commands tree_width alien_t step complete stops_there bs at s c m
  moved bs at s m h e = any.moved tree_commands tree_width alien_t step complete stops_there s m (stands bs at h e)

  -- what it says at the end
  pub ending : (s : S) {may : Bool} → complete s ≡ may → Ending (left_by tree_commands tree_width step complete) s may
  ending s = any.ending tree_commands tree_width alien_t step complete stops_there no_tree-commands s

-- every command has a byte
pub some_width : (c : code.TreeCommand) → 1 ≤ tree_width (command c)
unfolding tree_width
some_width (Opens t) = omega arith
some_width (Character b) = omega arith
some_width Closes = omega arith
some_width End = omega arith
