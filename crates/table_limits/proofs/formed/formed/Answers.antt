-- `formed` meets its contract: what passes both checks at once passes each.
use mathlib.Core.Path.{◌≡◌, sym}
use mathlib.Core.Bool.{Bool, true}
use Prim.Native.Nat.{ℕ}
use Rattle.std.specs.Prelude.{Result, Ok, Err}
use Rattle.std.specs.Result.{is_ok}
use Rattle.answers.specs.Answers.{verdict}
use Rattle.model.specs.Definitions.Basics.{Verdict, passes}
use Rattle.model.specs.Definitions.TableChecks.{table_form, table_limits}
use Rattle.model.proofs.Theorems.Tools.{true_false}
use Rattle.table_limits.proofs.BothMachine.{both_pass}
use Rattle.table_limits.proofs.formed.formed.Goals as goal

-- a result that is right is a pass
right : (r : Result (Unit {0}) ℕ) {b : Bool} {v : Verdict} → b ≡ is_ok r → b ≡ true → verdict r ≡ v → v ≡ passes
right (Ok done) e h said = sym said
right (Err at) e h said = true_false h e

pub returns : goal.returns
unfolding table_form table_limits
returns c h = both_pass _ 0 _ (right _ c.is_ok.ensures.value h c.run.ensures)
