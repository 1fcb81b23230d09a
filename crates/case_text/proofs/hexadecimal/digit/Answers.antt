-- `digit` meets its contract: below ten a figure, else a letter.
use mathlib.Core.Path.{sym}
use borrow.Author.Tests.{lt-ltb, le-ltb}
use Rattle.model.proofs.Theorems.Tools.{pick_true, pick_false}
use Rattle.case_text.specs.Hexadecimal.{hex_digit}
use Rattle.case_text.proofs.hexadecimal.digit.Goals as goal

pub returns-then-n-lt10 : goal.returns-then-n-lt10
unfolding hex_digit
returns-then-n-lt10 c = sym (pick_true _ _ _ (lt-ltb _ _ c.if-n-lt10.true))

pub returns : goal.returns
unfolding hex_digit
returns c = sym (pick_false _ _ _ (le-ltb _ _ c.if-n-lt10.false))
