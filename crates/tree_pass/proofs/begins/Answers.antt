-- `begins` meets its contract.
use Rattle.std.proofs.Common.{refl}
use borrow.Author.Tests.{eqb-true}
use Rattle.model.proofs.Theorems.Tools.{true_false}
use Rattle.tree_pass.proofs.Turns.{begun}
use Rattle.tree_pass.proofs.begins.Goals as goal

pub returns-then-t-lt2 : goal.returns-then-t-lt2
returns-then-t-lt2 c e = true_false e refl

pub returns-then-t-gt-MAX_BYTES : goal.returns-then-t-gt-MAX_BYTES
returns-then-t-gt-MAX_BYTES c e = true_false e refl

pub returns-then-t-eq-OPENS : goal.returns-then-t-eq-OPENS
returns-then-t-eq-OPENS c e = begun c.if-t-lt2.false c.if-t-gt-MAX_BYTES.false c.if-t-eq-OPENS.true (eqb-true _ _ e)
