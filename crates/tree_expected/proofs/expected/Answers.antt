-- `expected` meets its contract: the checks before say that an element comes first.
use Rattle.std.proofs.Common.{sym, ◌∙◌}
use Rattle.tree_form.proofs.Machines.{stands}
use Rattle.tree_expected.proofs.ExpectedTurns.{passed_nonempty, no_root_opened, root_opened, is_root, is_no_root}
use Rattle.tree_expected.proofs.expected.Goals as goal

pub command_at-requires : goal.command_at-requires
command_at-requires c = passed_nonempty c.requires

pub inside-requires : goal.inside-requires
inside-requires c = root_opened c.requires _ (stands _ _ (passed_nonempty c.requires) c.command_at.ensures) (is_root _ (sym c.eq.ensures ∙ c.if-eq.true))

pub returns-else-eq : goal.returns-else-eq
returns-else-eq c = no_root_opened c.requires _ (stands _ _ (passed_nonempty c.requires) c.command_at.ensures) (is_no_root _ (sym c.eq.ensures ∙ c.if-eq.false))
