-- `step` meets its contract: a turn of the form's machine.
use Rattle.std.proofs.Common.{sym}
use Rattle.model.specs.Definitions.Basics.{goes, stops}
use Rattle.tree_form.specs.Form.{state}
use Rattle.tree_form.proofs.FormTurns.{form_alien, shallow_goes}
use Rattle.tree_form.proofs.Machines.{moved, some_width}
use Rattle.model.specs.Definitions.TreeChecks.{tree_step, tree_complete}
use Rattle.tree_form.proofs.form.TreeStateCheck.step.Goals as goal

pub returns-in_err-c : goal.returns-in_err-c
returns-in_err-c c = rw c.from_residual.ensures (moved tree_step tree_complete form_alien _ _ (state _) stops c.requires.inside c.in_err-c.ensures (form_alien _))

pub returns-in_err-self : goal.returns-in_err-self
returns-in_err-self c =
    rw c.from_residual-in_err-self.ensures (moved tree_step tree_complete form_alien _ _ (state _) stops c.requires.inside c.in_ok-c.ensures (sym c.in_err-self.ensures))

pub returns : goal.returns
returns c =
    let step = sym c.in_ok-self.ensures in
    let went = moved tree_step tree_complete form_alien _ _ (state _) (goes (state _)) c.requires.inside c.in_ok-c.ensures step in
    rw c.width.ensures (some_width _, went.0, shallow_goes _ _ _ _ c.requires.fit step, went.1)
