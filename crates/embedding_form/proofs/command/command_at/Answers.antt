-- `command_at` meets its contract: each arm knows the byte, and `get` whether its operand is there.
use mathlib.Core.Path.{sym, ap, ◌∙◌}
use Rattle.model.specs.Definitions.Commands.{maps_to, step}
use Rattle.embedding_form.proofs.Bytes.{at_maps, at_maps_cut, at_path, at_step, at_step_cut, at_end, at_other, at_none}
use Rattle.embedding_form.proofs.command.command_at.Goals as goal

pub returns-in_err-get : goal.returns-in_err-get
returns-in_err-get c = rw c.from_residual.ensures (at_none _ _ c.in_err-get.ensures.lookup.3)

pub returns-in_ok-get-in-32 : goal.returns-in_ok-get-in-32
returns-in_ok-get-in-32 c =
    let h = c.in_ok-get-in-32.ensures.lookup in
    ap maps_to (h.3.1 0) ∙ at_maps _ _ (sym (c.in_ok-get.ensures.lookup.3.1 0) ∙ c.in-32.is) h.3.0

pub returns-in_err-get-in-32 : goal.returns-in_err-get-in-32
returns-in_err-get-in-32 c = rw c.from_residual-in_err-get-in-32.ensures (at_maps_cut _ _ (sym (c.in_ok-get.ensures.lookup.3.1 0) ∙ c.in-32.is) c.in_err-get-in-32.ensures.lookup.3)

pub returns-in-33 : goal.returns-in-33
returns-in-33 c = at_path _ _ (sym (c.in_ok-get.ensures.lookup.3.1 0) ∙ c.in-33.is)

pub returns-in_ok-get-in-34 : goal.returns-in_ok-get-in-34
returns-in_ok-get-in-34 c =
    let h = c.in_ok-get-in-34.ensures.lookup in
    ap step (h.3.1 0) ∙ at_step _ _ (sym (c.in_ok-get.ensures.lookup.3.1 0) ∙ c.in-34.is) h.3.0

pub returns-in_err-get-in-34 : goal.returns-in_err-get-in-34
returns-in_err-get-in-34 c = rw c.from_residual-in_err-get-in-34.ensures (at_step_cut _ _ (sym (c.in_ok-get.ensures.lookup.3.1 0) ∙ c.in-34.is) c.in_err-get-in-34.ensures.lookup.3)

pub returns-in-47 : goal.returns-in-47
returns-in-47 c = at_end _ _ (sym (c.in_ok-get.ensures.lookup.3.1 0) ∙ c.in-47.is)

pub returns-in_default : goal.returns-in_default
returns-in_default c =
    let h = rw (c.in_ok-get.ensures.lookup.3.1 0) at c.in_default.in_default-own.rest in
    at_other _ _ h.0.0.0.1 h.0.0.1 h.0.1 h.1
