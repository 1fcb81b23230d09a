-- `read_text` meets its contract: the characters are the bytes up to the 32.
use native.Mathlib.Omega.{arith}
use Rattle.model.proofs.Theorems.Tools.{some_none}
use Rattle.inverse.proofs.Elements.{held_none, text_within, text_copied, text_too_long}
use Rattle.inverse.proofs.read_text.Goals as goal

pub returns-in_err-from : goal.returns-in_err-from
returns-in_err-from c = rw c.from_residual.ensures (λ k a j e. some_none e (held_none (c.in_err-from.ensures k a)))

pub close_of-close-requires-clause-content : goal.close_of-close-requires-clause-content
close_of-close-requires-clause-content c =
    let here = c.requires.content in
    let found = c.in_ok-from.ensures here.0 here.1 in
    (found.content, found.there)

pub overflow_sub-close : goal.overflow_sub-close
overflow_sub-close c =
    let here = c.requires.content in
    (text_within (c.in_ok-from.ensures here.0 here.1) c.close_of-close.ensures).0

pub returns-then-out-at : goal.returns-then-out-at
returns-then-out-at c = λ k a. text_too_long (c.in_ok-from.ensures k a) c.close_of-close.ensures c.args.out.now c.args.task.at c.if-out-at.true

pub copy-requires : goal.copy-requires
copy-requires c =
    let here = c.requires.content in
    let within = text_within (c.in_ok-from.ensures here.0 here.1) c.close_of-close.ensures in
    (within.0, within.1, omega (arith, within.0, c.if-out-at.false, c.requires.room))

pub returns : goal.returns
returns c = λ k a. text_copied (c.in_ok-from.ensures k a) c.close_of-close.ensures c.if-out-at.false c.requires.room c.copy.ensures
