-- `next_item` meets its contract, by the byte at the offset.
use native.Mathlib.Omega.{arith}
use Rattle.std.proofs.lemmas.Result.{err_from_is_err_and}
use Rattle.children.proofs.Items.{items_within, items_letter, items_done, items-inside, items-broken, items-close, items-one}
use Rattle.children.proofs.next_item.Goals as goal

pub bounds-tr-at : goal.bounds-tr-at
bounds-tr-at c = items_within c.requires.left.2

pub close_of-close-requires-clause-content : goal.close_of-close-requires-clause-content
close_of-close-requires-clause-content c = (items-inside c.requires.left.2 c.in-48.is).1

pub follow-requires-clause-content : goal.follow-requires-clause-content
follow-requires-clause-content c = (items-inside c.requires.left.2 c.in-48.is).1

pub returns-in_err-from-in-48 : goal.returns-in_err-from-in-48
returns-in_err-from-in-48 c =
    λ source map σ k parts left.
    let p = err_from_is_err_and c.from_residual.result c.from_residual.ensures.1 in
    rw p.1 (items-broken left c.in-48.is (rw c.in_err-from-in-48.ensures.ok_part at c.follow.ensures))

pub overflow_add-after : goal.overflow_add-after
overflow_add-after c = omega (arith, items-close c.requires.left.2 c.in-48.is c.close_of-close.result c.close_of-close.ensures)

pub returns-in_ok-from-in-48 : goal.returns-in_ok-from-in-48
returns-in_ok-from-in-48 c =
    λ source map σ k parts left.
    items-one left c.in-48.is c.close_of-close.result c.close_of-close.ensures (rw c.in_ok-from-in-48.ensures.ok_part at c.follow.ensures) map σ k

pub returns-in-49 : goal.returns-in-49
returns-in-49 c = λ source map σ k parts left. items_letter left c.in-49.is

pub returns-in_default : goal.returns-in_default
returns-in_default c = λ source map σ k parts left. items_done left (λ e. absurd (omega arith)) (λ e. absurd (omega arith))
