-- `next_member` meets its contract, by the path of edge i.
use mathlib.Core.Path.{◌∙◌}
use Rattle.std.proofs.lemmas.Result.{err_from_is_err_and}
use Rattle.children.proofs.Edges.{edges-done, edges-follow, edges-broken, edges-one}
use Rattle.children.proofs.next_member.Goals as goal

pub returns-then-i-count : goal.returns-then-i-count
returns-then-i-count c k parts a left = let i = c.requires.image in edges-done i.ready i.known_type left (c.if-i-count.true ∙ c.count.ensures.0)

pub along-requires-clause-path : goal.along-requires-clause-path
along-requires-clause-path c =
    let i = c.requires.image in
    edges-follow i.ready i.known_type c.requires.left.3 (rw c.count.ensures.0 at c.if-i-count.false)

pub returns-in_err-from : goal.returns-in_err-from
returns-in_err-from c k parts a left =
    let i = c.requires.image in
    let other = rw c.count.ensures.0 at c.if-i-count.false in
    let p = err_from_is_err_and c.from_residual.result c.from_residual.ensures.1 in
    rw p.1 (edges-broken i.ready i.known_type left other (rw c.in_err-from.ensures.ok_part at (c.along.ensures k a)))

pub returns : goal.returns
returns c k parts a left =
    let i = c.requires.image in
    let other = rw c.count.ensures.0 at c.if-i-count.false in
    rw c.member-sigma.ensures.0 (edges-one i.ready i.known_type left other (rw c.in_ok-from.ensures.ok_part at (c.along.ensures k a)))
