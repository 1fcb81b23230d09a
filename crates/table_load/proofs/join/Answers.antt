-- `join` meets its contract: the place of the new member lies in the type's row.
use mathlib.Core.Path.{ap, ◌∙◌}
use mathlib.Core.List.{List}
use Prim.Native.Nat.{ℕ, ◌+◌, ◌*◌}
use lib.ListN.{set}
use Rattle.table_load.proofs.join.Goals as goal

pub returns : goal.returns
returns c =
    let a = c.args in
    let n = c.count-i in
    c.set_count.ensures
    ∙ ap (λ (l : List ℕ). set l (64 + a.t) (n.result + 1)) c.set_member.ensures
    ∙ ap (λ (k : ℕ). set (set a.table.now (256 + (a.t * 16 + k)) a.member) (64 + a.t) (k + 1)) n.ensures.0
