-- `lowest` meets its contract: the least member has the lowest height.
use mathlib.Core.Path.{ap, ◌∙◌}
use Prim.Native.Nat.{◌<◌}
use native.Mathlib.Omega.{arith}
use lib.ListN.{length}
use Rattle.loaded_table.specs.Loaded.{heights_of}
use Rattle.model.specs.Definitions.Heights.{height_in}
use Rattle.model.proofs.Theorems.HeightLaws.{least_height}
use Rattle.table_heights.specs.Sections.{members_at, members_long}
use Rattle.table_heights.proofs.Members.{lowest_none}
use Rattle.table_heights.proofs.lowest.Goals as goal

pub count-requires : goal.count-requires
count-requires c = omega (arith, c.requires.1, c.requires.0.few_types)

pub returns-then-count-eq0 : goal.returns-then-count-eq0
returns-then-count-eq0 c =
    (lowest_none (heights_of c.args.table.now) (members_at c.args.table.now c.args.t) (members_long _ _ c.requires c.count.ensures.0 ∙ c.if-count-eq0.true), omega arith)

pub least_member-requires : goal.least_member-requires
least_member-requires c = c.requires

pub height_at-requires : goal.height_at-requires
height_at-requires c = tt

pub returns : goal.returns
returns c =
    let a = c.args in
    let hs = heights_of a.table.now in
    let some : 0 < length (members_at a.table.now a.t) = omega (arith, members_long _ _ c.requires c.count.ensures.0, c.if-count-eq0.false) in
    (c.height_at.ensures.0 ∙ ap (height_in hs) c.least_member.ensures ∙ least_height hs (members_at a.table.now a.t) some, c.height_at.ensures.1)
