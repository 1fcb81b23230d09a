-- One comparison answers, by whether the source type is text.
use mathlib.Core.Path.{sym, ◌∙◌}
use native.Mathlib.Omega.{arith}
use Prim.Native.Nat.{◌+◌, ◌*◌}
use lib.ListN.{get_or}
use Rattle.loaded_table.specs.Loaded.{members_in}
use Rattle.embedding_clash.proofs.Arrays.{TypeAt, type_at}
use Rattle.embedding_ends.proofs.EndLaws.{Found, found, text_right, Member, member_right}
use Rattle.embedding_ends.proofs.ends.right_end.Goals.{Start, Else-kind-eq-TEXT}
use Rattle.embedding_ends.proofs.ends.right_end.Goals as goal

-- what is known of the source type, and of the end
type_here : (c : Start) → TypeAt c.args.source.now c.args.target.now c.args.em.now c.args.map.now c.args.s
type_here c = type_at c.requires.checkable _ c.requires.s_bound

the_end : (c : Start) → Found c.requires.checkable _ _ c.requires.s_bound c.requires.i_bound c.args.end
the_end c = found c.requires.checkable _ _ c.requires.s_bound c.requires.i_bound c.requires.end_value

-- and of the member or item
by-member-here : (c : Else-kind-eq-TEXT) → Member c.requires.checkable _ _ c.requires.s_bound c.requires.i_bound c.args.end (get_or (members_in c.args.source.now) (c.args.s * 16 + c.args.i) 0)
by-member-here c = member_right c.requires.checkable _ _ c.requires.s_bound c.requires.i_bound (found c.requires.checkable _ _ c.requires.s_bound c.requires.i_bound c.requires.end_value) (λ e. c.if-kind-eq-TEXT.false (c.kind.ensures.0 ∙ e))

pub kind-requires : goal.kind-requires
kind-requires c = (type_here (goal.at.kind-requires c).Start).few

pub kind-requires-then-kind-eq-TEXT : goal.kind-requires-then-kind-eq-TEXT
kind-requires-then-kind-eq-TEXT c = omega (arith, (the_end (goal.at.kind-requires-then-kind-eq-TEXT c).Start).inside, c.requires.checkable.target_bounded.few_types)

pub member-requires : goal.member-requires
member-requires c = ((type_here (goal.at.member-requires c).Start).few, omega (arith, c.requires.i_bound, (type_here (goal.at.member-requires c).Start).at_most))

pub target-requires : goal.target-requires
target-requires c = rw c.member.ensures.0 (by-member-here (goal.at.target-requires c).Else-kind-eq-TEXT).inside

pub returns-then-kind-eq-TEXT : goal.returns-then-kind-eq-TEXT
returns-then-kind-eq-TEXT c =
    rw c.kind-then-kind-eq-TEXT.ensures.0 (text_right c.requires.checkable _ _ c.requires.s_bound c.requires.i_bound (the_end (goal.at.returns-then-kind-eq-TEXT c).Start) (sym c.kind.ensures.0 ∙ c.if-kind-eq-TEXT.true))

pub returns-else-kind-eq-TEXT : goal.returns-else-kind-eq-TEXT
returns-else-kind-eq-TEXT c = rw (c.target.ensures.0, c.member.ensures.0) (by-member-here (goal.at.returns-else-kind-eq-TEXT c).Else-kind-eq-TEXT).right
