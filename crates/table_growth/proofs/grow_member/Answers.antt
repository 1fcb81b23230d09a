-- `grow_member` meets its contract: the checks in their order.
use mathlib.Core.Path.{◌≡◌, sym, ◌∙◌}
use mathlib.Core.Bool.{true, false}
use Prim.Native.Nat.{◌<◌}
use native.Mathlib.Omega.{arith}
use lib.ListN.{get_or}
use lib.Dec.{eqb}
use Rattle.loaded_table.specs.Loaded.{types_in, counts_of, table_by}
use Rattle.model.specs.Definitions.Table.{is_choice, kind_of}
use Rattle.table_growth.proofs.Appending.{nothing_to_extend, too_many, unknown, repeated, may-join, joined}
use Rattle.table_growth.proofs.grow_member.Goals as goal
use Rattle.table_growth.proofs.grow_member.Goals.{Else-missing, Else-full, Else-all-m}

-- the type is there, and is a choice
there : (c : Else-missing) → c.args.t < types_in c.args.table.now
there c = c.extends-missing.ensures.1 c.if-missing.false

chooses : (c : Else-missing) → is_choice (kind_of (table_by c.args.table.now) c.args.t) ≡ true
chooses c = sym c.extends-missing.ensures.0 ∙ c.if-missing.false

-- and has room
room : (c : Else-full) → eqb (get_or (counts_of c.args.table.now) c.args.t 0) 16 ≡ false
room c = sym c.is_full-full.ensures ∙ c.if-full.false

-- the member is a type
known : (c : Else-all-m) → c.args.m < types_in c.args.table.now
known c = omega (arith, c.if-all-m.false, c.types-all.ensures.0)

pub returns-then-missing : goal.returns-then-missing
returns-then-missing c =
    nothing_to_extend _ _ _ _ c.requires (sym c.extends-missing.ensures.0 ∙ c.if-missing.true)

pub returns-then-full : goal.returns-then-full
returns-then-full c =
    let is : c.extends-missing.result ≡ true = cc in
    rw c.faulty.ensures (too_many _ _ _ _ c.requires (c.extends-missing.ensures.1 is) (sym c.extends-missing.ensures.0 ∙ is) (sym c.is_full-full.ensures ∙ c.if-full.true))

pub returns-then-all-m : goal.returns-then-all-m
returns-then-all-m c =
    rw c.faulty-then-all-m.ensures (unknown _ _ _ _ c.requires (there (goal.at.returns-then-all-m c).Else-missing) (chooses (goal.at.returns-then-all-m c).Else-missing) (room (goal.at.returns-then-all-m c).Else-full) (omega (arith, c.if-all-m.true, c.types-all.ensures.0)))

pub names-requires : goal.names-requires
names-requires c = (c.requires.stands.bounded, there (goal.at.names-requires c).Else-missing)

pub returns-then-names : goal.returns-then-names
returns-then-names c =
    rw c.faulty-then-names.ensures (repeated _ _ _ _ c.requires (there (goal.at.returns-then-names c).Else-missing) (chooses (goal.at.returns-then-names c).Else-missing) (room (goal.at.returns-then-names c).Else-full) (known (goal.at.returns-then-names c).Else-all-m) (sym c.names.ensures ∙ c.if-names.true))

pub add_member-requires : goal.add_member-requires
add_member-requires c =
    may-join _ c.args.table.now _ _ c.requires (there (goal.at.add_member-requires c).Else-missing) (chooses (goal.at.add_member-requires c).Else-missing) (room (goal.at.add_member-requires c).Else-full) (known (goal.at.add_member-requires c).Else-all-m) (sym c.names.ensures ∙ c.if-names.false)

pub returns : goal.returns
returns c =
    joined _ _ _ _ c.requires (there (goal.at.returns c).Else-missing) (chooses (goal.at.returns c).Else-missing) (room (goal.at.returns c).Else-full) (known (goal.at.returns c).Else-all-m) (sym c.names.ensures ∙ c.if-names.false) c.types-all.ensures.0 c.add_member.ensures
