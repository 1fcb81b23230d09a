-- `check_type` meets its contract: the checks in their order.
use mathlib.Core.Path.{◌≡◌, sym, ◌∙◌}
use mathlib.Core.Bool.{true}
use Prim.Native.Nat.{◌+◌, ◌<◌, ◌≤◌, ◌/◌}
use native.Mathlib.Omega.{arith}
use lib.ListN.{length}
use Rattle.model.specs.Definitions.Basics.{passes}
use Rattle.model.specs.Definitions.TableChecks.{table_operands}
use Rattle.type_commands.specs.Types.{is_one_type}
use Rattle.table_growth.proofs.Appending.{fails_as, passes_as, not_one, many-types, many-members, unknown-type, repeated-type}
use Rattle.table_growth.proofs.check_type.Goals as goal
use Rattle.table_growth.proofs.check_type.Goals.{Else-not-one_type, Else-cs-gt-MAX_MEMBERS, Else-is_err}

-- the bytes are exactly one type
one : (c : Else-not-one_type) → is_one_type c.args.cs.now ≡ true
one c = sym c.one_type.ensures ∙ c.if-not-one_type.false

-- there is room for the type, and it has no more members than it may
few : (c : Else-cs-gt-MAX_MEMBERS) → c.args.all < 64
few c = omega (arith, c.if-all-eq-MAX_TYPES.false, c.requires)

short : (c : Else-cs-gt-MAX_MEMBERS) → length c.args.cs.now / 2 ≤ 16
short c = omega (arith, c.if-cs-gt-MAX_MEMBERS.false)

-- check 4 has passed
known : (c : Else-is_err) → table_operands (c.args.all + 1) c.args.cs.now ≡ passes
known c = passes_as _ c.operands.ensures c.is_err.ensures.value c.if-is_err.false

pub returns-then-not-one_type : goal.returns-then-not-one_type
returns-then-not-one_type c = rw c.faulty.ensures (not_one _ _ (sym c.one_type.ensures ∙ c.if-not-one_type.true))

pub returns-then-all-eq-MAX_TYPES : goal.returns-then-all-eq-MAX_TYPES
returns-then-all-eq-MAX_TYPES c T valid long =
    rw c.faulty-then-all-eq-MAX_TYPES.ensures (many-types _ (one (goal.at.returns-then-all-eq-MAX_TYPES c).Else-not-one_type) T valid (omega (arith, c.if-all-eq-MAX_TYPES.true)))

pub returns-then-cs-gt-MAX_MEMBERS : goal.returns-then-cs-gt-MAX_MEMBERS
returns-then-cs-gt-MAX_MEMBERS c T valid long =
    rw c.faulty-then-cs-gt-MAX_MEMBERS.ensures (many-members _ (one (goal.at.returns-then-cs-gt-MAX_MEMBERS c).Else-not-one_type) T valid (omega (arith, c.if-cs-gt-MAX_MEMBERS.true)))

pub returns-then-is_err : goal.returns-then-is_err
returns-then-is_err c T valid long =
    let (at, failed) = fails_as _ c.operands.ensures c.is_err.ensures.value c.if-is_err.true in
    rw c.faulty-then-is_err.ensures
    (unknown-type _ (one (goal.at.returns-then-is_err c).Else-not-one_type) T valid (omega (arith, few (goal.at.returns-then-is_err c).Else-cs-gt-MAX_MEMBERS)) (short (goal.at.returns-then-is_err c).Else-cs-gt-MAX_MEMBERS) long failed)

pub returns-then-is_err-2 : goal.returns-then-is_err-2
returns-then-is_err-2 c T valid long =
    let (at, failed) = fails_as _ c.repeats.ensures c.is_err-2.ensures.value c.if-is_err-2.true in
    rw c.faulty-then-is_err-2.ensures
    (repeated-type _ (one (goal.at.returns-then-is_err-2 c).Else-not-one_type) T valid (omega (arith, few (goal.at.returns-then-is_err-2 c).Else-cs-gt-MAX_MEMBERS)) (short (goal.at.returns-then-is_err-2 c).Else-cs-gt-MAX_MEMBERS) long (known (goal.at.returns-then-is_err-2 c).Else-is_err) failed)

pub returns : goal.returns
returns c =
    record {
      one = one (goal.at.returns c).Else-not-one_type;
      few = few (goal.at.returns c).Else-cs-gt-MAX_MEMBERS;
      short = short (goal.at.returns c).Else-cs-gt-MAX_MEMBERS;
      known = known (goal.at.returns c).Else-is_err;
      distinct = passes_as _ c.repeats.ensures c.is_err-2.ensures.value c.if-is_err-2.false;
    }
