-- `operation_at` meets its contract: the first byte and the number of those behind it tell which operation stands there.
use mathlib.Core.Logic.{⊎_elim}
use borrow.Author.Tests.{lt-ltb, le-ltb}
use Rattle.extending.proofs.Reading.{type_read, long_type_read, member_read, none_read}
use Rattle.extending.proofs.operation_at.Goals as goal

pub returns-then-n-left : goal.returns-then-n-left
returns-then-n-left c = type_read _ _ _ c.if-b-eq-APPEND_TYPE.true (lt-ltb _ _ c.if-left-gt1.true) c.from-n.ensures c.if-n-left.true

pub returns-then-left-gt1 : goal.returns-then-left-gt1
returns-then-left-gt1 c =
    let args = c.args in
    long_type_read args.ops.now args.at _ c.if-b-eq-APPEND_TYPE.true (lt-ltb _ _ c.if-left-gt1.true) c.from-n.ensures c.if-n-left.false

pub returns-then-left-gt2 : goal.returns-then-left-gt2
returns-then-left-gt2 c =
    member_read _ _ _ _ c.if-b-eq-APPEND_MEMBER.true (lt-ltb _ _ c.if-left-gt2.true) c.from-t.ensures c.from-m.ensures

pub returns : goal.returns
returns c =
    none_read _ _ c.requires
    (λ e. ⊎_elim (λ w. le-ltb _ _ w.1) (λ w. absurd (w e)) c.else-b-eq-APPEND_TYPE.either)
    (λ e. ⊎_elim (λ w. le-ltb _ _ w.1) (λ w. absurd (w e)) c.else-b-eq-APPEND_MEMBER.either)
