use mathlib.Core.Path.{ap}
use native.Mathlib.Omega.{arith}
use Rattle.std.proofs.lemmas.Result.{err_from_is_err_and}
use Rattle.answers.specs.Answers.{verdict}
use Rattle.embedding_checks.proofs.Loops.{types_start, type-passes, type-fails, types-end}
use Rattle.embedding_checks.proofs.first_fault.Goals as goal

pub loop-s-init : goal.loop-s-init
loop-s-init c = types_start c.args.check _ _ _ _ c.types-types.ensures.0

pub type_fault-requires : goal.type_fault-requires
type_fault-requires c = record { checkable = c.requires; s_bound = omega (arith, c.types-types.ensures.0) }

pub loop-s-preserved : goal.loop-s-preserved
loop-s-preserved c = type-passes c.loop-s.invariant (omega arith) c.type_fault.ensures (ap verdict c.in_ok-type_fault.was)

pub returns-in_err-type_fault : goal.returns-in_err-type_fault
returns-in_err-type_fault c =
    let p = err_from_is_err_and c.from_residual.result c.from_residual.ensures.1 in
    rw (p.1, p.2) (type-fails c.loop-s.invariant (omega arith) c.type_fault.ensures (ap verdict c.in_err-type_fault.was))

pub returns : goal.returns
returns c = types-end c.loop-s.invariant (omega arith)
