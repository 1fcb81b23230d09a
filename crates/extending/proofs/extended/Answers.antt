-- `extended` meets its contract: the table's fault, the length of the operations, or what carrying them out gives.
use Rattle.extending.proofs.Running.{table_refused, operations-refused, run-answered, loaded-stands}
use Rattle.extending.proofs.extended.Goals as goal

pub returns-in-Err : goal.returns-in-Err
returns-in-Err c = table_refused c.load.ensures _ _ _ c.in-Err.is

pub returns-then-ops-gt-MAX_BYTES : goal.returns-then-ops-gt-MAX_BYTES
returns-then-ops-gt-MAX_BYTES c = operations-refused c.load.ensures c.in-Ok.is _ _ c.if-ops-gt-MAX_BYTES.true

pub run-requires : goal.run-requires
run-requires c = (loaded-stands c.load.ensures c.in-Ok.is, c.if-ops-gt-MAX_BYTES.false)

pub returns : goal.returns
returns c = run-answered c.load.ensures c.in-Ok.is _ _ _ _ c.if-ops-gt-MAX_BYTES.false c.run.ensures
