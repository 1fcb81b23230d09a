-- `write_report` meets its contract: the number of types, what is kept and the answers are written one behind the other.
use native.Mathlib.Omega.{arith}
use lib.ListN.{length-set}
use borrow.Author.Rules.{rules}
use Rattle.writing.specs.Laws.{writes-length}
use Rattle.extending.proofs.Reporting.{no_room, room-behind, report-made}
use Rattle.extending.proofs.write_report.Goals as goal

pub returns-then-out-needed : goal.returns-then-out-needed
returns-then-out-needed c = no_room c.args.table.numbers _ _ _ _ c.types-all.ensures.0 c.requires.1 c.if-out-needed.true

pub put_kept-behind-requires : goal.put_kept-behind-requires
put_kept-behind-requires c = (c.requires.0, omega (arith, c.if-out-needed.false, c.types-all.ensures.0, length-set c.args.out.now 0 c.types-all.result))

pub copy-requires : goal.copy-requires
copy-requires c = (
  omega arith,
  c.requires.1,
  room-behind c.args.table.numbers c.args.out.now c.args.answers.now _ _ c.types-all.ensures.0 c.requires.1 _ _ c.put_kept-behind.ensures c.if-out-needed.false,
)

pub shape_of-out : goal.shape_of-out
shape_of-out c = search (rules, writes-length c.copy.ensures, writes-length c.put_kept-behind.ensures)

pub returns : goal.returns
returns c =
    report-made c.args.table.numbers _ _ _ _ c.types-all.ensures.0 c.requires.1 _ _ c.put_kept-behind.ensures _ _ c.copy.ensures c.if-out-needed.false
