-- `member_rows` meets its contract.
use Rattle.own_rows.specs.Progress.{Partly}
use Rattle.choice_rows.proofs.Members.{members_room}
use Rattle.choice_rows.proofs.member_rows.Given as goal

abbrev pub invariant-loop-j : goal.invariant-loop-j
invariant-loop-j l = Partly l.source l.target l.map l.em l.initial.pool l.initial.places l.s l.j (members_room l.source l.map l.s l.j) l.pool l.places l.end
