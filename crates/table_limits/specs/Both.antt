-- Checks 2 and 3 as one machine.
use Rattle.std.specs.Prelude.{ℕ, List, Bool}
use Rattle.table_limits.specs.declared.formed.Both.{Both}
use Rattle.table_form.specs.Forms.{state}
use Rattle.table_form.specs.Left.{left_of}
use Rattle.table_limits.specs.Limits.{counts}
use Rattle.model.specs.Definitions.Basics.{Next, goes, stops, Verdict}
use Rattle.model.specs.Definitions.Commands.{TableCommand}
use Rattle.model.specs.Definitions.TableChecks.{TableState, TableCount, table_step, limit_step, table_complete}

-- on where both go on
abbrev pub with : {A B : Type 0} → Next A → Next B → Next (A × B)
with stops moved = stops
with (goes a) stops = stops
with (goes a) (goes b) = goes (a, b)

abbrev pub both_step : TableState × TableCount → TableCommand → Next (TableState × TableCount)
both_step s c = with (table_step s.0 c) (limit_step s.1 c)

abbrev pub both_complete : TableState × TableCount → Bool
both_complete s = table_complete s.0

-- the verdict of both checks on what is left from an offset
abbrev pub both_left : List ℕ → Both → ℕ → Verdict
both_left bs b = left_of both_step both_complete bs (state b.form, counts b.counts)
