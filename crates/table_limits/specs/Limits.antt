-- The counts of check 3 as the model's.
use Rattle.std.specs.Prelude.{suc, ltb, true, ℕ, List, Option, Some, None}
use Rattle.table_limits.specs.declared.limits.Counts.{Counts}
use Rattle.table_form.specs.Left.{left_of}
use Rattle.model.specs.Definitions.Basics as basics
use Rattle.model.specs.Definitions.TableChecks as model

abbrev pub counts : Counts → model.TableCount
counts n = record { types = n.types; members = n.members }

abbrev pub next : Option Counts → basics.Next model.TableCount
next (Some n) = basics.goes (counts n)
next None = basics.stops

-- a member more, whichever it is
unfoldable pub one_member_more : model.TableCount → basics.Next model.TableCount
one_member_more n = basics.goes_if (ltb n.members model.max_members) (record { types = n.types; members = suc n.members })

-- the verdict of check 3 on what is left from an offset, at these counts
abbrev pub limits_left : List ℕ → Counts → ℕ → basics.Verdict
limits_left bs n = left_of model.limit_step (λ m. true) bs (counts n)
