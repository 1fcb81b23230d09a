-- 01 "Refusal answers": the checks of a table, 2 to 6 (1 is the same for all documents and stands in `Refusals`).
use Rattle.std.specs.Prelude.{Bool, true, false, not, List, [], ◌∷◌, ℕ, zero, suc, ltb}
use Rattle.model.specs.Definitions.Basics.{Verdict, Next, goes, stops, goes_if, run, member_of}
use Rattle.model.specs.Definitions.Commands.{needed, optional, TableCommand, text_type, empty_type, sequence_type, choice_type, list_type, member, table_end, alien, table_commands, table_width}

-- ---- 2, form

-- before the first type; after a whole type that takes no member; among members, with so many still needed; after 1F
pub data TableState : Type 0 where
  no_type : TableState
  whole : TableState
  members : ℕ → TableState
  table_ended : TableState

-- what a command does to the form: begins a type, adds a member, ends the table, nothing that it may
pub data TableRole : Type 0 where
  begins : TableState → TableRole
  joins : TableRole
  finishes : TableRole
  unknown : TableRole

-- a sequence needs one member, a choice two, an optional choice one (02, N3)
unfoldable pub table_role : TableCommand → TableRole
table_role text_type = begins whole
table_role empty_type = begins whole
table_role sequence_type = begins (members 1)
table_role (choice_type needed) = begins (members 2)
table_role (choice_type optional) = begins (members 1)
table_role (list_type t) = begins whole
table_role (member t) = joins
table_role table_end = finishes
table_role alien = unknown

unfoldable pub table_move : TableState → TableRole → Next TableState
table_move no_type (begins s) = goes s
table_move no_type joins = stops
table_move no_type finishes = stops
table_move no_type unknown = stops
table_move whole (begins s) = goes s
table_move whole joins = stops
table_move whole finishes = goes table_ended
table_move whole unknown = stops
table_move (members zero) (begins s) = goes s
table_move (members zero) joins = goes (members zero)
table_move (members zero) finishes = goes table_ended
table_move (members zero) unknown = stops
table_move (members (suc k)) (begins s) = stops
table_move (members (suc k)) joins = goes (members k)
table_move (members (suc k)) finishes = stops
table_move (members (suc k)) unknown = stops
table_move table_ended (begins s) = stops
table_move table_ended joins = stops
table_move table_ended finishes = stops
table_move table_ended unknown = stops

unfoldable pub table_step : TableState → TableCommand → Next TableState
table_step s c = table_move s (table_role c)

unfoldable pub table_complete : TableState → Bool
table_complete no_type = false
table_complete whole = false
table_complete (members k) = false
table_complete table_ended = true

unfoldable pub table_form : List ℕ → Verdict
table_form bs = run table_width table_step table_complete no_type 0 (table_commands bs)

-- ---- 3, limits

abbrev pub max_types : ℕ
max_types = 64

abbrev pub max_members : ℕ
max_members = 16

-- types so far, and members of the last one
pub record TableCount : Type 0 where
  pub types : ℕ
  pub members : ℕ

unfoldable pub one_type_more : TableCount → Next TableCount
one_type_more n = goes_if (ltb n.types max_types) (record { types = suc n.types; members = 0 })

unfoldable pub limit_step : TableCount → TableCommand → Next TableCount
limit_step n text_type = one_type_more n
limit_step n empty_type = one_type_more n
limit_step n sequence_type = one_type_more n
limit_step n (choice_type need) = one_type_more n
limit_step n (list_type t) = one_type_more n
limit_step n (member t) = goes_if (ltb n.members max_members) (record { types = n.types; members = suc n.members })
limit_step n table_end = goes n
limit_step n alien = stops

-- the 65th type, the 17th member
unfoldable pub table_limits : List ℕ → Verdict
table_limits bs = run table_width limit_step (λ n. true) (record { types = 0; members = 0 }) 0 (table_commands bs)

-- ---- 4, operands

unfoldable pub names_type : ℕ → Unit {0} → TableCommand → Next (Unit {0})
names_type types u text_type = goes u
names_type types u empty_type = goes u
names_type types u sequence_type = goes u
names_type types u (choice_type need) = goes u
names_type types u (list_type t) = goes_if (ltb t types) u
names_type types u (member t) = goes_if (ltb t types) u
names_type types u table_end = goes u
names_type types u alien = stops

-- a member or item of no such type, in a table of so many types
unfoldable pub table_operands : ℕ → List ℕ → Verdict
table_operands types bs = run table_width (names_type types) (λ u. true) tt 0 (table_commands bs)

-- ---- 5, a choice of either kind names a type twice

-- not in a choice, or in one, with the members so far
pub data Chosen : Type 0 where
  elsewhere : Chosen
  among : List ℕ → Chosen

unfoldable pub chooses : Chosen → ℕ → Next Chosen
chooses elsewhere t = goes elsewhere
chooses (among ms) t = goes_if (not (member_of t ms)) (among (t ∷ ms))

unfoldable pub repeat_step : Chosen → TableCommand → Next Chosen
repeat_step s text_type = goes elsewhere
repeat_step s empty_type = goes elsewhere
repeat_step s sequence_type = goes elsewhere
repeat_step s (choice_type need) = goes (among [])
repeat_step s (list_type t) = goes elsewhere
repeat_step s (member t) = chooses s t
repeat_step s table_end = goes s
repeat_step s alien = stops

unfoldable pub table_repeats : List ℕ → Verdict
table_repeats bs = run table_width repeat_step (λ s. true) elsewhere 0 (table_commands bs)
