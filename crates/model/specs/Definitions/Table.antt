-- 01 "Three kinds of document", Table; 000 section 2.2: a normalised DTD, as the list of its element types' content models.
use Rattle.std.specs.Prelude.{Bool, true, false, List, [], ◌∷◌, ℕ, length, get_or}
use Rattle.std.proofs.Math.Option.{Option}
use Rattle.model.specs.Definitions.Basics.{entry}
use Rattle.model.specs.Definitions.Commands.{Need, needed, optional, TableCommand, text_type, empty_type, sequence_type, choice_type, list_type, member, table_end, alien, table_commands}

-- what an element of a type holds: characters; nothing; all members, in order; exactly one member, or of an optional
-- choice (02, N3) one or nothing; items of one type
pub data Kind : Type 0 where
  text : Kind
  empty : Kind
  sequence : List ℕ → Kind
  choice : Need → List ℕ → Kind
  list : ℕ → Kind

-- types are numbered from 0 in the order written
abbrev pub Table : Type 0
Table = List Kind

-- the kind of a type; a number that is no type counts as empty
unfoldable pub kind_of : Table → ℕ → Kind
kind_of T t = get_or T t empty

-- the types named by a kind, in order
unfoldable pub members_of : Kind → List ℕ
members_of text = []
members_of empty = []
members_of (sequence ms) = ms
members_of (choice need ms) = ms
members_of (list m) = m ∷ []

-- 01, Embedding: step p goes from a sequence or choice to its member p, counted from 1, and from a list only by 1;
-- text and empty types have no steps
unfoldable pub step_from : Kind → ℕ → Option ℕ
step_from κ p = entry p (members_of κ)

-- 01, Embedding: a text type has one edge (its characters), an empty type none, a sequence or choice one a member, a list one
unfoldable pub edges_of : Kind → ℕ
edges_of text = 1
edges_of empty = 0
edges_of (sequence ms) = length ms
edges_of (choice need ms) = length ms
edges_of (list m) = 1

-- ---- tests of a kind

unfoldable pub is_text : Kind → Bool
is_text text = true
is_text empty = false
is_text (sequence ms) = false
is_text (choice need ms) = false
is_text (list m) = false

unfoldable pub is_sequence : Kind → Bool
is_sequence text = false
is_sequence empty = false
is_sequence (sequence ms) = true
is_sequence (choice need ms) = false
is_sequence (list m) = false

-- a choice of either kind
unfoldable pub is_choice : Kind → Bool
is_choice text = false
is_choice empty = false
is_choice (sequence ms) = false
is_choice (choice need ms) = true
is_choice (list m) = false

-- an optional choice (02, N3)
unfoldable pub is_optional : Kind → Bool
is_optional text = false
is_optional empty = false
is_optional (sequence ms) = false
is_optional (choice needed ms) = false
is_optional (choice optional ms) = true
is_optional (list m) = false

unfoldable pub is_list : Kind → Bool
is_list text = false
is_list empty = false
is_list (sequence ms) = false
is_list (choice need ms) = false
is_list (list m) = true

-- ---- the table that commands write

-- what the commands from some place on say: the members of the type before that place, and the types after it
pub record TableTail : Type 0 where
  pub members : List ℕ
  pub kinds : List Kind

-- one command more in front
unfoldable pub with_command : TableCommand → TableTail → TableTail
with_command text_type r = record { members = []; kinds = text ∷ r.kinds }
with_command empty_type r = record { members = []; kinds = empty ∷ r.kinds }
with_command sequence_type r = record { members = []; kinds = sequence r.members ∷ r.kinds }
with_command (choice_type need) r = record { members = []; kinds = choice need r.members ∷ r.kinds }
with_command (list_type t) r = record { members = []; kinds = list t ∷ r.kinds }
with_command (member t) r = record { members = t ∷ r.members; kinds = r.kinds }
with_command table_end r = r
with_command alien r = r

unfoldable pub table_tail : List TableCommand → TableTail
table_tail [] = record { members = []; kinds = [] }
table_tail (c ∷ cs) = with_command c (table_tail cs)

-- the table that a document writes; it matters only where the table's form is right
unfoldable pub table_of : List ℕ → Table
table_of bs = (table_tail (table_commands bs)).kinds
