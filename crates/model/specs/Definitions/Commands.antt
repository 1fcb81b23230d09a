-- 01 "Three kinds of document, as commands": a command is one byte, followed by no operand or by one operand byte.
-- Operands are read blind: the byte after 14, 15, 20, 22, 30 or 31 is its operand whatever it is.
-- The bytes of all three kinds of document are cut into commands by one function; each kind then names its own
-- commands. A byte that is no command of a kind, or one whose operand is missing, is `alien` to it: every check stops
-- there, and check 2, the first, leaves none to the others.
use Rattle.std.specs.Prelude.{Bool, true, false, ◌||◌, List, [], ◌∷◌, map, ℕ, eqb}
use Rattle.model.specs.Definitions.Basics.{pick}

-- a byte without operand, a byte with its operand, a byte at the end whose operand is missing
pub data Command : Type 0 where
  bare : ℕ → Command
  paired : ℕ → ℕ → Command
  cut : ℕ → Command

-- the command bytes that an operand follows
unfoldable pub takes_operand : ℕ → Bool
takes_operand b = eqb b 0x14 || eqb b 0x15 || eqb b 0x20 || eqb b 0x22 || eqb b 0x30 || eqb b 0x31

unfoldable pub last_command : Bool → ℕ → Command
last_command true b = cut b
last_command false b = bare b

unfoldable pub first_command : Bool → ℕ → ℕ → List Command → List Command → List Command
first_command true b t after_both afterOne = paired b t ∷ after_both
first_command false b t after_both afterOne = bare b ∷ afterOne

-- bytes cut into commands
unfoldable pub commands : List ℕ → List Command
commands [] = []
commands (b ∷ []) = last_command (takes_operand b) b ∷ []
commands (b ∷ t ∷ rest) =
    let after_both = commands rest in
    let afterOne = commands (t ∷ rest) in
    first_command (takes_operand b) b t after_both afterOne

-- ---- a table's commands

-- whether a choice needs a member: 13 begins one that does, 17 one that may hold nothing (02, N3)
pub data Need : Type 0 where
  needed optional : Need

pub data TableCommand : Type 0 where
  text_type empty_type sequence_type : TableCommand
  choice_type : Need → TableCommand
  list_type : ℕ → TableCommand
  member : ℕ → TableCommand
  table_end : TableCommand
  alien : TableCommand

unfoldable pub table_command : Command → TableCommand
table_command (bare b) =
    pick (eqb b 0x10) text_type
    (pick (eqb b 0x11) empty_type
    (pick (eqb b 0x12) sequence_type
    (pick (eqb b 0x13) (choice_type needed)
    (pick (eqb b 0x17) (choice_type optional)
    (pick (eqb b 0x1F) table_end
    alien)))))
table_command (paired b t) = pick (eqb b 0x14) (list_type t) (pick (eqb b 0x15) (member t) alien)
table_command (cut b) = alien

unfoldable pub table_commands : List ℕ → List TableCommand
table_commands bs = map table_command (commands bs)

-- the number of bytes of a command
unfoldable pub table_width : TableCommand → ℕ
table_width text_type = 1
table_width empty_type = 1
table_width sequence_type = 1
table_width (choice_type need) = 1
table_width (list_type t) = 2
table_width (member t) = 2
table_width table_end = 1
table_width alien = 1

-- ---- an embedding's commands

pub data EmbeddingCommand : Type 0 where
  maps_to : ℕ → EmbeddingCommand
  path : EmbeddingCommand
  step : ℕ → EmbeddingCommand
  embedding_end : EmbeddingCommand
  alien_e : EmbeddingCommand

unfoldable pub embedding_command : Command → EmbeddingCommand
embedding_command (bare b) = pick (eqb b 0x21) path (pick (eqb b 0x2F) embedding_end alien_e)
embedding_command (paired b t) = pick (eqb b 0x20) (maps_to t) (pick (eqb b 0x22) (step t) alien_e)
embedding_command (cut b) = alien_e

unfoldable pub embedding_commands : List ℕ → List EmbeddingCommand
embedding_commands bs = map embedding_command (commands bs)

unfoldable pub embedding_width : EmbeddingCommand → ℕ
embedding_width (maps_to t) = 2
embedding_width path = 1
embedding_width (step p) = 2
embedding_width embedding_end = 1
embedding_width alien_e = 1

-- ---- a tree's commands

pub data TreeCommand : Type 0 where
  opens : ℕ → TreeCommand
  character : ℕ → TreeCommand
  closes : TreeCommand
  tree_end : TreeCommand
  alien_t : TreeCommand

unfoldable pub tree_command : Command → TreeCommand
tree_command (bare b) = pick (eqb b 0x32) closes (pick (eqb b 0x3F) tree_end alien_t)
tree_command (paired b t) = pick (eqb b 0x30) (opens t) (pick (eqb b 0x31) (character t) alien_t)
tree_command (cut b) = alien_t

unfoldable pub tree_commands : List ℕ → List TreeCommand
tree_commands bs = map tree_command (commands bs)

unfoldable pub tree_width : TreeCommand → ℕ
tree_width (opens t) = 2
tree_width (character c) = 2
tree_width closes = 1
tree_width tree_end = 1
tree_width alien_t = 1
