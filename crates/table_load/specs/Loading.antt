-- What each command of a table document does to the array that it is loaded into, and what `load` gives.
use Rattle.std.specs.Prelude.{◌≡◌, List, ℕ, ◌+◌, ◌-◌, ◌*◌, ◌≤◌, ◌<◌, length, get_or, set}
use Rattle.loaded_table.specs.Loaded as loaded_table
use Rattle.loaded_table.specs.Loaded.{kinds_of, counts_of, members_in, Bounded}
use Rattle.model.specs.Definitions.Commands.{needed, optional, TableCommand, text_type, empty_type, sequence_type, choice_type, list_type, member, table_end, alien}
use Rattle.model.specs.Definitions.Table.{table_of}

-- ---- what is loaded so far

-- so many types, and the sections that say what they are
pub record TableArrays : Type 0 where
  pub types : ℕ
  pub kinds : List ℕ
  pub counts : List ℕ
  pub members : List ℕ

-- those of an array with so many types
abbrev pub loaded_in : ℕ → List ℕ → TableArrays
loaded_in types rows = record { types = types; kinds = kinds_of rows; counts = counts_of rows; members = members_in rows }

-- the array has all its places, and the types below n have no members
pub record CountsCleared (n : ℕ) (rows : List ℕ) : Type 0 where
  pub size : length rows ≡ 1281
  pub none : (t : ℕ) → t < n → get_or (counts_of rows) t 0 ≡ 0

-- ---- what a command does

-- one type more, of a kind by its code
unfoldable pub begun : TableArrays → ℕ → TableArrays
begun a kind =
    record { types = a.types + 1; kinds = set a.kinds a.types kind; counts = a.counts; members = a.members }

-- one member more of the last type
unfoldable pub joined : TableArrays → ℕ → TableArrays
joined a t =
    let last = a.types - 1 in
    let count = get_or a.counts last 0 in
    record { types = a.types; kinds = a.kinds; counts = set a.counts last (count + 1); members = set a.members (last * 16 + count) t }

-- what the arrays are after a command; the kinds' codes are those of crate loaded_table
unfoldable pub puts : TableArrays → TableCommand → TableArrays
puts a text_type = begun a 0
puts a empty_type = begun a 1
puts a sequence_type = begun a 2
puts a (choice_type needed) = begun a 3
puts a (choice_type optional) = begun a 4
puts a (list_type t) = joined (begun a 5) t
puts a (member t) = joined a t
puts a table_end = a
puts a alien = a

-- ---- room for a command

-- there is room for one type more, and it has no members yet
pub record TypeMayBegin (a : TableArrays) : Type 0 where
  pub room : a.types < 64
  pub fresh : get_or a.counts a.types 0 ≡ 0

-- there is a type, with room for one member more
pub record MemberMayJoin (a : TableArrays) : Type 0 where
  pub some : 0 < a.types
  pub few : a.types ≤ 64
  pub room : get_or a.counts (a.types - 1) 0 < 16

abbrev pub TableRoom : TableArrays → TableCommand → Type 0
TableRoom a text_type = TypeMayBegin a
TableRoom a empty_type = TypeMayBegin a
TableRoom a sequence_type = TypeMayBegin a
TableRoom a (choice_type need) = TypeMayBegin a
TableRoom a (list_type t) = TypeMayBegin a
TableRoom a (member t) = MemberMayJoin a
TableRoom a table_end = Unit {0}
TableRoom a alien = Unit {0}

-- ---- what is loaded

-- a command is put: the array then has so many types
pub record TablePut (types : ℕ) (rows : List ℕ) (c : TableCommand) (more : ℕ) (after : List ℕ) : Type 0 where
  pub same_size : length after ≡ length rows
  pub does : loaded_in more after ≡ puts (loaded_in types rows) c

-- the array stands for the table that a document writes, within bounds
pub record TableLoaded (bs rows : List ℕ) : Type 0 where
  pub same_table : loaded_table.table_by rows ≡ table_of bs
  pub bounded : Bounded rows
