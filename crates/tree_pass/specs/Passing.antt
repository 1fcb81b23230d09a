-- What the pass over a tree document knows: at its beginning, of each command, at its end, and of a document that it accepts.
use Rattle.std.specs.Prelude.{◌≡◌, true, List, ℕ, ◌+◌, ◌≤◌, ◌<◌, length, Option, Some, None}
use Rattle.model.specs.Definitions.Basics.{passes}
use Rattle.model.specs.Definitions.Commands.{opens, tree_end, tree_commands}
use Rattle.model.specs.Definitions.Characters.{allowed}
use Rattle.model.specs.Definitions.TreeChecks.{tree_form, tree_levels, tree_operands, tree_expected}
use Rattle.loaded_table.specs.Loaded.{table_by, types_in, Bounded}
use Rattle.tree_form.specs.Commands.{ReadsCommand}
use Rattle.tree_levels.specs.Elements.{opens_in}
use Rattle.tree_expected.specs.Expected.{TypeReadable, Admits, SaysText, MayOpen, MayHold, Closes}
use Rattle.tree_expected.specs.declared.Turn.{Turn}
use Rattle.tree_expected.specs.declared.Turn.TheVariants.{Opened, Character, Closed}

-- a document that is not too long and begins with an element of type 0
pub record Begun (bs : List ℕ) : Type 0 where
  pub short : length bs ≤ 60000
  pub root : ReadsCommand bs 0 (opens 0)

-- the same by a table that has a type 0
pub record RootEntered (rows bs : List ℕ) : Type 0 where
  pub bounded : Bounded rows
  pub begun : Begun bs
  pub some : 0 < types_in rows

-- all checks pass, and n is the number of elements
pub record Accepted (rows bs : List ℕ) (n : ℕ) : Type 0 where
  pub short : length bs ≤ 60000
  pub form : passes ≡ tree_form bs
  pub levels : passes ≡ tree_levels bs
  pub operands : passes ≡ tree_operands (types_in rows) bs
  pub expected : passes ≡ tree_expected (table_by rows) bs
  pub counted : n ≡ opens_in (tree_commands bs)

-- ---- one command

-- an element of type m has `top` elements around it, and at least two bytes are left
pub record Innermost (rows bs : List ℕ) (top m at : ℕ) : Type 0 where
  pub readable : TypeReadable rows m
  pub low : top < 128
  pub more : at + 1 < length bs

-- there is a type x and room for an element of it in that one, which then has had `next`
pub record Enters (rows : List ℕ) (top m h x next : ℕ) : Type 0 where
  pub exists : x < types_in rows
  pub room : top + 1 < 128
  pub opening : Admits rows m h x next

-- c is a character that an element of type m may hold
pub record Textual (rows : List ℕ) (m c : ℕ) : Type 0 where
  pub text : SaysText rows m true
  pub fine : allowed c ≡ true

-- what an answer says of the command at an offset
abbrev pub Checked : List ℕ → List ℕ → ℕ → ℕ → ℕ → ℕ → Option Turn → Type 0
Checked rows bs top m h at (Some (Opened x next)) = MayOpen rows bs m h at x next × (x < types_in rows) × (top + 1 < 128)
Checked rows bs top m h at (Some (Character c)) = MayHold rows bs m h at c × (allowed c ≡ true)
Checked rows bs top m h at (Some Closed) = Closes rows bs m h at
Checked rows bs top m h at None = Unit

-- ---- the end

-- 3F stands at an offset, and nothing behind it; r is n
pub record Ends (bs : List ℕ) (at n r : ℕ) : Type 0 where
  pub reads : ReadsCommand bs at tree_end
  pub last : length bs ≤ at + 1
  pub same : r ≡ n
