-- What may still follow in an open element, by its type in a loaded table and how many elements it has had; and what a loop
-- keeps that makes check 11.
use Rattle.std.specs.Prelude.{◌≡◌, Bool, true, false, List, [], ◌∷◌, ℕ, zero, suc, ◌+◌, ◌*◌, ◌<◌, length, take, drop, get_or, Option, Some, None}
use Rattle.model.specs.Definitions.Basics.{Verdict, passes, run}
use Rattle.model.specs.Definitions.Commands.{Need, needed, optional, TreeCommand, opens, character, closes, tree_end, alien_t, tree_commands, tree_width}
use Rattle.model.specs.Definitions.Conformance.{admits, after, complete}
use Rattle.model.specs.Definitions.Table.{Kind, text, empty, sequence, choice, list, Table, is_text}
use Rattle.model.specs.Definitions.TreeChecks.{tree_form, tree_levels, tree_operands, expect_step, tree_expected}
use Rattle.loaded_table.specs.Loaded.{table_by, types_in, kinds_of, counts_of, members_in, Bounded}
use Rattle.tree_form.specs.Commands.{ReadsCommand}
use Rattle.tree_form.specs.Form.{InForm}
use Rattle.tree_levels.specs.Levels.{InLevels}
use Rattle.tree_operands.specs.Operands.{InOperands}
use Rattle.tree_expected.specs.declared.Turn.{Turn}
use Rattle.tree_expected.specs.declared.Turn.TheVariants.{Opened, Character, Closed}
use Rattle.tree_expected.specs.declared.Open.{Open}

-- ---- what may still follow

-- in a choice: one of its members, or behind one nothing
abbrev pub rest_of_choice : Need → List ℕ → ℕ → Kind
rest_of_choice need ms zero = choice need ms
rest_of_choice need ms (suc had) = empty

-- by a kind's code, its number of members, the row that begins with them, and the number of elements that were
abbrev pub rest_from : ℕ → ℕ → List ℕ → ℕ → Kind
rest_from zero count row had = text
rest_from (suc zero) count row had = empty
rest_from (suc (suc zero)) count row had = sequence (drop had (take count row))
rest_from (suc (suc (suc zero))) count row had = rest_of_choice needed (take count row) had
rest_from (suc (suc (suc (suc zero)))) count row had = rest_of_choice optional (take count row) had
rest_from (suc (suc (suc (suc (suc code))))) count row had = list (get_or row 0 0)

-- in an element of type t
abbrev pub rest_of : List ℕ → ℕ → ℕ → Kind
rest_of rows t had = rest_from (get_or (kinds_of rows) t 0) (get_or (counts_of rows) t 0) (drop (t * 16) (members_in rows)) had

-- type t can be read from a loaded table
pub record TypeReadable (rows : List ℕ) (t : ℕ) : Type 0 where
  pub bounded : Bounded rows
  pub below : t < 64

-- an element of type x may come behind h others in one of type m, and r says what may follow it
pub record Admits (rows : List ℕ) (m h x r : ℕ) : Type 0 where
  pub some : 0 < r
  pub admitted : admits (rest_of rows m h) x ≡ true
  pub onward : rest_of rows m r ≡ after (rest_of rows m h)

-- what an answer says of an element of type x that comes behind h others in one of type m
abbrev pub Opening : List ℕ → ℕ → ℕ → ℕ → Option ℕ → Type 0
Opening rows m h x (Some r) = Admits rows m h x r
Opening rows m h x None = admits (rest_of rows m h) x ≡ false

-- whether an element of type m holds text, however many elements it has had
abbrev pub SaysText : List ℕ → ℕ → Bool → Type 0
SaysText rows m b = (h : ℕ) → b ≡ is_text (rest_of rows m h)

-- ---- one command, in an element of type m that has had h elements

-- an element of type x that may come is opened, and `next` is how many there are then
pub record MayOpen (rows bs : List ℕ) (m h at x next : ℕ) : Type 0 where
  pub reads : ReadsCommand bs at (opens x)
  pub opening : Admits rows m h x next

-- a character that may come
pub record MayHold (rows bs : List ℕ) (m h at c : ℕ) : Type 0 where
  pub reads : ReadsCommand bs at (character c)
  pub text : is_text (rest_of rows m h) ≡ true

-- a close that may come
pub record Closes (rows bs : List ℕ) (m h at : ℕ) : Type 0 where
  pub reads : ReadsCommand bs at closes
  pub ready : complete (rest_of rows m h) ≡ true

-- a command that may not follow, or that stands in no element
abbrev pub Unfit : Kind → TreeCommand → Type 0
Unfit κ (opens x) = admits κ x ≡ false
Unfit κ (character c) = is_text κ ≡ false
Unfit κ closes = complete κ ≡ false
Unfit κ tree_end = Unit
Unfit κ alien_t = Unit

-- such a command stands at an offset
pub record Refuses (rows bs : List ℕ) (m h at : ℕ) : Type 0 where
  pub met : TreeCommand
  pub reads : ReadsCommand bs at met
  pub unfit : Unfit (rest_of rows m h) met

-- what an answer says of the command at an offset
abbrev pub Does : List ℕ → List ℕ → ℕ → ℕ → ℕ → Option Turn → Type 0
Does rows bs m h at (Some (Opened x next)) = MayOpen rows bs m h at x next
Does rows bs m h at (Some (Character c)) = MayHold rows bs m h at c
Does rows bs m h at (Some Closed) = Closes rows bs m h at
Does rows bs m h at None = Refuses rows bs m h at

-- ---- the elements around

-- the n-th of the open elements, the outermost first
abbrev pub open_at : List Open → ℕ → Open
open_at around n = get_or around n (record { kind = 0; had = 0 })

-- what may follow in each of n open elements, the innermost first, and in the document, which has its root
unfoldable pub rests : List ℕ → List Open → ℕ → List Kind
rests rows around zero = sequence [] ∷ []
rests rows around (suc n) = rest_of rows (open_at around n).kind (open_at around n).had ∷ rests rows around n

-- ---- check 11

-- the verdict of what is left from an offset on, in a state of the machine
abbrev pub expected_left : Table → List ℕ → List Kind → ℕ → Verdict
expected_left S bs s at = run tree_width (expect_step S) (λ s. true) s at (tree_commands (drop at bs))

-- the checks before have passed, and the table is within bounds
pub record Passed (rows bs : List ℕ) : Type 0 where
  pub bounded : Bounded rows
  pub form : tree_form bs ≡ passes
  pub levels : tree_levels bs ≡ passes
  pub operands : tree_operands (types_in rows) bs ≡ passes

-- a document that has passed them begins with an element of type 0
pub record InRoot (rows bs : List ℕ) : Type 0 where
  pub passed : Passed rows bs
  pub root : ReadsCommand bs 0 (opens 0)

-- The machines of the four checks at an offset in an element of type m that has had h elements: what is left gives the
-- verdict of the whole. The array has the `top` elements around it.
pub record Inside (rows bs : List ℕ) (around : List Open) (top m h at : ℕ) : Type 0 where
  pub bounded : Bounded rows
  pub form : InForm bs (top + 1) at
  pub levels : InLevels bs (top + 1) at
  pub operands : InOperands (types_in rows) bs at
  pub room : length around ≡ 128
  pub types_exist : (i : ℕ) → i < top → (open_at around i).kind < types_in rows
  pub type_exists : m < types_in rows
  pub whole : expected_left (table_by rows) bs (rest_of rows m h ∷ rests rows around top) at ≡ tree_expected (table_by rows) bs

-- the same behind the root element
pub record Outside (rows bs : List ℕ) (at : ℕ) : Type 0 where
  pub form : InForm bs 0 at
  pub levels : InLevels bs 0 at
  pub operands : InOperands (types_in rows) bs at
  pub whole : expected_left (table_by rows) bs (sequence [] ∷ []) at ≡ tree_expected (table_by rows) bs
