-- 01 "Three kinds of document", Tree: when a tree document conforms to a table, as a predicate to be read against 01's
-- list of kinds, and as a test that computes. That the two agree is a theorem.
use Rattle.std.specs.Prelude.{◌≡◌, Bool, true, false, ◌&&◌, ℕ, T, eqb}
use mathlib.Core.List.{List, [], ◌∷◌, ◌++◌, Memᴰ}
use Rattle.model.specs.Definitions.Basics.{member_of}
use Rattle.model.specs.Definitions.Commands.{Need, needed, optional}
use Rattle.model.specs.Definitions.Table.{Kind, text, empty, sequence, choice, list, Table, kind_of, is_text}
use Rattle.model.specs.Definitions.Content.{Content, end, char, elem, document}
use Rattle.model.specs.Definitions.Characters.{allowed}

-- ---- the predicate

-- `Holds S κ k`: under table S, k is what an element of kind κ holds
pub data Holds (S : Table) : Kind → Content → Type 0 where
  -- text: zero or more characters that are allowed
  no_character : Holds S text end
  one_character : {c : ℕ} {r : Content} → T (allowed c) → Holds S text r → Holds S text (char c r)
  -- empty
  nothing : Holds S empty end
  -- sequence: all members, in order
  no_member : Holds S (sequence []) end
  one_member : {m : ℕ} {ms : List ℕ} {k r : Content}
      → Holds S (kind_of S m) k → Holds S (sequence ms) r → Holds S (sequence (m ∷ ms)) (elem m k r)
  -- choice: exactly one member
  chosen : {need : Need} {m : ℕ} {ms : List ℕ} {k : Content} → Memᴰ m ms → Holds S (kind_of S m) k → Holds S (choice need ms) (elem m k end)
  -- optional choice (02, N3): one member, or nothing
  left_out : {ms : List ℕ} → Holds S (choice optional ms) end
  -- list: zero or more items of its type
  no_item : {m : ℕ} → Holds S (list m) end
  one_item : {m : ℕ} {k r : Content} → Holds S (kind_of S m) k → Holds S (list m) r → Holds S (list m) (elem m k r)

-- a byte string is a document that conforms to a table: its root has type 0 and each element holds what its type holds
unfoldable pub Conforming : Table → List ℕ → Type 0
Conforming S bs = (k : Content) × (bs ≡ document 0 k) × Holds S (kind_of S 0) k

-- some conforming document, of any length and depth, begins with these bytes
unfoldable pub Begins : Table → List ℕ → Type 0
Begins S bs = (rest : List ℕ) × Conforming S (bs ++ rest)

-- a finite instance of a type
unfoldable pub Instance : Table → ℕ → Type 0
Instance S t = (k : Content) × Holds S (kind_of S t) k

-- ---- the test

-- A kind is also what may still follow in an element: after the first of the members m ∷ ms of a sequence, what a
-- sequence of ms may hold; after the member of a choice, nothing; after an item of a list, the same again.

-- whether an element of type t may come first
unfoldable pub admits : Kind → ℕ → Bool
admits text t = false
admits empty t = false
admits (sequence []) t = false
admits (sequence (m ∷ ms)) t = eqb t m
admits (choice need ms) t = member_of t ms
admits (list m) t = eqb t m

-- what may follow that element
unfoldable pub after : Kind → Kind
after text = text
after empty = empty
after (sequence []) = sequence []
after (sequence (m ∷ ms)) = sequence ms
after (choice need ms) = empty
after (list m) = list m

-- whether the element may be closed
unfoldable pub complete : Kind → Bool
complete text = true
complete empty = true
complete (sequence []) = true
complete (sequence (m ∷ ms)) = false
complete (choice needed ms) = false
complete (choice optional ms) = true
complete (list m) = true

-- whether k is what an element of kind κ holds
unfoldable pub conforms : Table → Kind → Content → Bool
conforms S κ end = complete κ
conforms S κ (char c r) = is_text κ && allowed c && conforms S κ r
conforms S κ (elem t k r) = admits κ t && conforms S (kind_of S t) k && conforms S (after κ) r
