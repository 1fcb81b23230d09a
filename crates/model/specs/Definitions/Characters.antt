-- 01 "Three kinds of document", Tree, with 02, N5: which byte values are characters of a tree document, and how XML text
-- writes each; as a predicate, and as a test that computes. That the two agree is a theorem.
use Rattle.std.specs.Prelude.{◌≡◌, Bool, true, false, not, ◌&&◌, ◌||◌, ◌⊎◌, ℕ, ◌≤◌, eqb, leb}
use Rattle.model.specs.Definitions.Basics.{pick}

-- 02, N5: a character is written as itself, as an entity or as a decimal character reference, or it is not allowed
pub data CharacterClass : Type 0 where
  plain : CharacterClass
  entity : CharacterClass
  decimal_reference : CharacterClass
  not_allowed : CharacterClass

-- ---- the predicate

-- a value is in a range, both ends included
abbrev pub Range : ℕ → ℕ → ℕ → Type 0
Range low high c = (low ≤ c) × (c ≤ high)

-- 01: characters are 09, 0A and 20 to 7E
abbrev pub Ascii : ℕ → Type 0
Ascii c = (c ≡ 0x09) ⊎ (c ≡ 0x0A) ⊎ Range 0x20 0x7E c

-- 02, N1: of these & < and > are written as entities
abbrev pub Markup : ℕ → Type 0
Markup c = (c ≡ 0x26) ⊎ (c ≡ 0x3C) ⊎ (c ≡ 0x3E)

-- 02, N5: A0 to FF are characters too, as ISO 8859-1
abbrev pub Accented : ℕ → Type 0
Accented c = Range 0xA0 0xFF c

-- `Classed c κ`: c is of class κ
pub data Classed (c : ℕ) : CharacterClass → Type 0 where
  as_itself : Ascii c → (Markup c → ⊥) → Classed c plain
  as_entity : Markup c → Classed c entity
  as_reference : Accented c → Classed c decimal_reference
  forbidden : (Ascii c → ⊥) → (Accented c → ⊥) → Classed c not_allowed

-- ---- the test

-- whether a value is in a range
unfoldable pub between : ℕ → ℕ → ℕ → Bool
between low high c = leb low c && leb c high

-- whether it is one of 01's characters
unfoldable pub is_ascii : ℕ → Bool
is_ascii c = eqb c 0x09 || eqb c 0x0A || between 0x20 0x7E c

-- whether it is & < or >
unfoldable pub is_markup : ℕ → Bool
is_markup c = eqb c 0x26 || eqb c 0x3C || eqb c 0x3E

-- whether it is from A0 to FF
unfoldable pub is_accented : ℕ → Bool
is_accented c = between 0xA0 0xFF c

-- the class of a value
unfoldable pub character_class : ℕ → CharacterClass
character_class c = pick (is_markup c) entity (pick (is_ascii c) plain (pick (is_accented c) decimal_reference not_allowed))

-- whether a class is `not_allowed`
unfoldable pub is_not_allowed : CharacterClass → Bool
is_not_allowed plain = false
is_not_allowed entity = false
is_not_allowed decimal_reference = false
is_not_allowed not_allowed = true

-- whether a tree document may hold a character
unfoldable pub allowed : ℕ → Bool
allowed c = not (is_not_allowed (character_class c))
