-- The command at an offset, by the byte that stands there.
use mathlib.Core.Path.{◌≡◌, refl}
use mathlib.Core.Bool.{Bool, true, false}
use mathlib.Core.List.{List}
use Prim.Native.Nat.{ℕ, suc, ◌+◌, ◌≤◌, ◌<◌}
use native.Mathlib.Numerals.{add-one}
use lib.ListN.{length, get_or}
use lib.Dec.{ltb}
use borrow.Author.Tests.{lt-ltb, le-ltb, ne_eqb}
use Rattle.model.specs.Definitions.Basics.{pick}
use Rattle.model.specs.Definitions.Commands.{bare, paired, takes_operand, TableCommand, alien, table_command}
use Rattle.model.proofs.Theorems.Reading.{raw_with, raw_at}

-- a byte that takes no operand
pub bare_at : (bs : List ℕ) (at b : ℕ) {r : TableCommand} → get_or bs at 0 ≡ b → takes_operand b ≡ false → table_command (bare b) ≡ r
    → r ≡ table_command (raw_at bs at)
unfolding raw_at raw_with
bare_at bs at b h o e = rw (h, o, e)

-- a byte that takes one, where another byte follows
pub paired_at : (bs : List ℕ) (at b : ℕ) {r : TableCommand} → get_or bs at 0 ≡ b → takes_operand b ≡ true → at + 1 < length bs
    → table_command (paired b (get_or bs (at + 1) 0)) ≡ r → r ≡ table_command (raw_at bs at)
unfolding raw_at raw_with
paired_at bs at b h o more e = let next : ltb (suc at) (length bs) ≡ true = lt-ltb (suc at) (length bs) (rw add-one at more) in rw (h, o, next, ← add-one at, e)

-- and where none does
pub cut_at : (bs : List ℕ) (at b : ℕ) → get_or bs at 0 ≡ b → takes_operand b ≡ true → length bs ≤ at + 1 → alien ≡ table_command (raw_at bs at)
unfolding raw_at raw_with table_command
cut_at bs at b h o none = let next : ltb (suc at) (length bs) ≡ false = le-ltb (suc at) (length bs) (rw add-one at none) in rw (h, o, next)

-- a byte that is none of a table's commands, whether it takes an operand elsewhere or not
pub other_at : (bs : List ℕ) (at : ℕ)
    → let isnt : ℕ → Type 0 = λ k. get_or bs at 0 ≡ k → ⊥ in
    (((((((Unit {0} × isnt 0x10) × isnt 0x11) × isnt 0x12) × isnt 0x13) × isnt 0x17) × isnt 0x14) × isnt 0x15) × isnt 0x1F
    → alien ≡ table_command (raw_at bs at)
unfolding raw_at raw_with table_command pick
other_at bs at ((((((((_, n10), n11), n12), n13), n17), n14), n15), n1F) = go (takes_operand (get_or bs at 0)) (ltb (suc at) (length bs))
  where
    go : (operand more : Bool) → alien ≡ table_command (raw_with operand more (get_or bs at 0) (get_or bs (suc at) 0))
    go false more = rw (ne_eqb _ 0x10 n10, ne_eqb _ 0x11 n11, ne_eqb _ 0x12 n12, ne_eqb _ 0x13 n13, ne_eqb _ 0x17 n17, ne_eqb _ 0x1F n1F)
    go true true = rw (ne_eqb _ 0x14 n14, ne_eqb _ 0x15 n15)
    go true false = refl
