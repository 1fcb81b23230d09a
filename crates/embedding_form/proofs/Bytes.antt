-- The command at an offset, by the byte that stands there and whether a byte follows.
use mathlib.Core.Path.{◌≡◌, refl}
use mathlib.Core.Bool.{Bool, true, false}
use mathlib.Core.List.{List}
use Prim.Native.Nat.{ℕ, suc, ◌+◌, ◌≤◌, ◌<◌}
use native.Mathlib.Numerals.{add-one}
use native.Mathlib.Omega.{arith}
use lib.ListN.{length, get_or, get_or-eq_default}
use lib.Dec.{ltb}
use borrow.Author.Tests.{lt-ltb, le-ltb, ne_eqb}
use Rattle.model.specs.Definitions.Basics.{pick}
use Rattle.model.specs.Definitions.Commands.{takes_operand, maps_to, path, step, embedding_end, alien_e, embedding_command}
use Rattle.model.proofs.Theorems.Reading.{raw_at, raw_with}

-- a byte that is none of an embedding's command bytes is alien, whatever follows it
raw_other : (o m : Bool) (b t : ℕ) → (b ≡ 0x20 → ⊥) → (b ≡ 0x21 → ⊥) → (b ≡ 0x22 → ⊥) → (b ≡ 0x2F → ⊥) → alien_e ≡ embedding_command (raw_with o m b t)
unfolding raw_with embedding_command pick
raw_other false m b t not-maps not-path not_step not_end = rw (ne_eqb _ _ not-path, ne_eqb _ _ not_end)
raw_other true true b t not-maps not-path not_step not_end = rw (ne_eqb _ _ not-maps, ne_eqb _ _ not_step)
raw_other true false b t not-maps not-path not_step not_end = refl

module _ (bs : List ℕ) (at : ℕ) where
  -- 20 or 22 with its operand
  pub at_maps : get_or bs at 0 ≡ 0x20 → at + 1 < length bs → maps_to (get_or bs (at + 1) 0) ≡ embedding_command (raw_at bs at)
  unfolding raw_at raw_with takes_operand embedding_command pick
  at_maps e h = let more : suc at < length bs = omega arith in rw (e, add-one at, lt-ltb _ _ more)

  pub at_step : get_or bs at 0 ≡ 0x22 → at + 1 < length bs → step (get_or bs (at + 1) 0) ≡ embedding_command (raw_at bs at)
  unfolding raw_at raw_with takes_operand embedding_command pick
  at_step e h = let more : suc at < length bs = omega arith in rw (e, add-one at, lt-ltb _ _ more)

  -- and without
  pub at_maps_cut : get_or bs at 0 ≡ 0x20 → length bs ≤ at + 1 → alien_e ≡ embedding_command (raw_at bs at)
  unfolding raw_at raw_with takes_operand embedding_command pick
  at_maps_cut e h = let last : length bs ≤ suc at = omega arith in rw (e, le-ltb _ _ last)

  pub at_step_cut : get_or bs at 0 ≡ 0x22 → length bs ≤ at + 1 → alien_e ≡ embedding_command (raw_at bs at)
  unfolding raw_at raw_with takes_operand embedding_command pick
  at_step_cut e h = let last : length bs ≤ suc at = omega arith in rw (e, le-ltb _ _ last)

  -- 21 and 2F
  pub at_path : get_or bs at 0 ≡ 0x21 → path ≡ embedding_command (raw_at bs at)
  unfolding raw_at raw_with takes_operand embedding_command pick
  at_path e = rw e

  pub at_end : get_or bs at 0 ≡ 0x2F → embedding_end ≡ embedding_command (raw_at bs at)
  unfolding raw_at raw_with takes_operand embedding_command pick
  at_end e = rw e

  -- any other byte
  pub at_other : (get_or bs at 0 ≡ 0x20 → ⊥) → (get_or bs at 0 ≡ 0x21 → ⊥) → (get_or bs at 0 ≡ 0x22 → ⊥) → (get_or bs at 0 ≡ 0x2F → ⊥) → alien_e ≡ embedding_command (raw_at bs at)
  unfolding raw_at
  at_other = raw_other (takes_operand (get_or bs at 0)) (ltb (suc at) (length bs)) (get_or bs at 0) (get_or bs (suc at) 0)

  -- and behind the end
  pub at_none : length bs ≤ at → alien_e ≡ embedding_command (raw_at bs at)
  at_none h = let none : get_or bs at 0 ≡ 0 = get_or-eq_default bs 0 h in at_other (λ e. absurd (omega arith)) (λ e. absurd (omega arith)) (λ e. absurd (omega arith)) (λ e. absurd (omega arith))
