-- Where the type stands that a step goes to.
use Rattle.std.specs.Prelude.{◌≡◌, List, [], ◌∷◌, ℕ, zero, suc, ◌-◌, ◌≤◌, ◌<◌, take, get_or}
use Rattle.std.proofs.Common.{sym, ◌∙◌, arith, length-take, get_or-take}
use Rattle.std.proofs.Math.Option.{some}
use Rattle.model.specs.Definitions.Basics.{entry}
use Rattle.model.specs.Definitions.Table.{members_of, step_from}
use Rattle.model.proofs.Theorems.Tools.{entry_at}
use Rattle.loaded_table.specs.Loaded.{kind_from}

-- one of the first members of a row stands at its position
row_at_lem : (p count : ℕ) (row : List ℕ) (m : ℕ) → count ≤ 16 → entry p (take count row) ≡ some m → (1 ≤ p) × (p ≤ 16) × (get_or row (p - 1) 0 ≡ m)
row_at_lem p count row m few e =
    let found = entry_at 0 p (take count row) m e in
    let within : p - 1 < count = omega (arith, found.0, found.1, length-take count row) in
    (found.0, omega (arith, found.1, length-take count row), sym (get_or-take count row (p - 1) 0 within) ∙ found.2)

-- the type that a step goes to stands in the type's row
pub step_in_row : (code count : ℕ) (row : List ℕ) (p m : ℕ) → count ≤ 16 → step_from (kind_from code count row) p ≡ some m → (1 ≤ p) × (p ≤ 16) × (get_or row (p - 1) 0 ≡ m)
unfolding step_from members_of
step_in_row zero count row p m few e = absurd (omega (arith, (entry_at 0 p [] m e).0, (entry_at 0 p [] m e).1))
step_in_row (suc zero) count row p m few e = absurd (omega (arith, (entry_at 0 p [] m e).0, (entry_at 0 p [] m e).1))
step_in_row (suc (suc zero)) count row p m few e = row_at_lem p count row m few e
step_in_row (suc (suc (suc zero))) count row p m few e = row_at_lem p count row m few e
step_in_row (suc (suc (suc (suc zero)))) count row p m few e = row_at_lem p count row m few e
step_in_row (suc (suc (suc (suc (suc code))))) count row p m few e =
    let found = entry_at 0 p (get_or row 0 0 ∷ []) m e in
    let one : p ≡ 1 = omega (arith, found.0, found.1) in
    let none : p - 1 ≡ 0 = omega arith in
    (found.0, omega arith, rw none (rw none at found.2))
