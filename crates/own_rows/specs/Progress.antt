-- How far preparing has come: the rows of filler and of the source types before s are made.
use Rattle.std.specs.Prelude.{ℕ, suc, ◌+◌, ◌-◌, ◌*◌, ◌≤◌, ◌<◌, List, length, get_or}
use Rattle.std.proofs.Common.{arith}
use Rattle.loaded_table.specs.Loaded.{types_in, counts_of}
use Rattle.loaded_setting.specs.Ready.{setting_in, Ready}
use Rattle.rows.specs.Rows.{HasRows, IsWord, rows_before, type_row}
use Rattle.filler_rows.specs.Storing.{Whole}
use Rattle.pools.specs.Room.{edge_room, nothing_of, nothing_room}
use Rattle.own_rows.specs.Wanted.{RowsDone}

-- room for the rows of source type s, and for those of the types from s on
abbrev pub type_room : List ℕ → List ℕ → ℕ → ℕ
type_room source map s = edge_room map (s * 16) 16 + nothing_of source map s

abbrev pub later_room : List ℕ → List ℕ → ℕ → ℕ
later_room source map s = edge_room map (s * 16) ((types_in source - s) * 16) + nothing_room source map s (types_in source - s)

-- they stand before place `at`, and there is room for those of the other types
pub record Progress (source target map em pool₀ places₀ : List ℕ) (s : ℕ) (pool places : List ℕ) (at : ℕ) : Type 0 where
  pub whole : Whole pool₀ places₀ pool places at
  pub done : RowsDone (setting_in source target map em) (rows_before s) pool places at
  pub room : at + later_room source map s ≤ length pool₀

-- the first j rows of source type s are made too, and the others have room `left`
pub record Partly (source target map em pool₀ places₀ : List ℕ) (s j left : ℕ) (pool places : List ℕ) (at : ℕ) : Type 0 where
  pub whole : Whole pool₀ places₀ pool places at
  pub done : RowsDone (setting_in source target map em) (type_row s j) pool places at
  pub room : at + left + later_room source map (suc s) ≤ length pool₀

-- the rows of source type s can be made: the setting is ready, s is one of its types, and the pool and the places are large enough
pub record Makeable (source target map em pool places : List ℕ) (s : ℕ) : Type 0 where
  pub ready : Ready source target map em
  pub exists : s < types_in source
  pub small : IsWord (length pool)
  pub long : HasRows places (types_in source)

-- its number, and the number of its members, are small
pub few_of_type : {source target map em pool places : List ℕ} {s : ℕ} → Makeable source target map em pool places s → (s < 64) × (get_or (counts_of source) s 0 ≤ 16)
few_of_type {s = s} can = (omega (arith, can.exists, can.ready.source_bounded.few_types), can.ready.source_bounded.few_members s)

-- and they are the next to be made, at place `at`
pub record NextToMake (source target map em pool places : List ℕ) (s at : ℕ) : Type 0 where
  pub makeable : Makeable source target map em pool places s
  pub progress : Progress source target map em pool places s pool places at
