-- Rows that are made, and stand in the pool before a place.
use Rattle.std.specs.Prelude.{◌≡◌, List, ℕ, ◌*◌, ◌≤◌, ◌<◌, length}
use Rattle.model.specs.Definitions.Templates.{Symbol, filler_row}
use Rattle.model.proofs.Theorems.Facts.{SoundTable}
use Rattle.loaded_table.specs.Loaded.{Bounded, Kept, table_by}
use Rattle.rows.specs.Rows.{to_of, depth_in, row_in, row_at, HasRow, set_row}
use Rattle.growing.specs.Growing.{Puts}

-- a loaded table within its bounds, sound, with its heights kept
pub record Sound (target : List ℕ) : Type 0 where
  pub bounded : Bounded target
  pub sound : SoundTable (table_by target)
  pub kept : Kept target (table_by target)

-- row r stands before place `at` and is `row`, with d elements open around it
pub record Stored (pool places : List ℕ) (at r : ℕ) (row : List Symbol) (d : ℕ) : Type 0 where
  pub ends : to_of places r ≤ at
  pub holds : row_at pool places r ≡ row
  pub depth : depth_in places r ≡ d

-- it is stored that row r stands from one place up to another, with d elements open around it
pub record PlacedRow (places after : List ℕ) (r from to d : ℕ) : Type 0 where
  pub long : HasRow places r
  pub is : after ≡ set_row places r from to d

-- a row is written behind the others, or stands among them, and is placed
pub record RowMade (pool places : List ℕ) (at row : ℕ) (content : List Symbol) (depth : ℕ) (pool' places' : List ℕ) (end : ℕ) : Type 0 where
  pub written : List Symbol
  pub puts : Puts pool pool' at written end
  pub from : ℕ
  pub to : ℕ
  pub placed : PlacedRow places places' row from to depth
  pub ends : to ≤ end
  pub holds : row_in pool' from to ≡ content

-- the pool and the places are whole, and all rows end within the pool
pub record Whole (pool₀ places₀ pool places : List ℕ) (at : ℕ) : Type 0 where
  pub pool_length : length pool ≡ length pool₀
  pub places_length : length places ≡ length places₀
  pub fits : at ≤ length pool₀
  pub within : (r : ℕ) → to_of places r ≤ length pool₀

-- the rows of filler of the first types are stored
pub record FillersStored (target pool₀ places₀ : List ℕ) (many : ℕ) (pool places : List ℕ) (at : ℕ) : Type 0 where
  pub whole : Whole pool₀ places₀ pool places at
  pub few : at ≤ 16 * many
  pub stored : (t : ℕ) → t < many → Stored pool places at t (filler_row (table_by target) t) 0
