-- Arrays that are long enough for the rows of a setting.
use Rattle.std.specs.Prelude.{◌≡◌, ℕ, ◌+◌, ◌*◌, ◌≤◌, List, length, replicate}
use Rattle.std.proofs.Common.{arith}
use Rattle.std.proofs.lemmas.List.{length-replicate}
use Rattle.loaded_table.specs.Loaded.{types_in, Bounded, get_d_replicate}
use Rattle.rows.specs.Rows.{to_of, rows_before, HasRows, IsWord}
use Rattle.pools.specs.Room.{room_of}

-- a pool and places in which the rows of a setting have room, and which hold none yet
pub record Arrays (source target map pool places : List ℕ) : Type 0 where
  pub enough : room_of source target map ≤ length pool
  pub short : IsWord (length pool)
  pub long : HasRows places (types_in source)
  pub within : (row : ℕ) → to_of places row ≤ length pool

-- a pool is long enough for the rows of a setting
abbrev pub HasRoom : List ℕ → List ℕ → List ℕ → List ℕ → Type 0
HasRoom source target map pool = (room_of source target map ≤ length pool) × IsWord (length pool)

-- the symbols that the rows of any setting have at most
abbrev pub largest_pool : ℕ
largest_pool = 240384

-- a setting has few source types, and short rows
abbrev pub IsSmall : List ℕ → List ℕ → List ℕ → Type 0
IsSmall source target map = (types_in source ≤ 8) × (room_of source target map ≤ 2048)

-- a cleared pool is as long as was asked for
pub cleared_room : {room : ℕ} (n : ℕ) → room ≤ n → IsWord n → (room ≤ length {A = ℕ} (replicate n 0)) × IsWord (length {A = ℕ} (replicate n 0))
cleared_room n enough short = let is = length-replicate {A = ℕ} n 0 in (omega (arith, enough, is), omega (arith, short, is))

-- the largest one does for any setting
pub largest_room : {room : ℕ} (pool : List ℕ) → length pool ≡ largest_pool → room ≤ largest_pool → (room ≤ length pool) × IsWord (length pool)
largest_room pool long most = (omega (arith, long, most), omega (arith, long))

module _ {source target map : List ℕ} where
  -- cleared places hold no rows
  cleared_places : (n : ℕ) {pool : List ℕ} → HasRoom source target map pool → 3 * rows_before (types_in source) ≤ n → Arrays source target map pool (replicate n 0)
  cleared_places n room long =
      record {
        enough = room.0;
        short = room.1;
        long = omega (arith, long, length-replicate {A = ℕ} n 0);
        within = λ row. omega (arith, get_d_replicate n (3 * row + 1));
      }

  -- the smallest arrays, cleared, are enough for a small setting
  pub small_arrays : IsSmall source target map → Arrays source target map (replicate 2048 0) (replicate 600 0)
  small_arrays small = cleared_places 600 (cleared_room 2048 small.1 (omega arith)) (omega (arith, small.0))

  -- and 3,456 numbers for the places of any setting's rows
  pub full_arrays : {pool : List ℕ} → HasRoom source target map pool → Bounded source → Arrays source target map pool (replicate 3456 0)
  full_arrays room bounded = cleared_places 3456 room (omega (arith, bounded.few_types))
