-- Room for the rows of a setting: no setting needs more than 240,384 symbols.
use Rattle.std.specs.Prelude.{Bool, true, false, List, ℕ, zero, suc, ◌+◌, ◌*◌, ◌≤◌, get_or, eqb}
use Rattle.std.proofs.Common.{arith}
use Rattle.model.specs.Definitions.Basics.{pick}
use Rattle.loaded_table.specs.Loaded.{Bounded, types_in, kinds_of, optional_kind}
use Rattle.loaded_embedding.specs.Loaded.{lengths_of}

-- room for the rows of n edges from a place on: 18 times the steps of each and 4
unfoldable pub edge_room : List ℕ → ℕ → ℕ → ℕ
edge_room map i zero = 0
edge_room map i (suc n) = 18 * get_or (lengths_of map) i 0 + 4 + edge_room map (suc i) n

-- room for the row of source type s where it is an optional choice that holds nothing: that of its first edge
unfoldable pub nothing_of : List ℕ → List ℕ → ℕ → ℕ
nothing_of source map s = pick (eqb (get_or (kinds_of source) s 0) optional_kind) (18 * get_or (lengths_of map) (s * 16) 0 + 4) 0

-- and of n source types from type s on
unfoldable pub nothing_room : List ℕ → List ℕ → ℕ → ℕ → ℕ
nothing_room source map s zero = 0
nothing_room source map s (suc n) = nothing_of source map s + nothing_room source map (suc s) n

-- 16 places for each target type, the room of all places of edges, and that of optional choices that hold nothing
unfoldable pub room_of : List ℕ → List ℕ → List ℕ → ℕ
room_of source target map = types_in target * 16 + edge_room map 0 (types_in source * 16) + nothing_room source map 0 (types_in source)

-- what one of these adds at most, whatever the numbers of an array are
abbrev pub most_of_edge : ℕ
most_of_edge = 1200000

-- an edge has at most 12 steps
edges_most : (map : List ℕ) → ((i : ℕ) → get_or (lengths_of map) i 0 ≤ 12) → (i n : ℕ) → edge_room map i n ≤ 220 * n
unfolding edge_room
edges_most map short i zero = omega arith
edges_most map short i (suc n) = omega (arith, short i, edges_most map short (suc i) n)

-- so has a row of nothing
nothing_few : (source map : List ℕ) → ((i : ℕ) → get_or (lengths_of map) i 0 ≤ 12) → (s : ℕ) → nothing_of source map s ≤ 220
unfolding nothing_of pick
nothing_few source map short s = go (eqb (get_or (kinds_of source) s 0) 4)
  where
    go : (b : Bool) → pick b (18 * get_or (lengths_of map) (s * 16) 0 + 4) 0 ≤ 220
    go true = omega (arith, short (s * 16))
    go false = omega arith

-- and those of n types
nothing_most : (source map : List ℕ) → ((i : ℕ) → get_or (lengths_of map) i 0 ≤ 12) → (s n : ℕ) → nothing_room source map s n ≤ 220 * n
unfolding nothing_room
nothing_most source map short s zero = omega arith
nothing_most source map short s (suc n) = omega (arith, nothing_few source map short s, nothing_most source map short (suc s) n)

-- and a table at most 64 types
pub room_most : (source target map : List ℕ) → Bounded source → Bounded target → ((i : ℕ) → get_or (lengths_of map) i 0 ≤ 12) → room_of source target map ≤ 240384
unfolding room_of
room_most source target map source_bounded target_bounded short =
    omega (arith, source_bounded.few_types, target_bounded.few_types, edges_most map short 0 (types_in source * 16), nothing_most source map short 0 (types_in source))
