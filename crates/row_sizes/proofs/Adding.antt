-- One symbol more, by its number; and the loop along a row.
use mathlib.Core.Path.{◌≡◌, refl, sym, ap, ◌∙◌}
use mathlib.Core.List.{List, [], ◌∷◌}
use Prim.Native.Nat.{ℕ, suc, ◌+◌, ◌-◌, ◌≤◌, ◌<◌, min, max}
use native.Mathlib.Numerals.{add-one}
use native.Mathlib.Omega.{arith}
use lib.ListN.{length, get_or}
use Rattle.model.specs.Definitions.Templates.{filler, row_length, row_levels, row_filler}
use Rattle.rows.specs.Rows.{symbol_of, row_in}
use Rattle.rows.specs.Symbols.{is_opening, is_filler, is_hole, is_closing, row_none, row_cons}
use Rattle.row_sizes.specs.declared.Sums.{Sums}
use Rattle.row_sizes.specs.Sizing.{height_at, fill_at, Small, AddsSymbol, Measures}

-- holding a part of a greatest number changes nothing in the whole that is held
held_max : (l x y : ℕ) → min 60001 (max (min 60001 (max l x)) y) ≡ min 60001 (max l (max x y))
held_max l x y = first (max l x) y ∙ ap (min 60001) (second l x y)
  where
    first : (a y : ℕ) → min 60001 (max (min 60001 a) y) ≡ min 60001 (max a y)
    first a y = omega arith

    second : (l x y : ℕ) → max (max l x) y ≡ max l (max x y)
    second l x y = omega arith

module _ {target : List ℕ} {n : ℕ} {s r : Sums} (small : Small s) where
  -- an element opens
  pub adds_opening : n < 64 → r.depth ≡ s.depth + 1 → r.levels ≡ min 60001 (max s.levels (s.depth + 1)) → r.bytes ≡ min 60001 (s.bytes + 3) → r.filler ≡ s.filler
      → AddsSymbol target n s r
  unfolding row_levels row_length row_filler
  adds_opening is depth levels bytes fill =
      let next : r.depth ≡ suc s.depth = omega arith in
      record {
        depth = omega arith;
        high = (omega arith, omega arith, omega (arith, small.filler));
        levels = λ rest. rw (is_opening n is, next, levels, add-one s.depth) (held_max s.levels (suc s.depth) _);
        bytes = λ rest. rw (is_opening n is) (omega (arith, bytes));
        filler = λ rest. rw (is_opening n is, fill) refl;
      }

  -- filler
  pub adds_filler : 64 ≤ n → n < 128 → {t h f : ℕ} → t ≡ n - 64 → h ≡ height_at target t → f ≡ fill_at target t → r.depth ≡ s.depth
      → r.levels ≡ min 60001 (max s.levels (s.depth + h)) → r.bytes ≡ min 60001 (s.bytes + f) → r.filler ≡ min 60001 (s.filler + f) → AddsSymbol target n s r
  unfolding row_levels row_length row_filler
  adds_filler low high {t} {h} {f} is height fill depth levels bytes filled =
      let symbol : symbol_of n ≡ filler t = is_filler n low high ∙ ap filler (sym is) in
      record {
        depth = omega arith;
        high = (omega arith, omega arith, omega arith);
        levels = λ rest. rw (symbol, depth, levels, sym height) (held_max s.levels (s.depth + h) _);
        bytes = λ rest. rw (symbol, sym fill) (omega (arith, bytes));
        filler = λ rest. rw (symbol, sym fill) (omega (arith, filled));
      }

  -- an element closes
  pub adds_closing : 145 < n → r.depth ≡ s.depth - 1 → r.levels ≡ s.levels → r.bytes ≡ s.bytes → r.filler ≡ s.filler → AddsSymbol target n s r
  unfolding row_levels row_length row_filler
  adds_closing is depth levels bytes fill =
      record {
        depth = omega arith;
        high = (omega (arith, small.levels), omega (arith, small.bytes), omega (arith, small.filler));
        levels = λ rest. rw (is_closing n is, depth, levels) refl;
        bytes = λ rest. rw (is_closing n is, bytes) refl;
        filler = λ rest. rw (is_closing n is, fill) refl;
      }

-- a hole adds nothing
pub adds_hole : {target : List ℕ} {n : ℕ} {s : Sums} → Small s → 128 ≤ n → n ≤ 145 → AddsSymbol target n s s
unfolding row_levels row_length row_filler
adds_hole {n = n} small low high =
    let is = is_hole n (low, high) in
    record {
      depth = omega arith;
      high = (small.levels, small.bytes, small.filler);
      levels = λ rest. rw is refl;
      bytes = λ rest. rw is refl;
      filler = λ rest. rw is refl;
    }

-- the sums of the symbols before place i come with those behind it to the sums of all
pub record SumsAlong (target pool : List ℕ) (from to depth : ℕ) (s : Sums) (i : ℕ) : Type 0 where
  pub grown : s.depth + from ≤ depth + i
  pub high : (s.levels ≤ 60001) × (s.bytes ≤ 60001) × (s.filler ≤ 60001)
  pub levels : min 60001 (max s.levels (row_levels (height_at target) s.depth (row_in pool i to))) ≡ min 60001 (row_levels (height_at target) depth (row_in pool from to))
  pub bytes : min 60001 (s.bytes + row_length (fill_at target) (row_in pool i to)) ≡ min 60001 (row_length (fill_at target) (row_in pool from to))
  pub filler : min 60001 (s.filler + row_filler (fill_at target) (row_in pool i to)) ≡ min 60001 (row_filler (fill_at target) (row_in pool from to))

module _ {target pool : List ℕ} {from to depth : ℕ} {s : Sums} {i : ℕ} (now : SumsAlong target pool from to depth s i) where
  pub along_more : i < to → to ≤ length pool → {r : Sums} {n : ℕ} → n ≡ get_or pool i 0 → AddsSymbol target n s r → SumsAlong target pool from to depth r (i + 1)
  along_more less within {n = n} is adds =
      let first : row_in pool i to ≡ symbol_of n ∷ row_in pool (i + 1) to = rw is (row_cons pool i to less within) in
      record {
        grown = omega (arith, now.grown, adds.depth);
        high = adds.high;
        levels = adds.levels (row_in pool (i + 1) to) ∙ (rw first at now.levels);
        bytes = adds.bytes (row_in pool (i + 1) to) ∙ (rw first at now.bytes);
        filler = adds.filler (row_in pool (i + 1) to) ∙ (rw first at now.filler);
      }

  pub along_all : to ≤ i → Measures target (row_in pool from to) depth (record { levels = s.levels; bytes = s.bytes; filler = s.filler })
  unfolding row_levels row_length row_filler
  along_all over =
      let none : row_in pool i to ≡ [] = row_none pool i to over in
      let levels : min 60001 (max s.levels 0) ≡ min 60001 (row_levels (height_at target) depth (row_in pool from to)) = rw none at now.levels in
      let bytes : min 60001 (s.bytes + 0) ≡ min 60001 (row_length (fill_at target) (row_in pool from to)) = rw none at now.bytes in
      let fill : min 60001 (s.filler + 0) ≡ min 60001 (row_filler (fill_at target) (row_in pool from to)) = rw none at now.filler in
      record { levels = omega (arith, levels, now.high.0); bytes = omega (arith, bytes, now.high.1); filler = omega (arith, fill, now.high.2) }
