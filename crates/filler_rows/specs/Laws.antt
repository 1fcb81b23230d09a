-- Laws of rows that stand in the pool.
use Rattle.std.specs.Prelude.{◌≡◌, refl, Bool, true, false, List, [], ◌∷◌, ◌++◌, map, ℕ, zero, suc, ◌+◌, ◌-◌, ◌*◌, ◌≤◌, length, take, drop, get_or, set, eqb}
use Rattle.std.proofs.Common.{sym, ap, ap₂, ◌∙◌, append_assoc, arith, take_at, drop_at, length-take-le, eqb-true}
use Rattle.std.proofs.Math.Nat.{sub-zero}
use Rattle.std.proofs.lemmas.List.Edits.{sets, sets-eq}
use Rattle.std.proofs.lemmas.List.{take-set-le}
use Rattle.std.proofs.Math.Seq.{take-nil}
use Rattle.std.proofs.lemmas.Bool.{eqb-false}
use Rattle.model.specs.Definitions.Templates.{Symbol}
use Rattle.rows.specs.Rows.{symbol_of, from_of, to_of, depth_in, row_in}
use Rattle.rows.specs.Laws.{three_length, three_other, three_first, three_second, three_third}
use Rattle.growing.specs.Growing.{Puts}
use Rattle.growing.specs.Laws.{puts-length}
use Rattle.filler_rows.specs.Storing.{Stored, PlacedRow, RowMade, Whole}

-- ---- rows in the pool

-- a row that is written stands there
pub row_there : {old new : List ℕ} {at : ℕ} {row : List Symbol} {next : ℕ} → Puts old new at row next → next ≤ length old → row_in new at next ≡ row
unfolding row_in
row_there {old} {new} {at} {row} {next} puts fits =
    let n : List ℕ = puts.numbers in
    let many : next - at ≡ length n = omega (arith, puts.after) in
    let parts : new ≡ take at old ++ (n ++ drop (at + length n) old) =
    puts.written ∙ sets-eq n old at (omega (arith, puts.after)) ∙ append_assoc (take at old) n (drop (at + length n) old) in
    ap₂ (λ (k : ℕ) (l : List ℕ). map symbol_of (take k l)) many (ap (drop at) parts ∙ drop_at (take at old) (n ++ drop (at + length n) old) at (length-take-le at old (omega (arith, puts.after))))
    ∙ ap (map symbol_of) (take_at n (drop (at + length n) old) (length n) refl)
    ∙ puts.means

-- a part of a list is the end of its beginning
part_of_take : (a b : ℕ) (l : List ℕ) → take (b - a) (drop a l) ≡ drop a (take b l)
part_of_take zero b l = rw (sub-zero b) refl
part_of_take (suc a) zero l = let none : 0 - suc a ≡ 0 = omega arith in rw none refl
part_of_take (suc a) (suc b) [] = take-nil (suc b - suc a)
part_of_take (suc a) (suc b) (x ∷ l) = let less : suc b - suc a ≡ b - a = omega arith in rw less (part_of_take a b l)

take_sets : (n : ℕ) (vs l : List ℕ) (i : ℕ) → n ≤ i → take n (sets l i vs) ≡ take n l
take_sets n [] l i h = refl
take_sets n (v ∷ vs) l i h = take_sets n vs (set l i v) (suc i) (omega arith) ∙ take-set-le n l i v h

-- a row by another name
pub puts_as : {old new : List ℕ} {at : ℕ} {row row' : List Symbol} {next : ℕ} → row ≡ row' → Puts old new at row next → Puts old new at row' next
puts_as same puts = record { numbers = puts.numbers; written = puts.written; after = puts.after; means = puts.means ∙ same }

-- rows before it stay
row_kept : {old new : List ℕ} {at : ℕ} {row : List Symbol} {next : ℕ} → Puts old new at row next → (from to : ℕ) → to ≤ at → row_in new from to ≡ row_in old from to
unfolding row_in
row_kept {old} {new} {at} puts from to before =
    ap (map symbol_of)
    (part_of_take from to new ∙ ap (drop from) (ap (take to) puts.written ∙ take_sets to puts.numbers old at before) ∙ sym (part_of_take from to old))

-- the place after a row is no smaller
pub puts_on : {old new : List ℕ} {at : ℕ} {row : List Symbol} {next : ℕ} → Puts old new at row next → at ≤ next
puts_on puts = omega (arith, puts.after)

-- ---- rows that are stored

-- stay when one is written behind them
stored_kept : {old new places : List ℕ} {at next r d : ℕ} {x row : List Symbol} → Puts old new at x next → Stored old places at r row d → Stored new places next r row d
stored_kept {places = places} {r = r} puts stored =
    record {
      ends = omega (arith, stored.ends, puts_on puts);
      holds = row_kept puts (from_of places r) (to_of places r) stored.ends ∙ stored.holds;
      depth = stored.depth;
    }

module _ {places after : List ℕ} {r from to depth : ℕ} (placed : PlacedRow places after r from to depth) where
  places_kept : (k : ℕ) → (k ≡ 3 * r → ⊥) → (k ≡ 3 * r + 1 → ⊥) → (k ≡ 3 * r + 2 → ⊥) → get_or after k 0 ≡ get_or places k 0
  places_kept k x y z = ap (λ (l : List ℕ). get_or l k 0) placed.is ∙ three_other places r from to depth placed.long k x y z

  -- stay when another is placed
  stored_beside : {pool : List ℕ} {at s d : ℕ} {row : List Symbol} → (s ≡ r → ⊥) → Stored pool places at s row d → Stored pool after at s row d
  stored_beside {pool} {at} {s} {d} {row} other stored =
      let first : from_of after s ≡ from_of places s = places_kept (3 * s) (λ e. other (omega arith)) (λ e. omega arith) (λ e. omega arith) in
      let second : to_of after s ≡ to_of places s = places_kept (3 * s + 1) (λ e. omega arith) (λ e. other (omega arith)) (λ e. omega arith) in
      let third : depth_in after s ≡ depth_in places s = places_kept (3 * s + 2) (λ e. omega arith) (λ e. omega arith) (λ e. other (omega arith)) in
      record { ends = omega (arith, second, stored.ends); holds = ap₂ (row_in pool) first second ∙ stored.holds; depth = third ∙ stored.depth }

  placed_from : from_of after r ≡ from
  placed_from = ap (λ (l : List ℕ). from_of l r) placed.is ∙ three_first places r from to depth placed.long

  placed_to : to_of after r ≡ to
  placed_to = ap (λ (l : List ℕ). to_of l r) placed.is ∙ three_second places r from to depth placed.long

  placed_depth : depth_in after r ≡ depth
  placed_depth = ap (λ (l : List ℕ). depth_in l r) placed.is ∙ three_third places r from to depth placed.long

  -- the one that is placed is stored
  stored_placed : {pool : List ℕ} {at : ℕ} {row : List Symbol} → to ≤ at → row_in pool from to ≡ row → Stored pool after at r row depth
  stored_placed {pool} before holds =
      record { ends = omega (arith, placed_to); holds = ap₂ (row_in pool) placed_from placed_to ∙ holds; depth = placed_depth }

  pub placed_length : length after ≡ length places
  placed_length = ap length placed.is ∙ three_length places r from to depth placed.long

  -- all rows still end within the pool
  placed_within : {long : ℕ} → to ≤ long → ((s : ℕ) → to_of places s ≤ long) → (s : ℕ) → to_of after s ≤ long
  placed_within {long} fits within s = go (eqb s r) refl
    where
      go : (b : Bool) → eqb s r ≡ b → to_of after s ≤ long
      go true e = let here : s ≡ r = eqb-true s r e in rw here (omega (arith, placed_to))
      go false e =
          omega (arith, within s, places_kept (3 * s + 1) (λ f. omega arith) (λ f. eqb-false s r e (omega arith)) (λ f. omega arith))

-- ---- rows that are made

-- a row that is written and placed as it is
pub made_as_written : {pool places pool' places' : List ℕ} {at row end depth : ℕ} {content : List Symbol} → Puts pool pool' at content end → end ≤ length pool
    → PlacedRow places places' row at end depth → RowMade pool places at row content depth pool' places' end
made_as_written {at = at} {end = end} {content = content} puts fits placed =
    record { written = content; puts = puts; from = at; to = end; placed = placed; ends = omega arith; holds = row_there puts fits }

module _ {pool places pool' places' : List ℕ} {at row end depth : ℕ} {content : List Symbol} (made : RowMade pool places at row content depth pool' places' end) where
  -- is stored, and so are those that were
  pub stored_made : Stored pool' places' end row content depth
  stored_made = stored_placed made.placed made.ends made.holds

  pub stored_still : {r d : ℕ} {other : List Symbol} → (r ≡ row → ⊥) → Stored pool places at r other d → Stored pool' places' end r other d
  stored_still beside stored = stored_beside made.placed beside (stored_kept made.puts stored)

  -- the pool and the places stay whole
  pub whole_more : {pool₀ places₀ : List ℕ} → Whole pool₀ places₀ pool places at → end ≤ length pool₀ → Whole pool₀ places₀ pool' places' end
  whole_more now fits =
      record {
        pool_length = puts-length made.puts ∙ now.pool_length;
        places_length = placed_length made.placed ∙ now.places_length;
        fits = fits;
        within = placed_within made.placed (omega (arith, made.ends)) now.within;
      }
