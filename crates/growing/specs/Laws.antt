-- Laws of rows that are written, and of paths in arrays.
use Rattle.std.specs.Prelude.{◌≡◌, Bool, List, [], ◌∷◌, ◌++◌, ℕ, zero, suc, ◌+◌, ◌-◌, ◌*◌, ◌≤◌, ◌<◌, set}
use Rattle.std.proofs.Math.Path.{refl}
use Rattle.std.proofs.Common.{sym, ap, ap₂, ◌∙◌, add-zero, zero-add, add-one, arith, length-append}
use Rattle.std.proofs.Math.Bool.{true, false}
use Rattle.std.proofs.lemmas.List.{map-append, length-map}
use Rattle.std.proofs.Math.ListN.{length, get_or, length-set}
use Rattle.std.proofs.lemmas.List.Edits.{sets}
use Rattle.std.proofs.Math.Seq.{length-sets, get_or-set_same, get_or-set_other}
use Rattle.std.proofs.Math.Dec.{eqb}
use borrow.Author.Tests.{eq-eqb, ne_eqb, eqb-true, eqb-false}
use Rattle.model.specs.Definitions.Basics.{pick}
use Rattle.model.specs.Definitions.Image.{Placement, under, beyond}
use Rattle.model.specs.Definitions.Templates.{Shape, Symbol}
use Rattle.loaded_embedding.specs.Loaded.{steps_from}
use Rattle.writing.specs.Laws.{sets_join}
use Rattle.rows.specs.Rows.{symbol_of, IsHole}
use Rattle.growing.specs.declared.Edges.{Edges}
use Rattle.growing.specs.Growing.{first_of, placement_of, placements_from, placements_of, no_edges, push, PathsReadable, Puts}

-- ---- rows that are written

-- nothing is written
pub puts_none : (old : List ℕ) (at : ℕ) → Puts old old at [] at
puts_none old at = record { numbers = []; written = refl; after = sym (add-zero at); means = refl }

-- two rows, the second where the first ends, are one
pub puts_then : {old mid new : List ℕ} {at : ℕ} {row row' : List Symbol} {between next : ℕ} → Puts old mid at row between → Puts mid new between row' next
    → Puts old new at (row ++ row') next
puts_then {old} {mid} {new} {at} {row} {row'} {between} {next} first second =
    record {
      numbers = first.numbers ++ second.numbers;
      written = second.written ∙ ap₂ (λ (l : List ℕ) (i : ℕ). sets l i second.numbers) first.written first.after ∙ sets_join first.numbers second.numbers old at;
      after = omega (arith, first.after, second.after, length-append first.numbers second.numbers);
      means = map-append symbol_of first.numbers second.numbers ∙ ap₂ (λ (a b : List Symbol). a ++ b) first.means second.means;
    }

-- the pool keeps its length
pub puts-length : {old new : List ℕ} {at : ℕ} {row : List Symbol} {next : ℕ} → Puts old new at row next → length new ≡ length old
puts-length {old} {at = at} w = ap length w.written ∙ length-sets old at w.numbers

-- the place after a row
pub puts-after : {old new : List ℕ} {at : ℕ} {row : List Symbol} {next : ℕ} → Puts old new at row next → next ≡ at + length row
puts-after {at = at} {row} w = w.after ∙ ap (λ (n : ℕ). at + n) (sym (length-map w.numbers symbol_of) ∙ ap length w.means)

-- ---- paths in arrays

-- the last of some paths
from_last : (em next left goal : List ℕ) (j n : ℕ)
    → placements_from em next left goal j (suc n) ≡ placements_from em next left goal j n ++ (placement_of em (get_or next (j + n) 0) (get_or left (j + n) 0) (get_or goal (j + n) 0) ∷ [])
unfolding placements_from
from_last em next left goal j zero = rw (add-zero j) refl
from_last em next left goal j (suc n) =
    let same : suc j + n ≡ j + suc n = omega arith in
    ap (λ (l : List (Placement Shape)). placement_of em (get_or next j 0) (get_or left j 0) (get_or goal j 0) ∷ l)
    (rw same at (from_last em next left goal (suc j) n))

-- a store behind some paths leaves them
from_kept : (em next left goal : List ℕ) (k a b c j n : ℕ) → j + n ≤ k
    → placements_from em (set next k a) (set left k b) (set goal k c) j n ≡ placements_from em next left goal j n
unfolding placements_from
from_kept em next left goal k a b c j zero h = refl
from_kept em next left goal k a b c j (suc n) h =
    rw (get_or-set_other next k j a 0 (λ e. omega arith), get_or-set_other left k j b 0 (λ e. omega arith), get_or-set_other goal k j c 0 (λ e. omega arith), from_kept em next left goal k a b c (suc j) n (omega arith)) refl

module _ {em : List ℕ} {e : Edges} (paths : PathsReadable em e) (less : e.count < 16) (next left goal : ℕ) where
  -- a path more is a placement more
  pub push_placements : placements_of em (push e next left goal) ≡ placements_of em e ++ (placement_of em next left goal ∷ [])
  unfolding push
  push_placements =
      rw (add-one e.count) (from_last em (set e.next e.count next) (set e.left e.count left) (set e.hole e.count goal) 0 e.count
      ∙ rw (zero-add e.count, get_or-set_same e.next e.count next 0 (omega (arith, paths.next_places)), get_or-set_same e.left e.count left 0 (omega (arith, paths.left_places)), get_or-set_same e.hole e.count goal 0 (omega (arith, paths.hole_places)), from_kept em e.next e.left e.hole e.count next left goal 0 e.count (omega arith)) refl)

  -- and the paths stay readable
  pub push_readable : next + 2 * left ≤ length em + 1 → IsHole goal → PathsReadable em (push e next left goal)
  unfolding push
  push_readable within is_hole =
      record {
        few = omega arith;
        next_places = length-set e.next e.count next ∙ paths.next_places;
        left_places = length-set e.left e.count left ∙ paths.left_places;
        hole_places = length-set e.hole e.count goal ∙ paths.hole_places;
        within = λ j h. go-within j (eqb j e.count) refl h;
        is_hole = λ j h. go-hole j (eqb j e.count) refl h;
      }
    where
      go-within : (j : ℕ) (b : Bool) → eqb j e.count ≡ b → j < e.count + 1 → get_or (set e.next e.count next) j 0 + 2 * get_or (set e.left e.count left) j 0 ≤ length em + 1
      go-within j true q h =
          let here : j ≡ e.count = eqb-true j e.count q in
          rw (here, get_or-set_same e.next e.count next 0 (omega (arith, paths.next_places)), get_or-set_same e.left e.count left 0 (omega (arith, paths.left_places))) within
      go-within j false q h =
          let other : j ≡ e.count → ⊥ = eqb-false j e.count q in
          rw (get_or-set_other e.next e.count j next 0 other, get_or-set_other e.left e.count j left 0 other) (paths.within j (omega (arith, other)))

      go-hole : (j : ℕ) (b : Bool) → eqb j e.count ≡ b → j < e.count + 1 → IsHole (get_or (set e.hole e.count goal) j 0)
      go-hole j true q h =
          let here : j ≡ e.count = eqb-true j e.count q in
          rw (here, get_or-set_same e.hole e.count goal 0 (omega (arith, paths.hole_places))) is_hole
      go-hole j false q h =
          let other : j ≡ e.count → ⊥ = eqb-false j e.count q in
          rw (get_or-set_other e.hole e.count j goal 0 other) (paths.is_hole j (omega (arith, other)))

-- no paths are readable
pub none_readable : (em : List ℕ) → PathsReadable em no_edges
unfolding no_edges
none_readable em =
    record {
      few = omega arith;
      next_places = refl;
      left_places = refl;
      hole_places = refl;
      within = λ j h. absurd (omega arith);
      is_hole = λ j h. absurd (omega arith);
    }

pub none_placed : (em : List ℕ) → placements_of em no_edges ≡ []
unfolding no_edges placements_from
none_placed em = refl

-- ---- the paths beyond a step

-- a path whose first step is q
pub under_first : (em : List ℕ) (q next left goal : ℕ) (ps : List (Placement Shape)) → 0 < q → first_of (steps_from em next left) ≡ q
    → (0 < left) × (under q (placement_of em next left goal ∷ ps) ≡ placement_of em (next + 2) (left - 1) goal ∷ under q ps)
unfolding under beyond pick placement_of first_of steps_from
under_first em q next zero goal ps some is = absurd (omega arith)
under_first em q next (suc left) goal ps some is =
    let less : suc left - 1 ≡ left = omega arith in
    (omega arith, rw (is, eq-eqb q q refl, less) refl)

-- a path with another first step, or none
pub under_another : (em : List ℕ) (q next left goal : ℕ) (ps : List (Placement Shape)) → (first_of (steps_from em next left) ≡ q → ⊥)
    → under q (placement_of em next left goal ∷ ps) ≡ under q ps
unfolding under beyond pick placement_of first_of steps_from
under_another em q next zero goal ps other = refl
under_another em q next (suc left) goal ps other = rw (ne_eqb q (get_or em next 0) (λ e. other (sym e))) refl
