-- The row of an element is short: by the steps of the edges below it.
use Rattle.std.specs.Prelude.{◌≡◌, refl, true, List, [], ◌∷◌, ℕ, zero, suc, ◌+◌, ◌*◌, ◌≤◌, length, drop, get_or, ltb, Bool, false}
use Rattle.std.proofs.Common.{sym, ap, ◌∙◌, arith, length-append, length-take, ltb-true, ltb-false}
use Rattle.std.proofs.Math.ListN.{get_or-eq_default}
use Rattle.model.specs.Definitions.Table.{empty, sequence, Table, kind_of}
use Rattle.model.specs.Definitions.Image.{is_placed}
use Rattle.model.specs.Definitions.Templates.{closing, row_of}
use Rattle.model.proofs.Theorems.Facts.{All, all_none, all_more}
use Rattle.loaded_table.specs.Loaded.{Bounded, table_by, types_in, kinds_of, counts_of, members_in, length_of_lem, kind_of_lem}
use Rattle.loaded_embedding.specs.Loaded.{starts_of, lengths_of, steps_from}
use Rattle.loaded_table.specs.Kinds.{code_sequence}
use Rattle.growing.specs.declared.Edges.{Edges}
use Rattle.growing.specs.Growing.{placement_of, placements_of, Task, element_row}
use Rattle.growing.specs.Parts.{held, first_path_lem, row-built}
use Rattle.pools.specs.Room.{edge_room}
use Rattle.own_rows.specs.Making.{edge_placements}
use Rattle.own_rows.specs.Bounds.{weight, IsGap, grow_bound}

pub steps_long : (em : List ℕ) (o n : ℕ) → length (steps_from em o n) ≡ n
unfolding steps_from
steps_long em o zero = refl
steps_long em o (suc n) = ap suc (steps_long em (o + 2) n)

-- w edges have room for 3 symbols each and what the paths of some of them can add
pub edges_room : (em map : List ℕ) (i h n w : ℕ) → n ≤ w → weight (edge_placements em map i h n) + 3 * w ≤ edge_room map i w
unfolding weight edge_placements edge_room placement_of
edges_room em map i h zero zero few = omega arith
edges_room em map i h zero (suc w) few = omega (arith, edges_room em map (suc i) h zero w (omega arith))
edges_room em map i h (suc n) zero few = absurd (omega arith)
edges_room em map i h (suc n) (suc w) few =
    rw (steps_long em (get_or (starts_of map) i 0 + 2) (get_or (lengths_of map) i 0)) (omega (arith, edges_room em map (suc i) (suc h) n w (omega arith)))

pub edges_gaps : (em map : List ℕ) (i h n : ℕ) → All IsGap (edge_placements em map i h n)
unfolding edge_placements placement_of row_of
edges_gaps em map i h zero = all_none
edges_gaps em map i h (suc n) =
    let one : IsGap (placement_of em (get_or (starts_of map) i 0 + 2) (get_or (lengths_of map) i 0) h) = omega arith in
    all_more one (edges_gaps em map (suc i) (suc h) n)

-- a sequence has at most 16 members
few_of : {target : List ℕ} → Bounded target → (τ : ℕ) (ms : List ℕ) → kind_of (table_by target) τ ≡ sequence ms → length ms ≤ 16
few_of {target} bounded τ ms kind = go (ltb τ (types_in target)) refl
  where
    beyond : (T : Table) (t : ℕ) → length T ≤ t → kind_of T t ≡ sequence ms → length ms ≤ 16
    beyond T t over e = differ (sym (no_type_lem T t over) ∙ e)
      where
        no_type_lem : (T : Table) (t : ℕ) → length T ≤ t → kind_of T t ≡ empty
        no_type_lem T t over = unfold kind_of in get_or-eq_default T empty over

        differ : empty ≡ sequence ms → length ms ≤ 16
        differ e = let z : ◌≡◌ {A = ℕ} 0 1 = cc in absurd (omega arith)

    go : (b : Bool) → ltb τ (types_in target) ≡ b → length ms ≤ 16
    go true e =
        let row = drop (τ * 16) (members_in target) in
        let found = code_sequence (get_or (kinds_of target) τ 0) (get_or (counts_of target) τ 0) row ms (sym (kind_of_lem target τ (ltb-true τ (types_in target) e)) ∙ kind) in
        omega (arith, ap length found.1, length-take (get_or (counts_of target) τ 0) row, bounded.few_members τ)
    go false e = beyond (table_by target) τ (omega (arith, ltb-false τ (types_in target) e, length_of_lem target)) kind

-- an element with paths below it
pub element_short : {target em : List ℕ} {e : Edges} {n t : ℕ} → Task target em e n t → (e.count ≡ 0 → ⊥) → All IsGap (placements_of em e)
    → length (element_row target em e n t) ≤ 2 + weight (placements_of em e)
unfolding is_placed
element_short {target} {em} {e} {n} {t} task some gaps =
    let there : is_placed (placements_of em e) ≡ true = rw (first_path_lem target em e n t some) refl in
    let content = grow_bound (table_by target) (few_of task.bounded) n t task.fits gaps there in
    omega (arith, content, ap length (row-built target em e n t some), length-append (held target em e n t) (closing ∷ []))
