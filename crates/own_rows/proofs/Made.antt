-- A row that is made: written as the inside of an element, or the row of filler placed again.
use mathlib.Core.Path.{◌≡◌, refl, sym, ap, ap₂, ◌∙◌}
use mathlib.Core.List.{List, [], ◌∷◌, ◌++◌}
use Prim.Native.Nat.{ℕ, suc, ◌+◌, ◌-◌, ◌≤◌}
use native.Mathlib.Omega.{arith}
use lib.ListN.{length, length-append}
use Rattle.model.specs.Definitions.Image.{grow, place}
use Rattle.model.specs.Definitions.Templates.{closing, filler_row}
use Rattle.loaded_table.specs.Loaded.{table_by}
use Rattle.rows.specs.Rows.{from_of, to_of, row_in}
use Rattle.growing.specs.declared.Edges.{Edges}
use Rattle.growing.specs.Growing.{placements_from, Puts, Task, element_row, step_bound}
use Rattle.growing.specs.Laws.{puts_none, puts-after, puts-length}
use Rattle.growing.specs.Parts.{held, row-built}
use Rattle.filler_rows.specs.Storing.{Stored, PlacedRow, RowMade}
use Rattle.filler_rows.specs.Laws.{puts_as}
use Rattle.own_rows.specs.Making.{held_row}
use Rattle.own_rows.specs.Laws.{row_inside}

-- an element below which nothing is placed holds what filler holds
held_filler : (target em : List ℕ) (e : Edges) (t : ℕ) → e.count ≡ 0 → held_row target em e t ≡ filler_row (table_by target) t
unfolding held_row place grow placements_from filler_row
held_filler target em e t none = rw none refl

pub made_again : {target em : List ℕ} {e : Edges} {t : ℕ} {pool places places' : List ℕ} {at row from to : ℕ} → Task target em e step_bound t → e.count ≡ 0
    → Stored pool places at t (filler_row (table_by target) t) 0 → from ≡ from_of places t → to ≡ to_of places t → PlacedRow places places' row from to 0
    → RowMade pool places at row (held_row target em e t) 0 pool places' at
made_again {target} {em} {e} {t} {pool} {places} {places'} {at} {row} {from} {to} task none stored is-from is-to placed =
    record {
      written = [];
      puts = puts_none pool at;
      from = from;
      to = to;
      placed = placed;
      ends = omega (arith, is-to, stored.ends);
      holds = ap₂ (row_in pool) is-from is-to ∙ stored.holds ∙ sym (held_filler target em e t none);
    }

held_place : (target em : List ℕ) (e : Edges) (t : ℕ) → held target em e step_bound t ≡ held_row target em e t
unfolding held_row place
held_place target em e t = refl

module _ {target em : List ℕ} {e : Edges} {t : ℕ} {pool : List ℕ} {at : ℕ} (task : Task target em e step_bound t) (some : e.count ≡ 0 → ⊥) (room : at + length (element_row target em e step_bound t) ≤ length pool)
    {pool' : List ℕ} {end : ℕ} (puts : Puts pool pool' at (element_row target em e step_bound t) end) where
  pub made_end : (at + 2 ≤ end) × (end ≤ length pool)
  made_end =
      let long : length (element_row target em e step_bound t) ≡ suc (length (held target em e step_bound t ++ closing ∷ [])) = ap length (row-built target em e step_bound t some) in
      (omega (arith, puts-after puts, long, length-append (held target em e step_bound t) (closing ∷ [])), omega (arith, puts-after puts, room))

  pub made_new : {places places' : List ℕ} {row : ℕ} → PlacedRow places places' row (at + 1) (end - 1) 0 → RowMade pool places at row (held_row target em e t) 0 pool' places' end
  made_new placed =
      record {
        written = element_row target em e step_bound t;
        puts = puts;
        from = at + 1;
        to = end - 1;
        placed = placed;
        ends = omega arith;
        holds =
            row_inside (held target em e step_bound t) closing (puts_as (row-built target em e step_bound t some) puts) (omega (arith, made_end.1, puts-length puts)) made_end.1
            ∙ held_place target em e t;
      }
