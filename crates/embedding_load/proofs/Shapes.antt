-- What holds of the arrays at every place of a document, and that each command keeps it.
use mathlib.Core.Path.{◌≡◌, refl, ◌∙◌}
use mathlib.Core.List.{List}
use mathlib.Core.Bool.{Bool, true, false}
use Prim.Native.Nat.{ℕ, ◌+◌, ◌*◌, ◌≤◌, ◌<◌}
use native.Mathlib.Omega.{arith}
use lib.ListN.{length, get_or, set, length-set, get_or-eq_default}
use lib.Seq.{get_or-set_same, get_or-set_other}
use lib.Dec.{eqb, ltb}
use borrow.Author.Tests.{eqb-true, eqb-false, ltb-true, ltb-false}
use Rattle.loaded_table.specs.Loaded.{section, in_section, section_long}
use Rattle.loaded_embedding.specs.Loaded.{Cleared}
use Rattle.embedding_load.specs.Loading.{MapArrays, loaded_in, mapped}

-- the arrays have their lengths, and every path is within the document and has at most 12 steps
pub record MapShaped (em : List ℕ) (a : MapArrays) : Type 0 where
  pub targets_long : length a.targets ≡ 64
  pub starts_long : length a.starts ≡ 1024
  pub lengths_long : length a.lengths ≡ 1024
  pub short : (i : ℕ) → get_or a.lengths i 0 ≤ 12
  pub within : (i : ℕ) → get_or a.starts i 0 + 1 + 2 * get_or a.lengths i 0 ≤ length em

-- a section of an array of zeros is one of zeros
section_zeros : (map : List ℕ) → Cleared map → (from many : ℕ) → from + many ≤ 2112 → (i : ℕ) → get_or (section from many map) i 0 ≡ 0
section_zeros map h from many fits i = go (ltb i many) refl
  where
    go : (b : Bool) → ltb i many ≡ b → get_or (section from many map) i 0 ≡ 0
    go true e = in_section from many map i (ltb-true i many e) ∙ h.zeros (from + i)
    go false e = get_or-eq_default (section from many map) 0 (rw (section_long from many map (rw h.size fits)) (ltb-false i many e))

pub shaped_cleared : (em map : List ℕ) → 1 ≤ length em → Cleared map → MapShaped em (loaded_in 0 0 map)
shaped_cleared em map some h =
    let size = h.size in
    record {
      targets_long = section_long 0 64 map (omega arith);
      starts_long = section_long 64 1024 map (omega arith);
      lengths_long = section_long 1088 1024 map (omega arith);
      short = λ i. rw (section_zeros map h 1088 1024 (omega arith) i) (omega arith);
      within = λ i. rw (section_zeros map h 1088 1024 (omega arith) i, section_zeros map h 64 1024 (omega arith) i) (omega arith);
    }

-- each command keeps it
pub shaped-mapped : (em : List ℕ) (a : MapArrays) (t : ℕ) → MapShaped em a → MapShaped em (mapped a t)
unfolding mapped
shaped-mapped em a t h =
    record {
      targets_long = length-set a.targets a.maps t ∙ h.targets_long;
      starts_long = h.starts_long;
      lengths_long = h.lengths_long;
      short = h.short;
      within = h.within;
    }

-- The arrays with a path written at a place: its start and its number of steps.
module _ (em : List ℕ) (a : MapArrays) (h : MapShaped em a) (place start count : ℕ) (room : place < 1024) (few : count ≤ 12) (inside : start + 1 + 2 * count ≤ length em) where
  short_written : (i : ℕ) → get_or (set a.lengths place count) i 0 ≤ 12
  short_written i = go (eqb i place) refl
    where
      go : (b : Bool) → eqb i place ≡ b → get_or (set a.lengths place count) i 0 ≤ 12
      go false e = rw (get_or-set_other a.lengths place i count 0 (eqb-false i place e)) (h.short i)
      go true e = rw (eqb-true i place e, get_or-set_same a.lengths place count 0 (rw h.lengths_long room)) few

  within_written : (i : ℕ) → get_or (set a.starts place start) i 0 + 1 + 2 * get_or (set a.lengths place count) i 0 ≤ length em
  within_written i = go (eqb i place) refl
    where
      go : (b : Bool) → eqb i place ≡ b → get_or (set a.starts place start) i 0 + 1 + 2 * get_or (set a.lengths place count) i 0 ≤ length em
      go false e = rw (get_or-set_other a.starts place i start 0 (eqb-false i place e), get_or-set_other a.lengths place i count 0 (eqb-false i place e)) (h.within i)
      go true e =
          rw (eqb-true i place e, get_or-set_same a.starts place start 0 (rw h.starts_long room), get_or-set_same a.lengths place count 0 (rw h.lengths_long room)) inside

  pub shaped_written : (maps edges : ℕ)
      → MapShaped em (record { maps = maps; edges = edges; targets = a.targets; starts = set a.starts place start; lengths = set a.lengths place count })
  shaped_written maps edges =
      record {
        targets_long = h.targets_long;
        starts_long = length-set a.starts place start ∙ h.starts_long;
        lengths_long = length-set a.lengths place count ∙ h.lengths_long;
        short = short_written;
        within = within_written;
      }
