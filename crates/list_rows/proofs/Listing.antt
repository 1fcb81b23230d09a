-- The rows of a source list, by the values that the code has.
use mathlib.Core.Path.{◌≡◌, subst}
use mathlib.Core.Option.{none}
use mathlib.Core.List.{List}
use Prim.Native.Nat.{ℕ, ◌+◌, ◌-◌, ◌*◌, ◌≤◌, ◌<◌}
use native.Mathlib.Numerals.{add-one}
use native.Mathlib.Omega.{arith}
use lib.ListN.{length, get_or}
use Rattle.model.specs.Definitions.Embedding.{divide}
use Rattle.model.specs.Definitions.Image.{Setting}
use Rattle.model.specs.Definitions.Templates.{Symbol, template, item_template, divided_of, filler_row}
use Rattle.loaded_table.specs.Loaded.{table_by, types_in, kinds_of, length_of_lem}
use Rattle.loaded_embedding.specs.Loaded.{starts_of, lengths_of, targets_of, steps_from}
use Rattle.loaded_setting.specs.Ready.{setting_in, Ready}
use Rattle.paths.specs.declared.Cut.{Cut}
use Rattle.paths.specs.Following.{Followable, Cuts}
use Rattle.paths.specs.Edges.{list-follows}
use Rattle.rows.specs.Rows.{rows_before, HasRow, IsWord}
use Rattle.growing.specs.declared.Edges.{Edges}
use Rattle.growing.specs.Growing.{Puts, Task, element_row, step_bound}
use Rattle.growing.specs.Laws.{puts-after}
use Rattle.filler_rows.specs.Storing.{PlacedRow, RowMade, Stored}
use Rattle.filler_rows.specs.Laws.{made_as_written, puts_as}
use Rattle.own_rows.specs.Making.{held_row}
use Rattle.own_rows.specs.Wanted.{done_filler}
use Rattle.own_rows.specs.Progress.{NextToMake}
use Rattle.own_rows.specs.OnePath.{one_path}
use Rattle.list_rows.specs.Lists.{before_path, rest_path, CutAt, before_room, rest_room, depth_is, before-task, before-row, before_short, rest-task, rest-row, rest_short, list_room}

-- the path from an item on
pub rest_path_is : (map : List ℕ) (s : ℕ) (r : Cut) {start steps : ℕ} → start ≡ get_or (starts_of map) (s * 16) 0 → steps ≡ get_or (lengths_of map) (s * 16) 0
    → {e : Edges} → e ≡ one_path (start + 2 * (r.depth + 1) + 2) (steps - (r.depth + 1)) 128 → e ≡ rest_path map s r
rest_path_is map s r is-start is-steps e = rw (is-start, is-steps, add-one r.depth) at e

module _ {source target map em : List ℕ} (ready : Ready source target map em) {s : ℕ} (exists : s < types_in source) (code : 5 ≤ get_or (kinds_of source) s 0) where
  abbrev X : Setting
  X = setting_in source target map em

  -- its path can be followed, and is divided
  module _ {start steps t : ℕ} (is-start : start ≡ get_or (starts_of map) (s * 16) 0) (is-steps : steps ≡ get_or (lengths_of map) (s * 16) 0) (is_type : t ≡ get_or (targets_of map) s 0) where
    pub follows-at : Followable target em start steps t
    follows-at = rw (is-start, is-steps, is_type) (list-follows ready exists code)

    pub cut_at : {r : Cut} → Cuts em start steps (divide (table_by target) t (steps_from em (start + 2) steps)) r → CutAt target map em s r
    cut_at cuts = rw (is-start, is-steps, is_type) at cuts

  module _ {r : Cut} (cuts : CutAt target map em s r) {e : Edges} where
    -- its own row
    module _ {t : ℕ} (is-path : e ≡ before_path map s r) (is_type : t ≡ get_or (targets_of map) s 0) where
      own-short : length (element_row target em e step_bound t) ≤ before_room X s
      own-short = rw (is-path, is_type) (before_short ready exists code cuts)

      pub own-needs : {pool places : List ℕ} {at : ℕ} → NextToMake source target map em pool places s at → {row : ℕ} → row ≡ rows_before s
          → Task target em e step_bound t × (Stored pool places at t (filler_row (table_by target) t) 0
          × ((at + length (element_row target em e step_bound t) ≤ length pool) × IsWord (length pool) × HasRow places row × HasRow places t))
      own-needs {pool} {places} {at} next {row} is_row =
          let task : Task target em e step_bound t = rw (is-path, is_type) (before-task ready exists code cuts) in
          let small : t < 64 = omega (arith, task.is_type, task.bounded.few_types) in
          let long = next.makeable.long in
          let room : at + length (element_row target em e step_bound t) ≤ length pool = omega (arith, own-short, list_room ready exists code next.progress) in
          let own : HasRow places row = omega (arith, is_row, long) in
          let filler : HasRow places t = omega (arith, long) in
          (task, (done_filler next.progress.done t (omega (arith, task.is_type, length_of_lem target)) (omega arith), (room, next.makeable.small, own, filler)))

      pub own-made : {pool places : List ℕ} {at row : ℕ} {pool' places' : List ℕ} {end : ℕ} → RowMade pool places at row (held_row target em e t) 0 pool' places' end × (end ≤ at + length (element_row target em e step_bound t))
          → RowMade pool places at row (template X s none) 0 pool' places' end × (end ≤ at + before_room X s)
      own-made {pool} {places} {at} {row} {pool'} {places'} {end} made =
          (subst (λ (content : List Symbol). RowMade pool places at row content 0 pool' places' end) (rw (is-path, is_type) (before-row ready exists code cuts)) made.0, omega (arith, made.1, own-short))

    -- the row of an item
    module _ (is-path : e ≡ rest_path map s r) where
      pub item-task : Task target em e step_bound r.item
      item-task = rw is-path (rest-task ready exists code cuts)

      pub item-short : length (element_row target em e step_bound r.item) ≤ rest_room map X s
      item-short = rw is-path (rest_short ready exists code cuts)

      module _ {pool pool' : List ℕ} {at end : ℕ} (puts : Puts pool pool' at (element_row target em e step_bound r.item) end) (room : at + rest_room map X s ≤ length pool) where
        pub item-end : (at ≤ end) × (end ≤ length pool) × (end ≤ at + rest_room map X s)
        item-end = (omega (arith, puts-after puts), omega (arith, puts-after puts, item-short), omega (arith, puts-after puts, item-short))

        pub item-made : {places places' : List ℕ} {row : ℕ} → PlacedRow places places' row at end r.depth
            → RowMade pool places at row (item_template X s) (length (divided_of X s).before) pool' places' end
        item-made {places} {places'} {row} placed =
            made_as_written (puts_as (rw is-path (rest-row ready exists code cuts)) puts) item-end.1
            (subst (PlacedRow places places' row at end) (depth_is ready exists code cuts) placed)
