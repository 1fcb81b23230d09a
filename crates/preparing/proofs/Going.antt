-- From the rows of filler to those of all source types.
use mathlib.Core.Path.{◌≡◌, sym, refl}
use mathlib.Core.List.{List}
use mathlib.Core.Option.{Option}
use Prim.Native.Nat.{ℕ, ◌-◌, ◌*◌, ◌≤◌, ◌<◌}
use native.Mathlib.Omega.{arith}
use lib.ListN.{length}
use Rattle.model.specs.Definitions.Table.{kind_of}
use Rattle.model.specs.Definitions.Templates.{Symbol}
use Rattle.loaded_table.specs.Loaded.{types_in, table_by, length_of_lem}
use Rattle.loaded_setting.specs.Ready.{setting_in, Ready}
use Rattle.rows.specs.Rows.{Rows, source_row, item_row, FirstChild, HasRows, rows_before}
use Rattle.row_sizes.specs.Sizes.{source_row_small}
use Rattle.filler_rows.specs.Storing.{Sound, FillersStored, Stored, Whole}
use Rattle.own_rows.specs.Wanted.{Wanted, of_filler, of_type, of_item, RowsDone}
use Rattle.own_rows.specs.Progress.{Progress}
use Rattle.own_rows.specs.Steps.{progress_from}
use Rattle.pools.specs.Room.{room_of}

pub target_sound : {source target map em : List ℕ} → Ready source target map em → Sound target
target_sound ready = record { bounded = ready.target_bounded; sound = ready.valid.target_sound; kept = ready.kept }

pub filler_room : (source target map : List ℕ) {n : ℕ} → room_of source target map ≤ n → 16 * types_in target ≤ n
unfolding room_of
filler_room source target map room = omega (arith, room)

-- rows of filler are the first
done_fillers : {source target map em pool₀ places₀ pool places : List ℕ} {at : ℕ} → Ready source target map em
    → FillersStored target pool₀ places₀ (types_in target) pool places at → RowsDone (setting_in source target map em) 64 pool places at
unfolding source_row item_row
done_fillers {source} {target} {map} {em} {pool₀} {places₀} {pool} {places} {at} ready fillers = record { stored = λ r row d wanted less. go r row d wanted less }
  where
    go : (r : ℕ) (row : List Symbol) (d : ℕ) → Wanted (setting_in source target map em) r row d → r < 64 → Stored pool places at r row d
    go r row d (of_filler τ exists is what depth) less = rw (is, what, depth) (fillers.stored τ (omega (arith, exists, length_of_lem target)))
    go r row d (of_type s t exists chosen is what depth) less = absurd (omega (arith, is))
    go r row d (of_item s m exists kind is what depth) less = absurd (omega (arith, is))

-- all rows are done
done_all : {source target map em pool₀ places₀ pool places : List ℕ} {at : ℕ} → Ready source target map em → HasRows places₀ (types_in source)
    → Whole pool₀ places₀ pool places at → RowsDone (setting_in source target map em) (rows_before (types_in source)) pool places at → Rows (setting_in source target map em) pool places
unfolding item_row
done_all {source} {target} {map} {em} {pool₀} {places₀} {pool} {places} {at} ready long whole done =
    record {
      long = omega (arith, long, whole.places_length, length_of_lem source);
      within = λ r. omega (arith, whole.within r, whole.pool_length);
      filler_at = λ τ exists. (done.stored τ _ 0 (of_filler τ exists refl refl refl) (omega (arith, exists, length_of_lem target, ready.target_bounded.few_types))).holds;
      template_at = λ s t exists chosen. (done.stored _ _ 0 (of_type s t exists chosen refl refl refl) (own_small s t exists chosen)).holds;
      item_at = λ s m exists kind. (done.stored _ _ _ (of_item s m exists kind refl refl refl) (omega (arith, exists, length_of_lem source))).holds;
      own_depth = λ s t exists chosen. (done.stored _ _ 0 (of_type s t exists chosen refl refl refl) (own_small s t exists chosen)).depth;
      item_depth = λ s m exists kind. (done.stored _ _ _ (of_item s m exists kind refl refl refl) (omega (arith, exists, length_of_lem source))).depth;
    }
  where
    own_small : (s : ℕ) (t : Option ℕ) → s < length (table_by source) → FirstChild t (kind_of (table_by source) s) → source_row (table_by source) s t < rows_before (types_in source)
    own_small s t exists chosen = source_row_small ready.source_bounded s t (omega (arith, exists, length_of_lem source)) chosen

module _ {source target map em : List ℕ} where
  -- as seen from here
  pub progress_here : {pool₀ places₀ : List ℕ} {s : ℕ} {pool places : List ℕ} {at : ℕ} → Progress source target map em pool₀ places₀ s pool places at
      → Progress source target map em pool places s pool places at
  progress_here now = progress_from (sym now.whole.pool_length) (sym now.whole.places_length) now

  -- and from where it began
  pub progress_on : {pool₀ places₀ : List ℕ} {s : ℕ} {pool places : List ℕ} {at : ℕ} → Progress source target map em pool₀ places₀ s pool places at
      → {s' : ℕ} {pool' places' : List ℕ} {at' : ℕ} → Progress source target map em pool places s' pool' places' at' → Progress source target map em pool₀ places₀ s' pool' places' at'
  progress_on now next = progress_from now.whole.pool_length now.whole.places_length next

  -- the rows of filler are made
  pub progress_fillers : Ready source target map em → {pool₀ places₀ pool places : List ℕ} {at : ℕ} → room_of source target map ≤ length pool₀
      → FillersStored target pool₀ places₀ (types_in target) pool places at → Progress source target map em pool₀ places₀ 0 pool places at
  unfolding room_of
  progress_fillers ready room fillers =
      let none : rows_before 0 ≡ 64 = omega arith in
      let all : types_in source - 0 ≡ types_in source = omega arith in
      let first : 0 * 16 ≡ 0 = omega arith in
      record { whole = fillers.whole; done = rw none (done_fillers ready fillers); room = rw (first, all) (omega (arith, room, fillers.few)) }

  -- the rows of all types are made
  pub progress_all : Ready source target map em → {pool₀ places₀ : List ℕ} {s : ℕ} {pool places : List ℕ} {at : ℕ} → HasRows places₀ (types_in source) → s ≡ types_in source
      → Progress source target map em pool₀ places₀ s pool places at → Rows (setting_in source target map em) pool places
  progress_all ready long is now = done_all ready long now.whole (rw is at now.done)
