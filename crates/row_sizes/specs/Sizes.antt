-- Sizes from the numbers that the loaded target table keeps are those of the model, held at 60,001.
use Rattle.std.specs.Prelude.{◌≡◌, ℕ, zero, suc, ◌+◌, ◌-◌, ◌*◌, ◌≤◌, ◌<◌, min, max, length, drop, get_or}
use Rattle.std.proofs.Math.Path.{refl, ap}
use Rattle.std.proofs.Common.{◌∙◌, arith, length-take}
use mathlib.Core.List.{List, [], ◌∷◌}
use Rattle.std.proofs.Math.Option.{Option}
use Rattle.model.specs.Definitions.Commands.{Need, needed}
use Rattle.model.specs.Definitions.Table.{choice, Table, kind_of}
use Rattle.model.specs.Definitions.Image.{Setting}
use Rattle.model.specs.Definitions.Heights.{height_of}
use Rattle.model.specs.Definitions.Filler.{filler_length}
use Rattle.model.specs.Definitions.Templates.{Symbol, opening, closing, filler, hole, row_length, row_levels, row_filler, template, item_template, divided_of, own_length, own_filler, own_levels, item_length, item_filler, item_levels}
use Rattle.model.proofs.Theorems.Facts.{All, all_none, all_more}
use Rattle.model.proofs.Theorems.Templates.{TypeBelow, template_types, item_types}
use Rattle.loaded_table.specs.Kinds.{each_code}
use Rattle.loaded_table.specs.Loaded.{Bounded, Kept, kind_from, table_by, types_in, kinds_of, counts_of, members_in, length_of_lem, kind_of_lem}
use Rattle.loaded_setting.specs.Ready.{setting_in, Ready}
use Rattle.rows.specs.Rows.{member_index, row_index, source_row, item_row, FirstChild, of_choice, of_nothing, Rows, SizeAt, Sizes, HasRows, rows_before}
use Rattle.row_sizes.specs.Sizing.{height_at, fill_at, TypeSized}

module _ {target : List ℕ} {T : Table} (kept : Kept target T) where
  -- parts of a sum may be held
  held_sum : (f a b : ℕ) → min 60001 a ≡ min 60001 b → min 60001 (min 60001 f + a) ≡ min 60001 (f + b)
  held_sum f a b e = omega (arith, e)

  length_same : (row : List Symbol) → All (TypeBelow (length T)) row → min 60001 (row_length (fill_at target) row) ≡ min 60001 (row_length (filler_length T) row)
  unfolding row_length
  length_same [] all_none = refl
  length_same (opening t ∷ row) (all_more h rest) = omega (arith, length_same row rest)
  length_same (closing ∷ row) (all_more h rest) = length_same row rest
  length_same (filler t ∷ row) (all_more h rest) = rw (kept.fill_at_lem t h) (held_sum (filler_length T t) _ _ (length_same row rest))
  length_same (hole g ∷ row) (all_more h rest) = length_same row rest

  filler_same : (row : List Symbol) → All (TypeBelow (length T)) row → min 60001 (row_filler (fill_at target) row) ≡ min 60001 (row_filler (filler_length T) row)
  unfolding row_filler
  filler_same [] all_none = refl
  filler_same (opening t ∷ row) (all_more h rest) = filler_same row rest
  filler_same (closing ∷ row) (all_more h rest) = filler_same row rest
  filler_same (filler t ∷ row) (all_more h rest) = rw (kept.fill_at_lem t h) (held_sum (filler_length T t) _ _ (filler_same row rest))
  filler_same (hole g ∷ row) (all_more h rest) = filler_same row rest

  levels_same : (d : ℕ) (row : List Symbol) → All (TypeBelow (length T)) row → row_levels (height_at target) d row ≡ row_levels (height_of T) d row
  unfolding row_levels
  levels_same d [] all_none = refl
  levels_same d (opening t ∷ row) (all_more h rest) = ap (max (suc d)) (levels_same (suc d) row rest)
  levels_same d (closing ∷ row) (all_more h rest) = levels_same (d - 1) row rest
  levels_same d (filler t ∷ row) (all_more h rest) = rw (kept.height_at_lem t, levels_same d row rest) refl
  levels_same d (hole g ∷ row) (all_more h rest) = levels_same d row rest

  size_same : {sizes : List ℕ} {r : ℕ} (d : ℕ) (row : List Symbol) → All (TypeBelow (length T)) row
      → SizeAt sizes r (row_levels (height_at target) d row) (row_length (fill_at target) row) (row_filler (fill_at target) row)
      → SizeAt sizes r (row_levels (height_of T) d row) (row_length (filler_length T) row) (row_filler (filler_length T) row)
  size_same d row types at =
      record {
        levels_are = at.levels_are ∙ ap (min 60001) (levels_same d row types);
        bytes_are = at.bytes_are ∙ length_same row types;
        filler_is = at.filler_is ∙ filler_same row types;
      }

-- how many rows a source type has by the code of its kind, besides that of an item: a choice one for each member, an optional choice
-- also that of nothing
abbrev pub row_count : ℕ → ℕ → ℕ
row_count zero count = 1
row_count (suc zero) count = 1
row_count (suc (suc zero)) count = 1
row_count (suc (suc (suc zero))) count = count
row_count (suc (suc (suc (suc zero)))) count = count + 1
row_count (suc (suc (suc (suc (suc code))))) count = 1

pub row_count_small : (code count : ℕ) → count ≤ 16 → row_count code count ≤ 17
row_count_small code count few =
    each_code (λ (k : ℕ). row_count k count ≤ 17) (omega arith) (omega arith) (omega arith) (omega arith) (omega arith) (λ k. omega arith) code

-- the place of the first child of a choice: among its members, or behind them where it needs none
pub choice_below : {t : Option ℕ} {need : Need} {ms : List ℕ} → FirstChild t (choice need ms) → (member_index t ms ≤ length ms) × (need ≡ needed → member_index t ms < length ms)
unfolding member_index
choice_below (of_choice h) = (omega arith, λ e. h)
choice_below of_nothing = (omega arith, λ e. let z : ◌≡◌ {A = ℕ} 0 1 = cc in absurd (omega arith))

index_below : (code count : ℕ) {t : Option ℕ} (row : List ℕ) → FirstChild t (kind_from code count row) → row_index (kind_from code count row) t < row_count code count
unfolding row_index
index_below code count {t} row =
    each_code (λ (k : ℕ). FirstChild t (kind_from k count row) → row_index (kind_from k count row) t < row_count k count)
    (λ chosen. omega arith) (λ chosen. omega arith) (λ chosen. omega arith)
    (λ chosen. omega (arith, (choice_below chosen).1 refl, length-take count row)) (λ chosen. omega (arith, (choice_below chosen).0, length-take count row)) (λ k chosen. omega arith) code

-- which of its rows a source type takes
pub source_index_below : (source : List ℕ) (s : ℕ) (t : Option ℕ) → s < types_in source → FirstChild t (kind_of (table_by source) s)
    → row_index (kind_of (table_by source) s) t < row_count (get_or (kinds_of source) s 0) (get_or (counts_of source) s 0)
source_index_below source s t exists chosen =
    rw (kind_of_lem source s exists) (index_below (get_or (kinds_of source) s 0) (get_or (counts_of source) s 0) (drop (s * 16) (members_in source)) (rw (kind_of_lem source s exists) at chosen))

pub source_index_small : {source : List ℕ} → Bounded source → (s : ℕ) (t : Option ℕ) → s < types_in source → FirstChild t (kind_of (table_by source) s) → row_index (kind_of (table_by source) s) t < 17
source_index_small {source} bounded s t exists chosen =
    omega (arith, source_index_below source s t exists chosen, row_count_small (get_or (kinds_of source) s 0) (get_or (counts_of source) s 0) (bounded.few_members s))

-- the row of a source type is one of the rows
pub source_row_small : {source : List ℕ} → Bounded source → (s : ℕ) (t : Option ℕ) → s < types_in source → FirstChild t (kind_of (table_by source) s)
    → source_row (table_by source) s t < rows_before (types_in source)
unfolding source_row
source_row_small bounded s t exists chosen = omega (arith, source_index_small bounded s t exists chosen)

-- sizes of the rows of all source types are the sizes of a setting's templates
pub sized_all : {source target map em pool places sizes : List ℕ} → Ready source target map em → Rows (setting_in source target map em) pool places
    → HasRows sizes (types_in source) → ((s : ℕ) → s < types_in source → TypeSized source target pool places sizes s) → Sizes (setting_in source target map em) sizes
unfolding own_length own_filler own_levels item_length item_filler item_levels item_row
sized_all {source} {target} {map} {em} {pool} {places} {sizes} ready rows long sized =
    record {
      long = rw (length_of_lem source) long;
      own_size = λ s t exists chosen.
          let row = template_types X ready.valid s t exists in
          size_same ready.kept 0 (template X s t) row
          (rw (rows.own_depth s t exists chosen, rows.template_at s t exists chosen) at ((sized s (omega (arith, length_of_lem source))).own t chosen).at);
      item_size = λ s m exists e.
          let row = item_types X ready.valid s m exists e in
          size_same ready.kept (length (divided_of X s).before) (item_template X s) row
          (rw (rows.item_depth s m exists e, rows.item_at s m exists e) at (sized s (omega (arith, length_of_lem source))).item.at);
    }
  where
    X : Setting
    X = setting_in source target map em
