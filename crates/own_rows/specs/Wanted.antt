-- The rows that a setting wants, by number; rows are made in the order of their numbers.
use Rattle.std.specs.Prelude.{◌≡◌, refl, Bool, true, false, List, ℕ, ◌+◌, ◌<◌, length, eqb}
use Rattle.std.proofs.Math.Option.{Option}
use Rattle.std.proofs.Common.{arith, eqb-true}
use Rattle.std.proofs.lemmas.Bool.{eqb-false}
use Rattle.model.specs.Definitions.Table.{kind_of, list}
use Rattle.model.specs.Definitions.Image.{Setting}
use Rattle.model.specs.Definitions.Templates.{Symbol, template, item_template, filler_row, divided_of}
use Rattle.loaded_table.specs.Loaded.{length_of_lem}
use Rattle.loaded_setting.specs.Ready.{setting_in, Ready}
use Rattle.rows.specs.Rows.{row_index, source_row, item_row, FirstChild, type_row}
use Rattle.row_sizes.specs.Sizes.{source_index_small}
use Rattle.filler_rows.specs.Storing.{Stored, RowMade}
use Rattle.filler_rows.specs.Laws.{stored_made, stored_still}

-- row r is to be `row`, with d elements open around it
pub data Wanted (X : Setting) (r : ℕ) (row : List Symbol) (d : ℕ) : Type 0 where
  of_filler : (τ : ℕ) → τ < length X.target → r ≡ τ → row ≡ filler_row X.target τ → d ≡ 0 → Wanted X r row d
  of_type : (s : ℕ) (t : Option ℕ) → s < length X.source → FirstChild t (kind_of X.source s) → r ≡ source_row X.source s t → row ≡ template X s t → d ≡ 0 → Wanted X r row d
  of_item : (s m : ℕ) → s < length X.source → kind_of X.source s ≡ list m → r ≡ item_row s → row ≡ item_template X s → d ≡ length (divided_of X s).before → Wanted X r row d

-- the rows before number k stand before place `at`
pub record RowsDone (X : Setting) (k : ℕ) (pool places : List ℕ) (at : ℕ) : Type 0 where
  pub stored : (r : ℕ) (row : List Symbol) (d : ℕ) → Wanted X r row d → r < k → Stored pool places at r row d

-- a row of filler is there
pub done_filler : {X : Setting} {k : ℕ} {pool places : List ℕ} {at : ℕ} → RowsDone X k pool places at → (τ : ℕ) → τ < length X.target → τ < k → Stored pool places at τ (filler_row X.target τ) 0
done_filler now τ exists less = now.stored τ _ 0 (of_filler τ exists refl refl refl) less

-- one row more, where it is what is wanted
pub done_more : {X : Setting} {k : ℕ} {pool places : List ℕ} {at : ℕ} {content : List Symbol} {depth : ℕ} {pool' places' : List ℕ} {end : ℕ} → RowsDone X k pool places at
    → RowMade pool places at k content depth pool' places' end → ((row : List Symbol) (d : ℕ) → Wanted X k row d → (content ≡ row) × (depth ≡ d)) → RowsDone X (k + 1) pool' places' end
done_more {X} {k} {pool} {places} {at} {content} {depth} {pool'} {places'} {end} now made is =
    record { stored = λ r row d wanted less. go r row d wanted less (eqb r k) refl }
  where
    go : (r : ℕ) (row : List Symbol) (d : ℕ) → Wanted X r row d → r < k + 1 → (b : Bool) → eqb r k ≡ b → Stored pool' places' end r row d
    go r row d wanted less true e =
        let here : r ≡ k = eqb-true r k e in
        let what = is row d (rw here at wanted) in
        rw (here, ← what.0, ← what.1) (stored_made made)
    go r row d wanted less false e = stored_still made (eqb-false r k e) (now.stored r row d wanted (omega (arith, eqb-false r k e)))

-- rows that nobody wants are passed
pub done_past : {X : Setting} {k : ℕ} {pool places : List ℕ} {at : ℕ} (k' : ℕ) → RowsDone X k pool places at → ((r : ℕ) (row : List Symbol) (d : ℕ) → Wanted X r row d → r < k' → r < k) → RowsDone X k' pool places at
done_past k' now none = record { stored = λ r row d wanted less. now.stored r row d wanted (none r row d wanted less) }

-- ---- what is wanted of a number

module _ {source target map em : List ℕ} (ready : Ready source target map em) where
  abbrev X : Setting
  X = setting_in source target map em

  -- row j of source type s is a template of s, but for the last one of a list
  pub wanted_type : (s j : ℕ) → j < 17 → (j ≡ 16 → (m : ℕ) → kind_of X.source s ≡ list m → ⊥) → {row : List Symbol} {d : ℕ} → Wanted X (type_row s j) row d
      → (t : Option ℕ) × (FirstChild t (kind_of X.source s)) × (row_index (kind_of X.source s) t ≡ j) × (row ≡ template X s t) × (d ≡ 0)
  unfolding item_row source_row
  wanted_type s j less no_item (of_filler τ exists is what depth) = absurd (omega (arith, exists, length_of_lem target, ready.target_bounded.few_types))
  wanted_type s j less no_item (of_type s' t exists chosen is what depth) =
      let small = source_index_small ready.source_bounded s' t (omega (arith, exists, length_of_lem source)) chosen in
      let same : s' ≡ s = omega (arith, small, is) in
      let index_is : row_index (kind_of X.source s') t ≡ j = omega (arith, small, is) in
      let chosen' : FirstChild t (kind_of X.source s) = rw same at chosen in
      let index : row_index (kind_of X.source s) t ≡ j = rw same at index_is in
      (t, chosen', index, rw same at what, depth)
  wanted_type s j less no_item (of_item s' m exists kind is what depth) =
      let same : s' ≡ s = omega (arith, is) in
      absurd (no_item (omega (arith, is)) m (rw same at kind))
