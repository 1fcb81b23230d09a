-- The rows of filler: what a filler element that is asked for tells of its symbols.
use Rattle.std.specs.Prelude.{◌≡◌, List, [], ◌∷◌, ◌++◌, ℕ, ◌+◌, ◌-◌, ◌*◌, ◌≤◌, ◌<◌, length, get_or}
use Rattle.std.proofs.Math.Path.{refl, ap}
use Rattle.std.proofs.Common.{sym, ◌∙◌, subst, append_assoc, arith}
use Rattle.model.specs.Definitions.Table.{Table}
use Rattle.model.specs.Definitions.Templates.{filled_row}
use Rattle.model.proofs.Theorems.Facts.{All}
use Rattle.loaded_table.specs.Loaded.{length_of_lem}
use Rattle.rows.specs.Rows.{symbol_of, row_in, from_of, to_of}
use Rattle.model.proofs.Theorems.Templates.{filler_written}
use Rattle.row_traversal.specs.Model.{OfFiller, filler_symbols}
use Rattle.row_traversal.specs.Asked.{Fillers, Prepared, prepared_setting, FillerAsked}
use Rattle.row_traversal.specs.Symbols.{Meaning, opens, fills, child_there, text_there, items_there, closes, meaning, opening_symbol, filler_symbol_lem, child_symbol_lem, characters_symbol_lem, items_symbol_lem, closing_symbol_lem, symbol_bytes, row_first, row_done, symbol_in, filler_bytes_lem}

-- the rows of filler among those of a setting
unfoldable pub fillers_prepared : {source pool places : List ℕ} → Prepared source pool places → Fillers pool places
fillers_prepared p =
    record {
      table = (prepared_setting p).target;
      sound = p.ready.valid.target_sound;
      few = omega (arith, length_of_lem p.target, p.ready.target_bounded.few_types);
      long = omega (arith, p.rows.long);
      within = p.rows.within;
      row_at_lem = p.rows.filler_at;
    }

-- the number of a filler symbol
filler_number : (T : Table) (x : ℕ) → OfFiller T (symbol_of x) → (64 ≤ x) × (x < 128) × (x - 64 < length T)
filler_number T x ok = go (meaning x)
  where
    go : Meaning x → (64 ≤ x) × (x < 128) × (x - 64 < length T)
    go (opens h) = absurd (subst (OfFiller T) (opening_symbol x h) ok)
    go (fills h g) = (h, g, subst (OfFiller T) (filler_symbol_lem x h g) ok)
    go (child_there h g) = absurd (subst (OfFiller T) (child_symbol_lem x h g) ok)
    go (text_there h) = absurd (subst (OfFiller T) (characters_symbol_lem x h) ok)
    go (items_there h) = absurd (subst (OfFiller T) (items_symbol_lem x h) ok)
    go (closes h) = absurd (subst (OfFiller T) (closing_symbol_lem x h) ok)

module _ {pool places : List ℕ} {t : ℕ} {bs : List ℕ} (a : FillerAsked pool places t bs) where
  abbrev T : Table
  T = a.fillers.table

  -- what is left of a filler element from symbol i of its row on
  pub filler_left_lem : ℕ → List ℕ
  filler_left_lem i = filled_row T (λ h. []) (row_in pool i (to_of places t)) ++ 0x32 ∷ []

  -- its row is one of those placed
  pub filler_row_there : 3 * t + 2 < length places
  filler_row_there = omega (arith, a.is_type, a.fillers.few, a.fillers.long)

  -- the element opens, and its row follows
  pub filler_starts : bs ≡ (0x30 ∷ t ∷ []) ++ filler_left_lem (from_of places t)
  unfolding filler_left_lem
  filler_starts =
      a.is ∙ filler_written T a.fillers.sound t a.is_type (λ h. [])
      ∙ ap (λ row. 0x30 ∷ t ∷ (filled_row T (λ h. []) row ++ 0x32 ∷ [])) (sym (a.fillers.row_at_lem t a.is_type))

  -- at the row's end it closes
  pub filler_ends : (i : ℕ) → to_of places t ≤ i → filler_left_lem i ≡ 0x32 ∷ []
  unfolding filler_left_lem
  filler_ends i all = rw (row_done T (λ h. []) pool i (to_of places t) all) refl

  -- an element whose row begins where it ends only opens and closes
  pub filler_empty : {row from to : ℕ} → row ≡ t → from ≡ from_of places row → to ≡ to_of places row → from ≡ to → bs ≡ 0x30 ∷ t ∷ 0x32 ∷ []
  filler_empty is_row begins ends same =
      let none : from_of places t ≡ to_of places t = sym (ap (from_of places) is_row) ∙ sym begins ∙ same ∙ ends ∙ ap (to_of places) is_row in
      filler_starts ∙ ap (λ rest. 0x30 ∷ t ∷ rest) (filler_ends (from_of places t) (omega arith))

  module _ (i : ℕ) (low : from_of places t ≤ i) (less : i < to_of places t) where
    abbrev x : ℕ
    x = get_or pool i 0

    -- symbol i is that of a filler element
    pub filler-in : (64 ≤ x) × (x < 128) × (x - 64 < length T)
    filler-in =
        filler_number T x
        (symbol_in pool (from_of places t) (to_of places t) i
        (subst (All (OfFiller T)) (sym (a.fillers.row_at_lem t a.is_type)) (filler_symbols T a.fillers.sound t a.is_type)) low less (a.fillers.within t))

    -- the bytes of symbol i
    pub filler_symbol : List ℕ
    filler_symbol = symbol_bytes T (λ h. []) (symbol_of x)

    -- this element is asked for in turn
    pub filler-inner : FillerAsked pool places (x - 64) filler_symbol
    unfolding filler_symbol
    filler-inner = record { fillers = a.fillers; is_type = filler-in.2; is = filler_bytes_lem T (λ h. []) x filler-in.0 filler-in.1 }

    -- it is the first of what is left
    pub filler-more : filler_left_lem i ≡ filler_symbol ++ filler_left_lem (i + 1)
    unfolding filler_left_lem filler_symbol
    filler-more =
        rw (row_first T (λ h. []) pool i (to_of places t) less (a.fillers.within t))
        (append_assoc (symbol_bytes T (λ h. []) (symbol_of x)) (filled_row T (λ h. []) (row_in pool (i + 1) (to_of places t))) (0x32 ∷ []))
