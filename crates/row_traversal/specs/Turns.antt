-- What a row that is asked for tells of its number and of its symbols.
use Rattle.std.specs.Prelude.{◌≡◌, ℕ, ◌+◌, ◌-◌, ◌*◌, ◌≤◌, ◌<◌, get_or}
use Rattle.std.proofs.Math.Path.{refl, ap, subst}
use Rattle.std.proofs.Common.{sym, ◌∙◌, arith}
use mathlib.Core.List.Memᴰ
use mathlib.Core.List.{List, [], ◌∷◌, ◌++◌}
use Rattle.std.proofs.Math.Option.{Option, none, some}
use Rattle.std.proofs.Math.ListN.{length}
use Rattle.model.specs.Definitions.Commands.{Need}
use Rattle.model.specs.Definitions.Table.{Kind, text, empty, sequence, choice, list, Table, kind_of, members_of}
use Rattle.model.specs.Definitions.Content.{Content, bytes}
use Rattle.model.specs.Definitions.Conformance.{Holds, chosen, left_out}
use Rattle.model.specs.Definitions.Image.{Setting}
use Rattle.model.specs.Definitions.Templates.{Hole, characters, child, items, Symbol, opening, closing, filler, hole, filler_bytes, filled_row, writes, first_in, held_by, characters_of}
use Rattle.model.proofs.Theorems.Facts.{Valid, All, all_none, all_more}
use Rattle.model.proofs.Theorems.Tools.{some_none}
use Rattle.loaded_table.specs.Loaded.{table_by}
use Rattle.rows.specs.Rows.{symbol_of, row_in, row_at, from_of, to_of, row_index, source_row, item_row}
use Rattle.scanning.specs.Scanning.{ContentAt}
use Rattle.model.proofs.Theorems.TemplateShapes.{HoleIn, HoleOfItem}
use Rattle.model.proofs.Theorems.Templates.{text_characters}
use Rattle.row_traversal.specs.Model.{Allowed, template_symbols, item_symbols}
use Rattle.row_traversal.specs.Contents.{after_first, SomeChild, sequence_child, choice_child, at_child_lem}
use Rattle.row_traversal.specs.Asked.{prepared_setting, FillerAsked, PlainAsked, an_opening, a_filler, the_characters, a_closing, ChildAsked, ItemsAsked, RowOf, own_row, item_row_lem, RowAsked}
use Rattle.row_traversal.specs.Symbols.{Meaning, opens, fills, child_there, text_there, items_there, closes, meaning, filler_symbol_lem, child_symbol_lem, characters_symbol_lem, items_symbol_lem, symbol_bytes, row_first, row_done, symbol_in, opening_bytes, filler_bytes_lem, child_bytes, characters_bytes, items_bytes, closing_bytes}
use Rattle.row_traversal.specs.FillerRows.{fillers_prepared}
use Rattle.rows.specs.FirstChildren.{first_chosen}
use Rattle.row_traversal.specs.RowNumbers.{index_small, rank, list_rank}

-- ---- the symbols of a row

-- rows whose holes hold the same write the same
pub filled-same : (T : Table) {Ok : Hole → Type 0} {row : List Symbol} (held other : Hole → List ℕ) → ((h : Hole) → Ok h → held h ≡ other h) → All (Allowed T Ok) row
    → filled_row T held row ≡ filled_row T other row
unfolding filled_row
filled-same T held other same all_none = refl
filled-same T held other same (all_more {a = opening t} ok later) = ap (λ (bs : List ℕ). 0x30 ∷ t ∷ bs) (filled-same T held other same later)
filled-same T held other same (all_more {a = closing} ok later) = ap (λ (bs : List ℕ). 0x32 ∷ bs) (filled-same T held other same later)
filled-same T held other same (all_more {a = filler t} ok later) = ap (λ (bs : List ℕ). filler_bytes T t ++ bs) (filled-same T held other same later)
filled-same T held other same (all_more {a = hole h} ok later) = rw (same h ok, filled-same T held other same later)

-- a choice without a child holds no bytes
nothing_characters : {S : Table} {need : Need} {ms : List ℕ} {k : Content} → first_in k ≡ none → Holds S (choice need ms) k → characters_of k ≡ bytes k
unfolding first_in characters_of bytes
nothing_characters e (chosen mem h) = some_none refl e
nothing_characters e left_out = refl

-- characters are those of a text, or the none of a choice that holds nothing
characters_hole : {S : Table} (κ : Kind) (first : Option ℕ) {k : Content} → first_in k ≡ first → HoleIn κ first characters → Holds S κ k → characters_of k ≡ bytes k
characters_hole text first e ok h = text_characters h
characters_hole empty first e ok h = absurd ok
characters_hole (sequence ms) first e ok h = absurd ok
characters_hole (choice need ms) none e ok h = nothing_characters e h
characters_hole (choice need ms) (some t) e ok h = absurd ok
characters_hole (list m) first e ok h = absurd ok

-- a child is one of a sequence or of a choice
child_hole : {S : Table} (κ : Kind) (first : Option ℕ) {k : Content} (i : ℕ) → first_in k ≡ first → HoleIn κ first (child i) → Holds S κ k → SomeChild S (members_of κ) k i
unfolding members_of
child_hole text first i e ok h = absurd ok
child_hole empty first i e ok h = absurd ok
child_hole (sequence ms) first i e ok h = sequence_child i h ok
child_hole (choice need ms) none i e ok h = absurd ok
child_hole {S} (choice need ms) (some t) {k} i e ok h = subst (SomeChild S ms k) (sym ok) (choice_child h e)
child_hole (list m) first i e ok h = absurd ok

-- items are those of a list
items_hole : (κ : Kind) (first : Option ℕ) → HoleIn κ first items → (m : ℕ) × (κ ≡ list m)
items_hole text first ok = absurd ok
items_hole empty first ok = absurd ok
items_hole (sequence ms) first ok = absurd ok
items_hole (choice need ms) none ok = absurd ok
items_hole (choice need ms) (some t) ok = absurd ok
items_hole (list m) first ok = (m, refl)

-- the row of a list's item
list_row : (S : Table) (s : ℕ) (t : Option ℕ) (m : ℕ) → kind_of S s ≡ list m → source_row S s t + 16 ≡ item_row s
unfolding source_row item_row
list_row S s t m e = rw e (unfold row_index in omega arith)

module _ {source pool places tr : List ℕ} {r : ℕ} {bs : List ℕ} (a : RowAsked source pool places tr r bs) where
  abbrev X : Setting
  X = prepared_setting a.prepared

  abbrev S : Table
  S = table_by source

  abbrev valid : Valid X
  valid = a.prepared.ready.valid

  abbrev held : Hole → List ℕ
  held = held_by X a.type a.inside

  -- a hole of the element's row
  abbrev OwnHole : Hole → Type 0
  OwnHole = HoleIn (kind_of S a.type) (first_in a.inside)

  row_low : RowOf S a.type a.inside r → r ≤ item_row a.type
  unfolding source_row item_row
  row_low (own_row h e) =
      omega (arith, e, index_small source a.prepared.ready.source_bounded a.type (first_in a.inside) a.is_type (kind_of S a.type) refl (first_chosen h))
  row_low (item_row_lem l e h q) = omega (arith, q)

  -- the row is one of those placed
  pub row_there : 3 * r + 2 < length places
  unfolding item_row
  row_there = omega (arith, row_low a.row_of, a.prepared.rows.long, a.is_type)

  -- it stands in the pool
  pub row_within : to_of places r ≤ length pool
  row_within = a.prepared.rows.within r

  -- what is left of the row from symbol i on
  pub row_left : ℕ → List ℕ
  row_left i = filled_row X.target held (row_in pool i (to_of places r))

  -- at first all of it is left
  pub row_starts : bs ≡ row_left (from_of places r)
  unfolding row_left
  row_starts = a.is

  -- at its end nothing is
  pub row_ends : (i : ℕ) → to_of places r ≤ i → row_left i ≡ []
  unfolding row_left
  row_ends i all = row_done X.target held pool i (to_of places r) all

  module _ (i : ℕ) (low : from_of places r ≤ i) (less : i < to_of places r) where
    abbrev x' : ℕ
    x' = get_or pool i 0

    -- the bytes of symbol i
    pub row_symbol : List ℕ
    row_symbol = symbol_bytes X.target held (symbol_of x')

    -- symbol i is the first of what is left
    pub row_more : row_left i ≡ row_symbol ++ row_left (i + 1)
    unfolding row_left row_symbol
    row_more = row_first X.target held pool i (to_of places r) less row_within

    -- it is one that the row of an element may have
    own-symbol : (h : Holds S (kind_of S a.type) a.inside) → r ≡ source_row S a.type (first_in a.inside)
        → Allowed X.target OwnHole (symbol_of x')
    own-symbol h e =
        symbol_in pool (from_of places r) (to_of places r) i
        (subst (All (Allowed X.target OwnHole))
        (sym (ap (row_at pool places) e ∙ a.prepared.rows.template_at a.type (first_in a.inside) a.is_type (first_chosen h)))
        (template_symbols X valid a.type (first_in a.inside) a.is_type)) low less row_within

    -- or one of an item's row
    item-symbol : {m : ℕ} → kind_of S a.type ≡ list m → r ≡ item_row a.type → Allowed X.target HoleOfItem (symbol_of x')
    item-symbol {m} l e =
        symbol_in pool (from_of places r) (to_of places r) i
        (subst (All (Allowed X.target HoleOfItem)) (sym (ap (row_at pool places) e ∙ a.prepared.rows.item_at a.type m a.is_type l))
        (item_symbols X valid a.type m a.is_type l)) low less row_within

    -- an element whose row has the items is a list
    own-list : x' ≡ 145 → Holds S (kind_of S a.type) a.inside → r ≡ source_row S a.type (first_in a.inside) → (m : ℕ) × (kind_of S a.type ≡ list m)
    own-list is k e = items_hole (kind_of S a.type) (first_in a.inside) (subst (Allowed X.target OwnHole) (items_symbol_lem x' is) (own-symbol k e))

    -- its bytes are asked for: where it is neither child nor items,
    pub row_plain : (128 ≤ x' → x' < 144 → ⊥) → (x' ≡ 145 → ⊥) → PlainAsked pool places tr x' row_symbol
    unfolding row_symbol fillers_prepared
    row_plain no_child_left no_items = go (meaning x') a.row_of
      where
        go : Meaning x' → RowOf S a.type a.inside r → PlainAsked pool places tr x' (symbol_bytes X.target held (symbol_of x'))
        go (opens h) w = an_opening h (opening_bytes X.target held x' h)
        go (fills h g) (own_row k e) =
            a_filler h g
            (record { fillers = fillers_prepared a.prepared; is_type = subst (Allowed X.target OwnHole) (filler_symbol_lem x' h g) (own-symbol k e); is = filler_bytes_lem X.target held x' h g })
        go (fills h g) (item_row_lem l e k q) =
            a_filler h g
            (record { fillers = fillers_prepared a.prepared; is_type = subst (Allowed X.target HoleOfItem) (filler_symbol_lem x' h g) (item-symbol l q); is = filler_bytes_lem X.target held x' h g })
        go (child_there h g) w = absurd (no_child_left h g)
        go (text_there h) (own_row k e) =
            the_characters h a.there
            (characters_bytes X.target held x' h
            ∙ (unfold held_by in characters_hole (kind_of S a.type) (first_in a.inside) refl (subst (Allowed X.target OwnHole) (characters_symbol_lem x' h) (own-symbol k e)) k))
        go (text_there h) (item_row_lem l e k q) = absurd (subst (Allowed X.target HoleOfItem) (characters_symbol_lem x' h) (item-symbol l q))
        go (items_there h) w = absurd (no_items h)
        go (closes h) w = a_closing h (closing_bytes X.target held x' h)

    -- where it is a child,
    pub row-child : 128 ≤ x' → x' < 144 → ChildAsked source pool places tr (x' - 128) row_symbol
    unfolding row_symbol
    row-child h g = go a.row_of
      where
        asked : (ms : List ℕ) → (c : SomeChild S ms a.inside (x' - 128)) → c.type < length S → ChildAsked source pool places tr (x' - 128) (symbol_bytes X.target held (symbol_of x'))
        asked ms c exists =
            record {
              prepared = a.prepared;
              around = a.inside;
              there = a.there;
              type = c.type;
              inside = c.inside;
              child = c.child;
              is_type = exists;
              is = child_bytes X.target held x' h g ∙ (unfold held_by in at_child_lem [] (writes X) (x' - 128) a.inside c.child.is);
            }

        go : RowOf S a.type a.inside r → ChildAsked source pool places tr (x' - 128) (symbol_bytes X.target held (symbol_of x'))
        go (own_row k e) =
            let c = child_hole (kind_of S a.type) (first_in a.inside) (x' - 128) refl (subst (Allowed X.target OwnHole) (child_symbol_lem x' h g) (own-symbol k e)) k in
            asked (members_of (kind_of S a.type)) c (valid.source_sound.well_formed.members_exist a.type c.type c.member)
        go (item_row_lem {m} {l} {rest} is e k q) =
            let none : x' - 128 ≡ 0 = subst (Allowed X.target HoleOfItem) (child_symbol_lem x' h g) (item-symbol is q) in
            let exists : m < length S = valid.source_sound.well_formed.members_exist a.type m (rw is (unfold members_of in Memᴰ.head refl)) in
            asked (m ∷ [])
            (record { type = m; inside = l; child = record { rest = rest; is = rw (none, e) (unfold after_first in refl); holds = k }; member = Memᴰ.head refl }) exists

    -- and where it is the items
    pub row-items : x' ≡ 145 → ItemsAsked source pool places tr (r + 16) row_symbol
    unfolding row_symbol
    row-items h = go a.row_of
      where
        go : RowOf S a.type a.inside r → ItemsAsked source pool places tr (r + 16) (symbol_bytes X.target held (symbol_of x'))
        go (own_row k e) =
            let l = own-list h k e in
            record {
              listed = record { prepared = a.prepared; type = a.type; item = l.0; is_type = a.is_type; is_list_lem = l.1; is_row = ap (λ (n : ℕ). n + 16) e ∙ list_row S a.type (first_in a.inside) l.0 l.1 };
              inside = a.inside;
              there = a.there;
              holds = subst (λ (κ : Kind). Holds S κ a.inside) l.1 k;
              is = items_bytes X.target held x' h ∙ (unfold held_by in refl);
            }
        go (item_row_lem l e k q) = absurd (subst (Allowed X.target HoleOfItem) (items_symbol_lem x' h) (item-symbol l q))

    -- only the row of a list has items
    pub items-rank : x' ≡ 145 → rank r ≡ 3
    items-rank h = go a.row_of
      where
        go : RowOf S a.type a.inside r → rank r ≡ 3
        go (own_row k e) = let l = own-list h k e in list_rank S a.type (first_in a.inside) l.0 r l.1 e
        go (item_row_lem l e k q) = absurd (subst (Allowed X.target HoleOfItem) (items_symbol_lem x' h) (item-symbol l q))

-- ---- symbols other than a child or items, by their numbers

module _ {pool places tr : List ℕ} {x : ℕ} {bs : List ℕ} where
  pub plain_opening : PlainAsked pool places tr x bs → x < 64 → bs ≡ 0x30 ∷ x ∷ []
  plain_opening (an_opening less e) h = e
  plain_opening (a_filler low less f) h = absurd (omega arith)
  plain_opening (the_characters is a e) h = absurd (omega arith)
  plain_opening (a_closing more e) h = absurd (omega arith)

  pub plain_filler : PlainAsked pool places tr x bs → 64 ≤ x → x < 128 → FillerAsked pool places (x - 64) bs
  plain_filler (an_opening less e) h g = absurd (omega arith)
  plain_filler (a_filler low less f) h g = f
  plain_filler (the_characters is a e) h g = absurd (omega arith)
  plain_filler (a_closing more e) h g = absurd (omega arith)

  pub plain_characters : PlainAsked pool places tr x bs → x ≡ 144 → (k : Content) × ContentAt tr 0 k × (bs ≡ bytes k)
  plain_characters (an_opening less e) h = absurd (omega arith)
  plain_characters (a_filler low less f) h = absurd (omega arith)
  plain_characters (the_characters {k} is a e) h = (k, a, e)
  plain_characters (a_closing more e) h = absurd (omega arith)

  pub plain_closing : PlainAsked pool places tr x bs → 128 ≤ x → (x ≡ 144 → ⊥) → bs ≡ 0x32 ∷ []
  plain_closing (an_opening less e) h other = absurd (omega arith)
  plain_closing (a_filler low less f) h other = absurd (omega arith)
  plain_closing (the_characters is a e) h other = absurd (other is)
  plain_closing (a_closing more e) h other = e
