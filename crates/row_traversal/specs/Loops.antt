-- Loops along prepared rows, over what is done with the bytes that the rows stand for: they are written, or compared. A loop
-- knows something of the whole of the bytes and of those that are left.
use Rattle.std.specs.Prelude.{◌≡◌, List, [], ◌∷◌, ◌++◌, ℕ, ◌+◌, ◌-◌, ◌≤◌, ◌<◌, length, get_or}
use Rattle.std.proofs.Common.{sym, ap, ◌∙◌, subst, arith}
use Rattle.model.specs.Definitions.Content.{Content, bytes}
use Rattle.rows.specs.Rows.{from_of, to_of}
use Rattle.scanning.specs.Scanning.{ContentAt}
use Rattle.row_traversal.specs.Contents.{part_from, ChildThere, Behind}
use Rattle.row_traversal.specs.Asked.{SomeAsked, FillerAsked, PlainAsked, ChildAsked, ElementAsked, ItemsAsked, item_bytes, RowAsked}
use Rattle.row_traversal.specs.FillerRows.{filler_left_lem, filler_ends, filler-in, filler_symbol, filler-inner, filler-more}
use Rattle.row_traversal.specs.Turns.{row_within, row_left, row_starts, row_ends, row_symbol, row_more, row_plain, row-child, row-items}
use Rattle.row_traversal.specs.Elements.{child_sought, child_found}
use Rattle.row_traversal.specs.Items.{Remains, remains_all, remains_within, remains_none, OneItem, one_item_left, one_item_bytes, item_there, item_row_asked, remains_less}

-- what a loop knows of the whole and of the rest
abbrev pub Knowing : Type 1
Knowing = List ℕ → List ℕ → Type 0

-- What is known before a turn and what was done with the bytes that it took give what is known after it.
pub record Advance (Before After : Knowing) (Done : List ℕ → Type 0) : Type 0 where
  pub takes : {whole rest : List ℕ} → Before whole rest → (bs more : List ℕ) → rest ≡ bs ++ more → Done bs → After whole more

-- What is known before a turn gives room for the bytes that it takes.
pub record Roomy (Before Room : List ℕ → Type 0) : Type 0 where
  pub room : {rest : List ℕ} → Before rest → (bs more : List ℕ) → rest ≡ bs ++ more → Room bs

-- ---- a filler element

-- the loop over the row of a filler element has come to symbol i
pub record FillerGoes (pool places : List ℕ) (t to i : ℕ) (Known : Knowing) : Type 0 where
  pub ends : to ≡ to_of places t
  pub low : from_of places t ≤ i
  pub known : (bs : List ℕ) (a : FillerAsked pool places t bs) → Known (filler_left_lem a (from_of places t)) (filler_left_lem a i)

-- at first all of it is left
pub filler_goes : {pool places : List ℕ} {t to i : ℕ} {Known : Knowing} → to ≡ to_of places t → i ≡ from_of places t → ((bs : List ℕ) → Known bs bs)
    → FillerGoes pool places t to i Known
filler_goes ends starts all = record { ends = ends; low = omega arith; known = λ bs a. rw starts (all _) }

module _ {pool places : List ℕ} {t to i : ℕ} {Known : Knowing} (g : FillerGoes pool places t to i Known) where
  -- the row is at its end
  pub filler_last : to ≤ i → (bs : List ℕ) (a : FillerAsked pool places t bs) → Known (filler_left_lem a (from_of places t)) (0x32 ∷ [])
  filler_last all bs a = subst (Known (filler_left_lem a (from_of places t))) (filler_ends a i (omega (arith, g.ends))) (g.known bs a)

  module _ (h : i < to) where
    less : i < to_of places t
    less = omega (arith, g.ends)

    module _ {bs : List ℕ} (a : FillerAsked pool places t bs) where
      pub filler-symbol-there : i < length pool
      filler-symbol-there = omega (arith, g.ends, a.fillers.within t)

      pub filler-symbol-number : 64 ≤ get_or pool i 0
      filler-symbol-number = (filler-in a i g.low less).0

      -- its element is asked for
      pub filler-asks : {Room : List ℕ → Type 0} → Roomy (Known (filler_left_lem a (from_of places t))) Room → SomeAsked (FillerAsked pool places (get_or pool i 0 - 64)) Room
      filler-asks s =
          record {
            bytes = filler_symbol a i g.low less;
            asked = filler-inner a i g.low less;
            room = s.room (g.known bs a) (filler_symbol a i g.low less) (filler_left_lem a (i + 1)) (filler-more a i g.low less);
          }

    module _ {After : Knowing} {Done : List ℕ → Type 0} (turn : Advance Known After Done) (w : (bs : List ℕ) → FillerAsked pool places (get_or pool i 0 - 64) bs → Done bs) where
      -- something is done with it, and the loop goes on, or ends
      pub filler_then : (bs : List ℕ) (a : FillerAsked pool places t bs) → After (filler_left_lem a (from_of places t)) (filler_left_lem a (i + 1))
      filler_then bs a =
          turn.takes (g.known bs a) (filler_symbol a i g.low less) (filler_left_lem a (i + 1)) (filler-more a i g.low less)
          (w (filler_symbol a i g.low less) (filler-inner a i g.low less))

      pub filler-on : FillerGoes pool places t to (i + 1) After
      filler-on = record { ends = g.ends; low = omega (arith, g.low); known = filler_then }

-- ---- a row

-- the loop over row r has come to symbol i
pub record RowGoes (source pool places tr : List ℕ) (r to i : ℕ) (Known : Knowing) : Type 0 where
  pub ends : to ≡ to_of places r
  pub low : from_of places r ≤ i
  pub known : (bs : List ℕ) (a : RowAsked source pool places tr r bs) → Known bs (row_left a i)

-- at first all of it is left
pub row_goes : {source pool places tr : List ℕ} {r to i : ℕ} {Known : Knowing} → to ≡ to_of places r → i ≡ from_of places r → ((bs : List ℕ) → Known bs bs)
    → RowGoes source pool places tr r to i Known
row_goes {Known = Known} ends starts all =
    record { ends = ends; low = omega arith; known = λ bs a. subst (Known bs) (row_starts a ∙ ap (row_left a) (sym starts)) (all bs) }

module _ {source pool places tr : List ℕ} {r to i : ℕ} {Known : Knowing} (g : RowGoes source pool places tr r to i Known) where
  -- the row is at its end
  pub row_last : to ≤ i → (bs : List ℕ) → RowAsked source pool places tr r bs → Known bs []
  row_last all bs a = subst (Known bs) (row_ends a i (omega (arith, g.ends))) (g.known bs a)

  module _ (h : i < to) where
    pub row-less : i < to_of places r
    row-less = omega (arith, g.ends)

    abbrev symbol : {bs : List ℕ} → RowAsked source pool places tr r bs → List ℕ
    symbol a = row_symbol a i g.low row-less

    abbrev x : ℕ
    x = get_or pool i 0

    symbol-child : {n : ℕ} → (n ≡ x - 128) × (128 ≤ x) × (x < 144) → {bs : List ℕ} (a : RowAsked source pool places tr r bs) → ChildAsked source pool places tr n (symbol a)
    symbol-child w a = subst (λ (m : ℕ). ChildAsked source pool places tr m (symbol a)) (sym w.0) (row-child a i g.low row-less w.1 w.2)

    module _ {bs : List ℕ} (a : RowAsked source pool places tr r bs) where
      pub row-symbol-there : i < length pool
      row-symbol-there = omega (arith, g.ends, row_within a)

      -- the child that it stands for is there
      pub row-sought : {n : ℕ} → (n ≡ x - 128) × (128 ≤ x) × (x < 144) → ChildThere tr n
      row-sought w = child_sought (symbol-child w a)

      module _ {Room : List ℕ → Type 0} (s : Roomy (Known bs) Room) where
        symbol-room : Room (symbol a)
        symbol-room = s.room (g.known bs a) (symbol a) (row_left a (i + 1)) (row_more a i g.low row-less)

        -- what the symbol stands for is asked for
        pub asks-items : x ≡ 145 → SomeAsked (ItemsAsked source pool places tr (r + 16)) Room
        asks-items e = record { bytes = symbol a; asked = row-items a i g.low row-less e; room = symbol-room }

        pub asks-child : {n o : ℕ} → (n ≡ x - 128) × (128 ≤ x) × (x < 144) → Behind tr n o → SomeAsked (ElementAsked source pool places tr o) Room
        asks-child w found = record { bytes = symbol a; asked = child_found (symbol-child w a) found; room = symbol-room }

        pub asks-plain : (128 ≤ x → x < 144 → ⊥) → (x ≡ 145 → ⊥) → SomeAsked (PlainAsked pool places tr x) Room
        asks-plain no_child_left no_items = record { bytes = symbol a; asked = row_plain a i g.low row-less no_child_left no_items; room = symbol-room }

    -- something is done with what the symbol stands for
    pub SymbolDone : (List ℕ → Type 0) → Type 0
    SymbolDone Done = (bs : List ℕ) (a : RowAsked source pool places tr r bs) → Done (symbol a)

    module _ {Done : List ℕ → Type 0} where
      pub items_done : x ≡ 145 → ((bs : List ℕ) → ItemsAsked source pool places tr (r + 16) bs → Done bs) → SymbolDone Done
      unfolding SymbolDone
      items_done e w bs a = w (symbol a) (row-items a i g.low row-less e)

      pub child-done : {n o : ℕ} → (n ≡ x - 128) × (128 ≤ x) × (x < 144) → Behind tr n o → ((bs : List ℕ) → ElementAsked source pool places tr o bs → Done bs) → SymbolDone Done
      unfolding SymbolDone
      child-done e found w bs a = w (symbol a) (child_found (symbol-child e a) found)

      pub plain_done : (128 ≤ x → x < 144 → ⊥) → (x ≡ 145 → ⊥) → ((bs : List ℕ) → PlainAsked pool places tr x bs → Done bs) → SymbolDone Done
      unfolding SymbolDone
      plain_done no_child_left no_items w bs a = w (symbol a) (row_plain a i g.low row-less no_child_left no_items)

      module _ {After : Knowing} (turn : Advance Known After Done) (w : SymbolDone Done) where
        -- and the loop goes on, or ends
        pub row-then : (bs : List ℕ) (a : RowAsked source pool places tr r bs) → After bs (row_left a (i + 1))
        unfolding SymbolDone
        row-then bs a = turn.takes (g.known bs a) (symbol a) (row_left a (i + 1)) (row_more a i g.low row-less) (w bs a)

        pub row_on : RowGoes source pool places tr r to (i + 1) After
        row_on = record { ends = g.ends; low = omega (arith, g.low); known = row-then }

-- ---- the items of a list

-- the loop over the items has come to offset o
pub record ListLeft {source pool places tr : List ℕ} {r : ℕ} {bs : List ℕ} (a : ItemsAsked source pool places tr r bs) (o : ℕ) (Known : Knowing) : Type 0 where
  pub remains : Remains a o
  pub known : Known bs (item_bytes a.listed remains.rest)

pub record ListGoes (source pool places tr : List ℕ) (r o : ℕ) (Known : Knowing) : Type 0 where
  pub lists : (bs : List ℕ) (a : ItemsAsked source pool places tr r bs) → ListLeft a o Known

-- at first all of them are left
pub list_goes : {source pool places tr : List ℕ} {r : ℕ} {Known : Knowing} → ((bs : List ℕ) → Known bs bs) → ListGoes source pool places tr r 0 Known
list_goes {Known = Known} all = record { lists = λ bs a. record { remains = remains_all a; known = subst (Known bs) a.is (all bs) } }

module _ {source pool places tr : List ℕ} {r o : ℕ} {Known : Knowing} (g : ListGoes source pool places tr r o Known) where
  pub list_within : {bs : List ℕ} → ItemsAsked source pool places tr r bs → o < length tr
  list_within {bs} a = remains_within (g.lists bs a).remains

  -- no item is left
  pub list_last : (get_or tr o 0 ≡ 0x30 → ⊥) → (bs : List ℕ) → ItemsAsked source pool places tr r bs → Known bs []
  list_last other bs a = subst (Known bs) (remains_none (g.lists bs a).remains other) (g.lists bs a).known

  module _ (is-item : get_or tr o 0 ≡ 0x30) where
    -- an item is left
    abbrev pub one : {bs : List ℕ} (a : ItemsAsked source pool places tr r bs) → OneItem (g.lists bs a).remains
    one {bs} a = one_item_left (g.lists bs a).remains is-item

    module _ {bs : List ℕ} (a : ItemsAsked source pool places tr r bs) where
      pub item-inside : (k : Content) × ContentAt tr (o + 2) k
      item-inside = ((one a).inside, item_there (one a))

      -- it is passed over
      pub item-passed : {close : ℕ} → ((k : Content) → ContentAt tr (o + 2) k → close ≡ o + 2 + length (bytes k)) → (o + 2 ≤ close) × (close + 1 < length tr)
      item-passed closes = (omega (arith, closes (one a).inside (item_there (one a))), remains_within (remains_less (one a) closes))

    -- its row is asked for
    pub item-asks : {bs : List ℕ} (a : ItemsAsked source pool places tr r bs) {Room : List ℕ → Type 0} → Roomy (Known bs) Room → SomeAsked (RowAsked source pool places (part_from tr o) r) Room
    item-asks {bs} a s =
        record {
          bytes = one_item_bytes (one a);
          asked = item_row_asked (one a);
          room = s.room (g.lists bs a).known (one_item_bytes (one a)) (item_bytes a.listed (one a).next) (one a).more;
        }

    module _ {After : Knowing} {Done : List ℕ → Type 0} (turn : Advance Known After Done) (w : (bs : List ℕ) → RowAsked source pool places (part_from tr o) r bs → Done bs) where
      -- something is done with it, and the loop goes on, or ends
      pub item_then : (bs : List ℕ) (a : ItemsAsked source pool places tr r bs) → After bs (item_bytes a.listed (one a).next)
      item_then bs a =
          turn.takes (g.lists bs a).known (one_item_bytes (one a)) (item_bytes a.listed (one a).next) (one a).more (w (one_item_bytes (one a)) (item_row_asked (one a)))

      pub item_on : {close : ℕ} → ((k : Content) → ContentAt tr (o + 2) k → close ≡ o + 2 + length (bytes k)) → ListGoes source pool places tr r (close + 1) After
      item_on closes = record { lists = λ bs a. record { remains = remains_less (one a) closes; known = item_then bs a } }
