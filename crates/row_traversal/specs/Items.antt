-- The items of a source list, one after the other.
use Rattle.std.specs.Prelude.{◌≡◌, refl, List, [], ◌++◌, ℕ, ◌+◌, ◌<◌, length, get_or}
use Rattle.std.proofs.Common.{sym, ap, ◌∙◌, subst, arith}
use Rattle.model.specs.Definitions.Table.{list, kind_of}
use Rattle.model.specs.Definitions.Content.{Content, end, char, elem, bytes}
use Rattle.model.specs.Definitions.Conformance.{Holds, no_item, one_item}
use Rattle.loaded_table.specs.Loaded.{table_by}
use Rattle.scanning.specs.Scanning.{ContentAt}
use Rattle.scanning.specs.Laws.{content_within, element_first, end_first}
use Rattle.row_traversal.specs.Contents.{part_from, element_at_lem, element_next}
use Rattle.row_traversal.specs.Asked.{ItemsAsked, item_bytes, RowAsked}
use Rattle.row_traversal.specs.Elements.{single_item, items_none, items_more, item_asked}

-- from offset o on `rest` is left
pub record Remains {source pool places tr : List ℕ} {r : ℕ} {bs : List ℕ} (a : ItemsAsked source pool places tr r bs) (o : ℕ) : Type 0 where
  pub rest : Content
  pub there : ContentAt tr o rest
  pub holds : Holds (table_by source) (list a.listed.item) rest

-- the first of it is an item
pub record OneItem {source pool places tr : List ℕ} {r : ℕ} {bs : List ℕ} {a : ItemsAsked source pool places tr r bs} {o : ℕ} (l : Remains a o) : Type 0 where
  pub inside : Content
  pub next : Content
  pub there : ContentAt tr o (elem a.listed.item inside next)
  pub holds : Holds (table_by source) (kind_of (table_by source) a.listed.item) inside
  pub later : Holds (table_by source) (list a.listed.item) next
  pub more : item_bytes a.listed l.rest ≡ single_item a.listed a.listed.item inside ++ item_bytes a.listed next

module _ {source pool places tr : List ℕ} {r : ℕ} {bs : List ℕ} {a : ItemsAsked source pool places tr r bs} where
  pub remains_within : {o : ℕ} → Remains a o → o < length tr
  remains_within l = omega (arith, content_within l.there)

  pub remains_none : {o : ℕ} (l : Remains a o) → (get_or tr o 0 ≡ 0x30 → ⊥) → item_bytes a.listed l.rest ≡ []
  remains_none {o} l other = go l.holds l.there
    where
      go : {k : Content} → Holds (table_by source) (list a.listed.item) k → ContentAt tr o k → item_bytes a.listed k ≡ []
      go no_item there = items_none a.listed
      go (one_item h later) there = absurd (other (element_first there))

  pub one_item_left : {o : ℕ} (l : Remains a o) → get_or tr o 0 ≡ 0x30 → OneItem l
  one_item_left {o} l is-item = go l.rest refl l.holds l.there
    where
      go : (k : Content) → l.rest ≡ k → Holds (table_by source) (list a.listed.item) k → ContentAt tr o k → OneItem l
      go end e no_item there = absurd (omega (arith, end_first there))
      go (char c k) e h there = elim h [ ]
      go (elem t k rest) e (one_item h later) there =
          record { inside = k; next = rest; there = there; holds = h; later = later; more = ap (item_bytes a.listed) e ∙ items_more a.listed a.listed.item k rest }

  abbrev pub one_item_bytes : {o : ℕ} {l : Remains a o} → OneItem l → List ℕ
  one_item_bytes one = single_item a.listed a.listed.item one.inside

  pub item_there : {o : ℕ} {l : Remains a o} (one : OneItem l) → ContentAt tr (o + 2) one.inside
  item_there one = (element_at_lem one.there).within

  -- its row is asked for
  pub item_row_asked : {o : ℕ} {l : Remains a o} (one : OneItem l) → RowAsked source pool places (part_from tr o) r (one_item_bytes one)
  item_row_asked one = item_asked a.listed one.there one.holds

  -- what follows it
  abbrev pub remains_less : {o : ℕ} {l : Remains a o} (one : OneItem l) {close : ℕ} → ((k : Content) → ContentAt tr (o + 2) k → close ≡ o + 2 + length (bytes k)) → Remains a (close + 1)
  remains_less {o} one {close} closes =
      record {
        rest = one.next;
        there = subst (λ (n : ℕ). ContentAt tr (n + 1) one.next) (sym (closes one.inside (item_there one))) (element_next one.there);
        holds = one.later;
      }

-- at the list's start all of it is left
abbrev pub remains_all : {source pool places tr : List ℕ} {r : ℕ} {bs : List ℕ} (a : ItemsAsked source pool places tr r bs) → Remains a 0
remains_all a = record { rest = a.inside; there = a.there; holds = a.holds }
