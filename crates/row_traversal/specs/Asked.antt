-- What the functions that go along prepared rows are asked for: the bytes that a row, a symbol, a child or the items of a list
-- stand for. A function requires that there are such bytes, and promises for all of them.
use Rattle.std.specs.Prelude.{◌≡◌, List, [], ◌∷◌, ℕ, ◌-◌, ◌*◌, ◌≤◌, ◌<◌, length}
use Rattle.model.specs.Definitions.Table.{Table, list, kind_of}
use Rattle.model.specs.Definitions.Content.{Content, elem, bytes, document}
use Rattle.model.specs.Definitions.Conformance.{Holds}
use Rattle.model.specs.Definitions.Image.{Setting, image}
use Rattle.model.specs.Definitions.Templates.{filler_row, filler_bytes, filled_row, item_template, writes, first_in, held_by, over_children}
use Rattle.model.proofs.Theorems.Facts.{SoundTable}
use Rattle.loaded_table.specs.Loaded.{table_by}
use Rattle.rows.specs.Rows.{Rows, row_at, to_of, source_row, item_row, filler_symbol, child_symbol, characters_symbol, items_symbol}
use Rattle.scanning.specs.Scanning.{ContentAt}
use Rattle.loaded_setting.specs.Ready.{setting_in, Ready}
use Rattle.row_traversal.specs.Contents.{NumberedChild, FirstThere}

-- ---- what is prepared

-- the rows of filler of a target table
pub record Fillers (pool places : List ℕ) : Type 0 where
  pub table : Table
  pub sound : SoundTable table
  pub few : length table ≤ 64
  pub long : 3 * 64 ≤ length places
  pub within : (r : ℕ) → to_of places r ≤ length pool
  pub row_at_lem : (τ : ℕ) → τ < length table → row_at pool places τ ≡ filler_row table τ

-- the templates of an accepted setting
pub record Prepared (source pool places : List ℕ) : Type 0 where
  pub target : List ℕ
  pub map : List ℕ
  pub em : List ℕ
  pub ready : Ready source target map em
  pub rows : Rows (setting_in source target map em) pool places

abbrev pub prepared_setting : {source pool places : List ℕ} → Prepared source pool places → Setting
prepared_setting {source} p = setting_in source p.target p.map p.em

-- ---- the bytes that are asked for

-- a filler element of type t
pub record FillerAsked (pool places : List ℕ) (t : ℕ) (bs : List ℕ) : Type 0 where
  pub fillers : Fillers pool places
  pub is_type : t < length fillers.table
  pub is : bs ≡ filler_bytes fillers.table t

-- what a symbol other than a child or items stands for, for an element whose content begins the document tr
pub data PlainAsked (pool places tr : List ℕ) (x : ℕ) (bs : List ℕ) : Type 0 where
  an_opening : x < filler_symbol → bs ≡ 0x30 ∷ x ∷ [] → PlainAsked pool places tr x bs
  a_filler : filler_symbol ≤ x → x < child_symbol → FillerAsked pool places (x - filler_symbol) bs → PlainAsked pool places tr x bs
  the_characters : {k : Content} → x ≡ characters_symbol → ContentAt tr 0 k → bs ≡ bytes k → PlainAsked pool places tr x bs
  a_closing : items_symbol < x → bs ≡ 0x32 ∷ [] → PlainAsked pool places tr x bs

-- what the image of child i holds, of the content that begins the document tr
pub record ChildAsked (source pool places tr : List ℕ) (i : ℕ) (bs : List ℕ) : Type 0 where
  pub prepared : Prepared source pool places
  pub around : Content
  pub there : ContentAt tr 0 around
  pub type : ℕ
  pub inside : Content
  pub child : NumberedChild (table_by source) around i type inside
  pub is_type : type < length (table_by source)
  pub is : bs ≡ writes (prepared_setting prepared) type inside

-- what the image of the element holds that opens at offset o of the document tr
pub record ElementAsked (source pool places tr : List ℕ) (o : ℕ) (bs : List ℕ) : Type 0 where
  pub prepared : Prepared source pool places
  pub first : FirstThere (table_by source) tr o
  pub is : bs ≡ writes (prepared_setting prepared) first.type first.inside

-- a source list whose content begins the document tr, and the number of its item's row
pub record ListOf (source pool places : List ℕ) (r : ℕ) : Type 0 where
  pub prepared : Prepared source pool places
  pub type : ℕ
  pub item : ℕ
  pub is_type : type < length (table_by source)
  pub is_list_lem : kind_of (table_by source) type ≡ list item
  pub is_row : r ≡ item_row type

-- the bytes of the items of content k
abbrev pub item_bytes : {source pool places : List ℕ} {r : ℕ} → ListOf source pool places r → Content → List ℕ
item_bytes l k = over_children (λ t inner. filled_row (prepared_setting l.prepared).target (λ h. writes (prepared_setting l.prepared) t inner) (item_template (prepared_setting l.prepared) l.type)) k

pub record ItemsAsked (source pool places tr : List ℕ) (r : ℕ) (bs : List ℕ) : Type 0 where
  pub listed : ListOf source pool places r
  pub inside : Content
  pub there : ContentAt tr 0 inside
  pub holds : Holds (table_by source) (list listed.item) inside
  pub is : bs ≡ item_bytes listed inside

-- row r is that of an element of type s that holds k, or of an item of list s with which k begins
pub data RowOf (S : Table) (s : ℕ) (k : Content) (r : ℕ) : Type 0 where
  own_row : Holds S (kind_of S s) k → r ≡ source_row S s (first_in k) → RowOf S s k r
  item_row_lem : {m : ℕ} {l rest : Content} → kind_of S s ≡ list m → k ≡ elem m l rest → Holds S (kind_of S m) l → r ≡ item_row s → RowOf S s k r

-- what row r stands for
pub record RowAsked (source pool places tr : List ℕ) (r : ℕ) (bs : List ℕ) : Type 0 where
  pub prepared : Prepared source pool places
  pub type : ℕ
  pub inside : Content
  pub there : ContentAt tr 0 inside
  pub is_type : type < length (table_by source)
  pub row_of : RowOf (table_by source) type inside r
  pub is : bs ≡ filled_row (prepared_setting prepared).target (held_by (prepared_setting prepared) type inside) (row_at pool places r)

-- the image's document, of a source document that conforms
pub record ImageAsked (source pool places tr : List ℕ) (bs : List ℕ) : Type 0 where
  pub prepared : Prepared source pool places
  pub inside : Content
  pub form : tr ≡ document 0 inside
  pub holds : Holds (table_by source) (kind_of (table_by source) 0) inside
  pub is : bs ≡ document 0 (image (prepared_setting prepared) inside)

-- ---- room for them

-- bytes are asked for, of which Room holds
pub record SomeAsked (Asked Room : List ℕ → Type 0) : Type 0 where
  pub bytes : List ℕ
  pub asked : Asked bytes
  pub room : Room bytes
