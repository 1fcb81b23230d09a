-- The rows of children and of items.
use Rattle.std.specs.Prelude.{◌≡◌, refl, List, [], ◌++◌, ℕ, ◌+◌, ◌<◌, length}
use Rattle.std.proofs.Common.{sym, ap, ◌∙◌, subst, add-zero, arith}
use Rattle.model.specs.Definitions.Table.{kind_of}
use Rattle.model.specs.Definitions.Content.{Content, end, elem}
use Rattle.model.specs.Definitions.Conformance.{Holds}
use Rattle.model.specs.Definitions.Image.{Setting}
use Rattle.model.specs.Definitions.Templates.{Hole, characters, child, items, item_template, filled_row, writes, first_in, held_by, at_child, over_children}
use Rattle.loaded_table.specs.Loaded.{table_by}
use Rattle.rows.specs.Rows.{row_at, source_row}
use Rattle.scanning.specs.Scanning.{ContentAt}
use Rattle.scanning.specs.Laws.{content_within}
use Rattle.model.proofs.Theorems.TemplateShapes.{HoleOfItem}
use Rattle.model.proofs.Theorems.Templates.{writes_again}
use Rattle.row_traversal.specs.Model.{item_symbols}
use Rattle.row_traversal.specs.Contents.{part_from, at_part, inside_part, ChildThere, Behind, element_behind, RowIs}
use Rattle.row_traversal.specs.Asked.{Prepared, prepared_setting, ChildAsked, ElementAsked, ListOf, item_bytes, own_row, item_row_lem, RowAsked}
use Rattle.rows.specs.FirstChildren.{first_chosen}
use Rattle.row_traversal.specs.Turns.{filled-same}

-- ---- the row of an element

-- what is written for an element is what its row stands for
pub element_row_lem : {source pool places : List ℕ} (p : Prepared source pool places) {s : ℕ} {k : Content} → s < length (table_by source) → Holds (table_by source) (kind_of (table_by source) s) k
    → {part : List ℕ} → ContentAt part 0 k → {r : ℕ} → r ≡ source_row (table_by source) s (first_in k) → RowAsked source pool places part r (writes (prepared_setting p) s k)
element_row_lem {source} {pool} {places} p {s} {k} exists holds there is_row =
    record {
      prepared = p;
      type = s;
      inside = k;
      there = there;
      is_type = exists;
      row_of = own_row holds is_row;
      is = writes_again (prepared_setting p) s k
          ∙ ap (filled_row (prepared_setting p).target (held_by (prepared_setting p) s k)) (sym (ap (row_at pool places) is_row ∙ p.rows.template_at s (first_in k) exists (first_chosen holds)));
    }

-- ---- the items of a list

-- the bytes of an item of type t that holds inner
abbrev pub single_item : {source pool places : List ℕ} {r : ℕ} → ListOf source pool places r → ℕ → Content → List ℕ
single_item l t inner = filled_row (prepared_setting l.prepared).target (λ h. writes (prepared_setting l.prepared) t inner) (item_template (prepared_setting l.prepared) l.type)

-- no item is left
pub items_none : {source pool places : List ℕ} {r : ℕ} (l : ListOf source pool places r) → item_bytes l end ≡ []
unfolding over_children
items_none l = refl

-- the first item, and the others
pub items_more : {source pool places : List ℕ} {r : ℕ} (l : ListOf source pool places r) (t : ℕ) (inner rest : Content) → item_bytes l (elem t inner rest) ≡ single_item l t inner ++ item_bytes l rest
unfolding over_children
items_more l t inner rest = refl

-- the one hole of an item's row holds the item's image
only_child : (X : Setting) (s t : ℕ) (inner rest : Content) (h : Hole) → HoleOfItem h → writes X t inner ≡ held_by X s (elem t inner rest) h
unfolding held_by at_child
only_child X s t inner rest characters ok = absurd ok
only_child X s t inner rest (child i) ok = rw ok refl
only_child X s t inner rest items ok = absurd ok

-- the row of an item of the list, with which a part of the document begins
pub item_asked : {source pool places : List ℕ} {r : ℕ} (l : ListOf source pool places r) {tr : List ℕ} {o : ℕ} {inner rest : Content}
    → ContentAt tr o (elem l.item inner rest) → Holds (table_by source) (kind_of (table_by source) l.item) inner
    → RowAsked source pool places (part_from tr o) r (single_item l l.item inner)
item_asked {source} {pool} {places} {r} l {tr} {o} {inner} {rest} there holds =
    record {
      prepared = l.prepared;
      type = l.type;
      inside = elem l.item inner rest;
      there = at_part o (subst (λ (n : ℕ). ContentAt tr n (elem l.item inner rest)) (sym (add-zero o)) there);
      is_type = l.is_type;
      row_of = item_row_lem l.is_list_lem refl holds l.is_row;
      is = filled-same _ (λ h. writes X₁ l.item inner) (held_by X₁ l.type (elem l.item inner rest)) (only_child X₁ l.type l.item inner rest)
          (item_symbols X₁ l.prepared.ready.valid l.type l.item l.is_type l.is_list_lem)
          ∙ ap (filled_row X₁.target (held_by X₁ l.type (elem l.item inner rest)))
          (sym (ap (row_at pool places) l.is_row ∙ l.prepared.rows.item_at l.type l.item l.is_type l.is_list_lem));
    }
  where
    X₁ : Setting
    X₁ = prepared_setting l.prepared

-- ---- finding a child

-- the child, for `element_from`
abbrev pub child_sought : {source pool places tr : List ℕ} {i : ℕ} {bs : List ℕ} → ChildAsked source pool places tr i bs → ChildThere tr i
child_sought a = record { around = a.around; there = a.there; type = a.type; inside = a.inside; rest = a.child.rest; is = a.child.is }

-- the child that was found at offset o
pub child_found : {source pool places tr : List ℕ} {i : ℕ} {bs : List ℕ} → ChildAsked source pool places tr i bs → {o : ℕ} → Behind tr i o → ElementAsked source pool places tr o bs
child_found a found =
    record {
      prepared = a.prepared;
      first = record { type = a.type; inside = a.inside; element = element_behind (child_sought a) found; is_type = a.is_type; holds = a.child.holds };
      is = a.is;
    }

module _ {source pool places tr : List ℕ} {o : ℕ} {bs : List ℕ} (a : ElementAsked source pool places tr o bs) where
  -- what it holds begins within the document
  pub element_within : o + 2 < length tr
  element_within = omega (arith, content_within a.first.element.within)

  -- and its row is asked for
  pub child_row : {r : ℕ} → RowIs (table_by source) tr o r → RowAsked source pool places (part_from tr (o + 2)) r bs
  child_row {r} row_is =
      subst (RowAsked source pool places (part_from tr (o + 2)) r) (sym a.is)
      (element_row_lem a.prepared a.first.is_type a.first.holds (inside_part o a.first.element.within) (row_is a.first))
