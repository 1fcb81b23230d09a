-- The turns of the loop over an element's content, for every content that begins at `from`.
use mathlib.Core.Path.{◌≡◌, refl, sym, ap, ◌∙◌, subst}
use mathlib.Core.List.{List}
use mathlib.Core.Option.{Option}
use Prim.Native.Nat.{ℕ, suc, ◌+◌, ◌≤◌, ◌<◌, min}
use native.Mathlib.Omega.{arith}
use lib.ListN.{length, get_or}
use Rattle.model.specs.Definitions.Table.{kind_of}
use Rattle.model.specs.Definitions.Content.{Content, end, char, elem, bytes}
use Rattle.model.specs.Definitions.Image.{Setting}
use Rattle.model.specs.Definitions.Templates.{first_in, around}
use Rattle.model.proofs.Theorems.BuiltElements.{row_built, own_built, item_built, sum_built}
use Rattle.loaded_table.specs.Loaded.{table_by, length_of_lem}
use Rattle.loaded_setting.specs.Ready.{setting_in}
use Rattle.scanning.specs.Scanning.{ContentAt}
use Rattle.scanning.specs.Laws.{content_within, OpensElement}
use Rattle.rows.specs.Rows.{HasRow, row_at, source_row, item_row}
use Rattle.rows.specs.FirstChildren.{first_chosen}
use Rattle.measuring.specs.Measured.{type_ahead}
use Rattle.measuring.proofs.Content.{left_of, first_ahead, Unread, unread_within, unread_opens, unread_done, lettered, unread-letter, opened, unread-child, unread-next}
use Rattle.measuring.proofs.Counting.{held_child}
use Rattle.measuring.proofs.Turns.{held-around, held_sum}
use Rattle.path_elements.specs.PathElements.{Given, Built}

-- what content adds, by what it begins with
module _ (X : Setting) (s : ℕ) where
  end_adds : sum_built X s end ≡ 0
  unfolding sum_built
  end_adds = refl

  letter_adds : (c : ℕ) (r : Content) → sum_built X s (char c r) ≡ sum_built X s r
  unfolding sum_built
  letter_adds c r = refl

  child_adds : (t : ℕ) (k r : Content) → sum_built X s (elem t k r) ≡ around (kind_of X.source s) (item_built X s) + (own_built X t (first_in k) + sum_built X t k) + sum_built X s r
  unfolding sum_built
  child_adds t k r = refl

abbrev pub given_setting : {source pool places tr : List ℕ} {s from : ℕ} → Given source pool places tr s from → Setting
given_setting {source} g = setting_in source g.target g.map g.em

-- the count so far, and what is left of the content k of an element of type s from offset o on, make up the whole; the content ends at
-- `close`
pub record Counted (X : Setting) (s : ℕ) (tr : List ℕ) (k : Content) (close o count : ℕ) : Type 0 where
  pub number : ℕ
  pub unread : Unread X.source (kind_of X.source s) tr close o number
  pub count_left : min 60001 (count + sum_built X s unread.left) ≡ min 60001 (own_built X s (first_in k) + sum_built X s k)

-- the loop's invariant
pub record CountSoFar (source pool places tr : List ℕ) (s from o count : ℕ) : Type 0 where
  pub far : from ≤ o
  pub small : count ≤ 60001
  pub counted : (g : Given source pool places tr s from) → Counted (given_setting g) s tr g.held (from + length (bytes g.held)) o count

-- a child counted: its count and that of what stands around it are held, it ends within the document, and its count joined to the count
-- so far leaves what follows it
pub record ChildCounted (source pool places tr : List ℕ) (s from o count about inner stop : ℕ) : Type 0 where
  pub about_small : about ≤ 60001
  pub inner_small : inner ≤ 60001
  pub further : o + 1 < stop
  pub within : stop < length tr
  pub joined : {count' : ℕ} → count' ≡ min 60001 (count + about + inner) → CountSoFar source pool places tr s from (stop + 1) count'

module _ {source pool places tr : List ℕ} {s from : ℕ} where
  exists_in : (g : Given source pool places tr s from) → s < length (table_by source)
  exists_in g = omega (arith, length_of_lem source, g.exists)

  -- the rows of type s are among the places
  pub row_within : (g : Given source pool places tr s from) (row : ℕ) → row ≤ item_row s → HasRow places row
  unfolding item_row
  row_within g row low = omega (arith, g.rows.long, length_of_lem source, g.exists, low)

  -- what stands around items
  around_of : (g : Given source pool places tr s from) {about : ℕ} → about ≡ around (kind_of (table_by source) s) (min 60001 (row_built (row_at pool places (item_row s))))
      → about ≡ min 60001 (around (kind_of (table_by source) s) (item_built (given_setting g) s))
  unfolding item_built
  around_of g is-about =
      is-about ∙ held-around _ _ _ (λ item same. ap (λ row. min 60001 (row_built row)) (g.rows.item_at s item (exists_in g) same))

  module _ {first : Option ℕ} {row count : ℕ}
      (firsts : (k : Content) → ContentAt tr from k → first ≡ type_ahead k)
      (is_row : row ≡ source_row (table_by source) s first)
      (is-count : count ≡ min 60001 (row_built (row_at pool places row))) where
    own_at : (g : Given source pool places tr s from) → count ≡ min 60001 (own_built (given_setting g) s (first_in g.held))
    unfolding own_built
    own_at g =
        let same : first ≡ first_in g.held = firsts g.held g.there ∙ first_ahead (table_by source) g.holds in
        let own = g.rows.template_at s (first_in g.held) (exists_in g) (first_chosen g.holds) in
        is-count ∙ rw (is_row, same, own)

    -- at the start all of the content is left
    pub counts_start : CountSoFar source pool places tr s from from count
    counts_start =
        record {
          far = omega arith;
          small = omega (arith, is-count);
          counted = λ g.
              record {
                number = 0;
                unread = record { left = g.held; here = g.there; fit = left_of g.well_formed s g.holds; closes = refl };
                count_left = rw (own_at g) (held_sum _ _);
              };
        }

  module _ {o count : ℕ} (now : CountSoFar source pool places tr s from o count) (given : Given source pool places tr s from) where
    pub turn-within : o < length tr
    turn-within = unread_within (now.counted given).unread

    pub turn_two : get_or tr o 0 ≡ 0x31 → o + 1 < length tr
    turn_two first = (lettered (now.counted given).unread first).two

    -- at the close nothing is left
    pub turn_done : get_or tr o 0 ≡ 0x32 → (g : Given source pool places tr s from)
        → Built (given_setting g) s g.held count × (o ≡ from + length (bytes g.held))
    turn_done here g =
        let counted = now.counted g in
        let done = unread_done counted.unread here in
        let sum : sum_built (given_setting g) s counted.unread.left ≡ 0 = ap (sum_built (given_setting g) s) done.0 ∙ end_adds (given_setting g) s in
        let all : count ≡ min 60001 (count + sum_built (given_setting g) s counted.unread.left) = omega (arith, sum, now.small) in
        (all ∙ counted.count_left, done.1)

    -- a character adds nothing
    pub turn-letter : get_or tr o 0 ≡ 0x31 → CountSoFar source pool places tr s from (o + 2) count
    turn-letter first =
        record {
          far = omega (arith, now.far);
          small = now.small;
          counted = λ g.
              let counted = now.counted g in
              let l = lettered counted.unread first in
              record {
                number = counted.number;
                unread = unread-letter counted.unread first;
                count_left = ap (λ (n : ℕ). min 60001 (count + n)) (sym (ap (sum_built (given_setting g) s) l.is ∙ letter_adds (given_setting g) s l.letter l.next)) ∙ counted.count_left;
              };
        }

    module _ (other : get_or tr o 0 ≡ 0x31 → ⊥) (another : get_or tr o 0 ≡ 0x32 → ⊥) where
      first : get_or tr o 0 ≡ 0x30
      first = unread_opens (now.counted given).unread other another

      abbrev child : (g : Given source pool places tr s from) → OpensElement tr o (now.counted g).unread.left (now.counted g).unread.here.rest
      child g = opened (now.counted g).unread first

      abbrev child-given : (g : Given source pool places tr s from) → Given source pool places tr (child g).type (o + 2)
      child-given g =
          let left = unread-child (now.counted g).unread first in
          record {
            target = g.target;
            map = g.map;
            em = g.em;
            rows = g.rows;
            well_formed = g.well_formed;
            bounded = g.bounded;
            exists = omega (arith, length_of_lem source, left.exists);
            held = (child g).inside;
            there = (child g).within;
            holds = left.holds;
          }

      -- an element opens
      pub turn-opens : o + 1 < length tr
      turn-opens = (child given).two

      module _ (t : ℕ) (named : t ≡ get_or tr (o + 1) 0) where
        type-is : (g : Given source pool places tr s from) → t ≡ (child g).type
        type-is g = named ∙ (child g).named

        pub turn-ahead : Given source pool places tr t (o + 2)
        turn-ahead = rw (type-is given) (child-given given)

        -- and its count is joined to the count so far
        module _ {about inner stop : ℕ}
            (is-about : about ≡ around (kind_of (table_by source) s) (min 60001 (row_built (row_at pool places (item_row s)))))
            (inside : (g : Given source pool places tr t (o + 2)) → Built (given_setting g) t g.held inner × (stop ≡ o + 2 + length (bytes g.held))) where
          child-inside : (g : Given source pool places tr s from) → Built (given_setting g) (child g).type (child g).inside inner × (stop ≡ o + 2 + length (bytes (child g).inside))
          child-inside g =
              subst (λ (u : ℕ). (h : Given source pool places tr u (o + 2)) → Built (given_setting h) u h.held inner × (stop ≡ o + 2 + length (bytes h.held))) (type-is g) inside (child-given g)

          counts-next : (g : Given source pool places tr s from)
              → min 60001 (min 60001 (count + about + inner) + sum_built (given_setting g) s (child g).next) ≡ min 60001 (count + sum_built (given_setting g) s (now.counted g).unread.left)
          counts-next g =
              let X = given_setting g in
              rw (around_of g is-about, (child-inside g).0)
              (held_child count (around (kind_of X.source s) (item_built X s)) (own_built X (child g).type (first_in (child g).inside) + sum_built X (child g).type (child g).inside) (sum_built X s (child g).next)
              ∙ ap (λ (n : ℕ). min 60001 (count + n)) (sym (ap (sum_built X s) (child g).is ∙ child_adds X s (child g).type (child g).inside (child g).next)))

          -- the child ends further on, within the document
          stop-within : (o + 1 < stop) × (stop < length tr)
          stop-within = omega (arith, (child-inside given).1, content_within (child given).within)

          joins : {count' : ℕ} → count' ≡ min 60001 (count + about + inner) → CountSoFar source pool places tr s from (stop + 1) count'
          joins same =
              rw same
              record {
                far = omega (arith, now.far, stop-within.0);
                small = omega arith;
                counted = λ g.
                    record {
                      number = suc (now.counted g).number;
                      unread = unread-next (now.counted g).unread first (child-inside g).1;
                      count_left = counts-next g ∙ (now.counted g).count_left;
                    };
              }

          pub turn-child : ChildCounted source pool places tr s from o count about inner stop
          turn-child =
              record {
                about_small = omega (arith, around_of given is-about);
                inner_small = omega (arith, (child-inside given).0);
                further = stop-within.0;
                within = stop-within.1;
                joined = joins;
              }
