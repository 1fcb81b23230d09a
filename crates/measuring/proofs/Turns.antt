-- The turns of the loop over an element's content, for every content that begins at `from`.
use mathlib.Core.Path.{◌≡◌, refl, sym, ap, ◌∙◌, subst}
use mathlib.Core.List.{List}
use mathlib.Core.Option.{Option}
use Prim.Native.Nat.{ℕ, ◌+◌, ◌*◌, ◌≤◌, ◌<◌, min, max}
use native.Mathlib.Numerals.{add-one}
use native.Mathlib.Omega.{arith}
use lib.ListN.{length, get_or}
use Rattle.model.specs.Definitions.Table.{Kind, text, empty, sequence, choice, list, kind_of}
use Rattle.model.specs.Definitions.Content.{Content, bytes}
use Rattle.model.specs.Definitions.Image.{Setting}
use Rattle.model.specs.Definitions.Templates.{first_in, around, own_length, own_filler, own_levels, item_length, item_filler, item_levels}
use Rattle.loaded_table.specs.Loaded.{table_by, length_of_lem}
use Rattle.loaded_embedding.specs.Loaded.{lengths_of}
use Rattle.loaded_setting.specs.Ready.{setting_in}
use Rattle.scanning.specs.Scanning.{ContentAt}
use Rattle.scanning.specs.Laws.{content_within}
use Rattle.rows.specs.Rows.{levels_in, bytes_in, filler_in, source_row, item_row, SizeAt}
use Rattle.measuring.specs.Measured.{edge_number, type_ahead, Held, Given, Measured}
use Rattle.rows.specs.FirstChildren.{first_chosen}
use Rattle.measuring.proofs.Edges.{number_few, child_steps}
use Rattle.measuring.proofs.Content.{left_of, first_ahead, unread_within, unread_opens, lettered, opened, unread-child}
use Rattle.measuring.proofs.Counting.{Counted, Around, counted_done, counted_letter, counted_next}

-- a size around items that is held, is held
pub held-around : (κ : Kind) (n m : ℕ) → ((item : ℕ) → κ ≡ list item → n ≡ min 60001 m) → around κ n ≡ min 60001 (around κ m)
unfolding around
held-around text n m same = omega arith
held-around empty n m same = omega arith
held-around (sequence ms) n m same = omega arith
held-around (choice need ms) n m same = omega arith
held-around (list item) n m same = same item refl

held_start : (a b : ℕ) → min 60001 (max (min 60001 a) b) ≡ min 60001 (max a b)
held_start a b = omega arith

pub held_sum : (a b : ℕ) → min 60001 (min 60001 a + b) ≡ min 60001 (a + b)
held_sum a b = omega arith

abbrev pub given_setting : {source map sizes tr : List ℕ} {s from : ℕ} → Given source map sizes tr s from → Setting
given_setting {source} {map} g = setting_in source g.target map g.em

-- the loop's invariant
pub record SizeSoFar (source map sizes tr : List ℕ) (s from o i high long fill : ℕ) : Type 0 where
  pub far : from ≤ o
  pub few : i ≤ o
  pub held : Held high long fill
  pub counted : (g : Given source map sizes tr s from) → Counted (given_setting g) s tr g.held (from + length (bytes g.held)) o i high long fill

-- what stands ahead where an element opens
pub record Ahead (source map sizes tr : List ℕ) (s o i t : ℕ) : Type 0 where
  pub two : o + 1 < length tr
  pub few : edge_number (kind_of (table_by source) s) i t < 16
  pub given : Given source map sizes tr t (o + 2)

-- a child measured: its size and what stands around it are held, it ends within the document, and its size joined to the
-- size so far leaves what follows it
pub record ChildMeasured (source map sizes tr : List ℕ) (s from o i : ℕ) (high long fill about-high about-long about-fill depth in-high in-long in-fill stop : ℕ) : Type 0 where
  pub about_held : Held about-high about-long about-fill
  pub inner_held : Held in-high in-long in-fill
  pub further : o + 1 < stop
  pub within : stop < length tr
  pub joined : {high' long' fill' : ℕ}
      → high' ≡ max high (max about-high (min 60001 (depth + in-high)))
      → long' ≡ min 60001 (long + about-long + in-long)
      → fill' ≡ min 60001 (fill + about-fill + in-fill)
      → SizeSoFar source map sizes tr s from (stop + 1) (i + 1) high' long' fill'

module _ {source map sizes tr : List ℕ} {s from : ℕ} where
  exists_in : (g : Given source map sizes tr s from) → s < length (table_by source)
  exists_in g = omega (arith, length_of_lem source, g.exists)

  -- the rows of type s are within the sizes
  pub row_within : (g : Given source map sizes tr s from) (row : ℕ) → row ≤ item_row s → 3 * row + 2 < length sizes
  unfolding item_row
  row_within g row low = omega (arith, g.sized.long, length_of_lem source, g.exists, low)

  -- what stands around items
  pub around_of : (g : Given source map sizes tr s from) {high long fill : ℕ}
      → high ≡ around (kind_of (table_by source) s) (levels_in sizes (item_row s))
      → long ≡ around (kind_of (table_by source) s) (bytes_in sizes (item_row s))
      → fill ≡ around (kind_of (table_by source) s) (filler_in sizes (item_row s))
      → Around (given_setting g) s high long fill
  around_of g a b c =
      let at : (item : ℕ) → kind_of (table_by source) s ≡ list item → SizeAt sizes (item_row s) (item_levels (given_setting g) s) (item_length (given_setting g) s) (item_filler (given_setting g) s) = λ item same. g.sized.item_size s item (exists_in g) same in
      record {
        levels_are = a ∙ held-around _ _ _ (λ item same. (at item same).levels_are);
        bytes_are = b ∙ held-around _ _ _ (λ item same. (at item same).bytes_are);
        filler_is = c ∙ held-around _ _ _ (λ item same. (at item same).filler_is);
      }

  module _ {first : Option ℕ} {row high long fill : ℕ}
      (firsts : (k : Content) → ContentAt tr from k → first ≡ type_ahead k)
      (is_row : row ≡ source_row (table_by source) s first)
      (is-high : high ≡ levels_in sizes row)
      (is-long : long ≡ bytes_in sizes row)
      (is-fill : fill ≡ filler_in sizes row) where
    own_at : (g : Given source map sizes tr s from)
        → SizeAt sizes row (own_levels (given_setting g) s (first_in g.held)) (own_length (given_setting g) s (first_in g.held)) (own_filler (given_setting g) s (first_in g.held))
    own_at g =
        let same : first ≡ first_in g.held = firsts g.held g.there ∙ first_ahead (table_by source) g.holds in
        let own = g.sized.own_size s (first_in g.held) (exists_in g) (first_chosen g.holds) in
        rw (is_row, same) own

    -- at the start all of the content is left
    pub counts_start : Given source map sizes tr s from → SizeSoFar source map sizes tr s from from 0 high long fill
    counts_start given =
        let own₀ = own_at given in
        record {
          far = omega arith;
          few = omega arith;
          held = record {
            levels_held = omega (arith, is-high, own₀.levels_are);
            bytes_held = omega (arith, is-long, own₀.bytes_are);
            filler_held = omega (arith, is-fill, own₀.filler_is);
          };
          counted = λ g.
              let own = own_at g in
              record {
                unread = record { left = g.held; here = g.there; fit = left_of g.well_formed s g.holds; closes = refl };
                levels_left_lem = rw (is-high, own.levels_are) (held_start _ _);
                bytes_left = rw (is-long, own.bytes_are) (held_sum _ _);
                filler_left = rw (is-fill, own.filler_is) (held_sum _ _);
              };
        }

  module _ {o i high long fill : ℕ} (now : SizeSoFar source map sizes tr s from o i high long fill) (given : Given source map sizes tr s from) where
    pub turn-within : o < length tr
    turn-within = unread_within (now.counted given).unread

    pub turn_done : get_or tr o 0 ≡ 0x32 → (g : Given source map sizes tr s from)
        → Measured (given_setting g) s g.held high long fill × (o ≡ from + length (bytes g.held))
    turn_done here g = counted_done (now.counted g) now.held here

    pub turn_two : get_or tr o 0 ≡ 0x31 → o + 1 < length tr
    turn_two first = (lettered (now.counted given).unread first).two

    -- a character
    pub turn-letter : get_or tr o 0 ≡ 0x31 → {high' long' fill' : ℕ} → high' ≡ high → long' ≡ min 60001 (long + 2) → fill' ≡ fill
        → SizeSoFar source map sizes tr s from (o + 2) i high' long' fill'
    turn-letter first a b c =
        rw (a, b, c)
        record {
          far = omega (arith, now.far);
          few = omega (arith, now.few);
          held = record { levels_held = now.held.levels_held; bytes_held = omega arith; filler_held = now.held.filler_held };
          counted = λ g. counted_letter (now.counted g) first;
        }

    module _ (other : get_or tr o 0 ≡ 0x31 → ⊥) (another : get_or tr o 0 ≡ 0x32 → ⊥) where
      first : get_or tr o 0 ≡ 0x30
      first = unread_opens (now.counted given).unread other another

      abbrev child-given : (g : Given source map sizes tr s from) → Given source map sizes tr (opened (now.counted g).unread first).type (o + 2)
      child-given g =
          let child = unread-child (now.counted g).unread first in
          record {
            target = g.target;
            em = g.em;
            sized = g.sized;
            well_formed = g.well_formed;
            bounded = g.bounded;
            exists = omega (arith, length_of_lem source, child.exists);
            held = (opened (now.counted g).unread first).inside;
            there = (opened (now.counted g).unread first).within;
            holds = child.holds;
          }

      pub turn-opens : o + 1 < length tr
      turn-opens = (opened (now.counted given).unread first).two

      module _ (t : ℕ) (named : t ≡ get_or tr (o + 1) 0) where
        type-is : (g : Given source map sizes tr s from) → t ≡ (opened (now.counted g).unread first).type
        type-is g = named ∙ (opened (now.counted g).unread first).named

        -- an element opens
        pub turn-ahead : Ahead source map sizes tr s o i t
        turn-ahead =
            rw (type-is given)
            record {
              two = turn-opens;
              few = number_few s given.bounded (unread-child (now.counted given).unread first).edge;
              given = child-given given;
            }

        -- and its size is joined to the size so far
        module _ {about-high about-long about-fill depth in-high in-long in-fill stop : ℕ}
            (is-high : about-high ≡ around (kind_of (table_by source) s) (levels_in sizes (item_row s)))
            (is-long : about-long ≡ around (kind_of (table_by source) s) (bytes_in sizes (item_row s)))
            (is-fill : about-fill ≡ around (kind_of (table_by source) s) (filler_in sizes (item_row s)))
            (deep : depth ≡ get_or (lengths_of map) (s * 16 + edge_number (kind_of (table_by source) s) i t) 0)
            (inner : (g : Given source map sizes tr t (o + 2)) → Measured (given_setting g) t g.held in-high in-long in-fill × (stop ≡ o + 2 + length (bytes g.held))) where
          about-is-held : Held about-high about-long about-fill
          about-is-held =
              let item = around_of given is-high is-long is-fill in
              record { levels_held = omega (arith, item.levels_are); bytes_held = omega (arith, item.bytes_are); filler_held = omega (arith, item.filler_is) }

          inside : (g : Given source map sizes tr s from)
              → Measured (given_setting g) (opened (now.counted g).unread first).type (opened (now.counted g).unread first).inside in-high in-long in-fill × (stop ≡ o + 2 + length (bytes (opened (now.counted g).unread first).inside))
          inside g =
              subst (λ (u : ℕ). (h : Given source map sizes tr u (o + 2)) → Measured (given_setting h) u h.held in-high in-long in-fill × (stop ≡ o + 2 + length (bytes h.held))) (type-is g) inner (child-given g)

          inner-is-held : Held in-high in-long in-fill
          inner-is-held =
              let m = (inside given).0 in
              record { levels_held = omega (arith, m.levels_are); bytes_held = omega (arith, m.bytes_are); filler_held = omega (arith, m.filler_is) }

          -- the child ends further on, within the document
          stop-within : (o + 1 < stop) × (stop < length tr)
          stop-within = omega (arith, (inside given).1, content_within (opened (now.counted given).unread first).within)

          joins : {high' long' fill' : ℕ}
              → high' ≡ max high (max about-high (min 60001 (depth + in-high)))
              → long' ≡ min 60001 (long + about-long + in-long)
              → fill' ≡ min 60001 (fill + about-fill + in-fill)
              → SizeSoFar source map sizes tr s from (stop + 1) (i + 1) high' long' fill'
          joins a b c =
              let far = stop-within.0 in
              rw (a, b, c, add-one i)
              record {
                far = omega (arith, now.far, far);
                few = omega (arith, now.few, far);
                held = record { levels_held = omega (arith, now.held.levels_held, about-is-held.levels_held); bytes_held = omega arith; filler_held = omega arith };
                counted = λ g.
                    let steps = child_steps source map g.em s i (opened (now.counted g).unread first).type g.exists (unread-child (now.counted g).unread first).edge in
                    let deep-here = deep ∙ ap (λ (u : ℕ). get_or (lengths_of map) (s * 16 + edge_number (kind_of (table_by source) s) i u) 0) (type-is g) ∙ sym steps in
                    counted_next (now.counted g) first (around_of g is-high is-long is-fill) deep-here (inside g).0 (inside g).1;
              }

          pub turn-child : ChildMeasured source map sizes tr s from o i high long fill about-high about-long about-fill depth in-high in-long in-fill stop
          turn-child = record { about_held = about-is-held; inner_held = inner-is-held; further = stop-within.0; within = stop-within.1; joined = joins }
