-- The whole document: its root element, and the size of its image.
use mathlib.Core.Path.{◌≡◌, sym, ap, ◌∙◌, subst}
use mathlib.Core.List.{List}
use Prim.Native.Nat.{ℕ, suc, ◌+◌, min, max}
use native.Mathlib.Omega.{arith}
use Rattle.model.specs.Definitions.Content.{content_of}
use Rattle.model.specs.Definitions.Templates.{first_in, own_length, own_levels, sum_length, deepest}
use Rattle.model.proofs.Theorems.TemplateSizes.{image_length_rows, image_filler_rows, image_levels_rows}
use Rattle.loaded_table.specs.Loaded.{length_of_lem}
use Rattle.loaded_setting.specs.Ready.{setting_in}
use Rattle.scanning.specs.Scanning.{ContentAt}
use Rattle.scanning.specs.Laws.{root_at}
use Rattle.measuring.specs.Measured.{Held, Given, Measured, Measurable, ImageSize}

-- held numbers, with the root's added
one_more : (n l : ℕ) → n ≡ min 60001 l → min 60001 (n + 1) ≡ min 60001 (suc l)
one_more n l same = omega (arith, same)

four_more : (n l : ℕ) → n ≡ min 60001 l → min 60001 (n + 4) ≡ min 60001 (l + 4)
four_more n l same = omega (arith, same)

module _ {source map sizes tr : List ℕ} (m : Measurable source map sizes tr) where
  -- the root element's content
  abbrev pub root_given : Given source map sizes tr 0 2
  root_given =
      record {
        target = m.target;
        em = m.em;
        sized = m.sized;
        well_formed = m.ready.valid.source_sound.well_formed;
        bounded = m.ready.source_bounded;
        exists = omega (arith, length_of_lem source, m.ready.valid.source_sound.well_formed.has_root);
        held = content_of tr;
        there = subst (λ (l : List ℕ). ContentAt l 2 (content_of tr)) (sym m.is_document) (root_at 0 (content_of tr));
        holds = m.holds;
      }

  module _ {high long fill : ℕ} (inside : Measured (setting_in source m.target map m.em) 0 (content_of tr) high long fill) where
    pub root-held : Held high long fill
    root-held = record { levels_held = omega (arith, inside.levels_are); bytes_held = omega (arith, inside.bytes_are); filler_held = omega (arith, inside.filler_is) }

    -- with the root and the end of the document
    pub whole-size : {high' long' : ℕ} → high' ≡ min 60001 (high + 1) → long' ≡ min 60001 (long + 4)
        → ImageSize (setting_in source m.target map m.em) (content_of tr) high' long' fill
    whole-size a b =
        let X = setting_in source m.target map m.em in
        let k = content_of tr in
        let valid = m.ready.valid in
        record {
          levels_are = a ∙ one_more high (max (own_levels X 0 (first_in k)) (deepest X 0 0 k)) inside.levels_are ∙ ap (min 60001) (sym (image_levels_rows X valid k m.holds));
          bytes_are = b ∙ four_more long (own_length X 0 (first_in k) + sum_length X 0 k) inside.bytes_are ∙ ap (min 60001) (sym (image_length_rows X valid k m.holds));
          filler_is = inside.filler_is ∙ ap (min 60001) (sym (image_filler_rows X valid k m.holds));
        }
