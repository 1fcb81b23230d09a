-- The whole document: its root element, and the elements that paths build in its image.
use mathlib.Core.Path.{◌≡◌, sym, ap, ◌∙◌, subst}
use mathlib.Core.List.{List}
use Prim.Native.Nat.{ℕ, min}
use native.Mathlib.Omega.{arith}
use Rattle.model.specs.Definitions.Content.{content_of}
use Rattle.model.specs.Definitions.Image.{image_by}
use Rattle.model.proofs.Theorems.WithoutFiller.{built_of}
use Rattle.model.proofs.Theorems.BuiltElements.{image_built_rows}
use Rattle.loaded_table.specs.Loaded.{length_of_lem}
use Rattle.loaded_setting.specs.Ready.{setting_in}
use Rattle.scanning.specs.Scanning.{ContentAt}
use Rattle.scanning.specs.Laws.{root_at}
use Rattle.path_elements.specs.PathElements.{Given, Built, Countable}

module _ {source pool places tr : List ℕ} (m : Countable source pool places tr) where
  -- the root element's content
  abbrev pub root_given : Given source pool places tr 0 2
  root_given =
      record {
        target = m.target;
        map = m.map;
        em = m.em;
        rows = m.rows;
        well_formed = m.ready.valid.source_sound.well_formed;
        bounded = m.ready.source_bounded;
        exists = omega (arith, length_of_lem source, m.ready.valid.source_sound.well_formed.has_root);
        held = content_of tr;
        there = subst (λ (l : List ℕ). ContentAt l 2 (content_of tr)) (sym m.is_document) (root_at 0 (content_of tr));
        holds = m.holds;
      }

  -- what is counted below the root is counted in the image
  pub whole_count : {count : ℕ} → Built (setting_in source m.target m.map m.em) 0 (content_of tr) count
      → count ≡ min 60001 (image_by built_of (setting_in source m.target m.map m.em) (content_of tr))
  whole_count inside = inside ∙ ap (min 60001) (sym (image_built_rows (setting_in source m.target m.map m.em) m.ready.valid (content_of tr) m.holds))
