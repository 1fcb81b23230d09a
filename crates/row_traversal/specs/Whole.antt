-- The whole image document: its root element and its end.
use Rattle.std.specs.Prelude.{◌≡◌, refl, List, [], ◌∷◌, ◌++◌, ℕ, ◌+◌, ◌<◌, length, get_or}
use Rattle.std.proofs.Common.{sym, ap, ◌∙◌, subst, arith}
use Rattle.model.specs.Definitions.Content.{Content, bytes, content_of, document}
use Rattle.model.specs.Definitions.Image.{image}
use Rattle.model.specs.Definitions.Templates.{writes}
use Rattle.model.proofs.Theorems.Templates.{write_image}
use Rattle.loaded_table.specs.Loaded.{table_by}
use Rattle.loaded_setting.specs.Ready.{setting_in, Ready}
use Rattle.loaded_setting.specs.Trees.{SoundTree}
use Rattle.rows.specs.Rows.{Rows}
use Rattle.scanning.specs.Scanning.{ContentAt}
use Rattle.scanning.specs.Laws.{content_within, root_at}
use Rattle.row_traversal.specs.Contents.{part_from, inside_part, FirstThere, RowIs}
use Rattle.row_traversal.specs.Asked.{prepared_setting, ImageAsked, RowAsked}
use Rattle.row_traversal.specs.Elements.{element_row_lem}

-- a document's root, what it holds, and its end
document-bytes : (k : Content) → document 0 k ≡ (0x30 ∷ 0 ∷ []) ++ ((bytes k ++ 0x32 ∷ []) ++ 0x3F ∷ [])
unfolding document bytes
document-bytes k = refl

-- the image of a source document is asked for, where the templates of its setting are prepared
pub image_asked : {source target map em pool places tr : List ℕ} → Ready source target map em → SoundTree (table_by source) tr → Rows (setting_in source target map em) pool places
    → ImageAsked source pool places tr (document 0 (image (setting_in source target map em) (content_of tr)))
image_asked {target = target} {map} {em} {tr = tr} ready tree rows =
    record {
      prepared = record { target = target; map = map; em = em; ready = ready; rows = rows };
      inside = content_of tr;
      form = tree.form;
      holds = tree.holds;
      is = refl;
    }

module _ {source pool places tr : List ℕ} {bs : List ℕ} (a : ImageAsked source pool places tr bs) where
  -- what the root of the image holds
  abbrev pub held : List ℕ
  held = writes (prepared_setting a.prepared) 0 a.inside

  pub root_there : ContentAt tr 2 a.inside
  root_there = subst (λ (l : List ℕ). ContentAt l 2 a.inside) (sym a.form) (root_at 0 a.inside)

  pub root_type : get_or tr (0 + 1) 0 ≡ 0
  root_type = rw a.form (unfold document bytes in refl)

  -- the source root opens at offset 0
  abbrev pub image_root : FirstThere (table_by source) tr 0
  image_root =
      record {
        type = 0;
        inside = a.inside;
        element = record { named = root_type; within = root_there };
        is_type = a.prepared.ready.valid.source_sound.well_formed.has_root;
        holds = a.holds;
      }

  -- what it holds begins within the document
  pub image_within : 2 < length tr
  image_within = omega (arith, content_within root_there)

  -- its row is asked for
  pub image_row : {r : ℕ} → RowIs (table_by source) tr 0 r → RowAsked source pool places (part_from tr 2) r held
  image_row row_is = element_row_lem a.prepared image_root.is_type a.holds (inside_part 0 root_there) (row_is image_root)

  -- the bytes of the image
  pub image_bytes : bs ≡ (0x30 ∷ 0 ∷ []) ++ ((held ++ 0x32 ∷ []) ++ 0x3F ∷ [])
  image_bytes =
      a.is ∙ document-bytes (image (prepared_setting a.prepared) a.inside)
      ∙ ap (λ (inner : List ℕ). (0x30 ∷ 0 ∷ []) ++ ((inner ++ 0x32 ∷ []) ++ 0x3F ∷ [])) (sym (write_image (prepared_setting a.prepared) a.prepared.ready.valid a.inside a.holds))
