-- A whole document: its root element and the 3F after it.
use mathlib.Core.Path.{◌≡◌, sym, ap, ◌∙◌}
use mathlib.Core.List.{List, [], ◌∷◌, ◌++◌}
use mathlib.Core.Option.{some}
use Prim.Native.Nat.{ℕ, ◌+◌, ◌≤◌, ◌<◌}
use native.Mathlib.Omega.{arith}
use lib.ListN.{length, length-append}
use Rattle.model.specs.Definitions.Basics.{and_then}
use Rattle.model.specs.Definitions.Content.{Content, end, elem, bytes, document}
use Rattle.model.specs.Definitions.Image.{Setting}
use Rattle.model.specs.Definitions.Inverse.{located, reading, read_back}
use Rattle.loaded_setting.specs.Ready.{setting_in, Ready}
use Rattle.writing.specs.Writing.{Writes}
use Rattle.writing.specs.Laws.{writes_then, writes-length}
use Rattle.inverse.specs.Reading.{read_as, element_of, ReadsTo, BringsTo}
use Rattle.inverse.proofs.Elements.{end_length, element_length, sought_length, Made, element_made}

document-length : (j : Content) → length (document 0 j) ≡ 4 + length (bytes j)
unfolding document bytes
document-length j = omega (arith, length-append (bytes j ++ 0x32 ∷ []) (0x3F ∷ []), length-append (bytes j) (0x32 ∷ []))

module _ {source target map em : List ℕ} (ready : Ready source target map em) where
  abbrev X : Setting
  X = setting_in source target map em

  module _ {tr : List ℕ} (k : Content) (is : tr ≡ document 0 k) where
    -- the document's length is the bound of its levels
    back : read_back X k ≡ read_as X (length tr) 0 (located 2 k)
    unfolding read_back reading
    back = rw is

    -- the root is missing or doesn't fit
    pub whole-refused : (size : ℕ) → ((j : Content) → element_of 0 (read_as X (length tr) 0 (located 2 k)) ≡ some j → size < 0 + length (bytes j))
        → (j : Content) → read_back X k ≡ some j → size < length (document 0 j)
    unfolding and_then
    whole-refused size short j e =
        let alone : element_of 0 (read_as X (length tr) 0 (located 2 k)) ≡ some (elem 0 j end) = rw (sym back ∙ e) in
        omega (arith, short (elem 0 j end) alone, document-length j, element_length 0 j end, end_length)

    module _ {old out₁ : List ℕ} {at₁ : ℕ} (root : ReadsTo old out₁ 0 at₁ (element_of 0 (read_as X (length tr) 0 (located 2 k)))) where
      abbrev made : Made 0 (read_as X (length tr) 0 (located 2 k)) root.content
      made = element_made 0 (read_as X (length tr) 0 (located 2 k)) root.content root.is

      pub whole_room : (at₁ ≤ length out₁) × (length out₁ ≡ length old)
      whole_room = (omega (arith, root.fits, writes-length root.written), writes-length root.written)

      -- there is no room for the document's end
      pub whole-no-end : at₁ ≡ length out₁ → (j : Content) → read_back X k ≡ some j → length old < length (document 0 j)
      whole-no-end full j e =
          let long : length (bytes root.content) ≡ 3 + length (bytes made.inside) + length (bytes end) =
          ap (λ (l : Content). length (bytes l)) made.is ∙ element_length 0 made.inside end in
          omega (arith, document-length j, sought_length made.was_read (sym back ∙ e), end_length, root.written.after, whole_room.1)

      -- it is written
      pub whole-written : {out₂ : List ℕ} {at₂ : ℕ} → (at₁ ≡ length out₁ → ⊥) → Writes out₁ out₂ at₁ (0x3F ∷ []) at₂ → BringsTo old out₂ at₂ (read_back X k)
      unfolding document bytes
      whole-written {out₂} {at₂} other last =
          let element : Writes old out₁ 0 (bytes (elem 0 made.inside end)) at₁ = rw made.is at root.written in
          record {
            content = made.inside;
            is = back ∙ made.was_read;
            written = writes_then element last;
            fits = omega (arith, last.after, whole_room.0, whole_room.1);
          }
