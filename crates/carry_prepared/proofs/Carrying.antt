-- From the measured image to the model's answer: the sizes are held at 60,001, which is beyond both limits, so each test of a
-- held size is the test of the size itself.
use mathlib.Core.Path.{◌≡◌, refl, sym, ap, ap₂, ◌∙◌}
use mathlib.Core.Bool.{true, false}
use mathlib.Core.List.{List, [], ◌∷◌, ◌++◌}
use Prim.Native.Nat.{ℕ, suc, ◌+◌, ◌*◌, ◌/◌, ◌≤◌, ◌<◌, min}
use native.Mathlib.Omega.{arith}
use lib.ListN.{length, length-append}
use lib.Seq.{sets}
use lib.Arith.{digits_div}
use borrow.Author.Tests.{le-leb}
use Rattle.std.specs.Prelude.{Result, Ok, Err}
use Rattle.answers.specs.declared.Refusal.{Refusal}
use Rattle.answers.specs.declared.Refusal.TheVariants.{ImageTooDeep, ImageTooLong, OutputTooShort}
use Rattle.answers.specs.declared.Written.{Written}
use Rattle.answers.specs.Answers.{written_result}
use Rattle.carry_prepared.specs.Carrying.{Carriable, Carries}
use Rattle.loaded_setting.specs.Ready.{setting_in}
use Rattle.measuring.specs.Measured.{Measurable, ImageSize}
use Rattle.writing.specs.Writing.{Writes}
use Rattle.row_traversal.specs.Asked.{ImageAsked}
use Rattle.row_traversal.specs.Whole.{image_asked}
use Rattle.filling.specs.Room.{ImageFits}
use Rattle.model.specs.Definitions.Content.{Content, bytes, content_of, document, levels}
use Rattle.model.specs.Definitions.TreeChecks.{max_levels}
use Rattle.model.specs.Definitions.Image.{Setting, image, image_by, image_levels, image_length, image_filler}
use Rattle.model.specs.Definitions.Refusals.{max_length}
use Rattle.model.specs.Definitions.Entries.{accepted, Outcome, written, carry_within, carry_content}
use Rattle.model.proofs.Theorems.Measures.{image-levels, image-length, Marked, marked, marked_end, marked_char, marked_elem, unmarked, count_filler, marked_is_image, marked_filler}
use Rattle.model.proofs.Theorems.EntryLaws.{content_too_deep, content_too_long, content_no_room}

-- ---- filler

-- each filler element takes 3 bytes
few_filler : (a : Marked) → 3 * count_filler a ≤ length (bytes (unmarked a))
unfolding count_filler unmarked bytes
few_filler marked_end = omega arith
few_filler (marked_char c r) = omega (arith, few_filler r)
few_filler (marked_elem true t k r) = omega (arith, few_filler k, few_filler r, length-append (bytes (unmarked k)) (0x32 ∷ bytes (unmarked r)))
few_filler (marked_elem false t k r) = omega (arith, few_filler k, few_filler r, length-append (bytes (unmarked k)) (0x32 ∷ bytes (unmarked r)))

-- so the filler of an image is not longer than the image
filler_within : (X : Setting) (k : Content) → 3 * image_filler X k ≤ length (document 0 (image X k))
unfolding document bytes
filler_within X k =
    let whole = bytes (image X k) in
    let few : 3 * image_filler X k ≤ length whole = rw (marked_filler X k, marked_is_image X k) at (few_filler (image_by marked X k)) in
    omega (arith, few, length-append whole (0x32 ∷ []), length-append (whole ++ 0x32 ∷ []) (0x3F ∷ []))

-- and its bytes, held at 60,001, give the number of its elements
pub filler_count : (X : Setting) (k : Content) (fill : ℕ) → fill ≡ min 60001 (3 * image_filler X k) → length (document 0 (image X k)) ≤ 60000 → fill / 3 ≡ image_filler X k
filler_count X k fill is short =
    let whole : fill ≡ image_filler X k * 3 + 0 = omega (arith, is, filler_within X k, short) in
    rw whole (digits_div (image_filler X k) (omega arith))

-- ---- answers

module _ (X : Setting) (tr old : List ℕ) where
  abbrev k : Content
  k = content_of tr

  -- an outcome that is the model's gives answer and output
  outcome : (new : List ℕ) (r : Result Written Refusal) {o : Outcome} → carry_content old X k ≡ o → written_result r ≡ o.result → new ≡ o.output → Carries X tr old new r
  outcome new r is answer output =
      record { same_answer = answer ∙ sym (ap (λ (o : Outcome). o.result) is); same_output = output ∙ sym (ap (λ (o : Outcome). o.output) is) }

  -- a 129th level
  pub too_deep : (high : ℕ) → high ≡ min 60001 (image_levels X k) → 128 < high → Carries X tr old old (Err ImageTooDeep)
  too_deep high is far = outcome old (Err ImageTooDeep) (content_too_deep X old k (omega (arith, image-levels X k))) refl refl

  module _ (high size : ℕ) (high_is : high ≡ min 60001 (image_levels X k)) (size_is : size ≡ min 60001 (image_length X k)) (low : high ≤ 128) where
    within-levels : suc (levels (image X k)) ≤ max_levels
    within-levels = omega (arith, image-levels X k)

    -- more than 60,000 bytes
    pub too_long : 60000 < size → Carries X tr old old (Err ImageTooLong)
    too_long long = outcome old (Err ImageTooLong) (content_too_long X old k within-levels (omega (arith, image-length X k))) refl refl

    module _ (short : size ≤ 60000) where
      within-bytes : length (document 0 (image X k)) ≤ max_length
      within-bytes = omega (arith, image-length X k)

      -- no room
      pub no_room : length old < size → Carries X tr old old (Err OutputTooShort)
      no_room less = outcome old (Err OutputTooShort) (content_no_room X old k within-levels within-bytes (omega (arith, image-length X k))) refl refl

      -- there is room for the image
      pub has_room : size ≤ length old → length (document 0 (image X k)) ≤ length old
      has_room enough = omega (arith, image-length X k)

      -- it is written
      pub carries : (new : List ℕ) (n filler : ℕ) → size ≤ length old → new ≡ sets old 0 (document 0 (image X k)) → n ≡ length (document 0 (image X k)) → filler ≡ image_filler X k
          → Carries X tr old new (Ok (record { length = n; filler = filler }))
      unfolding carry_content carry_within written
      carries new n filler enough done is_length is_filler =
          let room : length (document 0 (image X k)) ≤ length old = has_room enough in
          outcome new (Ok (record { length = n; filler = filler })) {o = written old (document 0 (image X k)) (image_filler X k)}
          (rw (image-levels X k, image-length X k, le-leb _ _ within-levels, le-leb _ _ within-bytes, le-leb _ _ room) refl)
          (ap₂ (λ (m f : ℕ). accepted m f) is_length is_filler) done

-- ---- by what measuring and writing promise

module _ {source map pool places sizes tr : List ℕ} (g : Carriable source map pool places sizes tr) where
  abbrev Y : Setting
  Y = setting_in source g.target map g.em

  -- the image is what writing is asked for
  asked : ImageAsked source pool places tr (document 0 (image Y (content_of tr)))
  asked = image_asked g.ready g.tree g.rows

  module _ {high size fill : ℕ} (measured : (m : Measurable source map sizes tr) → ImageSize (setting_in source m.target map m.em) (content_of tr) high size fill) (old : List ℕ) where
    sizes-are : ImageSize Y (content_of tr) high size fill
    sizes-are = measured record { target = g.target; em = g.em; ready = g.ready; sized = g.sized; is_document = g.tree.form; holds = g.tree.holds }

    pub carry-too-deep : 128 < high → Carries Y tr old old (Err ImageTooDeep)
    carry-too-deep far = too_deep Y tr old high sizes-are.levels_are far

    pub carry-too-long : high ≤ 128 → 60000 < size → Carries Y tr old old (Err ImageTooLong)
    carry-too-long low long = too_long Y tr old high size sizes-are.levels_are sizes-are.bytes_are low long

    pub carry-no-room : high ≤ 128 → size ≤ 60000 → length old < size → Carries Y tr old old (Err OutputTooShort)
    carry-no-room low short less = no_room Y tr old high size sizes-are.levels_are sizes-are.bytes_are low short less

    pub carry-fits : high ≤ 128 → size ≤ 60000 → size ≤ length old → ImageFits (ImageAsked source pool places tr) 0 (length old)
    carry-fits low short enough =
        record { bytes = document 0 (image Y (content_of tr)); asked = asked; room = omega (arith, has_room Y tr old high size sizes-are.levels_are sizes-are.bytes_are low short enough) }

    pub carry_writes : high ≤ 128 → size ≤ 60000 → size ≤ length old → (new : List ℕ) (n : ℕ) → ((bs : List ℕ) → ImageAsked source pool places tr bs → Writes old new 0 bs n)
        → Carries Y tr old new (Ok (record { length = n; filler = fill / 3 }))
    carry_writes low short enough new n writes =
        let done = writes (document 0 (image Y (content_of tr))) asked in
        carries Y tr old high size sizes-are.levels_are sizes-are.bytes_are low short new n (fill / 3) enough done.written (omega (arith, done.after))
        (filler_count Y (content_of tr) fill sizes-are.filler_is (omega (arith, sizes-are.bytes_are, image-length Y (content_of tr))))
