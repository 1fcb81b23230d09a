-- An element with the bytes that open and close it, and a text's characters.
use mathlib.Core.Path.{◌≡◌, refl, ap}
use mathlib.Core.List.{List, [], ◌∷◌}
use mathlib.Core.Option.{Option, none, some}
use Prim.Native.Nat.{ℕ, ◌+◌, ◌-◌, ◌≤◌, ◌<◌}
use native.Mathlib.Omega.{arith}
use lib.ListN.{length, length-append, drop, take}
use Rattle.model.specs.Definitions.Basics.{and_then}
use Rattle.model.specs.Definitions.Content.{Content, end, elem, bytes}
use Rattle.model.specs.Definitions.Inverse.{Located}
use Rattle.model.proofs.Theorems.Tools.{some_none}
use Rattle.model.proofs.Theorems.ReadsPlain.{held_at}
use Rattle.scanning.specs.Scanning.{ContentAt}
use Rattle.scanning.specs.Finding.{FoundContent}
use Rattle.scanning.specs.Laws.{content_within, content_part}
use Rattle.writing.specs.Writing.{Writes}
use Rattle.writing.specs.Laws.{writes_then, writes-length}
use Rattle.inverse.specs.Reading.{element_of, ReadsTo}

pub end_length : length (bytes end) ≡ 0
unfolding bytes
end_length = refl

pub element_length : (m : ℕ) (i r : Content) → length (bytes (elem m i r)) ≡ 3 + length (bytes i) + length (bytes r)
unfolding bytes
element_length m i r = omega (arith, length-append (bytes i) (0x32 ∷ bytes r))

-- one content is sought, of one length
pub sought_length : {sought : Option Content} {k l : Content} → sought ≡ some k → sought ≡ some l → length (bytes k) ≡ length (bytes l)
sought_length {k = k} {l} f g = let same : k ≡ l = cc in ap (λ (m : Content). length (bytes m)) same

-- what an element that was read holds
pub record Made (m : ℕ) (sought : Option Content) (j : Content) : Type 0 where
  pub inside : Content
  pub was_read : sought ≡ some inside
  pub is : j ≡ elem m inside end

pub element_made : (m : ℕ) (sought : Option Content) (j : Content) → element_of m sought ≡ some j → Made m sought j
unfolding and_then
element_made m none j e = some_none e refl
element_made m (some i) j e = record { inside = i; was_read = refl; is = cc }

-- ---- an element of type m that holds what is sought

module _ (m : ℕ) (sought : Option Content) where
  -- its bytes
  long : (j : Content) (made : Made m sought j) → length (bytes j) ≡ 3 + length (bytes made.inside)
  long j made = omega (arith, ap (λ (l : Content). length (bytes l)) made.is, element_length m made.inside end, end_length)

  -- there is no room for an element
  pub element_no_room : (size at : ℕ) → size - at < 3 → (j : Content) → element_of m sought ≡ some j → size < at + length (bytes j)
  element_no_room size at short j e = omega (arith, long j (element_made m sought j e))

  module _ {old : List ℕ} {at : ℕ} {out₁ : List ℕ} {at₁ : ℕ} (opened : Writes old out₁ at (0x30 ∷ m ∷ []) at₁) where
    -- what it holds is missing or doesn't fit
    pub element-refused : ((i : Content) → sought ≡ some i → length out₁ < at₁ + length (bytes i)) → (j : Content) → element_of m sought ≡ some j → length old < at + length (bytes j)
    element-refused short j e =
        let made = element_made m sought j e in
        omega (arith, long j made, short made.inside made.was_read, opened.after, writes-length opened)

    module _ {out₂ : List ℕ} {at₂ : ℕ} (held : ReadsTo out₁ out₂ at₁ at₂ sought) where
      pub held-within : (at₂ ≤ length out₂) × (length out₂ ≡ length old)
      held-within = (omega (arith, held.fits, writes-length held.written), omega (arith, writes-length opened, writes-length held.written))

      -- there is no room for its close
      pub element-no-close : at₂ ≡ length out₂ → (j : Content) → element_of m sought ≡ some j → length old < at + length (bytes j)
      element-no-close full j e =
          let made = element_made m sought j e in
          omega (arith, long j made, sought_length held.is made.was_read, opened.after, held.written.after, held-within.1)

      -- it is written
      pub element-written : {out₃ : List ℕ} {at₃ : ℕ} → (at₂ ≡ length out₂ → ⊥) → Writes out₂ out₃ at₂ (0x32 ∷ []) at₃ → ReadsTo old out₃ at at₃ (element_of m sought)
      unfolding and_then bytes
      element-written other closed =
          record {
            content = elem m held.content end;
            is = rw held.is;
            written = writes_then (writes_then opened held.written) closed;
            fits = omega (arith, closed.after, held-within.0, held-within.1);
          }

-- ---- a text, whose characters begin at offset o, with the 32 after them at offset `close`

-- what was found, without its offset
held_is : {tr : List ℕ} {o : ℕ} {sought : Option Located} (found : FoundContent tr o sought) → held_at sought ≡ some found.content
unfolding held_at
held_is found = rw found.is

pub held_none : {sought : Option Located} → sought ≡ none → held_at sought ≡ none
unfolding held_at
held_none e = rw e

module _ {tr : List ℕ} {o close : ℕ} {sought : Option Located} (found : FoundContent tr o sought) (skips : (k : Content) → ContentAt tr o k → close ≡ o + length (bytes k)) where
  ends : close ≡ o + length (bytes found.content)
  ends = skips found.content found.there

  pub text_within : (o ≤ close) × (close ≤ length tr)
  text_within = omega (arith, ends, content_within found.there)

  -- they are copied
  pub text_copied : {old new : List ℕ} {at e : ℕ} → close - o ≤ length old - at → at ≤ length old → Writes old new at (take (close - o) (drop o tr)) e → ReadsTo old new at e (held_at sought)
  text_copied fits room written =
      let w = rw (content_part found.there close ends) at written in
      record { content = found.content; is = held_is found; written = w; fits = omega (arith, w.after, ends) }

  -- or don't fit
  pub text_too_long : (old : List ℕ) (at : ℕ) → length old - at < close - o → (j : Content) → held_at sought ≡ some j → length old < at + length (bytes j)
  text_too_long old at short j e =
      omega (arith, ends, sought_length (held_is found) e)
