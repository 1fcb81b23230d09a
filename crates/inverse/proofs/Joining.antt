-- The loop that reads an element's children: what is left to read gives the whole.
use mathlib.Core.Path.{◌≡◌, refl, ap, ◌∙◌}
use mathlib.Core.List.{List, [], ◌∷◌, append_assoc}
use mathlib.Core.Option.{Option, none, some}
use Prim.Native.Nat.{ℕ, ◌+◌, ◌≤◌, ◌<◌}
use native.Mathlib.Omega.{arith}
use lib.ListN.{length}
use lib.Seq.{sets}
use Rattle.model.specs.Definitions.Basics.{and_then}
use Rattle.model.specs.Definitions.Content.{Content, end, elem, bytes}
use Rattle.model.proofs.Theorems.Tools.{some_none}
use Rattle.model.proofs.Theorems.ReadsPlain.{plain_then}
use Rattle.writing.specs.Writing.{Writes}
use Rattle.writing.specs.Laws.{writes-left}
use Rattle.inverse.specs.Reading.{element_of, ReadsTo}
use Rattle.inverse.proofs.Elements.{end_length, element_length, sought_length, element_made}

-- ---- a child and what follows it

-- what was read as a child and as what follows it
record ChildAndRest (m : ℕ) (child rest : Option Content) (r : Content) : Type 0 where
  pub inside : Content
  pub after : Content
  pub was_read : child ≡ some inside
  pub was_after : rest ≡ some after
  pub made : r ≡ elem m inside after

child_read_lem : (m : ℕ) (child rest : Option Content) (r : Content) → plain_then m child rest ≡ some r → ChildAndRest m child rest r
unfolding plain_then and_then
child_read_lem m none rest r e = some_none e refl
child_read_lem m (some i) none r e = some_none e refl
child_read_lem m (some i) (some l) r e = record { inside = i; after = l; was_read = refl; was_after = refl; made = cc }

one_some : (m : ℕ) (child rest : Option Content) (i r : Content) → child ≡ some i → rest ≡ some r → plain_then m child rest ≡ some (elem m i r)
unfolding plain_then and_then
one_some m child rest i r p q = rw (p, q)

one_none : (m : ℕ) (child rest : Option Content) (i : Content) → child ≡ some i → rest ≡ none → plain_then m child rest ≡ none
unfolding plain_then and_then
one_none m child rest i p q = rw (p, q)

-- ---- what is left

-- `rest`, written from `at` on into out, gives the whole, written from at₀ on into old
pub record Joined (old : List ℕ) (at₀ : ℕ) (whole : Option Content) (out : List ℕ) (at : ℕ) (r : Content) : Type 0 where
  pub content : Content
  pub is : whole ≡ some content
  pub same_bytes : sets out at (bytes r) ≡ sets old at₀ (bytes content)
  pub same_end : at + length (bytes r) ≡ at₀ + length (bytes content)

pub record Onto (old : List ℕ) (at₀ : ℕ) (whole : Option Content) (out : List ℕ) (at : ℕ) (rest : Option Content) : Type 0 where
  pub missing : rest ≡ none → whole ≡ none
  pub there : (r : Content) → rest ≡ some r → Joined old at₀ whole out at r

-- nothing is written yet
pub onto_start : (old : List ℕ) (at : ℕ) (whole rest : Option Content) → whole ≡ rest → Onto old at whole old at rest
onto_start old at whole rest e =
    record { missing = λ q. e ∙ q; there = λ r q. record { content = r; is = e ∙ q; same_bytes = refl; same_end = refl } }

module _ {old : List ℕ} {at₀ : ℕ} {whole : Option Content} {out : List ℕ} {at : ℕ} {rest : Option Content} (now : Onto old at₀ whole out at rest) where
  -- what is left is missing, or doesn't fit, and so does the whole
  pub onto_refuse : ((r : Content) → rest ≡ some r → length old < at + length (bytes r)) → (j : Content) → whole ≡ some j → length old < at₀ + length (bytes j)
  onto_refuse long j is = go rest refl
    where
      go : (o : Option Content) → rest ≡ o → length old < at₀ + length (bytes j)
      go none e = some_none is (now.missing e)
      go (some r) e =
          let joined = now.there r e in
          omega (arith, long r e, joined.same_end, sought_length joined.is is)

  pub onto_missing : rest ≡ none → (j : Content) → whole ≡ some j → length old < at₀ + length (bytes j)
  onto_missing e j is = some_none is (now.missing e)

  -- nothing is left
  pub onto_done : rest ≡ some end → at ≤ length old → ReadsTo old out at₀ at whole
  unfolding bytes
  onto_done e fits =
      let joined = now.there end e in
      record {
        content = joined.content;
        is = joined.is;
        written = record { written = joined.same_bytes; after = omega (arith, joined.same_end) };
        fits = fits;
      }

-- a child of type m is left, which holds what `child` is, before more
module _ {old : List ℕ} {at₀ : ℕ} {whole : Option Content} {out : List ℕ} {at : ℕ} (m : ℕ) (child more : Option Content)
    (now : Onto old at₀ whole out at (plain_then m child more)) where
  -- it is missing or doesn't fit
  pub child_refused : ((j : Content) → element_of m child ≡ some j → length old < at + length (bytes j)) → (j : Content) → whole ≡ some j → length old < at₀ + length (bytes j)
  unfolding and_then
  child_refused short =
      onto_refuse now λ r e.
      let both = child_read_lem m child more r e in
      let alone : element_of m child ≡ some (elem m both.inside end) = ap (element_of m) both.was_read in
      let long : length (bytes r) ≡ 3 + length (bytes both.inside) + length (bytes both.after) =
      ap (λ (l : Content). length (bytes l)) both.made ∙ element_length m both.inside both.after in
      omega (arith, short (elem m both.inside end) alone, element_length m both.inside end, end_length)

  -- it is written
  pub child_written : {out₁ : List ℕ} {at₁ : ℕ} → ReadsTo out out₁ at at₁ (element_of m child) → Onto old at₀ whole out₁ at₁ more
  unfolding bytes
  child_written {out₁} {at₁} element =
      let made = element_made m child element.content element.is in
      let i : Content = made.inside in
      let written : Writes out out₁ at (bytes (elem m i end)) at₁ = rw made.is at element.written in
      record {
        missing = λ e. now.missing (one_none m child more i made.was_read e);
        there = λ r e.
            let joined = now.there (elem m i r) (one_some m child more i r made.was_read e) in
            record {
              content = joined.content;
              is = joined.is;
              same_bytes =
                  writes-left written (bytes r)
                  ∙ ap (λ (bs : List ℕ). sets out at (0x30 ∷ m ∷ bs)) (append_assoc (bytes i) (0x32 ∷ []) (bytes r))
                  ∙ joined.same_bytes;
              same_end = omega (arith, joined.same_end, element_length m i r, element_length m i end, end_length, written.after);
            };
      }
