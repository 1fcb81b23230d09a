-- The distances to closing bytes, filled from the last offset to the first.
use mathlib.Core.Path.{◌≡◌, refl, sym, ap, ◌∙◌, subst₂}
use mathlib.Core.Bool.{Bool, true, false}
use mathlib.Core.List.{List, ◌∷◌}
use Prim.Native.Nat.{ℕ, ◌+◌, ◌-◌, ◌≤◌, ◌<◌}
use native.Mathlib.Omega.{arith}
use lib.ListN.{length, take, get_or, set, length-set, length-append, get_or-eq_default}
use lib.Dec.{eqb, ltb}
use lib.Seq.{length-take-le, get_or-take, get_or-set_same, get_or-set_other}
use borrow.Author.Tests.{eqb-true, eqb-false, ltb-true, ltb-false}
use Rattle.model.specs.Definitions.Content.{Content, end, char, elem, bytes}
use Rattle.scanning.specs.Scanning.{ContentAt}
use Rattle.scanning.specs.Laws.{content_within, opens, opens_next, letters, element_first, character_first, end_first}
use Rattle.scanning.specs.Spanning.{Spans, SpansWithin, SpanAt, SpansRoom, span_in, FilledFrom}

-- ---- one offset

-- from inside an element, and from behind it, the end is passed by one at most
pub inside_within : {spans : List ℕ} {o : ℕ} → o < length spans → SpansWithin spans o → o + 2 + get_or spans (o + 2) 0 ≤ length spans + 1
inside_within {spans} {o} less b = by_place (ltb (o + 2) (length spans)) refl
  where
    by_place : (c : Bool) → ltb (o + 2) (length spans) ≡ c → o + 2 + get_or spans (o + 2) 0 ≤ length spans + 1
    by_place true e = b.within (o + 2) (omega arith) (ltb-true (o + 2) (length spans) e)
    by_place false e = omega (arith, ltb-false (o + 2) (length spans) e, get_or-eq_default spans 0 (ltb-false (o + 2) (length spans) e))

pub behind_within : {spans : List ℕ} {o : ℕ} → SpansWithin spans o → o + 2 + get_or spans (o + 2) 0 + 1 < length spans
    → o + 2 + get_or spans (o + 2) 0 + 1 + get_or spans (o + 2 + get_or spans (o + 2) 0 + 1) 0 ≤ length spans + 1
behind_within {spans} {o} b h = b.within (o + 2 + get_or spans (o + 2) 0 + 1) (omega arith) h

-- past an element; `far` is how far it is from inside it
pub element_span : {spans : List ℕ} {o b far : ℕ} → SpansWithin spans o → far ≡ get_or spans (o + 2) 0 → b ≡ 0x30 → o + 2 + far + 1 < length spans
    → SpanAt spans b o (o + 2 + far + 1 - o + get_or spans (o + 2 + far + 1) 0)
element_span {spans} {o} {b} {far} bounded known is h =
    let enough : o + 2 + get_or spans (o + 2) 0 + 1 < length spans = rw known at h in
    rw known
    (record {
      short = omega (arith, behind_within bounded enough);
      character = λ other. absurd (omega arith);
      element = λ same far. omega arith;
      closing = λ not-open not-letter. absurd (not-open is);
    })

-- an element behind which the document ends
pub element_last : {spans : List ℕ} {o b far : ℕ} → o < length spans → far ≡ get_or spans (o + 2) 0 → b ≡ 0x30 → length spans ≤ o + 2 + far + 1 → SpanAt spans b o 0
element_last {spans} {o} {b} {far} within known is h =
    record {
      short = omega arith;
      character = λ other. absurd (omega arith);
      element = λ same far. absurd (omega (arith, known));
      closing = λ not-open not-letter. refl;
    }

-- past a character
pub character_span : {spans : List ℕ} {o b far : ℕ} → o < length spans → SpansWithin spans o → far ≡ get_or spans (o + 2) 0 → b ≡ 0x31 → SpanAt spans b o (2 + far)
character_span {spans} {o} {b} less bounded known is =
    record {
      short = omega (arith, inside_within less bounded, known);
      character = λ same. omega (arith, known);
      element = λ other far. absurd (omega arith);
      closing = λ not-open not-letter. absurd (not-letter is);
    }

-- ---- all offsets

-- what stands behind a character
behind_character : {tr : List ℕ} {o c : ℕ} {r : Content} → ContentAt tr o (char c r) → ContentAt tr (o + 2) r
behind_character {tr} {o} {c} {r} a =
    let it = letters (char c r) a (character_first a) in
    let same : r ≡ it.next = cc in
    record { rest = a.rest; stands = rw same it.follows }

-- what an element holds, and what stands behind it
inside_element : {tr : List ℕ} {o t : ℕ} {k r : Content} → ContentAt tr o (elem t k r) → ContentAt tr (o + 2) k
inside_element {tr} {o} {t} {k} {r} a =
    let it = opens (elem t k r) a (element_first a) in
    let same : k ≡ it.inside = cc in
    rw same it.within

behind_element : {tr : List ℕ} {o t : ℕ} {k r : Content} → ContentAt tr o (elem t k r) → ContentAt tr (o + 2 + length (bytes k) + 1) r
behind_element {tr} {o} {t} {k} {r} a =
    let it = opens (elem t k r) a (element_first a) in
    let same : k ≡ it.inside = cc in
    let next : r ≡ it.next = cc in
    subst₂ (λ (x y : Content). ContentAt tr (o + 2 + length (bytes x) + 1) y) (sym same) (sym next) (opens_next it)

module _ (tr spans : List ℕ) (o : ℕ) (room : length tr ≤ length spans) (f : FilledFrom tr (o + 1) spans) where
  long : length (take (length tr) spans) ≡ length tr
  long = length-take-le (length tr) spans room

  kept : (j : ℕ) → j < length tr → span_in tr spans j ≡ get_or spans j 0
  kept j less = get_or-take (length tr) spans j 0 less

  -- how far it is from an offset at which content begins, by the first command of the content
  span_of : {far : ℕ} → SpanAt (take (length tr) spans) (get_or tr o 0) o far → (k : Content) → ContentAt tr o k → far ≡ length (bytes k)
  unfolding bytes
  span_of s end a = s.closing (λ e. omega (arith, end_first a)) (λ e. omega (arith, end_first a))
  span_of s (char c r) a =
      let next = behind_character a in
      let known : span_in tr spans (o + 2) ≡ length (bytes r) = kept (o + 2) (omega (arith, content_within next)) ∙ f.filled (o + 2) r (omega arith) next in
      omega (arith, s.character (character_first a), known)
  span_of s (elem t k r) a =
      let held = inside_element a in
      let next = behind_element a in
      let known : span_in tr spans (o + 2) ≡ length (bytes k) = kept (o + 2) (omega (arith, content_within held)) ∙ f.filled (o + 2) k (omega arith) held in
      let later : span_in tr spans (o + 2 + length (bytes k) + 1) ≡ length (bytes r) =
      kept (o + 2 + length (bytes k) + 1) (omega (arith, content_within next)) ∙ f.filled (o + 2 + length (bytes k) + 1) r (omega arith) next in
      let far-is = rw (known, later) at (s.element (element_first a)) in
      omega (arith, far-is (omega (arith, content_within next, long)), length-append (bytes k) (0x32 ∷ bytes r))

  module _ {far : ℕ} (less : o < length tr) (s : SpanAt (take (length tr) spans) (get_or tr o 0) o far) where
    -- one offset more is filled
    pub one-filled : FilledFrom tr o (set spans o far)
    one-filled =
        record { bounded = λ j low high. at-bounded j low high (eqb j o) refl; filled = λ j k low a. at-filled j k low a (eqb j o) refl }
      where
        here : get_or (set spans o far) o 0 ≡ far
        here = get_or-set_same spans o far 0 (omega arith)

        at-bounded : (j : ℕ) → o ≤ j → j < length tr → (b : Bool) → eqb j o ≡ b → j + get_or (set spans o far) j 0 ≤ length tr + 1
        at-bounded j low high true e = rw (eqb-true j o e, here) (omega (arith, s.short, long))
        at-bounded j low high false e =
            let other = eqb-false j o e in
            rw (get_or-set_other spans o j far 0 other) (f.bounded j (omega arith) high)

        at-filled : (j : ℕ) (k : Content) → o ≤ j → ContentAt tr j k → (b : Bool) → eqb j o ≡ b → get_or (set spans o far) j 0 ≡ length (bytes k)
        at-filled j k low a true e =
            let same : j ≡ o = eqb-true j o e in
            let there : ContentAt tr o k = rw same at a in
            rw (same, here) (span_of s k there)
        at-filled j k low a false e =
            let other = eqb-false j o e in
            get_or-set_other spans o j far 0 other ∙ f.filled j k (omega arith) a

-- ---- spans that are kept

-- behind the end
pub span_beyond : (tr spans : List ℕ) (o : ℕ) → length tr ≤ length spans → length tr ≤ o → span_in tr spans o ≡ 0
span_beyond tr spans o room beyond = get_or-eq_default (take (length tr) spans) 0 (omega (arith, length-take-le (length tr) spans room))

module _ (tr spans : List ℕ) (o : ℕ) (room : length tr ≤ length spans) (less : o < length tr) (far : ℕ) where
  set_room : length tr ≤ length (set spans o far)
  set_room = omega (arith, length-set spans o far)

  -- the span that was filled
  pub span_filled : far ≡ span_in tr (set spans o far) o
  span_filled = sym (get_or-take (length tr) (set spans o far) o 0 less ∙ get_or-set_same spans o far 0 (omega arith))

  -- and that of the next offset
  pub span_next : span_in tr spans (o + 1) ≡ span_in tr (set spans o far) (o + 1)
  span_next = by_place (ltb (o + 1) (length tr)) refl
    where
      by_place : (c : Bool) → ltb (o + 1) (length tr) ≡ c → span_in tr spans (o + 1) ≡ span_in tr (set spans o far) (o + 1)
      by_place true e =
          let inside = ltb-true (o + 1) (length tr) e in
          get_or-take (length tr) spans (o + 1) 0 inside ∙ sym (get_or-take (length tr) (set spans o far) (o + 1) 0 inside ∙ get_or-set_other spans o (o + 1) far 0 (λ same. omega arith))
      by_place false e =
          let beyond = ltb-false (o + 1) (length tr) e in
          span_beyond tr spans (o + 1) room beyond ∙ sym (span_beyond tr (set spans o far) (o + 1) set_room beyond)

-- ---- the loop

-- the loop has come to offset o, and keeps the spans of o and of the next offset
pub record Fills (tr old spans : List ℕ) (o near behind : ℕ) : Type 0 where
  pub low : o ≤ length tr
  pub long : length spans ≡ length old
  pub filled : FilledFrom tr o spans
  pub near_is : near ≡ span_in tr spans o
  pub behind_is : behind ≡ span_in tr spans (o + 1)

-- at first none is to be filled
pub none_filled : (tr spans : List ℕ) → length tr ≤ length spans → Fills tr spans spans (length tr) 0 0
none_filled tr spans room =
    record {
      low = omega arith;
      long = refl;
      filled = record { bounded = λ j low high. absurd (omega arith); filled = λ j k low a. absurd (omega (arith, content_within a)) };
      near_is = sym (span_beyond tr spans (length tr) room (omega arith));
      behind_is = sym (span_beyond tr spans (length tr + 1) room (omega arith));
    }

module _ {tr old spans : List ℕ} {p near behind : ℕ} (g : Fills tr old spans p near behind) (asked : SpansRoom tr old) (q : ℕ) (is : p ≡ q + 1) where
  room : length tr ≤ length spans
  room = omega (arith, g.long, asked.1)

  less : q < length tr
  less = omega (arith, g.low)

  -- the loop has come to the offset before it
  pub fill_next : {after : List ℕ} {far : ℕ} → (after ≡ set spans q far) × FilledFrom tr q after → Fills tr old after q far near
  fill_next {after} {far} w =
      let same : set spans q far ≡ after = sym w.0 in
      record {
        low = omega (arith, less);
        long = ap length w.0 ∙ length-set spans q far ∙ g.long;
        filled = w.1;
        near_is = span_filled tr spans q room less far ∙ ap (λ (xs : List ℕ). span_in tr xs q) same;
        behind_is = g.near_is ∙ ap (span_in tr spans) is ∙ span_next tr spans q room less far ∙ ap (λ (xs : List ℕ). span_in tr xs (q + 1)) same;
      }

-- when all are filled
pub all_filled : {tr old spans : List ℕ} {o near behind : ℕ} → Fills tr old spans o near behind → o ≤ 0 → SpansRoom tr old → Spans tr spans
all_filled g done asked =
    record { short = asked.0; whole = omega (arith, g.long, asked.1); span_is = λ o k a. g.filled.filled o k (omega arith) a }
