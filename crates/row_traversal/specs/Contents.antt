-- Children of content by their number, and where they stand in a document.
use Rattle.std.specs.Prelude.{◌≡◌, refl, ℕ, zero, suc, ◌+◌, ◌-◌, ◌<◌, length, get_or, drop, take}
use Rattle.std.proofs.Common.{sym, ap, ◌∙◌, subst, add-zero, arith, drop-drop}
use mathlib.Core.List.{List, Memᴰ}
use Rattle.std.proofs.Math.Option.{none, some}
use borrow.Author.Rules.{part_to_end}
use Rattle.model.specs.Definitions.Commands.{Need}
use Rattle.model.specs.Definitions.Table.{Kind, text, sequence, choice, Table, kind_of}
use Rattle.model.specs.Definitions.Content.{Content, end, char, elem, bytes}
use Rattle.model.specs.Definitions.Conformance.{Holds, no_character, one_character, nothing, no_member, one_member, chosen, left_out, no_item, one_item}
use Rattle.model.specs.Definitions.Templates.{first_in, at_child}
use Rattle.model.proofs.Theorems.Tools.{some_none}
use Rattle.rows.specs.Rows.{source_row}
use Rattle.scanning.specs.Scanning.{ContentAt}
use Rattle.scanning.specs.Spanning.{Spans, spans_part}
use Rattle.scanning.specs.Laws.{element_first, OpensElement, opens, opens_next}

-- what is left of content behind its first i elements
unfoldable pub after_first : ℕ → Content → Content
after_first zero k = k
after_first (suc i) end = end
after_first (suc i) (char c r) = end
after_first (suc i) (elem t l r) = after_first i r

-- an element of type t that holds l opens at offset o
pub record ElementAt (tr : List ℕ) (o t : ℕ) (l : Content) : Type 0 where
  pub named : get_or tr (o + 1) 0 ≡ t
  pub within : ContentAt tr (o + 2) l

-- content that begins with an element
pub element_at_lem : {tr : List ℕ} {o t : ℕ} {l r : Content} → ContentAt tr o (elem t l r) → ElementAt tr o t l
element_at_lem {tr} {o} {t} {l} {r} a = go (opens (elem t l r) a (element_first a))
  where
    go : OpensElement tr o (elem t l r) a.rest → ElementAt tr o t l
    go w =
        let same : elem t l r ≡ elem w.type w.inside w.next = w.is in
        let inner : w.inside ≡ l = cc in
        record { named = w.named ∙ cc; within = subst (ContentAt tr (o + 2)) inner w.within }

-- what follows it
pub element_next : {tr : List ℕ} {o t : ℕ} {l r : Content} → ContentAt tr o (elem t l r) → ContentAt tr (o + 2 + length (bytes l) + 1) r
element_next {tr} {o} {t} {l} {r} a = go (opens (elem t l r) a (element_first a))
  where
    go : OpensElement tr o (elem t l r) a.rest → ContentAt tr (o + 2 + length (bytes l) + 1) r
    go w =
        let same : elem t l r ≡ elem w.type w.inside w.next = w.is in
        let inner : w.inside ≡ l = cc in
        let after : w.next ≡ r = cc in
        subst (λ (x : Content). ContentAt tr (o + 2 + length (bytes x) + 1) r) inner (subst (ContentAt tr (o + 2 + length (bytes w.inside) + 1)) after (opens_next w))

-- the part of a slice from offset o on, as it is handed on
abbrev pub part_from : List ℕ → ℕ → List ℕ
part_from s o = take (length s - o) (drop o s)

-- what stands in it
pub at_part : {tr : List ℕ} (o : ℕ) {i : ℕ} {k : Content} → ContentAt tr (o + i) k → ContentAt (part_from tr o) i k
at_part {tr} o {i} a = record { rest = a.rest; stands = ap (drop i) (part_to_end tr o) ∙ drop-drop i o tr ∙ a.stands }

-- the part that begins with content
pub inside_part : {tr : List ℕ} (o : ℕ) {k : Content} → ContentAt tr (o + 2) k → ContentAt (part_from tr (o + 2)) 0 k
inside_part {tr} o {k} a = at_part (o + 2) (subst (λ (n : ℕ). ContentAt tr n k) (sym (add-zero (o + 2))) a)

-- the distances in it
pub spans_from : {tr sp : List ℕ} (o : ℕ) → Spans tr sp → Spans (part_from tr o) (part_from sp o)
spans_from {tr} {sp} o s = spans_part o s (part_to_end tr o) (part_to_end sp o)

-- ---- children of conforming content

-- child i of content, of type t, which holds l
pub record NumberedChild (S : Table) (k : Content) (i t : ℕ) (l : Content) : Type 0 where
  pub rest : Content
  pub is : after_first i k ≡ elem t l rest
  pub holds : Holds S (kind_of S t) l

-- a child of a sequence, the member of a choice, the first item
pub record SomeChild (S : Table) (ms : List ℕ) (k : Content) (i : ℕ) : Type 0 where
  pub type : ℕ
  pub inside : Content
  pub child : NumberedChild S k i type inside
  pub member : Memᴰ type ms

pub sequence_child : {S : Table} {ms : List ℕ} {k : Content} (i : ℕ) → Holds S (sequence ms) k → i < length ms → SomeChild S ms k i
unfolding after_first
sequence_child i no_member less = absurd (omega arith)
sequence_child zero (one_member {m} {ms} {k} {r} h later) less =
    record { type = m; inside = k; child = record { rest = r; is = refl; holds = h }; member = Memᴰ.head refl }
sequence_child (suc i) (one_member {m} {ms} {k} {r} h later) less =
    let there = sequence_child i later (omega arith) in
    record {
      type = there.type;
      inside = there.inside;
      child = record { rest = there.child.rest; is = there.child.is; holds = there.child.holds };
      member = Memᴰ.tail there.member;
    }

pub choice_child : {S : Table} {need : Need} {ms : List ℕ} {k : Content} {t : ℕ} → Holds S (choice need ms) k → first_in k ≡ some t → SomeChild S ms k 0
unfolding after_first first_in
choice_child (chosen {m = m} {k = k} mem h) e = record { type = m; inside = k; child = record { rest = end; is = refl; holds = h }; member = mem }
choice_child left_out e = some_none e refl

-- what a function makes of child i
pub at_child_lem : {A : Type 0} (absent : A) (f : ℕ → Content → A) (i : ℕ) (k : Content) {t : ℕ} {l r : Content} → after_first i k ≡ elem t l r → at_child absent f k i ≡ f t l
unfolding after_first at_child
at_child_lem absent f zero end e = let z : ◌≡◌ {A = ℕ} 0 1 = cc in absurd (omega arith)
at_child_lem absent f zero (char c r) e = let z : ◌≡◌ {A = ℕ} 0 1 = cc in absurd (omega arith)
at_child_lem absent f zero (elem t l r) e = cc
at_child_lem absent f (suc i) end e = let z : ◌≡◌ {A = ℕ} 0 1 = cc in absurd (omega arith)
at_child_lem absent f (suc i) (char c r) e = let z : ◌≡◌ {A = ℕ} 0 1 = cc in absurd (omega arith)
at_child_lem absent f (suc i) (elem t l r) e = at_child_lem absent f i r e

-- a text has no child
text_first : {S : Table} {k : Content} → Holds S text k → first_in k ≡ none
unfolding first_in
text_first no_character = refl
text_first (one_character ok later) = text_first later

-- content whose first byte is not 30 has no child
pub first_none : {S : Table} {κ : Kind} {tr : List ℕ} {o : ℕ} {k : Content} → Holds S κ k → ContentAt tr o k → (get_or tr o 0 ≡ 0x30 → ⊥) → first_in k ≡ none
unfolding first_in
first_none no_character a other = refl
first_none (one_character ok later) a other = text_first later
first_none nothing a other = refl
first_none no_member a other = refl
first_none (one_member h later) a other = absurd (other (element_first a))
first_none (chosen mem h) a other = absurd (other (element_first a))
first_none left_out a other = refl
first_none no_item a other = refl
first_none (one_item h later) a other = absurd (other (element_first a))

-- else its type is the next byte
pub first_some : {tr : List ℕ} {o : ℕ} {k : Content} (a : ContentAt tr o k) → get_or tr o 0 ≡ 0x30 → (o + 1 < length tr) × (some (get_or tr (o + 1) 0) ≡ first_in k)
unfolding first_in
first_some {tr} {o} {k} a first = let w = opens k a first in (w.two, ap some w.named ∙ sym (ap first_in w.is))

-- ---- what the functions that find elements are asked

-- element number i of the content at the start of a document
pub record ChildThere (tr : List ℕ) (i : ℕ) : Type 0 where
  pub around : Content
  pub there : ContentAt tr 0 around
  pub type : ℕ
  pub inside : Content
  pub rest : Content
  pub is : after_first i around ≡ elem type inside rest

-- what is left of this content behind its first i elements begins at offset o
pub record Behind (tr : List ℕ) (i o : ℕ) : Type 0 where
  pub begins : (k : Content) → ContentAt tr 0 k → ContentAt tr o (after_first i k)

-- behind no element all of it is left
pub behind_none : {tr : List ℕ} → Behind tr 0 0
unfolding after_first
behind_none = record { begins = λ k there. there }

-- the same by other names
pub behind_same : {tr : List ℕ} {i j o p : ℕ} → j ≡ i → p ≡ o → Behind tr i o → Behind tr j p
behind_same is_number is-offset b = rw (is_number, is-offset) b

-- element number i opens at offset o
pub element_behind : {tr : List ℕ} {i o : ℕ} (c : ChildThere tr i) → Behind tr i o → ElementAt tr o c.type c.inside
element_behind {tr} {i} {o} c b = element_at_lem (subst (ContentAt tr o) c.is (b.begins c.around c.there))

-- conforming content at an offset
pub record Conforms (tr : List ℕ) (o : ℕ) : Type 0 where
  pub inside : Content
  pub there : ContentAt tr o inside
  pub table : Table
  pub kind : Kind
  pub holds : Holds table kind inside

-- a conforming element that opens at an offset
pub record FirstThere (S : Table) (tr : List ℕ) (o : ℕ) : Type 0 where
  pub type : ℕ
  pub inside : Content
  pub element : ElementAt tr o type inside
  pub is_type : type < length S
  pub holds : Holds S (kind_of S type) inside

-- what the element holds
abbrev pub first_conforms : {S : Table} {tr : List ℕ} {o : ℕ} → FirstThere S tr o → Conforms tr (o + 2)
first_conforms {S} f = record { inside = f.inside; there = f.element.within; table = S; kind = kind_of S f.type; holds = f.holds }

-- r is its row
abbrev pub RowIs : Table → List ℕ → ℕ → ℕ → Type 0
RowIs S tr o r = (f : FirstThere S tr o) → r ≡ source_row S f.type (first_in f.inside)
