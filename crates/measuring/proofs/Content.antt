-- Conforming content, read from its start: which children are left, and where the rest stands in a document.
use mathlib.Core.Path.{◌≡◌, refl, sym, ap, ◌∙◌, subst}
use mathlib.Core.List.{List, ◌∷◌, Memᴰ}
use mathlib.Core.Option.{none}
use Prim.Native.Nat.{ℕ, suc, ◌+◌, ◌<◌}
use native.Mathlib.Omega.{arith}
use lib.ListN.{length, get_or, length-append}
use Rattle.model.specs.Definitions.Commands.{Need}
use Rattle.model.specs.Definitions.Table.{Kind, text, empty, sequence, choice, list, Table, kind_of, members_of}
use Rattle.model.specs.Definitions.Content.{Content, end, char, elem, bytes}
use Rattle.model.specs.Definitions.Conformance.{Holds, no_character, one_character, nothing, no_member, one_member, chosen, left_out, no_item, one_item}
use Rattle.model.specs.Definitions.Templates.{first_in}
use Rattle.model.proofs.Theorems.Facts.{WellFormed}
use Rattle.rows.specs.FirstChildren.{index_within}
use Rattle.scanning.specs.Scanning.{ContentAt}
use Rattle.scanning.specs.Laws.{content_within, element_first, character_first, end_first, Letters, letters, OpensElement, opens, opens_next, ends}
use Rattle.measuring.specs.Measured.{type_ahead}
use Rattle.measuring.proofs.Edges.{HasEdge, in_sequence, in_choice, in_list}

-- What is left of the content of an element of kind κ from child number i on: each child's type exists, what it holds
-- conforms, and it has an edge.
pub data ContentLeft (S : Table) (κ : Kind) : ℕ → Content → Type 0 where
  none_left : {i : ℕ} → ContentLeft S κ i end
  character_left : {i c : ℕ} {r : Content} → ContentLeft S κ i r → ContentLeft S κ i (char c r)
  child_left : {i t : ℕ} {k r : Content} → t < length S → Holds S (kind_of S t) k → HasEdge i t κ → ContentLeft S κ (suc i) r → ContentLeft S κ i (elem t k r)

pub after_letter : {S : Table} {κ : Kind} {i c : ℕ} {r : Content} → ContentLeft S κ i (char c r) → ContentLeft S κ i r
after_letter (character_left rest) = rest

-- the child that stands first, and the rest
pub record ChildLeft (S : Table) (κ : Kind) (i t : ℕ) (k r : Content) : Type 0 where
  pub exists : t < length S
  pub holds : Holds S (kind_of S t) k
  pub edge : HasEdge i t κ
  pub rest : ContentLeft S κ (suc i) r

child_of : {S : Table} {κ : Kind} {i t : ℕ} {k r : Content} → ContentLeft S κ i (elem t k r) → ChildLeft S κ i t k r
child_of (child_left exists holds edge rest) = record { exists = exists; holds = holds; edge = edge; rest = rest }

module _ (S : Table) where
  left_text : {i : ℕ} {k : Content} → Holds S text k → ContentLeft S text i k
  left_text no_character = none_left
  left_text (one_character a h) = character_left (left_text h)

  left_list : {i m : ℕ} {k : Content} → m < length S → Holds S (list m) k → ContentLeft S (list m) i k
  left_list less no_item = none_left
  left_list less (one_item hk hr) = child_left less hk in_list (left_list less hr)

  -- the members of a sequence from number i on
  left_sequence : {i : ℕ} {ms all : List ℕ} {k : Content} → i + length ms ≡ length all → ((m : ℕ) → Memᴰ m ms → m < length S)
      → Holds S (sequence ms) k → ContentLeft S (sequence all) i k
  left_sequence many exist no_member = none_left
  left_sequence {i = i} {all = all} many exist (one_member {m = m} hk hr) =
      let less : i < length all = omega (arith, many) in
      child_left (exist m (Memᴰ.head refl)) hk (in_sequence less) (left_sequence (omega (arith, many)) (λ n e. exist n (Memᴰ.tail e)) hr)

  -- the member of a choice, or nothing
  left_choice : {need : Need} {ms : List ℕ} {k : Content} → ((m : ℕ) → Memᴰ m ms → m < length S) → Holds S (choice need ms) k → ContentLeft S (choice need ms) 0 k
  left_choice exist (chosen {m = m} {ms = ms} e hk) = child_left (exist m e) hk (in_choice (index_within m ms e)) none_left
  left_choice exist left_out = none_left

  -- all of conforming content
  left_all : (κ : Kind) {k : Content} → ((m : ℕ) → Memᴰ m (members_of κ) → m < length S) → Holds S κ k → ContentLeft S κ 0 k
  unfolding members_of
  left_all text exist h = left_text h
  left_all empty exist nothing = none_left
  left_all (sequence ms) exist h = left_sequence (omega arith) exist h
  left_all (choice need ms) exist h = left_choice exist h
  left_all (list m) exist h = left_list (exist m (Memᴰ.head refl)) h

  -- conforming content has its first child at its start, if it has one
  no_child_left : {k : Content} → Holds S text k → first_in k ≡ none
  unfolding first_in
  no_child_left no_character = refl
  no_child_left (one_character a h) = no_child_left h

  pub first_ahead : {κ : Kind} {k : Content} → Holds S κ k → type_ahead k ≡ first_in k
  unfolding first_in type_ahead
  first_ahead no_character = refl
  first_ahead (one_character a h) = sym (no_child_left h)
  first_ahead nothing = refl
  first_ahead no_member = refl
  first_ahead (one_member hk hr) = refl
  first_ahead (chosen e hk) = refl
  first_ahead left_out = refl
  first_ahead no_item = refl
  first_ahead (one_item hk hr) = refl

-- of an element of a well_formed table
pub left_of : {S : Table} → WellFormed S → (s : ℕ) {k : Content} → Holds S (kind_of S s) k → ContentLeft S (kind_of S s) 0 k
left_of {S} wf s holds = left_all S (kind_of S s) (λ m. wf.members_exist s m) holds

-- ---- in a document

pub letter_length : (c : ℕ) (r : Content) → length (bytes (char c r)) ≡ 2 + length (bytes r)
unfolding bytes
letter_length c r = omega arith

pub child_length : (t : ℕ) (k r : Content) → length (bytes (elem t k r)) ≡ 2 + length (bytes k) + 1 + length (bytes r)
unfolding bytes
child_length t k r = omega (arith, length-append (bytes k) (0x32 ∷ bytes r))

-- what is left of the content of an element of kind κ from offset o and child number i on; the content ends at `close`
pub record Unread (S : Table) (κ : Kind) (tr : List ℕ) (close o i : ℕ) : Type 0 where
  pub left : Content
  pub here : ContentAt tr o left
  pub fit : ContentLeft S κ i left
  pub closes : o + length (bytes left) ≡ close

module _ {S : Table} {κ : Kind} {tr : List ℕ} {close o i : ℕ} (now : Unread S κ tr close o i) where
  pub unread_within : o < length tr
  unread_within = omega (arith, content_within now.here)

  -- what is no character and no close opens an element
  pub unread_opens : (get_or tr o 0 ≡ 0x31 → ⊥) → (get_or tr o 0 ≡ 0x32 → ⊥) → get_or tr o 0 ≡ 0x30
  unread_opens other another = go now.left now.here
    where
      go : (l : Content) → ContentAt tr o l → get_or tr o 0 ≡ 0x30
      go end a = absurd (another (end_first a))
      go (char c r) a = absurd (other (character_first a))
      go (elem t l r) a = element_first a

  -- at the close nothing is left
  pub unread_done : get_or tr o 0 ≡ 0x32 → (now.left ≡ end) × (o ≡ close)
  unfolding bytes
  unread_done here =
      let none : now.left ≡ end = ends now.left now.here (λ e. omega (arith, e, here)) (λ e. omega (arith, e, here)) in
      let short : length (bytes now.left) ≡ 0 = ap (λ (l : Content). length (bytes l)) none in
      (none, omega (arith, short, now.closes))

  -- a character, and what follows it
  module _ (first : get_or tr o 0 ≡ 0x31) where
    abbrev pub lettered : Letters tr o now.left now.here.rest
    lettered = letters now.left now.here first

    abbrev pub unread-letter : Unread S κ tr close (o + 2) i
    unread-letter =
        record {
          left = lettered.next;
          here = record { rest = now.here.rest; stands = lettered.follows };
          fit = after_letter (subst (ContentLeft S κ i) lettered.is now.fit);
          closes = omega (arith, ap (λ (x : Content). length (bytes x)) lettered.is ∙ letter_length lettered.letter lettered.next, now.closes);
        }

  -- a child, which exists, conforms and has an edge, and what follows it
  module _ (first : get_or tr o 0 ≡ 0x30) where
    abbrev pub opened : OpensElement tr o now.left now.here.rest
    opened = opens now.left now.here first

    pub unread-child : ChildLeft S κ i opened.type opened.inside opened.next
    unread-child = child_of (subst (ContentLeft S κ i) opened.is now.fit)

    abbrev pub unread-next : {stop : ℕ} → stop ≡ o + 2 + length (bytes opened.inside) → Unread S κ tr close (stop + 1) (suc i)
    unread-next stops =
        record {
          left = opened.next;
          here = subst (λ (p : ℕ). ContentAt tr (p + 1) opened.next) (sym stops) (opens_next opened);
          fit = unread-child.rest;
          closes = omega (arith, ap (λ (x : Content). length (bytes x)) opened.is ∙ child_length opened.type opened.inside opened.next, stops, now.closes);
        }
