-- Reading with offsets yields what reading without them does (`PlainReading`), and it can't be read exactly where that finds nothing.
use Rattle.std.proofs.Math.Path.{◌≡◌, refl, sym, ap, ap₂, fun_ext}
use Rattle.std.proofs.Common.{◌∙◌, arith}
use Rattle.std.specs.Prelude.{Bool, true, ◌↔◌, length}
use Rattle.std.proofs.Math.Bool.{false}
use mathlib.Core.List.{List, [], ◌∷◌}
use Rattle.std.proofs.Math.Option.{Option, none, some}
use Prim.Native.Nat.{ℕ, zero, suc, ◌+◌}
use Rattle.model.specs.Definitions.Basics.{and_then}
use Rattle.model.specs.Definitions.Commands.{needed, optional}
use Rattle.model.specs.Definitions.Table.{Kind, text, empty, sequence, choice, list, Table, kind_of}
use Rattle.model.specs.Definitions.Content.{Content, bytes, end, char, elem, document}
use Rattle.model.specs.Definitions.Embedding.{target_of, paths_of, first_path, next, divide, Divided, before_choice}
use Rattle.model.specs.Definitions.Image.{Setting}
use Rattle.model.specs.Definitions.Inverse.{enter, follow, Located, located, opened_at, found_at, enter_at, follow_at, Parts, done, broken, part, unbroken, part_of, if_there, member_parts, choice_parts, unless_empty, optional_parts, item_parts, list_parts, kind_parts, Reading, yields, missing, with_rest, with_element, read_parts, read_unbroken, read_characters, read_children, read_kind, read_to, reading, content_read, read_back}
use Rattle.model.proofs.Theorems.Tools.{true_false, some_none}
use Rattle.model.proofs.Theorems.PlainReading.{plain_one, plain_members, plain_if_there, plain_choice, plain_unless_empty, plain_items, plain_list, plain_kind, plain_to}

-- ---- one path

-- what was found, without its offset
unfoldable pub held_at : Option Located → Option Content
held_at none = none
held_at (some l) = some l.holds

-- following with offsets finds what following without them does
pub follow-held : (T : Table) (τ : ℕ) (ps : List ℕ) (l : Located) → held_at (follow_at T τ ps l) ≡ follow T τ ps l.holds
unfolding follow_at follow held_at
follow-held T τ [] l = refl
follow-held T τ (p ∷ ps) l = go (enter (kind_of T τ) p (next T τ p) l.holds) refl (follow-held T (next T τ p) ps)
  where
    go : (o : Option Content) → enter (kind_of T τ) p (next T τ p) l.holds ≡ o
        → ((a : Located) → held_at (follow_at T (next T τ p) ps a) ≡ follow T (next T τ p) ps a.holds)
        → held_at (and_then (enter_at (kind_of T τ) p (next T τ p) l) (λ inside. follow_at T (next T τ p) ps inside))
        ≡ and_then (enter (kind_of T τ) p (next T τ p) l.holds) (λ inside. follow T (next T τ p) ps inside)
    go none e rec = unfold enter_at found_at and_then in rw e refl
    go (some k) e rec = unfold enter_at found_at and_then in rw e (rec _)

-- ---- the children of an element

-- an element of type m that holds what was read, before what was read after it, if both were
unfoldable pub plain_then : ℕ → Option Content → Option Content → Option Content
plain_then m inside rest = and_then inside (λ k. and_then rest (λ r. some (elem m k r)))

-- what is read of children, without marks
unfoldable pub plain_parts : (ℕ → Located → Option Content) → Parts → Option Content
plain_parts read done = some end
plain_parts read broken = none
plain_parts read (part m l rest) = plain_then m (read m l) (plain_parts read rest)

-- `read` reads without offsets what `plain` does
abbrev pub ReadsAs : (ℕ → Located → Option Content) → (ℕ → Content → Option Content) → Type 0
ReadsAs read plain = (m : ℕ) (l : Located) → read m l ≡ plain m l.holds

module _ (read : ℕ → Located → Option Content) (plain : ℕ → Content → Option Content) (alike : ReadsAs read plain) where
  one_plain : (m : ℕ) (found : Option Located) (rest : Parts) (later : Option Content) → plain_parts read rest ≡ later
      → plain_parts read (part_of m found rest) ≡ plain_one plain m (held_at found) later
  unfolding plain_parts plain_then part_of plain_one and_then held_at
  one_plain m none rest later e = refl
  one_plain m (some l) rest later e = rw (e, alike m l) refl

  there_plain : (m : ℕ) (found : Option Located) (rest : Parts) (later : Option Content) → plain_parts read rest ≡ later
      → plain_parts read (if_there m found rest) ≡ plain_if_there plain m (held_at found) later
  unfolding plain_parts plain_then if_there plain_if_there plain_one and_then held_at
  there_plain m none rest later e = e
  there_plain m (some l) rest later e = rw (alike m l) refl

  members_plain : (at : List ℕ → Option Located) (ms : List ℕ) (ps : List (List ℕ)) → plain_parts read (member_parts at ms ps) ≡ plain_members plain (λ p. held_at (at p)) ms ps
  unfolding plain_parts member_parts plain_members
  members_plain at [] ps = refl
  members_plain at (m ∷ ms) [] = refl
  members_plain at (m ∷ ms) (p ∷ ps) = one_plain m (at p) (member_parts at ms ps) _ (members_plain at ms ps)

  choice_plain : (at : List ℕ → Option Located) (ms : List ℕ) (ps : List (List ℕ)) → plain_parts read (choice_parts at ms ps) ≡ plain_choice plain (λ p. held_at (at p)) ms ps
  unfolding plain_parts choice_parts plain_choice
  choice_plain at [] ps = refl
  choice_plain at (m ∷ ms) [] = refl
  choice_plain at (m ∷ ms) (p ∷ ps) = there_plain m (at p) (choice_parts at ms ps) _ (choice_plain at ms ps)

  empty_plain : (k : Content) (rest : Parts) (later : Option Content) → plain_parts read rest ≡ later → plain_parts read (unless_empty k rest) ≡ plain_unless_empty (some k) later
  unfolding plain_parts unless_empty plain_unless_empty
  empty_plain end rest later e = refl
  empty_plain (char c r) rest later e = e
  empty_plain (elem t k r) rest later e = e

  optional_plain : (found : Option Located) (rest : Parts) (later : Option Content) → plain_parts read rest ≡ later
      → plain_parts read (optional_parts found rest) ≡ plain_unless_empty (held_at found) later
  unfolding optional_parts held_at
  optional_plain none rest later e = unfold plain_unless_empty in e
  optional_plain (some l) rest later e = empty_plain l.holds rest later e

  items_plain : (beyond : Located → Option Located) (on : Content → Option Content) → ((l : Located) → held_at (beyond l) ≡ on l.holds) → (m at : ℕ) (k : Content)
      → plain_parts read (item_parts beyond m at k) ≡ plain_items plain on m k
  unfolding plain_parts item_parts plain_items
  items_plain beyond on same m at end = refl
  items_plain beyond on same m at (char c r) = refl
  items_plain beyond on same m at (elem t k r) =
      one_plain m _ _ _ (items_plain beyond on same m (at + 2 + length (bytes k) + 1) r) ∙ ap (λ (o : Option Content). plain_one plain m o (plain_items plain on m r)) (same (located (at + 2) k))

  list_plain : (T : Table) (d : Divided) (m : ℕ) (found : Option Located)
      → plain_parts read (list_parts T d m found) ≡ and_then (held_at found) (λ items. plain_items plain (follow T d.item d.rest) m items)
  unfolding list_parts plain_parts held_at and_then
  list_plain T d m none = refl
  list_plain T d m (some l) = items_plain (follow_at T d.item d.rest) (follow T d.item d.rest) (follow-held T d.item d.rest) m l.at l.holds

  -- an element that is no text
  kind_plain : (T : Table) (κ : Kind) (τ : ℕ) (ps : List (List ℕ)) (l : Located) → (κ ≡ text → ⊥) → plain_parts read (kind_parts T κ τ ps l) ≡ plain_kind plain T κ τ ps l.holds
  unfolding kind_parts plain_kind plain_parts plain_list
  kind_plain T text τ ps l other = absurd (other refl)
  kind_plain T empty τ ps l other = refl
  kind_plain T (sequence ms) τ ps l other =
      members_plain (λ p. follow_at T τ p l) ms ps ∙ ap (λ (at : List ℕ → Option Content). plain_members plain at ms ps) (fun_ext (λ p. follow-held T τ p l))
  kind_plain T (choice needed ms) τ ps l other =
      choice_plain (λ p. follow_at T τ p l) ms ps ∙ ap (λ (at : List ℕ → Option Content). plain_choice plain at ms ps) (fun_ext (λ p. follow-held T τ p l))
  kind_plain T (choice optional ms) τ ps l other =
      optional_plain (follow_at T τ (before_choice T τ (first_path ps)) l) _ _ (choice_plain (λ p. follow_at T τ p l) ms ps)
      ∙ ap₂ (λ (o : Option Content) (at : List ℕ → Option Content). plain_unless_empty o (plain_choice plain at ms ps)) (follow-held T τ (before_choice T τ (first_path ps)) l) (fun_ext (λ p. follow-held T τ p l))
  kind_plain T (list m) τ ps l other =
      list_plain T (divide T τ (first_path ps)) m (follow_at T τ (divide T τ (first_path ps)).before l)
      ∙ ap (λ (o : Option Content). and_then o (λ items. plain_items plain (follow T (divide T τ (first_path ps)).item (divide T τ (first_path ps)).rest) m items)) (follow-held T τ (divide T τ (first_path ps)).before l)

-- ---- with marks and without

-- what is read of each, if it can be
abbrev pub contents : (ℕ → Located → Reading) → ℕ → Located → Option Content
contents read m l = content_read (read m l)

rest_read : (m : ℕ) (k : Content) (rest : Reading) → content_read (with_rest m k rest) ≡ and_then (content_read rest) (λ r. some (elem m k r))
unfolding content_read with_rest and_then
rest_read m k (yields r) = refl
rest_read m k (missing at) = refl

element_read : (m : ℕ) (inside : Reading) (rest : Unit {0} → Reading) → content_read (with_element m inside rest) ≡ plain_then m (content_read inside) (content_read (rest tt))
unfolding content_read with_element plain_then and_then
element_read m (yields k) rest = rest_read m k (rest tt)
element_read m (missing at) rest = refl

parts_read : (read : ℕ → Located → Reading) (own : ℕ) (parts : Parts) → content_read (read_parts read own parts) ≡ plain_parts (contents read) parts
unfolding read_parts plain_parts content_read
parts_read read own done = refl
parts_read read own broken = refl
parts_read read own (part m l rest) =
    element_read m (read m l) (λ u. read_parts read own rest)
    ∙ ap (plain_then m (content_read (read m l))) (parts_read read own rest)

-- nothing before, nothing at all
nothing_then : (m : ℕ) (inside : Option Content) → plain_then m inside none ≡ none
unfolding plain_then and_then
nothing_then m none = refl
nothing_then m (some k) = refl

-- where a path is broken, nothing is read
broken_read : (read : ℕ → Located → Option Content) (parts : Parts) → unbroken parts ≡ false → plain_parts read parts ≡ none
unfolding unbroken plain_parts
broken_read read done e = true_false refl e
broken_read read broken e = refl
broken_read read (part m l rest) e = rw (broken_read read rest e) (nothing_then m (read m l))

-- reading the own paths first finds the same content
pub children_read_lem : (read : ℕ → Located → Reading) (own : ℕ) (parts : Parts) → content_read (read_children read own parts) ≡ plain_parts (contents read) parts
unfolding read_children
children_read_lem read own parts = go (unbroken parts) refl
  where
    go : (b : Bool) → unbroken parts ≡ b → content_read (read_unbroken read own parts b) ≡ plain_parts (contents read) parts
    go true e = unfold read_unbroken in parts_read read own parts
    go false e = unfold read_unbroken content_read in sym (broken_read (contents read) parts e)

pub characters_read : (own : ℕ) (found : Option Located) → content_read (read_characters own found) ≡ held_at found
unfolding content_read read_characters held_at
characters_read own none = refl
characters_read own (some l) = refl

-- a source element that is no text is read by its children
pub by_children : (read : ℕ → Located → Reading) (T : Table) (κ : Kind) (τ : ℕ) (ps : List (List ℕ)) (l : Located) → (κ ≡ text → ⊥)
    → read_kind read T κ τ ps l ≡ read_children read (opened_at l) (kind_parts T κ τ ps l)
unfolding read_kind
by_children read T text τ ps l other = absurd (other refl)
by_children read T empty τ ps l other = refl
by_children read T (sequence ms) τ ps l other = refl
by_children read T (choice need ms) τ ps l other = refl
by_children read T (list m) τ ps l other = refl

kind_read : (read : ℕ → Located → Reading) (plain : ℕ → Content → Option Content) → ReadsAs (contents read) plain → (T : Table) (κ : Kind) (τ : ℕ) (ps : List (List ℕ)) (l : Located)
    → content_read (read_kind read T κ τ ps l) ≡ plain_kind plain T κ τ ps l.holds
kind_read read plain alike T κ τ ps l = go κ refl
  where
    no_text : (κ ≡ text → ⊥) → content_read (read_kind read T κ τ ps l) ≡ plain_kind plain T κ τ ps l.holds
    no_text other =
        ap content_read (by_children read T κ τ ps l other)
        ∙ children_read_lem read (opened_at l) (kind_parts T κ τ ps l)
        ∙ kind_plain (contents read) plain alike T κ τ ps l other

    go : (κ' : Kind) → κ ≡ κ' → content_read (read_kind read T κ τ ps l) ≡ plain_kind plain T κ τ ps l.holds
    go text e = rw e (unfold read_kind plain_kind in characters_read _ _ ∙ follow-held T τ (first_path ps) l)
    go empty e = no_text (λ f. let z : ◌≡◌ {A = ℕ} 0 1 = cc in absurd (omega arith))
    go (sequence ms) e = no_text (λ f. let z : ◌≡◌ {A = ℕ} 0 1 = cc in absurd (omega arith))
    go (choice need ms) e = no_text (λ f. let z : ◌≡◌ {A = ℕ} 0 1 = cc in absurd (omega arith))
    go (list m) e = no_text (λ f. let z : ◌≡◌ {A = ℕ} 0 1 = cc in absurd (omega arith))

-- Reading yields what reading without offsets does.
pub reads_plain : (X : Setting) (n s : ℕ) (l : Located) → content_read (read_to X n s l) ≡ plain_to X n s l.holds
unfolding read_to plain_to
reads_plain X zero s l = unfold content_read in refl
reads_plain X (suc n) s l =
    kind_read (λ t inside. read_to X n t inside) (λ t inside. plain_to X n t inside) (λ m a. reads_plain X n m a) X.target (kind_of X.source s) (target_of X.embedding s) (paths_of X.embedding s) l

pub back_plain : (X : Setting) (k : Content) → read_back X k ≡ plain_to X (length (document 0 k)) 0 k
unfolding read_back reading
back_plain X k = reads_plain X (length (document 0 k)) 0 (located 2 k)

-- something is yielded exactly where it is read without offsets
pub read_content_lem : (r : Reading) (j : Content) → (r ≡ yields j) ↔ (content_read r ≡ some j)
unfolding content_read
read_content_lem (yields k) j = (λ e. let same : k ≡ j = cc in ap some same, λ e. let same : k ≡ j = cc in ap yields same)
read_content_lem (missing at) j = (λ e. let z : ◌≡◌ {A = ℕ} 0 1 = cc in absurd (omega arith), λ e. some_none e refl)

pub yields_held : (X : Setting) (n s : ℕ) (l : Located) (j : Content) → read_to X n s l ≡ yields j → plain_to X n s l.holds ≡ some j
yields_held X n s l j e = sym (reads_plain X n s l) ∙ (read_content_lem (read_to X n s l) j).0 e

pub held_yields : (X : Setting) (n s : ℕ) (l : Located) (j : Content) → plain_to X n s l.holds ≡ some j → read_to X n s l ≡ yields j
held_yields X n s l j e = (read_content_lem (read_to X n s l) j).1 (reads_plain X n s l ∙ e)
