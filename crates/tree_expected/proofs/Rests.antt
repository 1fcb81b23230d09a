-- What may still follow in an element, read from a loaded table: what it admits, what may follow that, and whether it is
-- complete.
use mathlib.Core.Path.{◌≡◌, refl, sym, ap, ◌∙◌}
use mathlib.Core.Bool.{Bool, true, false, not, ◌||◌}
use mathlib.Core.List.{List, [], ◌∷◌}
use Prim.Native.Nat.{ℕ, zero, suc, ◌+◌, ◌*◌, ◌-◌, ◌≤◌, ◌<◌}
use native.Mathlib.Nat.{add-zero, sub-zero}
use native.Mathlib.Numerals.{add-one}
use native.Mathlib.Omega.{arith}
use lib.ListN.{length, take, drop, get_or, length-take, length-drop, drop_of_length-le}
use lib.Seq.{drop-cons, get_or-take, get_or-drop}
use lib.Dec.{eqb, leb, leb-zero, leb-suc-zero, leb-suc-suc, eqb-suc-zero}
use borrow.Author.Tests.{eq-eqb, ne_eqb}
use Rattle.std.specs.Prelude.{Some, None}
use Rattle.model.specs.Definitions.Basics.{member_of}
use Rattle.model.specs.Definitions.Commands.{Need, needed, optional}
use Rattle.model.specs.Definitions.Table.{empty, sequence, list, is_text}
use Rattle.model.specs.Definitions.Conformance.{admits, after, complete}
use Rattle.loaded_table.specs.Kinds.{need_from, each_code, list_codes, choice_codes, choice_between}
use Rattle.loaded_table.specs.Loaded.{kind_from, kinds_of, counts_of, members_in}
use Rattle.tree_expected.specs.Expected.{rest_of_choice, rest_from, rest_of, TypeReadable, Opening}

-- ---- a type that can be read

-- there is room for all members
pub members_long : (rows : List ℕ) (t : ℕ) → TypeReadable rows t → length (members_in rows) ≡ 1024
members_long rows t r =
    let size : length rows ≡ 1281 = r.bounded.size in
    simp (length-take, length-drop, size)

-- so there is for those of the type
pub row_long : (rows : List ℕ) (t : ℕ) → TypeReadable rows t → get_or (counts_of rows) t 0 ≤ length (drop (t * 16) (members_in rows))
row_long rows t r =
    let below : t < 64 = r.below in
    let few : get_or (counts_of rows) t 0 ≤ 16 = r.bounded.few_members t in
    simp (length-drop, members_long rows t r) (omega arith)

-- ---- what may follow

-- before the first element it is the kind
pub rest_none : (code count : ℕ) (row : List ℕ) → rest_from code count row 0 ≡ kind_from code count row
rest_none code count row = each_code (λ (k : ℕ). rest_from k count row 0 ≡ kind_from k count row) refl refl refl refl refl (λ k. refl) code

-- the members of a sequence behind one more of them
sequence_suc : (l : List ℕ) (had : ℕ) → sequence (drop (suc had) l) ≡ after (sequence (drop had l))
unfolding after
sequence_suc [] zero = refl
sequence_suc [] (suc had) = refl
sequence_suc (x ∷ l) zero = refl
sequence_suc (x ∷ l) (suc had) = sequence_suc l had

-- text and empty types admit no element
none_admits : (c n : ℕ) (l : List ℕ) (h x : ℕ) → c < 2 → false ≡ admits (rest_from c n l h) x
unfolding admits
none_admits zero n l h x low = refl
none_admits (suc zero) n l h x low = refl
none_admits (suc (suc c)) n l h x low = absurd (omega arith)

-- a choice of either kind
choice_rest : (c n : ℕ) (l : List ℕ) (h : ℕ) → 3 ≤ c → c < 5 → rest_from c n l h ≡ rest_of_choice (need_from c) (take n l) h
choice_rest c n l h low high = choice_codes (λ (k : ℕ). rest_from k n l h ≡ rest_of_choice (need_from k) (take n l) h) refl refl c (choice_between c low high)

-- after its member nothing may follow
rest_chosen : (need : Need) (ms : List ℕ) (had : ℕ) → (had ≡ 0 → ⊥) → rest_of_choice need ms had ≡ empty
rest_chosen need ms zero h = absurd (h refl)
rest_chosen need ms (suc had) h = refl

-- a list stays what it is
list_rest : (c n : ℕ) (l : List ℕ) (h : ℕ) → 5 ≤ c → rest_from c n l h ≡ list (get_or l 0 0)
list_rest c n l h = list_codes (λ (k : ℕ). rest_from k n l h ≡ list (get_or l 0 0)) (λ k. refl) c

-- ---- what the answer to an opening says, by the kind of the type

-- no element may come
opening_none : (rows : List ℕ) (m h x : ℕ) → false ≡ admits (rest_of rows m h) x → Opening rows m h x None
opening_none rows m h x e = sym e

-- one may, and r says what may follow it
opening_some : (rows : List ℕ) (m h x r : ℕ) → 0 < r → true ≡ admits (rest_of rows m h) x → rest_of rows m r ≡ after (rest_of rows m h) → Opening rows m h x (Some r)
opening_some rows m h x r p e f = record { some = p; admitted = sym e; onward = f }

module _ (rows : List ℕ) (m h x : ℕ) where
  -- the kind's code
  code : ℕ
  code = get_or (kinds_of rows) m 0

  -- the number of members
  count : ℕ
  count = get_or (counts_of rows) m 0

  -- the row that begins with them
  row : List ℕ
  row = drop (m * 16) (members_in rows)

  -- a text or an empty type admits no element
  pub opening_nothing : get_or (kinds_of rows) m 0 < 2 → Opening rows m h x None
  unfolding code count row
  opening_nothing low = opening_none rows m h x (none_admits code count row h x low)

  -- a sequence admits nothing behind its last member
  pub opening_past : get_or (kinds_of rows) m 0 ≡ 2 → get_or (counts_of rows) m 0 ≤ h → Opening rows m h x None
  unfolding admits count row
  opening_past e past =
      let short : length (take count row) ≤ h = simp length-take (omega arith) in
      let none : drop h (take count row) ≡ [] = drop_of_length-le (take count row) short in
      opening_none rows m h x (rw (e, none))

  -- it admits its next member only
  sequence_admits : TypeReadable rows m → get_or (kinds_of rows) m 0 ≡ 2 → h < get_or (counts_of rows) m 0 → eqb x (get_or (members_in rows) (m * 16 + h) 0) ≡ admits (rest_of rows m h) x
  unfolding admits count row
  sequence_admits r e next =
      let within : h < length (take count row) = let long : count ≤ length row = row_long rows m r in simp length-take (omega arith) in
      let here : get_or (take count row) h 0 ≡ get_or (members_in rows) (m * 16 + h) 0 = get_or-take count row h 0 next ∙ get_or-drop (m * 16) (members_in rows) h 0 in
      let members : drop h (take count row) ≡ get_or (members_in rows) (m * 16 + h) 0 ∷ drop (suc h) (take count row)
      = drop-cons (take count row) h 0 within ∙ ap (λ (t : ℕ). t ∷ drop (suc h) (take count row)) here in
      rw (e, members)

  pub opening_next : TypeReadable rows m → get_or (kinds_of rows) m 0 ≡ 2 → h < get_or (counts_of rows) m 0 → x ≡ get_or (members_in rows) (m * 16 + h) 0 → Opening rows m h x (Some (h + 1))
  unfolding count row
  opening_next r e next same =
      let onward : rest_of rows m (h + 1) ≡ after (rest_of rows m h) = rw (e, add-one h) (sequence_suc (take count row) h) in
      opening_some rows m h x (h + 1) (omega arith) (sym (eq-eqb _ _ same) ∙ sequence_admits r e next) onward

  pub opening_other : TypeReadable rows m → get_or (kinds_of rows) m 0 ≡ 2 → h < get_or (counts_of rows) m 0 → (x ≡ get_or (members_in rows) (m * 16 + h) 0 → ⊥) → Opening rows m h x None
  opening_other r e next other = opening_none rows m h x (sym (ne_eqb _ _ other) ∙ sequence_admits r e next)

  -- a choice of either kind admits no second member, and as the first one of its members
  module _ (low : 3 ≤ get_or (kinds_of rows) m 0) (high : get_or (kinds_of rows) m 0 < 5) where
    choice-here : (n : ℕ) → rest_of rows m n ≡ rest_of_choice (need_from (get_or (kinds_of rows) m 0)) (take (get_or (counts_of rows) m 0) (drop (m * 16) (members_in rows))) n
    unfolding code count row
    choice-here n = choice_rest code count row n low high

    pub opening-second : (h ≡ 0 → ⊥) → Opening rows m h x None
    unfolding admits
    opening-second some = opening_none rows m h x (rw (choice-here h ∙ rest_chosen _ _ h some))

    choice-admits : {b : Bool} → h ≡ 0 → b ≡ member_of x (take (get_or (counts_of rows) m 0) (drop (m * 16) (members_in rows))) → b ≡ admits (rest_of rows m h) x
    unfolding admits
    choice-admits none found = rw (choice-here h, none) found

    pub opening-member : {b : Bool} → h ≡ 0 → b ≡ member_of x (take (get_or (counts_of rows) m 0) (drop (m * 16) (members_in rows))) → b ≡ true → Opening rows m h x (Some 1)
    unfolding after
    opening-member none found yes-it-is = opening_some rows m h x 1 (omega arith) (sym yes-it-is ∙ choice-admits none found) (rw (choice-here 1, choice-here h, none))

    pub opening-no-member : {b : Bool} → h ≡ 0 → b ≡ member_of x (take (get_or (counts_of rows) m 0) (drop (m * 16) (members_in rows))) → b ≡ false → Opening rows m h x None
    opening-no-member none found no_way = opening_none rows m h x (sym no_way ∙ choice-admits none found)

  -- a list admits its item type
  module _ (high : 5 ≤ get_or (kinds_of rows) m 0) where
    list-here : (n : ℕ) → rest_of rows m n ≡ list (get_or (members_in rows) (m * 16 + 0) 0)
    unfolding code count row
    list-here n = list_rest code count row n high ∙ ap list (get_or-drop (m * 16) (members_in rows) 0 0)

    pub opening-item : x ≡ get_or (members_in rows) (m * 16 + 0) 0 → Opening rows m h x (Some 1)
    unfolding admits after
    opening-item same = opening_some rows m h x 1 (omega arith) (rw (list-here h) (sym (eq-eqb _ _ same))) (rw (list-here h) (list-here 1))

    pub opening-no-item : (x ≡ get_or (members_in rows) (m * 16 + 0) 0 → ⊥) → Opening rows m h x None
    unfolding admits
    opening-no-item other = opening_none rows m h x (rw (list-here h) (sym (ne_eqb _ _ other)))

-- ---- whether it may be closed, and whether it is text

-- whether a sequence's members were all had
sequence_complete : (l : List ℕ) (had : ℕ) → leb (length l) had ≡ complete (sequence (drop had l))
unfolding complete
sequence_complete [] zero = refl
sequence_complete [] (suc had) = leb-zero (suc had)
sequence_complete (x ∷ l) zero = leb-suc-zero (length l)
sequence_complete (x ∷ l) (suc had) = leb-suc-suc (length l) had ∙ sequence_complete l had

-- a sequence may be closed where it has had all its members
pub complete_sequence : (rows : List ℕ) (m h : ℕ) → TypeReadable rows m → get_or (kinds_of rows) m 0 ≡ 2 → leb (get_or (counts_of rows) m 0) h ≡ complete (rest_of rows m h)
complete_sequence rows m h r e =
    let l : List ℕ = take (get_or (counts_of rows) m 0) (drop (m * 16) (members_in rows)) in
    let long : get_or (counts_of rows) m 0 ≤ length (drop (m * 16) (members_in rows)) = row_long rows m r in
    let all : length l ≡ get_or (counts_of rows) m 0 = simp length-take (omega arith) in
    rw e (ap (λ (n : ℕ). leb n h) (sym all) ∙ sequence_complete l h)

-- a choice that needs its member where it has had it
pub complete_choice : (rows : List ℕ) (m h : ℕ) → get_or (kinds_of rows) m 0 ≡ 3 → not (eqb h 0) ≡ complete (rest_of rows m h)
unfolding complete
complete_choice rows m zero e = rw e
complete_choice rows m (suc h) e = rw e (ap not (eqb-suc-zero h))

-- an optional choice may in any case
complete_optional : (ms : List ℕ) (h : ℕ) → true ≡ complete (rest_of_choice optional ms h)
unfolding complete
complete_optional ms zero = refl
complete_optional ms (suc h) = refl

-- anything else may
pub complete_other : (rows : List ℕ) (m h : ℕ) → (get_or (kinds_of rows) m 0 ≡ 2 → ⊥) → (get_or (kinds_of rows) m 0 ≡ 3 → ⊥) → true ≡ complete (rest_of rows m h)
unfolding complete
complete_other rows m h =
    each_code (λ (k : ℕ). (k ≡ 2 → ⊥) → (k ≡ 3 → ⊥) → true ≡ complete (rest_from k (get_or (counts_of rows) m 0) (drop (m * 16) (members_in rows)) h))
    (λ p q. refl) (λ p q. refl) (λ p q. absurd (p refl)) (λ p q. absurd (q refl)) (λ p q. complete_optional (take (get_or (counts_of rows) m 0) (drop (m * 16) (members_in rows))) h) (λ k p q. refl)
    (get_or (kinds_of rows) m 0)

-- a choice is no text
choice_text : (need : Need) (ms : List ℕ) (had : ℕ) → false ≡ is_text (rest_of_choice need ms had)
unfolding is_text
choice_text need ms zero = refl
choice_text need ms (suc had) = refl

-- only the code 0 is text
rest_text : (code count : ℕ) (row : List ℕ) (had : ℕ) → eqb code 0 ≡ is_text (rest_from code count row had)
unfolding is_text
rest_text code count row had =
    each_code (λ (k : ℕ). eqb k 0 ≡ is_text (rest_from k count row had))
    refl refl refl (choice_text needed (take count row) had) (choice_text optional (take count row) had) (λ k. eqb-suc-zero (suc (suc (suc (suc k))))) code

-- so it says whether an element of a type holds text
pub text_here : (rows : List ℕ) (m h : ℕ) → eqb (get_or (kinds_of rows) m 0) 0 ≡ is_text (rest_of rows m h)
text_here rows m h = rest_text (get_or (kinds_of rows) m 0) (get_or (counts_of rows) m 0) (drop (m * 16) (members_in rows)) h

-- ---- members that were not found

-- the members from a place on: the one that stands there, and those behind it
member_step : (x from left : ℕ) (ms : List ℕ) → from < length ms
    → member_of x (take (suc left) (drop from ms)) ≡ (eqb x (get_or ms from 0) || member_of x (take left (drop (suc from) ms)))
unfolding member_of
member_step x from left ms within = rw (drop-cons ms from 0 within)

-- what a search keeps: the members that are left give the answer
pub record Searching (x from count : ℕ) (ms : List ℕ) (i : ℕ) : Type 0 where
  pub within : i ≤ count
  pub whole : member_of x (take (count - i) (drop (from + i) ms)) ≡ member_of x (take count (drop from ms))

-- before the search all are left
pub searching_start : (x from count : ℕ) (ms : List ℕ) → Searching x from count ms 0
searching_start x from count ms = record { within = omega arith; whole = simp (add-zero, sub-zero) }

module _ (x from count : ℕ) (ms : List ℕ) (i : ℕ) (room : from + count ≤ length ms) (more : i < count) (s : Searching x from count ms i) where
  -- the members that are left: the next one, and those behind it
  searching_next : member_of x (take (count - i) (drop (from + i) ms)) ≡ (eqb x (get_or ms (from + i) 0) || member_of x (take (count - (i + 1)) (drop (from + (i + 1)) ms)))
  searching_next =
      let one_more : count - i ≡ suc (count - (i + 1)) = omega arith in
      let behind : suc (from + i) ≡ from + (i + 1) = omega arith in
      rw (one_more, ← behind) (member_step x (from + i) (count - (i + 1)) ms (omega arith))

  -- x is the next one
  pub searching_found : x ≡ get_or ms (from + i) 0 → true ≡ member_of x (take count (drop from ms))
  searching_found e = sym (rw (eq-eqb x (get_or ms (from + i) 0) e) at searching_next) ∙ s.whole

  -- x is not the next one
  pub searching_on : (x ≡ get_or ms (from + i) 0 → ⊥) → Searching x from count ms (i + 1)
  searching_on e = record {
    within = omega arith;
    whole = sym (rw (ne_eqb x (get_or ms (from + i) 0) e) at searching_next) ∙ s.whole;
  }

-- none is left
pub searching_end : (x from count : ℕ) (ms : List ℕ) (i : ℕ) → count ≤ i → Searching x from count ms i → false ≡ member_of x (take count (drop from ms))
unfolding member_of
searching_end x from count ms i h s =
    let none : count - i ≡ 0 = omega arith in
    rw none at s.whole

-- there is room for the members of a type that can be read
pub members_within : (rows : List ℕ) (m : ℕ) → TypeReadable rows m → m * 16 + get_or (counts_of rows) m 0 ≤ length (members_in rows)
members_within rows m r =
    let below : m < 64 = r.below in
    let few : get_or (counts_of rows) m 0 ≤ 16 = r.bounded.few_members m in
    rw (members_long rows m r) (omega arith)
