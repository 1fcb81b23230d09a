-- The test of conformance and the predicate agree.
use Rattle.std.specs.Prelude.{◌≡◌, refl, Bool, true, false, ◌&&◌, ◌||◌, ℕ, T, eqb}
use Rattle.std.proofs.Common.{sym, eqb-true, eq-eqb}
use mathlib.Core.List.{List, [], ◌∷◌, Memᴰ}
use Rattle.model.specs.Definitions.Basics.{member_of}
use Rattle.model.specs.Definitions.Commands.{needed, optional}
use Rattle.model.specs.Definitions.Table.{Kind, text, empty, sequence, choice, list, Table, kind_of, is_text}
use Rattle.model.specs.Definitions.Content.{Content, end, char, elem}
use Rattle.model.specs.Definitions.Characters.{allowed}
use Rattle.model.specs.Definitions.Conformance.{Holds, no_character, one_character, nothing, no_member, one_member, chosen, left_out, no_item, one_item, admits, after, complete, conforms}
use Rattle.model.proofs.Theorems.Tools.{true_false, and_left, and_right, and_both, member_sound}

-- a test that is true, as a type
pub holds_test : (b : Bool) → T b → b ≡ true
holds_test true h = refl
holds_test false h = absurd h

pub test_holds : (b : Bool) → b ≡ true → T b
test_holds true e = tt
test_holds false e = true_false e refl

-- a member is one by the test
pub member_complete : {t : ℕ} {ms : List ℕ} → Memᴰ t ms → member_of t ms ≡ true
unfolding member_of
member_complete {t} (Memᴰ.head {x = m} e) = rw (eq-eqb t m e)
member_complete {t} (Memᴰ.tail {x = m} {xs = ms} h) = later (eqb t m) (member_complete h)
  where
    later : (b : Bool) → member_of t ms ≡ true → (b || member_of t ms) ≡ true
    later true e = refl
    later false e = e

-- what an element holds passes the test
pub holds_conforms : {S : Table} {κ : Kind} {k : Content} → Holds S κ k → conforms S κ k ≡ true
unfolding conforms complete admits after is_text
holds_conforms no_character = refl
holds_conforms (one_character {c = c} ok h) = and_both (holds_test (allowed c) ok) (holds_conforms h)
holds_conforms nothing = refl
holds_conforms no_member = refl
holds_conforms (one_member {m = m} h hs) = and_both (and_both (eq-eqb m m refl) (holds_conforms h)) (holds_conforms hs)
holds_conforms (chosen m h) = and_both (and_both (member_complete m) (holds_conforms h)) refl
holds_conforms left_out = refl
holds_conforms no_item = refl
holds_conforms (one_item {m = m} h hs) = and_both (and_both (eq-eqb m m refl) (holds_conforms h)) (holds_conforms hs)

-- an empty element holds nothing
empty_end : (S : Table) (k : Content) → conforms S empty k ≡ true → k ≡ end
unfolding conforms is_text admits
empty_end S end e = refl
empty_end S (char c r) e = true_false e refl
empty_end S (elem t k r) e = true_false e refl

-- the parts of the test of a content that begins with an element
pub elem_parts : (S : Table) (κ : Kind) (t : ℕ) (k r : Content) → conforms S κ (elem t k r) ≡ true
    → (admits κ t ≡ true) × (conforms S (kind_of S t) k ≡ true) × (conforms S (after κ) r ≡ true)
unfolding conforms
elem_parts S κ t k r e =
    let front : (admits κ t && conforms S (kind_of S t) k) ≡ true = and_left (admits κ t && conforms S (kind_of S t) k) (conforms S (after κ) r) e in (
      and_left (admits κ t) (conforms S (kind_of S t) k) front,
      and_right (admits κ t) (conforms S (kind_of S t) k) front,
      and_right (admits κ t && conforms S (kind_of S t) k) (conforms S (after κ) r) e,
    )

-- what passes the test is what an element holds
pub conforms_holds : (S : Table) (κ : Kind) (k : Content) → conforms S κ k ≡ true → Holds S κ k
unfolding conforms complete admits after is_text
conforms_holds S text end e = no_character
conforms_holds S empty end e = nothing
conforms_holds S (sequence []) end e = no_member
conforms_holds S (sequence (m ∷ ms)) end e = true_false e refl
conforms_holds S (choice needed ms) end e = true_false e refl
conforms_holds S (choice optional ms) end e = left_out
conforms_holds S (list m) end e = no_item
conforms_holds S text (char c r) e = one_character (test_holds (allowed c) (and_left (allowed c) (conforms S text r) e)) (conforms_holds S text r (and_right (allowed c) (conforms S text r) e))
conforms_holds S empty (char c r) e = true_false e refl
conforms_holds S (sequence ms) (char c r) e = true_false e refl
conforms_holds S (choice need ms) (char c r) e = true_false e refl
conforms_holds S (list m) (char c r) e = true_false e refl
conforms_holds S text (elem t k r) e = true_false e refl
conforms_holds S empty (elem t k r) e = true_false e refl
conforms_holds S (sequence []) (elem t k r) e = true_false e refl
conforms_holds S (sequence (m ∷ ms)) (elem t k r) e =
    let p : (eqb t m ≡ true) × (conforms S (kind_of S t) k ≡ true) × (conforms S (sequence ms) r ≡ true) = elem_parts S (sequence (m ∷ ms)) t k r e in
    let same : m ≡ t = sym (eqb-true t m p.0) in
    rw same (one_member (conforms_holds S (kind_of S t) k p.1) (conforms_holds S (sequence ms) r p.2))
conforms_holds S (choice need ms) (elem t k r) e =
    let p : (member_of t ms ≡ true) × (conforms S (kind_of S t) k ≡ true) × (conforms S empty r ≡ true) = elem_parts S (choice need ms) t k r e in
    rw (empty_end S r p.2) (chosen (member_sound t ms p.0) (conforms_holds S (kind_of S t) k p.1))
conforms_holds S (list m) (elem t k r) e =
    let p : (eqb t m ≡ true) × (conforms S (kind_of S t) k ≡ true) × (conforms S (list m) r ≡ true) = elem_parts S (list m) t k r e in
    let same : m ≡ t = sym (eqb-true t m p.0) in
    let rest : Holds S (list t) r = rw same at (conforms_holds S (list m) r p.2) in
    rw same (one_item (conforms_holds S (kind_of S t) k p.1) rest)
