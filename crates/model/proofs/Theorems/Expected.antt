-- Check 11 marks the first command that no conforming document has after the same beginning.
use Rattle.std.specs.Prelude.{◌≡◌, true, ℕ, zero, suc, ◌+◌, ◌<◌, length, take, ltb}
use Rattle.std.proofs.Math.Path.{refl, sym, ap}
use Rattle.std.proofs.Common.{◌∙◌, add-zero, zero-add, ltb-true, lt-ltb}
use mathlib.Core.List.Memᴰ
use mathlib.Core.List.{List, [], ◌∷◌, ◌++◌, Memᴰ}
use Rattle.std.proofs.Math.Seq.{append_snoc}
use Rattle.model.specs.Definitions.Basics.{passes, fails, goes, stops, goes_if, followed, reach}
use Rattle.model.specs.Definitions.Commands.{TreeCommand, opens, character, closes, tree_end, alien_t, tree_commands, tree_width}
use Rattle.model.specs.Definitions.Content.{Content, end}
use Rattle.model.specs.Definitions.Table.{Kind, text, empty, sequence, choice, list, Table, kind_of, members_of, is_text}
use Rattle.model.specs.Definitions.Characters.{allowed}
use Rattle.model.specs.Definitions.Conformance.{Holds, no_character, one_character, nothing, no_member, one_member, chosen, left_out, no_item, one_item, admits, after, complete, Conforming, Begins, Instance}
use Rattle.model.specs.Definitions.TreeChecks.{TreeState, no_root, inside, root_closed, tree_ended, closed, tree_step, tree_form, operand_step, tree_operands, expect_step, tree_expected, FirstUnexpected}
use Rattle.model.proofs.Theorems.Facts.{WellFormed, SoundTable}
use Rattle.model.proofs.Theorems.Runs.{goes_stops, followed_if, reach_append, reach_front, width_of, width_append, Refused, run_fails}
use Rattle.model.proofs.Theorems.Bytes.{encode-append, encode_first}
use Rattle.model.proofs.Theorems.Spellings.{tree_spelled, tree_spelling}
use Rattle.model.proofs.Theorems.Documents.{encode, commands_then, document_commands, encode-document, document-commands, form_then, form_reaches, form_front, operands_reach, holds_operands, holds_expected, expected_root, commands_conforming, conforming_expected}

-- ---- whatever may still follow can be completed

-- something that an element of this kind may hold, of types that exist
pub record Completable (S : Table) (κ : Kind) : Type 0 where
  pub content : Content
  pub holds : Holds S κ content
  pub types_exist : (m : ℕ) → Memᴰ m (members_of κ) → m < length S

-- what may follow the first element of a content that is held can be completed
after-held : {S : Table} {κ : Kind} {k : Content} → Holds S κ k → (r : Content) × Holds S (after κ) r
unfolding after
after-held no_character = (end, no_character)
after-held (one_character ok h) = (end, no_character)
after-held nothing = (end, nothing)
after-held no_member = (end, no_member)
after-held (one_member {r = r} h hs) = (r, hs)
after-held (chosen is_member h) = (end, nothing)
after-held left_out = (end, nothing)
after-held no_item = (end, no_item)
after-held (one_item h hs) = (end, no_item)

-- and names no other types
after_members : (κ : Kind) {m : ℕ} → Memᴰ m (members_of (after κ)) → Memᴰ m (members_of κ)
unfolding after members_of
after_members text h = h
after_members empty h = h
after_members (sequence []) h = h
after_members (sequence (m ∷ ms)) h = Memᴰ.tail h
after_members (choice need ms) h = absurd (Memᴰ.not-nil h)
after_members (list m) h = h

after_completable : (S : Table) (κ : Kind) → Completable S κ → Completable S (after κ)
after_completable S κ c =
    let r : (r : Content) × Holds S (after κ) r = after-held c.holds in
    record { content = r.0; holds = r.1; types_exist = λ m h. c.types_exist m (after_members κ h) }

-- `Pending S st s`: the form is in state st, s is what may still follow, and all of it can be completed
data Pending (S : Table) : TreeState → List Kind → Type 0 where
  before_root : Pending S no_root expected_root
  in_root : {κ : Kind} → Completable S κ → Pending S (inside zero) (κ ∷ sequence [] ∷ [])
  deeper : {n : ℕ} {κ : Kind} {around : List Kind} → Completable S κ → Pending S (inside n) around → Pending S (inside (suc n)) (κ ∷ around)
  after_root : Pending S root_closed (sequence [] ∷ [])
  at_end : Pending S tree_ended []

module _ (S : Table) (wf : WellFormed S) (instances : (t : ℕ) → t < length S → Instance S t) where
  -- every type can be completed
  type_completable : (t : ℕ) → t < length S → Completable S (kind_of S t)
  unfolding Instance
  type_completable t h = record { content = (instances t h).0; holds = (instances t h).1; types_exist = wf.members_exist t }

  -- some commands complete the document
  completion : {st : TreeState} {s : List Kind} → Pending S st s
      → (cs : List TreeCommand) × (reach tree_step st cs ≡ goes tree_ended) × (reach (operand_step (length S)) tt cs ≡ goes tt) × (reach (expect_step S) s cs ≡ goes [])
  unfolding reach followed tree_step closed operand_step expect_step goes_if complete admits after
  completion before_root =
      let c : Completable S (kind_of S 0) = type_completable 0 wf.has_root in
      let rest : List TreeCommand = closes ∷ tree_end ∷ [] in (
        opens 0 ∷ commands_then c.content rest,
        form_then c.content 0 rest,
        rw (lt-ltb 0 (length S) wf.has_root) (holds_operands S wf c.holds c.types_exist rest),
        holds_expected c.holds (sequence [] ∷ []) (tree_end ∷ []),
      )
  completion (in_root c) =
      let rest : List TreeCommand = closes ∷ tree_end ∷ [] in (
        commands_then c.content rest,
        form_then c.content 0 rest,
        holds_operands S wf c.holds c.types_exist rest,
        holds_expected c.holds (sequence [] ∷ []) (tree_end ∷ []),
      )
  completion (deeper {n = n} {around = around} c p) =
      let r : (cs : List TreeCommand) × (reach tree_step (inside n) cs ≡ goes tree_ended) × (reach (operand_step (length S)) tt cs ≡ goes tt) × (reach (expect_step S) around cs ≡ goes [])
      = completion p in (
        commands_then c.content (closes ∷ r.0),
        form_then c.content (suc n) (closes ∷ r.0) ∙ r.1,
        holds_operands S wf c.holds c.types_exist (closes ∷ r.0) ∙ r.2,
        holds_expected c.holds around r.0 ∙ r.3,
      )
  completion after_root = (tree_end ∷ [], refl, refl, refl)
  completion at_end = ([], refl, refl, refl)

  -- an element whose type exists can be completed
  opened_completable : (t : ℕ) (cs : List TreeCommand) {u : Unit {0}} → reach (operand_step (length S)) tt (opens t ∷ cs) ≡ goes u
      → Completable S (kind_of S t) × (reach (operand_step (length S)) tt cs ≡ goes u)
  unfolding reach operand_step
  opened_completable t cs {u} o =
      let right : (ltb t (length S) ≡ true) × (reach (operand_step (length S)) tt cs ≡ goes u)
      = followed_if (ltb t (length S)) tt (λ next. reach (operand_step (length S)) next cs) o in
      (type_completable t (ltb-true t (length S) right.0), right.1)

  -- commands that pass leave something that can be completed
  pending_after : {st : TreeState} {s : List Kind} {last : TreeState} {left : List Kind} {u : Unit {0}} → Pending S st s → (cs : List TreeCommand)
      → reach tree_step st cs ≡ goes last → reach (operand_step (length S)) tt cs ≡ goes u → reach (expect_step S) s cs ≡ goes left → Pending S last left
  unfolding reach followed tree_step closed operand_step expect_step after
  pending_after {st} {s} {last} {left} p [] f o e =
      let same-state : st ≡ last = cc in
      let same-stack : s ≡ left = cc in
      rw (← same-state, ← same-stack) p
  pending_after {u = u} before_root (opens t ∷ cs) f o e =
      let new : Completable S (kind_of S t) × (reach (operand_step (length S)) tt cs ≡ goes u) = opened_completable t cs o in
      pending_after {st = inside zero} {s = kind_of S t ∷ sequence [] ∷ []} (in_root new.0) cs f new.1
      (followed_if (admits (sequence (0 ∷ [])) t) (kind_of S t ∷ sequence [] ∷ []) (λ next. reach (expect_step S) next cs) e).1
  pending_after {u = u} (in_root {κ = κ} c) (opens t ∷ cs) f o e =
      let new : Completable S (kind_of S t) × (reach (operand_step (length S)) tt cs ≡ goes u) = opened_completable t cs o in
      pending_after {st = inside 1} {s = kind_of S t ∷ after κ ∷ sequence [] ∷ []} (deeper new.0 (in_root (after_completable S κ c))) cs f new.1
      (followed_if (admits κ t) (kind_of S t ∷ after κ ∷ sequence [] ∷ []) (λ next. reach (expect_step S) next cs) e).1
  pending_after {u = u} (deeper {n = n} {κ = κ} {around = around} c p) (opens t ∷ cs) f o e =
      let new : Completable S (kind_of S t) × (reach (operand_step (length S)) tt cs ≡ goes u) = opened_completable t cs o in
      pending_after {st = inside (suc (suc n))} {s = kind_of S t ∷ after κ ∷ around} (deeper new.0 (deeper (after_completable S κ c) p)) cs f new.1
      (followed_if (admits κ t) (kind_of S t ∷ after κ ∷ around) (λ next. reach (expect_step S) next cs) e).1
  pending_after after_root (opens t ∷ cs) f o e = goes_stops f refl
  pending_after at_end (opens t ∷ cs) f o e = goes_stops f refl
  pending_after before_root (character c ∷ cs) f o e = goes_stops f refl
  pending_after (in_root {κ = κ} k) (character c ∷ cs) f o e =
      pending_after {st = inside zero} {s = κ ∷ sequence [] ∷ []} (in_root k) cs f
      (followed_if (allowed c) tt (λ next. reach (operand_step (length S)) next cs) o).1
      (followed_if (is_text κ) (κ ∷ sequence [] ∷ []) (λ next. reach (expect_step S) next cs) e).1
  pending_after (deeper {n = n} {κ = κ} {around = around} k p) (character c ∷ cs) f o e =
      pending_after {st = inside (suc n)} {s = κ ∷ around} (deeper k p) cs f
      (followed_if (allowed c) tt (λ next. reach (operand_step (length S)) next cs) o).1
      (followed_if (is_text κ) (κ ∷ around) (λ next. reach (expect_step S) next cs) e).1
  pending_after after_root (character c ∷ cs) f o e = goes_stops f refl
  pending_after at_end (character c ∷ cs) f o e = goes_stops f refl
  pending_after before_root (closes ∷ cs) f o e = goes_stops f refl
  pending_after (in_root {κ = κ} k) (closes ∷ cs) f o e =
      pending_after {st = root_closed} {s = sequence [] ∷ []} after_root cs f o (followed_if (complete κ) (sequence [] ∷ []) (λ next. reach (expect_step S) next cs) e).1
  pending_after (deeper {n = n} {κ = κ} {around = around} k p) (closes ∷ cs) f o e =
      pending_after {st = inside n} {s = around} p cs f o (followed_if (complete κ) around (λ next. reach (expect_step S) next cs) e).1
  pending_after after_root (closes ∷ cs) f o e = goes_stops f refl
  pending_after at_end (closes ∷ cs) f o e = goes_stops f refl
  pending_after before_root (tree_end ∷ cs) f o e = goes_stops f refl
  pending_after (in_root k) (tree_end ∷ cs) f o e = goes_stops f refl
  pending_after (deeper k p) (tree_end ∷ cs) f o e = goes_stops f refl
  pending_after after_root (tree_end ∷ cs) f o e = pending_after {st = tree_ended} {s = []} at_end cs f o e
  pending_after at_end (tree_end ∷ cs) f o e = goes_stops f refl
  pending_after before_root (alien_t ∷ cs) f o e = goes_stops f refl
  pending_after (in_root k) (alien_t ∷ cs) f o e = goes_stops f refl
  pending_after (deeper k p) (alien_t ∷ cs) f o e = goes_stops f refl
  pending_after after_root (alien_t ∷ cs) f o e = goes_stops f refl
  pending_after at_end (alien_t ∷ cs) f o e = goes_stops f refl

  -- commands that pass are the beginning of a conforming document
  passed_begins : (xs : List TreeCommand) {st : TreeState} {u : Unit {0}} {s : List Kind}
      → reach tree_step no_root xs ≡ goes st → reach (operand_step (length S)) tt xs ≡ goes u → reach (expect_step S) expected_root xs ≡ goes s → Begins S (encode xs)
  unfolding Begins Conforming
  passed_begins xs {st} {u} {s} f o e =
      let r : (cs : List TreeCommand) × (reach tree_step st cs ≡ goes tree_ended) × (reach (operand_step (length S)) tt cs ≡ goes tt) × (reach (expect_step S) s cs ≡ goes [])
      = completion (pending_after before_root xs f o e) in
      let all : List TreeCommand = xs ++ r.0 in
      let d : (k : Content) × (all ≡ document_commands 0 k) × Holds S (kind_of S 0) k
      = commands_conforming S (length S) all
      (reach_append tree_step no_root xs r.0 f ∙ r.1)
      (reach_append (operand_step (length S)) tt xs r.0 o ∙ r.2)
      (reach_append (expect_step S) expected_root xs r.0 e ∙ r.3) in
      (encode r.0, (d.0, sym (encode-append tree_spelled xs r.0) ∙ ap encode d.1 ∙ encode-document 0 d.0, d.2))

-- no conforming document begins with commands of which the last is refused
refused_begins : (S : Table) (xs : List TreeCommand) (c : TreeCommand) {s : List Kind}
    → reach (expect_step S) expected_root xs ≡ goes s → expect_step S s c ≡ stops → Begins S (encode (xs ++ c ∷ [])) → ⊥
unfolding Begins Conforming reach followed tree_commands
refused_begins S xs c {s} e q b =
    let more : List TreeCommand = tree_commands b.0 in
    let k : Content = b.1.0 in
    let read : (xs ++ c ∷ []) ++ more ≡ document_commands 0 k
    = sym (encode_first tree_spelling (xs ++ c ∷ []) b.0) ∙ ap tree_commands b.1.1 ∙ document-commands 0 k in
    let accepted : reach (expect_step S) expected_root (xs ++ c ∷ more) ≡ goes []
    = rw (← append_snoc xs c more, read) (conforming_expected b.1.2) in
    let refused : reach (expect_step S) expected_root (xs ++ c ∷ more) ≡ stops
    = reach_append (expect_step S) expected_root xs (c ∷ more) e ∙ rw q in
    goes_stops accepted refused

-- the command that check 11 marks
pub record UnexpectedCommand (S : Table) (bs : List ℕ) (offset : ℕ) : Type 0 where
  pub before : List TreeCommand
  pub command : TreeCommand
  pub behind : List TreeCommand
  pub parts : tree_commands bs ≡ before ++ command ∷ behind
  pub place : offset ≡ width_of tree_width before
  pub first : FirstUnexpected S bs offset (tree_width command)

-- a command that is refused where form and operands are right
refused_unexpected : (S : Table) → WellFormed S → ((t : ℕ) → t < length S → Instance S t) → (bs : List ℕ) (offset : ℕ)
    → tree_form bs ≡ passes → tree_operands (length S) bs ≡ passes → Refused tree_width (expect_step S) expected_root offset (tree_commands bs)
    → UnexpectedCommand S bs offset
unfolding FirstUnexpected width_of
refused_unexpected S wf instances bs offset f o r =
    let xs : List TreeCommand = r.before in
    let c : TreeCommand = r.command in
    let ys : List TreeCommand = r.behind in
    let form-before : (m : TreeState) × (reach tree_step no_root xs ≡ goes m) × (reach tree_step m (c ∷ ys) ≡ goes tree_ended)
    = reach_front tree_step no_root xs (c ∷ ys) (rw r.parts at (form_reaches bs f)) in
    let operands-before : (m : Unit {0}) × (reach (operand_step (length S)) tt xs ≡ goes m) × (reach (operand_step (length S)) m (c ∷ ys) ≡ goes tt)
    = reach_front (operand_step (length S)) tt xs (c ∷ ys) (rw r.parts at (operands_reach (length S) bs o)) in
    let front : take offset bs ≡ encode xs = rw r.place (form_front bs f xs (c ∷ ys) r.parts) in
    let wide : offset + tree_width c ≡ width_of tree_width (xs ++ c ∷ []) = rw (width_append tree_width xs (c ∷ []), add-zero, r.place) in
    let front-and-command : take (offset + tree_width c) bs ≡ encode (xs ++ c ∷ [])
    = rw wide (form_front bs f (xs ++ c ∷ []) ys (r.parts ∙ sym (append_snoc xs c ys))) in
    record {
      before = xs;
      command = c;
      behind = ys;
      parts = r.parts;
      place = r.place;
      first = (
        rw front (passed_begins S wf instances xs form-before.1 operands-before.1 r.reached),
        λ b. refused_begins S xs c r.reached r.refused (rw front-and-command at b),
      );
    }

-- where check 11 fails, it marks a command that is the first unexpected one
pub unexpected_command : (S : Table) → SoundTable S → ((t : ℕ) → t < length S → Instance S t) → (bs : List ℕ) (at : ℕ)
    → tree_form bs ≡ passes → tree_operands (length S) bs ≡ passes → tree_expected S bs ≡ fails at → UnexpectedCommand S bs at
unfolding tree_expected
unexpected_command S sound instances bs at f o e =
    let found : (offset : ℕ) × (at ≡ 0 + offset) × Refused tree_width (expect_step S) expected_root offset (tree_commands bs)
    = run_fails tree_width (expect_step S) expected_root 0 at (tree_commands bs) e in
    rw (found.1, zero-add) (refused_unexpected S sound.well_formed instances bs found.0 f o found.2)
