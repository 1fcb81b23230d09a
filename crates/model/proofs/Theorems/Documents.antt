-- Tree documents as bytes: a document's bytes determine its content, the form check accepts exactly the documents, and
-- the checks of form, operands and what is expected accept exactly those that conform to a table.
use Rattle.std.specs.Prelude.{◌≡◌, refl, true, ℕ, zero, suc, ◌<◌, length, take, eqb, ltb}
use Rattle.std.proofs.Common.{sym, ap, ◌∙◌, eqb-true, eq-eqb, lt-ltb, arith}
use mathlib.Core.List.{List, [], ◌∷◌, ◌++◌, append_assoc, Memᴰ}
use Rattle.model.specs.Definitions.Basics.{passes, goes, stops, goes_if, followed, reach}
use Rattle.model.specs.Definitions.Commands.{TreeCommand, opens, character, closes, tree_end, alien_t, tree_commands, tree_width}
use Rattle.model.specs.Definitions.Content.{Content, end, char, elem, bytes, document, with_tree_command, contents, top_of, inside_of, content_of}
use Rattle.model.specs.Definitions.Table.{Kind, empty, sequence, list, Table, kind_of, members_of, is_text}
use Rattle.model.specs.Definitions.Characters.{allowed}
use Rattle.model.specs.Definitions.Conformance.{Holds, no_character, one_character, nothing, no_member, one_member, chosen, left_out, no_item, one_item, admits, after, complete, conforms, Conforming}
use Rattle.model.specs.Definitions.TreeChecks.{TreeState, no_root, inside, root_closed, tree_ended, closed, tree_step, tree_complete, tree_form, operand_step, tree_operands, expect_step, tree_expected}
use Rattle.model.proofs.Theorems.Facts.{WellFormed}
use Rattle.model.proofs.Theorems.Tools.{true_false, and_both}
use Rattle.model.proofs.Theorems.Conforms.{holds_test, member_complete, conforms_holds}
use Rattle.model.proofs.Theorems.Runs.{goes_stops, followed_if, width_of, run_passes, passes_run}
use Rattle.model.proofs.Theorems.Bytes.{encode_by, take_encode, commands_encode, encode_commands}
use Rattle.model.proofs.Theorems.Spellings.{tree_spelled, tree_spelling}

-- the bytes of tree commands
abbrev pub encode : List TreeCommand → List ℕ
encode = encode_by tree_spelled

-- ---- a content as commands

-- the commands of a content, then others
unfoldable pub commands_then : Content → List TreeCommand → List TreeCommand
commands_then end cs = cs
commands_then (char c r) cs = character c ∷ commands_then r cs
commands_then (elem t k r) cs = opens t ∷ commands_then k (closes ∷ commands_then r cs)

-- the commands of a document
unfoldable pub document_commands : ℕ → Content → List TreeCommand
document_commands t k = opens t ∷ commands_then k (closes ∷ tree_end ∷ [])

-- their bytes are the content's bytes
pub encode_then : (k : Content) (cs : List TreeCommand) → encode (commands_then k cs) ≡ bytes k ++ encode cs
unfolding commands_then encode_by tree_spelled bytes
encode_then end cs = refl
encode_then (char c r) cs = rw (encode_then r cs)
encode_then (elem t k r) cs = rw (encode_then k (closes ∷ commands_then r cs), encode_then r cs, append_assoc)

pub encode-document : (t : ℕ) (k : Content) → encode (document_commands t k) ≡ document t k
unfolding document_commands document encode_by tree_spelled bytes
encode-document t k = rw (encode_then k (closes ∷ tree_end ∷ []), append_assoc)

pub document-commands : (t : ℕ) (k : Content) → tree_commands (document t k) ≡ document_commands t k
unfolding tree_commands
document-commands t k = ap tree_commands (sym (encode-document t k)) ∙ commands_encode tree_spelling (document_commands t k)

-- ---- the content of a document

-- the commands of an element's content, up to its close, write that content
contents_then : (k : Content) (cs : List TreeCommand) → contents (commands_then k (closes ∷ cs)) ≡ k ∷ contents cs
unfolding commands_then contents with_tree_command
contents_then end cs = refl
contents_then (char c r) cs = rw (contents_then r cs)
contents_then (elem t k r) cs = rw (contents_then k (commands_then r (closes ∷ cs)), contents_then r cs)

pub content_of_document : (t : ℕ) (k : Content) → content_of (document t k) ≡ k
unfolding content_of document_commands contents with_tree_command top_of inside_of
content_of_document t k = rw (document-commands t k, contents_then k (tree_end ∷ []))

-- the bytes of a document determine it
pub document_injective : (t u : ℕ) (k l : Content) → document t k ≡ document u l → (t ≡ u) × (k ≡ l)
unfolding document bytes
document_injective t u k l e = (cc, sym (content_of_document t k) ∙ ap content_of e ∙ content_of_document u l)

-- ---- the form check

-- the commands of a content leave the form's state as it is
pub form_then : (k : Content) (n : ℕ) (cs : List TreeCommand) → reach tree_step (inside n) (commands_then k cs) ≡ reach tree_step (inside n) cs
unfolding commands_then reach followed tree_step closed
form_then end n cs = refl
form_then (char c r) n cs = form_then r n cs
form_then (elem t k r) n cs = form_then k (suc n) (closes ∷ commands_then r cs) ∙ form_then r n cs

pub form_document : (t : ℕ) (k : Content) → reach tree_step no_root (document_commands t k) ≡ goes tree_ended
unfolding document_commands reach followed tree_step closed
form_document t k = form_then k 0 (closes ∷ tree_end ∷ [])

pub form_accepts : (t : ℕ) (k : Content) → tree_form (document t k) ≡ passes
unfolding tree_form tree_complete
form_accepts t k =
    let whole : reach tree_step no_root (tree_commands (document t k)) ≡ goes tree_ended = rw (document-commands t k) (form_document t k) in
    passes_run tree_width tree_step tree_complete no_root 0 (tree_commands (document t k)) whole refl

-- What is open where so many elements are: for each, the rest of its content and its close; then the end of the document.
abbrev pub Opened : ℕ → List TreeCommand → Type 0
Opened zero cs = cs ≡ tree_end ∷ []
Opened (suc n) cs = (k : Content) × (rest : List TreeCommand) × (cs ≡ commands_then k (closes ∷ rest)) × Opened n rest

-- after the end of the document nothing may come
form_ended : (cs : List TreeCommand) → reach tree_step tree_ended cs ≡ goes tree_ended → cs ≡ []
unfolding reach followed tree_step
form_ended [] e = refl
form_ended (opens t ∷ cs) e = goes_stops e refl
form_ended (character c ∷ cs) e = goes_stops e refl
form_ended (closes ∷ cs) e = goes_stops e refl
form_ended (tree_end ∷ cs) e = goes_stops e refl
form_ended (alien_t ∷ cs) e = goes_stops e refl

-- after the root only the end of the document may come
form_root_closed : (cs : List TreeCommand) → reach tree_step root_closed cs ≡ goes tree_ended → cs ≡ tree_end ∷ []
unfolding reach followed tree_step
form_root_closed [] e = let z : ◌≡◌ {A = ℕ} 0 1 = cc in absurd (omega arith)
form_root_closed (opens t ∷ cs) e = goes_stops e refl
form_root_closed (character c ∷ cs) e = goes_stops e refl
form_root_closed (closes ∷ cs) e = goes_stops e refl
form_root_closed (tree_end ∷ cs) e = rw (form_ended cs e)
form_root_closed (alien_t ∷ cs) e = goes_stops e refl

-- commands that the form accepts inside elements are the rests of these elements' contents
form_inside : (n : ℕ) (cs : List TreeCommand) → reach tree_step (inside n) cs ≡ goes tree_ended → Opened (suc n) cs
unfolding reach followed tree_step closed commands_then
form_inside n [] e = let z : ◌≡◌ {A = ℕ} 0 1 = cc in absurd (omega arith)
form_inside n (opens t ∷ cs) e =
    let o : Opened (suc (suc n)) cs = form_inside (suc n) cs e in
    let i : Opened (suc n) o.1 = o.3 in
    (elem t o.0 i.0, i.1, rw (← i.2) (ap (λ (l : List TreeCommand). opens t ∷ l) o.2), i.3)
form_inside n (character c ∷ cs) e =
    let o : Opened (suc n) cs = form_inside n cs e in
    (char c o.0, o.1, ap (λ (l : List TreeCommand). character c ∷ l) o.2, o.3)
form_inside zero (closes ∷ cs) e = (end, cs, refl, form_root_closed cs e)
form_inside (suc n) (closes ∷ cs) e = (end, cs, refl, form_inside n cs e)
form_inside n (tree_end ∷ cs) e = goes_stops e refl
form_inside n (alien_t ∷ cs) e = goes_stops e refl

-- commands that the form accepts are those of a document
pub form_commands : (cs : List TreeCommand) → reach tree_step no_root cs ≡ goes tree_ended → (t : ℕ) × (k : Content) × (cs ≡ document_commands t k)
unfolding reach followed tree_step document_commands
form_commands [] e = let z : ◌≡◌ {A = ℕ} 0 1 = cc in absurd (omega arith)
form_commands (opens t ∷ cs) e =
    let o : Opened 1 cs = form_inside 0 cs e in
    (t, o.0, rw (← o.3) (ap (λ (l : List TreeCommand). opens t ∷ l) o.2))
form_commands (character c ∷ cs) e = goes_stops e refl
form_commands (closes ∷ cs) e = goes_stops e refl
form_commands (tree_end ∷ cs) e = goes_stops e refl
form_commands (alien_t ∷ cs) e = goes_stops e refl

-- the form may end only after the end of the document
only_ended : (s : TreeState) → tree_complete s ≡ true → s ≡ tree_ended
unfolding tree_complete
only_ended no_root e = true_false e refl
only_ended (inside n) e = true_false e refl
only_ended root_closed e = true_false e refl
only_ended tree_ended e = refl

pub form_reaches : (bs : List ℕ) → tree_form bs ≡ passes → reach tree_step no_root (tree_commands bs) ≡ goes tree_ended
unfolding tree_form
form_reaches bs e =
    let r : (last : TreeState) × (reach tree_step no_root (tree_commands bs) ≡ goes last) × (tree_complete last ≡ true)
    = run_passes tree_width tree_step tree_complete no_root 0 (tree_commands bs) e in
    r.1 ∙ ap (λ (s : TreeState). goes s) (only_ended r.0 r.2)

-- the form takes nothing alien
pub tree_alien_stops : (s : TreeState) → tree_step s alien_t ≡ stops
unfolding tree_step
tree_alien_stops no_root = refl
tree_alien_stops (inside n) = refl
tree_alien_stops root_closed = refl
tree_alien_stops tree_ended = refl

-- bytes whose commands are those of a document are that document
pub document_of_commands : (bs : List ℕ) (t : ℕ) (k : Content) → tree_commands bs ≡ document_commands t k → bs ≡ document t k
unfolding tree_commands
document_of_commands bs t k e =
    let taken : reach tree_step no_root (tree_commands bs) ≡ goes tree_ended = rw e (form_document t k) in
    sym (encode_commands tree_spelling tree_step tree_alien_stops no_root bs taken) ∙ ap encode e ∙ encode-document t k

-- what the form check accepts is a document
pub form_only : (bs : List ℕ) → tree_form bs ≡ passes → (t : ℕ) × (k : Content) × (bs ≡ document t k)
form_only bs e =
    let f : (t : ℕ) × (k : Content) × (tree_commands bs ≡ document_commands t k) = form_commands (tree_commands bs) (form_reaches bs e) in
    (f.0, f.1, document_of_commands bs f.0 f.1 f.2)

-- and the bytes of its commands are all its bytes
pub form_encode : (bs : List ℕ) → tree_form bs ≡ passes → encode (tree_commands bs) ≡ bs
form_encode bs e =
    let f : (t : ℕ) × (k : Content) × (bs ≡ document t k) = form_only bs e in
    rw (f.2, document-commands f.0 f.1) (encode-document f.0 f.1)

-- so the bytes of its first commands are found by their width
pub form_front : (bs : List ℕ) → tree_form bs ≡ passes → (xs ys : List TreeCommand) → tree_commands bs ≡ xs ++ ys → take (width_of tree_width xs) bs ≡ encode xs
form_front bs e xs ys parts =
    let written : bs ≡ encode (xs ++ ys) = sym (form_encode bs e) ∙ ap encode parts in
    rw written (take_encode tree_spelling xs ys)

-- its content is the one that its bytes are read to
pub content_of_form : (bs : List ℕ) → tree_form bs ≡ passes → (t : ℕ) × (bs ≡ document t (content_of bs))
content_of_form bs e =
    let f : (t : ℕ) × (k : Content) × (bs ≡ document t k) = form_only bs e in
    let k : content_of bs ≡ f.1 = ap content_of f.2 ∙ content_of_document f.0 f.1 in
    (f.0, rw k f.2)

-- ---- the checks of operands and of what is expected

-- what an element holds is expected in it, up to its close
pub holds_expected : {S : Table} {κ : Kind} {k : Content} → Holds S κ k → (around : List Kind) (cs : List TreeCommand)
    → reach (expect_step S) (κ ∷ around) (commands_then k (closes ∷ cs)) ≡ reach (expect_step S) around cs
unfolding reach followed expect_step goes_if admits complete after is_text commands_then
holds_expected no_character around cs = refl
holds_expected (one_character ok h) around cs = holds_expected h around cs
holds_expected nothing around cs = refl
holds_expected no_member around cs = refl
holds_expected (one_member {m = m} {ms = ms} {r = r} h hs) around cs =
    rw (eq-eqb m m refl) (holds_expected h (sequence ms ∷ around) (commands_then r (closes ∷ cs)) ∙ holds_expected hs around cs)
holds_expected (chosen is_member h) around cs = rw (member_complete is_member) (holds_expected h (empty ∷ around) (closes ∷ cs))
holds_expected left_out around cs = refl
holds_expected no_item around cs = refl
holds_expected (one_item {m = m} {r = r} h hs) around cs =
    rw (eq-eqb m m refl) (holds_expected h (list m ∷ around) (commands_then r (closes ∷ cs)) ∙ holds_expected hs around cs)

-- and its operands are right
pub holds_operands : (S : Table) → WellFormed S → {κ : Kind} {k : Content} → Holds S κ k → ((m : ℕ) → Memᴰ m (members_of κ) → m < length S) → (cs : List TreeCommand)
    → reach (operand_step (length S)) tt (commands_then k cs) ≡ reach (operand_step (length S)) tt cs
unfolding reach followed operand_step goes_if commands_then members_of
holds_operands S wf no_character exist cs = refl
holds_operands S wf (one_character {c = c} ok h) exist cs = rw (holds_test (allowed c) ok) (holds_operands S wf h exist cs)
holds_operands S wf nothing exist cs = refl
holds_operands S wf no_member exist cs = refl
holds_operands S wf (one_member {m = m} {r = r} h hs) exist cs =
    rw (lt-ltb m (length S) (exist m (Memᴰ.head refl)))
    (holds_operands S wf h (wf.members_exist m) (closes ∷ commands_then r cs) ∙ holds_operands S wf hs (λ n later. exist n (Memᴰ.tail later)) cs)
holds_operands S wf (chosen {m = m} is_member h) exist cs =
    rw (lt-ltb m (length S) (exist m is_member)) (holds_operands S wf h (wf.members_exist m) (closes ∷ cs))
holds_operands S wf left_out exist cs = refl
holds_operands S wf no_item exist cs = refl
holds_operands S wf (one_item {m = m} {r = r} h hs) exist cs =
    rw (lt-ltb m (length S) (exist m (Memᴰ.head refl)))
    (holds_operands S wf h (wf.members_exist m) (closes ∷ commands_then r cs) ∙ holds_operands S wf hs exist cs)

-- what both checks let pass in an element is what it holds
accepted_conforms : (S : Table) (n : ℕ) (k : Content) (κ : Kind) (around : List Kind) (cs : List TreeCommand) {u : Unit {0}} {last : List Kind}
    → reach (operand_step n) tt (commands_then k (closes ∷ cs)) ≡ goes u
    → reach (expect_step S) (κ ∷ around) (commands_then k (closes ∷ cs)) ≡ goes last
    → (conforms S κ k ≡ true) × (reach (operand_step n) tt cs ≡ goes u) × (reach (expect_step S) around cs ≡ goes last)
unfolding reach followed commands_then operand_step expect_step conforms
accepted_conforms S n end κ around cs {last = last} o e =
    let closing : (complete κ ≡ true) × (reach (expect_step S) around cs ≡ goes last) = followed_if (complete κ) around (λ next. reach (expect_step S) next cs) e in
    (closing.0, o, closing.1)
accepted_conforms S n (char c r) κ around cs {u} {last} o e =
    let more : List TreeCommand = commands_then r (closes ∷ cs) in
    let right : (allowed c ≡ true) × (reach (operand_step n) tt more ≡ goes u) = followed_if (allowed c) tt (λ next. reach (operand_step n) next more) o in
    let fits : (is_text κ ≡ true) × (reach (expect_step S) (κ ∷ around) more ≡ goes last) = followed_if (is_text κ) (κ ∷ around) (λ next. reach (expect_step S) next more) e in
    let rest : (conforms S κ r ≡ true) × (reach (operand_step n) tt cs ≡ goes u) × (reach (expect_step S) around cs ≡ goes last)
    = accepted_conforms S n r κ around cs right.1 fits.1 in
    (and_both (and_both fits.0 right.0) rest.0, rest.1, rest.2)
accepted_conforms S n (elem t k r) κ around cs {u} {last} o e =
    let later : List TreeCommand = commands_then r (closes ∷ cs) in
    let more : List TreeCommand = commands_then k (closes ∷ later) in
    let inner : List Kind = kind_of S t ∷ after κ ∷ around in
    let right : (ltb t n ≡ true) × (reach (operand_step n) tt more ≡ goes u) = followed_if (ltb t n) tt (λ next. reach (operand_step n) next more) o in
    let fits : (admits κ t ≡ true) × (reach (expect_step S) inner more ≡ goes last) = followed_if (admits κ t) inner (λ next. reach (expect_step S) next more) e in
    let held : (conforms S (kind_of S t) k ≡ true) × (reach (operand_step n) tt later ≡ goes u) × (reach (expect_step S) (after κ ∷ around) later ≡ goes last)
    = accepted_conforms S n k (kind_of S t) (after κ ∷ around) later right.1 fits.1 in
    let rest : (conforms S (after κ) r ≡ true) × (reach (operand_step n) tt cs ≡ goes u) × (reach (expect_step S) around cs ≡ goes last)
    = accepted_conforms S n r (after κ) around cs held.1 held.2 in
    (and_both (and_both fits.0 held.0) rest.0, rest.1, rest.2)

-- the document before its root: one element of type 0 is to come
abbrev pub expected_root : List Kind
expected_root = sequence (0 ∷ []) ∷ []

-- commands that all three machines let pass are those of a conforming document
pub commands_conforming : (S : Table) (n : ℕ) (cs : List TreeCommand) {u : Unit {0}} {last : List Kind}
    → reach tree_step no_root cs ≡ goes tree_ended → reach (operand_step n) tt cs ≡ goes u → reach (expect_step S) expected_root cs ≡ goes last
    → (k : Content) × (cs ≡ document_commands 0 k) × Holds S (kind_of S 0) k
unfolding reach followed operand_step expect_step admits after document_commands
commands_conforming S n cs {u} {last} f o e =
    let d : (t : ℕ) × (k : Content) × (cs ≡ document_commands t k) = form_commands cs f in
    let t : ℕ = d.0 in
    let k : Content = d.1 in
    let inner : List TreeCommand = commands_then k (closes ∷ tree_end ∷ []) in
    let right : (ltb t n ≡ true) × (reach (operand_step n) tt inner ≡ goes u)
    = followed_if (ltb t n) tt (λ next. reach (operand_step n) next inner) (rw d.2 at o) in
    let fits : (eqb t 0 ≡ true) × (reach (expect_step S) (kind_of S t ∷ sequence [] ∷ []) inner ≡ goes last)
    = followed_if (eqb t 0) (kind_of S t ∷ sequence [] ∷ []) (λ next. reach (expect_step S) next inner) (rw d.2 at e) in
    let held : (conforms S (kind_of S t) k ≡ true) × (reach (operand_step n) tt (tree_end ∷ []) ≡ goes u) × (reach (expect_step S) (sequence [] ∷ []) (tree_end ∷ []) ≡ goes last)
    = accepted_conforms S n k (kind_of S t) (sequence [] ∷ []) (tree_end ∷ []) right.1 fits.1 in
    let root : t ≡ 0 = eqb-true t 0 fits.0 in
    (k, rw (← root) d.2, rw (← root) (conforms_holds S (kind_of S t) k held.0))

-- and the commands of a conforming document pass
pub conforming_expected : {S : Table} {k : Content} → Holds S (kind_of S 0) k → reach (expect_step S) expected_root (document_commands 0 k) ≡ goes []
unfolding reach followed expect_step goes_if admits after document_commands
conforming_expected h = holds_expected h (sequence [] ∷ []) (tree_end ∷ [])

pub conforming_operands : (S : Table) → WellFormed S → {k : Content} → Holds S (kind_of S 0) k → reach (operand_step (length S)) tt (document_commands 0 k) ≡ goes tt
unfolding reach followed operand_step goes_if document_commands
conforming_operands S wf h =
    rw (lt-ltb 0 (length S) wf.has_root) (holds_operands S wf h (wf.members_exist 0) (closes ∷ tree_end ∷ []))

-- ---- a byte string is the bytes of a conforming document exactly where these checks accept it

pub operands_reach : (n : ℕ) (bs : List ℕ) → tree_operands n bs ≡ passes → reach (operand_step n) tt (tree_commands bs) ≡ goes tt
unfolding tree_operands
operands_reach n bs o = (run_passes tree_width (operand_step n) (λ u. true) tt 0 (tree_commands bs) o).1

pub checks_conforming : (S : Table) → WellFormed S → (bs : List ℕ)
    → tree_form bs ≡ passes → tree_operands (length S) bs ≡ passes → tree_expected S bs ≡ passes → Conforming S bs
unfolding tree_expected Conforming
checks_conforming S wf bs f o e =
    let expected : (last : List Kind) × (reach (expect_step S) expected_root (tree_commands bs) ≡ goes last) × (true ≡ true)
    = run_passes tree_width (expect_step S) (λ s. true) expected_root 0 (tree_commands bs) e in
    let d : (k : Content) × (tree_commands bs ≡ document_commands 0 k) × Holds S (kind_of S 0) k
    = commands_conforming S (length S) (tree_commands bs) (form_reaches bs f) (operands_reach (length S) bs o) expected.1 in
    (d.0, document_of_commands bs 0 d.0 d.1, d.2)

pub conforming_checks : (S : Table) → WellFormed S → (bs : List ℕ) → Conforming S bs
    → (tree_form bs ≡ passes) × (tree_operands (length S) bs ≡ passes) × (tree_expected S bs ≡ passes)
unfolding tree_operands tree_expected Conforming
conforming_checks S wf bs d =
    let k : Content = d.0 in
    let read : tree_commands bs ≡ document_commands 0 k = ap tree_commands d.1 ∙ document-commands 0 k in
    let operands : reach (operand_step (length S)) tt (tree_commands bs) ≡ goes tt = rw read (conforming_operands S wf d.2) in
    let expected : reach (expect_step S) expected_root (tree_commands bs) ≡ goes [] = rw read (conforming_expected d.2) in (
      rw d.1 (form_accepts 0 k),
      passes_run tree_width (operand_step (length S)) (λ u. true) tt 0 (tree_commands bs) operands refl,
      passes_run tree_width (expect_step S) (λ s. true) expected_root 0 (tree_commands bs) expected refl,
    )

-- the same with the content that the bytes are read to
pub accepted_content : (S : Table) → WellFormed S → (bs : List ℕ)
    → tree_form bs ≡ passes → tree_operands (length S) bs ≡ passes → tree_expected S bs ≡ passes
    → (bs ≡ document 0 (content_of bs)) × Holds S (kind_of S 0) (content_of bs)
unfolding Conforming
accepted_content S wf bs f o e =
    let d : (k : Content) × (bs ≡ document 0 k) × Holds S (kind_of S 0) k = checks_conforming S wf bs f o e in
    let k : content_of bs ≡ d.0 = ap content_of d.1 ∙ content_of_document 0 d.0 in
    (rw k d.1, rw k d.2)
