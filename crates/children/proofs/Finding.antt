-- A child that was found or is missing, as the first of the children.
use mathlib.Core.Path.{◌≡◌, refl, ap, ◌∙◌, subst}
use mathlib.Core.List.{List}
use mathlib.Core.Option.{Option, none, some}
use Prim.Native.Nat.{ℕ, ◌<◌}
use native.Mathlib.Omega.{arith}
use lib.ListN.{length, get_or}
use Rattle.model.specs.Definitions.Content.{Content, end, char, elem}
use Rattle.model.proofs.Theorems.Tools.{some_none}
use Rattle.scanning.specs.Scanning.{ContentAt}
use Rattle.scanning.specs.Finding.{FoundContent}
use Rattle.scanning.specs.Laws.{content_within, end_first, ends}
use Rattle.model.specs.Definitions.Inverse.{Located, located, Parts, done, broken, part, part_of, if_there, unless_empty, optional_parts}

-- a child that must be there
pub part_none : (m : ℕ) (rest : Parts) {o : Option Located} → o ≡ none → part_of m o rest ≡ broken
unfolding part_of
part_none m rest e = rw e

pub part_some : (m : ℕ) (rest : Parts) {o : Option Located} (l : Located) → o ≡ some l → part_of m o rest ≡ part m l rest
unfolding part_of
part_some m rest l e = rw e

-- a child that may be there
pub there_none : (m : ℕ) (rest : Parts) {o : Option Located} → o ≡ none → if_there m o rest ≡ rest
unfolding if_there
there_none m rest e = rw e

pub there_some : (m : ℕ) (rest : Parts) {o : Option Located} (l : Located) → o ≡ some l → if_there m o rest ≡ part m l done
unfolding if_there
there_some m rest l e = rw e

-- what was found stands in the document
pub found_within : {tr : List ℕ} {o : ℕ} {sought : Option Located} → FoundContent tr o sought → o < length tr
found_within found = omega (arith, content_within found.there)

-- ---- the member of an optional choice

-- the place where it would be is there and empty: the 32 of its end stands there
pub empty_found : (member : Parts) {tr : List ℕ} {o : ℕ} {sought : Option Located} → FoundContent tr o sought → get_or tr o 0 ≡ 0x32 → optional_parts sought member ≡ done
unfolding optional_parts unless_empty
empty_found member found first =
    let at_end : found.content ≡ end = ends found.content found.there (λ other. absurd (omega arith)) (λ other. absurd (omega arith)) in
    rw (found.is, at_end)

-- what was found is not empty
abbrev pub NotEmpty : Option Located → Type 0
NotEmpty sought = (l : Located) → sought ≡ some l → l.holds ≡ end → ⊥

-- so the member is there
pub unless_not : (member : Parts) (sought : Option Located) → NotEmpty sought → optional_parts sought member ≡ member
unfolding optional_parts
unless_not member none other = refl
unless_not member (some l) other = go l.holds refl
  where
    go : (k : Content) → l.holds ≡ k → unless_empty l.holds member ≡ member
    go end e = absurd (other l refl e)
    go (char c r) e = unfold unless_empty in rw e refl
    go (elem t k r) e = unfold unless_empty in rw e refl

-- what is not there is not empty
pub missing_not : {sought : Option Located} → sought ≡ none → NotEmpty sought
missing_not miss l is at_end = some_none is miss

-- nor is what does not close at once
pub held_not : {tr : List ℕ} {o : ℕ} {sought : Option Located} → FoundContent tr o sought → (get_or tr o 0 ≡ 0x32 → ⊥) → NotEmpty sought
held_not {tr} {o} found other l is at_end =
    let same : located o found.content ≡ l = cc in
    let empty : found.content ≡ end = ap (λ (a : Located). a.holds) same ∙ at_end in
    other (end_first (subst (ContentAt tr o) empty found.there))
