-- 01 "The image and the filler", first paragraph; 000 section 4.2: the image of a source document under an embedding.
use Rattle.std.specs.Prelude.{Bool, true, false, List, [], ◌∷◌, ℕ, zero, suc, ◌+◌, eqb}
use Rattle.std.proofs.Math.Option.{none}
use Rattle.model.specs.Definitions.Basics.{pick}
use Rattle.model.specs.Definitions.Table.{Kind, text, empty, sequence, choice, list, Table, kind_of}
use Rattle.model.specs.Definitions.Content.{Content, end, char, elem}
use Rattle.model.specs.Definitions.Embedding.{Embedding, target_of, paths_of, first_path, next, divide, Divided, before_choice}
use Rattle.model.specs.Definitions.EmbeddingChecks.{max_steps}
use Rattle.model.specs.Definitions.Filler.{Builder, content, levels_of, length_of, fillers_of, known, fillers}

-- source table, target table, and the embedding of the first in the second
pub record Setting : Type 0 where
  pub source : Table
  pub target : Table
  pub embedding : Embedding

-- ---- content placed along paths

-- something that stands at the end of a path
pub data Placement (A : Type 0) : Type 0 where
  placed : List ℕ → A → Placement A

-- the placements whose path begins with step p, that step taken off
unfoldable pub beyond : {A : Type 0} → ℕ → List ℕ → A → List (Placement A) → List (Placement A)
beyond p [] a rest = rest
beyond p (q ∷ path) a rest = pick (eqb p q) (placed path a ∷ rest) rest

unfoldable pub under : {A : Type 0} → ℕ → List (Placement A) → List (Placement A)
under p [] = []
under p (placed path a ∷ ps) = beyond p path a (under p ps)

unfoldable pub is_placed : {A : Type 0} → List (Placement A) → Bool
is_placed [] = false
is_placed (p ∷ ps) = true

-- The members of a sequence from member number p on: each holds what is placed under its step, `inside` of it; one with
-- nothing placed there is filler.
unfoldable pub grow_members : {A : Type 0} → Builder A → (ℕ → List (Placement A) → A) → List (Placement A) → ℕ → List ℕ → A
grow_members B inside ps p [] = B.none
grow_members B inside ps p (m ∷ ms) =
    B.element (is_placed (under p ps)) m (inside m (under p ps)) (grow_members B inside ps (suc p) ms)

-- What an element of kind κ holds when something is placed below it, the first of it by way of step p: all members of a
-- sequence; the member p of a choice; one item of a list. Paths share the elements of a common beginning.
unfoldable pub grow_kind : {A : Type 0} → Builder A → (ℕ → List (Placement A) → A) → List (Placement A) → ℕ → (τ : ℕ) → Kind → A
grow_kind B inside ps p τ text = B.none
grow_kind B inside ps p τ empty = B.none
grow_kind B inside ps p τ (sequence ms) = grow_members B inside ps 1 ms
grow_kind B inside ps p τ (choice need ms) = B.element true τ (inside τ (under p ps)) B.none
grow_kind B inside ps p τ (list m) = B.element true m (inside m (under p ps)) B.none

-- What a target element of type τ holds, given what is placed below it: what stands right at it; else by its kind; with
-- nothing placed, filler, found in fs. The first argument bounds the length of the paths.
unfoldable pub grow : {A : Type 0} → Builder A → Table → List A → ℕ → ℕ → List (Placement A) → A
grow B T fs zero τ ps = B.none
grow B T fs (suc n) τ [] = known B fs τ
grow B T fs (suc n) τ (placed [] a ∷ ps) = a
grow B T fs (suc n) τ (placed (p ∷ path) a ∷ ps) =
    grow_kind B (λ m qs. grow B T fs n m qs) (placed (p ∷ path) a ∷ ps) p (next T τ p) (kind_of T τ)

unfoldable pub place : {A : Type 0} → Builder A → Table → List A → ℕ → List (Placement A) → A
place B T fs τ ps = grow B T fs (suc max_steps) τ ps

-- ---- the image of one source element, from those of its children

-- a child of a source element: a character, or an element's type with what its image holds
pub data Child (A : Type 0) : Type 0 where
  letter : ℕ → Child A
  element : ℕ → A → Child A

-- the characters of a text
unfoldable pub letters_of : {A : Type 0} → Builder A → List (Child A) → A
letters_of B [] = B.none
letters_of B (letter c ∷ ks) = B.letter c (letters_of B ks)
letters_of B (element t a ∷ ks) = letters_of B ks

-- each member of a sequence along its own path
unfoldable pub along_paths : {A : Type 0} → List (List ℕ) → List (Child A) → List (Placement A)
along_paths [] ks = []
along_paths (p ∷ ps) [] = []
along_paths (p ∷ ps) (letter c ∷ ks) = []
along_paths (p ∷ ps) (element t a ∷ ks) = placed p a ∷ along_paths ps ks

-- the path of the member of type t in a choice
unfoldable pub path_of_member : ℕ → List ℕ → List (List ℕ) → List ℕ
path_of_member t [] ps = []
path_of_member t (m ∷ ms) [] = []
path_of_member t (m ∷ ms) (p ∷ ps) = pick (eqb t m) p (path_of_member t ms ps)

-- The one member of a choice along its path. Where an optional choice holds nothing (02, N3), the path is built up to the optional
-- choice that all paths agree on, which stands at the end of `shared` and is left empty.
unfoldable pub along_choice : {A : Type 0} → Builder A → List ℕ → List ℕ → List (List ℕ) → List (Child A) → List (Placement A)
along_choice B shared ms ps [] = placed shared B.none ∷ []
along_choice B shared ms ps (letter c ∷ ks) = placed shared B.none ∷ []
along_choice B shared ms ps (element t a ∷ ks) = placed (path_of_member t ms ps) a ∷ []

-- one target item for each source item, in order, with the rest of the path built under each
unfoldable pub items_of : {A : Type 0} → Builder A → (List (Placement A) → A) → Divided → List (Child A) → A
items_of B inside d [] = B.none
items_of B inside d (letter c ∷ ks) = items_of B inside d ks
items_of B inside d (element t a ∷ ks) = B.element true d.item (inside (placed d.rest a ∷ [])) (items_of B inside d ks)

unfoldable pub along_list : {A : Type 0} → Builder A → Table → List A → Divided → List (Child A) → List (Placement A)
along_list B T fs d ks = placed d.before (items_of B (place B T fs d.item) d ks) ∷ []

-- A source element of kind κ, its image of type τ, the paths of its edges, its children: what is placed below the image.
-- For a source list, the first list on its path receives the items, and the path is built up to it even for none;
-- characters go to the end of their path, which is built even for none.
unfoldable pub placements : {A : Type 0} → Builder A → Table → List A → Kind → ℕ → List (List ℕ) → List (Child A) → List (Placement A)
placements B T fs text τ ps ks = placed (first_path ps) (letters_of B ks) ∷ []
placements B T fs empty τ ps ks = []
placements B T fs (sequence ms) τ ps ks = along_paths ps ks
placements B T fs (choice need ms) τ ps ks = along_choice B (before_choice T τ (first_path ps)) ms ps ks
placements B T fs (list m) τ ps ks = along_list B T fs (divide T τ (first_path ps)) ks

-- what the image of a source element of type s holds
unfoldable pub image_of_element : {A : Type 0} → Builder A → Setting → List A → ℕ → List (Child A) → A
image_of_element B X fs s ks =
    place B X.target fs (target_of X.embedding s)
    (placements B X.target fs (kind_of X.source s) (target_of X.embedding s) (paths_of X.embedding s) ks)

-- ---- the image of a document

-- the children that some source content stands for, each with what its image holds
unfoldable pub children : {A : Type 0} → Builder A → Setting → List A → Content → List (Child A)
children B X fs end = []
children B X fs (char c r) = letter c ∷ children B X fs r
children B X fs (elem t k r) = element t (image_of_element B X fs t (children B X fs k)) ∷ children B X fs r

-- the image of a root element of type 0 that holds k; the source root becomes the target root
unfoldable pub image_by : {A : Type 0} → Builder A → Setting → Content → A
image_by B X k =
    let fs = fillers B X.target in
    image_of_element B X fs 0 (children B X fs k)

-- what the root of the image holds
unfoldable pub image : Setting → Content → Content
image X k = image_by content X k

-- ---- measures that don't build the image

-- levels of the image; the root is level 1
unfoldable pub image_levels : Setting → Content → ℕ
image_levels X k = suc (image_by levels_of X k)

-- bytes of the image's document: the root element's 3 and the 1 that ends it
unfoldable pub image_length : Setting → Content → ℕ
image_length X k = image_by length_of X k + 4

-- filler elements of the image: those that no path builds; the root isn't filler
unfoldable pub image_filler : Setting → Content → ℕ
image_filler X k = image_by fillers_of X k
