-- The terms in which `Statements` speaks of documents as bytes.
use Rattle.std.specs.Prelude.{◌≡◌, List, ℕ, suc}
use Rattle.model.specs.Definitions.Table.{table_of}
use Rattle.model.specs.Definitions.Content.{document, content_of, levels}
use Rattle.model.specs.Definitions.Conformance.{Conforming}
use Rattle.model.specs.Definitions.Image.{image, image_filler}
use Rattle.model.specs.Definitions.Entries.{accepted, judge_table, judge_embedding, judge_tree, setting_of}

-- accepted by the entries themselves
abbrev pub AcceptedTable : List ℕ → Type 0
AcceptedTable t = (n : ℕ) × (judge_table t ≡ accepted n 0)

abbrev pub AcceptedEmbedding : List ℕ → List ℕ → List ℕ → Type 0
AcceptedEmbedding s t e = (n : ℕ) × (judge_embedding s t e ≡ accepted n 0)

abbrev pub AcceptedTree : List ℕ → List ℕ → Type 0
AcceptedTree t d = (n : ℕ) × (judge_tree t d ≡ accepted n 0)

-- the image of a document under tables s and t and embedding e: its bytes, and its number of filler elements
abbrev pub image_of : List ℕ → List ℕ → List ℕ → List ℕ → List ℕ
image_of s t e d = document 0 (image (setting_of s t e) (content_of d))

abbrev pub filler_of : List ℕ → List ℕ → List ℕ → List ℕ → ℕ
filler_of s t e d = image_filler (setting_of s t e) (content_of d)

-- no conforming source document has this one as its image
abbrev pub NoSource : List ℕ → List ℕ → List ℕ → List ℕ → Type 0
NoSource s t e tr = (d : List ℕ) → Conforming (table_of s) d → image_of s t e d ≡ tr → ⊥

-- a document's levels; the root is level 1
abbrev pub levels_in : List ℕ → ℕ
levels_in d = suc (levels (content_of d))
