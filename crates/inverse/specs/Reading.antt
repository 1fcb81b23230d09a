-- What the functions that read a source element from its image give.
use Rattle.std.specs.Prelude.{◌≡◌, List, ℕ, ◌+◌, ◌≤◌, ◌<◌, length, Option, MatchOption}
use Rattle.std.proofs.Math.Option as model
use Rattle.model.specs.Definitions.Basics.{and_then}
use Rattle.model.specs.Definitions.Content.{Content, end, elem, bytes, document}
use Rattle.model.specs.Definitions.Image.{Setting}
use Rattle.model.specs.Definitions.Inverse.{Located, content_read, read_to}
use Rattle.writing.specs.Writing.{Writes}

-- what a source element of type σ is read as, if it can be, from the target element that stands for it; n is more than that one's levels
abbrev pub read_as : Setting → ℕ → ℕ → Located → model.Option Content
read_as X n σ l = content_read (read_to X n σ l)

-- the element of type m that holds what is sought
abbrev pub element_of : ℕ → model.Option Content → model.Option Content
element_of m sought = and_then sought (λ inside. model.some (elem m inside end))

-- the content that is sought is written at offset `at`, up to offset e
pub record ReadsTo (old new : List ℕ) (at e : ℕ) (sought : model.Option Content) : Type 0 where
  pub content : Content
  pub is : sought ≡ model.some content
  pub written : Writes old new at (bytes content) e
  pub fits : e ≤ length old

-- or there is none, or it doesn't fit the buffer
abbrev pub ReadsInto : List ℕ → List ℕ → ℕ → Option ℕ → model.Option Content → Type 0
ReadsInto old new at answer sought =
    MatchOption answer ((j : Content) → sought ≡ model.some j → length old < at + length (bytes j)) (λ e. ReadsTo old new at e sought)

-- ---- a whole document

-- the document that is sought is written from the start on, up to offset e
pub record BringsTo (old new : List ℕ) (e : ℕ) (sought : model.Option Content) : Type 0 where
  pub content : Content
  pub is : sought ≡ model.some content
  pub written : Writes old new 0 (document 0 content) e
  pub fits : e ≤ length old

-- or there is none, or it doesn't fit the buffer
abbrev pub BringsRead : List ℕ → List ℕ → Option ℕ → model.Option Content → Type 0
BringsRead old new answer sought =
    MatchOption answer ((j : Content) → sought ≡ model.some j → length old < length (document 0 j)) (λ e. BringsTo old new e sought)
