-- An element is read by its children, and a text by its characters.
use mathlib.Core.Path.{◌≡◌, refl, ap, ap₂, ◌∙◌}
use mathlib.Core.List.{List}
use mathlib.Core.Option.{none}
use Prim.Native.Nat.{ℕ, zero, suc, ◌+◌, ◌-◌, ◌*◌, ◌<◌}
use native.Mathlib.Omega.{arith}
use lib.ListN.{get_or}
use Rattle.model.specs.Definitions.Table.{Kind, kind_of}
use Rattle.model.specs.Definitions.Embedding.{target_of, paths_of}
use Rattle.model.specs.Definitions.Image.{Setting}
use Rattle.model.specs.Definitions.Inverse.{Located, opened_at, follow_at, child_parts, content_read, read_kind, read_to}
use Rattle.model.proofs.Theorems.ReadsPlain.{held_at, plain_parts, children_read_lem, characters_read, by_children}
use Rattle.loaded_table.specs.Loaded.{types_in, kinds_of}
use Rattle.loaded_embedding.specs.Loaded.{targets_of}
use Rattle.loaded_setting.specs.Ready.{setting_in, Ready}
use Rattle.paths.specs.Following.{path_at}
use Rattle.paths.specs.Edges.{target_is, no_text, is_text_lem, text_path}
use Rattle.inverse.specs.Reading.{read_as}

-- with no level left nothing is read
pub read_zero : (X : Setting) (n σ : ℕ) (l : Located) → n ≡ 0 → read_as X n σ l ≡ none
unfolding read_to content_read
read_zero X n σ l e = rw e

-- else an element is read by its kind, its children with one level less
read_level : (X : Setting) (n σ : ℕ) (l : Located) → (n ≡ 0 → ⊥)
    → read_to X n σ l ≡ read_kind (λ t inside. read_to X (n - 1) t inside) X.target (kind_of X.source σ) (target_of X.embedding σ) (paths_of X.embedding σ) l
unfolding read_to
read_level X zero σ l other = absurd (other refl)
read_level X (suc n) σ l other = let less : suc n - 1 ≡ n = omega arith in rw less

module _ {source target map em : List ℕ} (ready : Ready source target map em) {σ : ℕ} (exists : σ < types_in source) (n : ℕ) (some_level : n ≡ 0 → ⊥) where
  abbrev X : Setting
  X = setting_in source target map em

  -- an element that is no text
  pub read_children_lem : (get_or (kinds_of source) σ 0 ≡ 0 → ⊥) → (l : Located) → read_as X n σ l ≡ plain_parts (λ m a. read_as X (n - 1) m a) (child_parts X σ l)
  read_children_lem other l =
      ap content_read
      (read_level X n σ l some_level
      ∙ by_children (λ m a. read_to X (n - 1) m a) X.target (kind_of X.source σ) (target_of X.embedding σ) (paths_of X.embedding σ) l (no_text ready exists other))
      ∙ children_read_lem (λ m a. read_to X (n - 1) m a) (opened_at l) (child_parts X σ l)

  -- a text
  pub read_text : get_or (kinds_of source) σ 0 ≡ 0 → (l : Located) → read_as X n σ l ≡ held_at (follow_at X.target (get_or (targets_of map) σ 0) (path_at em map (σ * 16 + 0)) l)
  unfolding read_kind
  read_text code l =
      ap content_read
      (read_level X n σ l some_level
      ∙ ap (λ (κ : Kind). read_kind (λ m a. read_to X (n - 1) m a) X.target κ (target_of X.embedding σ) (paths_of X.embedding σ) l) (is_text_lem ready exists code))
      ∙ characters_read (opened_at l) _
      ∙ ap₂ (λ (q : ℕ) (path : List ℕ). held_at (follow_at X.target q path l)) (target_is ready exists) (text_path ready exists code)
