-- What the judging checks establish, in the form in which the theorems use it. `JudgedTables` and `JudgedEmbeddings`
-- prove these facts of accepted documents; no theorem assumes more.
use Rattle.std.specs.Prelude.{◌≡◌, true, false, ℕ, suc, ◌≤◌, ◌<◌, length, T}
use mathlib.Core.List.{List, [], ◌∷◌, Memᴰ}
use Rattle.std.proofs.Math.Option.{some}
use Rattle.model.specs.Definitions.Basics.{entry}
use Rattle.model.specs.Definitions.Commands.{Need, optional}
use Rattle.model.specs.Definitions.Table.{Kind, text, empty, sequence, choice, list, Table, kind_of, members_of, step_from, is_text, is_optional}
use Rattle.model.specs.Definitions.Heights.{height_of}
use Rattle.model.specs.Definitions.Embedding.{target_of, paths_of, first_path, next, end_of, leaves, before_choice}
use Rattle.model.specs.Definitions.EmbeddingChecks.{right_steps, clash, max_steps}
use Rattle.model.specs.Definitions.Image.{Setting, Placement, placed, under}

-- ---- tables

-- a table that passes checks 2 to 5
pub record WellFormed (S : Table) : Type 0 where
  pub has_root : 0 < length S
  pub members_exist : (t m : ℕ) → Memᴰ m (members_of (kind_of S t)) → m < length S
  pub choices_choose : (t : ℕ) (need : Need) (ms : List ℕ) → kind_of S t ≡ choice need ms → 0 < length ms
  pub choices_distinct : (t : ℕ) (need : Need) (ms : List ℕ) → kind_of S t ≡ choice need ms
      → (p q m : ℕ) → entry p ms ≡ some m → entry q ms ≡ some m → p ≡ q

-- a table that passes check 6 too
pub record SoundTable (S : Table) : Type 0 where
  pub well_formed : WellFormed S
  pub finite : (t : ℕ) → t < length S → height_of S t ≤ length S

-- ---- embeddings

-- each step of a path exists
pub data Walks (T : Table) : ℕ → List ℕ → Type 0 where
  arrived : {τ : ℕ} → Walks T τ []
  onward : {τ p : ℕ} {ps : List ℕ} → step_from (kind_of T τ) p ≡ some (next T τ p) → Walks T (next T τ p) ps → Walks T τ (p ∷ ps)

-- a path from target type τ, for an edge of a source type of kind κ, has steps that exist, not too many, of the right kinds
pub record GoodPath (X : Setting) (τ : ℕ) (κ : Kind) (ps : List ℕ) : Type 0 where
  pub walks : Walks X.target τ ps
  pub short : length ps ≤ max_steps
  pub right : right_steps κ (leaves X.target τ ps) ≡ true

-- and ends at what member m is mapped to
pub record MemberPath (X : Setting) (τ : ℕ) (κ : Kind) (m : ℕ) (ps : List ℕ) : Type 0 where
  pub good : GoodPath X τ κ ps
  pub ends : end_of X.target τ ps ≡ target_of X.embedding m

-- two lists of one length, related entry by entry
pub data Along {A B : Type 0} (R : A → B → Type 0) : List A → List B → Type 0 where
  along_none : Along R [] []
  along_both : {a : A} {b : B} {xs : List A} {ys : List B} → R a b → Along R xs ys → Along R (a ∷ xs) (b ∷ ys)

-- every entry of a list
pub data All {A : Type 0} (P : A → Type 0) : List A → Type 0 where
  all_none : All P []
  all_more : {a : A} {xs : List A} → P a → All P xs → All P (a ∷ xs)

-- every two entries of a list, the earlier first
pub data Pairs {A : Type 0} (R : A → A → Type 0) : List A → Type 0 where
  pairs_none : Pairs R []
  pairs_more : {a : A} {xs : List A} → All (R a) xs → Pairs R xs → Pairs R (a ∷ xs)

-- two paths don't clash
abbrev pub Compatible : Setting → ℕ → Kind → List ℕ → List ℕ → Type 0
Compatible X τ κ ps qs = clash X.target κ τ ps qs ≡ false

-- the steps of the first path before its first choice step lead to an optional choice
abbrev pub ToOptional : Setting → ℕ → List (List ℕ) → Type 0
ToOptional X τ pss = is_optional (kind_of X.target (end_of X.target τ (before_choice X.target τ (first_path pss)))) ≡ true

-- the paths of a source type of a kind that is mapped to τ
pub data ValidEdges (X : Setting) (τ : ℕ) : Kind → List (List ℕ) → Type 0 where
  text_edge : {ps : List ℕ} → GoodPath X τ text ps → is_text (kind_of X.target (end_of X.target τ ps)) ≡ true → ValidEdges X τ text (ps ∷ [])
  no_edge : ValidEdges X τ empty []
  sequence_edges : {ms : List ℕ} {pss : List (List ℕ)}
      → Along (MemberPath X τ (sequence ms)) ms pss → Pairs (Compatible X τ (sequence ms)) pss → ValidEdges X τ (sequence ms) pss
  choice_edges : {need : Need} {ms : List ℕ} {pss : List (List ℕ)}
      → Along (MemberPath X τ (choice need ms)) ms pss → Pairs (Compatible X τ (choice need ms)) pss → (need ≡ optional → ToOptional X τ pss) → ValidEdges X τ (choice need ms) pss
  list_edge : {m : ℕ} {ps : List ℕ} → MemberPath X τ (list m) m ps → ValidEdges X τ (list m) (ps ∷ [])

-- a valid embedding between sound tables
pub record Valid (X : Setting) : Type 0 where
  pub source_sound : SoundTable X.source
  pub target_sound : SoundTable X.target
  pub root_to_root_lem : target_of X.embedding 0 ≡ 0
  pub target_exists : (s : ℕ) → s < length X.source → target_of X.embedding s < length X.target
  pub edges : (s : ℕ) → s < length X.source
      → ValidEdges X (target_of X.embedding s) (kind_of X.source s) (paths_of X.embedding s)

-- ---- placements that can be grown together

-- all paths have a first step, of which something holds
pub data Starts {A : Type 0} (ok : ℕ → Type 0) : List (Placement A) → Type 0 where
  starts_none : Starts ok []
  starts_more : {q : ℕ} {path : List ℕ} {a : A} {ps : List (Placement A)} → ok q → Starts ok ps → Starts ok (placed (q ∷ path) a ∷ ps)

-- step p leads from kind κ to type m
abbrev pub Leads : Kind → ℕ → Type 0
Leads κ p = (m : ℕ) × (step_from κ p ≡ some m)

-- `Fits T n τ ps`: below an element of type τ there is a place for all of ps, none in another's way; no path has n steps
pub data Fits {A : Type 0} (T : Table) : ℕ → ℕ → List (Placement A) → Type 0 where
  nothing_placed : {n τ : ℕ} → Fits T (suc n) τ []
  right_here : {n τ : ℕ} {a : A} → Fits T (suc n) τ (placed [] a ∷ [])
  below_sequence : {n τ q : ℕ} {path : List ℕ} {a : A} {ps : List (Placement A)} (ms : List ℕ)
      → kind_of T τ ≡ sequence ms
      → Starts (Leads (sequence ms)) (placed (q ∷ path) a ∷ ps)
      → ((p m : ℕ) → entry p ms ≡ some m → Fits T n m (under p (placed (q ∷ path) a ∷ ps)))
      → Fits T (suc n) τ (placed (q ∷ path) a ∷ ps)
  below_choice : {n τ q : ℕ} {path : List ℕ} {a : A} {ps : List (Placement A)} (need : Need) (ms : List ℕ)
      → kind_of T τ ≡ choice need ms
      → step_from (choice need ms) q ≡ some (next T τ q)
      → Starts (λ p. p ≡ q) (placed (q ∷ path) a ∷ ps)
      → Fits T n (next T τ q) (under q (placed (q ∷ path) a ∷ ps))
      → Fits T (suc n) τ (placed (q ∷ path) a ∷ ps)
  below_list : {n τ : ℕ} {path : List ℕ} {a : A} {ps : List (Placement A)} (m : ℕ)
      → kind_of T τ ≡ list m
      → Starts (λ p. p ≡ 1) (placed (1 ∷ path) a ∷ ps)
      → Fits T n m (under 1 (placed (1 ∷ path) a ∷ ps))
      → Fits T (suc n) τ (placed (1 ∷ path) a ∷ ps)
