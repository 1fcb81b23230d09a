-- 01 "Which embeddings are valid" and "Three kinds of document", Embedding (of optional choices 02, N3; of lists on the paths of
-- choices 02, N6); 000 section 4.1: which embeddings are valid, without offsets and without an order of checks, and the bytes that
-- write one. `EmbeddingChecks` has the checks; that a byte string passes them exactly where it is `embedding_bytes` of a valid
-- embedding is a theorem. The limit is 01's number, not the name that the check uses.
use Rattle.std.specs.Prelude.{◌≡◌, Bool, true, ◌⊎◌, ℕ, ◌≤◌, ◌<◌, length, get_or}
use mathlib.Core.List.{List, [], ◌∷◌, ◌++◌, map, Memᴰ}
use Rattle.std.proofs.Math.Option.{some}
use Rattle.model.specs.Definitions.Basics.{entry}
use Rattle.model.specs.Definitions.Commands.{needed, optional}
use Rattle.model.specs.Definitions.Table.{Kind, text, empty, sequence, choice, list, Table, kind_of, edges_of, step_from, is_text, is_sequence, is_choice, is_optional, is_list}
use Rattle.model.specs.Definitions.Embedding.{Edge, TypeMap, Embedding, embedding_of, first_path, end_of, leaves, before_choice}

-- ---- an embedding without offsets

-- what a source type is mapped to, and the path of each of its edges, in order
pub record MappedType : Type 0 where
  pub target : ℕ
  pub paths : List (List ℕ)

-- for each source type, in order
abbrev pub PathMapping : Type 0
PathMapping = List MappedType

unfoldable pub unmapped : MappedType
unmapped = record { target = 0; paths = [] }

-- the target type that source type s is mapped to
unfoldable pub mapped_to : PathMapping → ℕ → ℕ
mapped_to M s = (get_or M s unmapped).target

-- the same as a document writes it, the offsets of the 21s left out
unfoldable pub without_offsets : TypeMap → MappedType
without_offsets f = record { target = f.target; paths = map (λ (e : Edge). e.steps) f.edges }

unfoldable pub mapping_in : Embedding → PathMapping
mapping_in E = map without_offsets E

unfoldable pub mapping_of : List ℕ → PathMapping
mapping_of bs = mapping_in (embedding_of bs)

-- ---- one path

-- each step exists, from the type reached so far
unfoldable pub StepsExist : Table → ℕ → List ℕ → Type 0
StepsExist T τ [] = Unit {0}
StepsExist T τ (p ∷ ps) = (m : ℕ) × (step_from (kind_of T τ) p ≡ some m) × StepsExist T m ps

-- A member's or item's path ends at the type that this member or item is mapped to; a character path ends at a text type. The
-- path is that of edge i, counted from 1, of a source type of kind κ, and ends at type σ.
unfoldable pub EndsRight : Table → PathMapping → Kind → ℕ → ℕ → Type 0
EndsRight T M text i σ = is_text (kind_of T σ) ≡ true
EndsRight T M empty i σ = Unit {0}
EndsRight T M (sequence ms) i σ = (m : ℕ) → entry i ms ≡ some m → σ ≡ mapped_to M m
EndsRight T M (choice need ms) i σ = (m : ℕ) → entry i ms ≡ some m → σ ≡ mapped_to M m
EndsRight T M (list m) i σ = σ ≡ mapped_to M m

-- each of the kinds is one of those named; at least one is
unfoldable pub Each : (Kind → Type 0) → List Kind → Type 0
Each P κs = (κ : Kind) → Memᴰ κ κs → P κ

unfoldable pub AtLeastOne : (Kind → Type 0) → List Kind → Type 0
AtLeastOne P κs = (κ : Kind) × Memᴰ κ κs × P κ

abbrev pub SequenceOrList : Kind → Type 0
SequenceOrList κ = (is_sequence κ ≡ true) ⊎ (is_list κ ≡ true)

abbrev pub AnyWithSteps : Kind → Type 0
AnyWithSteps κ = (is_sequence κ ≡ true) ⊎ (is_choice κ ≡ true) ⊎ (is_list κ ≡ true)

-- the first choice of either kind is an optional one (02, N3)
unfoldable pub FirstChoiceOptional : List Kind → Type 0
FirstChoiceOptional κs =
    (before : List Kind) × (κ : Kind) × (behind : List Kind) × (κs ≡ before ++ κ ∷ behind) × Each (λ κ. is_choice κ ≡ true → ⊥) before × (is_optional κ ≡ true)

-- Which kinds the steps of a path leave, by the kind of the source type. From a sequence: one or more steps, each leaving a
-- sequence or a list; a character path: the same steps, or none. From a choice: steps leaving sequences, choices of either kind
-- and lists (02, N6), at least one leaving a choice; from an optional choice (02, N3): the same, and the first choice step leaves
-- an optional choice. From a list: steps leaving sequences and lists, at least one leaving a list.
unfoldable pub RightKinds : Kind → List Kind → Type 0
RightKinds text κs = Each SequenceOrList κs
RightKinds empty κs = Unit {0}
RightKinds (sequence ms) κs = (1 ≤ length κs) × Each SequenceOrList κs
RightKinds (choice needed ms) κs = Each AnyWithSteps κs × AtLeastOne (λ κ. is_choice κ ≡ true) κs
RightKinds (choice optional ms) κs = Each AnyWithSteps κs × FirstChoiceOptional κs
RightKinds (list m) κs = Each SequenceOrList κs × AtLeastOne (λ κ. is_list κ ≡ true) κs

-- the steps of a path from target type τ are right: those of an optional choice also agree with the type's first path up to the
-- first choice step
pub record StepsRight (T : Table) (κ : Kind) (τ : ℕ) (first ps : List ℕ) : Type 0 where
  pub right_kinds : RightKinds κ (leaves T τ ps)
  pub agree : is_optional κ ≡ true → before_choice T τ ps ≡ before_choice T τ first

-- ---- two paths

-- one path is a beginning of another
unfoldable pub BeginningOf : List ℕ → List ℕ → Type 0
BeginningOf ps qs = (rest : List ℕ) × (qs ≡ ps ++ rest)

-- neither is a beginning of the other, and they differ
pub record Apart (ps qs : List ℕ) : Type 0 where
  pub not_beginning : BeginningOf ps qs → ⊥
  pub not_continuation : BeginningOf qs ps → ⊥
  pub differ : ps ≡ qs → ⊥

-- the first step where two paths from target type τ differ leaves an element of a kind for which a test holds
pub record PartAt (test : Kind → Bool) (T : Table) (τ : ℕ) (ps qs : List ℕ) : Type 0 where
  pub shared : List ℕ
  pub p : ℕ
  pub q : ℕ
  pub behind_p : List ℕ
  pub behind_q : List ℕ
  pub one : ps ≡ shared ++ p ∷ behind_p
  pub other : qs ≡ shared ++ q ∷ behind_q
  pub differ_here : p ≡ q → ⊥
  pub leaves_such : test (kind_of T (end_of T τ shared)) ≡ true

-- the paths of two members of a source type of kind κ; those of a choice of either kind part where such a choice is left
unfoldable pub NoClash : Table → Kind → ℕ → List ℕ → List ℕ → Type 0
NoClash T text τ ps qs = Unit {0}
NoClash T empty τ ps qs = Unit {0}
NoClash T (sequence ms) τ ps qs = Apart ps qs
NoClash T (choice need ms) τ ps qs = Apart ps qs × PartAt is_choice T τ ps qs
NoClash T (list m) τ ps qs = Unit {0}

-- ---- valid embeddings

-- the path of edge i, counted from 1, of a source type of kind κ that f maps
pub record ValidPath (T : Table) (M : PathMapping) (κ : Kind) (f : MappedType) (i : ℕ) (ps : List ℕ) : Type 0 where
  pub at_most_12 : length ps ≤ 12
  pub steps_exist : StepsExist T f.target ps
  pub ends_right : EndsRight T M κ i (end_of T f.target ps)
  pub steps_right_lem : StepsRight T κ f.target (first_path f.paths) ps

-- a source type of kind κ that f maps: to a type that exists, with a valid path for each edge, no two of which clash
pub record ValidType (T : Table) (M : PathMapping) (κ : Kind) (f : MappedType) : Type 0 where
  pub target_exists : f.target < length T
  pub path_an_edge : length f.paths ≡ edges_of κ
  pub valid_paths : (i : ℕ) (ps : List ℕ) → entry i f.paths ≡ some ps → ValidPath T M κ f i ps
  pub no_clash : (i j : ℕ) (ps qs : List ℕ) → i < j → entry i f.paths ≡ some ps → entry j f.paths ≡ some qs → NoClash T κ f.target ps qs

-- an embedding of table S in table T: it maps each source type, and the root to the root
pub record ValidEmbedding (S T : Table) (M : PathMapping) : Type 0 where
  pub maps_each_type : length M ≡ length S
  pub root_to_root_lem : mapped_to M 0 ≡ 0
  pub valid_types : (s : ℕ) → s < length S → ValidType T M (kind_of S s) (get_or M s unmapped)

-- ---- the bytes of an embedding

-- 22 p, for each step
unfoldable pub step_bytes : List ℕ → List ℕ
step_bytes [] = []
step_bytes (p ∷ ps) = 0x22 ∷ p ∷ step_bytes ps

-- 21 and its steps, for each edge
unfoldable pub path_bytes : List (List ℕ) → List ℕ
path_bytes [] = []
path_bytes (ps ∷ pss) = 0x21 ∷ (step_bytes ps ++ path_bytes pss)

-- 20 t and its paths, for each source type; 2F ends the embedding
unfoldable pub embedding_bytes : PathMapping → List ℕ
embedding_bytes [] = 0x2F ∷ []
embedding_bytes (f ∷ M) = 0x20 ∷ f.target ∷ (path_bytes f.paths ++ embedding_bytes M)
