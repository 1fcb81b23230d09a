-- 01 "Refusal answers": a check covers the whole document and reports the lowest place. What a mark says of what stands before it and
-- of what stands at it, for the checks that report one; that each check marks exactly this place is a theorem.
use Rattle.std.specs.Prelude.{◌≡◌, Bool, true, false, List, [], ◌∷◌, ◌++◌, map, ◌↔◌, ◌⊎◌, ℕ, ◌≤◌, ◌<◌, length, get_or, take, drop}
use Rattle.std.proofs.Math.Option.{some}
use Rattle.model.specs.Definitions.Basics.{fails, Next, goes, stops, reach, entry}
use Rattle.model.specs.Definitions.Commands.{table_commands, embedding_commands, tree_commands}
use Rattle.model.specs.Definitions.Table.{Kind, sequence, Table, kind_of, edges_of}
use Rattle.model.specs.Definitions.TableChecks.{no_type, table_step, table_complete, table_form, limit_step, table_limits, names_type, table_operands, elsewhere, repeat_step, table_repeats}
use Rattle.model.specs.Definitions.Conformance.{Instance}
use Rattle.model.specs.Definitions.TreeChecks.{no_root, tree_step, tree_complete, tree_form, level_step, tree_levels, operand_step, tree_operands, expect_step, tree_expected}
use Rattle.model.specs.Definitions.Embedding.{Edge, TypeMap, Embedding, no_map, embedding_of, first_path, end_of}
use Rattle.model.specs.Definitions.EmbeddingChecks.{due, embedding_step, embedding_complete, embedding_form, step_count, embedding_limits, path_step, embedding_operands, wrong_end_verdict, wrong_steps_verdict, path_clash_verdict}
use Rattle.model.specs.Definitions.ValidEmbedding.{mapping_in, EndsRight, StepsRight, NoClash, step_bytes}

-- ---- checks by a machine: 2 to 5, and 11

-- the first of the commands from some place on is refused; where there is none, the document may not end
abbrev pub Stopped : {C S : Type 0} → (S → C → Next S) → (S → Bool) → S → List C → Type 0
Stopped step complete s [] = complete s ≡ false
Stopped step complete s (c ∷ cs) = step s c ≡ stops

-- The mark of a machine that reads bytes as commands and starts in a state: the bytes before it are commands that the machine takes, one
-- after the other, and there it stops.
pub record MarkOf {C S : Type 0} (read : List ℕ → List C) (step : S → C → Next S) (complete : S → Bool) (start : S) (bs : List ℕ) (at : ℕ) : Type 0 where
  pub within : at ≤ length bs
  pub state : S
  pub before_taken : reach step start (read (take at bs)) ≡ goes state
  pub stopped_there : Stopped step complete state (read (drop at bs))

-- 2 to 5 of a table
pub record TableMarks (bs : List ℕ) : Type 0 where
  pub form : (at : ℕ) → (table_form bs ≡ fails at) ↔ MarkOf table_commands table_step table_complete no_type bs at
  pub limits : (at : ℕ) → (table_limits bs ≡ fails at) ↔ MarkOf table_commands limit_step (λ n. true) (record { types = 0; members = 0 }) bs at
  pub operands : (types at : ℕ) → (table_operands types bs ≡ fails at) ↔ MarkOf table_commands (names_type types) (λ u. true) tt bs at
  pub repeats : (at : ℕ) → (table_repeats bs ≡ fails at) ↔ MarkOf table_commands repeat_step (λ s. true) elsewhere bs at

-- 2 to 4 of an embedding of table S in table T
pub record EmbeddingMarks (S T : Table) (bs : List ℕ) : Type 0 where
  pub form : (at : ℕ) → (embedding_form S bs ≡ fails at) ↔ MarkOf embedding_commands embedding_step embedding_complete (due 0 (map edges_of S) false) bs at
  pub limits : (at : ℕ) → (embedding_limits bs ≡ fails at) ↔ MarkOf embedding_commands step_count (λ n. true) 0 bs at
  pub operands : (at : ℕ) → (embedding_operands T bs ≡ fails at) ↔ MarkOf embedding_commands (path_step T) (λ r. true) (record { start = 0; now = 0 }) bs at

-- 2 to 4 and 11 of a tree by table S
pub record TreeMarks (S : Table) (bs : List ℕ) : Type 0 where
  pub form : (at : ℕ) → (tree_form bs ≡ fails at) ↔ MarkOf tree_commands tree_step tree_complete no_root bs at
  pub limits : (at : ℕ) → (tree_levels bs ≡ fails at) ↔ MarkOf tree_commands level_step (λ n. true) 0 bs at
  pub operands : (at : ℕ) → (tree_operands (length S) bs ≡ fails at) ↔ MarkOf tree_commands (operand_step (length S)) (λ u. true) tt bs at
  pub expected : (at : ℕ) → (tree_expected S bs ≡ fails at) ↔ MarkOf tree_commands (expect_step S) (λ s. true) (sequence (0 ∷ []) ∷ []) bs at

-- ---- 6

-- the lowest type of which no conforming element exists: each lower one has one
pub record LowestWithout (T : Table) (t : ℕ) : Type 0 where
  pub exists : t < length T
  pub none_conforms : Instance T t → ⊥
  pub lower_conform : (u : ℕ) → u < t → Instance T u

-- ---- 8 to 10, by paths

-- path i of source type s stands before path j of source type t; the paths of a type are counted from 1
abbrev pub Earlier : ℕ → ℕ → ℕ → ℕ → Type 0
Earlier s i t j = (s < t) ⊎ ((s ≡ t) × (i < j))

-- what may hold of the path of an edge, with its number, of a source type of a kind that is mapped so
abbrev pub PathFact : Type 1
PathFact = Kind → TypeMap → ℕ → Edge → Type 0

-- 8: it ends where it should; 9: its steps are right; 10: it clashes with no earlier path of its type
abbrev pub RightEnd : Embedding → Table → PathFact
RightEnd E T κ f i e = EndsRight T (mapping_in E) κ i (end_of T f.target e.steps)

abbrev pub RightPath : Table → PathFact
RightPath T κ f i e = StepsRight T κ f.target (first_path (map (λ (d : Edge). d.steps) f.edges)) e.steps

abbrev pub ClashesWithNone : Table → PathFact
ClashesWithNone T κ f i e = (j : ℕ) (d : Edge) → j < i → entry j f.edges ≡ some d → NoClash T κ f.target d.steps e.steps

-- the first path that isn't right, and the offset of its 21
pub record FirstWrong (right : PathFact) (S : Table) (E : Embedding) (at : ℕ) : Type 0 where
  pub source_type : ℕ
  pub number : ℕ
  pub edge : Edge
  pub exists : source_type < length S
  pub stands : entry number (get_or E source_type no_map).edges ≡ some edge
  pub marked : at ≡ edge.at
  pub wrong : right (kind_of S source_type) (get_or E source_type no_map) number edge → ⊥
  pub earlier_right : (s i : ℕ) (e : Edge) → s < length S → entry i (get_or E s no_map).edges ≡ some e → Earlier s i source_type number
      → right (kind_of S s) (get_or E s no_map) i e

-- 8 to 10 of an embedding; at the offset of each path stand its 21 and its steps, and an earlier path has a lower offset
pub record PathMarks (S T : Table) (bs : List ℕ) : Type 0 where
  pub ends : (at : ℕ) → (wrong_end_verdict S T (embedding_of bs) ≡ fails at) ↔ FirstWrong (RightEnd (embedding_of bs) T) S (embedding_of bs) at
  pub steps : (at : ℕ) → (wrong_steps_verdict S T (embedding_of bs) ≡ fails at) ↔ FirstWrong (RightPath T) S (embedding_of bs) at
  pub clashes : (at : ℕ) → (path_clash_verdict S T (embedding_of bs) ≡ fails at) ↔ FirstWrong (ClashesWithNone T) S (embedding_of bs) at
  pub stands_there : (s i : ℕ) (e : Edge) → entry i (get_or (embedding_of bs) s no_map).edges ≡ some e
      → (rest : List ℕ) × (drop e.at bs ≡ 0x21 ∷ (step_bytes e.steps ++ rest))
  pub in_order : (s i : ℕ) (d : Edge) (t j : ℕ) (e : Edge) → entry i (get_or (embedding_of bs) s no_map).edges ≡ some d → entry j (get_or (embedding_of bs) t no_map).edges ≡ some e
      → Earlier s i t j → d.at < e.at
