-- 02, N9 "Tell the designer why paths clash": for an embedding refused with 10, the two members whose paths clash, the number of steps
-- that they share, and the reason; for any other, the judging answer. The numbers are those of the C entry.
use Rattle.std.specs.Prelude.{◌≡◌, true, List, ℕ, suc, ◌≤◌, ◌<◌, length, get_or, eqb}
use Rattle.std.proofs.Math.Option.{Option, none, some}
use Rattle.model.specs.Definitions.Basics.{pick, and_then, first_found, entry}
use Rattle.model.specs.Definitions.Table.{Kind, Table, kind_of, is_sequence, is_choice, table_of}
use Rattle.model.specs.Definitions.Embedding.{Edge, TypeMap, Embedding, no_map, target_of, edge_of, embedding_of, parting}
use Rattle.model.specs.Definitions.EmbeddingChecks.{Reason, equal_paths, earlier_begins, later_begins, part_at_sequence, clash_reason}
use Rattle.model.specs.Definitions.ValidEmbedding.{BeginningOf, PartAt, NoClash}
use Rattle.model.specs.Definitions.Marks.{Earlier, ClashesWithNone}
use Rattle.model.specs.Definitions.Refusals.{path_clash, embedding, faulty}
use Rattle.model.specs.Definitions.Entries.{Result, refused, Answer, answer_of, judge_embedding}

-- ---- which paths clash

-- two members of a source type whose paths clash, counted from 1; the number of steps that the paths share; the reason; and the offset
-- of the later path's 21, which refusal 10 marks
pub record Clash : Type 0 where
  pub source_type : ℕ
  pub earlier : ℕ
  pub later : ℕ
  pub shared : ℕ
  pub reason : Reason
  pub mark : ℕ

-- the clash of members i and j, counted from 0, of source type s that f maps, for a reason
unfoldable pub clash_for : Table → TypeMap → ℕ → ℕ → ℕ → Reason → Clash
clash_for T f s j i why =
    record {
      source_type = s;
      earlier = suc i;
      later = suc j;
      shared = (parting T f.target (edge_of f i).steps (edge_of f j).steps).shared;
      reason = why;
      mark = (edge_of f j).at;
    }

-- the same for the reason for which their paths clash, if they do; the source type is of kind κ
unfoldable pub pair_clash : Table → Kind → TypeMap → ℕ → ℕ → ℕ → Option Clash
pair_clash T κ f s j i =
    and_then (clash_reason κ (parting T f.target (edge_of f i).steps (edge_of f j).steps).behind) λ why.
    some (clash_for T f s j i why)

-- "the earlier is the first it clashes with": member j compared with those before it
unfoldable pub clash_before : Table → Kind → TypeMap → ℕ → ℕ → Option Clash
clash_before T κ f s j = first_found (pair_clash T κ f s j) 0 j

-- the first member of a source type that clashes with an earlier one
unfoldable pub clash_of_type : Table → Kind → TypeMap → ℕ → Option Clash
clash_of_type T κ f s = first_found (clash_before T κ f s) 0 (length f.edges)

-- "the later member is the one marked": that of the first source type that has such a member
unfoldable pub clash_of : Table → Table → Embedding → Option Clash
clash_of S T E = first_found (λ s. clash_of_type T (kind_of S s) (get_or E s no_map) s) 0 (length S)

-- ---- explaining

-- the clash; or there is none to explain, with the judging answer inside
pub data Explanation : Type 0 where
  explained : Clash → Explanation
  unexplained : Result → Explanation

-- what was found, or the judging answer
unfoldable pub explanation : Result → Option Clash → Explanation
explanation answer none = unexplained answer
explanation answer (some c) = explained c

-- For an embedding refused with 10 the clash; for any other, that there is none to explain.
unfoldable pub explain : List ℕ → List ℕ → List ℕ → Explanation
explain source target em =
    let answer = judge_embedding source target em in
    pick (eqb (answer_of answer).refusal 10) (explanation answer (clash_of (table_of source) (table_of target) (embedding_of em))) (unexplained answer)

-- ---- numbers

-- reasons by number, as the C entry gives them; 0 is for nothing to explain
unfoldable pub reason_number : Reason → ℕ
reason_number equal_paths = 1
reason_number earlier_begins = 2
reason_number later_begins = 3
reason_number part_at_sequence = 4

-- the numbers of an explanation, as the C entry gives them: those of the judging answer, then five that are 0 where nothing is explained
pub record ExplanationNumbers : Type 0 where
  pub answer : Answer
  pub reason : ℕ
  pub source_type : ℕ
  pub earlier : ℕ
  pub later : ℕ
  pub shared : ℕ

unfoldable pub explanation_numbers : Explanation → ExplanationNumbers
explanation_numbers (explained c) =
    record {
      answer = answer_of (refused (faulty embedding (path_clash c.mark)));
      reason = reason_number c.reason;
      source_type = c.source_type;
      earlier = c.earlier;
      later = c.later;
      shared = c.shared;
    }
explanation_numbers (unexplained answer) =
    record { answer = answer_of answer; reason = 0; source_type = 0; earlier = 0; later = 0; shared = 0 }

-- ---- what an explanation says

-- one path is a shorter beginning of another
unfoldable pub ShorterBeginning : List ℕ → List ℕ → Type 0
ShorterBeginning ps qs = BeginningOf ps qs × (length ps < length qs)

-- a reason holds of two paths from target type τ, an earlier and a later one
unfoldable pub ReasonHolds : Table → ℕ → List ℕ → List ℕ → Reason → Type 0
ReasonHolds T τ ps qs equal_paths = ps ≡ qs
ReasonHolds T τ ps qs earlier_begins = ShorterBeginning ps qs
ReasonHolds T τ ps qs later_begins = ShorterBeginning qs ps
ReasonHolds T τ ps qs part_at_sequence = PartAt is_sequence T τ ps qs

-- two paths share n steps: their longest common beginning has n
pub record SharesSteps (n : ℕ) (ps qs : List ℕ) : Type 0 where
  pub common : List ℕ
  pub number : length common ≡ n
  pub begins_one : BeginningOf common ps
  pub begins_other : BeginningOf common qs
  pub longest : (other : List ℕ) → BeginningOf other ps → BeginningOf other qs → length other ≤ n

-- A clash named by an explanation: the two members exist, the earlier stands before the later, and the later one's 21 is marked. The
-- later is the first path of the document that clashes with an earlier one of its type, and the earlier is the first that it clashes
-- with. The reason holds of their paths, and no other does; a parting at a sequence is a reason for members of a choice only.
pub record Explains (S T : Table) (E : Embedding) (c : Clash) : Type 0 where
  pub type_exists : c.source_type < length S
  pub one : Edge
  pub other : Edge
  pub earlier_stands : entry c.earlier (get_or E c.source_type no_map).edges ≡ some one
  pub later_stands : entry c.later (get_or E c.source_type no_map).edges ≡ some other
  pub in_order : c.earlier < c.later
  pub marked : c.mark ≡ other.at
  pub they_clash : NoClash T (kind_of S c.source_type) (target_of E c.source_type) one.steps other.steps → ⊥
  pub first_later : (s i : ℕ) (e : Edge) → s < length S → entry i (get_or E s no_map).edges ≡ some e → Earlier s i c.source_type c.later
      → ClashesWithNone T (kind_of S s) (get_or E s no_map) i e
  pub first_earlier : (i : ℕ) (e : Edge) → i < c.earlier → entry i (get_or E c.source_type no_map).edges ≡ some e
      → NoClash T (kind_of S c.source_type) (target_of E c.source_type) e.steps other.steps
  pub shares : SharesSteps c.shared one.steps other.steps
  pub holds : ReasonHolds T (target_of E c.source_type) one.steps other.steps c.reason
  pub no_other : (r : Reason) → ReasonHolds T (target_of E c.source_type) one.steps other.steps r → r ≡ c.reason
  pub parts_of_choices : c.reason ≡ part_at_sequence → is_choice (kind_of S c.source_type) ≡ true
