-- 01 "Three kinds of document", Embedding; 000 section 4.1: a schema embedding, the map of element types and a path for
-- each edge, and what a path does in the target table.
use Rattle.std.specs.Prelude.{Bool, true, false, ◌&&◌, List, [], ◌∷◌, map, ℕ, suc, ◌+◌, get_or, eqb}
use Rattle.std.proofs.Math.Option.{Option, none, some}
use Rattle.model.specs.Definitions.Basics.{pick}
use Rattle.model.specs.Definitions.Commands.{EmbeddingCommand, maps_to, path, step, embedding_end, alien_e, embedding_commands, embedding_width}
use Rattle.model.specs.Definitions.Table.{Kind, text, empty, sequence, choice, list, Table, kind_of, step_from, is_choice}

-- an edge's path: its steps, and the offset of its 21 in the document, for marks
pub record Edge : Type 0 where
  pub at : ℕ
  pub steps : List ℕ

-- what a source type is mapped to, and its edges' paths, in order
pub record TypeMap : Type 0 where
  pub target : ℕ
  pub edges : List Edge

abbrev pub Embedding : Type 0
Embedding = List TypeMap

unfoldable pub no_map : TypeMap
no_map = record { target = 0; edges = [] }

unfoldable pub no_edge : Edge
no_edge = record { at = 0; steps = [] }

-- edge i of a source type, counted from 0
unfoldable pub edge_of : TypeMap → ℕ → Edge
edge_of f i = get_or f.edges i no_edge

-- the target type that source type s is mapped to
unfoldable pub target_of : Embedding → ℕ → ℕ
target_of E s = (get_or E s no_map).target

-- the paths of source type s
unfoldable pub paths_of : Embedding → ℕ → List (List ℕ)
paths_of E s = map (λ (e : Edge). e.steps) (get_or E s no_map).edges

-- the one path of a text or a list type, the first of the others
unfoldable pub first_path : List (List ℕ) → List ℕ
first_path [] = []
first_path (p ∷ ps) = p

-- ---- the embedding that commands write

-- what the commands from some place on say: the steps of the path before that place, the paths of the type before
-- it, and the types after it
pub record EmbeddingTail : Type 0 where
  pub steps : List ℕ
  pub edges : List Edge
  pub maps : List TypeMap

-- one command more in front, at offset `at`
unfoldable pub with_embedding_command : ℕ → EmbeddingCommand → EmbeddingTail → EmbeddingTail
with_embedding_command at (maps_to t) r = record { steps = []; edges = []; maps = record { target = t; edges = r.edges } ∷ r.maps }
with_embedding_command at path r = record { steps = []; edges = record { at = at; steps = r.steps } ∷ r.edges; maps = r.maps }
with_embedding_command at (step p) r = record { steps = p ∷ r.steps; edges = r.edges; maps = r.maps }
with_embedding_command at embedding_end r = r
with_embedding_command at alien_e r = r

unfoldable pub embedding_tail : ℕ → List EmbeddingCommand → EmbeddingTail
embedding_tail at [] = record { steps = []; edges = []; maps = [] }
embedding_tail at (c ∷ cs) = with_embedding_command at c (embedding_tail (at + embedding_width c) cs)

-- the embedding that a document writes; it matters only where the embedding's form is right
unfoldable pub embedding_of : List ℕ → Embedding
embedding_of bs = (embedding_tail 0 (embedding_commands bs)).maps

-- ---- following a path through the types of a table

-- the type that step p goes to from type τ; where there is no such step, type 0, which check 4 keeps from mattering
unfoldable pub or_root : Option ℕ → ℕ
or_root none = 0
or_root (some τ) = τ

unfoldable pub next : Table → ℕ → ℕ → ℕ
next T τ p = or_root (step_from (kind_of T τ) p)

-- the type at which a path ends
unfoldable pub end_of : Table → ℕ → List ℕ → ℕ
end_of T τ [] = τ
end_of T τ (p ∷ ps) = end_of T (next T τ p) ps

-- the kinds that the steps of a path leave, in order
unfoldable pub leaves : Table → ℕ → List ℕ → List Kind
leaves T τ [] = []
leaves T τ (p ∷ ps) = kind_of T τ ∷ leaves T (next T τ p) ps

-- What stands behind the steps with which two paths from one type both begin: both end there, so that they are equal; the first ends and
-- the second goes on; the second ends and the first goes on; or they part, at a step that leaves an element of this kind.
pub data Behind : Type 0 where
  both_end : Behind
  first_ends : Behind
  second_ends : Behind
  apart : Kind → Behind

-- how two paths from one type compare: the number of steps that they share, those of their longest common beginning, and what stands
-- behind them
pub record Parting : Type 0 where
  pub shared : ℕ
  pub behind : Behind

unfoldable pub one_step_more : Parting → Parting
one_step_more v = record { shared = suc v.shared; behind = v.behind }

unfoldable pub parting : Table → ℕ → List ℕ → List ℕ → Parting
parting T τ [] [] = record { shared = 0; behind = both_end }
parting T τ [] (q ∷ qs) = record { shared = 0; behind = first_ends }
parting T τ (p ∷ ps) [] = record { shared = 0; behind = second_ends }
parting T τ (p ∷ ps) (q ∷ qs) =
    pick (eqb p q) (one_step_more (parting T (next T τ p) ps qs)) (record { shared = 0; behind = apart (kind_of T τ) })

-- a path divided at the first step that leaves a list: the steps before it, the list's item type, the steps after it
pub record Divided : Type 0 where
  pub before : List ℕ
  pub item : ℕ
  pub rest : List ℕ

unfoldable pub divide_at : Kind → ℕ → List ℕ → Divided → Divided
divide_at text p ps d = record { before = p ∷ d.before; item = d.item; rest = d.rest }
divide_at empty p ps d = record { before = p ∷ d.before; item = d.item; rest = d.rest }
divide_at (sequence ms) p ps d = record { before = p ∷ d.before; item = d.item; rest = d.rest }
divide_at (choice need ms) p ps d = record { before = p ∷ d.before; item = d.item; rest = d.rest }
divide_at (list m) p ps d = record { before = []; item = m; rest = ps }

unfoldable pub divide : Table → ℕ → List ℕ → Divided
divide T τ [] = record { before = []; item = 0; rest = [] }
divide T τ (p ∷ ps) = divide_at (kind_of T τ) p ps (divide T (next T τ p) ps)

-- 02, N3: the steps of a path before the first that leaves a choice of either kind
unfoldable pub before_choice : Table → ℕ → List ℕ → List ℕ
before_choice T τ [] = []
before_choice T τ (p ∷ ps) = pick (is_choice (kind_of T τ)) [] (p ∷ before_choice T (next T τ p) ps)

-- whether two rows of steps are the same
unfoldable pub same_steps : List ℕ → List ℕ → Bool
same_steps [] [] = true
same_steps [] (q ∷ qs) = false
same_steps (p ∷ ps) [] = false
same_steps (p ∷ ps) (q ∷ qs) = eqb p q && same_steps ps qs
