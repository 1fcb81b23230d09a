-- What checks 8 to 10 of an embedding find among the paths of one source type: all are right in the sense of `ValidEmbedding`, or one is
-- the first that isn't, and is marked. That is said once (`Found`) and built up once, edge by edge, from tests of one path.
use Rattle.std.specs.Prelude.{◌≡◌, Bool, false, not, ◌↔◌, ◌⊎◌, ℕ, zero, suc, ◌<◌, length}
use Rattle.std.proofs.Math.Path.{refl, subst}
use Rattle.std.proofs.Common.{sym, ap, inl, inr, arith}
use Rattle.std.proofs.Math.Bool.{true}
use mathlib.Core.List.Memᴰ
use mathlib.Core.List.{List, [], ◌∷◌, map, Memᴰ}
use Rattle.std.proofs.Math.Logic.Iff as iff
use Rattle.std.proofs.Math.Option.{some}
use Rattle.std.proofs.Math.Dec.{eqb}
use Rattle.model.specs.Definitions.Basics.{Verdict, passes, fails, pick, entry, some_of}
use Rattle.model.specs.Definitions.Table.{Kind, text, empty, sequence, choice, list, Table, edges_of}
use Rattle.model.specs.Definitions.Embedding.{Edge, TypeMap, Embedding, no_map, target_of, first_path, end_of}
use Rattle.model.specs.Definitions.EmbeddingChecks.{first_edge, ends_at, ends_at_text, ends_of, steps_of, clash, first_clash}
use Rattle.model.specs.Definitions.ValidEmbedding.{mapped_to, unmapped, without_offsets, mapping_in, EndsRight, StepsRight, NoClash}
use Rattle.model.proofs.Theorems.Facts.{Walks}
use Rattle.model.proofs.Theorems.Tools.{true_false, some_none, pick_not, Decides, equal, none_passes}
use Rattle.model.proofs.Theorems.StepTests.{steps_right_lem, no_clash}

-- ---- what a check finds among edges

-- the first edge that isn't right; edges are counted from 0 here, so that those behind the first are counted by `suc`
pub record FirstOf (right : ℕ → Edge → Type 0) (es : List Edge) (at : ℕ) : Type 0 where
  pub before : ℕ
  pub edge : Edge
  pub stands : entry (suc before) es ≡ some edge
  pub marked : at ≡ edge.at
  pub wrong : right before edge → ⊥
  pub before_right : (i : ℕ) (e : Edge) → i < before → entry (suc i) es ≡ some e → right i e

-- what a verdict says of edges: all are right, or one is the first that isn't
abbrev pub Found : (ℕ → Edge → Type 0) → List Edge → Verdict → Type 0
Found right es passes = (i : ℕ) (e : Edge) → entry (suc i) es ≡ some e → right i e
Found right es (fails at) = FirstOf right es at

-- nothing is wrong where there is no edge
found_none : (right : ℕ → Edge → Type 0) → Found right [] passes
unfolding entry
found_none right i e there = some_none there refl

-- an edge is the first, or stands among those behind it
at_front : (right : ℕ → Edge → Type 0) (e : Edge) (es : List Edge) (i : ℕ) (d : Edge) → entry (suc i) (e ∷ es) ≡ some d → right 0 e
    → ((j : ℕ) → i ≡ suc j → entry (suc j) es ≡ some d → right (suc j) d) → right i d
unfolding entry
at_front right e es zero d there here later = let same : e ≡ d = cc in subst (right 0) same here
at_front right e es (suc j) d there here later = later j refl there

-- one edge more in front, tested
found_more : (right : ℕ → Edge → Type 0) (e : Edge) (es : List Edge) (b : Bool) (v : Verdict) → Decides b (right 0 e)
    → Found (λ i d. right (suc i) d) es v → Found right (e ∷ es) (pick b v (fails e.at))
unfolding pick entry
found_more right e es true passes test later = λ i d there. at_front right e es i d there (test.0 refl) (λ j same. later j d)
found_more right e es true (fails at) test later =
    record {
      before = suc later.before;
      edge = later.edge;
      stands = later.stands;
      marked = later.marked;
      wrong = later.wrong;
      before_right = λ i d less there. at_front right e es i d there (test.0 refl) (λ j same. later.before_right j d (omega arith));
    }
found_more right e es false v test later =
    record {
      before = 0;
      edge = e;
      stands = refl;
      marked = refl;
      wrong = λ h. true_false (test.1 h) refl;
      before_right = λ i d less there. absurd (omega arith);
    }

-- the same fact said in other words
pub found_same : (right right' : ℕ → Edge → Type 0) (es : List Edge) (v : Verdict) → ((i : ℕ) (e : Edge) → right i e ↔ right' i e) → Found right es v → Found right' es v
found_same right right' es passes same found = λ i e there. (same i e).0 (found i e there)
found_same right right' es (fails at) same found =
    record {
      before = found.before;
      edge = found.edge;
      stands = found.stands;
      marked = found.marked;
      wrong = λ h. found.wrong ((same found.before found.edge).1 h);
      before_right = λ i e less there. (same i e).0 (found.before_right i e less there);
    }

-- a test of each edge
found_by_test : (right : ℕ → Edge → Type 0) (test : Edge → Bool) (es : List Edge)
    → ((i : ℕ) (e : Edge) → entry (suc i) es ≡ some e → Decides (test e) (right i e)) → Found right es (first_edge test es)
unfolding first_edge entry
found_by_test right test [] tests = found_none right
found_by_test right test (e ∷ es) tests =
    found_more right e es (test e) (first_edge test es) (tests 0 e refl) (found_by_test (λ i d. right (suc i) d) test es (λ i d there. tests (suc i) d there))

-- ---- check 8

-- the offsets don't matter to what a type is mapped to
mapped_to_lem : (E : Embedding) (m : ℕ) → target_of E m ≡ mapped_to (mapping_in E) m
unfolding target_of mapped_to mapping_in no_map unmapped without_offsets
mapped_to_lem [] m = refl
mapped_to_lem (f ∷ E) zero = refl
mapped_to_lem (f ∷ E) (suc m) = mapped_to_lem E m

module _ (E : Embedding) (T : Table) where
  -- the test of one path
  ends_there : (τ m : ℕ) (e : Edge) → Decides (eqb (end_of T τ e.steps) (target_of E m)) (end_of T τ e.steps ≡ mapped_to (mapping_in E) m)
  ends_there τ m e = rw (← mapped_to_lem E m) (equal (end_of T τ e.steps) (target_of E m))

  -- the paths of members
  member_ends : (τ : ℕ) (ms : List ℕ) (es : List Edge)
      → Found (λ i e. (m : ℕ) → entry (suc i) ms ≡ some m → end_of T τ e.steps ≡ mapped_to (mapping_in E) m) es (ends_at E T τ ms es)
  unfolding ends_at entry
  member_ends τ [] es = λ i e there m member. some_none member refl
  member_ends τ (m ∷ ms) [] = found_none _
  member_ends τ (m ∷ ms) (e ∷ es) = found_more _ e es _ _ (into, λ h. (ends_there τ m e).1 (h m refl)) (member_ends τ ms es)
    where
      into : eqb (end_of T τ e.steps) (target_of E m) ≡ true → (n : ℕ) → some m ≡ some n → end_of T τ e.steps ≡ mapped_to (mapping_in E) n
      into h n same = let here : m ≡ n = cc in rw (← here) ((ends_there τ m e).0 h)

  -- the one path of a list's items
  item_ends : (τ m : ℕ) (es : List Edge) → length es ≡ 1 → Found (λ i e. end_of T τ e.steps ≡ mapped_to (mapping_in E) m) es (ends_at E T τ (m ∷ []) es)
  unfolding ends_at
  item_ends τ m [] one = absurd (omega arith)
  item_ends τ m (e ∷ []) one = found_more _ e [] _ passes (ends_there τ m e) (found_none _)
  item_ends τ m (e ∷ d ∷ es) one = absurd (omega arith)

  -- the paths of a source type, one an edge
  pub type_ends : (κ : Kind) (f : TypeMap) → length f.edges ≡ edges_of κ
      → Found (λ i e. EndsRight T (mapping_in E) κ (suc i) (end_of T f.target e.steps)) f.edges (ends_of E T κ f)
  unfolding ends_of EndsRight edges_of ends_at_text
  type_ends text f counted = found_by_test _ (ends_at_text T f.target) f.edges (λ i e there. iff.rfl)
  type_ends empty f counted = λ i e there. tt
  type_ends (sequence ms) f counted = member_ends f.target ms f.edges
  type_ends (choice need ms) f counted = member_ends f.target ms f.edges
  type_ends (list m) f counted = item_ends f.target m f.edges counted

-- ---- check 9

-- the paths of a source type, all of which can be walked
pub type_steps : (T : Table) (κ : Kind) (f : TypeMap) → ((i : ℕ) (e : Edge) → entry i f.edges ≡ some e → Walks T f.target e.steps)
    → Found (λ i e. StepsRight T κ f.target (first_path (map (λ (d : Edge). d.steps) f.edges)) e.steps) f.edges (steps_of T κ f)
unfolding steps_of
type_steps T κ f walks = found_by_test _ _ f.edges (λ i e there. steps_right_lem T κ f.target _ e.steps (walks (suc i) e there))

-- ---- check 10

module _ (T : Table) (κ : Kind) (τ : ℕ) where
  -- an edge that stands behind i others of `es` clashes with none of them, nor with one of `earlier`
  abbrev pub Clear : List Edge → List Edge → ℕ → Edge → Type 0
  Clear earlier es i e =
      ((d : Edge) → Memᴰ d earlier → NoClash T κ τ d.steps e.steps)
      × ((j : ℕ) (d : Edge) → j < i → entry (suc j) es ≡ some d → NoClash T κ τ d.steps e.steps)

  -- the test of the first edge
  clear_first : (earlier es : List Edge) (e : Edge) → Decides (not (some_of (λ (d : Edge). clash T κ τ d.steps e.steps) earlier)) (Clear earlier es 0 e)
  clear_first earlier es e =
      let test = none_passes (λ (d : Edge). clash T κ τ d.steps e.steps) (λ d. no_clash T κ τ d.steps e.steps) earlier in
      (λ h. (test.0 h, λ j d less. absurd (omega arith)), λ c. test.1 c.0)

  -- for those behind it the first edge is one of the earlier
  clear_behind : (earlier : List Edge) (f : Edge) (es : List Edge) (i : ℕ) (e : Edge) → Clear (f ∷ earlier) es i e ↔ Clear earlier (f ∷ es) (suc i) e
  unfolding entry
  clear_behind earlier f es i e = (
    λ c. (
      λ d member. c.0 d (Memᴰ.tail member),
      λ j d less there. at_front (λ k d. NoClash T κ τ d.steps e.steps) f es j d there (c.0 f (Memᴰ.head refl)) (λ k same. c.1 k d (omega arith)),
    ),
    λ c. (λ d member. among c d (Memᴰ.cases_cons member), λ j d less. c.1 (suc j) d (omega arith)),
  )
    where
      among : Clear earlier (f ∷ es) (suc i) e → (d : Edge) → (d ≡ f) ⊎ Memᴰ d earlier → NoClash T κ τ d.steps e.steps
      among c d (inl same) = c.1 0 d (omega arith) (ap some (sym same))
      among c d (inr member) = c.0 d member

  -- the edges of a source type, from some place on
  pub edges_clash : (earlier es : List Edge) → Found (Clear earlier es) es (first_clash T κ τ earlier es)
  unfolding first_clash
  edges_clash earlier [] = found_none _
  edges_clash earlier (e ∷ es) =
      subst (Found (Clear earlier (e ∷ es)) (e ∷ es)) (pick_not _ _ _)
      (found_more (Clear earlier (e ∷ es)) e es _ _ (clear_first earlier (e ∷ es) e)
      (found_same _ _ es (first_clash T κ τ (e ∷ earlier) es) (clear_behind earlier e es) (edges_clash (e ∷ earlier) es)))
