-- Checks 8 to 10 of an embedding pass exactly where every path is right in the sense of `ValidEmbedding`, and where one fails it marks
-- the first path, in the order of the document, that isn't. What `EdgeChecks` has of one source type is taken to all of them once.
use Rattle.std.specs.Prelude.{◌≡◌, ◌↔◌, length, get_or}
use Rattle.std.proofs.Math.Path.{refl}
use Rattle.std.proofs.Common.{sym, ap, ◌∙◌, subst, inl, inr, arith}
use mathlib.Core.List.Memᴰ
use mathlib.Core.List.{[], ◌∷◌}
use Rattle.std.proofs.Math.Option.{some}
use Prim.Native.Nat.{ℕ, zero, suc, ◌<◌}
use Rattle.model.specs.Definitions.Basics.{Verdict, passes, fails, or_else, entry}
use Rattle.model.specs.Definitions.Table.{Kind, empty, Table, kind_of, edges_of}
use Rattle.model.specs.Definitions.Embedding.{Edge, TypeMap, Embedding, no_map}
use Rattle.model.specs.Definitions.EmbeddingChecks.{each_type, ends_of, wrong_end_verdict, steps_of, wrong_steps_verdict, clashes_of, path_clash_verdict}
use Rattle.model.specs.Definitions.Marks.{Earlier, PathFact, FirstWrong, RightEnd, RightPath, ClashesWithNone}
use Rattle.model.proofs.Theorems.Facts.{Walks, Along}
use Rattle.model.proofs.Theorems.Tools.{some_none}
use Rattle.model.proofs.Theorems.Runs.{passes_fails}
use Rattle.model.proofs.Theorems.JudgedEmbeddings.{along_at}
use Rattle.model.proofs.Theorems.Placing.{entry_nil}
use Rattle.model.proofs.Theorems.EdgeChecks.{Found, found_same, type_ends, type_steps, Clear, edges_clash}

-- ---- paths of an embedding

-- every path is right
abbrev pub AllRight : PathFact → Table → Embedding → Type 0
AllRight right S E = (s i : ℕ) (e : Edge) → s < length S → entry i (get_or E s no_map).edges ≡ some e → right (kind_of S s) (get_or E s no_map) i e

-- each source type has a map with as many edges as its kind has
abbrev pub Counted : Table → Embedding → Type 0
Counted S E = Along (λ (κ : Kind) (f : TypeMap). length f.edges ≡ edges_of κ) S E

-- ---- what a check finds among all paths

-- what a verdict says of all paths: all are right, or one is the first that isn't
abbrev Finds : PathFact → Table → Embedding → Verdict → Type 0
Finds right S E passes = AllRight right S E
Finds right S E (fails at) = FirstWrong right S E at

-- the order of paths, with a type more in front
earlier_behind : {s i t j : ℕ} → Earlier (suc s) i (suc t) j → Earlier s i t j
earlier_behind (inl less) = inl (omega arith)
earlier_behind (inr same) = inr (omega (arith, same.0), same.1)

earlier_first : {i j : ℕ} → Earlier 0 i 0 j → i < j
earlier_first (inl less) = absurd (omega arith)
earlier_first (inr same) = same.1

never_earlier {ℓ} : {X : Type ℓ} {s i j : ℕ} → Earlier (suc s) i 0 j → X
never_earlier (inl less) = absurd (omega arith)
never_earlier (inr same) = absurd (omega (arith, same.0))

-- two numbers of which neither is less are equal
pub neither_less : (m n : ℕ) → (m < n → ⊥) → (n < m → ⊥) → m ≡ n
neither_less m n p q = omega (arith, p, q)

module _ (right : PathFact) where
  -- what a check of one source type of kind κ that f maps found; its paths are counted from 1
  abbrev FoundIn : Kind → TypeMap → Verdict → Type 0
  FoundIn κ f v = Found (λ i e. right κ f (suc i) e) f.edges v

  -- paths that are of the first source type or of one behind it; `P` says which paths are meant
  in_front : (P : ℕ → ℕ → Type 0) (κ : Kind) (f : TypeMap) (S : Table) (E : Embedding)
      → ((i : ℕ) (e : Edge) → entry (suc i) f.edges ≡ some e → P 0 (suc i) → right κ f (suc i) e)
      → ((s i : ℕ) (e : Edge) → s < length S → entry i (get_or E s no_map).edges ≡ some e → P (suc s) i → right (kind_of S s) (get_or E s no_map) i e)
      → (s i : ℕ) (e : Edge) → s < length (κ ∷ S) → entry i (get_or (f ∷ E) s no_map).edges ≡ some e → P s i → right (kind_of (κ ∷ S) s) (get_or (f ∷ E) s no_map) i e
  unfolding kind_of entry
  in_front P κ f S E here behind zero zero e exists there meant = some_none there refl
  in_front P κ f S E here behind zero (suc i) e exists there meant = here i e there meant
  in_front P κ f S E here behind (suc s) i e exists there meant = behind s i e (omega arith) there meant

  -- one source type more in front
  finds_more : (κ : Kind) (f : TypeMap) (S : Table) (E : Embedding) (v w : Verdict) → FoundIn κ f v → Finds right S E w → Finds right (κ ∷ S) (f ∷ E) (or_else v w)
  unfolding or_else kind_of
  finds_more κ f S E passes passes here behind =
      λ s i e exists there. in_front (λ t j. Unit {0}) κ f S E (λ i e there u. here i e there) (λ s i e exists there u. behind s i e exists there) s i e exists there tt
  finds_more κ f S E passes (fails at) here behind =
      record {
        source_type = suc behind.source_type;
        number = behind.number;
        edge = behind.edge;
        exists = omega (arith, behind.exists);
        stands = behind.stands;
        marked = behind.marked;
        wrong = behind.wrong;
        earlier_right =
            in_front (λ t j. Earlier t j (suc behind.source_type) behind.number) κ f S E (λ i e there earlier. here i e there)
            (λ s i e exists there earlier. behind.earlier_right s i e exists there (earlier_behind earlier));
      }
  finds_more κ f S E (fails at) w here behind =
      record {
        source_type = 0;
        number = suc here.before;
        edge = here.edge;
        exists = omega arith;
        stands = here.stands;
        marked = here.marked;
        wrong = here.wrong;
        earlier_right =
            in_front (λ t j. Earlier t j 0 (suc here.before)) κ f S E
            (λ i e there earlier. here.before_right i e (omega (arith, earlier_first earlier)) there)
            (λ s i e exists there earlier. never_earlier earlier);
      }

  -- a check of each source type
  finds : (check : Kind → TypeMap → Verdict) (S : Table) (E : Embedding)
      → ((s : ℕ) → s < length S → FoundIn (kind_of S s) (get_or E s no_map) (check (kind_of S s) (get_or E s no_map))) → Finds right S E (each_type check S E)
  unfolding each_type kind_of no_map
  finds check [] E each = λ s i e exists there. absurd (omega arith)
  finds check (κ ∷ S) [] each = λ s i e exists there. some_none there (entry_nil i)
  finds check (κ ∷ S) (f ∷ E) each =
      finds_more κ f S E (check κ f) (each_type check S E) (each 0 (omega arith)) (finds check S E (λ s exists. each (suc s) (omega arith)))

  -- two first wrong paths are one path: neither is earlier than the other
  pub first_same : {S : Table} {E : Embedding} {at at' : ℕ} (r : FirstWrong right S E at) (r' : FirstWrong right S E at')
      → (r.source_type ≡ r'.source_type) × (r.number ≡ r'.number) × (r.edge ≡ r'.edge)
  first_same {S} {E} r r' = (same-type, same_number, let one = r.stands in let other = stands' in cc)
    where
      not_earlier : {at at' : ℕ} (r : FirstWrong right S E at) (r' : FirstWrong right S E at')
          → Earlier r.source_type r.number r'.source_type r'.number → ⊥
      not_earlier r r' earlier = r.wrong (r'.earlier_right r.source_type r.number r.edge r.exists r.stands earlier)

      same-type : r.source_type ≡ r'.source_type
      same-type = neither_less _ _ (λ less. not_earlier r r' (inl less)) (λ less. not_earlier r' r (inl less))

      same_number : r.number ≡ r'.number
      same_number = neither_less _ _ (λ less. not_earlier r r' (inr (same-type, less))) (λ less. not_earlier r' r (inr (sym same-type, less)))

      stands' : entry r.number (get_or E r.source_type no_map).edges ≡ some r'.edge
      stands' = rw (same-type, same_number) r'.stands

  first_once : (S : Table) (E : Embedding) (at at' : ℕ) → FirstWrong right S E at → FirstWrong right S E at' → at ≡ at'
  first_once S E at at' r r' = r.marked ∙ ap (λ (e : Edge). e.at) (first_same r r').2 ∙ sym r'.marked

  -- so a verdict says that all paths are right, or which is the first wrong one, exactly where that is so
  finds_exactly : (S : Table) (E : Embedding) (v : Verdict) → Finds right S E v → (v ≡ passes) ↔ AllRight right S E
  finds_exactly S E passes found = (λ e. found, λ all. refl)
  finds_exactly S E (fails at) found = (
    λ e. passes_fails e refl,
    λ all. absurd (found.wrong (all found.source_type found.number found.edge found.exists found.stands)),
  )

  finds_mark : (S : Table) (E : Embedding) (v : Verdict) → Finds right S E v → (at : ℕ) → (v ≡ fails at) ↔ FirstWrong right S E at
  finds_mark S E passes found at = (
    λ e. passes_fails refl e,
    λ r. absurd (r.wrong (found r.source_type r.number r.edge r.exists r.stands)),
  )
  finds_mark S E (fails at') found at = (
    λ e. let same : at' ≡ at = cc in subst (FirstWrong right S E) same found,
    λ r. ap fails (first_once S E at' at found r),
  )

-- ---- the three checks

-- the paths of a source type clash with none before them
type_clashes : (T : Table) (κ : Kind) (f : TypeMap) → FoundIn (ClashesWithNone T) κ f (clashes_of T κ f)
unfolding clashes_of entry
type_clashes T κ f = found_same _ _ f.edges (clashes_of T κ f) clear (edges_clash T κ f.target [] f.edges)
  where
    none_before : (i : ℕ) (e : Edge) → Clear T κ f.target [] f.edges i e → ClashesWithNone T κ f (suc i) e
    none_before i e c zero d less there = some_none there refl
    none_before i e c (suc j) d less there = c.1 j d (omega arith) there

    clear : (i : ℕ) (e : Edge) → Clear T κ f.target [] f.edges i e ↔ ClashesWithNone T κ f (suc i) e
    clear i e = (none_before i e, λ c. (λ d member. absurd (Memᴰ.not-nil member), λ j d less. c (suc j) d (omega arith)))

module _ (S T : Table) (E : Embedding) (counted : Counted S E) where
  -- check 8
  ends_found : Finds (RightEnd E T) S E (wrong_end_verdict S T E)
  unfolding wrong_end_verdict kind_of
  ends_found = finds (RightEnd E T) (ends_of E T) S E (λ s exists. type_ends E T (kind_of S s) (get_or E s no_map) (along_at empty no_map counted s exists))

  pub ends_exactly : (wrong_end_verdict S T E ≡ passes) ↔ AllRight (RightEnd E T) S E
  ends_exactly = finds_exactly (RightEnd E T) S E (wrong_end_verdict S T E) ends_found

  pub ends_mark : (at : ℕ) → (wrong_end_verdict S T E ≡ fails at) ↔ FirstWrong (RightEnd E T) S E at
  ends_mark = finds_mark (RightEnd E T) S E (wrong_end_verdict S T E) ends_found

  -- check 10
  clash_found : Finds (ClashesWithNone T) S E (path_clash_verdict S T E)
  unfolding path_clash_verdict
  clash_found = finds (ClashesWithNone T) (clashes_of T) S E (λ s exists. type_clashes T (kind_of S s) (get_or E s no_map))

  pub clash_exactly : (path_clash_verdict S T E ≡ passes) ↔ AllRight (ClashesWithNone T) S E
  clash_exactly = finds_exactly (ClashesWithNone T) S E (path_clash_verdict S T E) clash_found

  pub clash_mark : (at : ℕ) → (path_clash_verdict S T E ≡ fails at) ↔ FirstWrong (ClashesWithNone T) S E at
  clash_mark = finds_mark (ClashesWithNone T) S E (path_clash_verdict S T E) clash_found

  -- check 9, of paths that can be walked
  module _ (walks : AllRight (λ κ f i e. Walks T f.target e.steps) S E) where
    steps-found : Finds (RightPath T) S E (wrong_steps_verdict S T E)
    unfolding wrong_steps_verdict
    steps-found = finds (RightPath T) (steps_of T) S E (λ s exists. type_steps T (kind_of S s) (get_or E s no_map) (λ i e. walks s i e exists))

    pub steps-exactly : (wrong_steps_verdict S T E ≡ passes) ↔ AllRight (RightPath T) S E
    steps-exactly = finds_exactly (RightPath T) S E (wrong_steps_verdict S T E) steps-found

    pub steps-mark : (at : ℕ) → (wrong_steps_verdict S T E ≡ fails at) ↔ FirstWrong (RightPath T) S E at
    steps-mark = finds_mark (RightPath T) S E (wrong_steps_verdict S T E) steps-found
