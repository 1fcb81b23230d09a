-- What is loaded, continued by what the rest of a document says, and what each command does to it.
use mathlib.Core.Path.{◌≡◌, refl, ap, ◌∙◌}
use mathlib.Core.List.{List, [], ◌∷◌, ◌++◌, append-nil}
use Prim.Native.Nat.{ℕ, zero, suc, ◌+◌, ◌*◌, ◌≤◌, ◌<◌}
use native.Mathlib.Nat.{add-zero, zero-add, add-suc, suc-add}
use native.Mathlib.Numerals.{add-one}
use native.Mathlib.Omega.{arith}
use lib.ListN.{length, take, get_or, set}
use lib.Seq.{get_or-set_same, get_or-set_other}
use Rattle.loaded_embedding.specs.Loaded.{steps_from, edge_in, edges_from, maps_from, steps_more}
use Rattle.model.specs.Definitions.Table.{Table, kind_of, edges_of}
use Rattle.model.specs.Definitions.Embedding.{Edge, Embedding, EmbeddingTail}

-- so many loaded paths from a place on, the last continued by steps, and the paths after it
unfoldable pub edges_more : List ℕ → List ℕ → List ℕ → ℕ → ℕ → List ℕ → List Edge → List Edge
edges_more em starts lengths i zero steps es = es
edges_more em starts lengths i (suc e) steps es =
    edges_from em starts lengths i e ++ record { at = get_or starts (i + e) 0; steps = steps_from em (get_or starts (i + e) 0 + 2) (get_or lengths (i + e) 0) ++ steps } ∷ es

-- so many loaded maps of S, the last with so many paths, continued by the steps of its last path, its other paths, and the maps after it
unfoldable pub continued : List ℕ → Table → ℕ → ℕ → List ℕ → List ℕ → List ℕ → EmbeddingTail → Embedding
continued em S zero e targets starts lengths r = r.maps
continued em S (suc n) e targets starts lengths r =
    maps_from em targets starts lengths 0 (take n S)
    ++ record { target = get_or targets n 0; edges = edges_more em starts lengths (n * 16) e r.steps r.edges } ∷ r.maps

module _ (em starts lengths : List ℕ) where
  -- one path more at the end
  edges_snoc : (i e : ℕ) (rest : List Edge) → edges_from em starts lengths i e ++ edge_in em starts lengths (i + e) ∷ rest ≡ edges_from em starts lengths i (suc e) ++ rest
  unfolding edges_from
  edges_snoc i zero rest = rw (add-zero i) refl
  edges_snoc i (suc e) rest = ap {B = List Edge} (λ es. edge_in em starts lengths i ∷ es) (rw (add-suc i e, ← suc-add i e) (edges_snoc (suc i) e rest))

  -- where the last path has no more steps, the loaded paths are followed by those after it
  edges_whole : (i e : ℕ) (es : List Edge) → edges_more em starts lengths i e [] es ≡ edges_from em starts lengths i e ++ es
  unfolding edges_more edges_from edge_in
  edges_whole i zero es = refl
  edges_whole i (suc e) es =
      let no_more = append-nil (steps_from em (get_or starts (i + e) 0 + 2) (get_or lengths (i + e) 0)) in
      rw no_more (edges_snoc i e es)

  module _ (targets : List ℕ) where
    -- one map more at the end
    maps-snoc : (S : Table) (s n : ℕ) (rest : Embedding) → n < length S
        → maps_from em targets starts lengths s (take n S)
        ++ record { target = get_or targets (s + n) 0; edges = edges_from em starts lengths ((s + n) * 16) (edges_of (kind_of S n)) } ∷ rest
        ≡ maps_from em targets starts lengths s (take (suc n) S) ++ rest
    unfolding maps_from kind_of
    maps-snoc [] s n rest h = absurd (omega arith)
    maps-snoc (κ ∷ S) s zero rest h = rw (add-zero s) refl
    maps-snoc (κ ∷ S) s (suc n) rest h =
        ap {B = Embedding} (λ ms. record { target = get_or targets s 0; edges = edges_from em starts lengths (s * 16) (edges_of κ) } ∷ ms)
        (rw (add-suc s n, ← suc-add s n) (maps-snoc S (suc s) n rest (omega arith)))

    -- Where the last type has all its paths, and the last path has no more steps, the loaded maps are followed by those after it.
    pub continued-maps : (S : Table) (n : ℕ) (ms : Embedding) → n < length S
        → continued em S (suc n) (edges_of (kind_of S n)) targets starts lengths (record { steps = []; edges = []; maps = ms })
        ≡ maps_from em targets starts lengths 0 (take (suc n) S) ++ ms
    unfolding continued
    continued-maps S n ms h =
        let all = edges_whole (n * 16) (edges_of (kind_of S n)) [] ∙ append-nil (edges_from em starts lengths (n * 16) (edges_of (kind_of S n))) in
        let last = maps-snoc S 0 n ms h in
        rw all (rw (zero-add n) at last)

-- arrays that agree below a place have the same paths below it
edges_same : (em starts lengths starts' lengths' : List ℕ) (bound : ℕ)
    → ((j : ℕ) → j < bound → get_or starts j 0 ≡ get_or starts' j 0)
    → ((j : ℕ) → j < bound → get_or lengths j 0 ≡ get_or lengths' j 0)
    → (i n : ℕ) → i + n ≤ bound → edges_from em starts lengths i n ≡ edges_from em starts' lengths' i n
unfolding edges_from edge_in
edges_same em starts lengths starts' lengths' bound p q i zero h = refl
edges_same em starts lengths starts' lengths' bound p q i (suc n) h =
    let later = edges_same em starts lengths starts' lengths' bound p q (suc i) n (omega arith) in
    rw (p i (omega arith), q i (omega arith), later) refl

-- and the same maps
maps_same : (em targets starts lengths targets' starts' lengths' : List ℕ) (bound : ℕ)
    → ((j : ℕ) → j < bound → get_or targets j 0 ≡ get_or targets' j 0)
    → ((j : ℕ) → j < bound * 16 → get_or starts j 0 ≡ get_or starts' j 0)
    → ((j : ℕ) → j < bound * 16 → get_or lengths j 0 ≡ get_or lengths' j 0)
    → (S : Table) → ((i : ℕ) → edges_of (kind_of S i) ≤ 16)
    → (s n : ℕ) → s + n ≤ bound → maps_from em targets starts lengths s (take n S) ≡ maps_from em targets' starts' lengths' s (take n S)
unfolding maps_from kind_of
maps_same em targets starts lengths targets' starts' lengths' bound o p q S few s zero h = refl
maps_same em targets starts lengths targets' starts' lengths' bound o p q [] few s (suc n) h = refl
maps_same em targets starts lengths targets' starts' lengths' bound o p q (κ ∷ S) few s (suc n) h =
    let short : edges_of κ ≤ 16 = few 0 in
    let here = edges_same em starts lengths starts' lengths' (bound * 16) p q (s * 16) (edges_of κ) (omega arith) in
    let later = maps_same em targets starts lengths targets' starts' lengths' bound o p q S (λ i. few (suc i)) (suc s) n (omega arith) in
    rw (o s (omega arith), here, later) refl

-- a list below a place that is written
below : (xs : List ℕ) (at v bound : ℕ) → bound ≤ at → (j : ℕ) → j < bound → get_or (set xs at v) j 0 ≡ get_or xs j 0
below xs at v bound h j less = get_or-set_other xs at j v 0 (λ e. absurd (omega arith))

module _ (em targets starts lengths : List ℕ) (S : Table) (few : (i : ℕ) → edges_of (kind_of S i) ≤ 16) where
  -- A type is mapped after n others: they are followed by its map and what comes after it.
  pub continued_mapped : (n t : ℕ) (r : EmbeddingTail) → n < length targets
      → continued em S (suc n) 0 (set targets n t) starts lengths r
      ≡ maps_from em targets starts lengths 0 (take n S) ++ record { target = t; edges = r.edges } ∷ r.maps
  unfolding continued edges_more
  continued_mapped n t r room =
      let earlier = maps_same em (set targets n t) starts lengths targets starts lengths n (below targets n t n (omega arith)) (λ j h. refl) (λ j h. refl) S few 0 n (omega arith) in
      rw (earlier, get_or-set_same targets n t 0 room) refl

  module _ (n e : ℕ) (in-lengths : n * 16 + e < length lengths) where
    -- A path begins: it is the first of the paths with which the last type was continued.
    pub continued-begun : (at : ℕ) (r : EmbeddingTail) → n * 16 + e < length starts
        → continued em S (suc n) (suc e) targets (set starts (n * 16 + e) at) (set lengths (n * 16 + e) 0) r
        ≡ continued em S (suc n) e targets starts lengths (record { steps = []; edges = record { at = at; steps = r.steps } ∷ r.edges; maps = r.maps })
    unfolding continued edges_more steps_from
    continued-begun at r in-starts =
        let place = n * 16 + e in
        let starts' = set starts place at in
        let lengths' = set lengths place 0 in
        let earlier = maps_same em targets starts' lengths' targets starts lengths n (λ j h. refl) (below starts place at (n * 16) (omega arith)) (below lengths place 0 (n * 16) (omega arith)) S few 0 n (omega arith) in
        let before = edges_same em starts' lengths' starts lengths place (below starts place at place (omega arith)) (below lengths place 0 place (omega arith)) (n * 16) e (omega arith) in
        let whole = edges_whole em starts lengths (n * 16) e (record { at = at; steps = r.steps } ∷ r.edges) in
        rw (earlier, before, get_or-set_same starts place at 0 in-starts, get_or-set_same lengths place 0 0 in-lengths, whole) refl

    -- A step is taken: it is the first of the steps with which the last path was continued.
    pub continued-stepped : (p : ℕ) (r : EmbeddingTail) → get_or em (get_or starts (n * 16 + e) 0 + 2 + 2 * get_or lengths (n * 16 + e) 0) 0 ≡ p
        → continued em S (suc n) (suc e) targets starts (set lengths (n * 16 + e) (get_or lengths (n * 16 + e) 0 + 1)) r
        ≡ continued em S (suc n) (suc e) targets starts lengths (record { steps = p ∷ r.steps; edges = r.edges; maps = r.maps })
    unfolding continued edges_more
    continued-stepped p r reads =
        let place = n * 16 + e in
        let count = get_or lengths place 0 in
        let lengths' = set lengths place (count + 1) in
        let earlier = maps_same em targets starts lengths' targets starts lengths n (λ j h. refl) (λ j h. refl) (below lengths place (count + 1) (n * 16) (omega arith)) S few 0 n (omega arith) in
        let before = edges_same em starts lengths' starts lengths place (λ j h. refl) (below lengths place (count + 1) place (omega arith)) (n * 16) e (omega arith) in
        let longer = steps_more em (get_or starts place 0 + 2) count r.steps in
        rw (earlier, before, get_or-set_same lengths place (count + 1) 0 in-lengths, add-one count, longer, reads) refl

-- the number of edges of the last of n types
unfoldable pub edges_due : Table → ℕ → ℕ
edges_due S zero = 0
edges_due S (suc n) = edges_of (kind_of S n)

-- Where the last type has all its paths, what is loaded is followed by the maps after it.
pub continued_full : (em targets starts lengths : List ℕ) (S : Table) (n e : ℕ) (ms : Embedding) → n ≤ length S → e ≡ edges_due S n
    → continued em S n e targets starts lengths (record { steps = []; edges = []; maps = ms }) ≡ maps_from em targets starts lengths 0 (take n S) ++ ms
unfolding continued maps_from edges_due
continued_full em targets starts lengths S zero e ms h all = refl
continued_full em targets starts lengths S (suc n) e ms h all = rw all (continued-maps em starts lengths targets S n ms (omega arith))
