-- Laws of a loop that looks for the first of something, by number: what is left to look through gives what the whole search does. And
-- whether an edge clashes with one before it is whether the search finds one.
use mathlib.Core.Path.{◌≡◌, refl, sym, ap, ap₂, ◌∙◌}
use mathlib.Core.Bool.{Bool, true, false, ◌||◌}
use mathlib.Core.List.{List, [], ◌∷◌}
use mathlib.Core.Option.{Option, none, some}
use Prim.Native.Nat.{ℕ, zero, suc, ◌+◌, ◌-◌, ◌≤◌, ◌<◌}
use native.Mathlib.Nat.{add-zero, zero-add, add-suc, suc-add}
use native.Mathlib.Omega.{arith}
use lib.ListN.{length, get_or}
use Rattle.model.specs.Definitions.Basics.{and_then, or_next, is_there, first_found, some_of}
use Rattle.model.specs.Definitions.Table.{Kind, Table}
use Rattle.model.specs.Definitions.Embedding.{Edge, TypeMap, no_edge, edge_of, parting}
use Rattle.model.specs.Definitions.EmbeddingChecks.{clash_reason, clash}
use Rattle.model.specs.Definitions.Explanation.{pair_clash, clash_before}
use Rattle.embedding_clash.proofs.Turns.{turns_start, turn_passes, turn_decides, turns_end}
use Rattle.answers.specs.declared.Clash.{Clash}
use Rattle.std.specs.Prelude as std
use Rattle.answers.specs.Answers.{search}
use Rattle.embedding_clash.specs.Edges.{passed, clashes_below, clashes_at}

-- ---- a loop that searches numbers i to n

module _ {A : Type 0} (found : ℕ → Option A) where
  -- at the start all are left
  pub search_starts : {n m : ℕ} → n ≡ m → first_found found 0 (n - 0) ≡ first_found found 0 m
  unfolding first_found
  search_starts = turns_start or_next none first_found (λ at i. refl) (λ at i k. refl) found

  -- where nothing is found, those behind decide
  pub search_passes : (i n : ℕ) → i < n → found i ≡ none → first_found found (i + 1) (n - (i + 1)) ≡ first_found found i (n - i)
  unfolding first_found or_next
  search_passes = turn_passes or_next none first_found (λ at i. refl) (λ at i k. refl) found (λ other. refl)

  -- what is found is the first
  pub search_finds : (i n : ℕ) {a : A} → i < n → found i ≡ some a → first_found found i (n - i) ≡ some a
  unfolding first_found or_next
  search_finds i n = turn_decides or_next none first_found (λ at i. refl) (λ at i k. refl) found i n (λ other. refl)

  -- and after the last there is nothing
  pub search_ends : (i n : ℕ) → n ≤ i → first_found found i (n - i) ≡ none
  unfolding first_found
  search_ends = turns_end or_next none first_found (λ at i. refl) (λ at i k. refl) found

  -- ---- whether something is found

  there_next : (o other : Option A) → is_there (or_next o other) ≡ (is_there o || is_there other)
  unfolding or_next is_there
  there_next none other = refl
  there_next (some a) other = refl

  there_only : (o : Option A) → is_there (or_next o none) ≡ (false || is_there o)
  unfolding or_next is_there
  there_only none = refl
  there_only (some a) = refl

  or_assoc : (a b c : Bool) → (a || (b || c)) ≡ ((a || b) || c)
  or_assoc true b c = refl
  or_assoc false b c = refl

  -- with one number more at the end
  there_last : (i k : ℕ) → is_there (first_found found i (suc k)) ≡ (is_there (first_found found i k) || is_there (found (i + k)))
  unfolding first_found
  there_last i zero = there_only (found i) ∙ ap (λ (b : Bool). b || is_there (found i)) nothing_there ∙ ap (λ (m : ℕ). is_there {A = A} none || is_there (found m)) (sym (add-zero i))
    where
      nothing_there : false ≡ is_there {A = A} none
      nothing_there = unfold is_there in refl
  there_last i (suc k) =
      there_next (found i) (first_found found (suc i) (suc k))
      ∙ ap (λ (b : Bool). is_there (found i) || b) (there_last (suc i) k)
      ∙ or_assoc (is_there (found i)) (is_there (first_found found (suc i) k)) (is_there (found (suc i + k)))
      ∙ ap₂ (λ (a b : Bool). a || b) (sym (there_next (found i) (first_found found (suc i) k))) (ap (λ (m : ℕ). is_there (found m)) (suc-add i k ∙ sym (add-suc i k)))

-- ---- an edge and those before it

-- the edges passed before edge i, and it
passed_more : (i : ℕ) (es earlier : List Edge) → i < length es → passed (suc i) es earlier ≡ get_or es i no_edge ∷ passed i es earlier
unfolding passed
passed_more zero [] earlier h = absurd (omega arith)
passed_more zero (e ∷ es) earlier h = refl
passed_more (suc i) [] earlier h = absurd (omega arith)
passed_more (suc i) (e ∷ es) earlier h = passed_more i es (e ∷ earlier) (omega arith)

-- what is made of something is there where that is
there_named : {A B : Type 0} (name : A → B) (o : Option A) → is_there (and_then o (λ a. some (name a))) ≡ is_there o
unfolding and_then is_there
there_named name none = refl
there_named name (some a) = refl

module _ (T : Table) (κ : Kind) (f : TypeMap) (s i : ℕ) where
  -- two edges clash where something is found of them
  pair_there : (j : ℕ) → is_there (pair_clash T κ f s i j) ≡ clash T κ f.target (edge_of f j).steps (edge_of f i).steps
  unfolding pair_clash clash
  pair_there j = there_named _ (clash_reason κ (parting T f.target (edge_of f j).steps (edge_of f i).steps).behind)

  or_swap : (a b : Bool) → (a || b) ≡ (b || a)
  or_swap true true = refl
  or_swap true false = refl
  or_swap false true = refl
  or_swap false false = refl

  below_there : (j : ℕ) → j ≤ length f.edges → clashes_below T κ f i j ≡ is_there (first_found (pair_clash T κ f s i) 0 j)
  unfolding clashes_below some_of
  below_there zero h = unfold passed first_found is_there in refl
  below_there (suc j) h =
      ap (some_of (λ (d : Edge). clash T κ f.target d.steps (edge_of f i).steps)) (passed_more j f.edges [] (omega arith))
      ∙ or_swap (clash T κ f.target (get_or f.edges j no_edge).steps (edge_of f i).steps) (clashes_below T κ f i j)
      ∙ ap₂ (λ (a b : Bool). a || b) (below_there j (omega arith)) (here ∙ sym (pair_there j) ∙ ap (λ (m : ℕ). is_there (pair_clash T κ f s i m)) (sym (zero-add j)))
      ∙ sym (there_last (pair_clash T κ f s i) 0 j)
    where
      here : clash T κ f.target (get_or f.edges j no_edge).steps (edge_of f i).steps ≡ clash T κ f.target (edge_of f j).steps (edge_of f i).steps
      here = unfold edge_of in refl

  -- so edge i clashes with an earlier one exactly where the search finds one
  clashes_there : i ≤ length f.edges → clashes_at T κ f i ≡ is_there (clash_before T κ f s i)
  unfolding clashes_at clash_before
  clashes_there h = below_there i h

  -- and whether the code's search found something says it
  pub clashes_found : (r : std.Option Clash) → i ≤ length f.edges → search r ≡ clash_before T κ f s i → std.is_some r ≡ clashes_at T κ f i
  clashes_found r h same = some_there r ∙ ap is_there same ∙ sym (clashes_there h)
    where
      some_there : (r : std.Option Clash) → std.is_some r ≡ is_there (search r)
      some_there std.None = unfold is_there in refl
      some_there (std.Some c) = unfold is_there in refl
