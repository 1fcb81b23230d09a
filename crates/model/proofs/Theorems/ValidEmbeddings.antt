-- An embedding between two tables is accepted exactly where it is written by a valid embedding: the checks, one by one, say of each path
-- what `ValidEmbedding` asks.
use Rattle.std.specs.Prelude.{◌≡◌, refl, ℕ, zero, suc, ◌≤◌, ◌<◌, length, get_or}
use Rattle.std.proofs.Math.Path.{sym, ap, subst}
use Rattle.std.proofs.Common.{◌∙◌, arith}
use mathlib.Core.List.{List, [], ◌∷◌, map}
use Rattle.std.proofs.Math.Option.{some}
use Rattle.std.proofs.Math.ListN.{length-map}
use borrow.Author.Tests.{eqb-true, eq-eqb, le-leb}
use Rattle.model.specs.Definitions.Basics.{passes, entry}
use Rattle.model.specs.Definitions.Commands.{needed, optional}
use Rattle.model.specs.Definitions.Table.{Kind, text, empty, sequence, choice, list, Table, kind_of, edges_of}
use Rattle.model.specs.Definitions.Embedding.{Edge, Embedding, no_map, target_of, embedding_of}
use Rattle.model.specs.Definitions.EmbeddingChecks.{embedding_operands, root_to_root, wrong_steps_verdict}
use Rattle.model.specs.Definitions.ValidTable.{ValidKind, ValidTable}
use Rattle.model.specs.Definitions.ValidEmbedding.{MappedType, PathMapping, unmapped, mapped_to, without_offsets, mapping_in, mapping_of, NoClash, ValidPath, ValidType, ValidEmbedding, embedding_bytes}
use Rattle.model.specs.Definitions.Refusals.{sound, max_length, fits}
use Rattle.model.specs.Definitions.Entries.{judged_embedding}
use Rattle.model.proofs.Theorems.Facts.{Walks, Along, along_none, along_both, All, all_none, all_more}
use Rattle.model.proofs.Theorems.Tools.{some_none}
use Rattle.model.proofs.Theorems.JudgedTables.{all_at, all_from}
use Rattle.model.proofs.Theorems.JudgedEmbeddings.{PassedEmbedding, embedding_checks, embedding_accepted, judged_with_lem, form_holds, limits_hold, along_at, paths_walk}
use Rattle.model.proofs.Theorems.EmbeddingBytes.{mapping_of_bytes, form_written, form_passes, limits_pass, operands_pass, embedding_short}
use Rattle.model.proofs.Theorems.StepTests.{walks_exist}
use Rattle.model.proofs.Theorems.PathChecks.{AllRight, Counted, ends_exactly, steps-exactly, clash_exactly}

-- ---- positions

-- what holds at every position holds of every entry, and of two lists of one length along both
all_entries : {A : Type 0} {P : A → Type 0} (xs : List A) → ((i : ℕ) (x : A) → entry i xs ≡ some x → P x) → All P xs
unfolding entry
all_entries [] h = all_none
all_entries (x ∷ xs) h = all_more (h 1 x refl) (all_entries xs (λ i y e. h (suc i) y (one_further i y e)))
  where
    one_further : (i : ℕ) (y : _) → entry i xs ≡ some y → entry (suc i) (x ∷ xs) ≡ some y
    one_further zero y e = some_none e refl
    one_further (suc i) y e = e

all_entry : {A : Type 0} {P : A → Type 0} {xs : List A} → All P xs → (i : ℕ) (x : A) → entry i xs ≡ some x → P x
unfolding entry
all_entry all_none zero x e = some_none e refl
all_entry all_none (suc i) x e = some_none e refl
all_entry (all_more p ps) zero x e = some_none e refl
all_entry {P = P} (all_more {a = y} p ps) (suc zero) x e = let same : y ≡ x = cc in subst P same p
all_entry (all_more p ps) (suc (suc i)) x e = all_entry ps (suc i) x e

along_indices : {A B : Type 0} {R : A → B → Type 0} (c : A) (d : B) (xs : List A) (ys : List B) → length ys ≡ length xs
    → ((i : ℕ) → i < length xs → R (get_or xs i c) (get_or ys i d)) → Along R xs ys
along_indices c d [] [] n h = along_none
along_indices c d [] (y ∷ ys) n h = absurd (omega arith)
along_indices c d (x ∷ xs) [] n h = absurd (omega arith)
along_indices c d (x ∷ xs) (y ∷ ys) n h = along_both (h 0 (omega arith)) (along_indices c d xs ys (omega arith) (λ i less. h (suc i) (omega arith)))

along-length : {A B : Type 0} {R : A → B → Type 0} {xs : List A} {ys : List B} → Along R xs ys → length ys ≡ length xs
along-length along_none = refl
along-length (along_both r later) = ap suc (along-length later)

-- an entry of a list that is made from another is made from an entry of it, and the other way round
entry_of_map : {A B : Type 0} (f : A → B) (i : ℕ) (xs : List A) {y : B} → entry i (map f xs) ≡ some y → (x : A) × (entry i xs ≡ some x) × (f x ≡ y)
unfolding entry
entry_of_map f zero xs e = some_none e refl
entry_of_map f (suc i) [] e = some_none e refl
entry_of_map f (suc zero) (x ∷ xs) {y} e = (x, refl, cc)
entry_of_map f (suc (suc i)) (x ∷ xs) e = entry_of_map f (suc i) xs e

map-entry : {A B : Type 0} (f : A → B) (i : ℕ) (xs : List A) {x : A} → entry i xs ≡ some x → entry i (map f xs) ≡ some (f x)
unfolding entry
map-entry f zero xs e = some_none e refl
map-entry f (suc i) [] e = some_none e refl
map-entry f (suc zero) (y ∷ xs) {x} e = let same : y ≡ x = cc in rw same refl
map-entry f (suc (suc i)) (y ∷ xs) e = map-entry f (suc i) xs e

get_d_map : {A B : Type 0} (f : A → B) (xs : List A) (i : ℕ) (d : A) → get_or (map f xs) i (f d) ≡ f (get_or xs i d)
get_d_map f [] i d = refl
get_d_map f (x ∷ xs) zero d = refl
get_d_map f (x ∷ xs) (suc i) d = get_d_map f xs i d

-- ---- with and without offsets

-- what a source type is mapped to, the offsets left out
mapped_at : (E : Embedding) (s : ℕ) → get_or (mapping_in E) s unmapped ≡ without_offsets (get_or E s no_map)
unfolding mapping_in unmapped no_map without_offsets
mapped_at E s = get_d_map without_offsets E s no_map

mapped_to_lem : (E : Embedding) (s : ℕ) → mapped_to (mapping_in E) s ≡ target_of E s
unfolding mapped_to target_of without_offsets
mapped_to_lem E s = ap (λ (f : MappedType). f.target) (mapped_at E s)

-- ---- an accepted embedding is valid

-- once operands are right, every path can be walked
pub paths_walked : (S T : Table) (bs : List ℕ) → 0 < length T → embedding_operands T bs ≡ passes → AllRight (λ κ f i d. Walks T f.target d.steps) S (embedding_of bs)
unfolding target_of
paths_walked S T bs root operands s i d exists there = all_entry (paths_walk T bs root operands s).1 i d there

module _ (S T : Table) (root : 0 < length T) (bs : List ℕ) (e : judged_embedding S T bs ≡ sound) where
  abbrev E : Embedding
  E = embedding_of bs

  checks : PassedEmbedding S T bs (wrong_steps_verdict S T E)
  checks = embedding_checks S T bs (wrong_steps_verdict S T E) (sym (judged_with_lem S T bs) ∙ e)

  counts : Counted S E
  counts = form_holds S bs checks.form

  walks : AllRight (λ κ f i d. Walks T f.target d.steps) S E
  walks = paths_walked S T bs root checks.operands

  -- each path is valid, and clashes with none before it
  path_valid : (s i : ℕ) (d : Edge) → s < length S → entry i (get_or E s no_map).edges ≡ some d
      → ValidPath T (mapping_in E) (kind_of S s) (without_offsets (get_or E s no_map)) i d.steps
  unfolding without_offsets no_map
  path_valid s i d exists there =
      record {
        at_most_12 = all_entry (all_at no_map all_none (limits_hold bs checks.limits) s) i d there;
        steps_exist = (walks_exist T _ d.steps).0 (walks s i d exists there);
        ends_right = (ends_exactly S T E counts).0 checks.right_ends s i d exists there;
        steps_right_lem = (steps-exactly S T E counts walks).0 checks.right_steps_lem s i d exists there;
      }

  type_valid : (s : ℕ) → s < length S → ValidType T (mapping_in E) (kind_of S s) (without_offsets (get_or E s no_map))
  unfolding without_offsets target_of kind_of
  type_valid s exists =
      record {
        target_exists = (paths_walk T bs root checks.operands s).0;
        path_an_edge = length-map (get_or E s no_map).edges (λ (d : Edge). d.steps) ∙ along_at empty no_map counts s exists;
        valid_paths = λ i ps there.
            let of = entry_of_map (λ (d : Edge). d.steps) i (get_or E s no_map).edges there in
            subst (ValidPath T (mapping_in E) (kind_of S s) (without_offsets (get_or E s no_map)) i) of.2 (path_valid s i of.0 exists of.1);
        no_clash = λ i j ps qs less there later.
            let of = entry_of_map (λ (d : Edge). d.steps) i (get_or E s no_map).edges there in
            let by = entry_of_map (λ (d : Edge). d.steps) j (get_or E s no_map).edges later in
            subst (λ (rs : List ℕ). NoClash T (kind_of S s) (get_or E s no_map).target rs qs) of.2
            (subst (NoClash T (kind_of S s) (get_or E s no_map).target of.0.steps) by.2
            ((clash_exactly S T E counts).0 checks.no_clash s j by.0 exists by.1 i of.0 less of.1));
      }

  pub accepted_embedding_valid : ValidEmbedding S T (mapping_of bs)
  unfolding mapping_of mapping_in root_to_root
  accepted_embedding_valid =
      record {
        maps_each_type = length-map E without_offsets ∙ along-length counts;
        root_to_root_lem = mapped_to_lem E 0 ∙ eqb-true (target_of E 0) 0 checks.root;
        valid_types = λ s exists. subst (ValidType T (mapping_in E) (kind_of S s)) (sym (mapped_at E s)) (type_valid s exists);
      }

  pub accepted_embedding_written : bs ≡ embedding_bytes (mapping_of bs)
  accepted_embedding_written = form_written S bs checks.form

-- ---- the bytes of a valid embedding are accepted

-- a type of a valid table has at most 16 edges
edges_few : (types : ℕ) (κ : Kind) → ValidKind types κ → edges_of κ ≤ 16
unfolding ValidKind edges_of
edges_few types text v = omega arith
edges_few types empty v = omega arith
edges_few types (sequence ms) v = v.at_most_16
edges_few types (choice needed ms) v = v.0.at_most_16
edges_few types (choice optional ms) v = v.0.at_most_16
edges_few types (list m) v = omega arith

module _ (S T : Table) (M : PathMapping) (valid : ValidEmbedding S T M) where
  mapped : (s : ℕ) → s < length M → ValidType T M (kind_of S s) (get_or M s unmapped)
  mapped s exists = valid.valid_types s (omega (arith, valid.maps_each_type))

  counted : Along (λ (κ : Kind) (f : MappedType). length f.paths ≡ edges_of κ) S M
  unfolding kind_of
  counted = along_indices empty unmapped S M valid.maps_each_type (λ s exists. (valid.valid_types s exists).path_an_edge)

  short_paths : All (λ (f : MappedType). All (λ (ps : List ℕ). length ps ≤ 12) f.paths) M
  short_paths = all_from unmapped M (λ s exists. all_entries _ (λ i ps there. ((mapped s exists).valid_paths i ps there).at_most_12))

  paths_exist : All (λ (f : MappedType). (f.target < length T) × All (Walks T f.target) f.paths) M
  paths_exist =
      all_from unmapped M
      (λ s exists. ((mapped s exists).target_exists, all_entries _ (λ i ps there. (walks_exist T _ ps).1 ((mapped s exists).valid_paths i ps there).steps_exist)))

  -- no valid embedding of a valid table is longer than 25,729 bytes
  pub valid_embedding_short : ValidTable S → length (embedding_bytes M) ≤ 25729
  unfolding kind_of
  valid_embedding_short table =
      embedding_short S M table.at_most_64 (all_from empty S (λ t exists. edges_few (length S) (kind_of S t) (table.valid_kinds t exists))) counted short_paths

  -- as it is read from its bytes
  abbrev R : Embedding
  R = embedding_of (embedding_bytes M)

  read_valid : (s : ℕ) → s < length S → ValidType T (mapping_in R) (kind_of S s) (without_offsets (get_or R s no_map))
  unfolding mapping_of
  read_valid s exists =
      subst (ValidType T (mapping_in R) (kind_of S s)) (mapped_at R s)
      (subst (λ (N : PathMapping). ValidType T N (kind_of S s) (get_or N s unmapped)) (sym (mapping_of_bytes M)) (valid.valid_types s exists))

  read_path : (s i : ℕ) (d : Edge) → s < length S → entry i (get_or R s no_map).edges ≡ some d
      → ValidPath T (mapping_in R) (kind_of S s) (without_offsets (get_or R s no_map)) i d.steps
  unfolding without_offsets
  read_path s i d exists there = (read_valid s exists).valid_paths i d.steps (map-entry (λ (d : Edge). d.steps) i (get_or R s no_map).edges there)

  read_counts : Counted S R
  read_counts = form_holds S (embedding_bytes M) (form_passes S M counted)

  read_root : target_of R 0 ≡ 0
  unfolding mapping_of
  read_root = sym (mapped_to_lem R 0) ∙ ap (λ (N : PathMapping). mapped_to N 0) (mapping_of_bytes M) ∙ valid.root_to_root_lem

  read_walks : AllRight (λ κ f i d. Walks T f.target d.steps) S R
  unfolding without_offsets
  read_walks s i d exists there = (walks_exist T _ d.steps).1 (read_path s i d exists there).steps_exist

  pub valid_embedding_accepted : ValidTable S → judged_embedding S T (embedding_bytes M) ≡ sound
  unfolding fits root_to_root without_offsets
  valid_embedding_accepted table =
      embedding_accepted
      (record {
        short = le-leb (length (embedding_bytes M)) max_length (omega (arith, valid_embedding_short table));
        form = form_passes S M counted;
        limits = limits_pass M short_paths;
        operands = operands_pass T M paths_exist;
        root = eq-eqb _ _ read_root;
        right_ends = (ends_exactly S T R read_counts).1 (λ s i d exists there. (read_path s i d exists there).ends_right);
        right_steps_lem = (steps-exactly S T R read_counts read_walks).1 (λ s i d exists there. (read_path s i d exists there).steps_right_lem);
        no_clash = (clash_exactly S T R read_counts).1 (λ s i d exists there j c less later.
            (read_valid s exists).no_clash j i c.steps d.steps less (map-entry (λ (d : Edge). d.steps) j (get_or R s no_map).edges later) (map-entry (λ (d : Edge). d.steps) i (get_or R s no_map).edges there));
      })
