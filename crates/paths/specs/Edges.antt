-- The edges of a source type of an accepted setting, by the arrays: its target type, its paths and its members.
use Rattle.std.specs.Prelude.{◌≡◌, refl, true, length, take, drop}
use Rattle.std.proofs.Common.{sym, ◌∙◌, add-zero, length-take, length-drop, get_or-drop, length-take-le}
use Rattle.std.proofs.Math.Path.{ap}
use mathlib.Core.List.{List, [], ◌∷◌, Memᴰ}
use mathlib.Core.List as lists
use Prim.Native.Nat.{ℕ, zero, suc, ◌+◌, ◌-◌, ◌*◌, ◌≤◌, ◌<◌}
use native.Mathlib.Omega.{arith}
use Rattle.std.proofs.Math.ListN.{get_or}
use Rattle.model.specs.Definitions.Basics.{some_of}
use Rattle.model.specs.Definitions.Table.{Kind, text, empty, sequence, choice, list, Table, kind_of, members_of, edges_of, is_list}
use Rattle.model.specs.Definitions.Embedding.{Edge, TypeMap, no_map, target_of, paths_of, first_path, next, leaves, Divided, divide, divide_at}
use Rattle.model.specs.Definitions.Image.{Setting}
use Rattle.model.proofs.Theorems.Facts.{Walks, MemberPath, Along, along_none, along_both, All, all_none, all_more, ValidEdges, text_edge, no_edge, sequence_edges, choice_edges, list_edge, Valid}
use Rattle.model.proofs.Theorems.Tools.{true_false}
use Rattle.model.proofs.Theorems.ImageConforms.{list_left}
use Rattle.loaded_table.specs.Loaded.{kind_from, kind_in, types_in, kinds_of, counts_of, members_in, length_of_lem, kind_of_lem}
use Rattle.loaded_table.specs.Kinds.{code_text, choice_code, need_from, row_codes, choice_from, choice_range, list_code}
use Rattle.loaded_embedding.specs.Loaded.{targets_of, starts_of, lengths_of, steps_from, edges_from, edge_in, maps_from, embedding_in}
use Rattle.loaded_setting.specs.Ready.{setting_in, Ready}
use Rattle.paths.specs.Following.{Followable, path_at, paths_from}

-- ---- what a loaded embedding says of one source type

map_at : (em targets starts lengths : List ℕ) (s : ℕ) (S : Table) (i : ℕ) → i < length S
    → get_or (maps_from em targets starts lengths s S) i no_map
    ≡ record { target = get_or targets (s + i) 0; edges = edges_from em starts lengths ((s + i) * 16) (edges_of (kind_of S i)) }
unfolding maps_from kind_of
map_at em targets starts lengths s [] i h = absurd (omega arith)
map_at em targets starts lengths s (κ ∷ S) zero h = rw (add-zero s)
map_at em targets starts lengths s (κ ∷ S) (suc i) h =
    let on : s + suc i ≡ suc s + i = omega arith in
    rw on (map_at em targets starts lengths (suc s) S i (omega arith))

paths_map : (em map : List ℕ) (i n : ℕ) → lists.map (λ (e : Edge). e.steps) (edges_from em (starts_of map) (lengths_of map) i n) ≡ paths_from em map i n
unfolding edges_from edge_in paths_from
paths_map em map i zero = refl
paths_map em map i (suc n) = ap (λ (l : List (List ℕ)). path_at em map i ∷ l) (paths_map em map (suc i) n)

-- ---- the steps of every path of a valid embedding exist

along_walk : (X : Setting) (τ : ℕ) (κ : Kind) {ms : List ℕ} {pss : List (List ℕ)} → Along (MemberPath X τ κ) ms pss → All (Walks X.target τ) pss
along_walk X τ κ along_none = all_none
along_walk X τ κ (along_both m rest) = all_more m.good.walks (along_walk X τ κ rest)

edges_walk : (X : Setting) (τ : ℕ) {κ : Kind} {pss : List (List ℕ)} → ValidEdges X τ κ pss → All (Walks X.target τ) pss
edges_walk X τ (text_edge good ends) = all_more good.walks all_none
edges_walk X τ no_edge = all_none
edges_walk X τ (sequence_edges along pairs) = along_walk X τ _ along
edges_walk X τ (choice_edges along pairs shared) = along_walk X τ _ along
edges_walk X τ (list_edge path) = all_more path.good.walks all_none

walk_at : (T : Table) (τ : ℕ) (em map : List ℕ) (a n i : ℕ) → All (Walks T τ) (paths_from em map a n) → i < n → Walks T τ (path_at em map (a + i))
unfolding paths_from
walk_at T τ em map a zero i all less = absurd (omega arith)
walk_at T τ em map a (suc n) zero (all_more w rest) less = rw (add-zero a) w
walk_at T τ em map a (suc n) (suc i) (all_more w rest) less =
    let on : a + suc i ≡ suc a + i = omega arith in
    rw on (walk_at T τ em map (suc a) n i rest (omega arith))

-- ---- the path of a list leaves a list

-- so there is a step behind those before the list
divide_less : (T : Table) (τ : ℕ) (ps : List ℕ) → some_of is_list (leaves T τ ps) ≡ true → length (divide T τ ps).before < length ps
unfolding divide leaves some_of
divide_less T τ [] e = true_false e refl
divide_less T τ (p ∷ ps) e = go (kind_of T τ) e (divide_less T (next T τ p) ps)
  where
    d : Divided
    d = divide T (next T τ p) ps

    go : (κ : Kind) → some_of is_list (κ ∷ leaves T (next T τ p) ps) ≡ true → (some_of is_list (leaves T (next T τ p) ps) ≡ true → length d.before < length ps)
        → length (divide_at κ p ps d).before < suc (length ps)
    go text f later = unfold divide_at is_list in omega (arith, later f)
    go empty f later = unfold divide_at is_list in omega (arith, later f)
    go (sequence ms) f later = unfold divide_at is_list in omega (arith, later f)
    go (choice need ms) f later = unfold divide_at is_list in omega (arith, later f)
    go (list m) f later = unfold divide_at in omega arith

only_path : {X : Setting} {τ m : ℕ} {ps : List ℕ} → ValidEdges X τ (list m) (ps ∷ []) → length (divide X.target τ ps).before < length ps
only_path {X} {τ} {m} {ps} (list_edge path) = divide_less X.target τ ps (list_left path.good)

steps_length : (em : List ℕ) (a n : ℕ) → length (steps_from em a n) ≡ n
unfolding steps_from
steps_length em a zero = refl
steps_length em a (suc n) = ap suc (steps_length em (a + 2) n)

-- ---- a type's row

-- a member of a row
in_row : (row : List ℕ) (n i : ℕ) → i < n → n ≤ length row → Memᴰ (get_or row i 0) (take n row)
in_row [] n i less few = absurd (omega arith)
in_row (m ∷ row) zero i less few = absurd (omega arith)
in_row (m ∷ row) (suc n) zero less few = mathlib.Core.List.Memᴰ.head refl
in_row (m ∷ row) (suc n) (suc i) less few = mathlib.Core.List.Memᴰ.tail (in_row row n i (omega arith) (omega arith))

-- the members and edges of a sequence or a choice
row_code : (code count : ℕ) (row : List ℕ) → 2 ≤ code → code < 5 → (edges_of (kind_from code count row) ≡ length (take count row)) × (members_of (kind_from code count row) ≡ take count row)
unfolding edges_of members_of
row_code code count row =
    row_codes (λ (k : ℕ). (edges_of (kind_from k count row) ≡ length (take count row)) × (members_of (kind_from k count row) ≡ take count row)) (refl, refl) (refl, refl) (refl, refl) code

module _ {source target map em : List ℕ} (ready : Ready source target map em) {σ : ℕ} (exists : σ < types_in source) where
  abbrev X : Setting
  X = setting_in source target map em

  abbrev κ : Kind
  κ = kind_of X.source σ

  abbrev count : ℕ
  count = get_or (counts_of source) σ 0

  pub small : σ < 64
  small = omega (arith, ready.source_bounded.few_types)

  pub few : count ≤ 16
  few = ready.source_bounded.few_members σ

  in_source : σ < length X.source
  in_source = omega (arith, length_of_lem source)

  pub target_is : target_of X.embedding σ ≡ get_or (targets_of map) σ 0
  unfolding target_of embedding_in
  target_is =
      ap (λ (m : TypeMap). m.target) (map_at em (targets_of map) (starts_of map) (lengths_of map) 0 X.source σ in_source)
      ∙ ap (λ (i : ℕ). get_or (targets_of map) i 0) (omega arith)

  pub paths_are : paths_of X.embedding σ ≡ paths_from em map (σ * 16) (edges_of κ)
  unfolding paths_of embedding_in
  paths_are =
      ap (λ (m : TypeMap). lists.map (λ (e : Edge). e.steps) m.edges) (map_at em (targets_of map) (starts_of map) (lengths_of map) 0 X.source σ in_source)
      ∙ paths_map em map ((0 + σ) * 16) (edges_of κ)
      ∙ ap (λ (i : ℕ). paths_from em map i (edges_of κ)) (omega arith)

  pub kind_is : κ ≡ kind_in (kinds_of source) (counts_of source) (members_in source) σ
  kind_is = kind_of_lem source σ exists

  -- the path of edge i can be followed
  pub edge_follows : (i : ℕ) → i < edges_of κ
      → Followable target em (get_or (starts_of map) (σ * 16 + i) 0) (get_or (lengths_of map) (σ * 16 + i) 0) (get_or (targets_of map) σ 0)
  edge_follows i less =
      let valid : Valid X = ready.valid in
      let all : All (Walks X.target (target_of X.embedding σ)) (paths_of X.embedding σ) = edges_walk X _ (valid.edges σ in_source) in
      let all' : All (Walks X.target (get_or (targets_of map) σ 0)) (paths_from em map (σ * 16) (edges_of κ)) = rw (target_is, paths_are) at all in
      record {
        bounded = ready.target_bounded;
        well_formed = valid.target_sound.well_formed;
        is_type = omega (arith, valid.target_exists σ in_source, target_is, length_of_lem target);
        within = ready.paths_bounded.within (σ * 16 + i);
        walks = walk_at X.target _ em map (σ * 16) (edges_of κ) i all' less;
      }

  pub members_long : length (members_in source) ≡ 1024
  members_long = omega (arith, length-take 1024 (drop 256 source), length-drop 256 source, ready.source_bounded.size)

  row_long : count ≤ length (drop (σ * 16) (members_in source))
  row_long = omega (arith, few, small, members_long, length-drop (σ * 16) (members_in source))

  abbrev row : List ℕ
  row = take count (drop (σ * 16) (members_in source))

  pub row_length_lem : length row ≡ count
  row_length_lem = length-take-le count (drop (σ * 16) (members_in source)) row_long

  pub is_sequence_lem : get_or (kinds_of source) σ 0 ≡ 2 → κ ≡ sequence row
  is_sequence_lem code = kind_is ∙ rw code

  -- a sequence or a choice: its members are its row, and each has an edge
  -- a type whose code isn't that of a text is none
  pub no_text : (get_or (kinds_of source) σ 0 ≡ 0 → ⊥) → κ ≡ text → ⊥
  no_text other e = other (code_text (get_or (kinds_of source) σ 0) count (drop (σ * 16) (members_in source)) (sym kind_is ∙ e))

  -- a text has one path
  module _ (code : get_or (kinds_of source) σ 0 ≡ 0) where
    pub is_text_lem : κ ≡ text
    is_text_lem = kind_is ∙ rw code

    pub text-follows : Followable target em (get_or (starts_of map) (σ * 16 + 0) 0) (get_or (lengths_of map) (σ * 16 + 0) 0) (get_or (targets_of map) σ 0)
    unfolding edges_of
    text-follows =
        let one : edges_of κ ≡ 1 = ap edges_of is_text_lem in
        edge_follows 0 (omega arith)

    pub text_path : first_path (paths_of X.embedding σ) ≡ path_at em map (σ * 16 + 0)
    unfolding paths_from first_path edges_of
    text_path = ap first_path (paths_are ∙ ap (λ (x : Kind). paths_from em map (σ * 16) (edges_of x)) is_text_lem) ∙ ap (path_at em map) (sym (add-zero (σ * 16)))

  module _ (low : 2 ≤ get_or (kinds_of source) σ 0) (high : get_or (kinds_of source) σ 0 < 5) where
    with_row : (edges_of κ ≡ length row) × (members_of κ ≡ row)
    with_row = rw kind_is (row_code (get_or (kinds_of source) σ 0) count (drop (σ * 16) (members_in source)) low high)

    pub row-edges : edges_of κ ≡ count
    row-edges = with_row.0 ∙ row_length_lem

    pub row-follows : (i : ℕ) → i < count
        → Followable target em (get_or (starts_of map) (σ * 16 + i) 0) (get_or (lengths_of map) (σ * 16 + i) 0) (get_or (targets_of map) σ 0)
    row-follows i less = edge_follows i (omega (arith, row-edges))

    pub row_member : (i : ℕ) → i < count → get_or (members_in source) (σ * 16 + i) 0 < types_in source
    row_member i less =
        let here : Memᴰ (get_or (drop (σ * 16) (members_in source)) i 0) (members_of κ) = rw with_row.1 (in_row (drop (σ * 16) (members_in source)) count i less row_long) in
        omega (arith, get_or-drop (σ * 16) (members_in source) i 0, length_of_lem source, ready.valid.source_sound.well_formed.members_exist σ _ here)

  -- a choice of either kind
  module _ (choosing : choice_code (get_or (kinds_of source) σ 0) ≡ true) where
    pub is_choice_lem : κ ≡ choice (need_from (get_or (kinds_of source) σ 0)) row
    is_choice_lem = kind_is ∙ choice_from (get_or (kinds_of source) σ 0) count (drop (σ * 16) (members_in source)) choosing

    range : (2 ≤ get_or (kinds_of source) σ 0) × (get_or (kinds_of source) σ 0 < 5)
    range = choice_range (get_or (kinds_of source) σ 0) choosing

    -- it has a member
    pub choice_members : 0 < count
    choice_members = omega (arith, ready.valid.source_sound.well_formed.choices_choose σ _ row is_choice_lem, row_length_lem)

    -- the path of its first member
    pub first-follows : Followable target em (get_or (starts_of map) (σ * 16) 0) (get_or (lengths_of map) (σ * 16) 0) (get_or (targets_of map) σ 0)
    first-follows = rw (add-zero (σ * 16)) at (row-follows range.0 range.1 0 choice_members)

    -- which is the first of its paths
    pub first_path_lem : first_path (paths_of X.embedding σ) ≡ path_at em map (σ * 16)
    unfolding paths_from first_path
    first_path_lem =
        let more : edges_of κ ≡ suc (count - 1) = omega (arith, row-edges range.0 range.1, choice_members) in
        ap first_path (paths_are ∙ ap (paths_from em map (σ * 16)) more)

  -- a list
  module _ (code : 5 ≤ get_or (kinds_of source) σ 0) where
    pub is_list_lem : κ ≡ list (get_or (members_in source) (σ * 16) 0)
    is_list_lem =
        let row₀ : List ℕ = drop (σ * 16) (members_in source) in
        let first : get_or row₀ 0 0 ≡ get_or (members_in source) (σ * 16) 0 =
        get_or-drop (σ * 16) (members_in source) 0 0 ∙ ap (λ (i : ℕ). get_or (members_in source) i 0) (add-zero (σ * 16)) in
        kind_is ∙ list_code (get_or (kinds_of source) σ 0) count row₀ code ∙ ap list first

    pub list-edge-one : edges_of κ ≡ 1
    unfolding edges_of
    list-edge-one = ap edges_of is_list_lem

    -- its one path
    pub list-follows : Followable target em (get_or (starts_of map) (σ * 16) 0) (get_or (lengths_of map) (σ * 16) 0) (get_or (targets_of map) σ 0)
    list-follows = rw (add-zero (σ * 16)) at (edge_follows 0 (omega (arith, list-edge-one)))

    pub list-less : length (divide X.target (get_or (targets_of map) σ 0) (path_at em map (σ * 16))).before < get_or (lengths_of map) (σ * 16) 0
    unfolding paths_from
    list-less =
        let edges : ValidEdges X (target_of X.embedding σ) κ (paths_of X.embedding σ) = ready.valid.edges σ in_source in
        let all : paths_of X.embedding σ ≡ path_at em map (σ * 16) ∷ [] = paths_are ∙ ap (paths_from em map (σ * 16)) list-edge-one in
        omega (arith, only_path (rw (target_is, is_list_lem, all) at edges), steps_length em (get_or (starts_of map) (σ * 16) 0 + 2) (get_or (lengths_of map) (σ * 16) 0))

    pub list-member : get_or (members_in source) (σ * 16) 0 < types_in source
    unfolding members_of
    list-member =
        let here : Memᴰ (get_or (members_in source) (σ * 16) 0) (members_of κ) = rw is_list_lem (mathlib.Core.List.Memᴰ.head refl) in
        omega (arith, length_of_lem source, ready.valid.source_sound.well_formed.members_exist σ _ here)
