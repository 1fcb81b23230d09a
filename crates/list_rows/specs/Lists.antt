-- The two rows of a source list: its own, up to the first list on its path, and that of an item.
use Rattle.std.specs.Prelude.{◌≡◌, Bool, true, false, ℕ, suc, ◌+◌, ◌-◌, ◌*◌, ◌≤◌, ◌<◌, get_or, ltb}
use Rattle.std.proofs.Math.Path.{refl, sym, ap, ap₂, subst}
use Rattle.std.proofs.Common.{◌∙◌, add-one, ltb-true, ltb-false}
use mathlib.Core.List.{List, [], ◌∷◌}
use Rattle.std.proofs.Math.Option.{Option, none}
use native.Mathlib.Omega.{arith}
use Rattle.std.proofs.Math.ListN.{length}
use Rattle.model.specs.Definitions.Table.{Table, kind_of, list, edges_of}
use Rattle.model.specs.Definitions.Embedding.{Divided, divide, first_path}
use Rattle.model.specs.Definitions.Image.{Setting, placed, place, is_placed}
use Rattle.model.specs.Definitions.Templates.{child, Hole, Shape, gap, framed, shaped, Symbol, holes_of, template, template_by, item_template, item_by, divided_of, items}
use Rattle.model.proofs.Theorems.Facts.{Fits}
use Rattle.model.proofs.Theorems.TemplateShapes.{Regular, regular_built, item_regular}
use Rattle.model.proofs.Theorems.NeverLonger.{rest_always_fits}
use Rattle.model.specs.Definitions.Basics.{pick}
use Rattle.loaded_table.specs.Loaded.{table_by, types_in, kinds_of, members_in, length_of_lem}
use Rattle.loaded_embedding.specs.Loaded.{starts_of, lengths_of, targets_of}
use Rattle.loaded_setting.specs.Ready.{setting_in, Ready}
use Rattle.paths.specs.declared.Cut.{Cut}
use Rattle.paths.specs.Following.{path_at, paths_from, Cuts}
use Rattle.paths.specs.Edges.{target_is, paths_are, is_list_lem, list-edge-one, list-less}
use Rattle.rows.specs.Rows.{row_index, source_row, item_row, hole_of, type_row, rows_before}
use Rattle.growing.specs.declared.Edges.{Edges}
use Rattle.growing.specs.Growing.{placement_of, placements_of, Task, element_row, step_bound}
use Rattle.row_sizes.specs.Sizes.{source_index_small}
use Rattle.filler_rows.specs.Laws.{puts_on, whole_more}
use Rattle.filler_rows.specs.Storing.{RowMade}
use Rattle.pools.specs.Room.{edge_room}
use Rattle.own_rows.specs.Making.{held_row}
use Rattle.own_rows.specs.Progress.{Progress, later_room}
use Rattle.own_rows.specs.Wanted.{Wanted, RowsDone, done_more, done_past, wanted_type, of_filler, of_type, of_item}
use Rattle.own_rows.specs.OnePath.{one_path, one_placed, one_readable, one_short}
use Rattle.own_rows.specs.Holes.{child_hole, type_task, type_template}
use Rattle.own_rows.specs.Steps.{later_split}

-- ---- what the model places for it

list_holes : (em map : List ℕ) (T : Table) (τ i : ℕ) (t : Option ℕ) (m : ℕ) {r : Cut} → Cuts em (get_or (starts_of map) i 0) (get_or (lengths_of map) i 0) (divide T τ (path_at em map i)) r
    → placement_of em (get_or (starts_of map) i 0 + 2) r.depth 145 ∷ [] ≡ holes_of gap T (list m) τ (paths_from em map i 1) t
unfolding holes_of first_path paths_from placement_of hole_of pick
list_holes em map T τ i t m cuts = ap (λ (path : List ℕ). placed path (gap items) ∷ []) cuts.before

-- ---- its paths

-- the path of a source list up to the first list on it, and the path from an item on
abbrev pub before_path : List ℕ → ℕ → Cut → Edges
before_path map s r = one_path (get_or (starts_of map) (s * 16) 0 + 2) r.depth 145

abbrev pub rest_path : List ℕ → ℕ → Cut → Edges
rest_path map s r = one_path (get_or (starts_of map) (s * 16) 0 + 2 * suc r.depth + 2) (get_or (lengths_of map) (s * 16) 0 - suc r.depth) 128

-- ---- room

-- a type leaves room for 18 times the steps of its first edge
room_type : (source map : List ℕ) (s : ℕ) → s < types_in source → 18 * get_or (lengths_of map) (s * 16) 0 + later_room source map (suc s) ≤ later_room source map s
unfolding edge_room
room_type source map s less = omega (arith, later_split source map s less)

-- ---- a source list

-- what is known where its path is divided
abbrev pub CutAt : List ℕ → List ℕ → List ℕ → ℕ → Cut → Type 0
CutAt target map em s r = Cuts em (get_or (starts_of map) (s * 16) 0) (get_or (lengths_of map) (s * 16) 0) (divide (table_by target) (get_or (targets_of map) s 0) (path_at em map (s * 16))) r

-- symbols of its own row, and of the row of its items, at most
unfoldable pub before_room : Setting → ℕ → ℕ
before_room X s = 18 * length (divided_of X s).before + 3

unfoldable pub rest_room : List ℕ → Setting → ℕ → ℕ
rest_room map X s = 18 * (get_or (lengths_of map) (s * 16) 0 - suc (length (divided_of X s).before)) + 3

-- the type of an element that is built exists
built_exists : {T : Table} {Ok : Hole → Type 0} {t : ℕ} {k r : Shape} → Regular T Ok (framed true t k r) → t < length T
built_exists (regular_built exists below after) = exists

module _ {source target map em : List ℕ} (ready : Ready source target map em) {s : ℕ} (exists : s < types_in source) (code : 5 ≤ get_or (kinds_of source) s 0) where
  abbrev X : Setting
  X = setting_in source target map em

  in_source : s < length X.source
  in_source = omega (arith, length_of_lem source)

  abbrev cut_path : Divided
  cut_path = divide (table_by target) (get_or (targets_of map) s 0) (path_at em map (s * 16))

  -- the model divides the same path
  divided_is : divided_of X s ≡ cut_path
  unfolding divided_of first_path paths_from
  divided_is = rw (target_is ready exists, paths_are ready exists, list-edge-one ready exists code) refl

  before_less : length (divided_of X s).before < get_or (lengths_of map) (s * 16) 0
  before_less = rw divided_is (list-less ready exists code)

  -- the two rows take room for the steps of the one edge
  both_room : before_room X s + rest_room map X s ≤ 18 * get_or (lengths_of map) (s * 16) 0
  unfolding before_room rest_room
  both_room = omega (arith, before_less)

  -- all templates of a list are one
  template_same : (t : Option ℕ) → template X s none ≡ template X s t
  unfolding template template_by holes_of
  template_same t = rw (is_list_lem ready exists code) refl

  module _ {r : Cut} (cuts : CutAt target map em s r) where
    pub depth_is : r.depth ≡ length (divided_of X s).before
    depth_is = cuts.depth ∙ ap (λ (x : Divided). length x.before) (sym divided_is)

    pub depth-less : r.depth < get_or (lengths_of map) (s * 16) 0
    depth-less = omega (arith, depth_is, before_less)

    -- its own row: the path before the list, to the hole of the items
    before-placed : placements_of em (before_path map s r) ≡ holes_of gap (table_by target) (kind_of (table_by source) s) (get_or (targets_of map) s 0) (paths_from em map (s * 16) (edges_of (kind_of (table_by source) s))) none
    before-placed =
        rw (list-edge-one ready exists code, is_list_lem ready exists code)
        (one_placed em _ _ 145 ∙ list_holes em map (table_by target) (get_or (targets_of map) s 0) (s * 16) none (get_or (members_in source) (s * 16) 0) cuts)

    pub before-task : Task target em (before_path map s r) step_bound (get_or (targets_of map) s 0)
    before-task = type_task ready exists none (before_path map s r) before-placed (one_readable em _ _ 145 (omega (arith, ready.paths_bounded.within (s * 16), depth-less)) (omega arith, omega arith))

    pub before-row : held_row target em (before_path map s r) (get_or (targets_of map) s 0) ≡ template X s none
    before-row = type_template ready exists none (before_path map s r) before-placed

    pub before_short : length (element_row target em (before_path map s r) step_bound (get_or (targets_of map) s 0)) ≤ before_room X s
    unfolding before_room
    before_short = omega (arith, one_short em _ _ 145 before-task, depth_is)

    -- the row of an item: the path behind the list, to the hole of a child
    item_is : r.item ≡ (divided_of X s).item
    item_is = cuts.item ∙ ap (λ (x : Divided). x.item) (sym divided_is)

    item_there : r.item < types_in target
    unfolding item_by shaped
    item_there =
        let there : (divided_of X s).item < length X.target = built_exists (item_regular X ready.valid s _ in_source (is_list_lem ready exists code)) in
        omega (arith, there, item_is, length_of_lem target)

    rest-placed : placements_of em (rest_path map s r) ≡ placed (divided_of X s).rest (gap (child 0)) ∷ []
    unfolding placement_of
    rest-placed =
        one_placed em _ _ 128
        ∙ ap₂ (λ (path : List ℕ) (h : Hole). placed path (gap h) ∷ []) (cuts.rest ∙ ap (λ (x : Divided). x.rest) (sym divided_is)) (child_hole 0 (omega arith))

    pub rest-task : Task target em (rest_path map s r) step_bound r.item
    unfolding divided_of
    rest-task =
        let fits : Fits X.target step_bound (divided_of X s).item (placed (divided_of X s).rest (gap (child 0)) ∷ []) =
        rest_always_fits X ready.valid s _ in_source (is_list_lem ready exists code) (gap (child 0)) in
        record {
          bounded = ready.target_bounded;
          well_formed = ready.valid.target_sound.well_formed;
          is_type = item_there;
          short = ready.paths_bounded.document_short;
          paths = one_readable em _ _ 128 (omega (arith, ready.paths_bounded.within (s * 16), depth-less)) (omega arith, omega arith);
          fits = subst (λ (τ : ℕ). Fits X.target step_bound τ (placements_of em (rest_path map s r))) (sym item_is) (subst (Fits X.target step_bound (divided_of X s).item) (sym rest-placed) fits);
        }

    pub rest-row : element_row target em (rest_path map s r) step_bound r.item ≡ item_template X s
    unfolding element_row item_template item_by place shaped is_placed
    rest-row = rw (rest-placed, item_is) refl

    pub rest_short : length (element_row target em (rest_path map s r) step_bound r.item) ≤ rest_room map X s
    unfolding rest_room
    rest_short = omega (arith, one_short em _ _ 128 rest-task, depth_is)

  -- ---- one type more

  -- it has no other templates than its first
  index_none : (t : Option ℕ) (j : ℕ) → row_index (kind_of X.source s) t ≡ j → j ≡ 0
  unfolding row_index
  index_none t j e = sym (rw (is_list_lem ready exists code) at e)

  -- the last row of the source list is the row of its items
  wanted_item : {row : List Symbol} {d : ℕ} → Wanted X (type_row s 16) row d → (row ≡ item_template X s) × (d ≡ length (divided_of X s).before)
  unfolding item_row source_row
  wanted_item (of_filler τ exists is what depth) = absurd (omega (arith, exists, length_of_lem target, ready.target_bounded.few_types))
  wanted_item (of_type s' t exists chosen is what depth) =
      let small = source_index_small ready.source_bounded s' t (omega (arith, exists, length_of_lem source)) chosen in
      let same : s' ≡ s = omega (arith, is, small) in
      let last : row_index (kind_of X.source s') t ≡ 16 = omega (arith, is, small) in
      absurd (omega (arith, index_none t 16 (rw same at last)))
  wanted_item (of_item s' m exists kind is what depth) = let same : s' ≡ s = omega arith in (rw same at what, rw same at depth)

  -- nobody wants the rows between the two of a list
  between : (r : ℕ) (row : List Symbol) (depth : ℕ) → Wanted X r row depth → r < type_row s 16 → r < rows_before s + 1
  between r row depth wanted less = go (ltb r (rows_before s + 1)) refl
    where
      go : (b : Bool) → ltb r (rows_before s + 1) ≡ b → r < rows_before s + 1
      go true e = ltb-true r _ e
      go false e =
          let high = ltb-false r _ e in
          let j : ℕ = r - rows_before s in
          let is : r ≡ type_row s j = omega (arith, high) in
          let found = wanted_type ready s j (omega (arith, high)) (λ last. absurd (omega (arith, high))) (subst (λ (k : ℕ). Wanted X k row depth) is wanted) in
          absurd (omega (arith, high, index_none found.0 j found.2))

  -- there is room for both
  pub list_room : {pool₀ places₀ pool places : List ℕ} {at : ℕ} → Progress source target map em pool₀ places₀ s pool places at → at + (before_room X s + rest_room map X s) ≤ length pool
  list_room now = omega (arith, room_type source map s exists, now.room, now.whole.pool_length, both_room)

  -- its two rows are one type more
  pub list_progress : {pool₀ places₀ pool places : List ℕ} {at : ℕ} {pool₁ places₁ : List ℕ} {end : ℕ} {pool₂ places₂ : List ℕ} {last : ℕ} → Progress source target map em pool₀ places₀ s pool places at
      → RowMade pool places at (rows_before s) (template X s none) 0 pool₁ places₁ end
      → RowMade pool₁ places₁ end (type_row s 16) (item_template X s) (length (divided_of X s).before) pool₂ places₂ last
      → end ≤ at + before_room X s → last ≤ end + rest_room map X s
      → Progress source target map em pool₀ places₀ (s + 1) pool₂ places₂ last
  list_progress {pool₀} {places₀} {pool} {places} {at} {pool₁} {places₁} {end} {pool₂} {places₂} {last} now own item own-short item-short =
      let short : last ≤ at + 18 * get_or (lengths_of map) (s * 16) 0 = omega (arith, own-short, item-short, both_room) in
      let room = room_type source map s exists in
      let one = done_more now.done own
      (λ row d wanted. let zero_is : rows_before s ≡ type_row s 0 = omega arith in
      let found = wanted_type ready s 0 (omega arith) (λ last. absurd (omega arith)) (subst (λ (k : ℕ). Wanted X k row d) zero_is wanted) in
      (template_same found.0 ∙ sym found.3, sym found.4)) in
      let two = done_more (done_past (type_row s 16) one between) item
      (λ row d wanted. let found = wanted_item wanted in (sym found.0, sym found.1)) in
      let all : type_row s 16 + 1 ≡ rows_before (suc s) = omega arith in
      rw (add-one s) record {
        whole = whole_more item (whole_more own now.whole (omega (arith, short, room, now.room, puts_on item.puts))) (omega (arith, short, room, now.room));
        done = subst (λ (k : ℕ). RowsDone X k pool₂ places₂ last) all two;
        room = omega (arith, short, room, now.room);
      }
