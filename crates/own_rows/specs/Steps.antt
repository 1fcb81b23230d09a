-- The rows of a source type, one after the other.
use Rattle.std.specs.Prelude.{◌≡◌, Bool, length, drop, get_or}
use Rattle.std.proofs.Math.Path.{refl}
use Rattle.std.proofs.Common.{sym, ap, ◌∙◌}
use Rattle.std.proofs.Math.Bool.{true, false}
use mathlib.Core.List.{List}
use Rattle.std.proofs.Math.Option.{Option, none}
use Prim.Native.Nat.{ℕ, zero, suc, ◌+◌, ◌-◌, ◌*◌, ◌≤◌, ◌<◌}
use native.Mathlib.Omega.{arith}
use Rattle.std.proofs.Math.Dec.{eqb}
use borrow.Author.Tests.{eqb-true, eqb-false}
use Rattle.model.specs.Definitions.Table.{Kind, text, empty, list, kind_of, edges_of}
use Rattle.model.specs.Definitions.Image.{Placement, is_placed}
use Rattle.model.specs.Definitions.Templates.{Shape, Symbol, gap, row_of, filler_row, holes_of}
use Rattle.loaded_table.specs.Loaded.{table_by, types_in, kinds_of, counts_of, members_in, length_of_lem}
use Rattle.loaded_embedding.specs.Loaded.{PathsBounded, targets_of}
use Rattle.loaded_setting.specs.Ready.{setting_in, Ready}
use Rattle.paths.specs.Following.{paths_from}
use Rattle.paths.specs.Edges.{target_is, kind_is, is_sequence_lem, row-edges, few}
use Rattle.loaded_table.specs.Kinds.{other_code, code_list}
use Rattle.rows.specs.Rows.{row_index, source_row, item_row, FirstChild, HasRow, HasRows, IsWord, type_row, rows_before}
use Rattle.rows.specs.Laws.{row_of_other}
use Rattle.growing.specs.declared.Edges.{Edges}
use Rattle.growing.specs.Growing.{placements_from, placements_of, PathsReadable, Task, element_row, step_bound}
use Rattle.row_sizes.specs.Sizes.{source_index_small}
use Rattle.filler_rows.specs.Storing.{Stored, Whole, RowMade}
use Rattle.filler_rows.specs.Laws.{whole_more}
use Rattle.pools.specs.Room.{edge_room, nothing_of, nothing_room}
use Rattle.own_rows.specs.Making.{edge_placements, EdgesFrom, OwnEdges, held_row}
use Rattle.own_rows.specs.Bounds.{weight}
use Rattle.own_rows.specs.Short.{edges_room, edges_gaps, element_short}
use Rattle.own_rows.specs.Wanted.{Wanted, of_filler, of_type, of_item, done_filler, done_more, done_past, wanted_type}
use Rattle.own_rows.specs.Holes.{text_holes, empty_holes, sequence_holes, type_task, type_template}
use Rattle.own_rows.specs.Progress.{type_room, later_room, Progress, Partly}
use Rattle.own_rows.specs.Laws.{room_split}

-- ---- room

-- the room of a type, and of the later ones
pub later_split : (source map : List ℕ) (s : ℕ) → s < types_in source → later_room source map s ≡ type_room source map s + later_room source map (suc s)
unfolding nothing_room
later_split source map s exists =
    let left : (types_in source - s) * 16 ≡ 16 + (types_in source - suc s) * 16 = omega arith in
    let on : s * 16 + 16 ≡ suc s * 16 = omega arith in
    let edges : edge_room map (s * 16) ((types_in source - s) * 16) ≡ edge_room map (s * 16) 16 + edge_room map (suc s * 16) ((types_in source - suc s) * 16) =
    ap (edge_room map (s * 16)) left ∙ rw on at (room_split map (s * 16) 16 ((types_in source - suc s) * 16)) in
    let more : types_in source - s ≡ suc (types_in source - suc s) = omega arith in
    let nothing : nothing_room source map s (types_in source - s) ≡ nothing_of source map s + nothing_room source map (suc s) (types_in source - suc s) = rw more refl in
    omega (arith, edges, nothing)

-- the row of an element without paths is one symbol
element_bare : (target em : List ℕ) (e : Edges) (n t : ℕ) → e.count ≡ 0 → length (element_row target em e n t) ≡ 1
unfolding element_row placements_from is_placed row_of
element_bare target em e n t bare = rw bare refl

-- the row of an element takes no more than its edges have room
element_fits : {target em map : List ℕ} {e : Edges} {first hole n t : ℕ} → Task target em e step_bound t → PathsBounded em map → EdgesFrom map first hole n e → (w : ℕ) → n ≤ w → 0 < w
    → length (element_row target em e step_bound t) ≤ edge_room map first w
element_fits {target} {em} {map} {e} {first} {hole} {n} {t} task bounded edges w less wide = go (eqb e.count 0) refl
  where
    are : placements_of em e ≡ edge_placements em map first hole n
    are = edges.placements em bounded

    go : (b : Bool) → eqb e.count 0 ≡ b → length (element_row target em e step_bound t) ≤ edge_room map first w
    go true q = omega (arith, element_bare target em e step_bound t (eqb-true e.count 0 q), edges_room em map first hole n w less)
    go false q =
        let short = element_short task (eqb-false e.count 0 q) (rw are (edges_gaps em map first hole n)) in
        omega (arith, short, ap weight are, edges_room em map first hole n w less)

-- ---- rows

-- of the pool and the places that there were, only the lengths matter
whole_from : {pool₀ places₀ pool₁ places₁ pool places : List ℕ} {at : ℕ} → length pool₀ ≡ length pool₁ → length places₀ ≡ length places₁ → Whole pool₀ places₀ pool places at → Whole pool₁ places₁ pool places at
whole_from same same' whole =
    record {
      pool_length = whole.pool_length ∙ same;
      places_length = whole.places_length ∙ same';
      fits = omega (arith, whole.fits, same);
      within = λ r. omega (arith, whole.within r, same);
    }

module _ {source target map em : List ℕ} where
  pub progress_from : {pool₀ places₀ pool₁ places₁ : List ℕ} {s : ℕ} {pool places : List ℕ} {at : ℕ} → length pool₀ ≡ length pool₁ → length places₀ ≡ length places₁
      → Progress source target map em pool₀ places₀ s pool places at → Progress source target map em pool₁ places₁ s pool places at
  progress_from same same' now = record { whole = whole_from same same' now.whole; done = now.done; room = omega (arith, now.room, same) }

  -- as seen from here
  pub partly_here : {pool₀ places₀ : List ℕ} {s j left : ℕ} {pool places : List ℕ} {at : ℕ} → Partly source target map em pool₀ places₀ s j left pool places at
      → Partly source target map em pool places s j left pool places at
  partly_here now =
      record { whole = whole_from (sym now.whole.pool_length) (sym now.whole.places_length) now.whole; done = now.done; room = omega (arith, now.room, now.whole.pool_length) }

-- these are the paths of row j of source type s, which has at most `most` symbols
pub record RowEdges (source target map em : List ℕ) (s j most : ℕ) (e : Edges) : Type 0 where
  pub task : Task target em e step_bound (get_or (targets_of map) s 0)
  pub short : length (element_row target em e step_bound (get_or (targets_of map) s 0)) ≤ most
  pub is : (row : List Symbol) (d : ℕ) → Wanted (setting_in source target map em) (type_row s j) row d → (held_row target em e (get_or (targets_of map) s 0) ≡ row) × (0 ≡ d)

module _ {source target map em : List ℕ} (ready : Ready source target map em) {s : ℕ} (exists : s < types_in source) where
  abbrev κ : Kind
  κ = kind_of (table_by source) s

  abbrev τ : ℕ
  τ = get_or (targets_of map) s 0

  target_small : τ < types_in target
  target_small = omega (arith, ready.valid.target_exists s (omega (arith, length_of_lem source)), target_is ready exists, length_of_lem target)

  -- what the model places for the row of first child t
  abbrev pub HolesAre : List (Placement Shape) → Option ℕ → Type 0
  HolesAre ps t = ps ≡ holes_of gap (table_by target) κ τ (paths_from em map (s * 16) (edges_of κ)) t

  -- paths along which that is placed are those of the row
  pub row_placed : {j most : ℕ} {e : Edges} → j < 17 → (j ≡ 16 → (m : ℕ) → κ ≡ list m → ⊥) → PathsReadable em e
      → (t₀ : Option ℕ) → HolesAre (placements_of em e) t₀ → ((t : Option ℕ) → FirstChild t κ → row_index κ t ≡ j → HolesAre (placements_of em e) t)
      → (Task target em e step_bound τ → length (element_row target em e step_bound τ) ≤ most) → RowEdges source target map em s j most e
  row_placed {j} {most} {e} less no_item readable t₀ holes each short =
      let task : Task target em e step_bound τ = type_task ready exists t₀ e holes readable in
      record {
        task = task;
        short = short task;
        is = λ row d wanted.
            let found = wanted_type ready s j less no_item wanted in
            (type_template ready exists found.0 e (each found.0 found.1 found.2) ∙ sym found.3, sym found.4);
      }

  -- edges from a place on
  pub edges_placed : {j : ℕ} {e : Edges} {first hole n : ℕ} → j < 16 → EdgesFrom map first hole n e → (w : ℕ) → n ≤ w → 0 < w
      → (t₀ : Option ℕ) → HolesAre (edge_placements em map first hole n) t₀ → ((t : Option ℕ) → FirstChild t κ → row_index κ t ≡ j → HolesAre (edge_placements em map first hole n) t)
      → RowEdges source target map em s j (edge_room map first w) e
  edges_placed {j} {e} less edges w few wide t₀ holes each =
      let are = edges.placements em ready.paths_bounded in
      row_placed (omega arith) (λ last. absurd (omega arith)) (edges.readable em ready.paths_bounded) t₀ (are ∙ holes) (λ t chosen at. are ∙ each t chosen at)
      (λ task. element_fits task ready.paths_bounded edges w few wide)

  -- what is placed for a text, an empty type and a sequence
  text_are : get_or (kinds_of source) s 0 ≡ 0 → (t : Option ℕ) → HolesAre (edge_placements em map (s * 16) 144 1) t
  unfolding edges_of
  text_are code t = let is : κ ≡ text = kind_is ready exists ∙ rw code refl in rw is (text_holes em map (table_by target) τ (s * 16) t)

  empty_are : get_or (kinds_of source) s 0 ≡ 1 → (t : Option ℕ) → HolesAre (edge_placements em map (s * 16) 128 0) t
  unfolding edges_of
  empty_are code t = let is : κ ≡ empty = kind_is ready exists ∙ rw code refl in rw is (empty_holes em map (table_by target) τ (s * 16) t)

  sequence_are : get_or (kinds_of source) s 0 ≡ 2 → (t : Option ℕ) → HolesAre (edge_placements em map (s * 16) 128 (get_or (counts_of source) s 0)) t
  sequence_are code t =
      let many : edges_of κ ≡ get_or (counts_of source) s 0 = row-edges ready exists (omega (arith, code)) (omega (arith, code)) in
      rw (many, is_sequence_lem ready exists code) (sequence_holes em map (table_by target) τ (s * 16) t _ (get_or (counts_of source) s 0) (few ready exists))

  -- a text, empty or a sequence
  pub own_edges : {e : Edges} → OwnEdges source map s e → get_or (kinds_of source) s 0 < 3 → RowEdges source target map em s 0 (edge_room map (s * 16) 16) e
  own_edges {e} own few-codes = go (get_or (kinds_of source) s 0) refl few-codes
    where
      go : (c : ℕ) → get_or (kinds_of source) s 0 ≡ c → c < 3 → RowEdges source target map em s 0 (edge_room map (s * 16) 16) e
      go zero code h = edges_placed (omega arith) (own.of_text code) 16 (omega arith) (omega arith) none (text_are code none) (λ t chosen index. text_are code t)
      go (suc zero) code h = edges_placed (omega arith) (own.of_empty code) 16 (omega arith) (omega arith) none (empty_are code none) (λ t chosen index. empty_are code t)
      go (suc (suc zero)) code h = edges_placed (omega arith) (own.of_sequence code) 16 (few ready exists) (omega arith) none (sequence_are code none) (λ t chosen index. sequence_are code t)
      go (suc (suc (suc c))) code h = absurd (omega arith)

  -- which has one row
  pub own_small : get_or (kinds_of source) s 0 < 3 → (t : Option ℕ) → FirstChild t κ → row_index κ t < 1
  own_small few-codes t chosen =
      omega (arith, ap (λ (k : Kind). row_index k t) (kind_is ready exists), row_of_other t (get_or (kinds_of source) s 0) (get_or (counts_of source) s 0) (drop (s * 16) (members_in source)) (other_code (get_or (kinds_of source) s 0) (λ e. omega (arith, e)) (λ e. omega (arith, e))))

  -- ---- from type to type

  module _ {pool₀ places₀ pool places : List ℕ} {at : ℕ} where
    -- none of the rows of type s is made yet
    pub progress-begin : Progress source target map em pool₀ places₀ s pool places at → Partly source target map em pool₀ places₀ s 0 (type_room source map s) pool places at
    progress-begin now =
        let first : rows_before s ≡ type_row s 0 = omega arith in
        record { whole = now.whole; done = rw first at now.done; room = omega (arith, later_split source map s exists, now.room) }

    module _ {j left : ℕ} (now : Partly source target map em pool₀ places₀ s j left pool places at) where
      -- the row of filler that is placed again
      partly-filler : Stored pool places at τ (filler_row (table_by target) τ) 0
      partly-filler =
          let small : τ < 64 = omega (arith, target_small, ready.target_bounded.few_types) in
          done_filler now.done τ (omega (arith, target_small, length_of_lem target)) (omega arith)

      module _ {most : ℕ} {e : Edges} (row : RowEdges source target map em s j most e) (rest : ℕ) (enough : most + rest ≤ left) where
        -- there is room for it
        partly-room : at + length (element_row target em e step_bound τ) ≤ length pool
        partly-room = omega (arith, row.short, now.room, now.whole.pool_length)

        -- one row more is made
        partly_more : {pool' places' : List ℕ} {end : ℕ} → RowMade pool places at (type_row s j) (held_row target em e τ) 0 pool' places' end
            → end ≤ at + length (element_row target em e step_bound τ) → Partly source target map em pool₀ places₀ s (j + 1) rest pool' places' end
        partly_more made ends =
            let on : type_row s j + 1 ≡ type_row s (j + 1) = omega arith in
            record {
              whole = whole_more made now.whole (omega (arith, ends, partly-room, now.whole.pool_length));
              done = rw on at (done_more now.done made row.is);
              room = omega (arith, ends, row.short, now.room);
            }

        -- the same, by the numbers that the code has
        module _ {t : ℕ} (is-target : t ≡ τ) {r : ℕ} (is_row : r ≡ type_row s j) where
          pub row-needs : IsWord (length pool₀) → HasRows places₀ (types_in source) → j < 17
              → Task target em e step_bound t × (Stored pool places at t (filler_row (table_by target) t) 0
              × ((at + length (element_row target em e step_bound t) ≤ length pool) × IsWord (length pool) × HasRow places r × HasRow places t))
          row-needs small long less =
              let few_types = ready.target_bounded.few_types in
              let in-pool : IsWord (length pool) = omega (arith, now.whole.pool_length) in
              let own : HasRow places r = omega (arith, now.whole.places_length) in
              let filler : HasRow places t = omega (arith, now.whole.places_length, target_small, few_types) in
              (rw is-target row.task, (rw is-target partly-filler, (rw is-target partly-room, in-pool, own, filler)))

          pub row_more : {pool' places' : List ℕ} {end : ℕ} → RowMade pool places at r (held_row target em e t) 0 pool' places' end × (end ≤ at + length (element_row target em e step_bound t))
              → Partly source target map em pool₀ places₀ s (j + 1) rest pool' places' end
          row_more made = partly_more (rw (is-target, is_row) at made.0) (rw is-target at made.1)

      -- nobody wants a later row of the type
      pub progress-end : ((t : Option ℕ) → FirstChild t κ → row_index κ t < j) → get_or (kinds_of source) s 0 < 5 → Progress source target map em pool₀ places₀ (s + 1) pool places at
      unfolding source_row item_row
      progress-end small own =
          let on : s + 1 ≡ suc s = omega arith in
          record {
            whole = now.whole;
            done = done_past (rows_before (s + 1)) now.done (λ r row d wanted less. past r row d wanted less);
            room = rw on (omega (arith, now.room));
          }
        where
          past : (r : ℕ) (row : List Symbol) (d : ℕ) → Wanted (setting_in source target map em) r row d → r < rows_before (s + 1) → r < type_row s j
          past r row d (of_filler t is_type is what depth) less = omega (arith, is_type, length_of_lem target, ready.target_bounded.few_types)
          past r row d (of_type s' t is_type chosen is what depth) less = go (eqb s' s) refl
            where
              go : (b : Bool) → eqb s' s ≡ b → r < type_row s j
              go true q =
                  let same : s' ≡ s = eqb-true s' s q in
                  let index : row_index κ t < j = small t (rw same at chosen) in
                  let here : r ≡ 64 + (s * 17 + row_index κ t) = rw same at is in
                  omega (arith, index, here)
              go false q =
                  omega (arith, eqb-false s' s q, is, source_index_small ready.source_bounded s' t (omega (arith, is_type, length_of_lem source)) chosen)
          past r row d (of_item s' m is_type kind is what depth) less = go (eqb s' s) refl
            where
              go : (b : Bool) → eqb s' s ≡ b → r < type_row s j
              go true q =
                  let same : s' ≡ s = eqb-true s' s q in
                  let here : κ ≡ list m = rw same at kind in
                  absurd (omega (arith, own, (code_list (get_or (kinds_of source) s 0) (get_or (counts_of source) s 0) (drop (s * 16) (members_in source)) m (sym (kind_is ready exists) ∙ here)).0))
              go false q = omega (arith, eqb-false s' s q, is)
