-- The row of an optional source choice that holds nothing.
use mathlib.Core.Path.{◌≡◌, refl, sym, ap, ◌∙◌, subst}
use mathlib.Core.List.{List}
use mathlib.Core.Option.{Option, none}
use Prim.Native.Nat.{ℕ, ◌+◌, ◌*◌, ◌≤◌, ◌<◌}
use native.Mathlib.Omega.{arith}
use lib.ListN.{length, take, drop, get_or}
use borrow.Author.Tests.{eq-eqb}
use Rattle.model.specs.Definitions.Basics.{pick}
use Rattle.model.specs.Definitions.Commands.{Need}
use Rattle.model.specs.Definitions.Table.{Kind, choice, list, kind_of, edges_of}
use Rattle.model.specs.Definitions.Embedding.{first_path, before_choice}
use Rattle.loaded_table.specs.Kinds.{need_from}
use Rattle.loaded_table.specs.Loaded.{table_by, types_in, kinds_of, counts_of, members_in}
use Rattle.loaded_embedding.specs.Loaded.{targets_of, starts_of, lengths_of, steps_from}
use Rattle.loaded_setting.specs.Ready.{Ready}
use Rattle.paths.specs.Following.{Followable, paths_from}
use Rattle.paths.specs.Edges.{is_choice_lem, row_length_lem, few, first_path_lem, first-follows, paths_are}
use Rattle.rows.specs.Rows.{member_index, row_index, FirstChild, of_choice, of_nothing}
use Rattle.row_sizes.specs.Sizes.{choice_below}
use Rattle.growing.specs.declared.Edges.{Edges}
use Rattle.growing.specs.Growing.{placements_of}
use Rattle.pools.specs.Room.{nothing_of}
use Rattle.own_rows.specs.OnePath.{one_path, one_placed, one_readable, one_short}
use Rattle.own_rows.specs.Holes.{nothing_holes}
use Rattle.own_rows.specs.Steps.{RowEdges, HolesAre, row_placed}

-- the row behind those of the members is that of nothing
last_none : {t : Option ℕ} {need : Need} {ms : List ℕ} → FirstChild t (choice need ms) → member_index t ms ≡ length ms → none ≡ t
unfolding member_index
last_none (of_choice less) at = absurd (omega (arith, at))
last_none of_nothing at = refl

-- a choice is no list
no_list : {need : Need} {ms : List ℕ} {m : ℕ} → choice need ms ≡ list m → ⊥
no_list e = let z : ◌≡◌ {A = ℕ} 0 1 = cc in absurd (omega arith)

module _ {source target map em : List ℕ} (ready : Ready source target map em) {s : ℕ} (exists : s < types_in source) (code : get_or (kinds_of source) s 0 ≡ 4) where
  abbrev κ : Kind
  κ = kind_of (table_by source) s

  abbrev ms : List ℕ
  ms = take (get_or (counts_of source) s 0) (drop (s * 16) (members_in source))

  abbrev start : ℕ
  start = get_or (starts_of map) (s * 16) 0

  abbrev steps : ℕ
  steps = get_or (lengths_of map) (s * 16) 0

  is : κ ≡ choice (need_from (get_or (kinds_of source) s 0)) ms
  is = is_choice_lem ready exists (rw code refl)

  long : length ms ≡ get_or (counts_of source) s 0
  long = row_length_lem ready exists

  -- its room is that of the first path
  room : nothing_of source map s ≡ 18 * steps + 4
  unfolding nothing_of pick
  room = rw (eq-eqb (get_or (kinds_of source) s 0) 4 code) refl

  -- the steps that the paths share are those of the first path before its first choice
  shared_holes : (depth : ℕ) → steps_from em (start + 2) depth ≡ before_choice (table_by target) (get_or (targets_of map) s 0) (steps_from em (start + 2) steps)
      → HolesAre ready exists (placements_of em (one_path (start + 2) depth 144)) none
  shared_holes depth shared =
      let first : first_path (paths_from em map (s * 16) (edges_of κ)) ≡ steps_from em (start + 2) steps = ap first_path (sym (paths_are ready exists)) ∙ first_path_lem ready exists (rw code refl) in
      rw is (one_placed em (start + 2) depth 144 ∙ nothing_holes em (table_by target) (get_or (targets_of map) s 0) (start + 2) depth _ ms _ (rw (← is, first) shared))

  -- so that path is what the row behind those of the members is made of
  pub nothing_edges : {depth : ℕ} → depth ≤ steps → steps_from em (start + 2) depth ≡ before_choice (table_by target) (get_or (targets_of map) s 0) (steps_from em (start + 2) steps)
      → RowEdges source target map em s (get_or (counts_of source) s 0) (nothing_of source map s) (one_path (start + 2) depth 144)
  unfolding row_index
  nothing_edges {depth} less shared =
      row_placed ready exists (omega (arith, few ready exists)) (λ last m e. no_list (sym is ∙ e))
      (one_readable em (start + 2) depth 144 (omega (arith, ready.paths_bounded.within (s * 16))) (omega arith, omega arith))
      none (shared_holes depth shared)
      (λ t chosen at. subst (HolesAre ready exists (placements_of em (one_path (start + 2) depth 144))) (last_none (rw is at chosen) ((rw is at at) ∙ sym long)) (shared_holes depth shared))
      (λ task. omega (arith, one_short em (start + 2) depth 144 task, room))

  -- it is the last row
  pub nothing_small : (t : Option ℕ) → FirstChild t κ → row_index κ t < get_or (counts_of source) s 0 + 1
  unfolding row_index
  nothing_small t chosen = rw is (omega (arith, (choice_below (rw is at chosen)).0, long))

  -- the same, by the numbers that the code has
  module _ {start' steps' t : ℕ} (is-start : start' ≡ start) (is-steps : steps' ≡ steps) (is-target : t ≡ get_or (targets_of map) s 0) where
    pub nothing-follows : Followable target em start' steps' t
    nothing-follows = rw (is-start, is-steps, is-target) (first-follows ready exists (rw code refl))

    pub nothing_found : (depth : ℕ) {e : Edges} → (depth ≤ steps') × (steps_from em (start' + 2) depth ≡ before_choice (table_by target) t (steps_from em (start' + 2) steps')) → e ≡ one_path (start' + 2) depth 144
        → RowEdges source target map em s (get_or (counts_of source) s 0) (nothing_of source map s) e
    nothing_found depth found made = rw (made, is-start) (nothing_edges (omega (arith, found.0, is-steps)) (rw (is-start, is-steps, is-target) at found.1))
