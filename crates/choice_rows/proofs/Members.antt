-- The row of a member of a source choice.
use mathlib.Core.Path.{◌≡◌, refl, sym, ap, subst, ◌∙◌}
use mathlib.Core.Bool.{Bool, true, false}
use mathlib.Core.List.{List, [], ◌∷◌}
use mathlib.Core.Option.{Option, some}
use Prim.Native.Nat.{ℕ, zero, suc, ◌+◌, ◌-◌, ◌*◌, ◌≤◌, ◌<◌}
use native.Mathlib.Omega.{arith}
use lib.ListN.{length, take, drop, get_or}
use lib.Dec.{eqb}
use borrow.Author.Tests.{eqb-true, eqb-false}
use Rattle.model.specs.Definitions.Basics.{pick, entry}
use Rattle.model.specs.Definitions.Commands.{Need, needed}
use Rattle.model.specs.Definitions.Table.{Kind, choice, kind_of, edges_of}
use Rattle.loaded_table.specs.Kinds.{choice_code, need_from, choice_codes, choice_range}
use Rattle.loaded_table.specs.Loaded.{table_by, types_in, kinds_of, counts_of, members_in}
use Rattle.loaded_embedding.specs.Loaded.{targets_of}
use Rattle.loaded_setting.specs.Ready.{Ready}
use Rattle.paths.specs.Edges.{is_choice_lem, row_length_lem, few}
use Rattle.rows.specs.Rows.{index_in, member_index, row_index, FirstChild, of_choice, of_nothing}
use Rattle.rows.specs.Laws.{entry_there}
use Rattle.row_sizes.specs.Sizes.{choice_below}
use Rattle.growing.specs.declared.Edges.{Edges}
use Rattle.pools.specs.Room.{edge_room, nothing_of}
use Rattle.own_rows.specs.Making.{edge_placements, EdgesFrom}
use Rattle.own_rows.specs.Holes.{choice_holes}
use Rattle.own_rows.specs.Laws.{room_split}
use Rattle.own_rows.specs.Progress.{Progress, Partly, Makeable}
use Rattle.own_rows.specs.Steps.{RowEdges, HolesAre, edges_placed, progress-begin, progress-end, partly_here}
use Rattle.choice_rows.specs.Choices.{MadeMembers, NothingToMake}

-- ---- the place of a choice's member

-- a member is found at its place or before it
index_at_most : (ms : List ℕ) (j : ℕ) → j < length ms → index_in (get_or ms j 0) ms ≤ j
unfolding index_in pick
index_at_most [] j less = absurd (omega arith)
index_at_most (m ∷ ms) zero less = go (eqb m m) refl
  where
    go : (b : Bool) → eqb m m ≡ b → pick (eqb m m) 0 (suc (index_in m ms)) ≤ 0
    go true q = rw q (omega arith)
    go false q = absurd (eqb-false m m q refl)
index_at_most (m ∷ ms) (suc j) less = go (eqb (get_or ms j 0) m) (index_at_most ms j (omega arith))
  where
    go : (b : Bool) → index_in (get_or ms j 0) ms ≤ j → pick b 0 (suc (index_in (get_or ms j 0) ms)) ≤ suc j
    go true h = omega arith
    go false h = omega (arith, h)

-- and what is found is that type
index_entry : (t : ℕ) (ms : List ℕ) → index_in t ms < length ms → entry (suc (index_in t ms)) ms ≡ some t
unfolding index_in pick entry
index_entry t [] less = absurd (omega arith)
index_entry t (m ∷ ms) less = go (eqb t m) refl (index_entry t ms)
  where
    go : (b : Bool) → eqb t m ≡ b → (index_in t ms < length ms → entry (suc (index_in t ms)) ms ≡ some t) → entry (suc (pick (eqb t m) 0 (suc (index_in t ms)))) (m ∷ ms) ≡ some t
    go true q later = rw q (ap some (sym (eqb-true t m q)))
    go false q later =
        let short : suc (index_in t ms) < suc (length ms) = rw q at less in
        rw q (later (omega (arith, short)))

-- members are distinct
index_is : (ms : List ℕ) → ((p q m : ℕ) → entry p ms ≡ some m → entry q ms ≡ some m → p ≡ q) → (j : ℕ) → j < length ms → index_in (get_or ms j 0) ms ≡ j
index_is ms distinct j less =
    let low = index_at_most ms j less in
    omega (arith, distinct (suc (index_in (get_or ms j 0) ms)) (suc j) (get_or ms j 0) (index_entry (get_or ms j 0) ms (omega (arith, low))) (entry_there ms j less))

-- a first child whose place is among the members is one
member_of_lem : {t : Option ℕ} {need : Need} {ms : List ℕ} → FirstChild t (choice need ms) → member_index t ms < length ms → (m : ℕ) × (t ≡ some m) × (index_in m ms ≡ member_index t ms)
unfolding member_index
member_of_lem (of_choice {t = t} less) small = (t, refl, refl)
member_of_lem of_nothing small = absurd (omega arith)

-- a choice that is not optional needs a member
needed_code : (code : ℕ) → choice_code code ≡ true → (code ≡ 4 → ⊥) → need_from code ≡ needed
needed_code = choice_codes (λ (k : ℕ). (k ≡ 4 → ⊥) → need_from k ≡ needed) (λ other. refl) (λ other. absurd (other refl))

-- behind the rows of the members that of nothing can be made
pub nothing_next : {source target map em pool places pool' places' : List ℕ} {s at : ℕ} → Makeable source target map em pool places s → MadeMembers source target map em pool places s pool' places' at
    → NothingToMake source target map em pool' places' s at
nothing_next can made =
    record {
      makeable = record { ready = can.ready; exists = can.exists; small = omega (arith, can.small, made.whole.pool_length); long = omega (arith, can.long, made.whole.places_length) };
      members = partly_here made;
    }

-- what is left for the rows of the members of source type s from j on, and for that of nothing
abbrev pub members_room : List ℕ → List ℕ → ℕ → ℕ → ℕ
members_room source map s j = edge_room map (s * 16 + j) (16 - j) + nothing_of source map s

-- ---- its rows

module _ {source target map em : List ℕ} (ready : Ready source target map em) {s : ℕ} (exists : s < types_in source) (choosing : choice_code (get_or (kinds_of source) s 0) ≡ true) where
  abbrev κ : Kind
  κ = kind_of (table_by source) s

  abbrev need : Need
  need = need_from (get_or (kinds_of source) s 0)

  abbrev ms : List ℕ
  ms = take (get_or (counts_of source) s 0) (drop (s * 16) (members_in source))

  is : κ ≡ choice need ms
  is = is_choice_lem ready exists choosing

  long : length ms ≡ get_or (counts_of source) s 0
  long = row_length_lem ready exists

  -- what is placed for a member
  member_holes : {j : ℕ} (t : ℕ) → index_in t ms ≡ j → j < get_or (counts_of source) s 0 → HolesAre ready exists (edge_placements em map (s * 16 + j) 128 1) (some t)
  unfolding edges_of
  member_holes t at less = rw (is, ← at) (choice_holes em map (table_by target) (get_or (targets_of map) s 0) (s * 16) t need ms (omega (arith, at, long)))

  -- and for each first child that has the member's row
  of_row : {j : ℕ} {t : Option ℕ} → FirstChild t (choice need ms) → member_index t ms ≡ j → j < get_or (counts_of source) s 0 → HolesAre ready exists (edge_placements em map (s * 16 + j) 128 1) t
  of_row {j} chosen at less =
      let found = member_of_lem chosen (omega (arith, at, long)) in
      subst (HolesAre ready exists (edge_placements em map (s * 16 + j) 128 1)) (sym found.1) (member_holes found.0 (found.2 ∙ at) less)

  -- so the path of member j is what row j is made of
  pub member_edges : {e : Edges} {j : ℕ} → j < get_or (counts_of source) s 0 → EdgesFrom map (s * 16 + j) 128 1 e → RowEdges source target map em s j (edge_room map (s * 16 + j) 1) e
  unfolding row_index
  member_edges {e} {j} less edges =
      let first : index_in (get_or ms j 0) ms ≡ j = index_is ms (ready.valid.source_sound.well_formed.choices_distinct s need ms is) j (omega (arith, long)) in
      edges_placed ready exists (omega (arith, few ready exists)) edges 1 (omega arith) (omega arith) (some (get_or ms j 0)) (member_holes (get_or ms j 0) first less)
      (λ t chosen at. of_row (rw is at chosen) (rw is at at) less)

  -- ---- room

  -- the room of one member is part of that of all from it on
  pub member_room : (j : ℕ) → j < 16 → edge_room map (s * 16 + j) 1 + members_room source map s (j + 1) ≤ members_room source map s j
  member_room j less =
      let parts : 16 - j ≡ 1 + (16 - (j + 1)) = omega arith in
      let on : s * 16 + j + 1 ≡ s * 16 + (j + 1) = omega arith in
      let split : edge_room map (s * 16 + j) (16 - j) ≡ edge_room map (s * 16 + j) 1 + edge_room map (s * 16 + (j + 1)) (16 - (j + 1)) =
      ap (edge_room map (s * 16 + j)) parts ∙ rw on at (room_split map (s * 16 + j) 1 (16 - (j + 1))) in
      omega (arith, split)

  -- none of the members' rows is made yet
  pub members_begin : {pool₀ places₀ pool places : List ℕ} {at : ℕ} → Progress source target map em pool₀ places₀ s pool places at
      → Partly source target map em pool₀ places₀ s 0 (members_room source map s 0) pool places at
  members_begin now =
      let first : s * 16 + 0 ≡ s * 16 = omega arith in
      rw first (progress-begin ready exists now)

  -- all are
  pub members_end : {pool₀ places₀ pool places : List ℕ} {at j : ℕ} → j ≡ get_or (counts_of source) s 0 → Partly source target map em pool₀ places₀ s j (members_room source map s j) pool places at
      → MadeMembers source target map em pool₀ places₀ s pool places at
  members_end all now = let made = rw all at now in record { whole = made.whole; done = made.done; room = omega (arith, made.room) }

  -- a choice that needs a member has no other rows
  pub needed_small : need ≡ needed → (t : Option ℕ) → FirstChild t κ → row_index κ t < get_or (counts_of source) s 0
  unfolding row_index
  needed_small e t chosen = rw is (omega (arith, (choice_below (rw is at chosen)).1 e, long))

  -- so with the rows of its members it is done
  pub needed_rows : (get_or (kinds_of source) s 0 ≡ 4 → ⊥) → {pool₀ places₀ pool places : List ℕ} {at : ℕ} → MadeMembers source target map em pool₀ places₀ s pool places at
      → Progress source target map em pool₀ places₀ (s + 1) pool places at
  needed_rows other made =
      progress-end ready exists made (needed_small (needed_code (get_or (kinds_of source) s 0) choosing other)) (choice_range (get_or (kinds_of source) s 0) choosing).1
