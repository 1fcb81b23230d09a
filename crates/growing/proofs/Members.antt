-- The row of an element, in parts; and the loop of `element`, which writes a member a turn.
use mathlib.Core.Path.{◌≡◌, refl, sym, ap, ap₂, subst, ◌∙◌}
use mathlib.Core.Bool.{Bool, true, false}
use mathlib.Core.List.{List, [], ◌∷◌, ◌++◌, append-nil, append_assoc}
use Prim.Native.Nat.{ℕ, zero, suc, ◌+◌, ◌-◌, ◌*◌, ◌≤◌, ◌<◌}
use native.Mathlib.Numerals.{add-one}
use native.Mathlib.Omega.{arith}
use lib.ListN.{length, drop, get_or, length-append, length-take, length-drop}
use lib.Seq.{drop-cons}
use native.Mathlib.Nat.{zero-add, add-zero}
use Rattle.model.specs.Definitions.Table.{Table}
use Rattle.model.specs.Definitions.Filler.{fillers}
use Rattle.model.specs.Definitions.Image.{Placement, placed, under, is_placed, grow, grow_members}
use Rattle.model.specs.Definitions.Templates.{Shape, bare, gap, framed, shaped, Symbol, opening, closing, hole, row_of}
use Rattle.loaded_table.specs.Loaded.{table_by, members_in}
use Rattle.loaded_embedding.specs.Loaded.{steps_from}
use Rattle.rows.specs.Rows.{symbol_of, hole_of}
use Rattle.rows.specs.Symbols.{filler_of_lem, is_opening, is_hole, is_closing}
use Rattle.growing.specs.declared.Edges.{Edges}
use Rattle.std.specs.declared.ops.Range.{Range}
use Rattle.growing.specs.Growing.{first_of, placement_of, placements_from, placements_of, PathsReadable, Puts, MemberRange, Task, element_row}
use Rattle.growing.specs.Laws.{puts_none, puts_then, puts-length, puts-after}
use Rattle.growing.specs.Parts.{fits_positive, held, first_path_lem, row_none, row-built}
use Rattle.growing.proofs.ByKind.{members_from, member_at, Grows, grows}

-- a row with what follows it
framed_then : (b : Bool) (t : ℕ) (k r : Shape) → row_of (framed b t k r) ≡ row_of (framed b t k bare) ++ row_of r
unfolding row_of
framed_then true t k r = ap (λ (l : List Symbol). opening t ∷ l) (sym (append_assoc (row_of k) (closing ∷ []) (row_of r)))
framed_then false t k r = refl

-- the first of some steps
steps_first : (em : List ℕ) (o left : ℕ) → (left ≡ 0 → ⊥) → steps_from em o left ≡ first_of (steps_from em o left) ∷ steps_from em (o + 2) (left - 1)
unfolding steps_from first_of
steps_first em o zero some = absurd (some refl)
steps_first em o (suc left) some = let less : suc left - 1 ≡ left = omega arith in rw less refl

module _ (target em : List ℕ) (e : Edges) (n t : ℕ) (some : e.count ≡ 0 → ⊥) where
  abbrev T : Table
  T = table_by target

  abbrev next : ℕ
  next = get_or e.next 0 0

  abbrev left : ℕ
  left = get_or e.left 0 0

  abbrev goal : ℕ
  goal = get_or e.hole 0 0

  abbrev others : List (Placement Shape)
  others = placements_from em e.next e.left e.hole 1 (e.count - 1)

  -- the first path ends here
  held_hole : 0 < n → left ≡ 0 → held target em e n t ≡ hole (hole_of goal) ∷ []
  unfolding row_of grow placement_of steps_from
  held_hole positive ends = rw (first_path_lem target em e n t some) (rw ends (go n positive))
    where
      go : (k : ℕ) → 0 < k → row_of (grow shaped T (fillers shaped T) k t (placed [] (gap (hole_of goal)) ∷ others)) ≡ hole (hole_of goal) ∷ []
      go zero h = absurd (omega arith)
      go (suc k) h = refl

  -- it goes on
  path_goes_on : (left ≡ 0 → ⊥) → placements_of em e ≡ placed (first_of (steps_from em next left) ∷ steps_from em (next + 2) (left - 1)) (gap (hole_of goal)) ∷ others
  unfolding placement_of
  path_goes_on more = first_path_lem target em e n t some ∙ ap (λ (path : List ℕ). placed path (gap (hole_of goal)) ∷ others) (steps_first em next left more)

-- ---- the loop

-- members before member j are written, and with those from j on they are all that the element holds
pub record Members (target em : List ℕ) (e : Edges) (n t : ℕ) (old : List ℕ) (start from to : ℕ) (pool : List ℕ) (j place : ℕ) : Type 0 where
  pub growing : Grows target n t (placements_of em e) (record { start = from; «end» = to })
  pub room : start + length (held target em e n t) + 1 ≤ length old
  pub low : from ≤ j
  pub high : j ≤ to
  pub so_far : List Symbol
  pub puts : Puts old pool start so_far place
  pub whole : so_far ++ row_of (grow_members shaped (λ m qs. grow shaped (table_by target) (fillers shaped (table_by target)) (n - 1) m qs) (placements_of em e) j (members_from target t j to))
      ≡ held target em e n t

-- none is written
pub members_none : {target em : List ℕ} {e : Edges} {n t : ℕ} {old : List ℕ} {start : ℕ} (task : Task target em e n t) (some : e.count ≡ 0 → ⊥)
    → start + length (held target em e n t) + 1 ≤ length old → (get_or e.left 0 0 ≡ 0 → ⊥)
    → (r : Range ℕ) → MemberRange target t (first_of (steps_from em (get_or e.next 0 0) (get_or e.left 0 0))) r
    → Members target em e n t old start r.start r.end old r.start start
members_none {target} {em} {e} {n} {t} {old} {start} task some room more r spans =
    let g : Grows target n t (placements_of em e) r =
    grows task.bounded task.well_formed task.is_type (placements_of em e) task.fits _ _ _ _ (path_goes_on target em e n t some more) r spans in
    record {
      growing = g;
      room = room;
      low = omega arith;
      high = g.ordered;
      so_far = [];
      puts = puts_none old start;
      whole = ap row_of (sym g.same);
    }

module _ {target em : List ℕ} {e : Edges} {n t : ℕ} {old : List ℕ} {start from to : ℕ} {pool : List ℕ} {j place : ℕ} (task : Task target em e n t)
    (now : Members target em e n t old start from to pool j place) where
  abbrev row_from : ℕ → List Symbol
  row_from i = row_of (grow_members shaped (λ m qs. grow shaped (table_by target) (fillers shaped (table_by target)) (n - 1) m qs) (placements_of em e) i (members_from target t i to))

  -- all are written
  pub members_all : to ≤ j → Puts old pool start (held target em e n t) place
  unfolding grow_members shaped row_of
  members_all over =
      let none : to - j ≡ 0 = omega arith in
      let all : now.so_far ++ [] ≡ held target em e n t = rw none at now.whole in
      subst (λ (row : List Symbol). Puts old pool start row place) (sym (append-nil now.so_far) ∙ all) now.puts

  module _ (less : j < to) where
    member-place : (t < 64) × (j - 1 < 16)
    member-place = (omega (arith, task.is_type, task.bounded.few_types), omega (arith, now.growing.high, now.low, now.growing.low))

    abbrev m : ℕ
    m = member_at target t j

    abbrev below : List Symbol
    below = row_of (framed (is_placed (under j (placements_of em e))) m (grow shaped (table_by target) (fillers shaped (table_by target)) (n - 1) m (under j (placements_of em e))) bare)

    members-cons : members_from target t j to ≡ m ∷ members_from target t (j + 1) to
    members-cons =
        let more : to - j ≡ suc (to - (j + 1)) = omega arith in
        let place' : suc (t * 16 + (j - 1)) ≡ t * 16 + (j + 1 - 1) = omega (arith, now.low, now.growing.low) in
        let long : length (members_in target) ≡ 1024 = omega (arith, length-take 1024 (drop 256 target), length-drop 256 target, task.bounded.size) in
        rw (more, drop-cons (members_in target) (t * 16 + (j - 1)) 0 (omega (arith, member-place.0, member-place.1, long)), place') refl

    row_cons : row_from j ≡ below ++ row_from (j + 1)
    unfolding grow_members shaped
    row_cons = rw members-cons (framed_then _ m _ _ ∙ ap (λ (i : ℕ). below ++ row_of (grow_members shaped (λ k qs. grow shaped (table_by target) (fillers shaped (table_by target)) (n - 1) k qs) (placements_of em e) i (members_from target t (j + 1) to))) (sym (add-one j)))

    -- the paths below member j, and its type
    module _ {sub : Edges} {m' : ℕ} (readable : PathsReadable em sub) (same : placements_of em sub ≡ under j (placements_of em e)) (is : m' ≡ m) where
      row_below : element_row target em sub (n - 1) m' ≡ below
      unfolding element_row
      row_below = rw (is, same) refl

      pub member-task : Task target em sub (n - 1) m'
      member-task =
          record {
            bounded = task.bounded;
            well_formed = task.well_formed;
            is_type = rw is (now.growing.is_type j now.low less);
            short = task.short;
            paths = readable;
            fits = rw (is, same) (now.growing.each j now.low less);
          }

      pub member_room : place + length (element_row target em sub (n - 1) m') ≤ length pool
      member_room =
          omega (
            arith,
            now.room,
            puts-after now.puts,
            puts-length now.puts,
            ap length row_below,
            ap length row_cons,
            ap length now.whole,
            length-append below (row_from (j + 1)),
            length-append now.so_far (row_from j),
          )

      -- it is written
      pub member-written : {pool' : List ℕ} {place' : ℕ} → Puts pool pool' place (element_row target em sub (n - 1) m') place'
          → Members target em e n t old start from to pool' (j + 1) place'
      member-written {pool'} {place'} written =
          record {
            growing = now.growing;
            room = now.room;
            low = omega (arith, now.low);
            high = omega arith;
            so_far = now.so_far ++ below;
            puts = puts_then now.puts (subst (λ (row : List Symbol). Puts pool pool' place row place') row_below written);
            whole = append_assoc now.so_far below (row_from (j + 1)) ∙ ap (λ (l : List Symbol). now.so_far ++ l) (sym row_cons) ∙ now.whole;
          }

-- ---- the whole element

module _ {target em : List ℕ} {e : Edges} {n t : ℕ} (task : Task target em e n t) where
  small : t < 64
  small = omega (arith, task.is_type, task.bounded.few_types)

  -- filler is one symbol
  pub filler_fits : {at long : ℕ} → e.count ≡ 0 → at + length (element_row target em e n t) ≤ long → (at < long) × (64 + t < 256)
  filler_fits none room = (omega (arith, room, ap length (row_none target em e n t none)), omega (arith, small))

  pub filler_written : {old new : List ℕ} {at r : ℕ} → e.count ≡ 0 → Puts old new at (symbol_of (64 + t) ∷ []) r → Puts old new at (element_row target em e n t) r
  filler_written {old} {new} {at} {r} none written =
      subst (λ (row : List Symbol). Puts old new at row r) (ap (λ (s : Symbol). s ∷ []) (filler_of_lem t small) ∙ sym (row_none target em e n t none)) written

  module _ (some : e.count ≡ 0 → ⊥) where
    -- there is room for the opening, what the element holds, and the closing
    built-length : length (element_row target em e n t) ≡ 2 + length (held target em e n t)
    built-length = ap length (row-built target em e n t some) ∙ omega (arith, length-append (held target em e n t) (closing ∷ []))

    pub opening-fits : {at long : ℕ} → at + length (element_row target em e n t) ≤ long → (at < long) × (0 + t < 256)
    opening-fits room = (omega (arith, room, built-length), omega (arith, small))

    module _ {old pool : List ℕ} {at inside : ℕ} (opened : Puts old pool at (symbol_of (0 + t) ∷ []) inside) where
      pub inside-fits : at + length (element_row target em e n t) ≤ length old → inside + length (held target em e n t) + 1 ≤ length pool
      inside-fits room = omega (arith, room, built-length, puts-after opened, puts-length opened)

      -- the opening, what it holds, and the closing are the element
      pub element-written : {pool' new : List ℕ} {end r : ℕ} → Puts pool pool' inside (held target em e n t) end → Puts pool' new end (symbol_of (146 + 0) ∷ []) r
          → Puts old new at (element_row target em e n t) r
      element-written {pool'} {new} {end} {r} inner closed =
          subst (λ (row : List Symbol). Puts old new at row r)
          (ap₂ (λ (s c : Symbol). s ∷ (held target em e n t ++ c ∷ [])) (ap symbol_of (zero-add t) ∙ is_opening t small) (is_closing (146 + 0) (omega arith)) ∙ sym (row-built target em e n t some))
          (puts_then (puts_then opened inner) closed)

      -- a path that ends here: what it holds is a hole
      module _ (ends : get_or e.left 0 0 ≡ 0) (room : at + length (element_row target em e n t) ≤ length old) where
        holds : held target em e n t ≡ hole (hole_of (get_or e.hole 0 0)) ∷ []
        holds = held_hole target em e n t some (fits_positive task.fits) ends

        pub hole-fits : (inside < length pool) × (get_or e.hole 0 0 + 0 < 256)
        hole-fits = (omega (arith, inside-fits room), omega (arith, (task.paths.is_hole 0 (omega arith)).1))

        module _ {pool' : List ℕ} {end : ℕ} (put : Puts pool pool' inside (symbol_of (get_or e.hole 0 0 + 0) ∷ []) end) where
          pub hole-written : Puts pool pool' inside (held target em e n t) end
          hole-written =
              subst (λ (row : List Symbol). Puts pool pool' inside row end)
              (ap (λ (s : Symbol). s ∷ []) (ap symbol_of (add-zero (get_or e.hole 0 0)) ∙ is_hole (get_or e.hole 0 0) (task.paths.is_hole 0 (omega arith))) ∙ sym holds) put

          pub end_fits : end < length pool'
          end_fits = omega (arith, puts-after hole-written, puts-length hole-written, inside-fits room)
