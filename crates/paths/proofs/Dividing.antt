-- The loop of `list_depth`: the division of a path by the number of steps before its first list.
use mathlib.Core.Path.{◌≡◌, refl, sym, ap, ◌∙◌}
use mathlib.Core.List.{List, [], ◌∷◌}
use Prim.Native.Nat.{ℕ, zero, suc, ◌+◌, ◌-◌, ◌*◌, ◌≤◌, ◌<◌}
use native.Mathlib.Omega.{arith}
use lib.ListN.{length, drop, get_or}
use Rattle.model.specs.Definitions.Table.{Kind, text, empty, sequence, choice, list, Table, kind_of}
use Rattle.model.specs.Definitions.Embedding.{next, Divided, divide, divide_at}
use Rattle.model.proofs.Theorems.Placing.{walks_step, list_step, item_next}
use Rattle.loaded_table.specs.Kinds.{below_lists, list_code}
use Rattle.loaded_table.specs.Loaded.{kind_from, kind_in, table_by, kinds_of, counts_of, members_in}
use Rattle.loaded_embedding.specs.Loaded.{steps_from}
use Rattle.paths.specs.declared.Cut.{Cut}
use Rattle.paths.specs.Following.{Taken, Cuts}
use Rattle.paths.specs.Stepping.{steps_here, walks_here, kind_here, next_here, follow-on}

-- ---- the parts of a path, by the number of steps before the division

-- one step more before the division
cut_more : (em : List ℕ) (a n : ℕ) (d : Divided) → Cuts em (a + 2) n d (record { depth = length d.before; item = d.item })
    → Cuts em a (suc n) (record { before = get_or em (a + 2) 0 ∷ d.before; item = d.item; rest = d.rest }) (record { depth = suc (length d.before); item = d.item })
unfolding steps_from
cut_more em a n d cut =
    let place : a + 2 * suc (suc (length d.before)) + 2 ≡ a + 2 + 2 * suc (length d.before) + 2 = omega arith in
    let left : suc n - suc (suc (length d.before)) ≡ n - suc (length d.before) = omega arith in
    record {
      depth = refl;
      item = refl;
      few = omega (arith, cut.few);
      before = ap (λ (l : List ℕ). get_or em (a + 2) 0 ∷ l) cut.before;
      rest = rw (place, left) cut.rest;
    }

abbrev by_length : Divided → Cut
by_length d = record { depth = length d.before; item = d.item }

cut_at : (em : List ℕ) (a n : ℕ) (d : Divided) (κ : Kind) → Cuts em (a + 2) n d (by_length d)
    → Cuts em a (suc n) (divide_at κ (get_or em (a + 2) 0) (steps_from em (a + 2 + 2) n) d) (by_length (divide_at κ (get_or em (a + 2) 0) (steps_from em (a + 2 + 2) n) d))
unfolding divide_at steps_from
cut_at em a n d text cut = cut_more em a n d cut
cut_at em a n d empty cut = cut_more em a n d cut
cut_at em a n d (sequence ms) cut = cut_more em a n d cut
cut_at em a n d (choice need ms) cut = cut_more em a n d cut
cut_at em a n d (list m) cut =
    let place : a + 2 * 1 + 2 ≡ a + 2 + 2 = omega arith in
    let left : suc n - 1 ≡ n = omega arith in
    record { depth = refl; item = refl; few = omega arith; before = refl; rest = rw (place, left) }

divide_cuts : (T : Table) (τ : ℕ) (em : List ℕ) (a n : ℕ) → Cuts em a n (divide T τ (steps_from em (a + 2) n)) (by_length (divide T τ (steps_from em (a + 2) n)))
unfolding divide steps_from
divide_cuts T τ em a zero = record { depth = refl; item = refl; few = omega arith; before = refl; rest = refl }
divide_cuts T τ em a (suc n) = cut_at em a n _ (kind_of T τ) (divide_cuts T (next T τ (get_or em (a + 2) 0)) em (a + 2) n)

cut_by : (em : List ℕ) (start steps : ℕ) (d : Divided) (r : Cut) → Cuts em start steps d (by_length d) → r.depth ≡ length d.before → r.item ≡ d.item → Cuts em start steps d r
cut_by em start steps d r cut long item =
    record { depth = long; item = item; few = omega (arith, cut.few); before = rw long cut.before; rest = rw long cut.rest }

-- ---- one step

-- a step that leaves a list divides the path
divide_list : (T : Table) (τ p m : ℕ) (ps : List ℕ) → kind_of T τ ≡ list m → divide T τ (p ∷ ps) ≡ record { before = []; item = m; rest = ps }
unfolding divide divide_at
divide_list T τ p m ps e = rw e

-- another doesn't
record Same (d e : Divided) : Type 0 where
  pub longer : length d.before ≡ suc (length e.before)
  pub item : d.item ≡ e.item

divide_other : (code count : ℕ) (row : List ℕ) (p : ℕ) (ps : List ℕ) (d : Divided) → code < 5 → Same (divide_at (kind_from code count row) p ps d) d
unfolding divide_at
divide_other code count row p ps d =
    let longer : Same (record { before = p ∷ d.before; item = d.item; rest = d.rest }) d = record { longer = refl; item = refl } in
    below_lists (λ (k : ℕ). Same (divide_at (kind_from k count row) p ps d) d) longer longer longer longer longer code

-- ---- the loop

-- the first i steps leave no list, so dividing the rest divides the whole
pub record Divides (target em : List ℕ) (start steps t i τ : ℕ) : Type 0 where
  pub walk : Taken target em start steps i τ
  pub high : i ≤ steps
  pub before : length (divide (table_by target) t (steps_from em (start + 2) steps)).before
      ≡ i + length (divide (table_by target) τ (steps_from em (start + 2 * i + 2) (steps - i))).before
  pub item : (divide (table_by target) t (steps_from em (start + 2) steps)).item
      ≡ (divide (table_by target) τ (steps_from em (start + 2 * i + 2) (steps - i))).item

module _ {target em : List ℕ} {start steps t i τ : ℕ} (now : Divides target em start steps t i τ) where
  abbrev T : Table
  T = table_by target

  abbrev whole : Divided
  whole = divide T t (steps_from em (start + 2) steps)

  -- there is no list
  pub divides_none : steps ≤ i → Cuts em start steps whole (record { depth = steps; item = 0 })
  unfolding divide steps_from
  divides_none over =
      let none_left : steps - i ≡ 0 = omega arith in
      let long : length whole.before ≡ i + 0 = rw none_left at now.before in
      let item : whole.item ≡ 0 = rw none_left at now.item in
      cut_by em start steps whole (record { depth = steps; item = 0 }) (divide_cuts T t em start steps) (omega arith) (sym item)

  module _ (less : i < steps) {p r : ℕ} (read : p ≡ get_or em (start + 2 + 2 * i) 0) (is : r ≡ get_or (members_in target) (τ * 16 + (p - 1)) 0) where
    abbrev later : List ℕ
    later = steps_from em (start + 2 * (i + 1) + 2) (steps - (i + 1))

    same-divide : divide T τ (steps_from em (start + 2 * i + 2) (steps - i)) ≡ divide T τ (p ∷ later)
    same-divide = ap (divide T τ) (steps_here now.walk less read)

    -- the step leaves a list
    pub divides-list : 5 ≤ get_or (kinds_of target) τ 0 → Cuts em start steps whole (record { depth = i; item = r })
    divides-list is_list_lem =
        let row : List ℕ = drop (τ * 16) (members_in target) in
        let m : ℕ = get_or row 0 0 in
        let kind : kind_of T τ ≡ list m = kind_here now.walk less read ∙ list_code (get_or (kinds_of target) τ 0) (get_or (counts_of target) τ 0) row is_list_lem in
        let one : p ≡ 1 = list_step m p (rw kind at (walks_step (walks_here now.walk less read))) in
        let to_item : next T τ p ≡ m = ap (next T τ) one ∙ item_next T τ m kind in
        let divided : divide T τ (steps_from em (start + 2 * i + 2) (steps - i)) ≡ record { before = []; item = m; rest = later } = same-divide ∙ divide_list T τ p m later kind in
        cut_by em start steps whole (record { depth = i; item = r }) (divide_cuts T t em start steps)
        (omega (arith, now.before, ap (λ (d : Divided). length d.before) divided))
        (sym (next_here now.walk less read is) ∙ to_item ∙ sym (now.item ∙ ap (λ (d : Divided). d.item) divided))

    -- it doesn't
    pub divides-on : get_or (kinds_of target) τ 0 < 5 → Divides target em start steps t (i + 1) r
    unfolding divide
    divides-on other =
        let d : Divided = divide T (next T τ p) later in
        let e : divide T τ (steps_from em (start + 2 * i + 2) (steps - i)) ≡ divide_at (kind_in (kinds_of target) (counts_of target) (members_in target) τ) p later d =
        same-divide ∙ ap (λ (κ : Kind). divide_at κ p later d) (kind_here now.walk less read) in
        let same = divide_other (get_or (kinds_of target) τ 0) (get_or (counts_of target) τ 0) (drop (τ * 16) (members_in target)) p later d other in
        let on : next T τ p ≡ r = next_here now.walk less read is in
        record {
          walk = follow-on now.walk less read is;
          high = omega arith;
          before = omega (arith, now.before, ap (λ (f : Divided). length f.before) e, same.longer, ap (λ (q : ℕ). length (divide T q later).before) on);
          item = now.item ∙ ap (λ (f : Divided). f.item) e ∙ same.item ∙ ap (λ (q : ℕ). (divide T q later).item) on;
        }
