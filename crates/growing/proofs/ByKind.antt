-- What is built below a target element, member by member, by its kind.
use mathlib.Core.Path.{◌≡◌, refl, sym, ap, subst, ◌∙◌}
use mathlib.Core.Bool.{true}
use mathlib.Core.List.{List, [], ◌∷◌, Memᴰ}
use mathlib.Core.Option.{some}
use Prim.Native.Nat.{ℕ, suc, ◌+◌, ◌-◌, ◌*◌, ◌≤◌, ◌<◌}
use native.Mathlib.Omega.{arith}
use lib.ListN.{length, take, drop, get_or, length-take, length-drop}
use lib.Seq.{get_or-take, get_or-drop, drop-cons, length-take-le}
use Rattle.model.specs.Definitions.Basics.{entry}
use Rattle.model.specs.Definitions.Commands.{Need}
use Rattle.model.specs.Definitions.Table.{Kind, sequence, choice, list, Table, kind_of, members_of, step_from}
use Rattle.model.specs.Definitions.Embedding.{next}
use Rattle.model.specs.Definitions.Filler.{fillers}
use Rattle.model.specs.Definitions.Image.{Placement, placed, under, is_placed, grow, grow_kind, grow_members}
use Rattle.model.specs.Definitions.Templates.{Shape, bare, framed, shaped}
use Rattle.model.proofs.Theorems.Facts.{WellFormed, Fits, nothing_placed, right_here, below_sequence, below_choice, below_list}
use Rattle.model.proofs.Theorems.Tools.{entry_member, entry_at, true_false}
use Rattle.model.proofs.Theorems.Placing.{under_same}
use Rattle.loaded_table.specs.Loaded.{Bounded, kind_from, table_by, types_in, kinds_of, counts_of, members_in, length_of_lem, kind_of_lem}
use Rattle.loaded_table.specs.Kinds.{choice_code, code_choice, code_sequence, code_list}
use Rattle.rows.specs.Laws.{entry_there}
use Rattle.std.specs.declared.ops.Range.{Range}
use Rattle.growing.specs.Growing.{MemberRange}

-- ---- entries of a list

entry_of : (p : ℕ) (xs : List ℕ) → 1 ≤ p → p ≤ length xs → entry p xs ≡ some (get_or xs (p - 1) 0)
entry_of p xs low high =
    let on : suc (p - 1) ≡ p = omega arith in
    subst (λ (q : ℕ). entry q xs ≡ some (get_or xs (p - 1) 0)) on (entry_there xs (p - 1) (omega arith))

-- ---- the members that are built

-- members j, j + 1, .., to - 1 of type t, counted from 1
abbrev pub members_from : List ℕ → ℕ → ℕ → ℕ → List ℕ
members_from target t j to = take (to - j) (drop (t * 16 + (j - 1)) (members_in target))

abbrev pub member_at : List ℕ → ℕ → ℕ → ℕ
member_at target t j = get_or (members_in target) (t * 16 + (j - 1)) 0

-- What an element of type t holds is what the members in the span hold, each by what is placed under its step; each of them
-- exists and has room for that.
pub record Grows (target : List ℕ) (n t : ℕ) (ps : List (Placement Shape)) (r : Range ℕ) : Type 0 where
  pub low : 1 ≤ r.start
  pub ordered : r.start ≤ r.end
  pub high : r.end ≤ 17
  pub positive : 0 < n
  pub same : grow shaped (table_by target) (fillers shaped (table_by target)) n t ps
      ≡ grow_members shaped (λ m qs. grow shaped (table_by target) (fillers shaped (table_by target)) (n - 1) m qs) ps r.start (members_from target t r.start r.end)
  pub is_type : (j : ℕ) → r.start ≤ j → j < r.end → member_at target t j < types_in target
  pub each : (j : ℕ) → r.start ≤ j → j < r.end → Fits (table_by target) (n - 1) (member_at target t j) (under j ps)

module _ {target : List ℕ} (bounded : Bounded target) (wf : WellFormed (table_by target)) {t : ℕ} (exists : t < types_in target) where
  abbrev T : Table
  T = table_by target

  abbrev row : List ℕ
  row = drop (t * 16) (members_in target)

  abbrev count : ℕ
  count = get_or (counts_of target) t 0

  abbrev code : ℕ
  code = get_or (kinds_of target) t 0

  members_long : length (members_in target) ≡ 1024
  members_long = omega (arith, length-take 1024 (drop 256 target), length-drop 256 target, bounded.size)

  small : t < 64
  small = omega (arith, bounded.few_types)

  row_at_lem : (j : ℕ) → get_or row (j - 1) 0 ≡ member_at target t j
  row_at_lem j = get_or-drop (t * 16) (members_in target) (j - 1) 0

  kind_here : (κ : Kind) → kind_of T t ≡ κ → kind_from code count row ≡ κ
  kind_here κ e = sym (kind_of_lem target t exists) ∙ e

  -- an entry of the members exists, and stands at its place
  entry_here : (p m : ℕ) → entry p (take count row) ≡ some m → (1 ≤ p) × (p ≤ count) × (member_at target t p ≡ m)
  entry_here p m e =
      let found = entry_at 0 p (take count row) m e in
      let within : p ≤ count = omega (arith, found.1, length-take count row) in
      (found.0, within, sym (row_at_lem p) ∙ sym (get_or-take count row (p - 1) 0 (omega (arith, found.0))) ∙ found.2)

  -- a member of the type is a type
  member_exists : (m : ℕ) → Memᴰ m (members_of (kind_of T t)) → m < types_in target
  member_exists m here = omega (arith, wf.members_exist t m here, length_of_lem target)

  -- one member, by its step
  one_member : (q : ℕ) → 1 ≤ q → q ≤ 16 → members_from target t q (q + 1) ≡ member_at target t q ∷ []
  one_member q low high =
      let one : q + 1 - q ≡ 1 = omega arith in
      rw (one, drop-cons (members_in target) (t * 16 + (q - 1)) 0 (omega (arith, members_long, small))) refl

  module _ (n q : ℕ) (path : List ℕ) (a : Shape) (qs : List (Placement Shape)) where
    abbrev ps : List (Placement Shape)
    ps = placed (q ∷ path) a ∷ qs

    abbrev inside : ℕ → List (Placement Shape) → Shape
    inside = λ m rs. grow shaped T (fillers shaped T) n m rs

    less_one : suc n - 1 ≡ n
    less_one = omega arith

    -- one member, on the path's step, of a type with another kind than a sequence
    by_one : (r : Range ℕ) (m : ℕ) → 1 ≤ q → q ≤ 16 → member_at target t q ≡ m → r.start ≡ q → r.end ≡ q + 1
        → grow shaped T (fillers shaped T) (suc n) t ps ≡ framed true m (inside m (under q ps)) bare
        → m < types_in target → Fits T n m (under q ps) → Grows target (suc n) t ps r
    unfolding grow_members shaped is_placed
    by_one r m low high is from to same exists' fits =
        record {
          low = omega arith;
          ordered = omega arith;
          high = omega arith;
          positive = omega arith;
          same = rw (less_one, from, to, one_member q low high, is, under_same q path a qs) (rw (under_same q path a qs) at same);
          is_type = λ j l h. let here : j ≡ q = omega arith in rw (here, is) exists';
          each = λ j l h. let here : j ≡ q = omega arith in rw (here, is, less_one) fits;
        }

    by-sequence : (ms : List ℕ) → kind_of T t ≡ sequence ms → ((p m : ℕ) → entry p ms ≡ some m → Fits T n m (under p ps)) → (r : Range ℕ) → MemberRange target t q r
        → Grows target (suc n) t ps r
    unfolding grow grow_kind members_of
    by-sequence ms kind fits r spans =
        let found = code_sequence code count row ms (kind_here (sequence ms) kind) in
        let span = spans.of_sequence found.0 in
        let all : count + 1 - 1 ≡ count = omega arith in
        let first : t * 16 + (1 - 1) ≡ t * 16 = omega arith in
        let few : count ≤ 16 = bounded.few_members t in
        let long : length (take count row) ≡ count = length-take-le count row (omega (arith, few, small, members_long, length-drop (t * 16) (members_in target))) in
        let at : (j : ℕ) → 1 ≤ j → j < count + 1 → entry j ms ≡ some (member_at target t j) =
        λ j low high. rw (sym found.1) (entry_of j (take count row) low (omega (arith, long)) ∙ ap some (get_or-take count row (j - 1) 0 (omega arith) ∙ row_at_lem j)) in
        record {
          low = omega (arith, span.0);
          ordered = omega (arith, span.0, span.1);
          high = omega (arith, span.1, few);
          positive = omega arith;
          same = rw (less_one, span.0, span.1, all, first, found.1, kind) refl;
          is_type = λ j l h. member_exists _ (rw kind (entry_member j ms (at j (omega (arith, span.0)) (omega (arith, span.1)))));
          each = λ j l h. rw less_one (fits j _ (at j (omega (arith, span.0)) (omega (arith, span.1))));
        }

    by-choice : (need : Need) (ms : List ℕ) → kind_of T t ≡ choice need ms → step_from (choice need ms) q ≡ some (next T t q) → Fits T n (next T t q) (under q ps) → (r : Range ℕ) → MemberRange target t q r
        → Grows target (suc n) t ps r
    unfolding grow grow_kind members_of step_from shaped
    by-choice need ms kind step fits r spans =
        let found = code_choice code count row (kind_here (choice need ms) kind) in
        let span = spans.of_other (λ e. true_false found.0 (ap choice_code e)) in
        let here = entry_here q (next T t q) (rw found.2 step) in
        by_one r (next T t q) here.0 (omega (arith, here.1, bounded.few_members t)) here.2 span.0 span.1 (rw kind refl)
        (member_exists _ (rw kind (entry_member q ms step))) fits

    by-list : (m : ℕ) → kind_of T t ≡ list m → q ≡ 1 → Fits T n m (under q ps) → (r : Range ℕ) → MemberRange target t q r → Grows target (suc n) t ps r
    unfolding grow grow_kind members_of shaped
    by-list m kind one fits r spans =
        let found = code_list code count row m (kind_here (list m) kind) in
        let span = spans.of_other (λ e. omega (arith, found.0)) in
        let none : 1 - 1 ≡ 0 = omega arith in
        let is : member_at target t q ≡ m = rw one (sym (row_at_lem 1) ∙ rw none found.1) in
        by_one r m (omega arith) (omega arith) is span.0 span.1 (rw kind refl) (member_exists m (rw kind (Memᴰ.head refl))) fits

-- what an element holds below which a path goes on with step q
pub grows : {target : List ℕ} → Bounded target → WellFormed (table_by target) → {n t : ℕ} → t < types_in target → (ps : List (Placement Shape))
    → Fits (table_by target) n t ps → (q : ℕ) (path : List ℕ) (a : Shape) (qs : List (Placement Shape)) → ps ≡ placed (q ∷ path) a ∷ qs
    → (r : Range ℕ) → MemberRange target t q r → Grows target n t ps r
grows {target = target} bounded wf {t = t} exists [] nothing_placed q path a qs is r spans = let z : ◌≡◌ {A = ℕ} 0 1 = cc in absurd (omega arith)
grows {target = target} bounded wf {t = t} exists (placed [] b ∷ []) right_here q path a qs is r spans = let z : ◌≡◌ {A = ℕ} 0 1 = cc in absurd (omega arith)
grows {target = target} bounded wf {n = n} {t = t} exists (placed [] b ∷ (_ ∷ _)) fits q path a qs is r spans = elim fits [ ]
grows {target = target} bounded wf {t = t} exists (placed (p ∷ path') b ∷ rs) (below_sequence {n = n} ms kind starts fits) q path a qs is r spans =
    let here : p ≡ q = cc in
    by-sequence bounded wf exists n p path' b rs ms kind fits r (subst (λ (s : ℕ). MemberRange target t s r) (sym here) spans)
grows {target = target} bounded wf {t = t} exists (placed (p ∷ path') b ∷ rs) (below_choice {n = n} need ms kind step starts fits) q path a qs is r spans =
    let here : p ≡ q = cc in
    by-choice bounded wf exists n p path' b rs need ms kind step fits r (subst (λ (s : ℕ). MemberRange target t s r) (sym here) spans)
grows {target = target} bounded wf {t = t} exists (placed (p ∷ path') b ∷ rs) (below_list {n = n} m kind starts fits) q path a qs is r spans =
    let here : p ≡ q = cc in
    by-list bounded wf exists n p path' b rs m kind refl fits r (subst (λ (s : ℕ). MemberRange target t s r) (sym here) spans)
