-- Heights by rounds in place, from numbers that are nowhere below them: after n rounds those of height at most n are right, so after
-- as many rounds as there are types, or once a round changes nothing, all are.
use mathlib.Core.Path.{◌≡◌, refl, sym, ap, ◌∙◌, subst}
use mathlib.Core.Bool.{Bool, true, false}
use mathlib.Core.List.{List}
use Prim.Native.Nat.{ℕ, zero, suc, ◌+◌, ◌-◌, ◌≤◌, ◌<◌, min}
use native.Mathlib.Nat.{zero-add, suc-add}
use native.Mathlib.Numerals.{add-one}
use native.Mathlib.Omega.{arith}
use lib.ListN.{length, get_or, set, length-set, get_or-eq_default}
use lib.Seq.{get_or-set_same, get_or-set_other, set-get_or}
use lib.Dec.{eqb, leb, ltb}
use borrow.Author.Tests.{eqb-true, eqb-false, leb-true, leb-false, ltb-true, ltb-false}
use Rattle.loaded_table.specs.Loaded.{types_in, heights_of, table_by, Bounded, length_of_lem, section_long}
use Rattle.model.specs.Definitions.Table.{Table, kind_of}
use Rattle.model.specs.Definitions.Heights.{height_in, height_of_kind, heights}
use Rattle.model.proofs.Theorems.HeightLaws.{height_round, height_beyond, held_next, kind_lower, kind_positive}
use Rattle.model.proofs.Theorems.GrownTables.{kind_settled}
use Rattle.model.proofs.Theorems.Tools.{true_false, pick_true, pick_false}
use Rattle.table_heights.specs.Heights.{HoldsRound, HoldsHeights, NowhereBelow, first_height, next_height, raised}

-- ---- one entry written

-- what holds of the new entry and of the others holds of all
at_set : (P : ℕ → ℕ → Type 0) (xs : List ℕ) (i v : ℕ) → i < length xs → P i v → ((m : ℕ) → (m ≡ i → ⊥) → P m (get_or xs m 0)) → (m : ℕ) → P m (get_or (set xs i v) m 0)
at_set P xs i v within new old m = go (eqb m i) refl
  where
    go : (b : Bool) → eqb m i ≡ b → P m (get_or (set xs i v) m 0)
    go true e =
        let there : P i (get_or (set xs i v) i 0) = subst (P i) (sym (get_or-set_same xs i v 0 within)) new in
        subst (λ k. P k (get_or (set xs i v) k 0)) (sym (eqb-true m i e)) there
    go false e = subst (P m) (sym (get_or-set_other xs i m v 0 (eqb-false m i e))) (old m (eqb-false m i e))

-- ---- one round

module _ (T : Table) where
  -- the heights are their own next heights
  height_fixed : (t : ℕ) → t < length T → height_in (heights T) t ≡ next_height T (heights T) t
  unfolding heights
  height_fixed t exists = omega (arith, held_next T (suc (length T)) t, height_round T (suc (length T)) t exists)

  -- numbers that are nowhere below the heights, and right for the types of height at most n
  pub record SettledTo (n : ℕ) (hs : List ℕ) : Type 0 where
    pub entries : length hs ≡ 64
    pub nowhere-below : NowhereBelow T hs
    pub right : (t : ℕ) → height_in (heights T) t ≤ n → get_or hs t 0 ≡ height_in (heights T) t

  -- where members' numbers are so, a type's next number is not below its height,
  next_above : (hs : List ℕ) → NowhereBelow T hs → (t : ℕ) → t < length T → height_in (heights T) t ≤ next_height T hs t
  unfolding height_in
  next_above hs above t exists = omega (arith, height_fixed t exists, kind_lower (heights T) hs above.at_least (kind_of T t))

  -- and right where the type is at most one higher than those that are right
  pub next_right : (n : ℕ) (hs : List ℕ) → NowhereBelow T hs → ((t : ℕ) → height_in (heights T) t ≤ n → get_or hs t 0 ≡ height_in (heights T) t)
      → (t : ℕ) → t < length T → height_in (heights T) t ≤ suc n → next_height T hs t ≡ height_in (heights T) t
  next_right n hs above right t exists low = go (leb (height_of_kind (heights T) (kind_of T t)) (suc n)) refl
    where
      go : (b : Bool) → leb (height_of_kind (heights T) (kind_of T t)) (suc n) ≡ b → next_height T hs t ≡ height_in (heights T) t
      go true e =
          omega (arith, height_fixed t exists, kind_settled hs (heights T) n (unfold height_in in above.at_least) (unfold height_in in right) (kind_of T t) (leb-true _ _ e))
      go false e = omega (arith, height_fixed t exists, next_above hs above t exists, leb-false (height_of_kind (heights T) (kind_of T t)) (suc n) e)

  -- In a round the types from t on are done: those of one height more are right there. After it all of that height are.
  settled_round : length T ≤ 64 → (n t : ℕ) (hs : List ℕ) → t ≤ length T → SettledTo n hs
      → ((m : ℕ) → t ≤ m → height_in (heights T) m ≤ suc n → get_or hs m 0 ≡ height_in (heights T) m) → SettledTo (suc n) (raised T t hs)
  unfolding raised
  settled_round few n zero hs within settled done =
      record { entries = settled.entries; nowhere-below = settled.nowhere-below; right = λ t low. done t (omega arith) low }
  settled_round few n (suc t) hs within settled done =
      let v = next_height T hs t in
      let there : t < length hs = omega (arith, settled.entries) in
      let above = settled.nowhere-below in
      let next : height_in (heights T) t ≤ suc n → v ≡ height_in (heights T) t = next_right n hs above settled.right t (omega arith) in
      settled_round few n t (set hs t v) (omega arith)
      (record {
        entries = length-set hs t v ∙ settled.entries;
        nowhere-below =
            record {
              at_least = at_set (λ k x. height_in (heights T) k ≤ x) hs t v there (next_above hs above t (omega arith)) (λ k other. above.at_least k);
              held = at_set (λ k x. x ≤ length T + 1) hs t v there (omega arith) (λ k other. above.held k);
              none_beyond = at_set (λ k x. length T ≤ k → x ≡ 0) hs t v there (λ far. absurd (omega arith)) (λ k other. above.none_beyond k);
            };
        right = at_set (λ k x. height_in (heights T) k ≤ n → x ≡ height_in (heights T) k) hs t v there (λ low. next (omega arith)) (λ k other. settled.right k);
      })
      (at_set (λ k x. t ≤ k → height_in (heights T) k ≤ suc n → x ≡ height_in (heights T) k) hs t v there (λ h. next) (λ k other h. done k (omega (arith, other))))

-- the next height of a type of a loaded table that stands for T
pub next_is : (T : Table) (rows : List ℕ) (t : ℕ) {all h v : ℕ} → table_by rows ≡ T → length T ≡ all → h ≡ height_of_kind (heights_of rows) (kind_of (table_by rows) t) → v ≡ min (all + 1) h
    → v ≡ next_height T (heights_of rows) t
next_is T rows t same long e f =
    let by_kind = e ∙ ap (λ X. height_of_kind (heights_of rows) (kind_of X t)) same in
    rw (long, ← by_kind) f

-- in a round that began with some heights, the types below t are still to do
pub record Raising (T : Table) (before : List ℕ) (t : ℕ) (hs : List ℕ) (changed : Bool) : Type 0 where
  pub within : t ≤ length T
  pub entries : length hs ≡ 64
  whole : raised T t hs ≡ raised T (length T) before
  none_yet : changed ≡ false → hs ≡ before

pub raising_starts : (T : Table) (hs : List ℕ) → length hs ≡ 64 → Raising T hs (length T) hs false
raising_starts T hs long = record { within = omega arith; entries = long; whole = refl; none_yet = λ e. refl }

-- a type's height is found anew
raising_written : (T : Table) (before : List ℕ) (t : ℕ) (hs : List ℕ) (changed later : Bool) (v : ℕ) → v ≡ next_height T hs t → Raising T before (suc t) hs changed
    → (later ≡ false → set hs t v ≡ before) → Raising T before t (set hs t v) later
unfolding raised
raising_written T before t hs changed later v e h none =
    let below : t < length T = h.within in
    record {
      within = omega arith;
      entries = length-set hs t v ∙ h.entries;
      whole = ap (λ x. raised T t (set hs t x)) e ∙ h.whole;
      none_yet = none;
    }

-- it is another
pub raising_changed : {T : Table} {before : List ℕ} (t : ℕ) {hs : List ℕ} {changed : Bool} {v : ℕ} → 0 < t → v ≡ next_height T hs (t - 1) → Raising T before t hs changed
    → Raising T before (t - 1) (set hs (t - 1) v) true
raising_changed zero some e h = absurd (omega arith)
raising_changed {T} {before} (suc t) {hs} {changed} {v} some e h =
    let less : suc t - 1 ≡ t = omega arith in
    subst (λ k. Raising T before k (set hs k v) true) (sym less) (raising_written T before t hs changed true v (rw less at e) h (λ q. true_false refl q))

-- it is the same
pub raising_kept : {T : Table} {before : List ℕ} (t : ℕ) {hs : List ℕ} {changed : Bool} {v : ℕ} → 0 < t → v ≡ next_height T hs (t - 1) → get_or hs (t - 1) 0 ≡ v
    → Raising T before t hs changed → Raising T before (t - 1) hs changed
raising_kept zero some e same h = absurd (omega arith)
raising_kept {T} {before} (suc t) {hs} {changed} {v} some e same h =
    let less : suc t - 1 ≡ t = omega arith in
    let there : get_or hs t 0 ≡ v = rw less at same in
    let kept : set hs t v ≡ hs = ap (set hs t) (sym there) ∙ set-get_or hs t 0 in
    subst (λ k. Raising T before k hs changed) (sym less)
    (subst (λ xs. Raising T before t xs changed) kept (raising_written T before t hs changed changed v (rw less at e) h (λ q. kept ∙ h.none_yet q)))

pub raising_ends : {T : Table} {before : List ℕ} {t : ℕ} {hs : List ℕ} {changed : Bool} → t ≡ 0 → Raising T before t hs changed → HoldsRound T before hs changed
unfolding raised
raising_ends {T} {before} {t} {hs} e h = record { round = ap (λ k. raised T k hs) (sym e) ∙ h.whole; unchanged = h.none_yet }

-- ---- all rounds

-- the numbers with which rounds begin are nowhere below the heights
pub first_above : (rows : List ℕ) → Bounded rows → ((t : ℕ) → t < 64 → get_or (heights_of rows) t 0 ≡ first_height (types_in rows) t) → NowhereBelow (table_by rows) (heights_of rows)
unfolding first_height
first_above rows bounded first =
    record {
      at_least = λ t. cases (λ k x. height_in (heights T) k ≤ x) (λ k exists. omega (arith, height_fixed T k exists, long)) (λ k far. omega (arith, no-height k far)) t;
      held = λ t. cases (λ k x. x ≤ length T + 1) (λ k exists. omega (arith, long)) (λ k far. omega arith) t;
      none_beyond = λ t. cases (λ k x. length T ≤ k → x ≡ 0) (λ k exists far. absurd (omega arith)) (λ k far h. refl) t;
    }
  where
    T : Table
    T = table_by rows

    long : length T ≡ types_in rows
    long = length_of_lem rows

    no-height : (k : ℕ) → length T ≤ k → height_in (heights T) k ≡ 0
    no-height k far = unfold heights in height_beyond T (suc (length T)) k far

    -- what holds of each type with the number, and of others with 0
    cases : (P : ℕ → ℕ → Type 0) → ((k : ℕ) → k < length T → P k (types_in rows + 1)) → ((k : ℕ) → length T ≤ k → P k 0) → (t : ℕ) → P t (get_or (heights_of rows) t 0)
    cases P of_type of_none t = go (ltb t (types_in rows)) refl
      where
        go : (b : Bool) → ltb t (types_in rows) ≡ b → P t (get_or (heights_of rows) t 0)
        go true e =
            let exists = ltb-true t (types_in rows) e in
            subst (P t) (sym (first t (omega (arith, bounded.few_types)) ∙ pick_true _ _ _ e)) (of_type t (omega (arith, long)))
        go false e = subst (P t) (sym (none (ltb t 64) refl)) (of_none t (omega (arith, long, ltb-false t (types_in rows) e)))
          where
            none : (b : Bool) → ltb t 64 ≡ b → get_or (heights_of rows) t 0 ≡ 0
            none true q = first t (ltb-true t 64 q) ∙ pick_false _ _ _ e
            none false q = get_or-eq_default (heights_of rows) 0 (rw (section_long 128 64 rows (omega (arith, bounded.size))) (ltb-false t 64 q))

-- no type is as low as 0
pub settled_none : {T : Table} {hs : List ℕ} → length hs ≡ 64 → NowhereBelow T hs → SettledTo T 0 hs
settled_none {T} {hs} long above = record { entries = long; nowhere-below = above; right = λ t low. go t low (leb (length T) t) refl }
  where
    go : (t : ℕ) → height_in (heights T) t ≤ 0 → (b : Bool) → leb (length T) t ≡ b → get_or hs t 0 ≡ height_in (heights T) t
    go t low true e = omega (arith, above.none_beyond t (leb-true (length T) t e))
    go t low false e = absurd (omega (arith, height_fixed T t (leb-false (length T) t e), kind_positive (heights T) (kind_of T t)))

-- a round more
settled_next : (T : Table) (n : ℕ) (hs : List ℕ) → length T ≤ 64 → SettledTo T n hs → SettledTo T (suc n) (raised T (length T) hs)
unfolding heights
settled_next T n hs few settled =
    settled_round T few n (length T) hs (omega arith) settled
    (λ m far low. omega (arith, settled.nowhere-below.none_beyond m far, height_beyond T (suc (length T)) m far))

pub settled_more : {T : Table} {n : ℕ} {hs xs : List ℕ} {changed : Bool} → length T ≤ 64 → SettledTo T n hs → HoldsRound T hs xs changed → SettledTo T (n + 1) xs
settled_more {T} {n} {hs} few settled h = rw (add-one n, h.round) (settled_next T n hs few settled)

-- where a round changes nothing, so do all that come after it
settled_stays : (T : Table) (k n : ℕ) (hs : List ℕ) → length T ≤ 64 → SettledTo T n hs → raised T (length T) hs ≡ hs → SettledTo T (k + n) hs
settled_stays T zero n hs few settled e = rw zero-add settled
settled_stays T (suc k) n hs few settled e =
    let more : suc k + n ≡ suc (k + n) = suc-add k n in
    subst (λ j. SettledTo T j hs) (sym more) (subst (SettledTo T (suc (k + n))) e (settled_next T (k + n) hs few (settled_stays T k n hs few settled e)))

pub settled_last : {T : Table} {n types : ℕ} {hs xs : List ℕ} {changed : Bool} → length T ≤ 64 → n ≤ types → SettledTo T n hs → HoldsRound T hs xs changed → changed ≡ false
    → SettledTo T types xs
settled_last {T} {n} {types} {hs} {xs} few low settled h e =
    let kept : xs ≡ hs = h.unchanged e in
    let all : types - n + n ≡ types = omega arith in
    rw (kept, ← all) (settled_stays T (types - n) n hs few settled (sym h.round ∙ kept))

-- after as many rounds as there are types they are the heights: where there is none, the number is held
pub settled_all : {T : Table} {n : ℕ} {hs : List ℕ} → length T ≤ n → SettledTo T n hs → HoldsHeights T hs
settled_all {T} {n} {hs} all settled = record { height_at_lem = λ t. go t (leb (height_in (heights T) t) n) refl }
  where
    go : (t : ℕ) → (b : Bool) → leb (height_in (heights T) t) n ≡ b → get_or hs t 0 ≡ height_in (heights T) t
    go t true e = settled.right t (leb-true (height_in (heights T) t) n e)
    go t false e =
        omega (arith, leb-false (height_in (heights T) t) n e, settled.nowhere-below.at_least t, settled.nowhere-below.held t)
