-- What is kept with the last type of a table, found in one step from what is kept with the others: its members that are lower are older
-- types, and so is the member that its filler takes.
use mathlib.Core.Path.{◌≡◌, refl, sym, ap, ◌∙◌, subst}
use mathlib.Core.Bool.{Bool, true, false}
use mathlib.Core.List.{List, Memᴰ}
use mathlib.Core.Logic.{inl, inr, ⊎_elim}
use Prim.Native.Nat.{ℕ, suc, ◌+◌, ◌-◌, ◌≤◌, ◌<◌, min}
use native.Mathlib.Omega.{arith}
use lib.ListN.{length, get_or, set, length-set}
use lib.Seq.{get_or-set_same, get_or-set_other}
use lib.Dec.{eqb, leb, ltb}
use borrow.Author.Tests.{eqb-true, eqb-false, leb-true, leb-false, ltb-true, ltb-false}
use Rattle.loaded_table.specs.Loaded.{heights_of, fill_of, table_by, Bounded, Kept, section-set, section-kept, section_long, length_of_lem}
use Rattle.model.specs.Definitions.Table.{Table, kind_of}
use Rattle.model.specs.Definitions.Heights.{height_in, heights_to, heights, height_of}
use Rattle.model.specs.Definitions.Filler.{filler_length}
use Rattle.model.specs.Definitions.Operations.{kept_length}
use Rattle.model.proofs.Theorems.Facts.{SoundTable}
use Rattle.model.proofs.Theorems.HeightLaws.{held_next, height_round, kind_positive}
use Rattle.model.proofs.Theorems.FillerLaws.{filled, filled_lower, filled_members}
use Rattle.model.proofs.Theorems.GrownTables.{beyond_height}
use Rattle.table_heights.specs.Sections.{Elsewhere, elsewhere_same, elsewhere_set, section_elsewhere, table_elsewhere, bounded_elsewhere}
use Rattle.table_heights.specs.Heights.{NowhereBelow, HoldsHeights, next_height}
use Rattle.table_heights.proofs.Rounds.{next_right}
use Rattle.table_fill.specs.Fill.{next_fill}
use Rattle.table_fill.proofs.FillRounds as lengths
use Rattle.table_growth.specs.Growth.{KeptBefore, LastKept}

-- a height is at most one more than the number of types
pub height_held : (T : Table) (u : ℕ) → height_of T u ≤ suc (length T)
unfolding height_of heights
height_held T u = omega (arith, held_next T (suc (length T)) u)

-- and that of a type at least 1
height_positive : (T : Table) (u : ℕ) → u < length T → 1 ≤ height_of T u
unfolding height_of heights
height_positive T u exists = omega (arith, height_round T (length T) u exists, kind_positive (heights_to T (length T)) (kind_of T u))

module _ (rows : List ℕ) (t : ℕ) (few : t < 64) (before : KeptBefore rows t) where
  abbrev T : Table
  T = table_by rows

  long : length T ≡ t + 1
  long = length_of_lem rows ∙ before.last

  -- where rounds would begin for the last type
  module _ {first : List ℕ} (e : first ≡ set rows (128 + t) (t + 2)) where
    pub first-elsewhere : Elsewhere 128 64 rows first
    first-elsewhere = elsewhere_set t (t + 2) few e (elsewhere_same 128 64 rows)

    stored : heights_of first ≡ set (heights_of rows) t (t + 2)
    stored = ap heights_of e ∙ section-set 128 64 rows t (t + 2) few

    -- what holds of the older types with what is kept, of the last with that number, and of all others with 0
    cases : (P : ℕ → ℕ → Type 0) → ((s : ℕ) → s < t → P s (height_of T s)) → P t (t + 2) → ((s : ℕ) → t < s → P s 0) → (s : ℕ) → P s (get_or (heights_of first) s 0)
    cases P older last beyond s = subst (λ l. P s (get_or l s 0)) (sym stored) (go (eqb s t) refl (ltb s t) refl)
      where
        go : (b : Bool) → eqb s t ≡ b → (c : Bool) → ltb s t ≡ c → P s (get_or (set (heights_of rows) t (t + 2)) s 0)
        go true q c r =
            subst (λ k. P k (get_or (set (heights_of rows) t (t + 2)) k 0)) (sym (eqb-true s t q))
            (subst (P t) (sym (get_or-set_same (heights_of rows) t (t + 2) 0 (rw (section_long 128 64 rows (omega (arith, before.bounded.size))) few))) last)
        go false q true r =
            let low = ltb-true s t r in
            subst (P s) (sym (get_or-set_other (heights_of rows) t s (t + 2) 0 (eqb-false s t q) ∙ before.older_height s low)) (older s low)
        go false q false r =
            let high : t < s = omega (arith, eqb-false s t q, ltb-false s t r) in
            subst (P s) (sym (get_or-set_other (heights_of rows) t s (t + 2) 0 (eqb-false s t q) ∙ before.none_beyond s high)) (beyond s high)

    above : NowhereBelow T (heights_of first)
    unfolding height_of
    above =
        record {
          at_least = cases (λ s x. height_of T s ≤ x) (λ s low. omega arith) (omega (arith, height_held T t, long)) (λ s high. omega (arith, beyond_height T s (omega (arith, long))));
          held = cases (λ s x. x ≤ length T + 1) (λ s low. omega (arith, height_held T s)) (omega (arith, long)) (λ s high. omega arith);
          none_beyond = cases (λ s x. length T ≤ s → x ≡ 0) (λ s low far. absurd (omega (arith, long))) (λ far. absurd (omega (arith, long))) (λ s high far. refl);
        }

    -- the next number is the height
    pub found : {h : ℕ} → h ≡ next_height (table_by first) (heights_of first) t → h ≡ height_of T t
    unfolding height_of height_in
    found {h} is =
        is
        ∙ ap (λ S. next_height S (heights_of first) t) (table_elsewhere (omega arith) (omega arith) first-elsewhere)
        ∙ next_right T (height_of T t - 1) (heights_of first) above
        (cases (λ s x. height_of T s ≤ height_of T t - 1 → x ≡ height_of T s) (λ s low small. refl) (λ small. absurd (omega (arith, height_positive T t (omega (arith, long))))) (λ s high small. sym (beyond_height T s (omega (arith, long)))))
        t (omega (arith, long)) (omega arith)

    module _ {h : ℕ} (is : h ≡ height_of T t) {mid : List ℕ} (f : mid ≡ set first (128 + t) h) where
      pub mid-elsewhere : Elsewhere 128 64 rows mid
      mid-elsewhere = elsewhere_set t h few f first-elsewhere

      pub same_mid : table_by mid ≡ T
      same_mid = table_elsewhere (omega arith) (omega arith) mid-elsewhere

      pub bounded-mid : Bounded mid
      bounded-mid = bounded_elsewhere (omega arith) (omega arith) mid-elsewhere before.bounded

      heights-right : (s : ℕ) → get_or (heights_of mid) s 0 ≡ height_of T s
      heights-right s = ap (λ (l : List ℕ). get_or l s 0) (ap heights_of f ∙ section-set 128 64 first t h few) ∙ go (eqb s t) refl
        where
          go : (b : Bool) → eqb s t ≡ b → get_or (set (heights_of first) t h) s 0 ≡ height_of T s
          go true q =
              rw (eqb-true s t q) (get_or-set_same (heights_of first) t h 0 (rw (section_long 128 64 first (omega (arith, first-elsewhere.same_size, before.bounded.size))) few) ∙ is)
          go false q =
              let other = eqb-false s t q in
              get_or-set_other (heights_of first) t s h 0 other
              ∙ cases (λ k x. (k ≡ t → ⊥) → x ≡ height_of T k) (λ k low apart. refl) (λ apart. absurd (apart refl)) (λ k high apart. sym (beyond_height T k (omega (arith, long)))) s other

      held-mid : HoldsHeights (table_by mid) (heights_of mid)
      unfolding height_of
      held-mid = rw same_mid (record { height_at_lem = heights-right })

      -- where the table is sound, the length found is right
      length-right : {v : ℕ} → v ≡ next_fill (table_by mid) (heights_of mid) (fill_of mid) t → SoundTable T → v ≡ kept_length T t
      unfolding kept_length
      length-right {v} e sound =
          lengths.next_is t held-mid (elsewhere_same 192 64 mid) e
          ∙ ap (λ S. next_fill S (heights S) (fill_of mid) t) same_mid
          ∙ ap (λ (l : List ℕ). next_fill T (heights T) l t) (section_elsewhere 192 64 (inr (omega arith)) mid-elsewhere)
          ∙ lengths.next_right T sound (fill_of rows) t exists older
        where
          exists : t < length T
          exists = omega (arith, long)

          older : (m : ℕ) → Memᴰ m (filled (heights T) (kind_of T t)) → get_or (fill_of rows) m 0 ≡ min 60001 (filler_length T m)
          older m here =
              let wf = sound.well_formed in
              let there : m < length T = wf.members_exist t m (filled_members (heights T) (kind_of T t) (wf.choices_choose t) m here) in
              before.older_fill sound m (omega (arith, filled_lower T wf t exists (sound.finite t exists) m here, long, differ m (filled_lower T wf t exists (sound.finite t exists) m here)))
            where
              differ : (m : ℕ) → height_of T m < height_of T t → m ≡ t → ⊥
              differ m lower same = absurd (omega (arith, ap (height_of T) same))

      -- all is kept
      module _ {v : ℕ} (found-length : v ≡ next_fill (table_by mid) (heights_of mid) (fill_of mid) t) {last : List ℕ} (g : last ≡ set mid (192 + t) v) where
        last-elsewhere : Elsewhere 128 128 rows last
        last-elsewhere =
            rw g
            (record {
              same_size = length-set mid (192 + t) v ∙ mid-elsewhere.same_size;
              same_at = λ i out.
                  get_or-set_other mid (192 + t) i v 0 (λ here. ⊎_elim (λ low. omega arith) (λ high. omega arith) out)
                  ∙ mid-elsewhere.same_at i (⊎_elim (λ low. inl low) (λ high. inr (omega arith)) out);
            })

        sound-if : height_of T t ≤ t + 1 → SoundTable T
        sound-if low = record { well_formed = before.well_formed; finite = λ s here. go s here (eqb s t) refl }
          where
            go : (s : ℕ) → s < length T → (b : Bool) → eqb s t ≡ b → height_of T s ≤ length T
            go s here true q = rw (eqb-true s t q) (omega (arith, long))
            go s here false q = omega (arith, before.older_finite s (omega (arith, long, eqb-false s t q)), long)

        kept_if : height_of T t ≤ t + 1 → Kept last T
        unfolding kept_length
        kept_if low =
            let sound = sound-if low in
            record {
              height_at_lem = λ s. ap (λ (l : List ℕ). get_or (heights_of l) s 0) g ∙ ap (λ (l : List ℕ). get_or l s 0) (section-kept 128 64 mid (192 + t) v (inr (omega arith))) ∙ heights-right s;
              fill_at_lem = λ s here. ap (λ (l : List ℕ). get_or l s 0) (ap fill_of g ∙ section-set 192 64 mid t v few) ∙ go sound s here (eqb s t) refl;
            }
          where
            go : SoundTable T → (s : ℕ) → s < length T → (b : Bool) → eqb s t ≡ b → get_or (set (fill_of mid) t v) s 0 ≡ min 60001 (filler_length T s)
            go sound s here true q =
                rw (eqb-true s t q) (get_or-set_same (fill_of mid) t v 0 (rw (section_long 192 64 mid (omega (arith, bounded-mid.size))) few) ∙ length-right found-length sound)
            go sound s here false q =
                let other = eqb-false s t q in
                get_or-set_other (fill_of mid) t s v 0 other
                ∙ ap (λ (l : List ℕ). get_or l s 0) (section_elsewhere 192 64 (inr (omega arith)) mid-elsewhere)
                ∙ before.older_fill sound s (omega (arith, other, long))

        pub last-kept : {finite : Bool} {most : ℕ} → finite ≡ leb h most → most ≡ t + 1 → LastKept rows t finite last
        last-kept {finite} {most} is-test at_most =
            let low : finite ≡ true → height_of T t ≤ t + 1 = λ q. omega (arith, leb-true h most (sym is-test ∙ q), is) in
            record {
              elsewhere = last-elsewhere;
              endless = λ q. omega (arith, leb-false h most (sym is-test ∙ q), is);
              low = low;
              kept = λ q. kept_if (low q);
            }
