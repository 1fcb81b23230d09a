-- Filler lengths by rounds in place. The members of a type's filler are lower than the type, so a round that finds those of
-- the types of height at most n right makes those of height n + 1 right too; and lengths that are their own next ones are right.
use mathlib.Core.Path.{◌≡◌, refl, ap, ap₂, ◌∙◌}
use mathlib.Core.Bool.{Bool, true, false}
use mathlib.Core.List.{List, [], ◌∷◌, Memᴰ}
use mathlib.Core.Logic.{◌⊎◌, inl, inr, ⊎_elim}
use Prim.Native.Nat.{ℕ, ◌+◌, ◌≤◌, ◌<◌, min}
use native.Mathlib.Omega.{arith}
use lib.ListN.{length, get_or, set}
use lib.Seq.{get_or-set_same, get_or-set_other}
use lib.Dec.{eqb}
use borrow.Author.Tests.{eqb-true, eqb-false}
use Rattle.loaded_table.specs.Loaded.{heights_of, fill_of, table_by}
use Rattle.model.specs.Definitions.Table.{Table, kind_of}
use Rattle.model.specs.Definitions.Heights.{height_in, heights, height_of}
use Rattle.model.specs.Definitions.Filler.{length_of, fill_members, fillers, filler_length}
use Rattle.model.proofs.Theorems.Facts.{SoundTable}
use Rattle.model.proofs.Theorems.HeightLaws.{finite_height, kind_positive}
use Rattle.model.proofs.Theorems.FillerLaws.{filled, fill_filled, filled_members, filled_lower, filler-induction, fill_step}
use Rattle.model.proofs.Theorems.GrownTables.{filled-same}
use Rattle.table_heights.specs.Sections.{Elsewhere, section_elsewhere, table_elsewhere}
use Rattle.table_heights.specs.Heights.{HoldsHeights}
use Rattle.table_fill.specs.Fill.{HoldsFill, FillTo, fill_sum, next_fill, HoldsFillRound}

-- the next lengths by a loaded table whose filler lengths alone may have changed are those by the heights
pub next_is : {rows after : List ℕ} {v : ℕ} (t : ℕ) → HoldsHeights (table_by rows) (heights_of rows) → Elsewhere 192 64 rows after → v ≡ next_fill (table_by after) (heights_of after) (fill_of after) t
    → v ≡ next_fill (table_by rows) (heights (table_by rows)) (fill_of after) t
next_is {rows} {after} t held kept e =
    e
    ∙ ap₂ (λ T hs. next_fill T hs (fill_of after) t) (table_elsewhere (omega arith) (omega arith) kept) (section_elsewhere 128 64 (inl (omega arith)) kept)
    ∙ ap (λ (ms : List ℕ). min 60001 (3 + fill_sum (fill_of after) ms)) (filled-same (heights_of rows) (heights (table_by rows)) (kind_of (table_by rows) t) (λ m here. unfold height_in in held.height_at_lem m))

-- a type's length in an array is right
abbrev Right : Table → List ℕ → ℕ → Type 0
Right T fill t = get_or fill t 0 ≡ min 60001 (filler_length T t)

module _ (T : Table) (sound : SoundTable T) where
  -- sums of held values, held, are the sums held
  members_held : (fill ms : List ℕ) → ((m : ℕ) → Memᴰ m ms → Right T fill m) → min 60001 (fill_sum fill ms) ≡ min 60001 (fill_members length_of (fillers length_of T) ms)
  unfolding fill_sum fill_members length_of filler_length
  members_held fill [] each = refl
  members_held fill (m ∷ ms) each = omega (arith, each m (Memᴰ.head refl), members_held fill ms (λ n here. each n (Memᴰ.tail here)))

  -- so a type's next length is right where those of the members of its filler are
  pub next_right : (fill : List ℕ) (t : ℕ) → t < length T → ((m : ℕ) → Memᴰ m (filled (heights T) (kind_of T t)) → Right T fill m)
      → next_fill T (heights T) fill t ≡ min 60001 (filler_length T t)
  unfolding filler_length
  next_right fill t exists each =
      omega (arith, fill_step T sound length_of t exists, fill_filled length_of (heights T) (fillers length_of T) (kind_of T t), members_held fill (filled (heights T) (kind_of T t)) each)

  -- and these are lower
  next_higher : (n : ℕ) (fill : List ℕ) → FillTo T n fill → (t : ℕ) → t < length T → height_of T t ≤ n + 1 → next_fill T (heights T) fill t ≡ min 60001 (filler_length T t)
  next_higher n fill right t exists low =
      next_right fill t exists
      (λ m here.
      right m (sound.well_formed.members_exist t m (filled_members (heights T) (kind_of T t) (sound.well_formed.choices_choose t) m here))
      (omega (arith, filled_lower T sound.well_formed t exists (sound.finite t exists) m here)))

  -- no type is as low as 0
  pub fill_none : (fill : List ℕ) → FillTo T 0 fill
  fill_none fill t exists low = absurd (omega (arith, finite_height T t exists (sound.finite t exists), kind_positive (heights T) (kind_of T t)))

  -- and none is higher than there are types
  pub fill_all : {fill : List ℕ} {n : ℕ} → length T ≤ n → FillTo T n fill → HoldsFill T fill
  fill_all all right = record { fill_at_lem = λ t exists. right t exists (omega (arith, sound.finite t exists)) }

  -- in a round that began with some lengths, the types below t are still to do
  pub record Filling (before : List ℕ) (t : ℕ) (fill : List ℕ) (changed : Bool) : Type 0 where
    right : (n : ℕ) → FillTo T n before → (k : ℕ) → k < length T → (height_of T k ≤ n) ⊎ ((t ≤ k) × (height_of T k ≤ n + 1)) → Right T fill k
    fixed : changed ≡ false → (k : ℕ) → k < length T → t ≤ k → get_or fill k 0 ≡ next_fill T (heights T) fill k

  pub filling_starts : {fill : List ℕ} {t : ℕ} {changed : Bool} → length T ≤ t → Filling fill t fill changed
  filling_starts all =
      record { right = λ n before k exists low. ⊎_elim (λ h. before k exists h) (λ h. absurd (omega (arith, h.0))) low; fixed = λ e k exists past. absurd (omega arith) }

  -- the length of type s is found anew
  pub filling_turn : {before fill : List ℕ} {t : ℕ} {changed : Bool} (s v : ℕ) (later : Bool) → t ≤ s + 1 → s < length fill → v ≡ next_fill T (heights T) fill s
      → (later ≡ false → (changed ≡ false) × (set fill s v ≡ fill)) → Filling before t fill changed → Filling before s (set fill s v) later
  filling_turn {before} {fill} {t} s v later next within e same f = record { right = λ n was k exists low. at n was k exists low (eqb k s) refl; fixed = still }
    where
      at : (n : ℕ) → FillTo T n before → (k : ℕ) → k < length T → (height_of T k ≤ n) ⊎ ((s ≤ k) × (height_of T k ≤ n + 1)) → (b : Bool) → eqb k s ≡ b → Right T (set fill s v) k
      at n was k exists low true q =
          let here : k ≡ s = eqb-true k s q in
          rw here (get_or-set_same fill s v 0 within ∙ e ∙ next_higher n fill (λ m there lower. f.right n was m there (inl lower)) s (rw here at exists) (⊎_elim (λ h. omega arith) (λ h. omega (arith, h.1)) (rw here at low)))
      at n was k exists low false q =
          let other = eqb-false k s q in
          get_or-set_other fill s k v 0 other ∙ f.right n was k exists (⊎_elim (λ h. inl h) (λ h. inr (omega (arith, other, h.0), h.1)) low)

      still : later ≡ false → (k : ℕ) → k < length T → s ≤ k → get_or (set fill s v) k 0 ≡ next_fill T (heights T) (set fill s v) k
      still q k exists past = rw (same q).1 (here (eqb k s) refl)
        where
          here : (b : Bool) → eqb k s ≡ b → get_or fill k 0 ≡ next_fill T (heights T) fill k
          here true p =
              let stored : get_or (set fill s v) s 0 ≡ v = get_or-set_same fill s v 0 within in
              rw (eqb-true k s p) (rw (same q).1 at stored ∙ e)
          here false p = f.fixed (same q).0 k exists (omega (arith, eqb-false k s p))

  pub filling_ends : {before fill : List ℕ} {t : ℕ} {changed : Bool} → t ≡ 0 → Filling before t fill changed → HoldsFillRound T before fill changed
  filling_ends {fill = fill} none f =
      record {
        higher = λ n was k exists low. f.right n was k exists (inr (omega arith, low));
        unchanged = λ e. record { fill_at_lem = λ k exists. filler-induction T sound.well_formed (Right T fill) (λ t there finite each. f.fixed e t there (omega arith) ∙ next_right fill t there each) k exists (sound.finite k exists) };
      }
