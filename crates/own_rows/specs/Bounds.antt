-- How long a row can be: a path of l steps adds at most 18 * l + 1 symbols to what an element holds.
use Rattle.std.proofs.Math.Path.{◌≡◌, refl}
use Rattle.std.specs.Prelude.{Bool, eqb, leb}
use Rattle.std.proofs.Math.Bool.{true, false}
use mathlib.Core.List.{List, [], ◌∷◌}
use Rattle.std.proofs.Math.Option.{some}
use Prim.Native.Nat.{ℕ, zero, suc, ◌+◌, ◌*◌, ◌≤◌, ◌<◌}
use Rattle.std.proofs.Common.{add-zero, length-append, leb-true, leb-false, le-leb, eqb-true}
use native.Mathlib.Omega.{arith}
use Rattle.std.proofs.Math.ListN.{length}
use Rattle.std.proofs.lemmas.Bool.{lt-leb, eqb-false}
use Rattle.model.specs.Definitions.Basics.{pick, entry}
use Rattle.model.specs.Definitions.Commands.{Need}
use Rattle.model.specs.Definitions.Table.{sequence, choice, list, Table, kind_of}
use Rattle.model.specs.Definitions.Embedding.{next}
use Rattle.model.specs.Definitions.Filler.{fillers}
use Rattle.model.specs.Definitions.Image.{Placement, placed, under, beyond, is_placed, grow, grow_kind, grow_members}
use Rattle.model.specs.Definitions.Templates.{Shape, bare, framed, shaped, closing, row_of}
use Rattle.model.proofs.Theorems.Facts.{All, all_more, Starts, starts_none, starts_more, Fits, nothing_placed, right_here, below_sequence, below_choice, below_list}
use Rattle.model.proofs.Theorems.Tools.{one_plus}
use Rattle.model.proofs.Theorems.Placing.{under_same, under_all}
use Rattle.growing.specs.Parts.{fits_positive}

-- the symbols that some paths can add
unfoldable pub weight : List (Placement Shape) → ℕ
weight [] = 0
weight (placed path a ∷ ps) = 18 * length path + 1 + weight ps

-- and those that paths by way of member p, or a later one, add to the members that they don't reach
unfoldable gain : ℕ → List (Placement Shape) → ℕ
gain p [] = 0
gain p (placed [] a ∷ ps) = gain p ps
gain p (placed (q ∷ path) a ∷ ps) = pick (leb p q) (18 * length path + 2) 0 + gain p ps

gain_step : (p : ℕ) (ps : List (Placement Shape)) → gain p ps ≡ gain (suc p) ps + weight (under p ps) + length (under p ps)
unfolding gain weight under beyond pick
gain_step p [] = refl
gain_step p (placed [] a ∷ ps) = gain_step p ps
gain_step p (placed (q ∷ path) a ∷ ps) = go (eqb p q) refl (gain_step p ps)
  where
    go : (b : Bool) → eqb p q ≡ b → gain p ps ≡ gain (suc p) ps + weight (under p ps) + length (under p ps)
        → pick (leb p q) (18 * length path + 2) 0 + gain p ps
        ≡ pick (leb (suc p) q) (18 * length path + 2) 0 + gain (suc p) ps + weight (pick (eqb p q) (placed path a ∷ under p ps) (under p ps)) + length (pick (eqb p q) (placed path a ∷ under p ps) (under p ps))
    go true e later = rw (e, le-leb p q (omega (arith, eqb-true p q e)), lt-leb (suc p) q (omega (arith, eqb-true p q e))) (omega (arith, later))
    go false e later = rw e (side (leb p q) refl)
      where
        side : (b : Bool) → leb p q ≡ b
            → pick (leb p q) (18 * length path + 2) 0 + gain p ps ≡ pick (leb (suc p) q) (18 * length path + 2) 0 + gain (suc p) ps + weight (under p ps) + length (under p ps)
        side true f = rw (f, le-leb (suc p) q (omega (arith, leb-true p q f, eqb-false p q e))) (omega (arith, later))
        side false f = rw (f, lt-leb (suc p) q (omega (arith, leb-false p q f))) (omega (arith, later))

gain_most : {ok : ℕ → Type 0} (p : ℕ) {ps : List (Placement Shape)} → Starts ok ps → gain p ps + 17 * length ps ≤ weight ps
unfolding gain weight pick
gain_most p starts_none = omega arith
gain_most p (starts_more {q} {path} ok later) = go (leb p q) _ _ _ (gain_most p later)
  where
    go : (b : Bool) (g l w : ℕ) → g + 17 * l ≤ w → pick b (18 * length path + 2) 0 + g + 17 * suc l ≤ 18 * suc (length path) + 1 + w
    go true g l w h = omega (arith, h)
    go false g l w h = omega (arith, h)

-- the row of an element and what follows it
framed_length : (b : Bool) (t : ℕ) (k r : Shape) → (b ≡ true → length (row_of (framed b t k r)) ≡ 2 + length (row_of k) + length (row_of r)) × (b ≡ false → length (row_of (framed b t k r)) ≡ 1 + length (row_of r))
unfolding row_of
framed_length true t k r = (λ e. omega (arith, length-append (row_of k) (closing ∷ row_of r)), λ e. let z : ◌≡◌ {A = ℕ} 0 1 = cc in absurd (omega arith))
framed_length false t k r = (λ e. let z : ◌≡◌ {A = ℕ} 0 1 = cc in absurd (omega arith), λ e. omega arith)

placed_some : (ps : List (Placement Shape)) → is_placed ps ≡ true → 0 < length ps
unfolding is_placed
placed_some [] e = let z : ◌≡◌ {A = ℕ} 0 1 = cc in absurd (omega arith)
placed_some (p ∷ ps) e = omega arith

module _ (inside : ℕ → List (Placement Shape) → Shape) (ps : List (Placement Shape)) where
  members_bound : (p : ℕ) (ms : List ℕ)
      → ((i m : ℕ) → entry (suc i) ms ≡ some m → is_placed (under (p + i) ps) ≡ true → length (row_of (inside m (under (p + i) ps))) ≤ weight (under (p + i) ps))
      → length (row_of (grow_members shaped inside ps p ms)) ≤ length ms + gain p ps
  unfolding grow_members shaped row_of entry
  members_bound p [] each = omega arith
  members_bound p (m ∷ ms) each = go (is_placed (under p ps)) refl (members_bound (suc p) ms (λ i k e s. let on : suc p + i ≡ p + suc i = omega arith in rw on (each (suc i) k e (rw on at s))))
    where
      go : (b : Bool) → is_placed (under p ps) ≡ b → length (row_of (grow_members shaped inside ps (suc p) ms)) ≤ length ms + gain (suc p) ps
          → length (row_of (framed (is_placed (under p ps)) m (inside m (under p ps)) (grow_members shaped inside ps (suc p) ms))) ≤ suc (length ms) + gain p ps
      go true e later =
          let here : is_placed (under p ps) ≡ true → length (row_of (inside m (under p ps))) ≤ weight (under p ps) = rw (add-zero p) at (each 0 m refl) in
          omega (arith, later, here e, gain_step p ps, placed_some (under p ps) e, (framed_length (is_placed (under p ps)) m (inside m (under p ps)) (grow_members shaped inside ps (suc p) ms)).0 e)
      go false e later =
          omega (arith, later, gain_step p ps, (framed_length (is_placed (under p ps)) m (inside m (under p ps)) (grow_members shaped inside ps (suc p) ms)).1 e)

-- what is placed is a hole
abbrev pub IsGap : Placement Shape → Type 0
IsGap (placed path a) = length (row_of a) ≤ 1

module _ (T : Table) (few : (τ : ℕ) (ms : List ℕ) → kind_of T τ ≡ sequence ms → length ms ≤ 16) where
  abbrev content : ℕ → ℕ → List (Placement Shape) → Shape
  content n τ ps = grow shaped T (fillers shaped T) n τ ps

  one_bound : (n m q : ℕ) (path : List ℕ) (a : Shape) (ps : List (Placement Shape)) → {ok : ℕ → Type 0} → Starts ok (placed (q ∷ path) a ∷ ps)
      → (is_placed (under q (placed (q ∷ path) a ∷ ps)) ≡ true → length (row_of (content n m (under q (placed (q ∷ path) a ∷ ps)))) ≤ weight (under q (placed (q ∷ path) a ∷ ps)))
      → length (row_of (framed true m (content n m (under q (placed (q ∷ path) a ∷ ps))) bare)) ≤ weight (placed (q ∷ path) a ∷ ps)
  unfolding is_placed row_of
  one_bound n m q path a ps starts inner =
      let here : is_placed (under q (placed (q ∷ path) a ∷ ps)) ≡ true = rw (under_same q path a ps) refl in
      omega (
        arith,
        inner here,
        gain_step q (placed (q ∷ path) a ∷ ps),
        gain_most q starts,
        placed_some (under q (placed (q ∷ path) a ∷ ps)) here,
        (framed_length true m (content n m (under q (placed (q ∷ path) a ∷ ps))) bare).0 refl,
      )

  -- what an element of each kind holds
  module _ (n τ q : ℕ) (path : List ℕ) (a : Shape) (ps : List (Placement Shape)) where
    abbrev all : List (Placement Shape)
    all = placed (q ∷ path) a ∷ ps

    of_sequence : (ms : List ℕ) → kind_of T τ ≡ sequence ms → content (suc n) τ all ≡ grow_members shaped (λ m qs. content n m qs) all 1 ms
    unfolding grow grow_kind
    of_sequence ms kind = rw kind refl

    of_choice : (need : Need) (ms : List ℕ) → kind_of T τ ≡ choice need ms → content (suc n) τ all ≡ framed true (next T τ q) (content n (next T τ q) (under q all)) bare
    unfolding grow grow_kind shaped
    of_choice need ms kind = rw kind refl

    of_list : (m : ℕ) → kind_of T τ ≡ list m → content (suc n) τ all ≡ framed true m (content n m (under q all)) bare
    unfolding grow grow_kind shaped
    of_list m kind = rw kind refl

  ends_here : (n τ : ℕ) (a : Shape) → content (suc n) τ (placed [] a ∷ []) ≡ a
  unfolding grow
  ends_here n τ a = refl

  -- the row of what an element holds is no longer than its paths allow
  pub grow_bound : (n τ : ℕ) {ps : List (Placement Shape)} → Fits T n τ ps → All IsGap ps → is_placed ps ≡ true → length (row_of (content n τ ps)) ≤ weight ps
  unfolding is_placed weight
  grow_bound zero τ fits gaps there = absurd (omega (arith, fits_positive fits))
  grow_bound (suc n) τ nothing_placed gaps there = let z : ◌≡◌ {A = ℕ} 0 1 = cc in absurd (omega arith)
  grow_bound (suc n) τ (right_here {a = a}) (all_more h rest) there = rw (ends_here n τ a) (omega (arith, h))
  grow_bound (suc n) τ (below_sequence {q = q} {path} {a} {ps} ms kind starts fits) gaps there =
      let all : List (Placement Shape) = placed (q ∷ path) a ∷ ps in
      let row = members_bound (λ m qs. content n m qs) all 1 ms
      (λ i m e s. grow_bound n m (fits (1 + i) m (rw (one_plus i) e)) (under_all IsGap IsGap (1 + i) (λ other b h. h) all gaps) s) in
      rw (of_sequence n τ q path a ps ms kind) (omega (arith, row, few τ ms kind, gain_most 1 starts))
  grow_bound (suc n) τ (below_choice {q = q} {path} {a} {ps} need ms kind step starts fits) gaps there =
      let inner = grow_bound n (next T τ q) fits (under_all IsGap IsGap q (λ other b h. h) (placed (q ∷ path) a ∷ ps) gaps) in
      rw (of_choice n τ q path a ps need ms kind) (one_bound n (next T τ q) q path a ps starts inner)
  grow_bound (suc n) τ (below_list {path = path} {a} {ps} m kind starts fits) gaps there =
      let inner = grow_bound n m fits (under_all IsGap IsGap 1 (λ other b h. h) (placed (1 ∷ path) a ∷ ps) gaps) in
      rw (of_list n τ 1 path a ps m kind) (one_bound n m 1 path a ps starts inner)
