-- Tables that grow (02, N8): a table with a type more at its end, or with a member more at the end of a choice of either kind. Which heights
-- and filler lengths stay, and which fall.
use Rattle.std.specs.Prelude.{◌≡◌, Bool, ◌⊎◌, set, leb}
use Rattle.std.proofs.Math.Path.{refl, sym, ap}
use Rattle.std.proofs.Common.{◌∙◌, inl, inr, arith, le_of_eq, add-one, length-append, length-set, get_or-set_other, leb-true, leb-false, le-leb, eqb-true}
use Rattle.std.proofs.Math.Bool.{true, false}
use mathlib.Core.List.{List, [], ◌∷◌, ◌++◌, map, Memᴰ}
use Prim.Native.Nat.{ℕ, zero, suc, ◌+◌, ◌≤◌, ◌<◌, min}
use Rattle.std.proofs.Math.Nat.{le_refl}
use Rattle.std.proofs.Math.ListN.{length, get_or-append, get_or-eq_default, get_or-map}
use Rattle.std.proofs.Math.Seq.{get_or-append_seam, get_or-set_same}
use Rattle.std.proofs.Math.Dec.{eqb}
use Rattle.std.proofs.lemmas.Bool.{eqb-false}
use Rattle.model.specs.Definitions.Commands.{Need, needed, optional}
use Rattle.model.specs.Definitions.Table.{Kind, text, empty, sequence, choice, list, Table, kind_of, members_of}
use Rattle.model.specs.Definitions.Heights.{height_in, highest, lowest, height_of_kind, heights_to, heights, height_of, least_member}
use Rattle.model.specs.Definitions.Filler.{length_of, known, fill_members, fillers, filler_length}
use Rattle.model.proofs.Theorems.Facts.{WellFormed, SoundTable}
use Rattle.model.proofs.Theorems.Tools.{pick_true}
use Rattle.model.proofs.Theorems.HeightLaws.{height_round, height_beyond, kind_held, held_next, finite_height, above_lowest, least_member_lem, least_height, kind_lower}
use Rattle.model.proofs.Theorems.FillerLaws.{filled, fill_filled, filled_height, filler-induction, fill_same, fill_step}

-- ---- heights of a kind by two lists

-- the height of a type by heights that are held at n
held_at : (n : ℕ) (hs : List ℕ) (m : ℕ) → height_in (map (min n) hs) m ≡ min n (height_in hs m)
unfolding height_in
held_at n hs m = let none : min n 0 ≡ 0 = omega arith in rw none at (get_or-map (min n) hs m 0)

-- Where heights hs are nowhere below gs, and the same wherever gs is at most n, a kind whose height by gs is at most n + 1 has that height
-- by hs too: held at n + 1, the two give every type the same height.
pub kind_settled : (hs gs : List ℕ) (n : ℕ) → ((m : ℕ) → height_in gs m ≤ height_in hs m) → ((m : ℕ) → height_in gs m ≤ n → height_in hs m ≡ height_in gs m)
    → (κ : Kind) → height_of_kind gs κ ≤ suc n → height_of_kind hs κ ≡ height_of_kind gs κ
kind_settled hs gs n above same κ low =
    omega (arith, kind_held (suc n) (map (min (suc n)) gs) gs (held_at (suc n) gs) κ, kind_held (suc n) (map (min (suc n)) gs) hs both κ)
  where
    both : (m : ℕ) → height_in (map (min (suc n)) gs) m ≡ min (suc n) (height_in hs m)
    both m = go (leb (height_in gs m) n) refl
      where
        go : (b : Bool) → leb (height_in gs m) n ≡ b → height_in (map (min (suc n)) gs) m ≡ min (suc n) (height_in hs m)
        go true e = omega (arith, held_at (suc n) gs m, same m (leb-true (height_in gs m) n e))
        go false e = omega (arith, held_at (suc n) gs m, above m, leb-false (height_in gs m) n e)

-- where no member is higher, the highest isn't
highest_of_lower : (hs gs ms : List ℕ) → ((m : ℕ) → Memᴰ m ms → height_in hs m ≤ height_in gs m) → highest hs ms ≤ highest gs ms
unfolding highest
highest_of_lower hs gs [] lower = omega arith
highest_of_lower hs gs (m ∷ ms) lower = omega (arith, lower m (Memᴰ.head refl), highest_of_lower hs gs ms (λ n here. lower n (Memᴰ.tail here)))

-- a kind is at most one higher than the highest of the members that filler by any heights has
below_filled : (hs gs : List ℕ) (κ : Kind) → ((need : Need) (ms : List ℕ) → κ ≡ choice need ms → 0 < length ms)
    → height_of_kind hs κ ≤ suc (highest hs (filled gs κ))
unfolding height_of_kind filled highest
below_filled hs gs text chooses = omega arith
below_filled hs gs empty chooses = omega arith
below_filled hs gs (sequence ms) chooses = omega arith
below_filled hs gs (choice needed ms) chooses = omega (arith, above_lowest hs ms (least_member gs ms) (least_member_lem gs ms (chooses needed ms refl)))
below_filled hs gs (choice optional ms) chooses = omega arith
below_filled hs gs (list m) chooses = omega arith

-- the least member depends only on the members' heights
pub least_same : (hs gs ms : List ℕ) → ((m : ℕ) → Memᴰ m ms → height_in hs m ≡ height_in gs m) → least_member hs ms ≡ least_member gs ms
unfolding least_member
least_same hs gs [] same = refl
least_same hs gs (m ∷ []) same = refl
least_same hs gs (m ∷ n ∷ ms) same =
    let later : least_member hs (n ∷ ms) ≡ least_member gs (n ∷ ms) = least_same hs gs (n ∷ ms) (λ p here. same p (Memᴰ.tail here)) in
    let chosen : height_in hs (least_member gs (n ∷ ms)) ≡ height_in gs (least_member gs (n ∷ ms)) =
    same (least_member gs (n ∷ ms)) (Memᴰ.tail (least_member_lem gs (n ∷ ms) (omega arith))) in
    rw (later, chosen, same m (Memᴰ.head refl))

-- and so do the members that filler has
pub filled-same : (hs gs : List ℕ) (κ : Kind) → ((m : ℕ) → Memᴰ m (members_of κ) → height_in hs m ≡ height_in gs m) → filled hs κ ≡ filled gs κ
unfolding filled members_of
filled-same hs gs text same = refl
filled-same hs gs empty same = refl
filled-same hs gs (sequence ms) same = refl
filled-same hs gs (choice needed ms) same = ap (λ (m : ℕ). m ∷ []) (least_same hs gs ms same)
filled-same hs gs (choice optional ms) same = refl
filled-same hs gs (list m) same = refl

-- ---- heights of two tables

-- where no kind of a table is higher than that of another table, no type is, in any round
rounds_lower : (S R : Table) → length S ≤ length R
    → ((hs : List ℕ) (u : ℕ) → u < length S → height_of_kind hs (kind_of S u) ≤ height_of_kind hs (kind_of R u))
    → (n u : ℕ) → height_in (heights_to S n) u ≤ height_in (heights_to R n) u
rounds_lower S R fewer lower zero u = omega (arith, held_next S 0 u)
rounds_lower S R fewer lower (suc n) u = go (leb (length S) u) refl (rounds_lower S R fewer lower n)
  where
    go : (b : Bool) → leb (length S) u ≡ b → ((m : ℕ) → height_in (heights_to S n) m ≤ height_in (heights_to R n) m)
        → height_in (heights_to S (suc n)) u ≤ height_in (heights_to R (suc n)) u
    go true e before = omega (arith, height_beyond S (suc n) u (leb-true (length S) u e))
    go false e before =
        let exists : u < length S = leb-false (length S) u e in
        omega
        (arith, height_round S n u exists, height_round R n u (omega arith), kind_lower (heights_to S n) (heights_to R n) before (kind_of S u), lower (heights_to R n) u exists)

-- in any table no type is higher than its kind
below_kind : (T : Table) (u : ℕ) → u < length T → height_of T u ≤ height_of_kind (heights T) (kind_of T u)
unfolding height_of heights
below_kind T u exists = omega (arith, held_next T (suc (length T)) u, height_round T (suc (length T)) u exists)

-- and a number that is no type has height 0
pub beyond_height : (T : Table) (u : ℕ) → length T ≤ u → height_of T u ≡ 0
unfolding height_of heights
beyond_height T u beyond = height_beyond T (suc (length T)) u beyond

-- so in a sound table no number has a height above the number of types
pub finite_everywhere : (T : Table) → SoundTable T → (u : ℕ) → height_of T u ≤ length T
finite_everywhere T sound u = go (leb (length T) u) refl
  where
    go : (b : Bool) → leb (length T) u ≡ b → height_of T u ≤ length T
    go true e = omega (arith, beyond_height T u (leb-true (length T) u e))
    go false e = sound.finite u (leb-false (length T) u e)

-- In a sound table the heights are the highest too: no heights by which no type is higher than its kind are above them.
heights-highest : (T : Table) → SoundTable T → (hs : List ℕ) → ((u : ℕ) → u < length T → height_in hs u ≤ height_of_kind hs (kind_of T u))
    → (u : ℕ) → u < length T → height_in hs u ≤ height_of T u
unfolding height_of
heights-highest T sound hs below u exists = filler-induction T sound.well_formed (λ t. height_in hs t ≤ height_of T t) step u exists (sound.finite u exists)
  where
    step : (t : ℕ) → t < length T → height_of T t ≤ length T
        → ((m : ℕ) → Memᴰ m (filled (heights T) (kind_of T t)) → height_in hs m ≤ height_of T m) → height_in hs t ≤ height_of T t
    step t here finite each =
        let chooses = sound.well_formed.choices_choose t in
        omega
        (arith, below t here, finite_height T t here finite, filled_height (heights T) (kind_of T t) chooses, below_filled hs (heights T) (kind_of T t) chooses, highest_of_lower hs (heights T) (filled (heights T) (kind_of T t)) each)

-- so heights that satisfy its equations and are nowhere below them are the same
pub heights_unique : (T : Table) → SoundTable T → (hs : List ℕ) → ((u : ℕ) → height_of T u ≤ height_in hs u)
    → ((u : ℕ) → u < length T → height_in hs u ≡ height_of_kind hs (kind_of T u)) → (u : ℕ) → u < length T → height_in hs u ≡ height_of T u
heights_unique T sound hs above solves u exists =
    omega (arith, above u, heights-highest T sound hs (λ t here. le_of_eq (solves t here)) u exists)

-- Two sound tables whose filler has the same members have the same filler lengths, for all types of the one with fewer.
same_length : (S R : Table) → SoundTable S → SoundTable R → length S ≤ length R
    → ((u : ℕ) → u < length S → filled (heights S) (kind_of S u) ≡ filled (heights R) (kind_of R u))
    → (u : ℕ) → u < length S → filler_length S u ≡ filler_length R u
unfolding filler_length
same_length S R soundS soundR fewer same u exists =
    ap (λ (n : ℕ). 3 + n) (filler-induction S soundS.well_formed (λ t. known length_of (fillers length_of S) t ≡ known length_of (fillers length_of R) t) step u exists (soundS.finite u exists))
  where
    step : (t : ℕ) → t < length S → height_of S t ≤ length S
        → ((m : ℕ) → Memᴰ m (filled (heights S) (kind_of S t)) → known length_of (fillers length_of S) m ≡ known length_of (fillers length_of R) m)
        → known length_of (fillers length_of S) t ≡ known length_of (fillers length_of R) t
    step t here finite each =
        fill_step S soundS length_of t here
        ∙ fill_filled length_of (heights S) (fillers length_of S) (kind_of S t)
        ∙ fill_same length_of (fillers length_of S) (fillers length_of R) (filled (heights S) (kind_of S t)) each
        ∙ ap (fill_members length_of (fillers length_of R)) (same t here)
        ∙ sym (fill_filled length_of (heights R) (fillers length_of R) (kind_of R t))
        ∙ sym (fill_step R soundR length_of t (omega arith))

-- ---- a type more

-- there is a type more,
pub grown_length : (T : Table) (κ : Kind) → length (T ++ κ ∷ []) ≡ suc (length T)
grown_length T κ = length-append T (κ ∷ []) ∙ add-one (length T)

-- the older ones have the kinds they had,
pub kind_older : (T : Table) (κ : Kind) (t : ℕ) → t < length T → kind_of (T ++ κ ∷ []) t ≡ kind_of T t
unfolding kind_of
kind_older T κ t exists = get_or-append T (κ ∷ []) empty t exists

-- and the last one is the new one
pub kind_last : (T : Table) (κ : Kind) → kind_of (T ++ κ ∷ []) (length T) ≡ κ
unfolding kind_of
kind_last T κ = get_or-append_seam T κ [] empty

-- no height falls
older_above : (T : Table) (κ : Kind) (t : ℕ) → height_of T t ≤ height_of (T ++ κ ∷ []) t
unfolding height_of heights
older_above T κ t =
    let longer : length T ≤ length (T ++ κ ∷ []) = omega (arith, grown_length T κ) in
    let same : (hs : List ℕ) (u : ℕ) → u < length T → height_of_kind hs (kind_of T u) ≤ height_of_kind hs (kind_of (T ++ κ ∷ []) u) =
    λ hs u exists. le_of_eq (sym (ap (height_of_kind hs) (kind_older T κ u exists))) in
    rw grown_length
    (omega (arith, rounds_lower T (T ++ κ ∷ []) longer same (suc (length T)) t, held_next (T ++ κ ∷ []) (suc (length T)) t))

module _ (T : Table) (sound : SoundTable T) (κ : Kind) where
  -- and no older one moves: by the new heights too no older type is higher than its kind
  pub older_height : (t : ℕ) → t < length T → height_of (T ++ κ ∷ []) t ≡ height_of T t
  unfolding height_of
  older_height t exists = omega (arith, older_above T κ t, heights-highest T sound (heights (T ++ κ ∷ [])) below t exists)
    where
      below : (u : ℕ) → u < length T → height_of (T ++ κ ∷ []) u ≤ height_of_kind (heights (T ++ κ ∷ [])) (kind_of T u)
      below u here = rw kind_older at (below_kind (T ++ κ ∷ []) u (omega (arith, grown_length T κ)))

  -- the table is sound where its new type has a finite height
  pub grown_sound : WellFormed (T ++ κ ∷ []) → height_of (T ++ κ ∷ []) (length T) ≤ suc (length T) → SoundTable (T ++ κ ∷ [])
  grown_sound wf low = record { well_formed = wf; finite = λ t exists. go t (rw grown_length at exists) (leb (length T) t) refl }
    where
      go : (t : ℕ) → t < suc (length T) → (b : Bool) → leb (length T) t ≡ b → height_of (T ++ κ ∷ []) t ≤ length (T ++ κ ∷ [])
      go t exists true e =
          let last : t ≡ length T = omega (arith, leb-true (length T) t e) in
          rw (last, grown_length) low
      go t exists false e =
          let older : t < length T = leb-false (length T) t e in
          omega (arith, older_height t older, sound.finite t older, grown_length T κ)

  -- no older filler length moves
  pub older_length : SoundTable (T ++ κ ∷ []) → (t : ℕ) → t < length T → filler_length (T ++ κ ∷ []) t ≡ filler_length T t
  unfolding height_of
  older_length grown t exists = sym (same_length T (T ++ κ ∷ []) sound grown (omega (arith, grown_length T κ)) same t exists)
    where
      same : (u : ℕ) → u < length T → filled (heights T) (kind_of T u) ≡ filled (heights (T ++ κ ∷ [])) (kind_of (T ++ κ ∷ []) u)
      same u here =
          rw kind_older
          (filled-same (heights T) (heights (T ++ κ ∷ [])) (kind_of T u) (λ m member. sym (older_height m (sound.well_formed.members_exist u m member))))

-- ---- a member more

-- the lowest of the members is the lowest so far or the new one
lowest_more : (hs ms : List ℕ) (m : ℕ) → 0 < length ms → lowest hs (ms ++ m ∷ []) ≡ min (lowest hs ms) (height_in hs m)
unfolding lowest
lowest_more hs [] m some = absurd (omega arith)
lowest_more hs (a ∷ []) m some = refl
lowest_more hs (a ∷ b ∷ ms) m some = omega (arith, lowest_more hs (b ∷ ms) m (omega arith))

-- the least member stays where the new one is not lower: it is the earliest of equals
least_more : (hs ms : List ℕ) (m : ℕ) → 0 < length ms → lowest hs ms ≤ height_in hs m → least_member hs (ms ++ m ∷ []) ≡ least_member hs ms
unfolding least_member lowest
least_more hs [] m some low = absurd (omega arith)
least_more hs (a ∷ []) m some low = pick_true _ _ _ (le-leb _ _ low)
least_more hs (a ∷ b ∷ ms) m some low = go (leb (height_in hs a) (height_in hs (least_member hs (b ∷ ms)))) refl (least_more hs (b ∷ ms) m (omega arith))
  where
    go : (c : Bool) → leb (height_in hs a) (height_in hs (least_member hs (b ∷ ms))) ≡ c
        → (lowest hs (b ∷ ms) ≤ height_in hs m → least_member hs (b ∷ ms ++ m ∷ []) ≡ least_member hs (b ∷ ms))
        → least_member hs (a ∷ b ∷ ms ++ m ∷ []) ≡ least_member hs (a ∷ b ∷ ms)
    go true e later =
        let first : height_in hs a ≤ height_in hs (least_member hs (b ∷ ms ++ m ∷ [])) =
        omega
        (arith, leb-true (height_in hs a) (height_in hs (least_member hs (b ∷ ms))) e, least_height hs (b ∷ ms) (omega arith), least_height hs (b ∷ ms ++ m ∷ []) (omega arith), lowest_more hs (b ∷ ms) m (omega arith)) in
        pick_true _ _ _ (le-leb _ _ first) ∙ sym (pick_true _ _ _ e)
    go false e later = rw (later (omega (arith, leb-false (height_in hs a) (height_in hs (least_member hs (b ∷ ms))) e, least_height hs (b ∷ ms) (omega arith))))

-- so filler has the same members
filled_more : (hs : List ℕ) (need : Need) (ms : List ℕ) (m : ℕ) → 0 < length ms → (need ≡ optional) ⊎ (lowest hs ms ≤ height_in hs m)
    → filled hs (choice need (ms ++ m ∷ [])) ≡ filled hs (choice need ms)
unfolding filled
filled_more hs optional ms m some which = refl
filled_more hs needed ms m some (inl e) = let z : ◌≡◌ {A = ℕ} 0 1 = cc in absurd (omega arith)
filled_more hs needed ms m some (inr low) = ap (λ (n : ℕ). n ∷ []) (least_more hs ms m some low)

-- a choice of either kind with a member more is never higher
choice_more : (hs : List ℕ) (need : Need) (ms : List ℕ) (m : ℕ) → 0 < length ms → height_of_kind hs (choice need (ms ++ m ∷ [])) ≤ height_of_kind hs (choice need ms)
unfolding height_of_kind
choice_more hs optional ms m some = omega arith
choice_more hs needed ms m some = omega (arith, lowest_more hs ms m some)

-- a choice that needs a member is one higher than its lowest
needed_height : (hs : List ℕ) {κ : Kind} {need : Need} {ms : List ℕ} → κ ≡ choice need ms → need ≡ needed → height_of_kind hs κ ≡ suc (lowest hs ms)
unfolding height_of_kind
needed_height hs is e = rw (is, e)

-- a number whose kind is a choice is a type
choice_exists : (T : Table) (t : ℕ) {need : Need} {ms : List ℕ} → kind_of T t ≡ choice need ms → t < length T
unfolding kind_of
choice_exists T t {need} {ms} is = go (leb (length T) t) refl
  where
    go : (b : Bool) → leb (length T) t ≡ b → t < length T
    go true e =
        let beyond : kind_of T t ≡ empty = get_or-eq_default T empty (leb-true (length T) t e) in
        let z : ◌≡◌ {A = ℕ} 0 1 = cc in
        absurd (omega arith)
    go false e = leb-false (length T) t e

module _ (T : Table) (sound : SoundTable T) (t : ℕ) (need : Need) (ms : List ℕ) (is : kind_of T t ≡ choice need ms) (m : ℕ) where
  abbrev after : Table
  after = set T t (choice need (ms ++ m ∷ []))

  -- there are as many types,
  after_length : length after ≡ length T
  after_length = length-set T t (choice need (ms ++ m ∷ []))

  -- and type t has the member more
  kind_here : kind_of after t ≡ choice need (ms ++ m ∷ [])
  unfolding kind_of
  kind_here = get_or-set_same T t (choice need (ms ++ m ∷ [])) empty (choice_exists T t is)

  -- Cases: what holds of the choice before and after, and of every kind and itself, holds of every type's kinds before and after.
  by_kinds : (P : Kind → Kind → Type 0) → P (choice need ms) (choice need (ms ++ m ∷ [])) → ((κ : Kind) → P κ κ) → (u : ℕ) → P (kind_of T u) (kind_of after u)
  unfolding kind_of
  by_kinds P here elsewhere u = go (eqb u t) refl
    where
      go : (b : Bool) → eqb u t ≡ b → P (kind_of T u) (kind_of after u)
      go true e = rw (eqb-true u t e, is, kind_here) here
      go false e = rw (get_or-set_other T t u (choice need (ms ++ m ∷ [])) empty (eqb-false u t e)) (elsewhere (kind_of T u))

  -- it had a member before
  some : 0 < length ms
  some = sound.well_formed.choices_choose t need ms is

  -- heights only fall
  pub heights_fall : (u : ℕ) → height_of after u ≤ height_of T u
  unfolding height_of heights
  heights_fall u =
      rw after_length
      (rounds_lower after T (omega (arith, after_length))
      (λ hs v exists. by_kinds (λ κ κ'. height_of_kind hs κ' ≤ height_of_kind hs κ) (choice_more hs need ms m some) (λ κ. le_refl (height_of_kind hs κ)) v)
      (suc (length T)) u)

  -- so check 6 refuses nothing
  pub extended_sound : WellFormed after → SoundTable after
  extended_sound wf = record { well_formed = wf; finite = λ u exists. omega (arith, heights_fall u, after_length, sound.finite u (omega (arith, after_length))) }

  -- Unless the choice needs a member and gets one strictly lower than all it had, filler has the same members,
  unmoved_filled : (need ≡ optional) ⊎ (lowest (heights T) ms ≤ height_of T m) → (u : ℕ) → filled (heights T) (kind_of after u) ≡ filled (heights T) (kind_of T u)
  unfolding height_of
  unmoved_filled which = by_kinds (λ κ κ'. filled (heights T) κ' ≡ filled (heights T) κ) (filled_more (heights T) need ms m some which) (λ κ. refl)

  -- no height moves: the heights satisfy the new equations,
  pub unmoved_height : WellFormed after → (need ≡ optional) ⊎ (lowest (heights T) ms ≤ height_of T m) → (u : ℕ) → height_of after u ≡ height_of T u
  unfolding height_of
  unmoved_height wf which u = go (leb (length T) u) refl
    where
      solves : (v : ℕ) → v < length T → height_of T v ≡ height_of_kind (heights T) (kind_of after v)
      solves v here =
          finite_height T v here (sound.finite v here)
          ∙ filled_height (heights T) (kind_of T v) (sound.well_formed.choices_choose v)
          ∙ ap (λ (ns : List ℕ). suc (highest (heights T) ns)) (sym (unmoved_filled which v))
          ∙ sym (filled_height (heights T) (kind_of after v) (wf.choices_choose v))

      go : (b : Bool) → leb (length T) u ≡ b → height_of after u ≡ height_of T u
      go true e = omega (arith, heights_fall u, beyond_height T u (leb-true (length T) u e))
      go false e =
          sym
          (heights_unique after (extended_sound wf) (heights T) heights_fall (λ v here. solves v (omega (arith, after_length))) u (omega (arith, after_length, leb-false (length T) u e)))

  -- and no filler length;
  pub unmoved_length : WellFormed after → (need ≡ optional) ⊎ (lowest (heights T) ms ≤ height_of T m)
      → (u : ℕ) → u < length T → filler_length after u ≡ filler_length T u
  unfolding height_of
  unmoved_length wf which u here =
      same_length after T (extended_sound wf) sound (omega (arith, after_length))
      (λ v there. filled-same (heights after) (heights T) (kind_of after v) (λ n member. unmoved_height wf which n) ∙ unmoved_filled which v)
      u (omega (arith, after_length))

  -- where it gets one, its own height falls
  pub moved_height : need ≡ needed → height_of T m < lowest (heights T) ms → height_of after t < height_of T t
  unfolding height_of
  moved_height e low =
      let here : t < length T = choice_exists T t is in
      omega
      (arith, below_kind after t (omega (arith, after_length)), needed_height (heights after) kind_here e, lowest_more (heights after) ms m some, heights_fall m, finite_height T t here (sound.finite t here), needed_height (heights T) is e)
