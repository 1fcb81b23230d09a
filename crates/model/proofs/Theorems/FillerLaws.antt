-- Filler. What the rounds of `Filler` give a type of finite height stays the same in later rounds, so it satisfies its
-- equation, for every builder; as content it conforms, and its levels are the type's height. So a type whose height is
-- at most the number of types has a finite instance.
use Rattle.std.specs.Prelude.{◌≡◌, refl, true, false}
use Rattle.std.proofs.Math.Path.{sym}
use Rattle.std.proofs.Common.{ap₂, ◌∙◌, arith, leb-true}
use mathlib.Core.List.Memᴰ
use mathlib.Core.List.{List, [], ◌∷◌, Memᴰ}
use Prim.Native.Nat.{ℕ, zero, suc, ◌≤◌, ◌<◌, max}
use Rattle.std.proofs.Math.ListN.{length}
use Rattle.model.specs.Definitions.Commands.{Need, needed, optional}
use Rattle.model.specs.Definitions.Table.{Kind, text, empty, sequence, choice, list, Table, kind_of, members_of}
use Rattle.model.specs.Definitions.Heights.{height_in, highest, height_of_kind, heights, height_of, has_instance, least_member}
use Rattle.model.specs.Definitions.Content.{Content, levels}
use Rattle.model.specs.Definitions.Conformance.{Holds, no_character, nothing, no_member, one_member, chosen, left_out, no_item, Instance}
use Rattle.model.specs.Definitions.Filler.{Builder, content, known, fill_members, fill_kind, fill_to, fillers}
use Rattle.model.proofs.Theorems.Facts.{WellFormed, SoundTable}
use Rattle.model.proofs.Theorems.HeightLaws.{get_d_of_map, finite_height, kind_positive, below_highest, least_member_lem, least_height}

-- ---- the members that filler has

-- the members of which an element of filler of a kind is made; hs are the heights
unfoldable pub filled : List ℕ → Kind → List ℕ
filled hs text = []
filled hs empty = []
filled hs (sequence ms) = ms
filled hs (choice needed ms) = least_member hs ms ∷ []
filled hs (choice optional ms) = []
filled hs (list m) = []

-- filler of a kind is filler of those members
pub fill_filled : {A : Type 0} (B : Builder A) (hs : List ℕ) (fs : List A) (κ : Kind) → fill_kind B hs fs κ ≡ fill_members B fs (filled hs κ)
unfolding fill_kind filled fill_members
fill_filled B hs fs text = refl
fill_filled B hs fs empty = refl
fill_filled B hs fs (sequence ms) = refl
fill_filled B hs fs (choice needed ms) = refl
fill_filled B hs fs (choice optional ms) = refl
fill_filled B hs fs (list m) = refl

-- a choice has a member to choose
abbrev Chooses : Kind → Type 0
Chooses κ = (need : Need) (ms : List ℕ) → κ ≡ choice need ms → 0 < length ms

-- filler's members are members of the kind
pub filled_members : (hs : List ℕ) (κ : Kind) → Chooses κ → (m : ℕ) → Memᴰ m (filled hs κ) → Memᴰ m (members_of κ)
unfolding filled members_of
filled_members hs text chooses m here = here
filled_members hs empty chooses m here = here
filled_members hs (sequence ms) chooses m here = here
filled_members hs (choice needed ms) chooses m here = Memᴰ.cast (Memᴰ.eq_of_singleton here) (least_member_lem hs ms (chooses needed ms refl))
filled_members hs (choice optional ms) chooses m here = absurd (Memᴰ.not-nil here)
filled_members hs (list n) chooses m here = absurd (Memᴰ.not-nil here)

-- and the kind is one higher than the highest of them
pub filled_height : (hs : List ℕ) (κ : Kind) → Chooses κ → height_of_kind hs κ ≡ suc (highest hs (filled hs κ))
unfolding filled height_of_kind highest
filled_height hs text chooses = refl
filled_height hs empty chooses = refl
filled_height hs (sequence ms) chooses = refl
filled_height hs (choice needed ms) chooses = omega (arith, least_height hs ms (chooses needed ms refl))
filled_height hs (choice optional ms) chooses = refl
filled_height hs (list m) chooses = refl

module _ (T : Table) (wf : WellFormed T) where
  -- so the members of a type's filler are lower than the type, if its height is finite
  pub filled_lower : (t : ℕ) → t < length T → height_of T t ≤ length T
      → (m : ℕ) → Memᴰ m (filled (heights T) (kind_of T t)) → height_of T m < height_of T t
  unfolding height_of
  filled_lower t exists finite m here =
      omega
      (arith, finite_height T t exists finite, filled_height (heights T) (kind_of T t) (wf.choices_choose t), below_highest (heights T) (filled (heights T) (kind_of T t)) m here)

  -- Induction: what holds of a type of finite height whenever it holds of the members of its filler holds of every such type.
  module _ (P : ℕ → Type 0) (step : (t : ℕ) → t < length T → height_of T t ≤ length T → ((m : ℕ) → Memᴰ m (filled (heights T) (kind_of T t)) → P m) → P t) where
    induction-to : (n t : ℕ) → t < length T → height_of T t ≤ length T → height_of T t < n → P t
    induction-to zero t exists finite low = absurd (omega arith)
    induction-to (suc n) t exists finite low =
        step t exists finite
        (λ m here.
        let below : height_of T m < height_of T t = filled_lower t exists finite m here in
        induction-to n m (wf.members_exist t m (filled_members (heights T) (kind_of T t) (wf.choices_choose t) m here)) (omega arith) (omega arith))

    pub filler-induction : (t : ℕ) → t < length T → height_of T t ≤ length T → P t
    filler-induction t exists finite = induction-to (suc (length T)) t exists finite (omega arith)

-- ---- the equation of filler

-- filler of members depends only on what filler of each of them holds
pub fill_same : {A : Type 0} (B : Builder A) (fs gs : List A) (ms : List ℕ)
    → ((m : ℕ) → Memᴰ m ms → known B fs m ≡ known B gs m) → fill_members B fs ms ≡ fill_members B gs ms
unfolding fill_members
fill_same B fs gs [] same = refl
fill_same B fs gs (m ∷ ms) same = ap₂ (B.element false m) (same m (Memᴰ.head refl)) (fill_same B fs gs ms (λ n here. same n (Memᴰ.tail here)))

-- a round gives a type the filler of its kind by the round before
fill_round : {A : Type 0} (B : Builder A) (hs : List ℕ) (T : Table) (n t : ℕ) → t < length T
    → known B (fill_to B hs T (suc n)) t ≡ fill_members B (fill_to B hs T n) (filled hs (kind_of T t))
unfolding known fill_to kind_of
fill_round B hs T n t exists =
    get_d_of_map (fill_kind B hs (fill_to B hs T n)) T t empty B.none exists ∙ fill_filled B hs (fill_to B hs T n) (kind_of T t)

module _ (T : Table) (wf : WellFormed T) {A : Type 0} (B : Builder A) where
  -- what filler of a type holds after n rounds
  abbrev after : ℕ → ℕ → A
  after n t = known B (fill_to B (heights T) T n) t

  -- once the rounds are as many as a type is high, its filler stays the same
  fill_stable : (t : ℕ) → t < length T → height_of T t ≤ length T → (n : ℕ) → height_of T t ≤ n → after (suc n) t ≡ after n t
  fill_stable = filler-induction T wf (λ t. (n : ℕ) → height_of T t ≤ n → after (suc n) t ≡ after n t) step
    where
      step : (t : ℕ) → t < length T → height_of T t ≤ length T
          → ((m : ℕ) → Memᴰ m (filled (heights T) (kind_of T t)) → (n : ℕ) → height_of T m ≤ n → after (suc n) m ≡ after n m)
          → (n : ℕ) → height_of T t ≤ n → after (suc n) t ≡ after n t
      step t exists finite below zero low =
          absurd (omega (arith, finite_height T t exists finite, kind_positive (heights T) (kind_of T t)))
      step t exists finite below (suc n) low =
          fill_round B (heights T) T (suc n) t exists
          ∙ fill_same B (fill_to B (heights T) T (suc n)) (fill_to B (heights T) T n) (filled (heights T) (kind_of T t)) (λ m here. before m here (filled_lower T wf t exists finite m here))
          ∙ sym (fill_round B (heights T) T n t exists)
        where
          before : (m : ℕ) → Memᴰ m (filled (heights T) (kind_of T t)) → height_of T m < height_of T t → after (suc n) m ≡ after n m
          before m here lower = below m here n (omega arith)

  -- so the filler of a type of finite height satisfies its equation
  pub finite_fill_step : (t : ℕ) → t < length T → height_of T t ≤ length T
      → known B (fillers B T) t ≡ fill_kind B (heights T) (fillers B T) (kind_of T t)
  unfolding fillers
  finite_fill_step t exists finite =
      sym (fill_stable t exists finite (length T) finite)
      ∙ fill_round B (heights T) T (length T) t exists
      ∙ sym (fill_filled B (heights T) (fill_to B (heights T) T (length T)) (kind_of T t))

-- ---- filler as content

-- filler of members holds all members, in order, where filler of each is right
members_hold : (T : Table) (fs : List Content) (ms : List ℕ)
    → ((m : ℕ) → Memᴰ m ms → Holds T (kind_of T m) (known content fs m)) → Holds T (sequence ms) (fill_members content fs ms)
unfolding fill_members content
members_hold T fs [] each = no_member
members_hold T fs (m ∷ ms) each = one_member (each m (Memᴰ.head refl)) (members_hold T fs ms (λ n here. each n (Memᴰ.tail here)))

-- and filler of a kind conforms
kind_holds : (T : Table) (hs : List ℕ) (fs : List Content) (κ : Kind) → Chooses κ
    → ((m : ℕ) → Memᴰ m (filled hs κ) → Holds T (kind_of T m) (known content fs m)) → Holds T κ (fill_kind content hs fs κ)
unfolding fill_kind filled fill_members content
kind_holds T hs fs text chooses each = no_character
kind_holds T hs fs empty chooses each = nothing
kind_holds T hs fs (sequence ms) chooses each = members_hold T fs ms each
kind_holds T hs fs (choice needed ms) chooses each = chosen (least_member_lem hs ms (chooses needed ms refl)) (each (least_member hs ms) (Memᴰ.head refl))
kind_holds T hs fs (choice optional ms) chooses each = left_out
kind_holds T hs fs (list m) chooses each = no_item

-- filler of members has as many levels as the highest of them, where filler of each has the right number
members_levels : (hs : List ℕ) (fs : List Content) (ms : List ℕ)
    → ((m : ℕ) → Memᴰ m ms → suc (levels (known content fs m)) ≡ height_in hs m) → levels (fill_members content fs ms) ≡ highest hs ms
unfolding fill_members highest levels content
members_levels hs fs [] each = refl
members_levels hs fs (m ∷ ms) each = ap₂ max (each m (Memᴰ.head refl)) (members_levels hs fs ms (λ n here. each n (Memᴰ.tail here)))

module _ (T : Table) (wf : WellFormed T) where
  -- filler of a type of finite height conforms
  pub finite_filler_conforms : (t : ℕ) → t < length T → height_of T t ≤ length T → Holds T (kind_of T t) (known content (fillers content T) t)
  finite_filler_conforms = filler-induction T wf (λ t. Holds T (kind_of T t) (known content (fillers content T) t)) step
    where
      step : (t : ℕ) → t < length T → height_of T t ≤ length T
          → ((m : ℕ) → Memᴰ m (filled (heights T) (kind_of T t)) → Holds T (kind_of T m) (known content (fillers content T) m))
          → Holds T (kind_of T t) (known content (fillers content T) t)
      step t exists finite each =
          rw (finite_fill_step T wf content t exists finite) (kind_holds T (heights T) (fillers content T) (kind_of T t) (wf.choices_choose t) each)

  -- and its levels, with the element itself, are the type's height
  pub finite_filler_levels : (t : ℕ) → t < length T → height_of T t ≤ length T → suc (levels (known content (fillers content T) t)) ≡ height_of T t
  unfolding height_of
  finite_filler_levels = filler-induction T wf (λ t. suc (levels (known content (fillers content T) t)) ≡ height_of T t) step
    where
      step : (t : ℕ) → t < length T → height_of T t ≤ length T
          → ((m : ℕ) → Memᴰ m (filled (heights T) (kind_of T t)) → suc (levels (known content (fillers content T) m)) ≡ height_of T m)
          → suc (levels (known content (fillers content T) t)) ≡ height_of T t
      step t exists finite each =
          rw (finite_fill_step T wf content t exists finite, fill_filled content (heights T) (fillers content T) (kind_of T t))
          (omega
          (arith, finite_height T t exists finite, filled_height (heights T) (kind_of T t) (wf.choices_choose t), members_levels (heights T) (fillers content T) (filled (heights T) (kind_of T t)) each))

  -- the first half of check 6: a type that passes it has a finite instance
  pub has_instance_lem : (t : ℕ) → t < length T → has_instance T t ≡ true → Instance T t
  unfolding has_instance Instance
  has_instance_lem t exists passes =
      (known content (fillers content T) t, finite_filler_conforms t exists (leb-true (height_of T t) (length T) passes))

-- ---- in a sound table every type has a finite height

module _ (T : Table) (sound : SoundTable T) where
  -- filler satisfies its equation, for every builder
  pub fill_step : {A : Type 0} (B : Builder A) (t : ℕ) → t < length T
      → known B (fillers B T) t ≡ fill_kind B (heights T) (fillers B T) (kind_of T t)
  fill_step B t exists = finite_fill_step T sound.well_formed B t exists (sound.finite t exists)

  -- as content it conforms
  pub filler_conforms : (t : ℕ) → t < length T → Holds T (kind_of T t) (known content (fillers content T) t)
  filler_conforms t exists = finite_filler_conforms T sound.well_formed t exists (sound.finite t exists)

  -- and its levels, with the element itself, are the type's height
  pub filler_levels : (t : ℕ) → t < length T → suc (levels (known content (fillers content T) t)) ≡ height_of T t
  filler_levels t exists = finite_filler_levels T sound.well_formed t exists (sound.finite t exists)

  -- so every type has a finite instance
  pub instance_of : (t : ℕ) → t < length T → Instance T t
  unfolding Instance
  instance_of t exists = (known content (fillers content T) t, filler_conforms t exists)
