-- What filler of a type holds, by its kind; and the loop of `hollow`.
use mathlib.Core.Path.{◌≡◌, refl, sym, ap, subst, ◌∙◌}
use mathlib.Core.List.{List, [], ◌∷◌, ◌++◌, map, map-append, Memᴰ}
use Prim.Native.Nat.{ℕ, zero, suc, ◌+◌, ◌*◌, ◌≤◌, ◌<◌}
use native.Mathlib.Numerals.{add-one}
use native.Mathlib.Omega.{arith}
use lib.ListN.{length, take, get_or, length-take, length-map}
use lib.Seq.{take-suc, take_all}
use Rattle.model.specs.Definitions.Commands.{needed}
use Rattle.model.specs.Definitions.Table.{Kind, Table, kind_of, members_of}
use Rattle.model.specs.Definitions.Heights.{height_in, heights, height_of, least_member}
use Rattle.model.specs.Definitions.Templates.{Symbol, filler, filler_row}
use Rattle.model.proofs.Theorems.HeightLaws.{least_member_lem}
use Rattle.model.proofs.Theorems.FillerLaws.{filled}
use Rattle.model.proofs.Theorems.Templates.{filler_row_of}
use Rattle.loaded_table.specs.Loaded.{table_by, types_in, kinds_of, counts_of, heights_of, members_in, length_of_lem}
use Rattle.table_heights.specs.Sections.{members_at, members_long, member_is, kind_sequence, kind_choice, kind_other}
use Rattle.model.proofs.Theorems.GrownTables.{least_same}
use Rattle.rows.specs.Rows.{symbol_of}
use Rattle.rows.specs.Symbols.{filler_of_lem}
use Rattle.growing.specs.Growing.{Puts}
use Rattle.growing.specs.Laws.{puts_none, puts_then, puts-after}
use Rattle.filler_rows.specs.Storing.{Sound}

nth_member : (ms : List ℕ) (i : ℕ) → i < length ms → Memᴰ (get_or ms i 0) ms
nth_member [] i less = absurd (omega arith)
nth_member (m ∷ ms) zero less = Memᴰ.head refl
nth_member (m ∷ ms) (suc i) less = Memᴰ.tail (nth_member ms i (omega arith))

module _ {target : List ℕ} (sound : Sound target) {t : ℕ} (exists : t < types_in target) where
  abbrev T : Table
  T = table_by target

  abbrev ms : List ℕ
  ms = members_at target t

  pub small : t < 64
  small = omega (arith, sound.bounded.few_types)

  in_table : t < length T
  in_table = omega (arith, length_of_lem target)

  row : filler_row T t ≡ map filler (filled (heights T) (kind_of T t))
  row = filler_row_of T sound.sound t in_table

  -- a member is a type, so its symbol is filler
  member_small : (m : ℕ) → Memᴰ m (members_of (kind_of T t)) → m < 64
  member_small m here = omega (arith, sound.sound.well_formed.members_exist t m here, length_of_lem target, sound.bounded.few_types)

  -- no members
  pub hollow_none : {code : ℕ} → code ≡ get_or (kinds_of target) t 0 → (code ≡ 2 → ⊥) → (code ≡ 3 → ⊥) → filler_row T t ≡ []
  unfolding filled
  hollow_none is no-sequence no_choice =
      row ∙ kind_other target t exists is (λ κ. map filler (filled (heights T) κ) ≡ []) no-sequence no_choice refl refl (λ ms. refl) (λ m. refl)

  -- the least member
  module _ {code : ℕ} (is : code ≡ get_or (kinds_of target) t 0) (choosing : code ≡ 3) {m : ℕ} (least : m ≡ least_member (heights_of target) ms) where
    some-member : 0 < length ms
    some-member = sound.sound.well_formed.choices_choose t needed ms (kind_choice target t exists is choosing)

    same-heights : (k : ℕ) → Memᴰ k ms → height_in (heights_of target) k ≡ height_in (heights T) k
    unfolding height_in height_of
    same-heights k here = sound.kept.height_at_lem k

    is-least : m ≡ least_member (heights T) ms
    is-least = least ∙ least_same (heights_of target) (heights T) ms same-heights

    pub least-small : m < 64
    unfolding members_of
    least-small = rw is-least (member_small _ (rw (kind_choice target t exists is choosing) (least_member_lem (heights T) ms some-member)))

    pub hollow-choice : symbol_of (64 + m) ∷ [] ≡ filler_row T t
    unfolding filled
    hollow-choice =
        ap (λ (s : Symbol). s ∷ []) (filler_of_lem m least-small ∙ ap filler is-least)
        ∙ sym (row ∙ ap (λ (κ : Kind). map filler (filled (heights T) κ)) (kind_choice target t exists is choosing))

  -- the first members are written
  pub record Hollows (old : List ℕ) (at : ℕ) (pool : List ℕ) (place i : ℕ) : Type 0 where
    pub high : i ≤ get_or (counts_of target) t 0
    pub puts : Puts old pool at (map filler (take i (members_at target t))) place

  long : length ms ≡ get_or (counts_of target) t 0
  long = members_long target t (sound.bounded, exists) refl

  pub hollows_none : (old : List ℕ) (at : ℕ) → Hollows old at old at 0
  hollows_none old at = record { high = omega arith; puts = puts_none old at }

  module _ {old : List ℕ} {at : ℕ} {pool : List ℕ} {place i : ℕ} (now : Hollows old at pool place i) where
    pub hollows-place : place ≡ at + i
    hollows-place =
        puts-after now.puts ∙ ap (λ (k : ℕ). at + k) (length-map (take i ms) filler ∙ omega (arith, length-take i ms, long, now.high))

    module _ (less : i < get_or (counts_of target) t 0) {m : ℕ} (is : m ≡ get_or (members_in target) (t * 16 + i) 0) {code : ℕ} (kind : code ≡ get_or (kinds_of target) t 0) (row_of : code ≡ 2) where
      is-nth : m ≡ get_or ms i 0
      is-nth = member_is target t i less is

      pub nth-small : m < 64
      unfolding members_of
      nth-small = rw is-nth (member_small _ (rw (kind_sequence target t exists kind row_of) (nth_member ms i (omega (arith, long)))))

      pub hollows-more : {pool' : List ℕ} {place' : ℕ} → Puts pool pool' place (symbol_of (64 + m) ∷ []) place' → Hollows old at pool' place' (i + 1)
      hollows-more {pool'} {place'} put =
          record {
            high = omega arith;
            puts =
                subst (λ (r : List Symbol). Puts old pool' at r place')
                (ap (λ (s : Symbol). map filler (take i ms) ++ (s ∷ [])) (filler_of_lem m nth-small ∙ ap filler is-nth)
                ∙ sym (map-append filler (take i ms) (get_or ms i 0 ∷ []))
                ∙ ap (map filler) (sym (take-suc ms i 0 (omega (arith, long))) ∙ ap (λ (k : ℕ). take k ms) (sym (add-one i))))
                (puts_then now.puts put);
          }

    pub hollows-all : get_or (counts_of target) t 0 ≤ i → {code : ℕ} → code ≡ get_or (kinds_of target) t 0 → code ≡ 2 → Puts old pool at (filler_row T t) place
    unfolding filled
    hollows-all over kind row_of =
        subst (λ (r : List Symbol). Puts old pool at r place)
        (ap (map filler) (take_all i ms (omega (arith, long))) ∙ sym (row ∙ ap (λ (κ : Kind). map filler (filled (heights T) κ)) (kind_sequence target t exists kind row_of)))
        now.puts
