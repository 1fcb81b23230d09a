-- A member stored behind those of a choice of either kind: the table then, and what is kept with its types.
use mathlib.Core.Path.{◌≡◌, refl, sym, ap, ◌∙◌, subst}
use mathlib.Core.Bool.{Bool, true, false}
use mathlib.Core.List.{List, [], ◌∷◌, ◌++◌}
use mathlib.Core.Logic.{inl, inr, ⊎_elim}
use Prim.Native.Nat.{ℕ, suc, ◌+◌, ◌*◌, ◌≤◌, ◌<◌, min}
use native.Mathlib.Nat.{zero-add}
use native.Mathlib.Omega.{arith}
use lib.ListN.{length, drop, get_or, set, length-append, length-set, get_or-append}
use lib.Seq.{get_or-set_same, get_or-set_other, get_or-append_seam, take-length}
use lib.Dec.{eqb, ltb}
use borrow.Author.Tests.{eqb-true, eqb-false, ltb-false}
use Rattle.loaded_table.specs.Kinds.{choice_code, need_from, choice_code_lem, choice_from, choice_codes, choice_range}
use Rattle.loaded_table.specs.Loaded.{kinds_of, counts_of, heights_of, fill_of, members_in, types_in, table_by, Bounded, in_section, length_of_lem, kind_of_lem}
use Rattle.loaded_table.specs.Places.{kind_at, SameButFor, same_all, same_set, kind_stored, section_apart, bounded_then, table_changed}
use Rattle.model.specs.Definitions.Commands.{Need, needed, optional}
use Rattle.model.specs.Definitions.Table.{Table, choice, is_choice, kind_of}
use Rattle.model.specs.Definitions.Heights.{height_in, height_of_kind, height_of, heights, lowest}
use Rattle.model.specs.Definitions.Filler.{filler_length}
use Rattle.model.specs.Definitions.ValidTable.{ValidTable}
use Rattle.model.specs.Definitions.Operations.{with_member, extended_at}
use Rattle.model.proofs.Theorems.Facts.{WellFormed, SoundTable}
use Rattle.model.proofs.Theorems.HeightLaws.{finite_height}
use Rattle.model.proofs.Theorems.GrownTables.{beyond_height, finite_everywhere, heights_fall, extended_sound, unmoved_height, unmoved_length}
use Rattle.model.proofs.Theorems.Operations.{valid_sound, extended-well-formed, member-appended}
use Rattle.table_heights.specs.Sections.{members_at, members_long, member_is, section_elsewhere, table_elsewhere, bounded_elsewhere}
use Rattle.table_heights.specs.Heights.{NowhereBelow, HeightsFound}
use Rattle.table_fill.specs.Fill.{FillFound}
use Rattle.table_growth.specs.Growth.{Loaded, MayJoin, StaysUnless}

-- a type that is a choice of either kind is one of the members that are loaded
module _ (rows : List ℕ) (t : ℕ) (exists : t < types_in rows) (chooses : is_choice (kind_of (table_by rows) t) ≡ true) where
  pub choice_is_code : choice_code (get_or (kinds_of rows) t 0) ≡ true
  choice_is_code = sym (choice_code_lem (get_or (kinds_of rows) t 0) (get_or (counts_of rows) t 0) (drop (t * 16) (members_in rows))) ∙ ap is_choice (sym (kind_of_lem rows t exists)) ∙ chooses

  pub choice_is : kind_of (table_by rows) t ≡ choice (need_from (get_or (kinds_of rows) t 0)) (members_at rows t)
  choice_is = kind_of_lem rows t exists ∙ choice_from (get_or (kinds_of rows) t 0) (get_or (counts_of rows) t 0) (drop (t * 16) (members_in rows)) choice_is_code

module _ (rows : List ℕ) (t m : ℕ) (may : MayJoin rows t m) where
  abbrev T : Table
  T = table_by rows

  -- how many members it has, and which
  abbrev n : ℕ
  n = get_or (counts_of rows) t 0

  abbrev ms : List ℕ
  ms = members_at rows t

  abbrev code : ℕ
  code = get_or (kinds_of rows) t 0

  abbrev need : Need
  need = need_from code

  abbrev bounded : Bounded rows
  bounded = may.loaded.stands.bounded

  few : t < 64
  few = omega (arith, may.exists, bounded.few_types)

  long : length ms ≡ n
  long = members_long rows t (bounded, may.exists) refl

  is_code : choice_code code ≡ true
  is_code = choice_is_code rows t may.exists may.chooses

  is : kind_of T t ≡ choice need ms
  is = choice_is rows t may.exists may.chooses

  known : m < length T
  known = omega (arith, may.known, length_of_lem rows)

  sound : SoundTable T
  sound = valid_sound T may.loaded.valid

  -- the table then, with the kind of type t written out
  abbrev then : Table
  then = set T t (choice need (ms ++ m ∷ []))

  then_is : extended_at T t m ≡ then
  unfolding extended_at with_member
  then_is = ap (λ κ. set T t (with_member κ m)) is

  then_well_formed : WellFormed then
  then_well_formed = subst WellFormed then_is (extended-well-formed T may.loaded.valid t need ms is m (omega (arith, long, may.room)) known may.new)

  then_sound : SoundTable then
  then_sound = extended_sound T sound t need ms is m then_well_formed

  then_valid : ValidTable (extended_at T t m)
  then_valid = (member-appended T may.loaded.valid t need ms is m (omega (arith, long, may.room)) known may.new).1

  then_long : length then ≡ length T
  then_long = length-set T t (choice need (ms ++ m ∷ []))

  old : (u : ℕ) → u < length then → u < length T
  old u here = omega (arith, then_long)

  -- ---- whether numbers move

  -- a choice that needs a member is one higher than its lowest
  needed_height : need ≡ needed → height_of T t ≡ suc (lowest (heights T) ms)
  unfolding height_of_kind
  needed_height e =
      finite_height T t (omega (arith, may.exists, length_of_lem rows)) (finite_everywhere T sound t) ∙ ap (height_of_kind (heights T)) (is ∙ ap (λ n. choice n ms) e)

  -- the need of a choice is that of its code
  need_is : {other : Need} → kind_of T t ≡ choice other ms → need ≡ other
  need_is {other} e = let same : choice need ms ≡ choice other ms = sym is ∙ e in cc

  pub moves_needed : {h g k : ℕ} {moves : Bool} → code ≡ 3 → h ≡ height_of T m → g ≡ height_of T t → moves ≡ ltb k g → k ≤ h + 1 → StaysUnless rows t m moves
  moves_needed {h} {g} {k} {moves} three low high is-test enough other e still =
      let not_lower : g ≤ k = ltb-false k g (sym is-test ∙ still) in
      inr (omega (arith, not_lower, needed_height (ap need_from three)))

  pub moves_optional : (moves : Bool) → (code ≡ 3 → ⊥) → StaysUnless rows t m moves
  moves_optional moves other_code other e still =
      inl (sym (need_is e) ∙ choice_codes (λ (k : ℕ). (k ≡ 3 → ⊥) → need_from k ≡ optional) (λ none. absurd (none refl)) (λ none. refl) code is_code other_code)

  -- ---- stored

  module _ {after : List ℕ} (e : after ≡ set (set rows (256 + (t * 16 + n)) m) (64 + t) (n + 1)) where
    abbrev mid : List ℕ
    mid = set rows (256 + (t * 16 + n)) m

    room : n < 16
    room = may.room

    same : SameButFor t rows after
    same =
        same_set (64 + t) (n + 1) (λ j kind count row here. count here) e
        (same_set (256 + (t * 16 + n)) m (λ j kind count row here. ⊎_elim (λ low. omega (arith, room)) (λ high. omega (arith, room)) row) refl (same_all t rows))

    more : length (ms ++ m ∷ []) ≡ n + 1
    more = omega (arith, length-append ms (m ∷ []), long)

    counted : get_or after (64 + t) 0 ≡ n + 1
    counted = ap (λ (l : List ℕ). get_or l (64 + t) 0) e ∙ get_or-set_same mid (64 + t) (n + 1) 0 (omega (arith, length-set rows (256 + (t * 16 + n)) m, bounded.size, few))

    -- the members are those it had, and the new one
    each : (i : ℕ) → i < length (ms ++ m ∷ []) → get_or after (256 + (t * 16 + i)) 0 ≡ get_or (ms ++ m ∷ []) i 0
    each i low =
        ap (λ (l : List ℕ). get_or l (256 + (t * 16 + i)) 0) e
        ∙ get_or-set_other mid (64 + t) (256 + (t * 16 + i)) (n + 1) 0 (λ h. omega arith)
        ∙ go (eqb i n) refl
      where
        go : (b : Bool) → eqb i n ≡ b → get_or mid (256 + (t * 16 + i)) 0 ≡ get_or (ms ++ m ∷ []) i 0
        go true q =
            let here : i ≡ n = eqb-true i n q in
            rw here
            (get_or-set_same rows (256 + (t * 16 + n)) m 0 (omega (arith, bounded.size, room))
            ∙ sym (ap (λ (k : ℕ). get_or (ms ++ m ∷ []) k 0) (sym long) ∙ get_or-append_seam ms m [] 0))
        go false q =
            let other = eqb-false i n q in
            let below : i < n = omega (arith, other, more) in
            get_or-set_other rows (256 + (t * 16 + n)) (256 + (t * 16 + i)) m 0 (λ h. other (omega arith))
            ∙ sym (in_section 256 1024 rows (t * 16 + i) (omega (arith, room)))
            ∙ member_is rows t i below refl
            ∙ sym (get_or-append ms (m ∷ []) 0 i (omega (arith, long)))

    same_code : get_or after t 0 ≡ code
    same_code =
        ap (λ (l : List ℕ). get_or l t 0) e
        ∙ get_or-set_other mid (64 + t) t (n + 1) 0 (λ h. omega arith)
        ∙ get_or-set_other rows (256 + (t * 16 + n)) t m 0 (λ h. omega arith)
        ∙ sym (in_section 0 64 rows t few ∙ ap (λ (i : ℕ). get_or rows i 0) (zero-add t))

    stored : kind_at after t ≡ choice need (ms ++ m ∷ [])
    stored =
        kind_stored after t code (ms ++ m ∷ []) (same.same_size ∙ bounded.size) few (omega (arith, more, room)) same_code (counted ∙ sym more) each (λ h. absurd (omega (arith, (choice_range code is_code).1)))
        ∙ choice_from code (length (ms ++ m ∷ [])) (ms ++ m ∷ []) is_code
        ∙ ap (choice need) (take-length (ms ++ m ∷ []))

    -- the array stands for the table then
    table_is : table_by after ≡ then
    table_is = table_changed same bounded stored may.exists

    bounded-is : Bounded after
    bounded-is = bounded_then same bounded few (omega (arith, in_section 64 64 after t few, counted, room))

    heights-are : heights_of after ≡ heights_of rows
    heights-are = section_apart 128 64 (omega arith) (omega arith) few same

    fill_is : fill_of after ≡ fill_of rows
    fill_is = section_apart 192 64 (omega arith) (omega arith) few same

    -- where no number moves, what is kept is right
    pub stays : {moves : Bool} → StaysUnless rows t m moves → moves ≡ false → Loaded after (extended_at T t m)
    stays unless still =
        let low = unless need is still in
        let kept = may.loaded.stands.kept in
        rw then_is
        (record {
          stands =
              record {
                same_table = table_is;
                bounded = bounded-is;
                kept =
                    record {
                      height_at_lem = λ u. rw heights-are (kept.height_at_lem u ∙ sym (unmoved_height T sound t need ms is m then_well_formed low u));
                      fill_at_lem = λ u here. rw fill_is (kept.fill_at_lem u (old u here) ∙ ap (min 60001) (sym (unmoved_length T sound t need ms is m then_well_formed low u (old u here))));
                    };
              };
          valid = subst ValidTable then_is then_valid;
        })

    -- else what is kept is nowhere below the heights, from which rounds begin
    pub ready : Bounded after × NowhereBelow (table_by after) (heights_of after)
    unfolding height_of
    ready =
        let kept = may.loaded.stands.kept in (
          bounded-is,
          rw (table_is, heights-are)
              (record {
                at_least = λ u. omega (arith, kept.height_at_lem u, heights_fall T sound t need ms is m u);
                held = λ u. omega (arith, kept.height_at_lem u, finite_everywhere T sound u, then_long);
                none_beyond = λ u far. kept.height_at_lem u ∙ beyond_height T u (omega (arith, then_long));
              }),
        )

    -- heights and filler lengths found again
    pub moved : {mid2 last : List ℕ} → HeightsFound after mid2 → FillFound mid2 last → Loaded last (extended_at T t m)
    unfolding height_of
    moved {mid2} {last} settled fill =
        let same_Mid = table_elsewhere (omega arith) (omega arith) settled.elsewhere in
        let same-last = table_elsewhere (omega arith) (omega arith) fill.elsewhere in
        let all : table_by last ≡ then = same-last ∙ same_Mid ∙ table_is in
        rw then_is
        (record {
          stands =
              record {
                same_table = all;
                bounded = bounded_elsewhere (omega arith) (omega arith) fill.elsewhere (bounded_elsewhere (omega arith) (omega arith) settled.elsewhere bounded-is);
                kept =
                    record {
                      height_at_lem = λ u. rw (section_elsewhere 128 64 (inl (omega arith)) fill.elsewhere) (settled.found.height_at_lem u ∙ ap (λ S. height_in (heights S) u) table_is);
                      fill_at_lem = subst (λ S. (u : ℕ) → u < length S → get_or (fill_of last) u 0 ≡ min 60001 (filler_length S u)) (same_Mid ∙ table_is) (fill.found (subst SoundTable (sym (same_Mid ∙ table_is)) then_sound)).fill_at_lem;
                    };
              };
          valid = subst ValidTable then_is then_valid;
        })
