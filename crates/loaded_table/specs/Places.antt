-- The places of one type in a loaded table: its kind, its number of members and its row of members. Stores in them leave the other types
-- as they are, and what then stands there is the type's kind.
use Rattle.std.specs.Prelude.{◌≡◌, refl, Bool, true, false, List, [], ◌∷◌, ◌++◌, ◌⊎◌, ℕ, ◌+◌, ◌*◌, ◌≤◌, ◌<◌, length, take, drop, get_or, set, eqb, ltb}
use Rattle.std.proofs.Math.Path.{sym}
use Rattle.std.proofs.Common.{ap, ap₂, ◌∙◌, inl, inr, zero-add, arith, length-set, ext_get_or, get_or-set_same, get_or-set_other, get_or-take, get_or-drop, length-take-le, eqb-true, ltb-true, ltb-false}
use Rattle.std.proofs.Math.ListN.{get_or-eq_default}
use Rattle.std.proofs.Math.Seq.{take-length}
use Rattle.std.proofs.lemmas.Bool.{eqb-false}
use Rattle.model.specs.Definitions.Commands.{needed, optional}
use Rattle.model.specs.Definitions.Table as model
use Rattle.model.specs.Definitions.Table.{Kind, text, empty, sequence, choice, list, kind_of, members_of}
use Rattle.model.proofs.Theorems.GrownTables.{grown_length, kind_older, kind_last}
use Rattle.loaded_table.specs.Loaded.{kind_from, kind_in, kinds_of, counts_of, members_in, types_in, table_by, Bounded, section, in_section, section-same, section_long, section-kept, length_of_lem, kind_of_lem}
use Rattle.loaded_table.specs.Kinds.{code_of, each_code}

-- the kind that stands in the places of type t
abbrev pub kind_at : List ℕ → ℕ → Kind
kind_at rows t = kind_in (kinds_of rows) (counts_of rows) (members_in rows) t

-- all places but those of type t hold the same
pub record SameButFor (t : ℕ) (rows after : List ℕ) : Type 0 where
  pub same_size : length after ≡ length rows
  pub same_at : (i : ℕ) → (i ≡ t → ⊥) → (i ≡ 64 + t → ⊥) → (i < 256 + t * 16) ⊎ (256 + t * 16 + 16 ≤ i) → get_or after i 0 ≡ get_or rows i 0

pub same_all : (t : ℕ) (rows : List ℕ) → SameButFor t rows rows
same_all t rows = record { same_size = refl; same_at = λ i kind count row. refl }

-- a store in one of its places
pub same_set : {t : ℕ} {rows mid after : List ℕ} (i v : ℕ) → ((j : ℕ) → (j ≡ t → ⊥) → (j ≡ 64 + t → ⊥) → (j < 256 + t * 16) ⊎ (256 + t * 16 + 16 ≤ j) → j ≡ i → ⊥)
    → after ≡ set mid i v → SameButFor t rows mid → SameButFor t rows after
same_set {t} {rows} {mid} {after} i v own e h =
    rw e
    (record {
      same_size = length-set mid i v ∙ h.same_size;
      same_at = λ j kind count row. get_or-set_other mid i j v 0 (own j kind count row) ∙ h.same_at j kind count row;
    })

-- ---- the kind from its places

-- a kind depends on its code and its members alone
kind_same : (code count : ℕ) (row other : List ℕ) → take count row ≡ take count other → (5 ≤ code → get_or row 0 0 ≡ get_or other 0 0) → kind_from code count row ≡ kind_from code count other
kind_same code count row other same first =
    each_code (λ (k : ℕ). (5 ≤ k → get_or row 0 0 ≡ get_or other 0 0) → kind_from k count row ≡ kind_from k count other)
    (λ f. refl) (λ f. refl) (λ f. ap sequence same) (λ f. ap (choice needed) same) (λ f. ap (choice optional) same) (λ k f. ap list (f (omega arith))) code first

-- member i of type t is a number of the array
in_row : (rows : List ℕ) (t i : ℕ) → t < 64 → i < 16 → get_or (drop (t * 16) (members_in rows)) i 0 ≡ get_or rows (256 + (t * 16 + i)) 0
in_row rows t i few low = get_or-drop (t * 16) (members_in rows) i 0 ∙ in_section 256 1024 rows (t * 16 + i) (omega arith)

-- the row of a type has all its places
row_long : (rows : List ℕ) (t n : ℕ) → length rows ≡ 1281 → t < 64 → n ≤ 16 → length (take n (drop (t * 16) (members_in rows))) ≡ n
row_long rows t n size few short = section_long (t * 16) n (members_in rows) (omega (arith, section_long 256 1024 rows (omega (arith, size))))

-- another type's kind stays
pub kind_elsewhere : {t : ℕ} {rows after : List ℕ} → SameButFor t rows after → length rows ≡ 1281 → t < 64 → (s : ℕ) → s < 64 → (s ≡ t → ⊥) → get_or (counts_of rows) s 0 ≤ 16
    → kind_at after s ≡ kind_at rows s
kind_elsewhere {t} {rows} {after} h size there s few other short =
    ap₂ (λ code count. kind_from code count (drop (s * 16) (members_in after))) code count
    ∙ kind_same (get_or (kinds_of rows) s 0) n (drop (s * 16) (members_in after)) (drop (s * 16) (members_in rows)) row (λ is. member 0 (omega arith))
  where
    n : ℕ
    n = get_or (counts_of rows) s 0

    code : get_or (kinds_of after) s 0 ≡ get_or (kinds_of rows) s 0
    code = in_section 0 64 after s few ∙ h.same_at (0 + s) (λ e. other (omega arith)) (λ e. omega arith) (inl (omega arith)) ∙ sym (in_section 0 64 rows s few)

    count : get_or (counts_of after) s 0 ≡ n
    count = in_section 64 64 after s few ∙ h.same_at (64 + s) (λ e. omega arith) (λ e. other (omega arith)) (inl (omega arith)) ∙ sym (in_section 64 64 rows s few)

    apart : (i : ℕ) → i < 16 → (256 + (s * 16 + i) < 256 + t * 16) ⊎ (256 + t * 16 + 16 ≤ 256 + (s * 16 + i))
    apart i low = go (ltb s t) refl
      where
        go : (b : Bool) → ltb s t ≡ b → (256 + (s * 16 + i) < 256 + t * 16) ⊎ (256 + t * 16 + 16 ≤ 256 + (s * 16 + i))
        go true e = let less = ltb-true s t e in inl (omega arith)
        go false e = let more = ltb-false s t e in inr (omega (arith, other))

    member : (i : ℕ) → i < 16 → get_or (drop (s * 16) (members_in after)) i 0 ≡ get_or (drop (s * 16) (members_in rows)) i 0
    member i low =
        in_row after s i few low
        ∙ h.same_at (256 + (s * 16 + i)) (λ e. omega arith) (λ e. omega arith) (apart i low)
        ∙ sym (in_row rows s i few low)

    row : take n (drop (s * 16) (members_in after)) ≡ take n (drop (s * 16) (members_in rows))
    row =
        ext_get_or 0 _ _ (row_long after s n (h.same_size ∙ size) few short ∙ sym (row_long rows s n size few short))
        (λ i here.
        let low : i < n = omega (arith, row_long after s n (h.same_size ∙ size) few short) in
        get_or-take n _ i 0 low ∙ member i (omega arith) ∙ sym (get_or-take n _ i 0 low))

-- a type's kind, by what is stored in its places
pub kind_stored : (after : List ℕ) (t code : ℕ) (ms : List ℕ) → length after ≡ 1281 → t < 64 → length ms ≤ 16 → get_or after t 0 ≡ code → get_or after (64 + t) 0 ≡ length ms
    → ((i : ℕ) → i < length ms → get_or after (256 + (t * 16 + i)) 0 ≡ get_or ms i 0) → (5 ≤ code → 0 < length ms) → kind_at after t ≡ kind_from code (length ms) ms
kind_stored after t code ms size few short is many each some =
    ap₂ (λ code count. kind_from code count (drop (t * 16) (members_in after))) (in_section 0 64 after t few ∙ ap (λ (i : ℕ). get_or after i 0) (zero-add t) ∙ is) (in_section 64 64 after t few ∙ many)
    ∙ kind_same code (length ms) (drop (t * 16) (members_in after)) ms row (λ h. member 0 (some h))
  where
    member : (i : ℕ) → i < length ms → get_or (drop (t * 16) (members_in after)) i 0 ≡ get_or ms i 0
    member i low = in_row after t i few (omega arith) ∙ each i low

    row : take (length ms) (drop (t * 16) (members_in after)) ≡ take (length ms) ms
    row =
        ext_get_or 0 _ _ (row_long after t (length ms) size few short ∙ sym (length-take-le (length ms) ms (omega arith)))
        (λ i here.
        let low : i < length ms = omega (arith, row_long after t (length ms) size few short) in
        get_or-take (length ms) _ i 0 low ∙ member i low ∙ sym (get_or-take (length ms) ms i 0 low))

-- a kind is read from its code and its members
pub kind_again : (κ : Kind) → kind_from (code_of κ) (length (members_of κ)) (members_of κ) ≡ κ
unfolding members_of
kind_again text = refl
kind_again empty = refl
kind_again (sequence ms) = ap sequence (take-length ms)
kind_again (choice needed ms) = ap (choice needed) (take-length ms)
kind_again (choice optional ms) = ap (choice optional) (take-length ms)
kind_again (list m) = refl

-- ---- other sections

-- a section of what is kept, or any other between the numbers of members and the members, stays
pub section_apart : {t : ℕ} {rows after : List ℕ} (from many : ℕ) → 128 ≤ from → from + many ≤ 256 → t < 64 → SameButFor t rows after → section from many after ≡ section from many rows
section_apart {rows = rows} {after} from many low high few h =
    section-same from many rows after h.same_size (λ k here. h.same_at (from + k) (λ e. omega arith) (λ e. omega arith) (inl (omega arith)))

-- and so does the number of types
pub types_apart : {t : ℕ} {rows after : List ℕ} → t < 64 → SameButFor t rows after → types_in after ≡ types_in rows
types_apart few h = h.same_at 1280 (λ e. omega arith) (λ e. omega arith) (inr (omega arith))

-- ---- the table then

-- the array is within its bounds
pub bounded_then : {t : ℕ} {rows after : List ℕ} → SameButFor t rows after → Bounded rows → t < 64 → get_or (counts_of after) t 0 ≤ 16 → Bounded after
bounded_then {t} {rows} {after} h bounded few counted =
    record {
      size = h.same_size ∙ bounded.size;
      few_types = omega (arith, types_apart few h, bounded.few_types);
      few_members = λ s. go s (eqb s t) refl (ltb s 64) refl;
    }
  where
    go : (s : ℕ) (b : Bool) → eqb s t ≡ b → (c : Bool) → ltb s 64 ≡ c → get_or (counts_of after) s 0 ≤ 16
    go s true e c q = rw (eqb-true s t e) counted
    go s false e true q =
        let low = ltb-true s 64 q in
        let same : get_or (counts_of after) s 0 ≡ get_or (counts_of rows) s 0 =
        in_section 64 64 after s low ∙ h.same_at (64 + s) (λ e. omega arith) (λ p. eqb-false s t e (omega arith)) (inl (omega arith)) ∙ sym (in_section 64 64 rows s low) in
        omega (arith, same, bounded.few_members s)
    go s false e false q =
        let none : get_or (counts_of after) s 0 ≡ 0 = get_or-eq_default (counts_of after) 0 (rw (section_long 64 64 after (omega (arith, h.same_size, bounded.size))) (ltb-false s 64 q)) in
        omega (arith, none)

-- two tables of the same kinds are the same
same_kinds : (S T : model.Table) → length S ≡ length T → ((t : ℕ) → t < length S → kind_of S t ≡ kind_of T t) → S ≡ T
unfolding kind_of
same_kinds S T long each = ext_get_or empty S T long each

module _ {t : ℕ} {rows after : List ℕ} {κ : Kind} (h : SameButFor t rows after) (bounded : Bounded rows) (stored : kind_at after t ≡ κ) where
  -- an older type that is stored anew
  pub table_changed : t < types_in rows → table_by after ≡ set (table_by rows) t κ
  unfolding kind_of
  table_changed exists =
      same_kinds (table_by after) (set (table_by rows) t κ) (length_of_lem after ∙ types_apart few h ∙ sym (length_of_lem rows) ∙ sym (length-set (table_by rows) t κ))
      (λ s here. each s (omega (arith, length_of_lem after, types_apart few h)) (eqb s t) refl)
    where
      few : t < 64
      few = omega (arith, bounded.few_types)

      each : (s : ℕ) → s < types_in rows → (b : Bool) → eqb s t ≡ b → kind_of (table_by after) s ≡ kind_of (set (table_by rows) t κ) s
      each s low true e =
          let here = eqb-true s t e in
          rw here (kind_of_lem after t (omega (arith, types_apart few h)) ∙ stored ∙ sym (get_or-set_same (table_by rows) t κ empty (omega (arith, length_of_lem rows))))
      each s low false e =
          let other = eqb-false s t e in
          kind_of_lem after s (omega (arith, types_apart few h))
          ∙ kind_elsewhere h bounded.size few s (omega (arith, bounded.few_types)) other (bounded.few_members s)
          ∙ sym (kind_of_lem rows s low)
          ∙ sym (get_or-set_other (table_by rows) t s κ empty other)

  -- a type more, behind the others
  pub table_grown : {whole : List ℕ} → t ≡ types_in rows → t < 64 → whole ≡ set after 1280 (t + 1) → (table_by whole ≡ table_by rows ++ κ ∷ []) × (types_in whole ≡ t + 1)
  table_grown {whole} last few e = (
    same_kinds (table_by whole) (table_by rows ++ κ ∷ []) (length_of_lem whole ∙ types ∙ long)
        (λ s here. each s (omega (arith, length_of_lem whole, types)) (eqb s t) refl),
    types,
  )
    where
      types : types_in whole ≡ t + 1
      types = ap types_in e ∙ get_or-set_same after 1280 (t + 1) 0 (omega (arith, h.same_size, bounded.size))

      kinds : (s : ℕ) → kind_at whole s ≡ kind_at after s
      kinds s =
          ap (λ (l : List ℕ). kind_at l s) e
          ∙ ap (λ (l : List ℕ). kind_in l (counts_of (set after 1280 (t + 1))) (members_in (set after 1280 (t + 1))) s) (section-kept 0 64 after 1280 (t + 1) (inr (omega arith)))
          ∙ ap (λ (l : List ℕ). kind_in (kinds_of after) l (members_in (set after 1280 (t + 1))) s) (section-kept 64 64 after 1280 (t + 1) (inr (omega arith)))
          ∙ ap (λ (l : List ℕ). kind_in (kinds_of after) (counts_of after) l s) (section-kept 256 1024 after 1280 (t + 1) (inr (omega arith)))

      -- the last type's number is the number of older ones
      behind : length (table_by rows) ≡ t
      behind = length_of_lem rows ∙ sym last

      long : t + 1 ≡ length (table_by rows ++ κ ∷ [])
      long = omega (arith, grown_length (table_by rows) κ, behind)

      each : (s : ℕ) → s < t + 1 → (b : Bool) → eqb s t ≡ b → kind_of (table_by whole) s ≡ kind_of (table_by rows ++ κ ∷ []) s
      each s low true e =
          rw (eqb-true s t e) (kind_of_lem whole t (omega (arith, types)) ∙ kinds t ∙ stored ∙ sym (ap (kind_of (table_by rows ++ κ ∷ [])) (sym behind) ∙ kind_last (table_by rows) κ))
      each s low false e =
          let other = eqb-false s t e in
          let older : s < types_in rows = omega (arith, other, last) in
          kind_of_lem whole s (omega (arith, types))
          ∙ kinds s
          ∙ kind_elsewhere h bounded.size few s (omega arith) other (bounded.few_members s)
          ∙ sym (kind_of_lem rows s older)
          ∙ sym (kind_older (table_by rows) κ s (omega (arith, length_of_lem rows)))
