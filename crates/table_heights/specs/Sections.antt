-- The members and the kind of a type of a loaded table, and arrays that are the same but for one section.
use Rattle.std.specs.Prelude.{◌≡◌, refl, List, ◌⊎◌, ℕ, ◌+◌, ◌*◌, ◌≤◌, ◌<◌, length, drop, get_or, set}
use Rattle.std.proofs.Common.{sym, ap, ◌∙◌, subst, inl, inr, ⊎_elim, arith, length-set, get_or-set_other}
use Rattle.loaded_table.specs.Kinds.{each_code}
use Rattle.loaded_table.specs.Loaded.{kind_from, types_in, section, kinds_of, counts_of, members_in, table_by, Bounded, in_section, section-same, section_long, kind_of_lem}
use Rattle.model.specs.Definitions.Commands.{needed, optional}
use Rattle.model.specs.Definitions.Table.{Kind, text, empty, sequence, choice, list, kind_of}

-- ---- the members of a type

-- a list's one member is its item type
abbrev pub members_at : List ℕ → ℕ → List ℕ
members_at rows t = section (t * 16) (get_or (counts_of rows) t 0) (members_in rows)

-- there are as many as are counted
pub members_long : (rows : List ℕ) (t : ℕ) {n : ℕ} → Bounded rows × (t < types_in rows) → n ≡ get_or (counts_of rows) t 0 → length (members_at rows t) ≡ n
members_long rows t (h, exists) e =
    let all : length (members_in rows) ≡ 1024 = section_long 256 1024 rows (omega (arith, h.size)) in
    section_long (t * 16) (get_or (counts_of rows) t 0) (members_in rows) (omega (arith, h.few_types, h.few_members t)) ∙ sym e

-- member i, as it stands in the array
pub member_is : (rows : List ℕ) (t i : ℕ) {m : ℕ} → i < get_or (counts_of rows) t 0 → m ≡ get_or (members_in rows) (t * 16 + i) 0 → m ≡ get_or (members_at rows t) i 0
member_is rows t i low e = e ∙ sym (in_section (t * 16) (get_or (counts_of rows) t 0) (members_in rows) i low)

-- ---- the kind of a type by its code

module _ (rows : List ℕ) (t : ℕ) {code : ℕ} (exists : t < types_in rows) (is : code ≡ get_or (kinds_of rows) t 0) where
  kind_by : kind_of (table_by rows) t ≡ kind_from code (get_or (counts_of rows) t 0) (drop (t * 16) (members_in rows))
  kind_by = kind_of_lem rows t exists ∙ ap (λ k. kind_from k (get_or (counts_of rows) t 0) (drop (t * 16) (members_in rows))) (sym is)

  pub kind_sequence : code ≡ 2 → kind_of (table_by rows) t ≡ sequence (members_at rows t)
  kind_sequence e = kind_by ∙ ap (λ k. kind_from k (get_or (counts_of rows) t 0) (drop (t * 16) (members_in rows))) e

  pub kind_choice : code ≡ 3 → kind_of (table_by rows) t ≡ choice needed (members_at rows t)
  kind_choice e = kind_by ∙ ap (λ k. kind_from k (get_or (counts_of rows) t 0) (drop (t * 16) (members_in rows))) e

  -- what holds of text, of empty types, of optional choices and of lists holds of every other code
  pub kind_other : (P : Kind → Type 0) → (code ≡ 2 → ⊥) → (code ≡ 3 → ⊥) → P text → P empty → ((ms : List ℕ) → P (choice optional ms)) → ((m : ℕ) → P (list m))
      → P (kind_of (table_by rows) t)
  kind_other P no-sequence no_choice of_text of_empty of-optional of_list =
      subst P (sym kind_by) (go code no-sequence no_choice)
    where
      go : (k : ℕ) → (k ≡ 2 → ⊥) → (k ≡ 3 → ⊥) → P (kind_from k (get_or (counts_of rows) t 0) (drop (t * 16) (members_in rows)))
      go =
          each_code (λ (k : ℕ). (k ≡ 2 → ⊥) → (k ≡ 3 → ⊥) → P (kind_from k (get_or (counts_of rows) t 0) (drop (t * 16) (members_in rows))))
          (λ s c. of_text) (λ s c. of_empty) (λ s c. absurd (s refl)) (λ s c. absurd (c refl)) (λ s c. of-optional _) (λ k s c. of_list _)

-- ---- the same but for a section

-- all places but those of a section hold the same
pub record Elsewhere (from many : ℕ) (rows after : List ℕ) : Type 0 where
  pub same_size : length after ≡ length rows
  pub same_at : (i : ℕ) → (i < from) ⊎ (from + many ≤ i) → get_or after i 0 ≡ get_or rows i 0

pub elsewhere_same : (from many : ℕ) (rows : List ℕ) → Elsewhere from many rows rows
elsewhere_same from many rows = record { same_size = refl; same_at = λ i out. refl }

pub elsewhere_both : {from many : ℕ} {rows mid after : List ℕ} → Elsewhere from many rows mid → Elsewhere from many mid after → Elsewhere from many rows after
elsewhere_both p q = record { same_size = q.same_size ∙ p.same_size; same_at = λ i out. q.same_at i out ∙ p.same_at i out }

-- a store in the section
pub elsewhere_set : {from many : ℕ} {rows mid after : List ℕ} (i v : ℕ) → i < many → after ≡ set mid (from + i) v → Elsewhere from many rows mid → Elsewhere from many rows after
elsewhere_set {from} {many} {rows} {mid} {after} i v within e h =
    rw e
    (record {
      same_size = length-set mid (from + i) v ∙ h.same_size;
      same_at = λ j out. get_or-set_other mid (from + i) j v 0 (λ same. ⊎_elim (λ low. absurd (omega arith)) (λ high. absurd (omega arith)) out) ∙ h.same_at j out;
    })

-- another section is the same
pub section_elsewhere : {from many : ℕ} {rows after : List ℕ} (other n : ℕ) → (other + n ≤ from) ⊎ (from + many ≤ other) → Elsewhere from many rows after → section other n after ≡ section other n rows
section_elsewhere {from} {many} {rows} {after} other n out h =
    section-same other n rows after h.same_size (λ k low. h.same_at (other + k) (⊎_elim (λ before. inl (omega arith)) (λ behind. inr (omega arith)) out))

-- where heights and filler lengths alone may differ, the table is the same
module _ {from many : ℕ} {rows after : List ℕ} (low : 128 ≤ from) (high : from + many ≤ 256) (h : Elsewhere from many rows after) where
  pub types_elsewhere : types_in after ≡ types_in rows
  types_elsewhere = h.same_at 1280 (inr (omega arith))

  counts_elsewhere : counts_of after ≡ counts_of rows
  counts_elsewhere = section_elsewhere 64 64 (inl (omega arith)) h

  pub table_elsewhere : table_by after ≡ table_by rows
  table_elsewhere = rw (types_elsewhere, section_elsewhere 0 64 (inl (omega arith)) h, counts_elsewhere, section_elsewhere 256 1024 (inr (omega arith)) h) refl

  pub bounded_elsewhere : Bounded rows → Bounded after
  bounded_elsewhere b =
      record {
        size = h.same_size ∙ b.size;
        few_types = omega (arith, types_elsewhere, b.few_types);
        few_members = λ t. rw counts_elsewhere (b.few_members t);
      }
