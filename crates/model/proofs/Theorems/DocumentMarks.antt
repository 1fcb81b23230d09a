-- The marks of the checks of each kind of document. Those of machines over commands (2 to 5, and 11) are instances of `mark_exactly`; that
-- of check 6 goes by what has an instance.
use Rattle.std.specs.Prelude.{◌≡◌, refl, true, false, List, [], ◌∷◌, map, ◌↔◌, ℕ, length}
use Rattle.std.proofs.Common.{ap, ◌∙◌, arith, lt_of_not-le, le-leb}
use Rattle.std.proofs.Math.Decide.{dec_le}
use Rattle.model.specs.Definitions.Basics.{Verdict, passes, fails, stops}
use Rattle.model.specs.Definitions.Commands.{alien_t, table_commands, embedding_commands, tree_commands}
use Rattle.model.specs.Definitions.Table.{Kind, Table, edges_of}
use Rattle.model.specs.Definitions.Heights.{has_instance, endless_type}
use Rattle.model.specs.Definitions.TableChecks.{no_type, members, table_step, table_complete, table_form, limit_step, table_limits, names_type, table_operands, elsewhere, repeat_step, table_repeats}
use Rattle.model.specs.Definitions.EmbeddingChecks.{due, embedding_step, embedding_complete, embedding_form, step_count, embedding_limits, path_step, embedding_operands}
use Rattle.model.specs.Definitions.TreeChecks.{no_root, tree_step, tree_complete, tree_form, level_step, tree_levels, operand_step, tree_operands, expect_step, tree_expected}
use Rattle.model.specs.Definitions.Marks.{TableMarks, EmbeddingMarks, TreeMarks, LowestWithout}
use Rattle.model.proofs.Theorems.Facts.{WellFormed}
use Rattle.model.proofs.Theorems.Tools.{true_false}
use Rattle.model.proofs.Theorems.Spellings.{table_spelling, embedding_spelling, tree_spelling}
use Rattle.model.proofs.Theorems.Documents.{tree_alien_stops, expected_root}
use Rattle.model.proofs.Theorems.Marks.{mark_exactly}
use Rattle.model.proofs.Theorems.HeightLaws.{instance_finite, endless_lowest}
use Rattle.model.proofs.Theorems.FillerLaws.{has_instance_lem}
use Rattle.model.proofs.Theorems.JudgedTables.{heights_finite}
use Rattle.model.proofs.Theorems.ValidTables.{table_alien_stops}
use Rattle.model.proofs.Theorems.EmbeddingBytes.{embedding_alien_stops}

-- ---- tables

pub table_marks : (bs : List ℕ) → TableMarks bs
unfolding table_commands table_form table_limits table_operands table_repeats limit_step names_type repeat_step
table_marks bs =
    record {
      form = mark_exactly table_spelling table_step table_alien_stops table_complete no_type bs;
      limits = mark_exactly table_spelling limit_step (λ n. refl) (λ n. true) (record { types = 0; members = 0 }) bs;
      operands = λ types. mark_exactly table_spelling (names_type types) (λ u. refl) (λ u. true) tt bs;
      repeats = mark_exactly table_spelling repeat_step (λ s. refl) (λ s. true) elsewhere bs;
    }

-- ---- embeddings

pub embedding_marks : (S T : Table) (bs : List ℕ) → EmbeddingMarks S T bs
unfolding embedding_commands embedding_form embedding_limits embedding_operands step_count path_step
embedding_marks S T bs =
    record {
      form = mark_exactly embedding_spelling embedding_step embedding_alien_stops embedding_complete (due 0 (map edges_of S) false) bs;
      limits = mark_exactly embedding_spelling step_count (λ n. refl) (λ n. true) 0 bs;
      operands = mark_exactly embedding_spelling (path_step T) (λ r. refl) (λ r. true) (record { start = 0; now = 0 }) bs;
    }

-- ---- trees

expect_alien_stops : (S : Table) (s : List Kind) → expect_step S s alien_t ≡ stops
unfolding expect_step
expect_alien_stops S [] = refl
expect_alien_stops S (κ ∷ around) = refl

pub tree_marks : (S : Table) (bs : List ℕ) → TreeMarks S bs
unfolding tree_commands tree_form tree_levels tree_operands tree_expected level_step operand_step
tree_marks S bs =
    record {
      form = mark_exactly tree_spelling tree_step tree_alien_stops tree_complete no_root bs;
      limits = mark_exactly tree_spelling level_step (λ n. refl) (λ n. true) 0 bs;
      operands = mark_exactly tree_spelling (operand_step (length S)) (λ u. refl) (λ u. true) tt bs;
      expected = mark_exactly tree_spelling (expect_step S) (expect_alien_stops S) (λ s. true) expected_root bs;
    }

-- ---- check 6

-- the lowest type is one: none of two can be below the other
one_lowest : (T : Table) (t u : ℕ) → LowestWithout T t → LowestWithout T u → t ≡ u
one_lowest T t u a b =
    elim (dec_le t u) [
      | yes low ↦ elim (dec_le u t) [ yes high ↦ omega (arith, low, high) | no less ↦ absurd (a.none_conforms (b.lower_conform t (lt_of_not-le less))) ]
      | no less ↦ absurd (b.none_conforms (a.lower_conform u (lt_of_not-le less)))
    ]

-- In a table that passes checks 2 to 5, check 6 marks the lowest type of which no conforming element exists.
pub endless_mark : (T : Table) → WellFormed T → (t : ℕ) → (endless_type T ≡ fails t) ↔ LowestWithout T t
unfolding has_instance
endless_mark T wf t = (marks t, λ lowest. go (endless_type T) refl lowest)
  where
    marks : (u : ℕ) → endless_type T ≡ fails u → LowestWithout T u
    marks u e =
        let found = endless_lowest T u e in
        record {
          exists = found.exists;
          none_conforms = λ has. true_false (instance_finite T u has) found.endless;
          lower_conform = λ v less. has_instance_lem T wf v (omega (arith, less, found.exists)) (found.lower_finite v less);
        }

    go : (v : Verdict) → endless_type T ≡ v → LowestWithout T t → endless_type T ≡ fails t
    go passes e lowest = absurd (lowest.none_conforms (has_instance_lem T wf t lowest.exists (le-leb _ _ (heights_finite T e t))))
    go (fails u) e lowest = e ∙ ap (λ (n : ℕ). fails n) (one_lowest T u t (marks u e) lowest)
