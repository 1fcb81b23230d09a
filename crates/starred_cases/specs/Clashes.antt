-- 02, N9: clashes explained, as one fact about the definitions, proved by computing. The documents are 01's where it has such, and small
-- ones otherwise.
use Rattle.std.specs.Prelude.{◌≡◌, refl, List, [], ◌∷◌, ℕ}
use Rattle.model.specs.Definitions.EmbeddingChecks.{Reason, equal_paths, earlier_begins, later_begins, part_at_sequence}
use Rattle.model.specs.Definitions.Entries.{accepted}
use Rattle.model.specs.Definitions.Explanation.{Explanation, explained, unexplained, explain, explanation_numbers}
use Rattle.model.specs.Computing.{definitions}
use Rattle.model.specs.Examples.{choice_of_empty}
use Rattle.starred_cases.specs.Starred.{source_table_bytes, target_table_bytes, embedding_with, embedding, refusal}

-- a clash by its source type, members, shared steps, reason and mark
unfoldable pub clashing : ℕ → ℕ → ℕ → ℕ → Reason → ℕ → Explanation
clashing s i j n why at = explained (record { source_type = s; earlier = i; later = j; shared = n; reason = why; mark = at })

-- a sequence of two empty types
unfoldable pub pair_table : List ℕ
pair_table = 0x12 ∷ 0x15 ∷ 0x01 ∷ 0x15 ∷ 0x02 ∷ 0x11 ∷ 0x11 ∷ 0x1F ∷ []

-- type 0 a sequence of two of type 1; 1 a sequence of two of type 2; 2 empty
unfoldable pub nested_table : List ℕ
nested_table = 0x12 ∷ 0x15 ∷ 0x01 ∷ 0x15 ∷ 0x01 ∷ 0x12 ∷ 0x15 ∷ 0x02 ∷ 0x15 ∷ 0x02 ∷ 0x11 ∷ 0x1F ∷ []

-- type 0 a sequence of two of type 1; 1 a choice of two empty types
unfoldable pub two_choices : List ℕ
two_choices = 0x12 ∷ 0x15 ∷ 0x01 ∷ 0x15 ∷ 0x01 ∷ 0x13 ∷ 0x15 ∷ 0x02 ∷ 0x15 ∷ 0x03 ∷ 0x11 ∷ 0x11 ∷ 0x1F ∷ []

-- a sequence of three, two of one type
unfoldable pub three_table : List ℕ
three_table = 0x12 ∷ 0x15 ∷ 0x01 ∷ 0x15 ∷ 0x01 ∷ 0x15 ∷ 0x02 ∷ 0x11 ∷ 0x11 ∷ 0x1F ∷ []

pub record ClashCases : Type 0 where
  -- 01's patch with both paths of source type 2 `22 02` and its last map `20 05`: refused with 10, mark 18
  pub equal_ones : explain source_table_bytes target_table_bytes (embedding_with 0x02 0x05) ≡ clashing 2 1 2 1 equal_paths 18
  -- its numbers: those of judging, then the clash
  pub equal_numbers : explanation_numbers (explain source_table_bytes target_table_bytes (embedding_with 0x02 0x05))
      ≡ record { answer = refusal 10 3 18; reason = 1; source_type = 2; earlier = 1; later = 2; shared = 1 }
  -- by 1 and by 1.2
  pub earlier_shorter : explain pair_table nested_table (0x20 ∷ 0x00 ∷ 0x21 ∷ 0x22 ∷ 0x01 ∷ 0x21 ∷ 0x22 ∷ 0x01 ∷ 0x22 ∷ 0x02 ∷ 0x20 ∷ 0x01 ∷ 0x20 ∷ 0x02 ∷ 0x2F ∷ [])
      ≡ clashing 0 1 2 1 earlier_begins 5
  -- by 1.2 and by 1
  pub later_shorter : explain pair_table nested_table (0x20 ∷ 0x00 ∷ 0x21 ∷ 0x22 ∷ 0x01 ∷ 0x22 ∷ 0x02 ∷ 0x21 ∷ 0x22 ∷ 0x01 ∷ 0x20 ∷ 0x02 ∷ 0x20 ∷ 0x01 ∷ 0x2F ∷ [])
      ≡ clashing 0 1 2 1 later_begins 7
  -- 01's last starred case, the members of a choice by 1.1 and by 2.1
  pub parting : explain (choice_of_empty 0x13) two_choices (0x20 ∷ 0x00 ∷ 0x21 ∷ 0x22 ∷ 0x01 ∷ 0x22 ∷ 0x01 ∷ 0x21 ∷ 0x22 ∷ 0x02 ∷ 0x22 ∷ 0x01 ∷ 0x20 ∷ 0x02 ∷ 0x20 ∷ 0x02 ∷ 0x2F ∷ [])
      ≡ clashing 0 1 2 0 part_at_sequence 7
  -- by 1.1, 1.2 and 1: the third clashes with both others, and the first of them is named
  pub first_of_two : explain three_table nested_table (0x20 ∷ 0x00 ∷ 0x21 ∷ 0x22 ∷ 0x01 ∷ 0x22 ∷ 0x01 ∷ 0x21 ∷ 0x22 ∷ 0x01 ∷ 0x22 ∷ 0x02 ∷ 0x21 ∷ 0x22 ∷ 0x01 ∷ 0x20 ∷ 0x02 ∷ 0x20 ∷ 0x01 ∷ 0x2F ∷ [])
      ≡ clashing 0 1 3 1 later_begins 12
  -- the patch's own embedding, and with a path that ends at the wrong type: nothing to explain
  pub right : explain source_table_bytes target_table_bytes embedding ≡ unexplained (accepted 5 0)
  pub wrong_end_inside : explanation_numbers (explain source_table_bytes target_table_bytes (embedding_with 0x02 0x04))
      ≡ record { answer = refusal 8 3 18; reason = 0; source_type = 0; earlier = 0; later = 0; shared = 0 }

pub clash_cases : ClashCases
unfolding definitions source_table_bytes target_table_bytes embedding_with embedding choice_of_empty refusal clashing pair_table nested_table two_choices three_table
clash_cases =
    record {
      equal_ones = refl;
      equal_numbers = refl;
      earlier_shorter = refl;
      later_shorter = refl;
      parting = refl;
      first_of_two = refl;
      right = refl;
      wrong_end_inside = refl;
    }
