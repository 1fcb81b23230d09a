-- 01 "Programs that look finished and aren't": two of its rules can't be left out, by examples that compute.
use Rattle.std.specs.Prelude.{◌≡◌, refl, List, [], ◌∷◌, ℕ, zero, suc}
use Rattle.std.proofs.Math.Option.{Option, none, some}
use Rattle.std.proofs.Common.{arith}
use Rattle.model.specs.Definitions.Basics.{passes, and_then}
use Rattle.model.specs.Definitions.Commands.{needed, optional}
use Rattle.model.specs.Definitions.Table.{Kind, text, empty, sequence, choice, list, Table, kind_of, table_of}
use Rattle.model.specs.Definitions.Content.{Content, end, elem, document}
use Rattle.model.specs.Definitions.Embedding.{apart, parting, embedding_of}
use Rattle.model.specs.Definitions.EmbeddingChecks.{embedding_form, embedding_limits, embedding_operands, wrong_end_verdict, wrong_steps_verdict}
use Rattle.model.specs.Definitions.Filler.{content, known, fillers}
use Rattle.model.specs.Definitions.Image.{image}
use Rattle.model.specs.Definitions.Entries.{judge_table, judge_tree, accepted, setting_of}
use Rattle.model.specs.Computing.{definitions}

-- ---- a choice's paths that part at a sequence

unfoldable pub choice_table : List ℕ
choice_table = 0x13 ∷ 0x15 ∷ 0x01 ∷ 0x15 ∷ 0x02 ∷ 0x11 ∷ 0x11 ∷ 0x1F ∷ []

unfoldable pub two_choices_table : List ℕ
two_choices_table = 0x12 ∷ 0x15 ∷ 0x01 ∷ 0x15 ∷ 0x01 ∷ 0x13 ∷ 0x15 ∷ 0x02 ∷ 0x15 ∷ 0x03 ∷ 0x11 ∷ 0x11 ∷ 0x1F ∷ []

unfoldable pub parting_embedding : List ℕ
parting_embedding = 0x20 ∷ 0x00 ∷ 0x21 ∷ 0x22 ∷ 0x01 ∷ 0x22 ∷ 0x01 ∷ 0x21 ∷ 0x22 ∷ 0x02 ∷ 0x22 ∷ 0x01 ∷ 0x20 ∷ 0x02 ∷ 0x20 ∷ 0x02 ∷ 0x2F ∷ []

-- a document of the choice: its one member, of this type
unfoldable pub chosen_document : ℕ → Content
chosen_document t = elem t end end

-- The last starred embedding passes every check but the clash, and neither of its two paths is a beginning of the
-- other, as 000 asks; yet two different conforming documents have one image.
pub record PrefixRuleTooWeak : Type 0 where
  pub form : embedding_form (table_of choice_table) parting_embedding ≡ passes
  pub limits : embedding_limits parting_embedding ≡ passes
  pub operands : embedding_operands (table_of two_choices_table) parting_embedding ≡ passes
  pub ends : wrong_end_verdict (table_of choice_table) (table_of two_choices_table) (embedding_of parting_embedding) ≡ passes
  pub steps : wrong_steps_verdict (table_of choice_table) (table_of two_choices_table) (embedding_of parting_embedding) ≡ passes
  pub no_beginning : (parting (table_of two_choices_table) 0 (1 ∷ 1 ∷ []) (2 ∷ 1 ∷ [])).behind ≡ apart (sequence (1 ∷ 1 ∷ []))
  pub first_accepted : judge_tree choice_table (document 0 (chosen_document 1)) ≡ accepted 2 0
  pub second_accepted : judge_tree choice_table (document 0 (chosen_document 2)) ≡ accepted 2 0
  pub different : chosen_document 1 ≡ chosen_document 2 → ⊥
  pub one-image :
      image (setting_of choice_table two_choices_table parting_embedding) (chosen_document 1)
      ≡ image (setting_of choice_table two_choices_table parting_embedding) (chosen_document 2)

pub prefix_rule_too_weak : PrefixRuleTooWeak
unfolding definitions choice_table two_choices_table parting_embedding chosen_document
prefix_rule_too_weak =
    record {
      form = refl;
      limits = refl;
      operands = refl;
      ends = refl;
      steps = refl;
      no_beginning = refl;
      first_accepted = refl;
      second_accepted = refl;
      different = λ e. (let z : ◌≡◌ {A = ℕ} 1 2 = cc in absurd (omega arith));
      one-image = refl;
    }

-- ---- filler that takes the first member of a choice

unfoldable pub self_choice_table : List ℕ
self_choice_table = 0x13 ∷ 0x15 ∷ 0x00 ∷ 0x15 ∷ 0x01 ∷ 0x11 ∷ 0x1F ∷ []

-- what filler of a type would hold if a choice took its first member, where so many levels are enough for it
unfoldable pub fill_first : (ℕ → Option Content) → List ℕ → Option Content
fill_first inside [] = some end
fill_first inside (m ∷ ms) = and_then (inside m) (λ k. and_then (fill_first inside ms) (λ r. some (elem m k r)))

unfoldable pub first_member_kind : (ℕ → Option Content) → Kind → Option Content
first_member_kind inside text = some end
first_member_kind inside empty = some end
first_member_kind inside (sequence ms) = fill_first inside ms
first_member_kind inside (choice needed []) = none
first_member_kind inside (choice needed (m ∷ ms)) = fill_first inside (m ∷ [])
first_member_kind inside (choice optional ms) = some end
first_member_kind inside (list m) = some end

unfoldable pub first_member_filler : Table → ℕ → ℕ → Option Content
first_member_filler T zero t = none
first_member_filler T (suc n) t = first_member_kind (λ m. first_member_filler T n m) (kind_of T t)

-- Such filler has no end on an accepted table whose filler by least height is one element.
pub record FirstMemberEndless : Type 0 where
  pub table_accepted : judge_table self_choice_table ≡ accepted 2 0
  pub by_height : known content (fillers content (table_of self_choice_table)) 0 ≡ elem 1 end end
  pub endless : (n : ℕ) → first_member_filler (table_of self_choice_table) n 0 ≡ none

self_kind : kind_of (table_of self_choice_table) 0 ≡ choice needed (0 ∷ 1 ∷ [])
unfolding definitions self_choice_table
self_kind = refl

never_ends : (n : ℕ) → first_member_filler (table_of self_choice_table) n 0 ≡ none
unfolding first_member_filler first_member_kind fill_first and_then
never_ends zero = refl
never_ends (suc n) = rw (self_kind, never_ends n)

pub first_member_endless : FirstMemberEndless
unfolding definitions self_choice_table
first_member_endless = record { table_accepted = refl; by_height = refl; endless = never_ends }
