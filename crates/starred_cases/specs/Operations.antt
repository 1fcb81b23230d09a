-- 02, N8: operations on tables and the numbers kept with their types, as one fact about the definitions, proved by computing.
use Rattle.std.specs.Prelude.{◌≡◌, refl, [], ◌∷◌, map, replicate}
use Rattle.model.specs.Definitions.Table.{Table, empty, sequence, table_of}
use Rattle.model.specs.Definitions.Heights.{heights, height_of}
use Rattle.model.specs.Definitions.Entries.{Answer, accepted, answer_of}
use Rattle.model.specs.Definitions.Operations.{kept_length, Operation, append_type, append_member, operate}
use Rattle.model.specs.Definitions.Extending.{extend}
use Rattle.model.specs.Computing.{definitions}
use Rattle.starred_cases.specs.Starred.{refusal, answer, junk}

-- type 0 a sequence of type 1; 1 a choice of types 0 and 2; 2 a sequence of type 3; 3 empty
unfoldable pub circle : Table
circle = table_of (0x12 ∷ 0x15 ∷ 0x01 ∷ 0x13 ∷ 0x15 ∷ 0x00 ∷ 0x15 ∷ 0x02 ∷ 0x12 ∷ 0x15 ∷ 0x03 ∷ 0x11 ∷ 0x1F ∷ [])

-- type 0 a choice of types 1 and 4; type 2, under type 1, a choice of types 3 and 1
unfoldable pub nested_choices : Table
nested_choices =
    table_of
    (0x13 ∷ 0x15 ∷ 0x01 ∷ 0x15 ∷ 0x04 ∷ 0x12 ∷ 0x15 ∷ 0x02 ∷ 0x15 ∷ 0x06 ∷ 0x13 ∷ 0x15 ∷ 0x03 ∷ 0x15 ∷ 0x01 ∷ 0x12 ∷ 0x15 ∷ 0x07 ∷ 0x12 ∷ 0x15 ∷ 0x05 ∷ 0x12 ∷ 0x15 ∷ 0x06 ∷ 0x11 ∷ 0x12 ∷ 0x15 ∷ 0x06 ∷ 0x1F ∷ [])

-- a sequence of 16 members
unfoldable pub sixteen : Table
sixteen = sequence (replicate 16 1) ∷ empty ∷ []

unfoldable pub after : Table → Operation → Table
after T o = (operate T o).table

unfoldable pub answered : Table → Operation → Answer
answered T o = answer_of (operate T o).result

pub record OperationCases : Type 0 where
  -- the choice gets type 3: it falls, and the type above it
  pub heights_before : heights circle ≡ 4 ∷ 3 ∷ 2 ∷ 1 ∷ []
  pub heights_after : heights (after circle (append_member 1 3)) ≡ 3 ∷ 2 ∷ 2 ∷ 1 ∷ []
  pub lengths_before : map (kept_length circle) (0 ∷ 1 ∷ 2 ∷ 3 ∷ []) ≡ 12 ∷ 9 ∷ 6 ∷ 3 ∷ []
  pub lengths_after : map (kept_length (after circle (append_member 1 3))) (0 ∷ 1 ∷ 2 ∷ 3 ∷ []) ≡ 9 ∷ 6 ∷ 6 ∷ 3 ∷ []
  -- type 2 gets type 6, so that type 1 is as low as type 4: type 0 takes the earlier one, keeps its height, and its length grows
  pub height_before : height_of nested_choices 0 ≡ 4
  pub height_stays : height_of (after nested_choices (append_member 2 6)) 0 ≡ 4
  pub length_before : kept_length nested_choices 0 ≡ 12
  pub length_grows : kept_length (after nested_choices (append_member 2 6)) 0 ≡ 15
  -- 19 comes before 3 and 4: a sequence of 16 members, and a type that isn't there, with a member that isn't
  pub no_choice_first : answered sixteen (append_member 0 9) ≡ refusal 19 1 0
  pub no_type_first : answered circle (append_member 9 9) ≡ refusal 19 1 0
  -- a choice gets itself
  pub own_member : answered circle (append_member 1 1) ≡ answer 4 0
  -- no bytes, and a sequence that names itself
  pub no_bytes : answered circle (append_type []) ≡ refusal 2 1 0
  pub in_itself : answered circle (append_type (0x12 ∷ 0x15 ∷ 0x04 ∷ [])) ≡ refusal 6 1 0
  -- a sequence of type 0 is appended to one empty type, then type 0 gets a member: 2 types, height 1 and length 3, height 2 and length 6;
  -- then 0 and 2 types, 19 and 0
  pub reported : extend (0x11 ∷ 0x1F ∷ []) (0x51 ∷ 0x03 ∷ 0x12 ∷ 0x15 ∷ 0x00 ∷ 0x52 ∷ 0x00 ∷ 0x01 ∷ []) (junk 12)
      ≡ record { result = accepted 11 0; output = 2 ∷ 1 ∷ 0 ∷ 3 ∷ 2 ∷ 0 ∷ 6 ∷ 0 ∷ 2 ∷ 19 ∷ 0 ∷ 0x95 ∷ [] }

pub operation_cases : OperationCases
unfolding definitions circle nested_choices sixteen after answered refusal answer junk
operation_cases =
    record {
      heights_before = refl;
      heights_after = refl;
      lengths_before = refl;
      lengths_after = refl;
      height_before = refl;
      height_stays = refl;
      length_before = refl;
      length_grows = refl;
      no_choice_first = refl;
      no_type_first = refl;
      own_member = refl;
      no_bytes = refl;
      in_itself = refl;
      reported = refl;
    }
