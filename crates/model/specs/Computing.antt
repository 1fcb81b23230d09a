-- For examples that are proved by computing: `unfolding definitions` opens every definition of `Definitions`.
-- Written by tools/list-definitions.
use Rattle.model.specs.Definitions.Basics.{pick, or_else, proceed, run, followed, reach, goes_if, member_of, entry, some_of, and_then, or_next, is_there, first_found}
use Rattle.model.specs.Definitions.Commands.{takes_operand, last_command, first_command, commands, table_command, table_commands, table_width, embedding_command, embedding_commands, embedding_width, tree_command, tree_commands, tree_width}
use Rattle.model.specs.Definitions.Table.{kind_of, members_of, step_from, edges_of, is_text, is_sequence, is_choice, is_optional, is_list, with_command, table_tail, table_of}
use Rattle.model.specs.Definitions.Heights.{height_in, highest, lowest, height_of_kind, heights_to, heights, height_of, has_instance, first_endless, endless_type, least_member}
use Rattle.model.specs.Definitions.TableChecks.{table_role, table_move, table_step, table_complete, table_form, one_type_more, limit_step, table_limits, names_type, table_operands, chooses, repeat_step, table_repeats}
use Rattle.model.specs.Definitions.Content.{bytes, document, levels, elements, same, with_tree_command, contents, top_of, inside_of, content_of}
use Rattle.model.specs.Definitions.Characters.{between, is_ascii, is_markup, is_accented, character_class, is_not_allowed, allowed}
use Rattle.model.specs.Definitions.Conformance.{Conforming, Begins, Instance, admits, after, complete, conforms}
use Rattle.model.specs.Definitions.TreeChecks.{closed, tree_step, tree_complete, tree_form, level_step, tree_levels, operand_step, tree_operands, expect_step, tree_expected, FirstUnexpected}
use Rattle.model.specs.Definitions.ValidTable.{Distinct, ValidKind, member_bytes, kind_bytes, table_bytes}
use Rattle.model.specs.Definitions.Embedding.{no_map, no_edge, edge_of, target_of, paths_of, first_path, with_embedding_command, embedding_tail, embedding_of, or_root, next, end_of, leaves, one_step_more, parting, divide_at, divide, before_choice, same_steps}
use Rattle.model.specs.Definitions.EmbeddingChecks.{embedding_step, embedding_complete, embedding_form, step_count, embedding_limits, reaches, path_step, embedding_operands, root_to_root, first_edge, each_type, ends_at, ends_at_text, ends_of, wrong_end_verdict, leaves_only, sequence_or_list, optional_first, right_steps, agrees, steps_of, wrong_steps_verdict, where_one_ends, where_paths_part, clash_reason, clash, first_clash, clashes_of, path_clash_verdict}
use Rattle.model.specs.Definitions.ValidEmbedding.{unmapped, mapped_to, without_offsets, mapping_in, mapping_of, StepsExist, EndsRight, Each, AtLeastOne, FirstChoiceOptional, RightKinds, BeginningOf, NoClash, step_bytes, path_bytes, embedding_bytes}
use Rattle.model.specs.Definitions.Filler.{content, levels_of, length_of, fillers_of, known, fill_members, fill_kind, fill_to, fillers, filler_length}
use Rattle.model.specs.Definitions.Image.{beyond, under, is_placed, grow_members, grow_kind, grow, place, letters_of, along_paths, path_of_member, along_choice, items_of, along_list, placements, image_of_element, children, image_by, image, image_levels, image_length, image_filler}
use Rattle.model.specs.Definitions.Templates.{holes_along, choice_hole, holes_of, template_by, divided_of, item_by, held_by_child, first_type, items_by, in_holes, shaped, row_of, template, item_template, filler_row, filler_bytes, filled_row, bytes_of, written_item, written_element, written_children, writes, row_length, row_levels, row_filler, first_in, depth_of, around, own_length, own_filler, item_length, item_filler, own_levels, item_levels, sum_length, sum_filler, deepest, at_child, over_children, characters_of, held_by}
use Rattle.model.specs.Definitions.Inverse.{child_at, child_of_type, first_item, enter, follow, opened_at, bytes_before, bytes_aside, found_at, enter_at, follow_at, unbroken, part_of, if_there, member_parts, choice_parts, unless_empty, optional_parts, item_parts, list_parts, kind_parts, with_rest, with_element, read_parts, read_unbroken, read_characters, read_children, read_kind, read_to, reading, content_read, read_back, if_image, bring_back_content}
use Rattle.model.specs.Definitions.LeftOut.{keep_character, keep_element, kept, on_paths, left_out_of}
use Rattle.model.specs.Definitions.Correspondence.{element_at, behind_first, addresses_in, addresses, child_number, child_numbers, item_numbers, towards_child, stands_at, image_inside, offset_at, type_at, correspondence, correspondences}
use Rattle.model.specs.Definitions.Counting.{beginnings, beginnings_of, different, child_count, choice_steps, list_steps, kind_elements, own_elements, elements_below, path_elements, occurrences}
use Rattle.model.specs.Definitions.SingleItems.{holds_one, found_passes, single_along, unasked, single_items_of, followed_paths, all_single, single_element, single_children, single_items}
use Rattle.model.specs.Definitions.Refusals.{fault_number, fault_mark, document_number, numbers_of, fault_at, fault_unless, fits}
use Rattle.model.specs.Definitions.Entries.{checked_table, judged_table, judged_embedding, judged_tree, answer_of, unless_faulty, edge_count, judge_table, judge_embedding, judge_tree, untouched, written, carry_within, carry_content, carry, read_within, bring_content, bring_back, read_content, read_along}
use Rattle.model.specs.Definitions.Explanation.{clash_for, pair_clash, clash_before, clash_of_type, clash_of, explanation, explain, reason_number, explanation_numbers, ShorterBeginning, ReasonHolds}
use Rattle.model.specs.Definitions.Operations.{kept_length, members_written, with_at_least, where_none, where_one, type_in, unchanged, without_mark, changed_if, changed_to, append_kind, type_appended, with_member, extended_at, append_if, member_appended, operate, Appends}
use Rattle.model.specs.Definitions.Extending.{type_there, member_there, first_operation, with_answer, perform_one, perform_next, perform_to, perform, answer_bytes, kept_bytes, report, report_if, reported, long_operations, extend}
use Rattle.model.specs.Definitions.Decimal.{value_from, digit_bytes}

unfoldable pub definitions : Unit {0}
unfolding pick or_else proceed run followed reach goes_if member_of entry some_of and_then or_next is_there first_found takes_operand last_command first_command commands table_command table_commands table_width embedding_command embedding_commands embedding_width tree_command tree_commands tree_width kind_of members_of step_from edges_of is_text is_sequence is_choice is_optional is_list with_command table_tail table_of height_in highest lowest height_of_kind heights_to heights height_of has_instance first_endless endless_type least_member table_role table_move table_step table_complete table_form one_type_more limit_step table_limits names_type table_operands chooses repeat_step table_repeats bytes document levels elements same with_tree_command contents top_of inside_of content_of between is_ascii is_markup is_accented character_class is_not_allowed allowed Conforming Begins Instance admits after complete conforms closed tree_step tree_complete tree_form level_step tree_levels operand_step tree_operands expect_step tree_expected FirstUnexpected Distinct ValidKind member_bytes kind_bytes table_bytes no_map no_edge edge_of target_of paths_of first_path with_embedding_command embedding_tail embedding_of or_root next end_of leaves one_step_more parting divide_at divide before_choice same_steps embedding_step embedding_complete embedding_form step_count embedding_limits reaches path_step embedding_operands root_to_root first_edge each_type ends_at ends_at_text ends_of wrong_end_verdict leaves_only sequence_or_list optional_first right_steps agrees steps_of wrong_steps_verdict where_one_ends where_paths_part clash_reason clash first_clash clashes_of path_clash_verdict unmapped mapped_to without_offsets mapping_in mapping_of StepsExist EndsRight Each AtLeastOne FirstChoiceOptional RightKinds BeginningOf NoClash step_bytes path_bytes embedding_bytes content levels_of length_of fillers_of known fill_members fill_kind fill_to fillers filler_length beyond under is_placed grow_members grow_kind grow place letters_of along_paths path_of_member along_choice items_of along_list placements image_of_element children image_by image image_levels image_length image_filler holes_along choice_hole holes_of template_by divided_of item_by held_by_child first_type items_by in_holes shaped row_of template item_template filler_row filler_bytes filled_row bytes_of written_item written_element written_children writes row_length row_levels row_filler first_in depth_of around own_length own_filler item_length item_filler own_levels item_levels sum_length sum_filler deepest at_child over_children characters_of held_by child_at child_of_type first_item enter follow opened_at bytes_before bytes_aside found_at enter_at follow_at unbroken part_of if_there member_parts choice_parts unless_empty optional_parts item_parts list_parts kind_parts with_rest with_element read_parts read_unbroken read_characters read_children read_kind read_to reading content_read read_back if_image bring_back_content keep_character keep_element kept on_paths left_out_of element_at behind_first addresses_in addresses child_number child_numbers item_numbers towards_child stands_at image_inside offset_at type_at correspondence correspondences beginnings beginnings_of different child_count choice_steps list_steps kind_elements own_elements elements_below path_elements occurrences holds_one found_passes single_along unasked single_items_of followed_paths all_single single_element single_children single_items fault_number fault_mark document_number numbers_of fault_at fault_unless fits checked_table judged_table judged_embedding judged_tree answer_of unless_faulty edge_count judge_table judge_embedding judge_tree untouched written carry_within carry_content carry read_within bring_content bring_back read_content read_along clash_for pair_clash clash_before clash_of_type clash_of explanation explain reason_number explanation_numbers ShorterBeginning ReasonHolds kept_length members_written with_at_least where_none where_one type_in unchanged without_mark changed_if changed_to append_kind type_appended with_member extended_at append_if member_appended operate Appends type_there member_there first_operation with_answer perform_one perform_next perform_to perform answer_bytes kept_bytes report report_if reported long_operations extend value_from digit_bytes
definitions = tt
