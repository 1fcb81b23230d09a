-- `put` meets its contract: each command by what it stores.
use mathlib.Core.Path.{refl}
use borrow.Author.Rules.{rules}
use Rattle.model.specs.Definitions.Commands.{needed, optional, text_type, empty_type, sequence_type, choice_type}
use Rattle.table_load.specs.Loading.{TableArrays, loaded_in, puts}
use Rattle.table_load.proofs.Rooms.{told_room, told_put, join_room, list_room, begun_put, list_put, member_put}
use Rattle.table_load.proofs.put.Goals as goal
use Rattle.table_load.proofs.put.Goals.{Start}

-- what is loaded before the command
abbrev loaded : Start → TableArrays
loaded c = loaded_in c.args.types c.args.table.now

pub begin-requires : goal.begin-requires
begin-requires c = ((told_room (loaded (goal.at.begin-requires c).Start) c.in-Text.is c.requires).room, search rules)

pub begin-requires-in-Empty : goal.begin-requires-in-Empty
begin-requires-in-Empty c = ((told_room (loaded (goal.at.begin-requires-in-Empty c).Start) c.in-Empty.is c.requires).room, search rules)

pub begin-requires-in-Sequence : goal.begin-requires-in-Sequence
begin-requires-in-Sequence c = ((told_room (loaded (goal.at.begin-requires-in-Sequence c).Start) c.in-Sequence.is c.requires).room, search rules)

pub begin-requires-in-Choice : goal.begin-requires-in-Choice
begin-requires-in-Choice c = ((told_room (loaded (goal.at.begin-requires-in-Choice c).Start) c.in-Choice.is c.requires).room, search rules)

pub begin-requires-in-Optional : goal.begin-requires-in-Optional
begin-requires-in-Optional c = ((told_room (loaded (goal.at.begin-requires-in-Optional c).Start) c.in-Optional.is c.requires).room, search rules)

pub begin-more-requires : goal.begin-more-requires
unfolding puts
begin-more-requires c = ((told_room (loaded_in c.args.types c.args.table.now) c.in-List.is c.requires).room, search rules)

pub join-requires : goal.join-requires
join-requires c =
    list_room c.args.table.now c.args.types (told_room (loaded_in c.args.types c.args.table.now) c.in-List.is c.requires) c.begin-more.ensures.1

pub overflow_sub-types : goal.overflow_sub-types
unfolding puts
overflow_sub-types c = (told_room (loaded_in c.args.types c.args.table.now) c.in-Member.is c.requires).some

pub join-requires-in-Member : goal.join-requires-in-Member
join-requires-in-Member c = join_room (loaded (goal.at.join-requires-in-Member c).Start) (told_room (loaded_in c.args.types c.args.table.now) c.in-Member.is c.requires)

pub returns-in-Text : goal.returns-in-Text
unfolding puts
returns-in-Text c =
    let told = c.in-Text.is in
    told_put told (begun_put c.args.table.now c.args.types 0 text_type refl (told_room (loaded (goal.at.returns-in-Text c).Start) told c.requires).room c.begin.ensures)

pub returns-in-Empty : goal.returns-in-Empty
unfolding puts
returns-in-Empty c =
    let told = c.in-Empty.is in
    told_put told (begun_put c.args.table.now c.args.types 1 empty_type refl (told_room (loaded (goal.at.returns-in-Empty c).Start) told c.requires).room c.begin-in-Empty.ensures)

pub returns-in-Sequence : goal.returns-in-Sequence
unfolding puts
returns-in-Sequence c =
    let told = c.in-Sequence.is in
    told_put told (begun_put c.args.table.now c.args.types 2 sequence_type refl (told_room (loaded (goal.at.returns-in-Sequence c).Start) told c.requires).room c.begin-in-Sequence.ensures)

pub returns-in-Choice : goal.returns-in-Choice
unfolding puts
returns-in-Choice c =
    let told = c.in-Choice.is in
    told_put told (begun_put c.args.table.now c.args.types 3 (choice_type needed) refl (told_room (loaded (goal.at.returns-in-Choice c).Start) told c.requires).room c.begin-in-Choice.ensures)

pub returns-in-Optional : goal.returns-in-Optional
unfolding puts
returns-in-Optional c =
    let told = c.in-Optional.is in
    told_put told (begun_put c.args.table.now c.args.types 4 (choice_type optional) refl (told_room (loaded (goal.at.returns-in-Optional c).Start) told c.requires).room c.begin-in-Optional.ensures)

pub returns-in-List : goal.returns-in-List
returns-in-List c =
    told_put c.in-List.is (list_put c.args.table.now c.args.types _ (told_room (loaded_in c.args.types c.args.table.now) c.in-List.is c.requires) c.begin-more.ensures c.join.ensures)

pub returns-in-Member : goal.returns-in-Member
returns-in-Member c =
    told_put c.in-Member.is (member_put c.args.table.now c.args.types _ (told_room (loaded_in c.args.types c.args.table.now) c.in-Member.is c.requires) c.join-in-Member.ensures)

pub returns-in-End : goal.returns-in-End
unfolding puts
returns-in-End c = told_put c.in-End.is (record { same_size = refl; does = refl })
