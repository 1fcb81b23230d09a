-- By whether the kind is a choice, and what is left.
use mathlib.Core.Path.{◌≡◌, sym, ◌∙◌}
use mathlib.Core.Bool.{true}
use mathlib.Core.List.{[]}
use Rattle.loaded_table.specs.Loaded.{kind_from}
use Rattle.loaded_table.specs.Kinds.{choice_code}
use Rattle.model.specs.Definitions.Basics.{pick}
use Rattle.embedding_clash.proofs.ClashLaws.{parted_choice, parted_other}
use Rattle.embedding_clash.proofs.clash.parted.Goals.{Else-not-is_choice}
use Rattle.embedding_clash.proofs.clash.parted.Goals as goal

-- the kind is a choice's
chooses : (c : Else-not-is_choice) → choice_code c.args.kind ≡ true
chooses c = sym c.is_choice.ensures ∙ c.if-not-is_choice.false

pub is_choice-requires : goal.is_choice-requires
unfolding pick
is_choice-requires c = tt

pub returns-then-not-is_choice : goal.returns-then-not-is_choice
unfolding pick
returns-then-not-is_choice c = let a = c.args in parted_other a.kind (kind_from a.left 0 []) (sym c.is_choice.ensures ∙ c.if-not-is_choice.true)

pub is_choice-requires-2 : goal.is_choice-requires-2
unfolding pick
is_choice-requires-2 c = tt

pub returns-then-is_choice : goal.returns-then-is_choice
unfolding pick
returns-then-is_choice c = let a = c.args in parted_choice a.kind a.left (chooses (goal.at.returns-then-is_choice c).Else-not-is_choice) (sym c.is_choice-2.ensures ∙ c.if-is_choice.true)

pub returns : goal.returns
unfolding pick
returns c = let a = c.args in parted_choice a.kind a.left (chooses (goal.at.returns c).Else-not-is_choice) (sym c.is_choice-2.ensures ∙ c.if-is_choice.false)
