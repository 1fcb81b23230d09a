-- `allowed` meets its contract: what the class says.
use Rattle.std.proofs.Common.{◌≡◌, refl, sym, ap, true, not, ◌∙◌}
use Rattle.model.specs.Definitions.Characters.{is_not_allowed, allowed}
use Rattle.characters.specs.Classes.{class}
use Rattle.characters.specs.declared.CharacterClass.{CharacterClass}
use Rattle.characters.specs.declared.CharacterClass.TheVariants.{Plain, Entity, DecimalReference, NotAllowed}
use Rattle.characters.proofs.allowed.Goals as goal

passes : (r : CharacterClass) → (r ≡ NotAllowed → ⊥) → true ≡ not (is_not_allowed (class r))
unfolding is_not_allowed
passes Plain h = refl
passes Entity h = refl
passes DecimalReference h = refl
passes NotAllowed h = absurd (h refl)

pub returns-in-NotAllowed : goal.returns-in-NotAllowed
unfolding is_not_allowed allowed
returns-in-NotAllowed c = ap (λ r. not (is_not_allowed (class r))) (sym c.in-NotAllowed.is) ∙ ap (λ κ. not (is_not_allowed κ)) c.class_of.ensures

pub returns-in_default : goal.returns-in_default
unfolding allowed
returns-in_default c = passes _ c.in_default.not-NotAllowed ∙ ap (λ κ. not (is_not_allowed κ)) c.class_of.ensures
