-- By the variant: of all faults a clash has the number 10.
use mathlib.Core.Path.{refl, sym, ap}
use mathlib.Core.Bool.{Bool, false}
use mathlib.Core.List.{[], ◌∷◌}
use lib.Dec.{eqb}
use Rattle.answers.specs.declared.Fault.{Fault}
use Rattle.answers.specs.contracts.Fault.{enum}
use Rattle.answers.specs.Answers.{fault}
use Rattle.model.specs.Definitions.Refusals.{fault_number}
use Rattle.model.proofs.Theorems.Arms.{in_arm}
use borrow.Enum.Refused.{opened}
use Rattle.explaining.proofs.is_clash.Goals as goal

-- whether a fault has the number 10
abbrev is_ten : Fault → Bool
is_ten f = eqb (fault_number (fault f)) 10

pub returns-in-PathClash : goal.returns-in-PathClash
unfolding fault_number
returns-in-PathClash c = sym (ap is_ten c.in-PathClash.is)

pub returns-in_default : goal.returns-in_default
unfolding fault_number
returns-in_default c = in_arm enum is_ten false (0 ∷ 1 ∷ 2 ∷ 3 ∷ 4 ∷ 5 ∷ 6 ∷ 7 ∷ 8 ∷ 10 ∷ []) (λ v. refl, (λ v. refl, (λ v. refl, (λ v. refl, (λ v. refl, (λ v. refl, (λ v. refl, (λ v. refl, (λ v. refl, (λ v. refl, tt)))))))))) c.args.f (opened c.in_default.in_default-own.keys2)
