-- By the variant: a fault has its number, and of the other refusals none has the number 10.
use mathlib.Core.Path.{◌≡◌, refl, sym, ap, ◌∙◌}
use mathlib.Core.Bool.{Bool, false}
use lib.Dec.{eqb}
use Rattle.std.specs.Prelude.{Err}
use Rattle.answers.specs.declared.Refusal.{Refusal}
use Rattle.answers.specs.declared.Refusal.TheVariants.{Faulty, NoImage, Unreadable, ImageTooDeep, ImageTooLong, OutputTooShort, NoChoice}
use Rattle.answers.specs.Answers.{counted_result}
use Rattle.model.specs.Definitions.Refusals.{numbers_of}
use Rattle.model.specs.Definitions.Entries.{answer_of}
use Rattle.explaining.proofs.for_clash.Goals as goal

-- whether a refusal has the number 10
abbrev is_ten : Refusal → Bool
is_ten r = eqb (answer_of (counted_result (Err r))).refusal 10

other : (r : Refusal) → ((d : _) (f : _) → r ≡ Faulty d f → ⊥) → false ≡ is_ten r
unfolding answer_of numbers_of
other (Faulty d f) not = absurd (not d f refl)
other NoImage not = refl
other (Unreadable at) not = refl
other ImageTooDeep not = refl
other ImageTooLong not = refl
other OutputTooShort not = refl
other NoChoice not = refl

pub returns-in-Faulty : goal.returns-in-Faulty
unfolding answer_of numbers_of
returns-in-Faulty c = c.is_clash.ensures ∙ sym (ap is_ten c.in-Faulty.is)

pub returns-in_default : goal.returns-in_default
returns-in_default c = other c.args.why c.in_default.not-Faulty
