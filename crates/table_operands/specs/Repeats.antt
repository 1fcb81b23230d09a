-- Check 5 on what is left of a document, by the flags that the code keeps: a flag for each byte.
use Rattle.std.specs.Prelude.{◌≡◌, Bool, true, false, ℕ, suc, List, [], ◌∷◌, length}
use Rattle.table_operands.specs.declared.repeats.Members.{Members}
use Rattle.table_form.specs.Left.{left_of}
use Rattle.model.specs.Definitions.Basics.{Verdict}
use Rattle.model.specs.Definitions.TableChecks.{Chosen, elsewhere, among, repeat_step}

-- the numbers whose flags are set, where the first flag is that of n
unfoldable pub set_from : ℕ → List Bool → List ℕ
set_from n [] = []
set_from n (true ∷ flags) = n ∷ set_from (suc n) flags
set_from n (false ∷ flags) = set_from (suc n) flags

-- the model's state
abbrev pub chosen : Bool → List Bool → Chosen
chosen false seen = elsewhere
chosen true seen = among (set_from 0 seen)

-- each byte has a flag
abbrev pub Flagged : Members → Type 0
Flagged m = length m.seen ≡ 256

-- the verdict from an offset
abbrev pub repeats_left : List ℕ → Members → ℕ → Verdict
repeats_left bs m = left_of repeat_step (λ s. true) bs (chosen m.inside m.seen)
