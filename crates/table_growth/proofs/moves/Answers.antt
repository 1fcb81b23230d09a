-- `moves` meets its contract: a choice that needs a member is one higher than the lowest that it has.
use mathlib.Core.Path.{refl, sym, ◌∙◌}
use native.Mathlib.Omega.{arith}
use Rattle.table_growth.proofs.Joining.{moves_needed, moves_optional}
use Rattle.table_growth.proofs.moves.Goals as goal

pub kind-requires : goal.kind-requires
kind-requires c = omega (arith, c.requires.exists, c.requires.loaded.stands.bounded.few_types)

pub height-requires : goal.height-requires
height-requires c = omega (arith, c.requires.known, c.requires.loaded.stands.bounded.few_types)

pub overflow_add-result : goal.overflow_add-result
overflow_add-result c = omega (arith, c.height.ensures.1)

pub height-requires-then-kind-eq-CHOICE : goal.height-requires-then-kind-eq-CHOICE
height-requires-then-kind-eq-CHOICE c = omega (arith, c.requires.exists, c.requires.loaded.stands.bounded.few_types)

pub returns-then-kind-eq-CHOICE : goal.returns-then-kind-eq-CHOICE
returns-then-kind-eq-CHOICE c =
    let kept = c.requires.loaded.stands.kept in
    moves_needed _ _ _ c.requires (sym c.kind.ensures.0 ∙ c.if-kind-eq-CHOICE.true) (c.height.ensures.0 ∙ kept.height_at_lem _) (c.height-then-kind-eq-CHOICE.ensures.0 ∙ kept.height_at_lem _) refl (omega arith)

pub returns-else-kind-eq-CHOICE : goal.returns-else-kind-eq-CHOICE
returns-else-kind-eq-CHOICE c =
    moves_optional _ _ _ c.requires _ (λ three. c.if-kind-eq-CHOICE.false (c.kind.ensures.0 ∙ three))
