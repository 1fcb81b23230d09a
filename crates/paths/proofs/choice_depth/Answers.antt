use mathlib.Core.Path.{refl, sym, ap, ◌∙◌}
use native.Mathlib.Omega.{arith}
use Rattle.loaded_table.specs.Kinds.{choice_code}
use Rattle.paths.specs.Stepping.{is_small, step_bounds}
use Rattle.paths.proofs.Choosing.{chooses_start, chooses_none, chooses-here, chooses-on}
use Rattle.paths.proofs.choice_depth.Goals as goal

pub loop-d-init : goal.loop-d-init
loop-d-init c = chooses_start c.requires

pub returns-then-is_choice : goal.returns-then-is_choice
returns-then-is_choice c =
    chooses-here c.loop-d.invariant (omega arith) refl
    (sym (ap choice_code c.kind.ensures.0) ∙ sym c.is_choice.ensures ∙ c.if-is_choice.true)

pub overflow_sub-p : goal.overflow_sub-p
overflow_sub-p c = (step_bounds c.loop-d.invariant.walk (omega arith) c.step-p.ensures.0).0

pub member-here-requires : goal.member-here-requires
member-here-requires c =
    let walk = c.loop-d.invariant.walk in
    let p = c.step-p.ensures.0 in
    let bounds = step_bounds walk (omega arith) p in
    (is_small walk (omega arith) p, omega (arith, bounds.0, bounds.1))

pub loop-d-preserved : goal.loop-d-preserved
loop-d-preserved c =
    chooses-on c.loop-d.invariant (omega arith) c.step-p.ensures.0
    (sym (ap choice_code c.kind.ensures.0) ∙ sym c.is_choice.ensures ∙ c.if-is_choice.false)
    c.member-here.ensures.0

pub returns : goal.returns
returns c = chooses_none c.loop-d.invariant (omega arith)
