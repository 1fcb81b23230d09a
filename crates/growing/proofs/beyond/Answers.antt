use mathlib.Core.Path.{sym, subst, ◌∙◌}
use Prim.Native.Nat.{◌+◌}
use native.Mathlib.Omega.{arith}
use Rattle.growing.specs.declared.Edges.{Edges}
use Rattle.growing.proofs.FirstSteps.{first_same, first_other}
use Rattle.growing.proofs.Following.{Follows, follows_none, follows_reads, follows_past, follows-left, follows-place, follows_on, follows_all}
use Rattle.growing.proofs.beyond.Goals as goal
use Rattle.growing.proofs.beyond.Goals.{then-eq, else-eq}

pub loop-i-init : goal.loop-i-init
loop-i-init c =
    subst (λ (sub : Edges). Follows c.args.em.now c.args.q c.args.e sub 0) (sym c.no_edges-sub.ensures) (follows_none _ _ _)

pub first_step-requires : goal.first_step-requires
first_step-requires c =
    follows_reads c.requires.paths c.loop-i.invariant (omega arith)

pub overflow_add-next : goal.overflow_add-next
overflow_add-next c =
    omega (arith, follows-place c.requires.paths c.loop-i.invariant (omega arith) c.requires.q_nonzero.0 (first_same _ _ _ c.args.q c.first_step.result c.first_step.ensures (sym c.eq.ensures ∙ c.if-eq.true)), c.requires.q_nonzero.1)

pub overflow_sub-left : goal.overflow_sub-left
overflow_sub-left c =
    follows-left c.requires.paths c.loop-i.invariant (omega arith) c.requires.q_nonzero.0 (first_same _ _ _ c.args.q c.first_step.result c.first_step.ensures (sym c.eq.ensures ∙ c.if-eq.true))

pub pushed-sub-requires : goal.pushed-sub-requires
pushed-sub-requires c = omega (arith, c.loop-i.invariant.few, c.requires.paths.few)

pub loop-i-preserved : goal.loop-i-preserved
loop-i-preserved c =
    let loop = c.loop-i in
    let next : Edges → Type 0 = λ sub. Follows c.args.em.now c.args.q c.args.e sub (loop.i + 1) in
    elim c.if-eq.branch [
      | then-eq w ↦ subst next (sym (w.sub-is ∙ w.pushed-sub.ensures)) (follows_on c.requires.paths loop.invariant (omega arith) c.requires.q_nonzero.0 (first_same _ _ _ c.args.q c.first_step.result c.first_step.ensures (sym c.eq.ensures ∙ w.if-eq.true)))
      | else-eq w ↦ subst next (sym w.sub-is) (follows_past c.requires.paths loop.invariant (omega arith) (first_other _ _ _ c.args.q c.first_step.result c.requires.q_nonzero.0 c.first_step.ensures (sym c.eq.ensures ∙ w.if-eq.false)))
    ]

pub returns : goal.returns
returns c = (c.loop-i.invariant.readable, follows_all c.loop-i.invariant (omega arith))
