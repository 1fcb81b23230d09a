-- `own_edges` meets its contract.
use mathlib.Core.Path.{subst}
use Prim.Native.Nat.{ℕ, ◌*◌}
use native.Mathlib.Omega.{arith}
use Rattle.own_rows.specs.Making.{EdgesFrom}
use Rattle.own_rows.proofs.own_edges.Goals as goal

pub returns-then-kind-eq-TEXT : goal.returns-then-kind-eq-TEXT
returns-then-kind-eq-TEXT c = record { of_text = λ code. c.edges.ensures; of_empty = λ code. absurd (omega (arith, code, c.if-kind-eq-TEXT.true, c.kind-kind.ensures.0)); of_sequence = λ code. absurd (omega (arith, code, c.if-kind-eq-TEXT.true, c.kind-kind.ensures.0)) }

pub returns-then-kind-eq-EMPTY : goal.returns-then-kind-eq-EMPTY
returns-then-kind-eq-EMPTY c =
    record { of_text = λ code. absurd (omega (arith, code, c.if-kind-eq-EMPTY.true, c.kind-kind.ensures.0)); of_empty = λ code. c.edges-then-kind-eq-EMPTY.ensures; of_sequence = λ code. absurd (omega (arith, code, c.if-kind-eq-EMPTY.true, c.kind-kind.ensures.0)) }

pub returns : goal.returns
returns c =
    record {
      of_text = λ code. absurd (c.if-kind-eq-TEXT.false (omega (arith, code, c.kind-kind.ensures.0)));
      of_empty = λ code. absurd (c.if-kind-eq-EMPTY.false (omega (arith, code, c.kind-kind.ensures.0)));
      of_sequence = λ code. subst (λ (n : ℕ). EdgesFrom c.args.map.now (c.args.s * 16) 128 n c.edges-2.result) c.count-count.ensures.0 c.edges-2.ensures;
    }
