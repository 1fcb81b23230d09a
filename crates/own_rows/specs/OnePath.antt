-- One path alone, to a hole: what is placed along it, and how long the row of its element is.
use Rattle.std.specs.Prelude.{◌≡◌, ℕ, ◌+◌, ◌*◌, ◌≤◌, length}
use Rattle.std.proofs.Common.{sym, ◌∙◌}
use Rattle.std.proofs.Math.Path.{ap, subst}
use mathlib.Core.List.{List, [], ◌∷◌, ◌++◌}
use native.Mathlib.Omega.{arith}
use Rattle.model.specs.Definitions.Image.{Placement}
use Rattle.model.specs.Definitions.Templates.{Shape, row_of}
use Rattle.model.proofs.Theorems.Facts.{All, all_none, all_more}
use Rattle.rows.specs.Rows.{IsHole}
use Rattle.growing.specs.declared.Edges.{Edges}
use Rattle.growing.specs.Growing.{placement_of, placements_of, no_edges, push, PathsReadable, Task, element_row, step_bound}
use Rattle.growing.specs.Laws.{push_placements, push_readable, none_readable, none_placed}
use Rattle.own_rows.specs.Bounds.{weight, IsGap}
use Rattle.own_rows.specs.Short.{steps_long, element_short}

-- one path alone, to a hole
unfoldable pub one_path : ℕ → ℕ → ℕ → Edges
one_path next left hole = push no_edges next left hole

module _ (em : List ℕ) (next left hole : ℕ) where
  -- what it places
  pub one_placed : placements_of em (one_path next left hole) ≡ placement_of em next left hole ∷ []
  unfolding one_path no_edges
  one_placed =
      push_placements (none_readable em) (omega arith) next left hole
      ∙ ap (λ (l : List (Placement Shape)). l ++ (placement_of em next left hole ∷ [])) (none_placed em)

  -- its steps stand in the embedding
  pub one_readable : next + 2 * left ≤ length em + 1 → IsHole hole → PathsReadable em (one_path next left hole)
  unfolding one_path no_edges
  one_readable within is_hole = push_readable (none_readable em) (omega arith) next left hole within is_hole

  -- it is a path
  one_some : (one_path next left hole).count ≡ 0 → ⊥
  unfolding one_path no_edges push
  one_some e = omega (arith, e)

  -- to a hole
  one_gap : All IsGap (placements_of em (one_path next left hole))
  unfolding placement_of row_of
  one_gap =
      let one : IsGap (placement_of em next left hole) = omega arith in
      subst (All IsGap) (sym one_placed) (all_more one all_none)

  -- 18 for each step and one for the hole
  one_weight : weight (placements_of em (one_path next left hole)) ≡ 18 * left + 1
  unfolding weight placement_of
  one_weight = ap weight one_placed ∙ rw (steps_long em next left) (omega arith)

  -- its element is short
  pub one_short : {target : List ℕ} {t : ℕ} → Task target em (one_path next left hole) step_bound t → length (element_row target em (one_path next left hole) step_bound t) ≤ 18 * left + 3
  one_short task = omega (arith, element_short task one_some one_gap, one_weight)
