-- The loop of `beyond`: the paths kept so far, with those beyond the step among the others, are all beyond the step.
use mathlib.Core.Path.{◌≡◌, refl, sym, ap, ◌∙◌}
use mathlib.Core.List.{List, [], ◌∷◌, ◌++◌, append-nil, append_assoc}
use Prim.Native.Nat.{ℕ, suc, ◌+◌, ◌-◌, ◌≤◌, ◌<◌}
use native.Mathlib.Nat.{sub-zero}
use native.Mathlib.Numerals.{add-one}
use native.Mathlib.Omega.{arith}
use lib.ListN.{length, get_or}
use Rattle.model.specs.Definitions.Image.{Placement, under}
use Rattle.model.specs.Definitions.Templates.{Shape}
use Rattle.loaded_embedding.specs.Loaded.{steps_from}
use Rattle.growing.specs.declared.Edges.{Edges}
use Rattle.growing.specs.Growing.{first_of, placement_of, placements_from, placements_of, no_edges, push, PathsReadable}
use Rattle.growing.specs.Laws.{push_placements, push_readable, none_readable, none_placed, under_first, under_another}

-- of `count` paths those before path i are looked at, and `sub` has those of them whose first step is q
pub record Follows (em : List ℕ) (q : ℕ) (e sub : Edges) (i : ℕ) : Type 0 where
  pub few : sub.count ≤ i
  pub high : i ≤ e.count
  pub readable : PathsReadable em sub
  pub gives : placements_of em sub ++ under q (placements_from em e.next e.left e.hole i (e.count - i)) ≡ under q (placements_of em e)

-- before the first
pub follows_none : (em : List ℕ) (q : ℕ) (e : Edges) → Follows em q e no_edges 0
unfolding no_edges
follows_none em q e =
    record {
      few = omega arith;
      high = omega arith;
      readable = none_readable em;
      gives = rw (none_placed em, sub-zero e.count) refl;
    }

module _ {em : List ℕ} {q : ℕ} {e sub : Edges} {i : ℕ} (paths : PathsReadable em e) (now : Follows em q e sub i) (less : i < e.count) where
  abbrev rest : List (Placement Shape)
  rest = placements_from em e.next e.left e.hole (suc i) (e.count - suc i)

  abbrev next : ℕ
  next = get_or e.next i 0

  abbrev left : ℕ
  left = get_or e.left i 0

  abbrev goal : ℕ
  goal = get_or e.hole i 0

  here : placements_from em e.next e.left e.hole i (e.count - i) ≡ placement_of em next left goal ∷ rest
  unfolding placements_from
  here =
      let more : e.count - i ≡ suc (e.count - suc i) = omega arith in
      rw more refl

  -- its first step can be read
  pub follows_reads : 0 < left → next < length em
  follows_reads some = omega (arith, paths.within i less)

  -- path i begins with another step
  pub follows_past : (first_of (steps_from em next left) ≡ q → ⊥) → Follows em q e sub (i + 1)
  follows_past other =
      record {
        few = omega (arith, now.few);
        high = omega arith;
        readable = now.readable;
        gives = rw (add-one i) (ap (λ (l : List (Placement Shape)). placements_of em sub ++ l) (sym (under_another em q next left goal rest other) ∙ ap (under q) (sym here)) ∙ now.gives);
      }

  -- path i begins with step q
  module _ (some : 0 < q) (is : first_of (steps_from em next left) ≡ q) where
    pub follows-left : 0 < left
    follows-left = (under_first em q next left goal rest some is).0

    pub follows-place : next + 2 ≤ length em + 1
    follows-place = omega (arith, paths.within i less, follows-left)

    pub follows_on : Follows em q e (push sub (next + 2) (left - 1) goal) (i + 1)
    unfolding push
    follows_on =
        record {
          few = omega (arith, now.few);
          high = omega arith;
          readable = push_readable now.readable (omega (arith, now.few, paths.few)) (next + 2) (left - 1) goal (omega (arith, paths.within i less, follows-left)) (paths.is_hole i less);
          gives =
              rw (add-one i, push_placements now.readable (omega (arith, now.few, paths.few)) (next + 2) (left - 1) goal)
              (append_assoc (placements_of em sub) (placement_of em (next + 2) (left - 1) goal ∷ []) (under q rest)
              ∙ ap (λ (l : List (Placement Shape)). placements_of em sub ++ l) (sym (under_first em q next left goal rest some is).1 ∙ ap (under q) (sym here))
              ∙ now.gives);
        }

-- behind the last
pub follows_all : {em : List ℕ} {q : ℕ} {e sub : Edges} {i : ℕ} → Follows em q e sub i → e.count ≤ i → placements_of em sub ≡ under q (placements_of em e)
unfolding placements_from under
follows_all {em} {q} {e} {sub} {i} now over =
    let none : e.count - i ≡ 0 = omega arith in
    sym (append-nil (placements_of em sub)) ∙ (rw none at now.gives)
