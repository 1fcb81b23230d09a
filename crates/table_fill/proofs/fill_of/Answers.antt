-- `fill_of` meets its contract.
use mathlib.Core.Path.{◌≡◌, refl, sym, ap, ◌∙◌}
use Prim.Native.Nat.{ℕ, ◌+◌, min}
use native.Mathlib.Nat.{add-zero}
use native.Mathlib.Omega.{arith}
use lib.ListN.{get_or}
use Rattle.loaded_table.specs.Loaded.{heights_of, fill_of}
use Rattle.model.proofs.Theorems.FillerLaws.{filled}
use Rattle.table_heights.specs.Sections.{kind_sequence, kind_choice, kind_other}
use Rattle.table_fill.specs.Fill.{fill_sum}
use Rattle.table_fill.proofs.fill_of.Goals as goal

pub kind-code-requires : goal.kind-code-requires
kind-code-requires c = omega (arith, c.requires.1, c.requires.0.few_types)

pub fill_sum-requires : goal.fill_sum-requires
fill_sum-requires c = c.requires

pub least_member-requires : goal.least_member-requires
least_member-requires c = c.requires

pub fill_at-requires : goal.fill_at-requires
fill_at-requires c = tt

pub held_sum-requires : goal.held_sum-requires
held_sum-requires c = tt

pub returns-in-2 : goal.returns-in-2
unfolding filled
returns-in-2 c =
    rw (kind_sequence c.args.table.now c.args.t c.requires.1 c.kind-code.ensures.0 c.in-2.is) c.fill_sum.ensures

pub returns-in-3 : goal.returns-in-3
unfolding filled fill_sum
returns-in-3 c =
    let rows = c.args.table.now in
    rw (kind_choice rows c.args.t c.requires.1 c.kind-code.ensures.0 c.in-3.is)
    (c.held_sum.ensures ∙ ap (λ (n : ℕ). min 60001 (3 + n)) (c.fill_at.ensures ∙ ap (λ (n : ℕ). get_or (fill_of rows) n 0) c.least_member.ensures ∙ sym (add-zero _)))

pub returns-in_default : goal.returns-in_default
unfolding filled fill_sum
returns-in_default c =
    let rows = c.args.table.now in
    kind_other rows c.args.t c.requires.1 c.kind-code.ensures.0 (λ κ. 3 ≡ min 60001 (3 + fill_sum (fill_of rows) (filled (heights_of rows) κ))) c.in_default.in_default-own.rest.0.1 c.in_default.in_default-own.rest.1 refl refl (λ ms. refl) (λ m. refl)
