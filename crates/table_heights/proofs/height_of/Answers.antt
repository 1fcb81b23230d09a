-- `height_of` meets its contract.
use mathlib.Core.Path.{◌≡◌, refl, ap, ◌∙◌}
use Prim.Native.Nat.{suc}
use native.Mathlib.Numerals.{add-one}
use native.Mathlib.Omega.{arith}
use Rattle.loaded_table.specs.Loaded.{heights_of}
use Rattle.model.specs.Definitions.Heights.{height_of_kind}
use Rattle.table_heights.specs.Sections.{kind_sequence, kind_choice, kind_other}
use Rattle.table_heights.proofs.height_of.Goals as goal

pub kind-code-requires : goal.kind-code-requires
kind-code-requires c = omega (arith, c.requires.1, c.requires.0.few_types)

pub highest-requires : goal.highest-requires
highest-requires c = c.requires

pub overflow_add-result : goal.overflow_add-result
overflow_add-result c = omega (arith, c.highest.ensures.1)

pub lowest-requires : goal.lowest-requires
lowest-requires c = c.requires

pub overflow_add-result-in-3 : goal.overflow_add-result-in-3
overflow_add-result-in-3 c = omega (arith, c.lowest.ensures.1)

pub returns-in-2 : goal.returns-in-2
unfolding height_of_kind
returns-in-2 c =
    rw (kind_sequence c.args.table.now c.args.t c.requires.1 c.kind-code.ensures.0 c.in-2.is) (add-one c.highest.result ∙ ap suc c.highest.ensures.0)

pub returns-in-3 : goal.returns-in-3
unfolding height_of_kind
returns-in-3 c =
    rw (kind_choice c.args.table.now c.args.t c.requires.1 c.kind-code.ensures.0 c.in-3.is) (add-one c.lowest.result ∙ ap suc c.lowest.ensures.0)

pub returns-in_default : goal.returns-in_default
unfolding height_of_kind
returns-in_default c =
    let rows = c.args.table.now in
    kind_other rows c.args.t c.requires.1 c.kind-code.ensures.0 (λ κ. 1 ≡ height_of_kind (heights_of rows) κ) c.in_default.in_default-own.rest.0.1 c.in_default.in_default-own.rest.1 refl refl (λ ms. refl) (λ m. refl)
