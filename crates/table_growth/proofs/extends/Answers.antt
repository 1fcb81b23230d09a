-- `extends` meets its contract: by the code of the kind; a number that is no type counts as empty.
use mathlib.Core.Path.{refl, sym, ap, ◌∙◌}
use native.Mathlib.Omega.{arith}
use lib.ListN.{get_or-eq_default, drop, get_or}
use Prim.Native.Nat.{◌*◌, ◌<◌}
use Rattle.loaded_table.specs.Kinds.{choice_code, choice_code_lem}
use Rattle.loaded_table.specs.Loaded.{kinds_of, counts_of, members_in, types_in, table_by, length_of_lem, kind_of_lem}
use Rattle.model.specs.Definitions.Table.{empty, is_choice, kind_of}
use Rattle.model.proofs.Theorems.Tools.{true_false}
use Rattle.table_growth.proofs.extends.Goals as goal

pub types-requires : goal.types-requires
types-requires c = tt

pub returns-then-types-t : goal.returns-then-types-t
unfolding is_choice kind_of
returns-then-types-t c =
    let rows = c.args.table.now in
    (sym (ap is_choice (get_or-eq_default (table_by rows) empty (omega (arith, c.if-types-t.true, c.types.ensures.0, length_of_lem rows)))), λ e. true_false e refl)

pub kind-requires : goal.kind-requires
kind-requires c = omega (arith, c.if-types-t.false, c.types.ensures.0, c.requires.few_types)

pub is_choice-requires : goal.is_choice-requires
is_choice-requires c = tt

pub returns : goal.returns
returns c =
    let rows = c.args.table.now in
    let t = c.args.t in
    let exists : t < types_in rows = omega (arith, c.if-types-t.false, c.types.ensures.0) in (
      c.is_choice.ensures
          ∙ ap choice_code c.kind.ensures.0
          ∙ sym (ap is_choice (kind_of_lem rows t exists) ∙ choice_code_lem (get_or (kinds_of rows) t 0) (get_or (counts_of rows) t 0) (drop (t * 16) (members_in rows))),
      λ e. exists,
    )
