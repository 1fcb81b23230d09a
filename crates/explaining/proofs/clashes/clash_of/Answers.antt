use mathlib.Core.Path.{sym, ◌∙◌}
use native.Mathlib.Omega.{arith}
use Rattle.loaded_table.specs.Loaded.{length_of_lem}
use Rattle.model.specs.Definitions.Explanation.{clash_of}
use Rattle.embedding_clash.proofs.Searching.{search_starts, search_passes, search_finds, search_ends}
use Rattle.explaining.proofs.Explaining.{nothing_found, something_found}
use Rattle.explaining.proofs.clashes.clash_of.Goals as goal

pub loop-s-init : goal.loop-s-init
unfolding clash_of
loop-s-init c = search_starts _ (c.types-types.ensures.0 ∙ sym (length_of_lem c.args.source.now))

pub clash_of_type-requires : goal.clash_of_type-requires
clash_of_type-requires c = record { checkable = c.requires; s_bound = omega (arith, c.types-types.ensures.0) }

pub loop-s-preserved : goal.loop-s-preserved
loop-s-preserved c =
    search_passes _ _ _ (omega arith) (nothing_found c.clash_of_type.ensures c.in_default.is) ∙ c.loop-s.invariant

pub returns-in-Some : goal.returns-in-Some
returns-in-Some c =
    sym (search_finds _ _ _ (omega arith) (something_found c.clash_of_type.ensures c.in-Some.is)) ∙ c.loop-s.invariant

pub returns : goal.returns
unfolding clash_of
returns c = sym (search_ends _ _ _ (omega arith)) ∙ c.loop-s.invariant
