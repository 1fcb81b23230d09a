-- `operands` meets its contract: what is left at the start is the whole document.
use Rattle.loaded_table.specs.Loaded.{length_of_lem}
use Rattle.model.specs.Definitions.EmbeddingChecks.{embedding_operands}
use Rattle.embedding_operands.proofs.operands.operands.Goals as goal

pub run-requires : goal.run-requires
run-requires c =
    let root = rw (length_of_lem c.args.target.now) at c.requires.well_formed.has_root in
    record { bounded = c.requires.bounded; well_formed = c.requires.well_formed; start_in = root; here_in = root }

pub returns : goal.returns
unfolding embedding_operands
returns c = c.run.ensures
