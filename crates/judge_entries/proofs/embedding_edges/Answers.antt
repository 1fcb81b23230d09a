-- `embedding_edges` meets its contract: by what judging the three documents answers.
use Rattle.std.proofs.Common.{refl}
use Rattle.std.proofs.lemmas.Result.{err_from_is_err_and}
use Rattle.loaded_embedding.specs.Loaded.{cleared_map}
use Rattle.setting_judge.specs.Laws.{refused_answer, counted-answer}
use Rattle.judge_entries.proofs.embedding_edges.Goals as goal

pub judge-requires : goal.judge-requires
judge-requires c = (refl, refl, cleared_map)

pub edge_count-requires : goal.edge_count-requires
edge_count-requires c = c.in_ok-judge.ensures.loaded.source_stands.bounded

pub returns-in_err-judge : goal.returns-in_err-judge
returns-in_err-judge c =
    let p = err_from_is_err_and c.from_residual.result c.from_residual.ensures.1 in
    rw (p.1, p.2) (refused_answer c.in_err-judge.ensures.refusing)

pub returns : goal.returns
returns c = counted-answer _ c.in_ok-judge.ensures c.edge_count.ensures
