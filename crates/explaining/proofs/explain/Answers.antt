-- `explain` meets its contract: by what judging the three documents answers, and by what the search finds where that is 10.
use mathlib.Core.Path.{refl, sym, ◌∙◌}
use Rattle.loaded_embedding.specs.Loaded.{cleared_map}
use Rattle.setting_judge.specs.Laws.{standing, refused, refusing}
use Rattle.explaining.proofs.Explaining.{accepted_so, refused_otherwise, searchable, clash-explained, none-explained}
use Rattle.explaining.proofs.explain.Goals as goal

pub judge-requires : goal.judge-requires
judge-requires c = (refl, refl, cleared_map)

pub edge_count-requires : goal.edge_count-requires
edge_count-requires c = (standing _ _ _ _ _ _ _ c.judge.ensures c.in-Ok.is).loaded.source_stands.bounded

pub returns-then-not-for_clash : goal.returns-then-not-for_clash
returns-then-not-for_clash c = rw c.unexplained.ensures (refused_otherwise (refusing _ _ _ _ _ _ _ c.judge.ensures c.in-Err.is) (sym c.for_clash.ensures ∙ c.if-not-for_clash.true))

pub clash_of-requires : goal.clash_of-requires
clash_of-requires c = searchable (refused _ _ _ _ _ _ _ c.judge.ensures c.in-Err.is) (sym c.for_clash.ensures ∙ c.if-not-for_clash.false)

pub returns-in-Ok : goal.returns-in-Ok
returns-in-Ok c = accepted_so _ (standing _ _ _ _ _ _ _ c.judge.ensures c.in-Ok.is) c.edge_count.ensures

pub returns-in-Some : goal.returns-in-Some
returns-in-Some c = clash-explained (refused _ _ _ _ _ _ _ c.judge.ensures c.in-Err.is) (sym c.for_clash.ensures ∙ c.if-not-for_clash.false)
    c.clash_of.ensures c.in-Some.is

pub returns-in-None : goal.returns-in-None
returns-in-None c = rw c.unexplained-in-None.ensures (none-explained (refused _ _ _ _ _ _ _ c.judge.ensures c.in-Err.is) (sym c.for_clash.ensures ∙ c.if-not-for_clash.false)
    c.clash_of.ensures c.in-None.is)
