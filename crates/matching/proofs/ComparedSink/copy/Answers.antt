-- `copy` meets its contract: the document begins with the bytes, or it does not.
use Rattle.std.specs.Prelude.{Some, None}
use Rattle.std.proofs.lemmas.Slice.Eq.{strip_prefix_is}
use Rattle.std.proofs.lemmas.Bool.Decides.{Decides-eqb}
use Rattle.matching.proofs.ComparedSink.copy.Goals as goal

pub returns-in-Some-clause-taken : goal.returns-in-Some-clause-taken
returns-in-Some-clause-taken c = record { stands = strip_prefix_is Decides-eqb c.args.self.now.left.now c.args.from.now (Some c.in-Some.rest) c.in-Some.ensures.cases }

-- where the bytes differ, none are taken
pub returns-in-None-clause-taken : goal.returns-in-None-clause-taken
returns-in-None-clause-taken c = tt

pub returns-in-None-clause-refused : goal.returns-in-None-clause-refused
returns-in-None-clause-refused c = record { differs = strip_prefix_is Decides-eqb c.args.self.now.left.now c.args.from.now None c.in-None.ensures.cases }
