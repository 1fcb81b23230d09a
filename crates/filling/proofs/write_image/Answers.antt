-- `write_image` meets its contract: an output refuses nothing.
use Rattle.std.proofs.Common.{sym, rules}
use Rattle.std.proofs.lemmas.Result.{IfOk-at_ok}
use Rattle.filling.specs.Written.{left_behind}
use Rattle.filling.proofs.Exits.{no_err}
use Rattle.filling.proofs.write_image.Goals as goal

pub unwrap-requires : goal.unwrap-requires
unwrap-requires c = let f = c.requires.task in no_err _ c.image.ensures.refused (λ refused. refused f.bytes f.asked)

pub returns : goal.returns
returns c bs a =
    let done = IfOk-at_ok _ c.unwrap.ensures c.image.ensures.taken bs a in
    let same = sym done.same in
    left_behind done (search rules)
