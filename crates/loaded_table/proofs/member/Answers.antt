-- `member` meets its contract: a number of a section is a number of the array.
use mathlib.Core.Path.{sym, ◌∙◌}
use Prim.Native.Nat.{◌+◌, ◌*◌, ◌<◌}
use native.Mathlib.Omega.{arith}
use Rattle.loaded_table.specs.Loaded.{in_section}
use Rattle.loaded_table.proofs.member.Goals as goal

pub returns : goal.returns
returns c =
    let near : c.args.t * 16 + c.args.i < 1024 = omega (arith, c.requires.0, c.requires.1) in
    (c.number.ensures.0 ∙ sym (in_section 256 1024 c.args.table.now (c.args.t * 16 + c.args.i) near), c.number.ensures.1)
