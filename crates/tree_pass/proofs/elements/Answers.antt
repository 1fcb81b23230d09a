-- `elements` meets its contract.
use Rattle.std.proofs.Common.{arith}
use Rattle.tree_pass.proofs.elements.Goals as goal

pub inside-requires : goal.inside-requires
inside-requires c = record {
  bounded = c.requires;
  begun = c.begins.ensures c.if-not-begins.false;
  some = omega (arith, c.types.ensures.0, c.if-types-eq0.false);
}
