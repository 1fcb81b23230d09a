-- `read_along` meets its contract: either pair of buffers is long enough.
use mathlib.Core.Path.{sym}
use Prim.Native.Nat.{ℕ}
use native.Mathlib.Omega.{arith}
use lib.ListN.{length-replicate}
use borrow.Author.Rules.{rules}
use Rattle.inverse.specs.Sources.{cleared_buffers}
use Rattle.reading_along.proofs.read_along.Goals as goal

pub slice_bounds-read_source-end : goal.slice_bounds-read_source-end
slice_bounds-read_source-end c = sym (length-replicate {A = ℕ} 2048 0)

pub slice_bounds-read_source-end-then-tr-le-SHORT : goal.slice_bounds-read_source-end-then-tr-le-SHORT
slice_bounds-read_source-end-then-tr-le-SHORT c = sym (length-replicate {A = ℕ} 2048 0)

pub read_source-read-requires : goal.read_source-read-requires
read_source-read-requires c = record { setting = c.requires.setting; target = c.requires.target.tree; within = cleared_buffers 2048 (search rules) (omega arith) }

pub finish-requires : goal.finish-requires
finish-requires c = record { setting = c.requires.setting; reading = (_, c.requires.target, c.read_source-read.ensures) }

pub returns-then-tr-le-SHORT : goal.returns-then-tr-le-SHORT
returns-then-tr-le-SHORT c = c.finish.ensures _ c.requires.target c.read_source-read.ensures

pub slice_bounds-read_source-end-2 : goal.slice_bounds-read_source-end-2
slice_bounds-read_source-end-2 c = sym (length-replicate {A = ℕ} 60000 0)

pub slice_bounds-read_source-end-3 : goal.slice_bounds-read_source-end-3
slice_bounds-read_source-end-3 c = sym (length-replicate {A = ℕ} 60000 0)

pub read_source-read-requires-2 : goal.read_source-read-requires-2
read_source-read-requires-2 c = record { setting = c.requires.setting; target = c.requires.target.tree; within = cleared_buffers 60000 c.requires.target.tree.short (omega arith) }

pub finish-requires-2 : goal.finish-requires-2
finish-requires-2 c = record { setting = c.requires.setting; reading = (_, c.requires.target, c.read_source-read-2.ensures) }

pub returns : goal.returns
returns c = c.finish-2.ensures _ c.requires.target c.read_source-read-2.ensures
