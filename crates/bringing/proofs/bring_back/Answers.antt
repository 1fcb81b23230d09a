-- `bring_back` meets its contract: either pair of buffers is long enough.
use mathlib.Core.Path.{sym}
use Prim.Native.Nat.{ℕ}
use native.Mathlib.Omega.{arith}
use lib.ListN.{length-replicate}
use borrow.Author.Rules.{rules}
use Rattle.inverse.specs.Sources.{cleared_buffers}
use Rattle.bringing.proofs.bring_back.Goals as goal

pub slice_bounds-bring_through-end : goal.slice_bounds-bring_through-end
slice_bounds-bring_through-end c = sym (length-replicate {A = ℕ} 2048 0)

pub slice_bounds-bring_through-end-then-tr-le-SHORT : goal.slice_bounds-bring_through-end-then-tr-le-SHORT
slice_bounds-bring_through-end-then-tr-le-SHORT c = sym (length-replicate {A = ℕ} 2048 0)

pub bring_through-requires : goal.bring_through-requires
bring_through-requires c = record { setting = c.requires.setting; target = c.requires.target; within = cleared_buffers 2048 (search rules) (omega arith) }

pub returns-then-tr-le-SHORT : goal.returns-then-tr-le-SHORT
returns-then-tr-le-SHORT c = c.bring_through.ensures

pub slice_bounds-bring_through-end-2 : goal.slice_bounds-bring_through-end-2
slice_bounds-bring_through-end-2 c = sym (length-replicate {A = ℕ} 60000 0)

pub slice_bounds-bring_through-end-3 : goal.slice_bounds-bring_through-end-3
slice_bounds-bring_through-end-3 c = sym (length-replicate {A = ℕ} 60000 0)

pub bring_through-requires-2 : goal.bring_through-requires-2
bring_through-requires-2 c = record { setting = c.requires.setting; target = c.requires.target; within = cleared_buffers 60000 c.requires.target.short (omega arith) }

pub returns : goal.returns
returns c = c.bring_through-2.ensures
