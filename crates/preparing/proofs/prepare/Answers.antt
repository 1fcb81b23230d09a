use mathlib.Core.Path.{◌∙◌}
use native.Mathlib.Omega.{arith}
use Rattle.preparing.proofs.Going.{target_sound, progress_here, progress_on, filler_room, progress_fillers, progress_all}
use Rattle.preparing.proofs.prepare.Goals as goal

pub filler_rows-at-requires : goal.filler_rows-at-requires
filler_rows-at-requires c = record { sound = target_sound c.requires.ready; room = (omega (arith, filler_room _ _ _ c.requires.arrays.enough), c.requires.arrays.short, omega (arith, c.requires.arrays.long)); within = c.requires.arrays.within }

pub loop-s-init : goal.loop-s-init
loop-s-init c =
    (progress_here (progress_fillers c.requires.ready c.requires.arrays.enough c.filler_rows-at.ensures))

pub type_rows-at-requires : goal.type_rows-at-requires
type_rows-at-requires c =
    let inv = c.loop-s.invariant in
    let fillers = c.filler_rows-at.ensures.whole in
    record {
      next = record {
        makeable = record {
          ready = c.requires.ready;
          exists = omega (arith, c.types-types.ensures.0);
          small = omega (arith, c.requires.arrays.short, inv.whole.pool_length, fillers.pool_length);
          long = omega (arith, c.requires.arrays.long, inv.whole.places_length, fillers.places_length);
        };
        progress = progress_here inv;
      };
    }

pub loop-s-preserved : goal.loop-s-preserved
loop-s-preserved c = (progress_on c.loop-s.invariant c.type_rows-at.ensures)

pub shape_of-pool : goal.shape_of-pool
shape_of-pool c = c.loop-s.invariant.whole.pool_length ∙ c.filler_rows-at.ensures.whole.pool_length

pub shape_of-places : goal.shape_of-places
shape_of-places c = c.loop-s.invariant.whole.places_length ∙ c.filler_rows-at.ensures.whole.places_length

pub returns : goal.returns
returns c =
    let inv = c.loop-s.invariant in
    progress_all c.requires.ready (omega (arith, c.requires.arrays.long, c.filler_rows-at.ensures.whole.places_length)) (omega (arith, c.types-types.ensures.0)) inv
