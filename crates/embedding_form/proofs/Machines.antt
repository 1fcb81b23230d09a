-- The three machines stop at an alien command.
use mathlib.Core.Path.{◌≡◌, refl}
use mathlib.Core.Bool.{true}
use mathlib.Core.List.{[], ◌∷◌}
use Prim.Native.Nat.{ℕ, zero, suc}
use Rattle.model.specs.Definitions.Basics.{stops}
use Rattle.model.specs.Definitions.Commands.{EmbeddingCommand, maps_to, path, step, embedding_end, alien_e}
use Rattle.model.specs.Definitions.Table.{Table}
use Rattle.embedding_form.proofs.Turns.{Machine}
use Rattle.model.specs.Definitions.EmbeddingChecks.{EmbeddingState, due, embedding_ended, embedding_step, embedding_complete, step_count, Reached, path_step}

pub form_stops : (s : EmbeddingState) → embedding_step s alien_e ≡ stops
unfolding embedding_step
form_stops (due zero [] on) = refl
form_stops (due zero (n ∷ ns) on) = refl
form_stops (due (suc k) ns on) = refl
form_stops embedding_ended = refl

-- nothing may stand behind the end
pub ended_stops : (c : EmbeddingCommand) → embedding_step embedding_ended c ≡ stops
unfolding embedding_step
ended_stops (maps_to t) = refl
ended_stops path = refl
ended_stops (step p) = refl
ended_stops embedding_end = refl
ended_stops alien_e = refl

pub count_stops : (n : ℕ) → step_count n alien_e ≡ stops
unfolding step_count
count_stops n = refl

pub reach_stops : (T : Table) (r : Reached) → path_step T r alien_e ≡ stops
unfolding path_step
reach_stops T r = refl

-- the machine of check 2
abbrev pub form_machine : Machine EmbeddingState
form_machine = record { next = embedding_step; complete = embedding_complete; stops_there = form_stops }

-- the machine of check 3
abbrev pub count_machine : Machine ℕ
count_machine = record { next = step_count; complete = λ n. true; stops_there = count_stops }

-- the machine of check 4
abbrev pub reach_machine : Table → Machine Reached
reach_machine T = record { next = path_step T; complete = λ r. true; stops_there = reach_stops T }
