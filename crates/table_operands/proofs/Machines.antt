-- The machines of checks 4 and 5. Each refuses a command that is no table's.
use mathlib.Core.Path.{◌≡◌, refl}
use mathlib.Core.Bool.{true}
use Prim.Native.Nat.{ℕ}
use Rattle.model.specs.Definitions.Basics.{stops}
use Rattle.model.specs.Definitions.Commands.{alien}
use Rattle.model.specs.Definitions.TableChecks.{names_type, Chosen, repeat_step}
use Rattle.table_form.proofs.Loop.{Machine}

pub names_stops : (types : ℕ) (u : Unit {0}) → names_type types u alien ≡ stops
unfolding names_type
names_stops types u = refl

-- check 4, in a table of so many types
abbrev pub names_machine : ℕ → Machine (Unit {0})
names_machine types = record { step = names_type types; complete = λ u. true; stops_there = names_stops types }

pub repeat_stops : (s : Chosen) → repeat_step s alien ≡ stops
unfolding repeat_step
repeat_stops s = refl

-- check 5
abbrev pub repeat_machine : Machine Chosen
repeat_machine = record { step = repeat_step; complete = λ s. true; stops_there = repeat_stops }
