-- A check by one of the model's machines over the commands of a kind of document.
use Rattle.std.specs.Prelude.{◌≡◌, Bool, List, [], ℕ, ◌+◌, ◌≤◌, length}
use Rattle.std.proofs.Common.{sym, arith}
use Rattle.model.specs.Definitions.Basics.{Verdict, fails, Next, goes, stops}
use Rattle.model.proofs.Theorems.Reading.{ReadsAt, left_stops, left_goes, goes_within, left_ends}
use Rattle.checking.specs.Checks.{left_by, Ending}

module _
    {C S : Type 0}
    (commands : List ℕ → List C)
    (width : C → ℕ)
    (alien-one : C)
    (step : S → C → Next S)
    (complete : S → Bool)
    (stops_there : (s : S) → step s alien-one ≡ stops) where
  -- the verdict on what is left
  abbrev rest : List ℕ → S → ℕ → Verdict
  rest = left_by commands width step complete

  -- what the machine makes of a command: it goes on to a state, which leaves the verdict to what is behind the command; or that is the verdict
  abbrev pub Moved : List ℕ → ℕ → S → C → Next S → Type 0
  Moved bs at s c (goes t) = (at + width c ≤ length bs) × (rest bs t (at + width c) ≡ rest bs s at)
  Moved bs at s c stops = fails at ≡ rest bs s at

  pub moved : {bs : List ℕ} {at : ℕ} {c : C} (s : S) (m : Next S) → ReadsAt commands width alien-one bs at c → step s c ≡ m → Moved bs at s c m
  moved s (goes t) read e =
      (goes_within commands width alien-one step complete stops_there s t read e, sym (left_goes commands width alien-one step complete stops_there s t read e))
  moved s stops read e = sym (left_stops commands width alien-one step complete stops_there s read e)

  -- at the end the state decides
  pub ending : commands [] ≡ [] → (s : S) {may : Bool} → complete s ≡ may → Ending rest s may
  ending none s e bs = rw (← e) (sym (left_ends commands width alien-one step complete stops_there none bs s (length bs) (omega arith)))
