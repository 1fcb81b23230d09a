-- What a turn of a check keeps, and what its end says, by the verdict on what is left of a document.
use Rattle.std.specs.Prelude.{◌≡◌, Bool, List, ℕ, ◌+◌, ◌≤◌, length, drop, Option, Some, None}
use Rattle.model.specs.Definitions.Basics.{pick, Verdict, passes, fails, Next, run}

module _ {S : Type 0} (fits : S → ℕ → Type 0) (rest : List ℕ → S → ℕ → Verdict) where
  -- a command that is taken leaves the verdict to what is behind it; one that is refused is the verdict
  abbrev pub Turn : List ℕ → ℕ → S → S → Option ℕ → Type 0
  Turn bs at s t None = fails at ≡ rest bs s at
  Turn bs at s t (Some width) = (1 ≤ width) × (at + width ≤ length bs) × fits t (at + width) × (rest bs t (at + width) ≡ rest bs s at)

module _ {S : Type 0} (rest : List ℕ → S → ℕ → Verdict) where
  -- at the end of a document the state decides
  abbrev pub Ending : S → Bool → Type 0
  Ending s may = (bs : List ℕ) → pick may passes (fails (length bs)) ≡ rest bs s (length bs)

-- the verdict on what is left by one of the model's machines over the commands of a kind of document
abbrev pub left_by : {C S : Type 0} → (List ℕ → List C) → (C → ℕ) → (S → C → Next S) → (S → Bool) → List ℕ → S → ℕ → Verdict
left_by commands width step complete bs s at = run width step complete s at (commands (drop at bs))
