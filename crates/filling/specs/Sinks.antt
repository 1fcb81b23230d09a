-- What takes bytes part by part, and the laws that it keeps.
use Rattle.std.specs.Prelude.{List, [], ◌++◌, ℕ, ◌+◌, ◌≤◌, length}

-- Bytes are taken or refused, where there is room for them, and `left` is how many can be taken at most.
pub record SinkLaws {S : Type 0} (Takes : S → List ℕ → S → Type 0) (Refuses Fits : S → List ℕ → Type 0) (left : S → ℕ) : Type 0 where
  -- where there is room, no bytes are taken
  pub nothing : {a : S} {bs : List ℕ} → Fits a bs → Takes a [] a
  -- what is taken part by part is taken as a whole
  pub both : {a b c : S} {bs cs : List ℕ} → Takes a bs b → Takes b cs c → Takes a (bs ++ cs) c
  -- what is refused in a part is refused as a whole
  pub first_refused : {a : S} {bs : List ℕ} → Refuses a bs → (cs : List ℕ) → Refuses a (bs ++ cs)
  pub later_refused : {a b : S} {bs cs : List ℕ} → Takes a bs b → Refuses b cs → Refuses a (bs ++ cs)
  -- room for the whole is room for the parts
  pub first_fits : {a : S} {bs : List ℕ} (cs : List ℕ) → Fits a (bs ++ cs) → Fits a bs
  pub later_fits : {a b : S} {bs cs : List ℕ} → Fits a (bs ++ cs) → Takes a bs b → Fits b cs
  -- what is taken leaves so many fewer
  pub fewer : {a b : S} {bs : List ℕ} → Fits a bs → Takes a bs b → left b + length bs ≤ left a
