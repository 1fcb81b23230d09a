-- Machines over commands, without offsets: where a run ends, and what a verdict says of that.
use Rattle.std.specs.Prelude.{◌≡◌, Bool, ℕ, ◌+◌}
use Rattle.std.proofs.Math.Path.{refl, sym, ap}
use Rattle.std.proofs.Common.{◌∙◌, arith, add-zero, zero-add}
use Rattle.std.proofs.Math.Bool.{true, false}
use mathlib.Core.List.{List, [], ◌∷◌, ◌++◌}
use Rattle.std.proofs.Math.Nat.{add_assoc}
use Rattle.model.specs.Definitions.Basics.{pick, Verdict, passes, fails, Next, goes, stops, proceed, run, followed, reach, goes_if}

-- ---- answers of a machine

-- a refusal is no next state, and a failure is no pass
pub goes_stops {ℓ} : {S : Type 0} {X : Type ℓ} {s : S} {n : Next S} → n ≡ goes s → n ≡ stops → X
goes_stops {s = s} {n} p q = let z : ◌≡◌ {A = ℕ} 0 1 = cc in absurd (omega arith)

pub passes_fails {ℓ} : {X : Type ℓ} {at : ℕ} {v : Verdict} → v ≡ passes → v ≡ fails at → X
passes_fails {at = at} {v} p q = let z : ◌≡◌ {A = ℕ} 0 1 = cc in absurd (omega arith)

-- a tested step that went on: the test passed
pub followed_if : {S : Type 0} (b : Bool) (s : S) (onward : S → Next S) {m : S} → followed (goes_if b s) onward ≡ goes m → (b ≡ true) × (onward s ≡ goes m)
unfolding goes_if followed
followed_if true s onward {m} e = (refl, e)
followed_if false s onward {m} e = goes_stops e refl

-- ---- runs

module _ {C S : Type 0} (step : S → C → Next S) where
  -- a run over xs and then ys goes through the state after xs
  pub reach_append : (s : S) (xs ys : List C) {m : S} → reach step s xs ≡ goes m → reach step s (xs ++ ys) ≡ reach step m ys
  unfolding reach followed
  reach_append s [] ys {m} e = let same : s ≡ m = cc in rw same
  reach_append s (c ∷ xs) ys {m} e = go (step s c) refl (λ next h. reach_append next xs ys h)
    where
      go : (n : Next S) → step s c ≡ n → ((next : S) → reach step next xs ≡ goes m → reach step next (xs ++ ys) ≡ reach step m ys)
          → reach step s (c ∷ xs ++ ys) ≡ reach step m ys
      go (goes next) q later = rw q (later next (rw q at e))
      go stops q later = goes_stops e (rw q)

  -- and a run that ends went through some state after xs
  pub reach_front : (s : S) (xs ys : List C) {last : S} → reach step s (xs ++ ys) ≡ goes last → (m : S) × (reach step s xs ≡ goes m) × (reach step m ys ≡ goes last)
  unfolding reach followed
  reach_front s [] ys {last} e = (s, refl, e)
  reach_front s (c ∷ xs) ys {last} e = go (step s c) refl (λ next h. reach_front next xs ys h)
    where
      go : (n : Next S) → step s c ≡ n
          → ((next : S) → reach step next (xs ++ ys) ≡ goes last → (m : S) × (reach step next xs ≡ goes m) × (reach step m ys ≡ goes last))
          → (m : S) × (reach step s (c ∷ xs) ≡ goes m) × (reach step m ys ≡ goes last)
      go (goes next) q later = rw q (later next (rw q at e))
      go stops q later = goes_stops e (rw q)

-- the number of bytes of a list of commands
unfoldable pub width_of : {C : Type 0} → (C → ℕ) → List C → ℕ
width_of width [] = 0
width_of width (c ∷ cs) = width c + width_of width cs

pub width_append : {C : Type 0} (width : C → ℕ) (xs ys : List C) → width_of width (xs ++ ys) ≡ width_of width xs + width_of width ys
unfolding width_of
width_append width [] ys = sym (zero-add (width_of width ys))
width_append width (x ∷ xs) ys = rw (width_append width xs ys, add_assoc)

module _ {C S : Type 0} (width : C → ℕ) (step : S → C → Next S) (complete : S → Bool) where
  -- a run passes where it reaches a state that may be the last
  pub run_passes : (s : S) (at : ℕ) (cs : List C) → run width step complete s at cs ≡ passes
      → (last : S) × (reach step s cs ≡ goes last) × (complete last ≡ true)
  unfolding run proceed reach followed pick
  run_passes s at [] e = go (complete s) refl
    where
      go : (b : Bool) → complete s ≡ b → (last : S) × (goes s ≡ goes last) × (complete last ≡ true)
      go true q = (s, refl, q)
      go false q = passes_fails {at = at} e (rw q)
  run_passes s at (c ∷ cs) e = go (step s c) refl (λ next. run_passes next (at + width c) cs)
    where
      go : (n : Next S) → step s c ≡ n
          → ((next : S) → run width step complete next (at + width c) cs ≡ passes → (last : S) × (reach step next cs ≡ goes last) × (complete last ≡ true))
          → (last : S) × (reach step s (c ∷ cs) ≡ goes last) × (complete last ≡ true)
      go (goes next) q later = rw q (later next (rw q at e))
      go stops q later = passes_fails {at = at} e (rw q)

  pub passes_run : (s : S) (at : ℕ) (cs : List C) {last : S} → reach step s cs ≡ goes last → complete last ≡ true
      → run width step complete s at cs ≡ passes
  unfolding run proceed reach followed pick
  passes_run s at [] {last} e h = let same : s ≡ last = cc in rw (same, h)
  passes_run s at (c ∷ cs) {last} e h = go (step s c) refl (λ next g. passes_run next (at + width c) cs g h)
    where
      go : (n : Next S) → step s c ≡ n → ((next : S) → reach step next cs ≡ goes last → run width step complete next (at + width c) cs ≡ passes)
          → run width step complete s at (c ∷ cs) ≡ passes
      go (goes next) q later = rw q (later next (rw q at e))
      go stops q later = goes_stops e (rw q)

-- a command that a run refuses: what stands before it, what after, and the state in which it is refused
pub record Refused {C S : Type 0} (width : C → ℕ) (step : S → C → Next S) (s : S) (offset : ℕ) (cs : List C) : Type 0 where
  pub before : List C
  pub command : C
  pub behind : List C
  pub parts : cs ≡ before ++ command ∷ behind
  pub place : offset ≡ width_of width before
  pub state : S
  pub reached : reach step s before ≡ goes state
  pub refused : step state command ≡ stops

module _ {C S : Type 0} (width : C → ℕ) (step : S → C → Next S) where
  -- a run of a machine that may end anywhere fails at the command that it refuses
  pub run_fails : (s : S) (at p : ℕ) (cs : List C) → run width step (λ (last : S). true) s at cs ≡ fails p
      → (offset : ℕ) × (p ≡ at + offset) × Refused width step s offset cs
  unfolding run proceed reach followed pick width_of
  run_fails s at p [] e = passes_fails refl e
  run_fails s at p (c ∷ cs) e = go (step s c) refl (λ next. run_fails next (at + width c) p cs)
    where
      go : (n : Next S) → step s c ≡ n
          → ((next : S) → run width step (λ (last : S). true) next (at + width c) cs ≡ fails p
          → (offset : ℕ) × (p ≡ at + width c + offset) × Refused width step next offset cs)
          → (offset : ℕ) × (p ≡ at + offset) × Refused width step s offset (c ∷ cs)
      go (goes next) q later =
          let found : (offset : ℕ) × (p ≡ at + width c + offset) × Refused width step next offset cs = later next (rw q at e) in
          let r : Refused width step next found.0 cs = found.2 in (
            width c + found.0,
            found.1 ∙ add_assoc at (width c) found.0,
            record {
              before = c ∷ r.before;
              command = r.command;
              behind = r.behind;
              parts = ap (λ (l : List C). c ∷ l) r.parts;
              place = ap (λ (n : ℕ). width c + n) r.place;
              state = r.state;
              reached = rw q r.reached;
              refused = r.refused;
            },
          )
      go stops q later =
          let here : fails at ≡ fails p = rw q at e in
          let same : p ≡ at = cc in (
            0,
            same ∙ sym (add-zero at),
            record {
              before = [];
              command = c;
              behind = cs;
              parts = refl;
              place = refl;
              state = s;
              reached = refl;
              refused = q;
            },
          )
