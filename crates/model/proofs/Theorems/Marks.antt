-- What the mark of a check by a machine says, for checks 2 to 5 and 11 of all three kinds of document (`mark_exactly`): the bytes before
-- it are commands that the machine takes, one after the other, and the command that stands at it is refused; or nothing stands
-- there, and the document may not end so.
use Rattle.std.specs.Prelude.{◌≡◌, Bool, ◌↔◌, take, drop}
use Rattle.std.proofs.Math.Path.{refl, ap}
use Rattle.std.proofs.Common.{sym, ◌∙◌, subst, arith, add-zero, zero-add, suc-add, add_assoc}
use Rattle.std.proofs.Math.Bool.{true, false}
use mathlib.Core.List.{List, [], ◌∷◌, ◌++◌, map}
use Prim.Native.Nat.{ℕ, zero, suc, ◌+◌}
use Rattle.std.proofs.Math.ListN.{length, length-append}
use Rattle.model.specs.Definitions.Basics.{pick, Verdict, passes, fails, Next, goes, stops, proceed, run, followed, reach}
use Rattle.model.specs.Definitions.Commands.{Command, bare, paired, cut, takes_operand, last_command, first_command, commands}
use Rattle.model.specs.Definitions.Marks.{Stopped, MarkOf}
use Rattle.model.proofs.Theorems.Tools.{one_plus}
use Rattle.model.proofs.Theorems.Runs.{goes_stops, passes_fails}
use Rattle.model.proofs.Theorems.Bytes.{raw_of, bare_first, Spelling, taken_told}

-- a byte with its operand is a command of its own, whatever follows
paired_first : (b t : ℕ) (rest : List ℕ) → takes_operand b ≡ true → commands (b ∷ t ∷ rest) ≡ paired b t ∷ commands rest
unfolding commands first_command
paired_first b t rest e = rw e

-- a byte at the end whose operand is missing
cut_first : (b : ℕ) → takes_operand b ≡ true → commands (b ∷ []) ≡ cut b ∷ []
unfolding commands last_command
cut_first b e = rw e

-- the first bytes, with any number of those that follow them
take_past : (xs : List ℕ) (o : ℕ) (ys : List ℕ) → take (length xs + o) (xs ++ ys) ≡ xs ++ take o ys
take_past [] o ys = rw zero-add
take_past (x ∷ xs) o ys = rw suc-add (ap (λ (l : List ℕ). x ∷ l) (take_past xs o ys))

drop_past : (xs : List ℕ) (o : ℕ) (ys : List ℕ) → drop (length xs + o) (xs ++ ys) ≡ drop o ys
drop_past [] o ys = rw zero-add
drop_past (x ∷ xs) o ys = rw suc-add (drop_past xs o ys)

take-nil : (o : ℕ) → take {A = ℕ} o [] ≡ []
take-nil zero = refl
take-nil (suc o) = refl

two_plus : (j : ℕ) → 2 + j ≡ suc (suc j)
two_plus j = omega arith

module _ {C S : Type 0} {classify : Command → C} {width : C → ℕ} {spell : C → List ℕ} {alien : C} (sp : Spelling classify width spell alien)
    (step : S → C → Next S) (alien-stops : (s : S) → step s alien ≡ stops) (complete : S → Bool) where
  abbrev read : List ℕ → List C
  read bs = map classify (commands bs)

  abbrev verdict : S → ℕ → List ℕ → Verdict
  verdict s at bs = run width step complete s at (read bs)

  abbrev Marked : S → List ℕ → ℕ → Type 0
  Marked = MarkOf read step complete

  -- a machine stops where it is, and fails there
  fails_here : (s : S) (at : ℕ) (cs : List C) → Stopped step complete s cs → run width step complete s at cs ≡ fails at
  unfolding run proceed pick
  fails_here s at [] e = rw e
  fails_here s at (c ∷ cs) e = rw e

  -- a taken command is as wide as its bytes are many
  taken_width : (d : Command) {s next : S} → step s (classify d) ≡ goes next → width (classify d) ≡ length (raw_of d)
  taken_width d e = sym (sp.as_wide (classify d)) ∙ ap length (taken_told sp step alien-stops d e)

  mark_here : (s : S) (bs : List ℕ) → Stopped step complete s (read bs) → Marked s bs 0
  unfolding commands reach
  mark_here s bs e = record { within = omega arith; state = s; before_taken = refl; stopped_there = e }

  -- A command d before a document whose mark is known: the machine takes it, so the mark is that many bytes further on.
  module _ (d : Command) (first : (xs : List ℕ) → commands (raw_of d ++ xs) ≡ d ∷ commands xs) (s next : S) (e : step s (classify d) ≡ goes next) where
    mark-behind : (rest : List ℕ) (o : ℕ) → Marked next rest o → Marked s (raw_of d ++ rest) (length (raw_of d) + o)
    unfolding reach followed
    mark-behind rest o m =
        record {
          within = rw length-append (omega (arith, m.within));
          state = m.state;
          before_taken = rw (take_past (raw_of d) o rest, first (take o rest), e) m.before_taken;
          stopped_there = rw (drop_past (raw_of d) o rest) m.stopped_there;
        }

    mark-ahead : (rest : List ℕ) (o : ℕ) → Marked s (raw_of d ++ rest) (length (raw_of d) + o) → Marked next rest o
    unfolding reach followed
    mark-ahead rest o m =
        record {
          within = let w = rw length-append at m.within in omega (arith, w);
          state = m.state;
          before_taken = rw (take_past (raw_of d) o rest, first (take o rest), e) at m.before_taken;
          stopped_there = rw (drop_past (raw_of d) o rest) at m.stopped_there;
        }

    verdict-behind : (rest : List ℕ) (at : ℕ) → verdict s at (raw_of d ++ rest) ≡ verdict next (at + length (raw_of d)) rest
    unfolding run proceed
    verdict-behind rest at = rw (first rest, e, taken_width d e)

  -- where a check fails, it marks so
  abbrev Finds : S → ℕ → List ℕ → ℕ → Type 0
  Finds s at bs p = (o : ℕ) × (p ≡ at + o) × Marked s bs o

  found_here : (s : S) (at : ℕ) (bs : List ℕ) {p : ℕ} → Stopped step complete s (read bs) → verdict s at bs ≡ fails p → Finds s at bs p
  found_here s at bs {p} here e =
      let same : fails at ≡ fails p = sym (fails_here s at (read bs) here) ∙ e in
      let is : p ≡ at = cc in
      (0, is ∙ sym (add-zero at), mark_here s bs here)

  found_behind : (d : Command) → ((xs : List ℕ) → commands (raw_of d ++ xs) ≡ d ∷ commands xs) → (rest : List ℕ)
      → ((s : S) (at p : ℕ) → verdict s at rest ≡ fails p → Finds s at rest p) → (s : S) (at p : ℕ) → verdict s at (raw_of d ++ rest) ≡ fails p → Finds s at (raw_of d ++ rest) p
  found_behind d first rest later s at p e = go (step s (classify d)) refl
    where
      go : (n : Next S) → step s (classify d) ≡ n → Finds s at (raw_of d ++ rest) p
      go (goes next) q =
          let found = later next (at + length (raw_of d)) p (sym (verdict-behind d first s next q rest at) ∙ e) in
          (length (raw_of d) + found.0, found.1 ∙ add_assoc at (length (raw_of d)) found.0, mark-behind d first s next q rest found.0 found.2)
      go stops q = found_here s at (raw_of d ++ rest) (rw (first rest) q) e

  -- a byte whose operand is missing is refused
  cut_stops : (b : ℕ) (s : S) → takes_operand b ≡ true → Stopped step complete s (read (b ∷ []))
  cut_stops b s e = rw (cut_first b e, sp.cut_alien b) (alien-stops s)

  -- nothing stands here
  found_end : (s : S) (at : ℕ) {p : ℕ} → verdict s at [] ≡ fails p → (b : Bool) → complete s ≡ b → Finds s at [] p
  unfolding commands run pick
  found_end s at e true q = passes_fails {v = pick (complete s) passes (fails at)} (rw q) e
  found_end s at e false q = found_here s at [] q e

  fails_marks : (bs : List ℕ) (s : S) (at p : ℕ) → verdict s at bs ≡ fails p → Finds s at bs p
  unfolding raw_of
  fails_marks [] s at p e = found_end s at e (complete s) refl
  fails_marks (b ∷ []) s at p e = go (takes_operand b) refl (fails_marks [])
    where
      go : (operand : Bool) → takes_operand b ≡ operand → ((s : S) (at p : ℕ) → verdict s at [] ≡ fails p → Finds s at [] p) → Finds s at (b ∷ []) p
      go true q none = found_here s at (b ∷ []) (cut_stops b s q) e
      go false q none = found_behind (bare b) (λ xs. bare_first b xs q) [] none s at p e
  fails_marks (b ∷ t ∷ rest) s at p e = go (takes_operand b) refl (fails_marks rest) (fails_marks (t ∷ rest))
    where
      go : (operand : Bool) → takes_operand b ≡ operand → ((s : S) (at p : ℕ) → verdict s at rest ≡ fails p → Finds s at rest p)
          → ((s : S) (at p : ℕ) → verdict s at (t ∷ rest) ≡ fails p → Finds s at (t ∷ rest) p) → Finds s at (b ∷ t ∷ rest) p
      go true q both one = found_behind (paired b t) (λ xs. paired_first b t xs q) rest both s at p e
      go false q both one = found_behind (bare b) (λ xs. bare_first b xs q) (t ∷ rest) one s at p e

  -- and what is marked so is where it fails
  abbrev Fails : List ℕ → Type 0
  Fails bs = (s : S) (at o : ℕ) → Marked s bs o → verdict s at bs ≡ fails (at + o)

  -- at the start of what is left
  marked_here : (bs : List ℕ) (s : S) (at : ℕ) → Marked s bs 0 → verdict s at bs ≡ fails (at + 0)
  unfolding commands reach
  marked_here bs s at m =
      let same : s ≡ m.state = let taken : goes s ≡ goes m.state = m.before_taken in cc in
      rw (add-zero at) (fails_here s at (read bs) (subst (λ (z : S). Stopped step complete z (read bs)) (sym same) m.stopped_there))

  -- behind a command
  marked_behind : (d : Command) → ((xs : List ℕ) → commands (raw_of d ++ xs) ≡ d ∷ commands xs) → (rest : List ℕ) → Fails rest
      → (s : S) (at o : ℕ) → Marked s (raw_of d ++ rest) (length (raw_of d) + o) → verdict s at (raw_of d ++ rest) ≡ fails (at + (length (raw_of d) + o))
  unfolding reach followed
  marked_behind d first rest later s at o m = go (step s (classify d)) refl
    where
      go : (n : Next S) → step s (classify d) ≡ n → verdict s at (raw_of d ++ rest) ≡ fails (at + (length (raw_of d) + o))
      go (goes next) q =
          verdict-behind d first s next q rest at ∙ later next (at + length (raw_of d)) o (mark-ahead d first s next q rest o m)
          ∙ ap (λ (n : ℕ). fails n) (add_assoc at (length (raw_of d)) o)
      go stops q =
          let refused : reach step s (read (take (length (raw_of d) + o) (raw_of d ++ rest))) ≡ stops = rw (take_past (raw_of d) o rest, first (take o rest), q) in
          goes_stops m.before_taken refused

  -- a mark doesn't stand between a command and its operand
  not_inside {ℓ} : {X : Type ℓ} (b : ℕ) (rest : List ℕ) (s : S) (o : ℕ) → takes_operand b ≡ true → take o (b ∷ rest) ≡ b ∷ [] → Marked s (b ∷ rest) o → X
  unfolding reach followed
  not_inside b rest s o e only m =
      let refused : reach step s (read (take o (b ∷ rest))) ≡ stops = rw (only, cut_first b e, sp.cut_alien b, alien-stops s) in
      goes_stops m.before_taken refused

  marks_fail : (bs : List ℕ) → Fails bs
  unfolding raw_of
  marks_fail [] s at zero m = marked_here [] s at m
  marks_fail [] s at (suc o) m = absurd (omega (arith, m.within))
  marks_fail (b ∷ []) s at zero m = marked_here (b ∷ []) s at m
  marks_fail (b ∷ []) s at (suc o) m = go (takes_operand b) refl (marks_fail [])
    where
      go : (operand : Bool) → takes_operand b ≡ operand → Fails [] → verdict s at (b ∷ []) ≡ fails (at + suc o)
      go true q none = not_inside b [] s (suc o) q (ap (λ (l : List ℕ). b ∷ l) (take-nil o)) m
      go false q none = rw (← one_plus o) (marked_behind (bare b) (λ xs. bare_first b xs q) [] none s at o (rw (one_plus o) m))
  marks_fail (b ∷ t ∷ rest) s at zero m = marked_here (b ∷ t ∷ rest) s at m
  marks_fail (b ∷ t ∷ rest) s at (suc zero) m = go (takes_operand b) refl (marks_fail (t ∷ rest))
    where
      go : (operand : Bool) → takes_operand b ≡ operand → Fails (t ∷ rest) → verdict s at (b ∷ t ∷ rest) ≡ fails (at + 1)
      go true q one = not_inside b (t ∷ rest) s 1 q refl m
      go false q one = marked_behind (bare b) (λ xs. bare_first b xs q) (t ∷ rest) one s at 0 m
  marks_fail (b ∷ t ∷ rest) s at (suc (suc o)) m = go (takes_operand b) refl (marks_fail rest) (marks_fail (t ∷ rest))
    where
      go : (operand : Bool) → takes_operand b ≡ operand → Fails rest → Fails (t ∷ rest) → verdict s at (b ∷ t ∷ rest) ≡ fails (at + suc (suc o))
      go true q both one = rw (← two_plus o) (marked_behind (paired b t) (λ xs. paired_first b t xs q) rest both s at o (rw (two_plus o) m))
      go false q both one = rw (← one_plus (suc o)) (marked_behind (bare b) (λ xs. bare_first b xs q) (t ∷ rest) one s at (suc o) (rw (one_plus (suc o)) m))

  -- A check by a machine fails at an offset exactly where that is its mark.
  pub mark_exactly : (start : S) (bs : List ℕ) (at : ℕ) → (verdict start 0 bs ≡ fails at) ↔ Marked start bs at
  mark_exactly start bs at = (
    λ e. let found = fails_marks bs start 0 at e in subst (Marked start bs) (sym (found.1 ∙ zero-add found.0)) found.2,
    λ m. marks_fail bs start 0 at m ∙ ap (λ (n : ℕ). fails n) (zero-add at),
  )
