-- A check that runs one of the model's machines over a table's commands: what each command, and the end, makes of the verdict on what is
-- left.
use mathlib.Core.Path.{◌≡◌, refl, sym}
use mathlib.Core.Bool.{Bool}
use mathlib.Core.List.{List}
use Prim.Native.Nat.{ℕ, ◌+◌, ◌≤◌, ◌<◌}
use native.Mathlib.Omega.{arith}
use lib.ListN.{length}
use Rattle.table_form.specs.Left.{left_of}
use Rattle.model.specs.Definitions.Basics.{pick, passes, fails, Next, goes, stops}
use Rattle.model.specs.Definitions.Commands.{TableCommand, text_type, empty_type, sequence_type, choice_type, list_type, member, table_end, alien, table_command, table_commands, table_width}
use Rattle.model.proofs.Theorems.Reading.{raw_at, ReadsAt, table_reads, no_table_commands, left_stops, left_goes, goes_within, left_ends}

-- every command has a byte
pub some_width : (c : TableCommand) {w : ℕ} → w ≡ table_width c → 1 ≤ w
unfolding table_width
some_width text_type e = omega arith
some_width empty_type e = omega arith
some_width sequence_type e = omega arith
some_width (choice_type need) e = omega arith
some_width (list_type t) e = omega arith
some_width (member t) e = omega arith
some_width table_end e = omega arith
some_width alien e = omega arith

-- a machine over a table's commands, which refuses what is none
pub record Machine (S : Type 0) : Type 0 where
  pub step : S → TableCommand → Next S
  pub complete : S → Bool
  pub stops_there : (s : S) → step s alien ≡ stops

module _ {S : Type 0} (A : Machine S) where
  reads : {bs : List ℕ} {at : ℕ} {c : TableCommand} → at < length bs → c ≡ table_command (raw_at bs at) → ReadsAt table_commands table_width alien bs at c
  reads {bs} {at} h e = rw e (table_reads bs at h)

  -- a command that is refused is the verdict
  pub refused : (bs : List ℕ) {at : ℕ} {c : TableCommand} (s : S) → at < length bs → c ≡ table_command (raw_at bs at) → stops ≡ A.step s c
      → fails at ≡ left_of A.step A.complete bs s at
  refused bs s h e moved = sym (left_stops table_commands table_width alien A.step A.complete A.stops_there s (reads h e) (sym moved))

  -- what is no command is refused
  pub unread : (bs : List ℕ) {at : ℕ} (s : S) → at < length bs → alien ≡ table_command (raw_at bs at) → fails at ≡ left_of A.step A.complete bs s at
  unread bs s h e = refused bs s h e (sym (A.stops_there s))

  -- a command that is taken stays within the document, and leaves the verdict to what is behind it
  pub record Taken (bs : List ℕ) (at width : ℕ) (s t : S) : Type 0 where
    pub some : 1 ≤ width
    pub within : at + width ≤ length bs
    pub same : left_of A.step A.complete bs t (at + width) ≡ left_of A.step A.complete bs s at

  pub taken : {bs : List ℕ} {at width : ℕ} {c : TableCommand} (s t : S) → at < length bs → c ≡ table_command (raw_at bs at) → goes t ≡ A.step s c → width ≡ table_width c
      → Taken bs at width s t
  taken s t h e moved w = rw w
      (record {
        some = some_width _ refl;
        within = goes_within table_commands table_width alien A.step A.complete A.stops_there s t (reads h e) (sym moved);
        same = sym (left_goes table_commands table_width alien A.step A.complete A.stops_there s t (reads h e) (sym moved));
      })

  -- at the end of a document the state decides
  pub ended : {may : Bool} (s : S) → may ≡ A.complete s → (bs : List ℕ) → pick may passes (fails (length bs)) ≡ left_of A.step A.complete bs s (length bs)
  ended s e bs = rw e (sym (left_ends table_commands table_width alien A.step A.complete A.stops_there no_table_commands bs s (length bs) (omega arith)))
