-- A check that runs one of the model's machines over an embedding's commands: what each command, and the end, makes of the verdict on
-- what is left.
use mathlib.Core.Path.{◌≡◌, sym}
use mathlib.Core.Bool.{Bool}
use mathlib.Core.List.{List}
use Prim.Native.Nat.{ℕ, ◌+◌, ◌≤◌, ◌<◌}
use native.Mathlib.Omega.{arith}
use lib.ListN.{length}
use Rattle.embedding_form.specs.Left.{left_of}
use Rattle.model.specs.Definitions.Basics.{pick, passes, fails, Next, goes, stops}
use Rattle.model.specs.Definitions.Commands.{EmbeddingCommand, maps_to, path, step, embedding_end, alien_e, embedding_command, embedding_commands, embedding_width}
use Rattle.model.proofs.Theorems.Reading.{raw_at, ReadsAt, left_stops, left_goes, goes_within, left_ends, embedding_reads, no_embedding-commands}

-- a command takes a byte or two
pub some_width : (m : EmbeddingCommand) → 0 < embedding_width m
unfolding embedding_width
some_width (maps_to t) = omega arith
some_width path = omega arith
some_width (step p) = omega arith
some_width embedding_end = omega arith
some_width alien_e = omega arith

-- a machine over an embedding's commands, which refuses what is none
pub record Machine (S : Type 0) : Type 0 where
  pub next : S → EmbeddingCommand → Next S
  pub complete : S → Bool
  pub stops_there : (s : S) → next s alien_e ≡ stops

module _ {S : Type 0} (A : Machine S) where
  reads : {bs : List ℕ} {at : ℕ} {m : EmbeddingCommand} → at < length bs → m ≡ embedding_command (raw_at bs at) → ReadsAt embedding_commands embedding_width alien_e bs at m
  reads {bs} {at} h e = rw e (embedding_reads bs at h)

  -- a command that is refused is the verdict
  pub refused : (bs : List ℕ) {at : ℕ} {m : EmbeddingCommand} (s : S) → at < length bs → m ≡ embedding_command (raw_at bs at) → stops ≡ A.next s m
      → fails at ≡ left_of A.next A.complete bs s at
  refused bs s h e moved = sym (left_stops embedding_commands embedding_width alien_e A.next A.complete A.stops_there s (reads h e) (sym moved))

  -- what is no command is refused
  pub unread : (bs : List ℕ) {at : ℕ} (s : S) → at < length bs → alien_e ≡ embedding_command (raw_at bs at) → fails at ≡ left_of A.next A.complete bs s at
  unread bs s h e = refused bs s h e (sym (A.stops_there s))

  -- a command that is taken stays within the document, and leaves the verdict to what is behind it
  pub record Taken (bs : List ℕ) (at width : ℕ) (s t : S) : Type 0 where
    pub some : 1 ≤ width
    pub within : at + width ≤ length bs
    pub same : left_of A.next A.complete bs t (at + width) ≡ left_of A.next A.complete bs s at

  pub taken : {bs : List ℕ} {at width : ℕ} {m : EmbeddingCommand} (s t : S) → at < length bs → m ≡ embedding_command (raw_at bs at) → goes t ≡ A.next s m → width ≡ embedding_width m
      → Taken bs at width s t
  taken {m = m} s t h e moved w =
      let some : 0 < embedding_width m = some_width m in
      rw w
      record {
        some = omega arith;
        within = goes_within embedding_commands embedding_width alien_e A.next A.complete A.stops_there s t (reads h e) (sym moved);
        same = sym (left_goes embedding_commands embedding_width alien_e A.next A.complete A.stops_there s t (reads h e) (sym moved));
      }

  -- at the end of a document the state decides
  pub ended : {may : Bool} (s : S) → may ≡ A.complete s → (bs : List ℕ) → pick may passes (fails (length bs)) ≡ left_of A.next A.complete bs s (length bs)
  ended s e bs = rw e (sym (left_ends embedding_commands embedding_width alien_e A.next A.complete A.stops_there no_embedding-commands bs s (length bs) (omega arith)))
