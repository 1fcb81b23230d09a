-- An output takes bytes: they are written one after the other.
use Rattle.std.specs.Prelude.{◌≡◌, refl, List, ◌++◌, ℕ, ◌+◌, ◌-◌, ◌≤◌, length}
use Rattle.std.proofs.Common.{sym, ◌∙◌, arith, add-zero, length-append}
use Rattle.writing.specs.Writing.{Writes}
use Rattle.writing.specs.Laws.{writes_then, writes-length}
use Rattle.filling.specs.Sinks.{SinkLaws}
use Rattle.filling.specs.declared.Writer.{Writer}

-- the bytes are written behind those before, into the same output
pub record WritesOn (old : Writer) (bs : List ℕ) (new : Writer) : Type 0 where
  pub writes : Writes old.out.now new.out.now old.at bs new.at
  pub same : new.out.ghost_name ≡ old.out.ghost_name

-- nothing is refused
abbrev pub never : Writer → List ℕ → Type 0
never w bs = ⊥

-- there is room behind those before
pub record RoomLeft (w : Writer) (bs : List ℕ) : Type 0 where
  pub room : w.at + length bs ≤ length w.out.now

abbrev pub bytes_left : Writer → ℕ
bytes_left w = length w.out.now - w.at

first_room : {w : Writer} {bs : List ℕ} (cs : List ℕ) → RoomLeft w (bs ++ cs) → RoomLeft w bs
first_room {w} {bs} cs fits = record { room = omega (arith, fits.room, length-append bs cs) }

later_room : {w v : Writer} {bs cs : List ℕ} → RoomLeft w (bs ++ cs) → WritesOn w bs v → RoomLeft v cs
later_room {w} {v} {bs} {cs} fits done = record { room = omega (arith, fits.room, length-append bs cs, done.writes.after, writes-length done.writes) }

fewer_left : {w v : Writer} {bs : List ℕ} → RoomLeft w bs → WritesOn w bs v → bytes_left v + length bs ≤ bytes_left w
fewer_left {w} {v} {bs} fits done = omega (arith, fits.room, done.writes.after, writes-length done.writes)

pub writer_laws : SinkLaws WritesOn never RoomLeft bytes_left
writer_laws =
    record {
      nothing = λ fits. record { writes = record { written = refl; after = sym (add-zero _) }; same = refl };
      both = λ first second. record { writes = writes_then first.writes second.writes; same = second.same ∙ first.same };
      first_refused = λ no cs. no;
      later_refused = λ w no. no;
      first_fits = first_room;
      later_fits = later_room;
      fewer = fewer_left;
    }

-- what is left behind the output's reference is what was written
pub left_behind : {old new : Writer} {bs out : List ℕ} → WritesOn old bs new → out ≡ new.out.now → Writes old.out.now out old.at bs new.at
left_behind w e = rw e w.writes
