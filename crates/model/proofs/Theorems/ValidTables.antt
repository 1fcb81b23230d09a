-- Valid tables and their bytes: a byte string is accepted as a table exactly where it is `table_bytes` of a valid table, and that
-- table is the one it is read to. Each of checks 2 to 5 is said exactly, by its own part of what is valid, of a table's bytes, and
-- checks 4 and 5 also of one type's.
use Rattle.std.specs.Prelude.{◌≡◌, refl, Bool, true, false, ◌||◌, List, [], ◌∷◌, ◌++◌, ◌↔◌, ℕ, zero, suc, ◌+◌, ◌*◌, ◌≤◌, ◌<◌, length, get_or, eqb, leb}
use Rattle.std.proofs.Common.{sym, ap, ◌∙◌, append-nil, arith, length-append, ltb-true, lt-ltb, le-leb, eqb-true}
use mathlib.Core.List.Memᴰ
use Rattle.std.proofs.Math.Option.{some}
use Rattle.model.specs.Definitions.Basics.{passes, Next, goes, stops, goes_if, run, pick, member_of, entry, followed, reach}
use Rattle.model.specs.Definitions.Commands.{needed, optional, TableCommand, text_type, empty_type, sequence_type, choice_type, list_type, member, table_end, alien, table_commands, table_width}
use Rattle.model.specs.Definitions.Table.{Kind, text, empty, sequence, choice, list, Table, kind_of, members_of, TableTail, with_command, table_tail, table_of}
use Rattle.model.specs.Definitions.Heights.{height_in, heights, height_of, has_instance, first_endless, endless_type}
use Rattle.model.specs.Definitions.TableChecks.{TableState, no_type, whole, members, table_ended, begins, joins, finishes, table_role, table_move, table_step, table_complete, table_form, max_types, max_members, TableCount, one_type_more, limit_step, table_limits, names_type, table_operands, Chosen, elsewhere, among, chooses, repeat_step, table_repeats}
use Rattle.model.specs.Definitions.Conformance.{Instance}
use Rattle.model.specs.Definitions.ValidTable.{ValidMembers, Distinct, ValidKind, ValidTable, member_bytes, kind_bytes, table_bytes}
use Rattle.model.specs.Definitions.Refusals.{sound, max_length, fits}
use Rattle.model.specs.Definitions.Entries.{judged_table}
use Rattle.model.proofs.Theorems.Facts.{SoundTable, All, all_none, all_more}
use Rattle.model.proofs.Theorems.Tools.{true_false, some_none}
use Rattle.model.proofs.Theorems.Runs.{goes_stops, run_passes, passes_run}
use Rattle.model.proofs.Theorems.Bytes.{encode_by, commands_encode, encode_commands}
use Rattle.model.proofs.Theorems.Spellings.{table_spelled, table_spelling}
use Rattle.model.proofs.Theorems.HeightLaws.{heights-length, instance_finite}
use Rattle.model.proofs.Theorems.FillerLaws.{instance_of}
use Rattle.model.proofs.Theorems.JudgedTables.{goes_if_lem, run_holds, all_at, all_from, least_members, Enough, Formed, move_begins, move_unknown, form_holds, Known, none_known, operands_hold, Unrepeated, no_more, one_more, IfChoice, repeats_hold, entry_once, table_checks, table_accepted, table_sound}

-- ---- a table as commands

-- the commands of members, then others
unfoldable members_then : List ℕ → List TableCommand → List TableCommand
members_then [] cs = cs
members_then (m ∷ ms) cs = member m ∷ members_then ms cs

-- the commands of a type, then others
unfoldable kind_then : Kind → List TableCommand → List TableCommand
kind_then text cs = text_type ∷ cs
kind_then empty cs = empty_type ∷ cs
kind_then (sequence ms) cs = sequence_type ∷ members_then ms cs
kind_then (choice need ms) cs = choice_type need ∷ members_then ms cs
kind_then (list m) cs = list_type m ∷ cs

-- the commands of a table
unfoldable table_commands_of : Table → List TableCommand
table_commands_of [] = table_end ∷ []
table_commands_of (κ ∷ T) = kind_then κ (table_commands_of T)

-- their bytes are the table's bytes
encode_members : (ms : List ℕ) (cs : List TableCommand) → encode_by table_spelled (members_then ms cs) ≡ member_bytes ms ++ encode_by table_spelled cs
unfolding members_then encode_by table_spelled member_bytes
encode_members [] cs = refl
encode_members (m ∷ ms) cs = rw (encode_members ms cs)

encode_kind : (κ : Kind) (cs : List TableCommand) → encode_by table_spelled (kind_then κ cs) ≡ kind_bytes κ ++ encode_by table_spelled cs
unfolding kind_then encode_by table_spelled kind_bytes
encode_kind text cs = refl
encode_kind empty cs = refl
encode_kind (sequence ms) cs = rw (encode_members ms cs)
encode_kind (choice needed ms) cs = rw (encode_members ms cs)
encode_kind (choice optional ms) cs = rw (encode_members ms cs)
encode_kind (list m) cs = refl

encode_table : (T : Table) → encode_by table_spelled (table_commands_of T) ≡ table_bytes T
unfolding table_commands_of encode_by table_spelled table_bytes
encode_table [] = refl
encode_table (κ ∷ T) = rw (encode_kind κ (table_commands_of T), encode_table T)

commands_of_table : (T : Table) → table_commands (table_bytes T) ≡ table_commands_of T
unfolding table_commands
commands_of_table T = ap table_commands (sym (encode_table T)) ∙ commands_encode table_spelling (table_commands_of T)

commands_of_kind : (κ : Kind) → table_commands (kind_bytes κ) ≡ kind_then κ []
unfolding table_commands encode_by
commands_of_kind κ = ap table_commands (sym (encode_kind κ [] ∙ append-nil (kind_bytes κ))) ∙ commands_encode table_spelling (kind_then κ [])

-- ---- reading what was written gives the table back

-- commands that say these types, and no member of the type before them
abbrev only_types : Table → TableTail
only_types T = record { members = []; kinds = T }

-- members are read into the type before them, and each type with its members
tail_members : (ms : List ℕ) (cs : List TableCommand) {T : Table} → table_tail cs ≡ only_types T
    → table_tail (members_then ms cs) ≡ record { members = ms; kinds = T }
unfolding members_then table_tail with_command
tail_members [] cs e = e
tail_members (m ∷ ms) cs e = rw (tail_members ms cs e)

tail_kind : (κ : Kind) (cs : List TableCommand) {T : Table} → table_tail cs ≡ only_types T → table_tail (kind_then κ cs) ≡ only_types (κ ∷ T)
unfolding kind_then table_tail with_command
tail_kind text cs e = rw e
tail_kind empty cs e = rw e
tail_kind (sequence ms) cs e = rw (tail_members ms cs e)
tail_kind (choice need ms) cs e = rw (tail_members ms cs e)
tail_kind (list m) cs e = rw e

tail_table : (T : Table) → table_tail (table_commands_of T) ≡ only_types T
unfolding table_commands_of table_tail with_command
tail_table [] = refl
tail_table (κ ∷ T) = tail_kind κ (table_commands_of T) (tail_table T)

-- so reading a table's bytes gives the table
tail_of_bytes : (T : Table) → table_tail (table_commands (table_bytes T)) ≡ only_types T
tail_of_bytes T = ap table_tail (commands_of_table T) ∙ tail_table T

pub table_of_bytes : (T : Table) → table_of (table_bytes T) ≡ T
unfolding table_of
table_of_bytes T = ap (λ (r : TableTail). r.kinds) (tail_of_bytes T)

-- and reading one type's own bytes gives that type
tail_of_kind : (κ : Kind) → table_tail (table_commands (kind_bytes κ)) ≡ only_types (κ ∷ [])
unfolding table_tail
tail_of_kind κ = ap table_tail (commands_of_kind κ) ∙ tail_kind κ [] refl

-- ---- bytes of the right form are those of a table

-- the commands left from a state on, by what they say
abbrev left : TableState → TableTail → List TableCommand
left no_type r = table_commands_of r.kinds
left whole r = table_commands_of r.kinds
left (members k) r = members_then r.members (table_commands_of r.kinds)
left table_ended r = []

-- what is left where a type begins, a member joins and the table ends
left_begins : (s first : TableState) {then : TableState} → table_move s (begins first) ≡ goes then → (T : Table) → left s (only_types T) ≡ table_commands_of T
unfolding table_move members_then
left_begins no_type first e T = refl
left_begins whole first e T = refl
left_begins (members zero) first e T = refl
left_begins (members (suc k)) first e T = goes_stops e refl
left_begins table_ended first e T = goes_stops e refl

left_joins : (s : TableState) {then : TableState} → table_move s joins ≡ goes then → (t : ℕ) (r : TableTail)
    → left s (with_command (member t) r) ≡ member t ∷ left then r
unfolding table_move members_then with_command
left_joins no_type e t r = goes_stops e refl
left_joins whole e t r = goes_stops e refl
left_joins (members zero) {then} e t r = let same : then ≡ members zero = cc in rw same
left_joins (members (suc k)) {then} e t r = let same : then ≡ members k = cc in rw same
left_joins table_ended e t r = goes_stops e refl

left_finishes : (s : TableState) {then : TableState} → table_move s finishes ≡ goes then → (then ≡ table_ended) × (left s (only_types []) ≡ table_end ∷ [])
unfolding table_move members_then table_commands_of
left_finishes no_type e = goes_stops e refl
left_finishes whole e = (cc, refl)
left_finishes (members zero) e = (cc, refl)
left_finishes (members (suc k)) e = goes_stops e refl
left_finishes table_ended e = goes_stops e refl

-- a command that begins a type of kind κ, where the type's other commands are left in its first state
begins_left : (s first then : TableState) (c : TableCommand) (κ : Kind) (cs : List TableCommand) → table_move s (begins first) ≡ goes then
    → cs ≡ left then (table_tail cs) → kind_then κ (table_commands_of (table_tail cs).kinds) ≡ c ∷ left first (table_tail cs)
    → c ∷ cs ≡ left s (only_types (κ ∷ (table_tail cs).kinds))
unfolding table_commands_of
begins_left s first then c κ cs e h kind =
    let later : cs ≡ left first (table_tail cs) = rw (move_begins s first e).0 h in
    ap (λ (l : List TableCommand). c ∷ l) later ∙ sym kind ∙ sym (left_begins s first e (κ ∷ (table_tail cs).kinds))

-- one command earlier, what is left is what the commands say
left_step : (s then : TableState) (c : TableCommand) (cs : List TableCommand) → table_step s c ≡ goes then
    → cs ≡ left then (table_tail cs) → c ∷ cs ≡ left s (table_tail (c ∷ cs))
unfolding table_step table_role table_tail with_command kind_then
left_step s then text_type cs e h = begins_left s _ then text_type text cs e h refl
left_step s then empty_type cs e h = begins_left s _ then empty_type empty cs e h refl
left_step s then sequence_type cs e h = begins_left s _ then sequence_type (sequence (table_tail cs).members) cs e h refl
left_step s then (choice_type needed) cs e h =
    begins_left s _ then (choice_type needed) (choice needed (table_tail cs).members) cs e h refl
left_step s then (choice_type optional) cs e h =
    begins_left s _ then (choice_type optional) (choice optional (table_tail cs).members) cs e h refl
left_step s then (list_type t) cs e h = begins_left s _ then (list_type t) (list t) cs e h refl
left_step s then (member t) cs e h = ap (λ (l : List TableCommand). member t ∷ l) h ∙ sym (left_joins s e t (table_tail cs))
left_step s then table_end cs e h =
    let ended = left_finishes s e in
    let over : cs ≡ [] = rw ended.0 at h in
    rw over (sym ended.1)
left_step s then alien cs e h = move_unknown s e

left_end : (s : TableState) → table_complete s ≡ true → [] ≡ left s (table_tail [])
unfolding table_complete
left_end no_type e = true_false e refl
left_end whole e = true_false e refl
left_end (members k) e = true_false e refl
left_end table_ended e = refl

-- commands of the right form are those of the table that they write
form_commands : (bs : List ℕ) → table_form bs ≡ passes → table_commands bs ≡ table_commands_of (table_of bs)
unfolding table_form table_of
form_commands bs e = run_holds table_width table_step table_complete (λ s cs. cs ≡ left s (table_tail cs)) left_end left_step no_type 0 (table_commands bs) e

-- the form takes nothing alien
pub table_alien_stops : (s : TableState) → table_step s alien ≡ stops
unfolding table_step table_role table_move
table_alien_stops no_type = refl
table_alien_stops whole = refl
table_alien_stops (members zero) = refl
table_alien_stops (members (suc k)) = refl
table_alien_stops table_ended = refl

-- and its bytes are those of that table
pub accepted_table_written : (bs : List ℕ) → table_form bs ≡ passes → bs ≡ table_bytes (table_of bs)
unfolding table_form table_commands
accepted_table_written bs e =
    let reached = run_passes table_width table_step table_complete no_type 0 (table_commands bs) e in
    sym (encode_commands table_spelling table_step table_alien_stops no_type bs reached.1)
    ∙ ap (encode_by table_spelled) (form_commands bs e)
    ∙ encode_table (table_of bs)

-- ---- check 3, limits

-- so many types so far, and so many members of the last one
abbrev counted : ℕ → ℕ → TableCount
counted t k = record { types = t; members = k }

-- the rest of a table is within the limits, with what is counted before it, where that is
record Within (n : TableCount) (r : TableTail) : Type 0 where
  members_within : n.members ≤ 16 → n.members + length r.members ≤ 16
  types_within : n.types ≤ 64 → n.types + length r.kinds ≤ 64
  all_within : All (λ κ. length (members_of κ) ≤ 16) r.kinds

-- a command that begins a type of a kind that is within the limits where the members that follow are
within_begins : (n then : TableCount) (κ : Kind) (r : TableTail) → one_type_more n ≡ goes then → Within then r
    → (length r.members ≤ 16 → length (members_of κ) ≤ 16) → Within n (only_types (κ ∷ r.kinds))
unfolding one_type_more
within_begins n then κ r e h kind =
    let one : TableCount = counted (suc n.types) 0 in
    let moved = goes_if_lem _ one e in
    let later : Within one r = rw moved.1 h in
    let low = ltb-true n.types max_types moved.0 in
    record {
      members_within = λ within. omega arith;
      types_within = λ within. omega (arith, later.types_within (omega arith));
      all_within = all_more (kind (omega (arith, later.members_within (omega arith)))) later.all_within;
    }

within_step : (n then : TableCount) (c : TableCommand) (r : TableTail) → limit_step n c ≡ goes then → Within then r → Within n (with_command c r)
unfolding limit_step with_command members_of
within_step n then text_type r e h = within_begins n then text r e h (λ within. omega arith)
within_step n then empty_type r e h = within_begins n then empty r e h (λ within. omega arith)
within_step n then sequence_type r e h = within_begins n then (sequence r.members) r e h (λ within. within)
within_step n then (choice_type need) r e h = within_begins n then (choice need r.members) r e h (λ within. within)
within_step n then (list_type t) r e h = within_begins n then (list t) r e h (λ within. omega arith)
within_step n then (member t) r e h =
    let one : TableCount = counted n.types (suc n.members) in
    let moved = goes_if_lem _ one e in
    let later : Within one r = rw moved.1 h in
    let low = ltb-true n.members max_members moved.0 in
    record {
      members_within = λ within. omega (arith, later.members_within (omega arith));
      types_within = later.types_within;
      all_within = later.all_within;
    }
within_step n then table_end r e h = let same : then ≡ n = cc in rw same at h
within_step n then alien r e h = goes_stops e refl

limits_hold : (bs : List ℕ) → table_limits bs ≡ passes → Within (counted 0 0) (table_tail (table_commands bs))
unfolding table_limits table_tail
limits_hold bs e =
    run_holds table_width limit_step (λ n. true) (λ n cs. Within n (table_tail cs))
    (λ n done. record { members_within = λ within. omega arith; types_within = λ within. omega arith; all_within = all_none })
    (λ n then c cs. within_step n then c (table_tail cs)) (counted 0 0) 0 (table_commands bs) e

-- ---- members pass the checks

-- a machine takes all of some commands
abbrev Taken : {S : Type 0} → (S → TableCommand → Next S) → S → List TableCommand → Type 0
Taken {S} step s cs = (last : S) × (reach step s cs ≡ goes last)

-- the form takes members that are as many as it still needs
form_members : (k : ℕ) (ms : List ℕ) (cs : List TableCommand) → k ≤ length ms
    → reach table_step (members k) (members_then ms cs) ≡ reach table_step (members 0) cs
unfolding reach followed table_step table_role table_move members_then
form_members zero [] cs enough = refl
form_members zero (m ∷ ms) cs enough = form_members zero ms cs (omega arith)
form_members (suc k) [] cs enough = absurd (omega arith)
form_members (suc k) (m ∷ ms) cs enough = form_members k ms cs (omega arith)

-- the limits take members that are at most 16 with those so far
limits_members : (t k : ℕ) (ms : List ℕ) (cs : List TableCommand) → k + length ms ≤ 16
    → ((n : ℕ) → Taken limit_step (counted t n) cs) → Taken limit_step (counted t k) (members_then ms cs)
unfolding reach followed limit_step goes_if members_then
limits_members t k [] cs few later = later k
limits_members t k (m ∷ ms) cs few later = rw (lt-ltb k max_members (omega arith)) (limits_members t (suc k) ms cs (omega arith) later)

-- the operands may be types of the table
names_members : (types : ℕ) (ms : List ℕ) (cs : List TableCommand) → Known types ms
    → reach (names_type types) tt (members_then ms cs) ≡ reach (names_type types) tt cs
unfolding reach followed names_type goes_if members_then
names_members types [] cs known = refl
names_members types (m ∷ ms) cs known =
    rw (lt-ltb m types (known m (Memᴰ.head refl))) (names_members types ms cs (λ n later. known n (Memᴰ.tail later)))

-- members may repeat where they are not in a choice
sequence_members : (ms : List ℕ) (cs : List TableCommand) → reach repeat_step elsewhere (members_then ms cs) ≡ reach repeat_step elsewhere cs
unfolding reach followed repeat_step chooses members_then
sequence_members [] cs = refl
sequence_members (m ∷ ms) cs = sequence_members ms cs

-- no entry of a list is one of some earlier numbers
abbrev NoneAmong : List ℕ → List ℕ → Type 0
NoneAmong earlier ms = (p m : ℕ) → entry p ms ≡ some m → member_of m earlier ≡ false

-- of distinct types those behind the first are distinct
pub distinct_later : (m : ℕ) (ms : List ℕ) → Distinct (m ∷ ms) → Distinct ms
unfolding Distinct entry
distinct_later m ms d zero q n e f = some_none e refl
distinct_later m ms d (suc p) zero n e f = some_none f refl
distinct_later m ms d (suc p) (suc q) n e f = omega (arith, d (suc (suc p)) (suc (suc q)) n e f)

-- and none of them is it
distinct_apart : (earlier : List ℕ) (m : ℕ) (ms : List ℕ) → Distinct (m ∷ ms) → NoneAmong earlier (m ∷ ms) → NoneAmong (m ∷ earlier) ms
unfolding Distinct entry member_of
distinct_apart earlier m ms d apart zero n e = some_none e refl
distinct_apart earlier m ms d apart (suc p) n e = go (eqb n m) refl
  where
    go : (b : Bool) → eqb n m ≡ b → (eqb n m || member_of n earlier) ≡ false
    go true q =
        let first : some m ≡ some n = ap some (sym (eqb-true n m q)) in
        absurd (omega (arith, d 1 (suc (suc p)) n first e))
    go false q = rw q (apart (suc (suc p)) n e)

-- so distinct types, apart from those so far, repeat none
distinct_unrepeated : (earlier ms : List ℕ) → Distinct ms → NoneAmong earlier ms → Unrepeated earlier ms
unfolding entry
distinct_unrepeated earlier [] d apart = no_more
distinct_unrepeated earlier (m ∷ ms) d apart =
    one_more (apart 1 m refl) (distinct_unrepeated (m ∷ earlier) ms (distinct_later m ms d) (distinct_apart earlier m ms d apart))

distinct_once : (ms : List ℕ) → Distinct ms ↔ Unrepeated [] ms
unfolding Distinct member_of
distinct_once ms = (λ d. distinct_unrepeated [] ms d (λ p m e. refl), entry_once)

-- members of a choice may be types that repeat none so far
choice_members : {earlier ms : List ℕ} (cs : List TableCommand) → Unrepeated earlier ms
    → ((s : Chosen) → Taken repeat_step s cs) → Taken repeat_step (among earlier) (members_then ms cs)
unfolding reach followed repeat_step chooses goes_if members_then
choice_members {earlier} cs no_more later = later (among earlier)
choice_members cs (one_more new rest) later = rw new (choice_members cs rest later)

-- ---- types pass the checks, each by its own part of what is valid

-- at most 16 members
abbrev pub Short : Kind → Type 0
Short κ = length (members_of κ) ≤ 16

-- where it is a choice, no member twice
abbrev pub ChoosesOnce : Kind → Type 0
ChoosesOnce = IfChoice (Unrepeated [])

-- the form takes these commands to its end, from either state that is reached behind a type
abbrev Ends : List TableCommand → Type 0
Ends cs = (reach table_step whole cs ≡ goes table_ended) × (reach table_step (members 0) cs ≡ goes table_ended)

-- and with a type before them it does, from a state in which a type may begin
form_kind : (s : TableState) → ((first : TableState) → table_move s (begins first) ≡ goes first) → (κ : Kind) → Enough κ → (cs : List TableCommand)
    → Ends cs → reach table_step s (kind_then κ cs) ≡ goes table_ended
unfolding reach followed table_step table_role kind_then members_of
form_kind s ready text enough cs later = rw ready later.0
form_kind s ready empty enough cs later = rw ready later.0
form_kind s ready (sequence ms) enough cs later = rw ready (form_members _ ms cs (omega (arith, enough)) ∙ later.1)
form_kind s ready (choice needed ms) enough cs later = rw ready (form_members _ ms cs (omega (arith, enough)) ∙ later.1)
form_kind s ready (choice optional ms) enough cs later = rw ready (form_members _ ms cs (omega (arith, enough)) ∙ later.1)
form_kind s ready (list m) enough cs later = rw ready later.0

form_types : {T : Table} → All Enough T → Ends (table_commands_of T)
unfolding reach followed table_step table_role table_move table_commands_of
form_types all_none = (refl, refl)
form_types (all_more {a = κ} {xs = T} enough more) =
    let later = form_types more in
    (form_kind whole (λ first. refl) κ enough (table_commands_of T) later, form_kind (members 0) (λ first. refl) κ enough (table_commands_of T) later)

form_table : {T : Table} → 1 ≤ length T → All Enough T → reach table_step no_type (table_commands_of T) ≡ goes table_ended
unfolding table_move table_commands_of
form_table one all_none = absurd (omega arith)
form_table one (all_more {a = κ} {xs = T} enough more) = form_kind no_type (λ first. refl) κ enough (table_commands_of T) (form_types more)

-- the limits take a type that has at most 63 before it
limits_kind : (κ : Kind) → Short κ → (t k : ℕ) (cs : List TableCommand) → t < 64
    → ((n : ℕ) → Taken limit_step (counted (suc t) n) cs) → Taken limit_step (counted t k) (kind_then κ cs)
unfolding reach followed limit_step one_type_more goes_if kind_then members_of
limits_kind text short t k cs few later = rw (lt-ltb t max_types (omega arith)) (later 0)
limits_kind empty short t k cs few later = rw (lt-ltb t max_types (omega arith)) (later 0)
limits_kind (sequence ms) short t k cs few later = rw (lt-ltb t max_types (omega arith)) (limits_members (suc t) 0 ms cs (omega arith) later)
limits_kind (choice need ms) short t k cs few later = rw (lt-ltb t max_types (omega arith)) (limits_members (suc t) 0 ms cs (omega arith) later)
limits_kind (list m) short t k cs few later = rw (lt-ltb t max_types (omega arith)) (later 0)

limits_table : {T : Table} → All Short T → (t k : ℕ) → t + length T ≤ 64 → Taken limit_step (counted t k) (table_commands_of T)
unfolding reach followed limit_step table_commands_of
limits_table all_none t k few = (counted t k, refl)
limits_table (all_more {a = κ} {xs = T} short more) t k few =
    limits_kind κ short t k (table_commands_of T) (omega arith) (λ n. limits_table more (suc t) n (omega arith))

-- the operands of a type exist
names_kind : (types : ℕ) (κ : Kind) → Known types (members_of κ) → (cs : List TableCommand)
    → reach (names_type types) tt (kind_then κ cs) ≡ reach (names_type types) tt cs
unfolding reach followed names_type goes_if kind_then members_of
names_kind types text known cs = refl
names_kind types empty known cs = refl
names_kind types (sequence ms) known cs = names_members types ms cs known
names_kind types (choice need ms) known cs = names_members types ms cs known
names_kind types (list m) known cs = rw (lt-ltb m types (known m (Memᴰ.head refl)))

names_table : (types : ℕ) {T : Table} → All (λ κ. Known types (members_of κ)) T → reach (names_type types) tt (table_commands_of T) ≡ goes tt
unfolding reach followed names_type table_commands_of
names_table types all_none = refl
names_table types (all_more {a = κ} {xs = T} known more) = names_kind types κ known (table_commands_of T) ∙ names_table types more

-- no choice repeats a member
repeats_kind : (κ : Kind) → ChoosesOnce κ → (s : Chosen) (cs : List TableCommand)
    → ((next : Chosen) → Taken repeat_step next cs) → Taken repeat_step s (kind_then κ cs)
unfolding reach followed repeat_step kind_then
repeats_kind text once s cs later = later elsewhere
repeats_kind empty once s cs later = later elsewhere
repeats_kind (sequence ms) once s cs later = rw (sequence_members ms cs) (later elsewhere)
repeats_kind (choice need ms) once s cs later = choice_members cs once later
repeats_kind (list m) once s cs later = later elsewhere

repeats_table : {T : Table} → All ChoosesOnce T → (s : Chosen) → Taken repeat_step s (table_commands_of T)
unfolding reach followed repeat_step table_commands_of
repeats_table all_none s = (s, refl)
repeats_table (all_more {a = κ} {xs = T} once more) s = repeats_kind κ once s (table_commands_of T) (repeats_table more)

-- ---- checks 2 to 5 exactly

-- bytes whose commands a machine takes pass its check
taken_passes : {S : Type 0} (step : S → TableCommand → Next S) (complete : S → Bool) (s : S) (bs : List ℕ) {cs : List TableCommand} {last : S}
    → table_commands bs ≡ cs → reach step s cs ≡ goes last → complete last ≡ true → run table_width step complete s 0 (table_commands bs) ≡ passes
taken_passes step complete s bs are e done = passes_run table_width step complete s 0 (table_commands bs) (rw are e) done

-- what the types are that bytes which pass check 4 or 5 are read to
module _ (bs : List ℕ) {T : Table} (reads : table_tail (table_commands bs) ≡ only_types T) where
  operands_told : (types : ℕ) → table_operands types bs ≡ passes → All (λ κ. Known types (members_of κ)) T
  operands_told types e = (rw reads at (operands_hold types bs e)).all_known

  repeats_told : table_repeats bs ≡ passes → All ChoosesOnce T
  repeats_told e = (rw reads at (repeats_hold bs e)).all_fresh

-- a type or more, with enough members each
pub form_exactly : (T : Table) → (table_form (table_bytes T) ≡ passes) ↔ ((1 ≤ length T) × All Enough T)
unfolding table_form table_complete
form_exactly T = (
  λ e. let formed : Formed no_type (only_types T) = rw (tail_of_bytes T) at (form_holds (table_bytes T) e) in (formed.enough_types, formed.all_enough),
  λ h. taken_passes table_step table_complete no_type (table_bytes T) (commands_of_table T) (form_table h.0 h.1) refl,
)

-- at most 64 types, of at most 16 members
pub limits_exactly : (T : Table) → (table_limits (table_bytes T) ≡ passes) ↔ ((length T ≤ 64) × All Short T)
unfolding table_limits
limits_exactly T = (
  λ e.
      let within : Within (counted 0 0) (only_types T) = rw (tail_of_bytes T) at (limits_hold (table_bytes T) e) in
      (omega (arith, within.types_within (omega arith)), within.all_within),
  λ h. taken_passes limit_step (λ n. true) (counted 0 0) (table_bytes T) (commands_of_table T) (limits_table h.1 0 0 (omega (arith, h.0))).1 refl,
)

-- members that are types
pub operands_exactly : (types : ℕ) (T : Table) → (table_operands types (table_bytes T) ≡ passes) ↔ All (λ κ. Known types (members_of κ)) T
unfolding table_operands
operands_exactly types T = (
  operands_told (table_bytes T) (tail_of_bytes T) types,
  λ h. taken_passes (names_type types) (λ u. true) tt (table_bytes T) (commands_of_table T) (names_table types h) refl,
)

-- choices with no member twice
pub repeats_exactly : (T : Table) → (table_repeats (table_bytes T) ≡ passes) ↔ All ChoosesOnce T
unfolding table_repeats
repeats_exactly T = (
  repeats_told (table_bytes T) (tail_of_bytes T),
  λ h. taken_passes repeat_step (λ s. true) elsewhere (table_bytes T) (commands_of_table T) (repeats_table h elsewhere).1 refl,
)

-- of one type's own bytes, which have no table's end, the same
only_one : {P : Kind → Type 0} {κ : Kind} → All P (κ ∷ []) → P κ
only_one (all_more p ps) = p

pub kind_operands : (types : ℕ) (κ : Kind) → (table_operands types (kind_bytes κ) ≡ passes) ↔ Known types (members_of κ)
unfolding table_operands reach
kind_operands types κ = (
  λ e. only_one (operands_told (kind_bytes κ) (tail_of_kind κ) types e),
  λ h. taken_passes (names_type types) (λ u. true) tt (kind_bytes κ) (commands_of_kind κ) (names_kind types κ h []) refl,
)

pub kind_repeats : (κ : Kind) → (table_repeats (kind_bytes κ) ≡ passes) ↔ ChoosesOnce κ
unfolding table_repeats reach
kind_repeats κ = (
  λ e. only_one (repeats_told (kind_bytes κ) (tail_of_kind κ) e),
  λ h. taken_passes repeat_step (λ s. true) elsewhere (kind_bytes κ) (commands_of_kind κ) (repeats_kind κ h elsewhere [] (λ next. (next, refl))).1 refl,
)

-- ---- what is valid, by its parts

-- a kind is valid exactly where its members are, and no choice has one twice
kind_parts_lem : {types : ℕ} (κ : Kind) → ValidKind types κ ↔ (ValidMembers types (least_members κ) (members_of κ) × ChoosesOnce κ)
unfolding ValidKind members_of
kind_parts_lem {types} text = (λ v. (record { enough = omega arith; at_most_16 = omega arith; exist = none_known types }, tt), λ h. tt)
kind_parts_lem {types} empty = (λ v. (record { enough = omega arith; at_most_16 = omega arith; exist = none_known types }, tt), λ h. tt)
kind_parts_lem (sequence ms) = (λ v. (v, tt), λ h. h.0)
kind_parts_lem (choice needed ms) = (λ v. (v.0, (distinct_once ms).0 v.1), λ h. (h.0, (distinct_once ms).1 h.1))
kind_parts_lem (choice optional ms) = (λ v. (v.0, (distinct_once ms).0 v.1), λ h. (h.0, (distinct_once ms).1 h.1))
kind_parts_lem (list m) =
    (λ v. (record { enough = omega arith; at_most_16 = omega arith; exist = λ n i. rw (Memᴰ.eq_of_singleton i) v }, tt), λ h. h.0.exist m (Memᴰ.head refl))

-- what each check asks of the kinds of a table
pub record Kinds (T : Table) : Type 0 where
  pub enough : All Enough T
  pub short : All Short T
  pub known : All (λ κ. Known (length T) (members_of κ)) T
  pub once : All ChoosesOnce T

-- those of a valid table have it
pub valid_parts : {T : Table} → ValidTable T → Kinds T
unfolding kind_of
valid_parts {T} valid =
    record {
      enough = all_from empty T (λ t exists. (parts t exists).0.enough);
      short = all_from empty T (λ t exists. (parts t exists).0.at_most_16);
      known = all_from empty T (λ t exists. (parts t exists).0.exist);
      once = all_from empty T (λ t exists. (parts t exists).1);
    }
  where
    parts : (t : ℕ) → t < length T → ValidMembers (length T) (least_members (kind_of T t)) (members_of (kind_of T t)) × ChoosesOnce (kind_of T t)
    parts t exists = (kind_parts_lem (kind_of T t)).0 (valid.valid_kinds t exists)

-- and a sound table whose bytes pass the checks is valid: each gives its part
pub passed_valid : (T : Table) → table_form (table_bytes T) ≡ passes → table_limits (table_bytes T) ≡ passes
    → table_repeats (table_bytes T) ≡ passes → SoundTable T → ValidTable T
unfolding kind_of members_of
passed_valid T form limits repeats right =
    record {
      has_type = ((form_exactly T).0 form).0;
      at_most_64 = ((limits_exactly T).0 limits).0;
      valid_kinds = λ t exists.
          (kind_parts_lem (kind_of T t)).1 (
            record {
              enough = all_at {P = Enough} empty (omega arith) ((form_exactly T).0 form).1 t;
              at_most_16 = all_at {P = Short} empty (omega arith) ((limits_exactly T).0 limits).1 t;
              exist = right.well_formed.members_exist t;
            },
            all_at {P = ChoosesOnce} empty tt ((repeats_exactly T).0 repeats) t,
          );
      instances = instance_of T right;
    }

-- so an accepted table is valid
pub accepted_table_valid : (bs : List ℕ) → judged_table bs ≡ sound → ValidTable (table_of bs)
accepted_table_valid bs e =
    let checks = table_checks bs e in
    let same : table_bytes (table_of bs) ≡ bs = sym (accepted_table_written bs checks.form) in
    passed_valid (table_of bs) (rw same checks.form) (rw same checks.limits) (rw same checks.repeats) (table_sound bs e)

-- ---- the bytes of a valid table are accepted

member_bytes_lem : (ms : List ℕ) → length (member_bytes ms) ≡ length ms + length ms
unfolding member_bytes
member_bytes_lem [] = refl
member_bytes_lem (m ∷ ms) = omega (arith, member_bytes_lem ms)

-- a type takes at most 33 bytes
kind_short : (κ : Kind) → Short κ → length (kind_bytes κ) ≤ 33
unfolding kind_bytes members_of
kind_short text short = omega arith
kind_short empty short = omega arith
kind_short (sequence ms) short = omega (arith, member_bytes_lem ms)
kind_short (choice needed ms) short = omega (arith, member_bytes_lem ms)
kind_short (choice optional ms) short = omega (arith, member_bytes_lem ms)
kind_short (list m) short = omega arith

table_short : {T : Table} → All Short T → length (table_bytes T) ≤ 33 * length T + 1
unfolding table_bytes
table_short all_none = omega arith
table_short (all_more {a = κ} {xs = T} short more) = omega (arith, length-append (kind_bytes κ) (table_bytes T), kind_short κ short, table_short more)

-- 64 types of 33 bytes, and 1F
pub valid_table_short : (T : Table) → ValidTable T → length (table_bytes T) ≤ 2113
valid_table_short T valid = omega (arith, table_short (valid_parts valid).short, valid.at_most_64)

-- heights that are all at most the number of types pass
low_passes : (types t : ℕ) (hs : List ℕ) → ((i : ℕ) → i < length hs → leb (get_or hs i 0) types ≡ true) → first_endless types t hs ≡ passes
unfolding first_endless pick
low_passes types t [] low = refl
low_passes types t (h ∷ hs) low = rw (low 0 (omega arith)) (low_passes types (suc t) hs (λ i less. low (suc i) (omega arith)))

-- so do types that have finite instances
pub instances_pass : (T : Table) → ((t : ℕ) → t < length T → Instance T t) → endless_type T ≡ passes
unfolding endless_type has_instance height_of height_in
instances_pass T each = low_passes (length T) 0 (heights T) (λ t exists. instance_finite T t (each t (rw heights-length at exists)))

-- every check passes
pub valid_table_accepted : (T : Table) → ValidTable T → judged_table (table_bytes T) ≡ sound
unfolding fits
valid_table_accepted T valid =
    let kinds = valid_parts valid in
    let read : table_of (table_bytes T) ≡ T = table_of_bytes T in
    table_accepted
    (record {
      short = le-leb (length (table_bytes T)) max_length (omega (arith, valid_table_short T valid));
      form = (form_exactly T).1 (valid.has_type, kinds.enough);
      limits = (limits_exactly T).1 (valid.at_most_64, kinds.short);
      operands = rw read ((operands_exactly (length T) T).1 kinds.known);
      repeats = (repeats_exactly T).1 kinds.once;
      instances = rw read (instances_pass T valid.instances);
    })
