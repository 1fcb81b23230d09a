-- What an accepted table is (`table_sound`), and the checks that an accepted table or tree document has passed.
-- Each check of a table's commands is a machine's run; what a passing run says of the commands is proved by going back
-- from their end, and so becomes a fact about every type.
use Rattle.std.specs.Prelude.{◌≡◌, refl, Bool, true, false, not, ◌||◌, ◌⊎◌, ℕ, zero, suc, ◌+◌, ◌≤◌, ◌<◌, length, get_or, eqb, leb, ltb}
use Rattle.std.proofs.Common.{sym, ap, inl, inr, arith, ltb-true, leb-true, eq-eqb}
use mathlib.Core.List.Memᴰ
use mathlib.Core.List.{List, [], ◌∷◌, Memᴰ}
use Rattle.std.proofs.Math.Option.{some}
use Rattle.std.proofs.lemmas.Bool.{not-true}
use Rattle.model.specs.Definitions.Basics.{Verdict, passes, fails, Next, goes, stops, proceed, run, pick, goes_if, member_of, entry}
use Rattle.model.specs.Definitions.Commands.{Need, needed, optional, TableCommand, text_type, empty_type, sequence_type, choice_type, list_type, member, table_end, alien, table_commands, table_width}
use Rattle.model.specs.Definitions.Table.{Kind, text, empty, sequence, choice, list, Table, kind_of, members_of, TableTail, with_command, table_tail, table_of}
use Rattle.model.specs.Definitions.Heights.{height_in, heights, height_of, first_endless, endless_type}
use Rattle.model.specs.Definitions.TableChecks.{TableState, no_type, whole, members, table_ended, begins, joins, finishes, unknown, table_role, table_move, table_step, table_complete, table_form, table_limits, names_type, table_operands, Chosen, elsewhere, among, chooses, repeat_step, table_repeats}
use Rattle.model.specs.Definitions.TreeChecks.{tree_form, tree_levels, tree_operands, tree_expected}
use Rattle.model.specs.Definitions.Refusals.{Fault, Judged, sound, has, fault_at, fault_unless, fits}
use Rattle.model.specs.Definitions.Entries.{checked_table, judged_table, judged_tree}
use Rattle.model.proofs.Theorems.Facts.{WellFormed, SoundTable, All, all_none, all_more}
use Rattle.model.proofs.Theorems.Runs.{goes_stops, passes_fails}
use Rattle.model.proofs.Theorems.Tools.{true_false, some_none}

-- ---- verdicts and runs

-- a machine that goes on by a test: the test passes, and the state is the one meant
pub goes_if_lem : {S : Type 0} (b : Bool) (s : S) {next : S} → goes_if b s ≡ goes next → (b ≡ true) × (s ≡ next)
unfolding goes_if
goes_if_lem true s {next} e = (refl, cc)
goes_if_lem false s {next} e = goes_stops e refl

-- where a test decides between a verdict and a failure, and all passes: the test passes, and so does the verdict
pub pick_passes : (b : Bool) (v : Verdict) (at : ℕ) → pick b v (fails at) ≡ passes → (b ≡ true) × (v ≡ passes)
unfolding pick
pick_passes true v at e = (refl, e)
pick_passes false v at e = passes_fails e refl

-- where a run passes from a command on, the machine goes on to a state from which it passes
proceed_passes : {S : Type 0} (at : ℕ) (n : Next S) (onward : S → Verdict) → proceed at n onward ≡ passes
    → (s : S) × (n ≡ goes s) × (onward s ≡ passes)
unfolding proceed
proceed_passes at (goes s) onward e = (s, refl, e)
proceed_passes at stops onward e = passes_fails e refl

-- What holds at a machine's end, and before each command that it takes where it holds after it, holds where a run passes.
module _ {C S : Type 0} (width : C → ℕ) (step : S → C → Next S) (complete : S → Bool) (P : S → List C → Type 0) where
  pub run_holds : ((s : S) → complete s ≡ true → P s [])
      → ((s then : S) (c : C) (cs : List C) → step s c ≡ goes then → P then cs → P s (c ∷ cs))
      → (s : S) (at : ℕ) (cs : List C) → run width step complete s at cs ≡ passes → P s cs
  unfolding run
  run_holds end more s at [] e = end s (pick_passes (complete s) passes at e).0
  run_holds end more s at (c ∷ cs) e =
      let found = proceed_passes at (step s c) (λ next. run width step complete next (at + width c) cs) e in
      more s found.0 c cs found.1 (run_holds end more found.0 (at + width c) cs found.2)

-- what holds of every entry and of the default holds at every index
pub all_at : {A : Type 0} {P : A → Type 0} {xs : List A} (d : A) → P d → All P xs → (i : ℕ) → P (get_or xs i d)
all_at d pd all_none i = pd
all_at d pd (all_more p ps) zero = p
all_at d pd (all_more p ps) (suc i) = all_at d pd ps i

-- and what holds at every index of a list holds of every entry
pub all_from : {A : Type 0} {P : A → Type 0} (d : A) (xs : List A) → ((i : ℕ) → i < length xs → P (get_or xs i d)) → All P xs
all_from d [] h = all_none
all_from d (x ∷ xs) h = all_more (h 0 (omega arith)) (all_from d xs (λ i less. h (suc i) (omega arith)))

-- ---- check 2, form

-- members and types that a state still needs
abbrev needed_members : TableState → ℕ
needed_members no_type = 0
needed_members whole = 0
needed_members (members k) = k
needed_members table_ended = 0

abbrev needed_types : TableState → ℕ
needed_types no_type = 1
needed_types whole = 0
needed_types (members k) = 0
needed_types table_ended = 0

-- the members that a kind needs
abbrev pub least_members : Kind → ℕ
least_members text = 0
least_members empty = 0
least_members (sequence ms) = 1
least_members (choice needed ms) = 2
least_members (choice optional ms) = 1
least_members (list m) = 1

-- a kind has as many as it needs
abbrev pub Enough : Kind → Type 0
Enough κ = least_members κ ≤ length (members_of κ)

-- what the rest of a table of the right form has, from a state of its machine on
pub record Formed (s : TableState) (r : TableTail) : Type 0 where
  enough_members : needed_members s ≤ length r.members
  pub enough_types : needed_types s ≤ length r.kinds
  pub all_enough : All Enough r.kinds

-- what each kind of move needs of the state before it
pub move_begins : (s first : TableState) {then : TableState} → table_move s (begins first) ≡ goes then → (first ≡ then) × (needed_members s ≡ 0)
unfolding table_move
move_begins no_type first {then} e = (cc, refl)
move_begins whole first {then} e = (cc, refl)
move_begins (members zero) first {then} e = (cc, refl)
move_begins (members (suc k)) first {then} e = goes_stops e refl
move_begins table_ended first {then} e = goes_stops e refl

move_joins : (s : TableState) {then : TableState} → table_move s joins ≡ goes then
    → (needed_members s ≤ suc (needed_members then)) × (needed_types s ≡ 0)
unfolding table_move
move_joins no_type {then} e = goes_stops e refl
move_joins whole {then} e = goes_stops e refl
move_joins (members zero) {then} e = (omega arith, refl)
move_joins (members (suc k)) {then} e = let same : members k ≡ then = cc in (rw (← same) (omega arith), refl)
move_joins table_ended {then} e = goes_stops e refl

move_finishes : (s : TableState) {then : TableState} → table_move s finishes ≡ goes then → (needed_members s ≡ 0) × (needed_types s ≡ 0)
unfolding table_move
move_finishes no_type e = goes_stops e refl
move_finishes whole e = (refl, refl)
move_finishes (members zero) e = (refl, refl)
move_finishes (members (suc k)) e = goes_stops e refl
move_finishes table_ended e = goes_stops e refl

pub move_unknown {ℓ} : {X : Type ℓ} (s : TableState) {then : TableState} → table_move s unknown ≡ goes then → X
unfolding table_move
move_unknown no_type e = goes_stops e refl
move_unknown whole e = goes_stops e refl
move_unknown (members zero) e = goes_stops e refl
move_unknown (members (suc k)) e = goes_stops e refl
move_unknown table_ended e = goes_stops e refl

-- a command that begins a type, of a kind that has enough members where the members that it then needs follow
formed_begins : (s first : TableState) {then : TableState} (κ : Kind) (r : TableTail) → table_move s (begins first) ≡ goes then → Formed then r
    → (needed_members first ≤ length r.members → Enough κ) → Formed s (record { members = []; kinds = κ ∷ r.kinds })
formed_begins s first κ r e h enough =
    let moved = move_begins s first e in
    let follow : needed_members first ≤ length r.members = rw moved.0 h.enough_members in
    record { enough_members = omega (arith, moved.1); enough_types = types s; all_enough = all_more (enough follow) h.all_enough }
  where
    types : (s : TableState) → needed_types s ≤ suc (length r.kinds)
    types no_type = omega arith
    types whole = omega arith
    types (members k) = omega arith
    types table_ended = omega arith

formed_step : (s then : TableState) (c : TableCommand) (r : TableTail) → table_step s c ≡ goes then → Formed then r → Formed s (with_command c r)
unfolding table_step table_role with_command members_of
formed_step s then text_type r e h = formed_begins s _ text r e h (λ follow. omega arith)
formed_step s then empty_type r e h = formed_begins s _ empty r e h (λ follow. omega arith)
formed_step s then sequence_type r e h = formed_begins s _ (sequence r.members) r e h (λ follow. omega arith)
formed_step s then (choice_type needed) r e h = formed_begins s _ (choice needed r.members) r e h (λ follow. omega arith)
formed_step s then (choice_type optional) r e h = formed_begins s _ (choice optional r.members) r e h (λ follow. omega arith)
formed_step s then (list_type t) r e h = formed_begins s _ (list t) r e h (λ follow. omega arith)
formed_step s then (member t) r e h =
    let facts = move_joins s e in
    record { enough_members = omega arith; enough_types = omega arith; all_enough = h.all_enough }
formed_step s then table_end r e h =
    let facts = move_finishes s e in
    record { enough_members = omega arith; enough_types = omega arith; all_enough = h.all_enough }
formed_step s then alien r e h = move_unknown s e

formed_end : (s : TableState) → table_complete s ≡ true → Formed s (table_tail [])
unfolding table_complete table_tail
formed_end no_type e = true_false e refl
formed_end whole e = true_false e refl
formed_end (members k) e = true_false e refl
formed_end table_ended e = record { enough_members = omega arith; enough_types = omega arith; all_enough = all_none }

-- a table of the right form has a type, and each of its kinds has enough members
pub form_holds : (bs : List ℕ) → table_form bs ≡ passes → Formed no_type (table_tail (table_commands bs))
unfolding table_form table_tail
form_holds bs e =
    run_holds table_width table_step table_complete (λ s cs. Formed s (table_tail cs)) formed_end
    (λ s then c cs. formed_step s then c (table_tail cs)) no_type 0 (table_commands bs) e

enough_members_at : (bs : List ℕ) → table_form bs ≡ passes → (t : ℕ) → Enough (kind_of (table_of bs) t)
unfolding kind_of table_of members_of
enough_members_at bs e t = all_at {P = Enough} empty (omega arith) (form_holds bs e).all_enough t

-- a choice that has enough members has one
enough_choose : (need : Need) (ms : List ℕ) → Enough (choice need ms) → 0 < length ms
unfolding members_of
enough_choose needed ms enough = omega arith
enough_choose optional ms enough = enough

-- ---- check 4, operands

-- every type in a list is one of so many
abbrev pub Known : ℕ → List ℕ → Type 0
Known types ms = (m : ℕ) → Memᴰ m ms → m < types

-- the rest of a table names known types only
pub record Names (types : ℕ) (r : TableTail) : Type 0 where
  members_known : Known types r.members
  pub all_known : All (λ κ. Known types (members_of κ)) r.kinds

pub none_known : (types : ℕ) → Known types []
none_known types m i = absurd (Memᴰ.not-nil i)

more_known : (types t : ℕ) (ms : List ℕ) → t < types → Known types ms → Known types (t ∷ ms)
more_known types t ms h later m i = go (Memᴰ.cases_cons i)
  where
    go : (m ≡ t) ⊎ Memᴰ m ms → m < types
    go (inl e) = omega arith
    go (inr j) = later m j

names_step : (types : ℕ) (u then : Unit {0}) (c : TableCommand) (r : TableTail) → names_type types u c ≡ goes then → Names types r → Names types (with_command c r)
unfolding names_type with_command members_of
names_step types u then text_type r e h = record { members_known = none_known types; all_known = all_more (none_known types) h.all_known }
names_step types u then empty_type r e h = record { members_known = none_known types; all_known = all_more (none_known types) h.all_known }
names_step types u then sequence_type r e h = record { members_known = none_known types; all_known = all_more h.members_known h.all_known }
names_step types u then (choice_type need) r e h = record { members_known = none_known types; all_known = all_more h.members_known h.all_known }
names_step types u then (list_type t) r e h =
    let known = ltb-true t types (goes_if_lem (ltb t types) u e).0 in
    record { members_known = none_known types; all_known = all_more (more_known types t [] known (none_known types)) h.all_known }
names_step types u then (member t) r e h =
    let known = ltb-true t types (goes_if_lem (ltb t types) u e).0 in
    record { members_known = more_known types t r.members known h.members_known; all_known = h.all_known }
names_step types u then table_end r e h = h
names_step types u then alien r e h = h

pub operands_hold : (types : ℕ) (bs : List ℕ) → table_operands types bs ≡ passes → Names types (table_tail (table_commands bs))
unfolding table_operands table_tail
operands_hold types bs e =
    run_holds table_width (names_type types) (λ u. true) (λ u cs. Names types (table_tail cs))
    (λ u done. record { members_known = none_known types; all_known = all_none })
    (λ u then c cs. names_step types u then c (table_tail cs)) tt 0 (table_commands bs) e

-- ---- check 5, repeated members

-- no entry of a list is one before it, nor one of some earlier numbers
pub data Unrepeated : List ℕ → List ℕ → Type 0 where
  no_more : {earlier : List ℕ} → Unrepeated earlier []
  one_more : {earlier : List ℕ} {m : ℕ} {ms : List ℕ} → member_of m earlier ≡ false → Unrepeated (m ∷ earlier) ms → Unrepeated earlier (m ∷ ms)

abbrev FreshFrom : Chosen → List ℕ → Type 0
FreshFrom elsewhere ms = Unit {0}
FreshFrom (among earlier) ms = Unrepeated earlier ms

-- what holds of the members of a kind that is a choice
abbrev pub IfChoice : (List ℕ → Type 0) → Kind → Type 0
IfChoice P text = Unit {0}
IfChoice P empty = Unit {0}
IfChoice P (sequence ms) = Unit {0}
IfChoice P (choice need ms) = P ms
IfChoice P (list m) = Unit {0}

-- the rest of a table repeats no member of a choice
pub record Fresh (s : Chosen) (r : TableTail) : Type 0 where
  members_fresh : FreshFrom s r.members
  pub all_fresh : All (IfChoice (Unrepeated [])) r.kinds

none_fresh : (s : Chosen) → FreshFrom s []
none_fresh elsewhere = tt
none_fresh (among earlier) = no_more

fresh_member : (s then : Chosen) (t : ℕ) (ms : List ℕ) → chooses s t ≡ goes then → FreshFrom then ms → FreshFrom s (t ∷ ms)
unfolding chooses
fresh_member elsewhere then t ms e h = tt
fresh_member (among earlier) then t ms e h =
    let facts = goes_if_lem (not (member_of t earlier)) (among (t ∷ earlier)) e in
    one_more (not-true (member_of t earlier) facts.0) (rw (← facts.1) at h)

fresh_step : (s then : Chosen) (c : TableCommand) (r : TableTail) → repeat_step s c ≡ goes then → Fresh then r → Fresh s (with_command c r)
unfolding repeat_step with_command
fresh_step s then text_type r e h = record { members_fresh = none_fresh s; all_fresh = all_more tt h.all_fresh }
fresh_step s then empty_type r e h = record { members_fresh = none_fresh s; all_fresh = all_more tt h.all_fresh }
fresh_step s then sequence_type r e h = record { members_fresh = none_fresh s; all_fresh = all_more tt h.all_fresh }
fresh_step s then (choice_type need) r e h =
    let same : among [] ≡ then = cc in
    let fresh : Unrepeated [] r.members = rw (← same) at h.members_fresh in
    record { members_fresh = none_fresh s; all_fresh = all_more fresh h.all_fresh }
fresh_step s then (list_type t) r e h = record { members_fresh = none_fresh s; all_fresh = all_more tt h.all_fresh }
fresh_step s then (member t) r e h =
    record { members_fresh = fresh_member s then t r.members e h.members_fresh; all_fresh = h.all_fresh }
fresh_step s then table_end r e h = let same : then ≡ s = cc in rw same at h
fresh_step s then alien r e h = let same : then ≡ s = cc in rw same at h

pub repeats_hold : (bs : List ℕ) → table_repeats bs ≡ passes → Fresh elsewhere (table_tail (table_commands bs))
unfolding table_repeats table_tail
repeats_hold bs e =
    run_holds table_width repeat_step (λ s. true) (λ s cs. Fresh s (table_tail cs))
    (λ s done. record { members_fresh = none_fresh s; all_fresh = all_none })
    (λ s then c cs. fresh_step s then c (table_tail cs)) elsewhere 0 (table_commands bs) e

-- neither part of a disjunction of tests that fails
pub neither : (a b : Bool) → (a || b) ≡ false → (a ≡ false) × (b ≡ false)
neither true b e = true_false refl e
neither false b e = (refl, e)

-- an entry of an unrepeated list is none of the earlier numbers
entry_fresh : {earlier ms : List ℕ} → Unrepeated earlier ms → (p m : ℕ) → entry p ms ≡ some m → member_of m earlier ≡ false
unfolding entry member_of
entry_fresh no_more zero m e = some_none e refl
entry_fresh no_more (suc p) m e = some_none e refl
entry_fresh (one_more new later) zero m e = some_none e refl
entry_fresh (one_more {m = n} new later) (suc zero) m e = let same : n ≡ m = cc in rw same at new
entry_fresh (one_more {earlier = earlier} {m = n} new later) (suc (suc p)) m e =
    (neither (eqb m n) (member_of m earlier) (entry_fresh later (suc p) m e)).1

-- the first type of an unrepeated list doesn't stand later in it
first_once {ℓ} : {X : Type ℓ} {earlier ms : List ℕ} {n : ℕ} → Unrepeated (n ∷ earlier) ms → (q m : ℕ) → n ≡ m → entry q ms ≡ some m → X
unfolding member_of
first_once {earlier = earlier} {n = n} u q m same e =
    true_false (eq-eqb m n (sym same)) (neither (eqb m n) (member_of m earlier) (entry_fresh u q m e)).0

-- a type stands at one position of an unrepeated list only
pub entry_once : {earlier ms : List ℕ} → Unrepeated earlier ms → (p q m : ℕ) → entry p ms ≡ some m → entry q ms ≡ some m → p ≡ q
unfolding entry
entry_once no_more zero q m e f = some_none e refl
entry_once no_more (suc p) q m e f = some_none e refl
entry_once (one_more new later) zero q m e f = some_none e refl
entry_once (one_more new later) (suc zero) zero m e f = some_none f refl
entry_once (one_more new later) (suc (suc p)) zero m e f = some_none f refl
entry_once (one_more new later) (suc zero) (suc zero) m e f = refl
entry_once (one_more {m = n} new later) (suc zero) (suc (suc q)) m e f = let same : n ≡ m = cc in first_once later (suc q) m same f
entry_once (one_more {m = n} new later) (suc (suc p)) (suc zero) m e f = let same : n ≡ m = cc in first_once later (suc p) m same e
entry_once (one_more new later) (suc (suc p)) (suc (suc q)) m e f = ap suc (entry_once later (suc p) (suc q) m e f)

-- ---- checks 2, 4 and 5 together

-- a fact about the choices of a table, at a type that is a choice
pub choice_at : {P : List ℕ → Type 0} {S : Table} → All (IfChoice P) S → (t : ℕ) (need : Need) (ms : List ℕ) → kind_of S t ≡ choice need ms → P ms
unfolding kind_of
choice_at {P} all t need ms e = let holds = all_at empty tt all t in rw e at holds

-- every member of every type is a type
members_known_at : {types : ℕ} {S : Table} → All (λ κ. Known types (members_of κ)) S → (t : ℕ) → Known types (members_of (kind_of S t))
unfolding kind_of members_of
members_known_at {types} all t = all_at {P = λ κ. Known types (members_of κ)} empty (none_known types) all t

pub table_well_formed : (bs : List ℕ) → table_form bs ≡ passes → table_operands (length (table_of bs)) bs ≡ passes → table_repeats bs ≡ passes
    → WellFormed (table_of bs)
unfolding table_of
table_well_formed bs form operands repeats =
    let formed = form_holds bs form in
    let names = operands_hold (length (table_of bs)) bs operands in
    let fresh = repeats_hold bs repeats in
    record {
      has_root = formed.enough_types;
      members_exist = members_known_at names.all_known;
      choices_choose = λ t need ms e. enough_choose need ms (rw e at (enough_members_at bs form t));
      choices_distinct = λ t need ms e. entry_once (choice_at fresh.all_fresh t need ms e);
    }

-- ---- check 6, finite instances

-- no height in a list that passes is above the number of types
none_endless : (types t : ℕ) (hs : List ℕ) → first_endless types t hs ≡ passes → (i : ℕ) → get_or hs i 0 ≤ types
unfolding first_endless
none_endless types t [] e i = omega arith
none_endless types t (h ∷ hs) e zero = leb-true h types (pick_passes (leb h types) (first_endless types (suc t) hs) _ e).0
none_endless types t (h ∷ hs) e (suc i) =
    none_endless types (suc t) hs (pick_passes (leb h types) (first_endless types (suc t) hs) _ e).1 i

pub heights_finite : (S : Table) → endless_type S ≡ passes → (t : ℕ) → height_of S t ≤ length S
unfolding endless_type height_of height_in
heights_finite S e = none_endless (length S) 0 (heights S) e

-- ---- all checks

-- a document can't be both accepted and faulty
sound_faulty {ℓ} : {X : Type ℓ} {j : Judged} {f : Fault} → j ≡ sound → j ≡ has f → X
sound_faulty {j = j} {f} p q = let z : ◌≡◌ {A = ℕ} 0 1 = cc in absurd (omega arith)

-- a check that finds no fault passes, and so do the checks after it
pub no_fault_at : (name : ℕ → Fault) (v : Verdict) (later : Unit {0} → Judged) → fault_at name v later ≡ sound → (v ≡ passes) × (later tt ≡ sound)
unfolding fault_at
no_fault_at name passes later e = (refl, e)
no_fault_at name (fails at) later e = sound_faulty e refl

pub no_fault_unless : (f : Fault) (b : Bool) (later : Unit {0} → Judged) → fault_unless f b later ≡ sound → (b ≡ true) × (later tt ≡ sound)
unfolding fault_unless
no_fault_unless f true later e = (refl, e)
no_fault_unless f false later e = sound_faulty e refl

-- the checks that an accepted table has passed
pub record PassedTable (bs : List ℕ) : Type 0 where
  pub short : fits bs ≡ true
  pub form : table_form bs ≡ passes
  pub limits : table_limits bs ≡ passes
  pub operands : table_operands (length (table_of bs)) bs ≡ passes
  pub repeats : table_repeats bs ≡ passes
  pub instances : endless_type (table_of bs) ≡ passes

pub table_checks : (bs : List ℕ) → judged_table bs ≡ sound → PassedTable bs
unfolding judged_table checked_table
table_checks bs e =
    let r1 = no_fault_unless _ _ _ e in
    let r2 = no_fault_at _ _ _ r1.1 in
    let r3 = no_fault_at _ _ _ r2.1 in
    let r4 = no_fault_at _ _ _ r3.1 in
    let r5 = no_fault_at _ _ _ r4.1 in
    let r6 = no_fault_at _ _ _ r5.1 in
    record { short = r1.0; form = r2.0; limits = r3.0; operands = r4.0; repeats = r5.0; instances = r6.0 }

-- a table that passes the checks is accepted
pub table_accepted : {bs : List ℕ} → PassedTable bs → judged_table bs ≡ sound
unfolding judged_table checked_table fault_unless fault_at
table_accepted a = rw (a.short, a.form, a.limits, a.operands, a.repeats, a.instances)

-- an accepted table is sound
pub table_sound : (bs : List ℕ) → judged_table bs ≡ sound → SoundTable (table_of bs)
table_sound bs e =
    let checks = table_checks bs e in
    record {
      well_formed = table_well_formed bs checks.form checks.operands checks.repeats;
      finite = λ t h. heights_finite (table_of bs) checks.instances t;
    }

-- ---- tree documents

-- the checks that an accepted tree document has passed
pub record PassedTree (S : Table) (bs : List ℕ) : Type 0 where
  pub short : fits bs ≡ true
  pub form : tree_form bs ≡ passes
  pub levels_ok : tree_levels bs ≡ passes
  pub operands : tree_operands (length S) bs ≡ passes
  pub expected : tree_expected S bs ≡ passes

pub tree_checks : (S : Table) (bs : List ℕ) → judged_tree S bs ≡ sound → PassedTree S bs
unfolding judged_tree
tree_checks S bs e =
    let r1 = no_fault_unless _ _ _ e in
    let r2 = no_fault_at _ _ _ r1.1 in
    let r3 = no_fault_at _ _ _ r2.1 in
    let r4 = no_fault_at _ _ _ r3.1 in
    let r5 = no_fault_at _ _ _ r4.1 in
    record { short = r1.0; form = r2.0; levels_ok = r3.0; operands = r4.0; expected = r5.0 }

-- a tree document that passes the checks is accepted
pub tree_accepted : {S : Table} {bs : List ℕ} → PassedTree S bs → judged_tree S bs ≡ sound
unfolding judged_tree fault_unless fault_at
tree_accepted a = rw (a.short, a.form, a.levels_ok, a.operands, a.expected)
