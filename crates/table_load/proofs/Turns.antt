-- The invariant of `load`: both machines pass what is left of the document, and what is loaded, continued by what is left,
-- is the document's table. One command more keeps it.
use mathlib.Core.Path.{◌≡◌, refl, sym, ap, ◌∙◌, subst}
use mathlib.Core.Bool.{Bool, true}
use mathlib.Core.List.{List, [], ◌∷◌, ◌++◌, append-nil}
use mathlib.Core.Logic.{inl, inr}
use Prim.Native.Nat.{ℕ, zero, suc, ◌+◌, ◌-◌, ◌*◌, ◌≤◌, ◌<◌}
use native.Mathlib.Numerals.{add-one}
use native.Mathlib.Omega.{arith}
use lib.ListN.{length, drop, get_or, set, drop_of_length-le, length-set}
use lib.Seq.{get_or-set_same}
use lib.Dec.{ltb}
use borrow.Author.Tests.{ltb-true}
use Rattle.loaded_table.specs.Loaded.{table_from, table_in, types_in, kinds_of, counts_of, members_in, section-kept}
use Rattle.model.specs.Definitions.Basics.{passes, Next, goes, stops, run, goes_if}
use Rattle.model.specs.Definitions.Commands.{needed, optional, TableCommand, text_type, empty_type, sequence_type, choice_type, list_type, member, table_end, alien, table_command, table_commands, table_width}
use Rattle.model.specs.Definitions.Table.{Kind, text, empty, sequence, choice, list, Table, TableTail, with_command, table_tail, table_of}
use Rattle.model.specs.Definitions.TableChecks.{TableState, no_type, whole, members, table_ended, begins, joins, finishes, table_role, table_move, table_step, table_complete, table_form, TableCount, max_members, one_type_more, limit_step, table_limits}
use Rattle.model.proofs.Theorems.JudgedTables.{goes_if_lem}
use Rattle.model.proofs.Theorems.Runs.{passes_fails, goes_stops}
use Rattle.model.proofs.Theorems.Reading.{raw_at, ReadsAt, left_stops, left_goes, table_reads, no_table_commands}
use Rattle.table_form.proofs.FormMachine.{form_stops}
use Rattle.table_form.proofs.Loop.{some_width}
use Rattle.table_load.specs.Loading.{TableArrays, loaded_in, CountsCleared, begun, joined, puts, TypeMayBegin, MemberMayJoin, TableRoom, TablePut, TableLoaded}
use Rattle.table_load.proofs.Continuation.{kind_more, TakesMembers, continued, continued_types, continued-begun, continued-joined, continued_list}
use Rattle.table_load.proofs.Shapes.{TableShaped, shaped_cleared, shaped-begun, shaped-joined}
use Rattle.table_load.proofs.Rooms.{begun_joins}

-- ---- the two machines

-- the machine of the limits refuses an alien command, as that of the form does
limit_stops : (n : TableCount) → limit_step n alien ≡ stops
unfolding limit_step
limit_stops n = refl

-- where a machine passes what is left, it goes on from the command there and passes the rest
module _
    {S : Type 0}
    (step : S → TableCommand → Next S)
    (complete : S → Bool)
    (stops_there : (s : S) → step s alien ≡ stops)
    (bs : List ℕ)
    (at : ℕ)
    (c : TableCommand)
    (reads : ReadsAt table_commands table_width alien bs at c) where
  left_passes : (s : S) → run table_width step complete s at (table_commands (drop at bs)) ≡ passes
      → (then : S) × (step s c ≡ goes then) × (run table_width step complete then (at + table_width c) (table_commands (drop (at + table_width c) bs)) ≡ passes)
  left_passes s p = go (step s c) refl
    where
      go : (n : Next S) → step s c ≡ n
          → (then : S) × (step s c ≡ goes then) × (run table_width step complete then (at + table_width c) (table_commands (drop (at + table_width c) bs)) ≡ passes)
      go (goes then) e = (then, e, sym (left_goes table_commands table_width alien step complete stops_there s then reads e) ∙ p)
      go stops e = passes_fails p (left_stops table_commands table_width alien step complete stops_there s reads e)

-- ---- what is loaded at a place

-- the last type is a sequence or choice of either kind with so many members
record TypesGrow (a : TableArrays) (count : ℕ) : Type 0 where
  last : ℕ
  is_last : a.types ≡ suc last
  so_many : get_or a.counts last 0 ≡ count
  takes_members : TakesMembers (get_or a.kinds last 0)

-- what a state of the form's machine says of the last type
abbrev InTableState : TableState → TableArrays → ℕ → Type 0
InTableState no_type a count = Unit {0}
InTableState whole a count = Unit {0}
InTableState (members k) a count = TypesGrow a count
InTableState table_ended a count = Unit {0}

abbrev continued_by : TableArrays → TableTail → Table
continued_by a r = continued a.types a.kinds a.counts a.members r

-- in these states of the machines the arrays, continued by what r says, are the table T
record TableSoFar (s : TableState) (n : TableCount) (a : TableArrays) (r : TableTail) (T : Table) : Type 0 where
  shaped : TableShaped a
  same_types : a.types ≡ n.types
  in_state : InTableState s a n.members
  whole_table : continued_by a r ≡ T

-- the states, known as other terms
loaded_at : {s then : TableState} {n later : TableCount} {a : TableArrays} {r : TableTail} {T : Table} → s ≡ then → n ≡ later → TableSoFar s n a r T → TableSoFar then later a r T
loaded_at {then = then} {n} {a = a} {r} {T} p q h = subst (λ k. TableSoFar then k a r T) q (subst (λ x. TableSoFar x n a r T) p h)

-- ---- one command

-- a type may begin
begins_there : {s : TableState} {n : TableCount} {a : TableArrays} {r : TableTail} {T : Table} {then : TableCount}
    → one_type_more n ≡ goes then → TableSoFar s n a r T → TypeMayBegin a × (then ≡ record { types = suc n.types; members = 0 })
unfolding one_type_more
begins_there {s} {n} {a} {r} {T} {then} e h =
    let facts = goes_if_lem (ltb n.types 64) (record { types = suc n.types; members = 0 }) e in
    let room : n.types < 64 = ltb-true n.types 64 facts.0 in
    let same = h.same_types in
    (record { room = omega arith; fresh = h.shaped.unused a.types (omega arith) }, sym facts.1)

-- and the form's machine is then in the state that the type begins with
begins_state : (s first then : TableState) → table_move s (begins first) ≡ goes then → first ≡ then
unfolding table_move
begins_state no_type first then e = cc
begins_state whole first then e = cc
begins_state (members zero) first then e = cc
begins_state (members (suc k)) first then e = goes_stops e refl
begins_state table_ended first then e = goes_stops e refl

-- a sequence or choice that begins has no members
grows_begun : (a : TableArrays) (code : ℕ) → TakesMembers code → TableShaped a → TypeMayBegin a → TypesGrow (begun a code) 0
unfolding begun
grows_begun a code which shaped room =
    let kind-there : get_or (set a.kinds a.types code) a.types 0 ≡ code
    = get_or-set_same a.kinds a.types code 0 (rw shaped.kinds_long room.room) in
    record { last = a.types; is_last = add-one a.types; so_many = room.fresh; takes_members = rw kind-there which }

-- A type of kind κ begins, with members only after it.
loaded_begun : {s then : TableState} {n later : TableCount} {a : TableArrays} {r : TableTail} {T : Table} (code : ℕ) (κ : Kind) (first : TableState)
    → kind_more code 0 (drop (a.types * 16) a.members) r.members ≡ κ → (TableShaped a → TypeMayBegin a → InTableState first (begun a code) 0)
    → table_move s (begins first) ≡ goes then → one_type_more n ≡ goes later
    → TableSoFar s n a (record { members = []; kinds = κ ∷ r.kinds }) T
    → TypeMayBegin a × TableSoFar then later (begun a code) r T
unfolding begun
loaded_begun {s} {then} {n} {later} {a} {r} {T} code κ first same_kind there e f h =
    let facts = begins_there f h in
    let room = facts.0 in
    let same-state : first ≡ then = begins_state s first then e in
    (room, loaded_at same-state (sym facts.1) (now-loaded room))
  where
    now-loaded : TypeMayBegin a → TableSoFar first (record { types = suc n.types; members = 0 }) (begun a code) r T
    now-loaded room =
        let shaped = h.shaped in
        record {
          shaped = shaped-begun a code room.room shaped;
          same_types = add-one a.types ∙ ap suc h.same_types;
          in_state = there shaped room;
          whole_table =
              continued-begun a.kinds a.counts a.members a.types code r (rw shaped.kinds_long room.room) room.fresh
              ∙ ap (λ k. table_from a.kinds a.counts a.members 0 a.types ++ k ∷ r.kinds) same_kind
              ∙ sym (continued_types a.kinds a.counts a.members a.types (κ ∷ r.kinds))
              ∙ h.whole_table;
        }

-- the arrays after a member joins type l, the last
joined_is : (a : TableArrays) (m l : ℕ) → a.types ≡ suc l
    → joined a m
    ≡ record {
      types = suc l;
      kinds = a.kinds;
      counts = set a.counts l (get_or a.counts l 0 + 1);
      members = set a.members (l * 16 + get_or a.counts l 0) m;
    }
unfolding joined
joined_is a m l e = let before : suc l - 1 ≡ l = omega arith in rw (e, before) refl

-- A list type begins, and its item joins it.
loaded_list : {s then : TableState} {n later : TableCount} {a : TableArrays} {r : TableTail} {T : Table} (m : ℕ)
    → table_move s (begins whole) ≡ goes then → one_type_more n ≡ goes later
    → TableSoFar s n a (record { members = []; kinds = list m ∷ r.kinds }) T
    → TypeMayBegin a × TableSoFar then later (joined (begun a 5) m) r T
unfolding begun
loaded_list {s} {then} {n} {later} {a} {r} {T} m e f h =
    let facts = begins_there f h in
    let room = facts.0 in
    let same-state : whole ≡ then = begins_state s whole then e in
    (room, loaded_at same-state (sym facts.1) (now-loaded room))
  where
    now-loaded : TypeMayBegin a → TableSoFar whole (record { types = suc n.types; members = 0 }) (joined (begun a 5) m) r T
    now-loaded room =
        let shaped = h.shaped in
        let few = room.room in
        let is = joined_is (begun a 5) m a.types (add-one a.types) in
        record {
          shaped = shaped-joined (begun a 5) m (begun_joins a 5 room) (shaped-begun a 5 few shaped);
          same_types = ap (λ b. b.types) is ∙ ap suc h.same_types;
          in_state = tt;
          whole_table =
              ap (λ b. continued_by b r) is
              ∙ continued_list a.kinds a.counts a.members a.types m r (rw shaped.kinds_long few) (rw shaped.counts_long few) (rw shaped.members_long (omega arith)) room.fresh shaped.few_counts
              ∙ sym (continued_types a.kinds a.counts a.members a.types (list m ∷ r.kinds))
              ∙ h.whole_table;
        }

-- a member may join only a sequence or choice, which may then grow on
joins_there : (s then : TableState) (a : TableArrays) (count : ℕ) → table_move s joins ≡ goes then → InTableState s a count
    → TypesGrow a count × ((b : TableArrays) (more : ℕ) → TypesGrow b more → InTableState then b more)
unfolding table_move
joins_there no_type then a count e h = goes_stops e refl
joins_there whole then a count e h = goes_stops e refl
joins_there (members zero) then a count e h = let same : members zero ≡ then = cc in (h, λ b more g. subst (λ x. InTableState x b more) same g)
joins_there (members (suc k)) then a count e h = let same : members k ≡ then = cc in (h, λ b more g. subst (λ x. InTableState x b more) same g)
joins_there table_ended then a count e h = goes_stops e refl

-- A member joins the last type.
loaded_joined : {s then : TableState} {n later : TableCount} {a : TableArrays} {r : TableTail} {T : Table} (m : ℕ)
    → table_move s joins ≡ goes then
    → goes_if (ltb n.members max_members) (record { types = n.types; members = suc n.members }) ≡ goes later
    → TableSoFar s n a (record { members = m ∷ r.members; kinds = r.kinds }) T
    → MemberMayJoin a × TableSoFar then later (joined a m) r T
loaded_joined {s} {then} {n} {later} {a} {r} {T} m e f h =
    let facts = goes_if_lem (ltb n.members 16) (record { types = n.types; members = suc n.members }) f in
    let few : n.members < 16 = ltb-true n.members 16 facts.0 in
    let state = joins_there s then a n.members e h.in_state in
    let grows = state.0 in
    let is_last = grows.is_last in
    let before : a.types - 1 ≡ grows.last = omega arith in
    let here : get_or a.counts (a.types - 1) 0 ≡ n.members = ap (λ i. get_or a.counts i 0) before ∙ grows.so_many in
    let room : MemberMayJoin a = record { some = omega arith; few = h.shaped.few_types; room = omega arith } in
    (room, loaded_at refl facts.1 (now-loaded few room grows state.1))
  where
    now-loaded : n.members < 16 → MemberMayJoin a → TypesGrow a n.members → ((b : TableArrays) (more : ℕ) → TypesGrow b more → InTableState then b more)
        → TableSoFar then (record { types = n.types; members = suc n.members }) (joined a m) r T
    now-loaded few room grows onward =
        let shaped = h.shaped in
        let l = grows.last in
        let is_last : a.types ≡ suc l = grows.is_last in
        let so_many : get_or a.counts l 0 ≡ n.members = grows.so_many in
        let few_types = shaped.few_types in
        let is = joined_is a m l is_last in
        let known : l < length a.counts = rw shaped.counts_long (omega arith) in
        let counted : get_or (set a.counts l (get_or a.counts l 0 + 1)) l 0 ≡ suc n.members
        = get_or-set_same a.counts l (get_or a.counts l 0 + 1) 0 known ∙ add-one (get_or a.counts l 0) ∙ ap suc so_many in
        record {
          shaped = shaped-joined a m room shaped;
          same_types = ap (λ b. b.types) is ∙ sym is_last ∙ h.same_types;
          in_state = onward (joined a m) (suc n.members) (subst (λ b. TypesGrow b (suc n.members)) (sym is) (record { last = l; is_last = refl; so_many = counted; takes_members = grows.takes_members }));
          whole_table =
              ap (λ b. continued_by b r) is
              ∙ continued-joined a.kinds a.counts a.members l m r known (rw shaped.members_long (omega arith)) grows.takes_members shaped.few_counts
              ∙ ap (λ k. continued k a.kinds a.counts a.members (record { members = m ∷ r.members; kinds = r.kinds })) (sym is_last)
              ∙ h.whole_table;
        }

-- the end of a table puts the form's machine in its last state
finishes_state : (s then : TableState) → table_move s finishes ≡ goes then → table_ended ≡ then
unfolding table_move
finishes_state no_type then e = goes_stops e refl
finishes_state whole then e = cc
finishes_state (members zero) then e = cc
finishes_state (members (suc k)) then e = goes_stops e refl
finishes_state table_ended then e = goes_stops e refl

-- A command that both machines take has room in the arrays, and leaves the table that they stand for.
put_loaded : (c : TableCommand) {s then : TableState} {n later : TableCount} {a : TableArrays} {r : TableTail} {T : Table}
    → table_step s c ≡ goes then → limit_step n c ≡ goes later → TableSoFar s n a (with_command c r) T
    → TableRoom a c × TableSoFar then later (puts a c) r T
unfolding table_step table_role limit_step with_command puts
put_loaded text_type e f h = loaded_begun 0 text whole refl (λ shaped room. tt) e f h
put_loaded empty_type e f h = loaded_begun 1 empty whole refl (λ shaped room. tt) e f h
put_loaded sequence_type {a = a} {r} e f h = loaded_begun 2 (sequence r.members) (members 1) refl (grows_begun a 2 (inl refl)) e f h
put_loaded (choice_type needed) {a = a} {r} e f h = loaded_begun 3 (choice needed r.members) (members 2) refl (grows_begun a 3 (inr (inl refl))) e f h
put_loaded (choice_type optional) {a = a} {r} e f h = loaded_begun 4 (choice optional r.members) (members 1) refl (grows_begun a 4 (inr (inr refl))) e f h
put_loaded (list_type m) e f h = loaded_list m e f h
put_loaded (member m) e f h = loaded_joined m e f h
put_loaded table_end {s} {then} {n} {later} {a} {r} {T} e f h =
    let same-state : table_ended ≡ then = finishes_state s then e in
    let same_count : n ≡ later = cc in
    let there : TableSoFar table_ended n a r T = record { shaped = h.shaped; same_types = h.same_types; in_state = tt; whole_table = h.whole_table } in
    (tt, loaded_at same-state same_count there)
put_loaded alien {n = n} e f h = goes_stops f refl

-- ---- the loop

-- what holds at offset `at` of the document bs with the arrays a loaded
pub record TableLoading (bs : List ℕ) (a : TableArrays) (at : ℕ) : Type 0 where
  pub within : at ≤ length bs
  form_state_left : TableState
  count_state : TableCount
  form_left_lem : run table_width table_step table_complete form_state_left at (table_commands (drop at bs)) ≡ passes
  limits_left : run table_width limit_step (λ n. true) count_state at (table_commands (drop at bs)) ≡ passes
  loaded : TableSoFar form_state_left count_state a (table_tail (table_commands (drop at bs))) (table_of bs)

-- there are never too many types
pub loading_few : {bs : List ℕ} {a : TableArrays} {at : ℕ} → TableLoading bs a at → a.types ≤ 64
loading_few h = h.loaded.shaped.few_types

pub loading_starts : {bs : List ℕ} (rows : List ℕ) → table_form bs ≡ passes → table_limits bs ≡ passes → CountsCleared 64 rows → TableLoading bs (loaded_in 0 rows) 0
unfolding table_form table_limits table_of continued
loading_starts {bs} rows form limits cleared =
    record {
      within = omega arith;
      form_state_left = no_type;
      count_state = record { types = 0; members = 0 };
      form_left_lem = form;
      limits_left = limits;
      loaded = record { shaped = shaped_cleared rows cleared; same_types = refl; in_state = tt; whole_table = refl };
    }

-- what a turn needs and gives
pub record TableTurn (bs : List ℕ) (a : TableArrays) (at : ℕ) (c : TableCommand) : Type 0 where
  pub room : TableRoom a c
  pub moves : 0 < table_width c
  pub next : TableLoading bs (puts a c) (at + table_width c)

-- a command that the form's machine takes is not alien
not_alien : (s then : TableState) (c : TableCommand) → table_step s c ≡ goes then → c ≡ alien → ⊥
not_alien s then c e same = goes_stops (rw same at e) (form_stops s)

-- One command is put: the loop's invariant holds behind it.
turn_at : (bs : List ℕ) (a : TableArrays) (at : ℕ) (c : TableCommand) → ReadsAt table_commands table_width alien bs at c → TableLoading bs a at → TableTurn bs a at c
unfolding table_tail
turn_at bs a at c reads h =
    let form = left_passes table_step table_complete form_stops bs at c reads h.form_state_left h.form_left_lem in
    let limits = left_passes limit_step (λ n. true) limit_stops bs at c reads h.count_state h.limits_left in
    let known : c ≡ alien → ⊥ = not_alien h.form_state_left form.0 c form.1 in
    let rest-is : table_tail (table_commands (drop at bs)) ≡ with_command c (table_tail (table_commands (drop (at + table_width c) bs)))
    = ap table_tail reads.reads ∙ ap (λ cs. with_command c (table_tail cs)) (reads.onward known) in
    let put = put_loaded c form.1 limits.1 (subst (λ r. TableSoFar h.form_state_left h.count_state a r (table_of bs)) rest-is h.loaded) in
    record {
      room = put.0;
      moves = some_width c refl;
      next =
          record {
            within = reads.within known;
            form_state_left = form.0;
            count_state = limits.0;
            form_left_lem = form.2;
            limits_left = limits.2;
            loaded = put.1;
          };
    }

pub turn : (bs : List ℕ) (a : TableArrays) (at : ℕ) {c : TableCommand} → at < length bs → c ≡ table_command (raw_at bs at) → TableLoading bs a at → TableTurn bs a at c
turn bs a at {c} more e h = turn_at bs a at c (subst (ReadsAt table_commands table_width alien bs at) (sym e) (table_reads bs at more)) h

-- no command is left unread
pub all_read : (bs : List ℕ) (a : TableArrays) (at : ℕ) → at < length bs → alien ≡ table_command (raw_at bs at) → TableLoading bs a at → ⊥
all_read bs a at more e h =
    let reads : ReadsAt table_commands table_width alien bs at alien = subst (ReadsAt table_commands table_width alien bs at) (sym e) (table_reads bs at more) in
    let form = left_passes table_step table_complete form_stops bs at alien reads h.form_state_left h.form_left_lem in
    not_alien h.form_state_left form.0 alien form.1 refl

-- the invariant behind a command, at the values that the code has
pub turned : {bs rows after : List ℕ} {types more at w : ℕ} {c : TableCommand} → TableTurn bs (loaded_in types rows) at c → TablePut types rows c more after → w ≡ table_width c
    → TableLoading bs (loaded_in more after) (at + w)
turned {bs} {rows} {after} {types} {more} {at} {w} {c} h p q = rw (p.does, q) h.next

-- behind the last command, the number of types stored, the array stands for the whole table
pub loading_ends : {bs : List ℕ} (rows : List ℕ) (types : ℕ) {at : ℕ} → length rows ≡ 1281 → length bs ≤ at → TableLoading bs (loaded_in types rows) at → TableLoaded bs (set rows 1280 types)
unfolding table_in table_tail
loading_ends {bs} rows types {at} size last h =
    let a = loaded_in types rows in
    let after = set rows 1280 types in
    let shaped = h.loaded.shaped in
    let nothing_left : table_tail (table_commands (drop at bs)) ≡ record { members = []; kinds = [] }
    = ap table_tail (ap table_commands (drop_of_length-le bs last) ∙ no_table_commands) in
    let number : types_in after ≡ types = get_or-set_same rows 1280 types 0 (omega arith) in
    let kinds_kept : kinds_of after ≡ kinds_of rows = section-kept 0 64 rows 1280 types (inr (omega arith)) in
    let counts-kept : counts_of after ≡ counts_of rows = section-kept 64 64 rows 1280 types (inr (omega arith)) in
    let members_kept : members_in after ≡ members_in rows = section-kept 256 1024 rows 1280 types (inr (omega arith)) in
    record {
      same_table =
          rw (number, kinds_kept, counts-kept, members_kept)
          (sym (append-nil (table_from a.kinds a.counts a.members 0 types))
          ∙ sym (continued_types a.kinds a.counts a.members types [])
          ∙ sym (ap (continued_by a) nothing_left)
          ∙ h.loaded.whole_table);
      bounded =
          record {
            size = length-set rows 1280 types ∙ size;
            few_types = rw number shaped.few_types;
            few_members = λ t. rw counts-kept (shaped.few_counts t);
          };
    }
