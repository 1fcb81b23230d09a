-- The invariant of `load`: both machines pass what is left of the document, and what is loaded, continued by what is left,
-- is the document's embedding. One command more keeps it.
use mathlib.Core.Path.{◌≡◌, refl, sym, ap, ◌∙◌, subst}
use mathlib.Core.Bool.{Bool, true, false}
use mathlib.Core.List.{List, [], ◌∷◌, map as each, append-nil}
use Prim.Native.Nat.{ℕ, zero, suc, ◌+◌, ◌-◌, ◌*◌, ◌≤◌, ◌<◌}
use native.Mathlib.Nat.{add-zero, zero-add, add-suc, suc-add}
use native.Mathlib.Numerals.{add-one}
use native.Mathlib.Omega.{arith}
use lib.ListN.{length, take, drop, get_or, set, drop_of_length-le}
use lib.Seq.{get_or-set_same, set-get_or, take-length}
use lib.Dec.{ltb}
use borrow.Author.Tests.{ltb-true, ltb-false}
use Rattle.embedding_form.specs.declared.command.EmbeddingCommand as declared
use Rattle.embedding_form.specs.declared.command.EmbeddingCommand.TheVariants as code
use Rattle.embedding_form.specs.Commands.{command}
use Rattle.embedding_form.proofs.Bytes.{at_none}
use Rattle.embedding_form.proofs.Machines.{form_stops, ended_stops, count_stops}
use Rattle.embedding_form.proofs.Forms.{step_on, step_off}
use Rattle.embedding_form.proofs.Turns.{some_width}
use Rattle.loaded_embedding.specs.Loaded.{maps_from, embedding_in, Cleared}
use Rattle.model.specs.Definitions.Basics.{passes, Next, goes, stops, run}
use Rattle.model.specs.Definitions.Commands.{EmbeddingCommand, maps_to, path, step, embedding_end, alien_e, embedding_command, embedding_commands, embedding_width}
use Rattle.model.specs.Definitions.Table.{Table, edges_of}
use Rattle.model.specs.Definitions.Embedding.{Embedding, EmbeddingTail, with_embedding_command, embedding_tail, embedding_of}
use Rattle.model.specs.Definitions.EmbeddingChecks.{EmbeddingState, due, embedding_ended, embedding_step, embedding_complete, embedding_form, step_count, embedding_limits}
use Rattle.model.proofs.Theorems.JudgedTables.{goes_if_lem, pick_passes}
use Rattle.model.proofs.Theorems.Runs.{passes_fails, goes_stops}
use Rattle.model.proofs.Theorems.Tools.{true_false}
use Rattle.model.proofs.Theorems.Reading.{raw_at, ReadsAt, left_stops, left_goes, left_ends, embedding_reads, no_embedding-commands}
use Rattle.embedding_load.specs.Loading.{MapArrays, loaded_in, mapped, begun, stepped, puts, TypeMayFollow, PathMayBegin, StepMayFollow, MapRoom, EmbeddingLoaded}
use Rattle.embedding_load.proofs.Continuation.{continued, edges_due, continued_mapped, continued-begun, continued-stepped, continued_full}
use Rattle.embedding_load.proofs.Shapes.{MapShaped, shaped_cleared, shaped-mapped, shaped_written}
use Rattle.embedding_load.proofs.Sources.{SourceTable, some_bytes, next_type, none_next, operand_behind}

-- ---- the two machines

-- where a machine passes what is left, it goes on from the command there and passes the rest
module _
    {S : Type 0}
    (next : S → EmbeddingCommand → Next S)
    (complete : S → Bool)
    (stops_there : (s : S) → next s alien_e ≡ stops)
    (bs : List ℕ)
    (at : ℕ)
    (c : EmbeddingCommand)
    (reads : ReadsAt embedding_commands embedding_width alien_e bs at c) where
  left_passes : (s : S) → run embedding_width next complete s at (embedding_commands (drop at bs)) ≡ passes
      → (then : S) × (next s c ≡ goes then) × (run embedding_width next complete then (at + embedding_width c) (embedding_commands (drop (at + embedding_width c) bs)) ≡ passes)
  left_passes s p = go (next s c) refl
    where
      go : (n : Next S) → next s c ≡ n
          → (then : S) × (next s c ≡ goes then) × (run embedding_width next complete then (at + embedding_width c) (embedding_commands (drop (at + embedding_width c) bs)) ≡ passes)
      go (goes then) e = (then, e, sym (left_goes embedding_commands embedding_width alien_e next complete stops_there s then reads e) ∙ p)
      go stops e = passes_fails p (left_stops embedding_commands embedding_width alien_e next complete stops_there s reads e)

-- ---- what is loaded at a place

-- the last path has so many steps, which end at an offset
record OnPath (a : MapArrays) (steps at : ℕ) : Type 0 where
  last : ℕ
  edge : ℕ
  is_last : a.maps ≡ suc last
  is_edge : a.edges ≡ suc edge
  so_many : get_or a.lengths (last * 16 + edge) 0 ≡ steps
  ends_here : at ≡ get_or a.starts (last * 16 + edge) 0 + 1 + 2 * steps

-- what a state of the form's machine says: the types to come, the paths due of the last type, and the path that a step goes on
record Due (S : Table) (a : MapArrays) (k : ℕ) (ns : List ℕ) (on : Bool) (steps at : ℕ) : Type 0 where
  to_come : ns ≡ drop a.maps (each edges_of S)
  counted : a.edges + k ≡ edges_due S a.maps
  on_path : on ≡ true → OnPath a steps at

-- all types are mapped, and the last has all its paths
record Done (S : Table) (a : MapArrays) : Type 0 where
  all_maps : a.maps ≡ length S
  all_edges : a.edges ≡ edges_due S a.maps

abbrev MapState : Table → EmbeddingState → MapArrays → ℕ → ℕ → Type 0
MapState S (due k ns on) a steps at = Due S a k ns on steps at
MapState S embedding_ended a steps at = Done S a

abbrev continued_by : List ℕ → Table → MapArrays → EmbeddingTail → Embedding
continued_by em S a r = continued em S a.maps a.edges a.targets a.starts a.lengths r

-- at an offset, in these states of the machines, the arrays, continued by what r says, are the embedding E
record MapSoFar (em : List ℕ) (S : Table) (s : EmbeddingState) (steps : ℕ) (a : MapArrays) (at : ℕ) (r : EmbeddingTail) (E : Embedding) : Type 0 where
  shaped : MapShaped em a
  few_maps : a.maps ≤ length S
  in_state : MapState S s a steps at
  whole : continued_by em S a r ≡ E

-- the states, known as other terms
loaded_at : {em : List ℕ} {S : Table} {s then : EmbeddingState} {n later : ℕ} {a : MapArrays} {at : ℕ} {r : EmbeddingTail} {E : Embedding}
    → s ≡ then → n ≡ later → MapSoFar em S s n a at r E → MapSoFar em S then later a at r E
loaded_at {em} {S} {s} {then} {n} {later} {a} {at} {r} {E} p q h = subst (λ k. MapSoFar em S then k a at r E) q (subst (λ x. MapSoFar em S x n a at r E) p h)

-- ---- one command

module _ {em : List ℕ} {S : Table} (source : SourceTable em S) where
  -- A type is mapped, where one is to come and no path is due.
  loaded_mapped : {a : MapArrays} {at : ℕ} {r : EmbeddingTail} {E : Embedding} (m : ℕ) (ns : List ℕ) (on : Bool) (steps t : ℕ)
      → MapSoFar em S (due zero (m ∷ ns) on) steps a at (record { steps = []; edges = []; maps = record { target = t; edges = r.edges } ∷ r.maps }) E
      → TypeMayFollow a × MapSoFar em S (due m ns false) 0 (mapped a t) (at + 2) r E
  unfolding mapped edges_due
  loaded_mapped {a} {at} {r} {E} m ns on steps t h =
      let next = next_type S a.maps m ns h.in_state.to_come in
      let there : a.maps < length S = next.there in
      let few : length S ≤ 64 = source.few_types in
      let counted : a.edges ≡ edges_due S a.maps = sym (add-zero a.edges) ∙ h.in_state.counted in
      let room : a.maps < length a.targets = rw h.shaped.targets_long (omega arith) in
      let more = add-one a.maps in (
        record { room = omega arith },
        record {
          shaped = shaped-mapped em a t h.shaped;
          few_maps = omega arith;
          in_state = record { to_come = rw more next.behind; counted = rw more (zero-add m ∙ next.so_many); on_path = λ e. true_false e refl };
          whole =
              ap (λ n. continued em S n 0 (set a.targets a.maps t) a.starts a.lengths r) more
              ∙ continued_mapped em a.targets a.starts a.lengths S source.few_edges a.maps t r room
              ∙ sym (continued_full em a.targets a.starts a.lengths S a.maps a.edges (record { target = t; edges = r.edges } ∷ r.maps) h.few_maps counted)
              ∙ h.whole;
        },
      )

  -- where a path is due, there is a type, with room for it
  some_type : (n e k : ℕ) → e + suc k ≡ edges_due S n → (last : ℕ) × (n ≡ suc last) × (e < 16)
  unfolding edges_due
  some_type zero e k h = absurd (omega arith)
  some_type (suc n) e k h = let few = source.few_edges n in (n, refl, omega arith)

  -- the arrays after a path begins of type l, the last
  begun_is : (a : MapArrays) (at l : ℕ) → a.maps ≡ suc l
      → begun a at
      ≡ record {
        maps = suc l;
        edges = suc a.edges;
        targets = a.targets;
        starts = set a.starts (l * 16 + a.edges) at;
        lengths = set a.lengths (l * 16 + a.edges) 0;
      }
  unfolding begun
  begun_is a at l e = let before : suc l - 1 ≡ l = omega arith in rw (e, before, add-one a.edges) refl

  -- A path begins, where one is due.
  loaded_begun : {a : MapArrays} {at : ℕ} {r : EmbeddingTail} {E : Embedding} (k : ℕ) (ns : List ℕ) (on : Bool) (steps : ℕ) → at < length em
      → MapSoFar em S (due (suc k) ns on) steps a at (record { steps = []; edges = record { at = at; steps = r.steps } ∷ r.edges; maps = r.maps }) E
      → PathMayBegin a at × MapSoFar em S (due k ns true) 0 (begun a at) (at + 1) r E
  loaded_begun {a} {at} {r} {E} k ns on steps inside h =
      let counted = h.in_state.counted in
      let type = some_type a.maps a.edges k counted in
      let l = type.0 in
      let is_last : a.maps ≡ suc l = type.1 in
      let few_edges : a.edges < 16 = type.2 in
      let few : length S ≤ 64 = source.few_types in
      let few_maps = h.few_maps in
      let fits = source.fits in
      let place : l * 16 + a.edges < 1024 = omega arith in
      let in-starts : l * 16 + a.edges < length a.starts = rw h.shaped.starts_long place in
      let in-lengths : l * 16 + a.edges < length a.lengths = rw h.shaped.lengths_long place in
      let start-there = get_or-set_same a.starts (l * 16 + a.edges) at 0 in-starts in
      let is = begun_is a at l is_last in (
        record { some = omega arith; few = omega arith; room = few_edges; fits = omega arith },
        rw is
            record {
              shaped = shaped_written em a h.shaped (l * 16 + a.edges) at 0 place (omega arith) (omega arith) (suc l) (suc a.edges);
              few_maps = omega arith;
              in_state =
                  record {
                    to_come = h.in_state.to_come ∙ ap (λ n. drop n (each edges_of S)) is_last;
                    counted = suc-add a.edges k ∙ sym (add-suc a.edges k) ∙ counted ∙ ap (edges_due S) is_last;
                    on_path =
                        λ e.
                        record {
                          last = l;
                          edge = a.edges;
                          is_last = refl;
                          is_edge = refl;
                          so_many = get_or-set_same a.lengths (l * 16 + a.edges) 0 0 in-lengths;
                          ends_here = rw start-there (omega arith);
                        };
                  };
              whole =
                  continued-begun em a.targets a.starts a.lengths S source.few_edges l a.edges in-lengths at r in-starts
                  ∙ ap (λ n. continued em S n a.edges a.targets a.starts a.lengths (record { steps = []; edges = record { at = at; steps = r.steps } ∷ r.edges; maps = r.maps })) (sym is_last)
                  ∙ h.whole;
            },
      )

  -- the arrays after a step of path e of type l, the last
  stepped_is : (a : MapArrays) (l e : ℕ) → a.maps ≡ suc l → a.edges ≡ suc e
      → stepped a
      ≡ record {
        maps = suc l;
        edges = suc e;
        targets = a.targets;
        starts = a.starts;
        lengths = set a.lengths (l * 16 + e) (get_or a.lengths (l * 16 + e) 0 + 1);
      }
  unfolding stepped
  stepped_is a l e p q = let before : suc l - 1 ≡ l = omega arith in let earlier : suc e - 1 ≡ e = omega arith in rw (p, q, before, earlier) refl

  -- no type has more than 16 paths
  due_few : (n : ℕ) → edges_due S n ≤ 16
  unfolding edges_due
  due_few zero = omega arith
  due_few (suc n) = source.few_edges n

  -- A step is taken on a path.
  loaded_stepped : {a : MapArrays} {at : ℕ} {r : EmbeddingTail} {E : Embedding} (k : ℕ) (ns : List ℕ) (steps p : ℕ)
      → at + 2 ≤ length em → get_or em (suc at) 0 ≡ p → steps < 12
      → MapSoFar em S (due k ns true) steps a at (record { steps = p ∷ r.steps; edges = r.edges; maps = r.maps }) E
      → StepMayFollow a × MapSoFar em S (due k ns true) (suc steps) (stepped a) (at + 2) r E
  loaded_stepped {a} {at} {r} {E} k ns steps p inside reads few-steps h =
      let on = h.in_state.on_path refl in
      let l = on.last in
      let e = on.edge in
      let is_last : a.maps ≡ suc l = on.is_last in
      let is_edge : a.edges ≡ suc e = on.is_edge in
      let so_many : get_or a.lengths (l * 16 + e) 0 ≡ steps = on.so_many in
      let ends_here : at ≡ get_or a.starts (l * 16 + e) 0 + 1 + 2 * steps = on.ends_here in
      let counted = h.in_state.counted in
      let few_edges : a.edges ≤ 16 = omega (arith, due_few a.maps) in
      let few : length S ≤ 64 = source.few_types in
      let few_maps = h.few_maps in
      let place : l * 16 + e < 1024 = omega arith in
      let in-lengths : l * 16 + e < length a.lengths = rw h.shaped.lengths_long place in
      let last-place : (a.maps - 1) * 16 + (a.edges - 1) ≡ l * 16 + e = omega arith in
      let count-there : get_or a.lengths ((a.maps - 1) * 16 + (a.edges - 1)) 0 ≡ steps = ap (λ i. get_or a.lengths i 0) last-place ∙ so_many in
      let written = shaped_written em a h.shaped (l * 16 + e) (get_or a.starts (l * 16 + e) 0) (get_or a.lengths (l * 16 + e) 0 + 1) place (omega arith) (omega arith) (suc l) (suc e) in
      let operand : get_or a.starts (l * 16 + e) 0 + 2 + 2 * get_or a.lengths (l * 16 + e) 0 ≡ suc at = omega arith in (
        record { some = omega arith; few = omega arith; some_edge = omega arith; few_edges = few_edges; room = omega arith },
        rw (stepped_is a l e is_last is_edge)
            record {
              shaped = rw (set-get_or a.starts (l * 16 + e) 0) at written;
              few_maps = omega arith;
              in_state =
                  record {
                    to_come = h.in_state.to_come ∙ ap (λ n. drop n (each edges_of S)) is_last;
                    counted = ap (λ n. n + k) (sym is_edge) ∙ counted ∙ ap (edges_due S) is_last;
                    on_path =
                        λ same.
                        record {
                          last = l;
                          edge = e;
                          is_last = refl;
                          is_edge = refl;
                          so_many = get_or-set_same a.lengths (l * 16 + e) (get_or a.lengths (l * 16 + e) 0 + 1) 0 in-lengths ∙ add-one (get_or a.lengths (l * 16 + e) 0) ∙ ap suc so_many;
                          ends_here = omega arith;
                        };
                  };
              whole =
                  continued-stepped em a.targets a.starts a.lengths S source.few_edges l e in-lengths p r (ap (λ i. get_or em i 0) operand ∙ reads)
                  ∙ rw (← is_last, ← is_edge) h.whole;
            },
      )

  -- Where all types are mapped and the last has all its paths, the end leaves all as it is.
  loaded_ended : {a : MapArrays} {at : ℕ} {r : EmbeddingTail} {E : Embedding} (on : Bool) (steps : ℕ)
      → MapSoFar em S (due zero [] on) steps a at r E → MapSoFar em S embedding_ended steps a (at + 1) r E
  loaded_ended {a} {at} {r} {E} on steps h =
      let past = none_next S a.maps h.in_state.to_come in
      let few_maps = h.few_maps in
      record {
        shaped = h.shaped;
        few_maps = few_maps;
        in_state = record { all_maps = omega arith; all_edges = sym (add-zero a.edges) ∙ h.in_state.counted };
        whole = h.whole;
      }

  -- A command that both machines take has room in the arrays, and leaves the embedding that they stand for.
  put_loaded : (c : EmbeddingCommand) (s : EmbeddingState) {then : EmbeddingState} {n later : ℕ} {a : MapArrays} {at : ℕ} {r : EmbeddingTail} {E : Embedding}
      → at < length em → at + embedding_width c ≤ length em → c ≡ embedding_command (raw_at em at)
      → embedding_step s c ≡ goes then → step_count n c ≡ goes later → MapSoFar em S s n a at (with_embedding_command at c r) E
      → MapRoom a at c × MapSoFar em S then later (puts a at c) (at + embedding_width c) r E
  unfolding embedding_step step_count with_embedding_command puts embedding_width
  put_loaded c embedding_ended inside ends reads e f h = goes_stops e (ended_stops c)
  put_loaded (maps_to t) (due zero [] on) inside ends reads e f h = goes_stops e refl
  put_loaded (maps_to t) (due zero (m ∷ ns) on) {then} {n} {later} inside ends reads e f h =
      let same-state : due m ns false ≡ then = cc in
      let same_count : 0 ≡ later = cc in
      let put = loaded_mapped m ns on n t h in
      (put.0, loaded_at same-state same_count put.1)
  put_loaded (maps_to t) (due (suc k) ns on) inside ends reads e f h = goes_stops e refl
  put_loaded path (due zero [] on) inside ends reads e f h = goes_stops e refl
  put_loaded path (due zero (m ∷ ns) on) inside ends reads e f h = goes_stops e refl
  put_loaded path (due (suc k) ns on) {then} {n} {later} inside ends reads e f h =
      let same-state : due k ns true ≡ then = cc in
      let same_count : 0 ≡ later = cc in
      let put = loaded_begun k ns on n inside h in
      (put.0, loaded_at same-state same_count put.1)
  put_loaded (step p) (due k ns false) inside ends reads e f h = goes_stops e (sym (step_off ns false k p refl))
  put_loaded (step p) (due k ns true) {then} {n} {later} {a} {at} inside ends reads e f h =
      let same-goes : goes (due k ns true) ≡ goes then = step_on ns true k p refl ∙ e in
      let same-state : due k ns true ≡ then = cc in
      let count = goes_if_lem (ltb n 12) (suc n) f in
      let put = loaded_stepped k ns n p ends (operand_behind em at p reads) (ltb-true n 12 count.0) h in
      (put.0, loaded_at same-state count.1 put.1)
  put_loaded embedding_end (due zero [] on) {then} {n} {later} inside ends reads e f h =
      let same-state : embedding_ended ≡ then = cc in
      let same_count : n ≡ later = cc in
      (tt, loaded_at same-state same_count (loaded_ended on n h))
  put_loaded embedding_end (due zero (m ∷ ns) on) inside ends reads e f h = goes_stops e refl
  put_loaded embedding_end (due (suc k) ns on) inside ends reads e f h = goes_stops e refl
  put_loaded alien_e (due k ns on) inside ends reads e f h = goes_stops f refl

-- ---- the loop

-- what holds at offset `at` of the document em with the arrays a loaded
pub record EmbeddingLoading (em : List ℕ) (S : Table) (a : MapArrays) (at : ℕ) : Type 0 where
  pub within : at ≤ length em
  source : SourceTable em S
  form_state_left : EmbeddingState
  count_state : ℕ
  form_left_lem : run embedding_width embedding_step embedding_complete form_state_left at (embedding_commands (drop at em)) ≡ passes
  limits_left : run embedding_width step_count (λ n. true) count_state at (embedding_commands (drop at em)) ≡ passes
  loaded : MapSoFar em S form_state_left count_state a at (embedding_tail at (embedding_commands (drop at em))) (embedding_of em)

pub loading_starts : {em : List ℕ} {S : Table} (map : List ℕ) → Cleared map → SourceTable em S → embedding_form S em ≡ passes → embedding_limits em ≡ passes → EmbeddingLoading em S (loaded_in 0 0 map) 0
unfolding embedding_form embedding_limits embedding_of continued edges_due
loading_starts {em} {S} map cleared source form limits =
    record {
      within = omega arith;
      source = source;
      form_state_left = due 0 (each edges_of S) false;
      count_state = 0;
      form_left_lem = form;
      limits_left = limits;
      loaded =
          record {
            shaped = shaped_cleared em map (some_bytes S em form) cleared;
            few_maps = omega arith;
            in_state = record { to_come = refl; counted = refl; on_path = λ same. true_false same refl };
            whole = refl;
          };
    }

-- what a turn needs and gives
pub record EmbeddingTurn (em : List ℕ) (S : Table) (a : MapArrays) (at : ℕ) (c : EmbeddingCommand) : Type 0 where
  pub room : MapRoom a at c
  pub moves : 0 < embedding_width c
  pub next : EmbeddingLoading em S (puts a at c) (at + embedding_width c)

-- a command that the form's machine takes is not alien
not_alien : (s then : EmbeddingState) (c : EmbeddingCommand) → embedding_step s c ≡ goes then → c ≡ alien_e → ⊥
not_alien s then c e same = goes_stops (rw same at e) (form_stops s)

-- One command is put: the loop's invariant holds behind it.
turn_at : (em : List ℕ) (S : Table) (a : MapArrays) (at : ℕ) (c : EmbeddingCommand) → at < length em → c ≡ embedding_command (raw_at em at)
    → ReadsAt embedding_commands embedding_width alien_e em at c → EmbeddingLoading em S a at → EmbeddingTurn em S a at c
unfolding embedding_tail
turn_at em S a at c more is reads h =
    let form = left_passes embedding_step embedding_complete form_stops em at c reads h.form_state_left h.form_left_lem in
    let limits = left_passes step_count (λ n. true) count_stops em at c reads h.count_state h.limits_left in
    let known : c ≡ alien_e → ⊥ = not_alien h.form_state_left form.0 c form.1 in
    let rest-is : embedding_tail at (embedding_commands (drop at em)) ≡ with_embedding_command at c (embedding_tail (at + embedding_width c) (embedding_commands (drop (at + embedding_width c) em)))
    = ap (embedding_tail at) reads.reads ∙ ap (λ cs. with_embedding_command at c (embedding_tail (at + embedding_width c) cs)) (reads.onward known) in
    let put = put_loaded h.source c h.form_state_left more (reads.within known) is form.1 limits.1 (subst (λ r. MapSoFar em S h.form_state_left h.count_state a at r (embedding_of em)) rest-is h.loaded) in
    record {
      room = put.0;
      moves = some_width c;
      next =
          record {
            within = reads.within known;
            source = h.source;
            form_state_left = form.0;
            count_state = limits.0;
            form_left_lem = form.2;
            limits_left = limits.2;
            loaded = put.1;
          };
    }

pub turn : {em : List ℕ} {S : Table} {a : MapArrays} {at : ℕ} {c : EmbeddingCommand} → at < length em → c ≡ embedding_command (raw_at em at) → EmbeddingLoading em S a at → EmbeddingTurn em S a at c
turn {em} {S} {a} {at} {c} more e h = turn_at em S a at c more e (subst (ReadsAt embedding_commands embedding_width alien_e em at) (sym e) (embedding_reads em at more)) h

-- a command that is read stands before the end
pub command_stands : (em : List ℕ) (at : ℕ) (c : declared.EmbeddingCommand) → command c ≡ embedding_command (raw_at em at) → at < length em
command_stands em at c e = go (ltb at (length em)) refl
  where
    known : (c : declared.EmbeddingCommand) → command c ≡ alien_e → ⊥
    known (code.MapsTo t) e = let z : ◌≡◌ {A = ℕ} 0 1 = cc in absurd (omega arith)
    known code.Path e = let z : ◌≡◌ {A = ℕ} 0 1 = cc in absurd (omega arith)
    known (code.Step p) e = let z : ◌≡◌ {A = ℕ} 0 1 = cc in absurd (omega arith)
    known code.End e = let z : ◌≡◌ {A = ℕ} 0 1 = cc in absurd (omega arith)

    go : (b : Bool) → ltb at (length em) ≡ b → at < length em
    go true q = ltb-true at (length em) q
    go false q = absurd (known c (e ∙ sym (at_none em at (ltb-false at (length em) q))))

-- where none is read, the document has ended
pub none_stands : (em : List ℕ) (S : Table) (a : MapArrays) (at : ℕ) → alien_e ≡ embedding_command (raw_at em at) → EmbeddingLoading em S a at → length em ≤ at
none_stands em S a at e h = go (ltb at (length em)) refl
  where
    go : (b : Bool) → ltb at (length em) ≡ b → length em ≤ at
    go true q =
        let reads = subst (ReadsAt embedding_commands embedding_width alien_e em at) (sym e) (embedding_reads em at (ltb-true at (length em) q)) in
        let form = left_passes embedding_step embedding_complete form_stops em at alien_e reads h.form_state_left h.form_left_lem in
        absurd (not_alien h.form_state_left form.0 alien_e form.1 refl)
    go false q = ltb-false at (length em) q

-- the invariant behind a command, at the values that the code has
pub turned : {em : List ℕ} {S : Table} {a : MapArrays} {at : ℕ} {c : EmbeddingCommand} {r : MapArrays} {w : ℕ} → EmbeddingTurn em S a at c → r ≡ puts a at c → w ≡ embedding_width c → EmbeddingLoading em S r (at + w)
turned h p q = rw (p, q) h.next

-- in the last state all types are mapped
done_there : (S : Table) (s : EmbeddingState) (a : MapArrays) (steps at : ℕ) → embedding_complete s ≡ true → MapState S s a steps at → Done S a
unfolding embedding_complete
done_there S (due k ns on) a steps at e h = true_false e refl
done_there S embedding_ended a steps at e h = h

-- behind the last command the array stands for the whole embedding
pub loading_ends : {em : List ℕ} {S : Table} (maps edges : ℕ) (map : List ℕ) {at : ℕ} → length em ≤ at → length map ≡ 2112 → EmbeddingLoading em S (loaded_in maps edges map) at → EmbeddingLoaded em S map
unfolding embedding_in embedding_tail
loading_ends {em} {S} maps edges map {at} last size h =
    let a = loaded_in maps edges map in
    let shaped = h.loaded.shaped in
    let ended = sym (left_ends embedding_commands embedding_width alien_e embedding_step embedding_complete form_stops no_embedding-commands em h.form_state_left at last) ∙ h.form_left_lem in
    let done = done_there S h.form_state_left a h.count_state at (pick_passes (embedding_complete h.form_state_left) passes at ended).0 h.loaded.in_state in
    let nothing_left : embedding_tail at (embedding_commands (drop at em)) ≡ record { steps = []; edges = []; maps = [] }
    = ap (embedding_tail at) (ap embedding_commands (drop_of_length-le em last) ∙ no_embedding-commands) in
    let all_types : take a.maps S ≡ S = ap (λ n. take n S) done.all_maps ∙ take-length S in
    record {
      same_embedding =
          ap (maps_from em a.targets a.starts a.lengths 0) (sym all_types)
          ∙ sym (append-nil (maps_from em a.targets a.starts a.lengths 0 (take a.maps S)))
          ∙ sym (continued_full em a.targets a.starts a.lengths S a.maps a.edges [] h.loaded.few_maps done.all_edges)
          ∙ sym (ap (continued_by em S a) nothing_left)
          ∙ h.loaded.whole;
      bounded = record { size = size; short = shaped.short; within = shaped.within; document_short = h.source.fits };
    }
