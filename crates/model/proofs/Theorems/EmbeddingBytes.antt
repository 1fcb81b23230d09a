-- Embeddings as bytes: the bytes of an embedding determine it, and bytes of the right form are those of an embedding. Which embeddings'
-- bytes pass checks 2 to 4, how long these bytes are, and where in them the paths stand.
use Rattle.std.specs.Prelude.{◌≡◌, Bool, true, false, List, [], ◌∷◌, ◌++◌, map, ◌⊎◌, ℕ, zero, suc, ◌+◌, ◌*◌, ◌≤◌, ◌<◌, length, get_or, drop}
use Rattle.std.proofs.Math.Path.{refl}
use Rattle.std.proofs.Common.{sym, ap, ◌∙◌, append_assoc, inl, inr, arith, length-append, drop_at, lt-ltb}
use Rattle.std.proofs.Math.Option.{some}
use Rattle.model.specs.Definitions.Basics.{passes, goes, stops, proceed, run, pick, goes_if, entry}
use Rattle.model.specs.Definitions.Commands.{EmbeddingCommand, maps_to, path, step, embedding_end, alien_e, embedding_commands, embedding_width}
use Rattle.model.specs.Definitions.Table.{Kind, Table, edges_of}
use Rattle.model.specs.Definitions.Embedding.{Edge, Embedding, no_map, EmbeddingTail, with_embedding_command, embedding_tail, embedding_of}
use Rattle.model.specs.Definitions.EmbeddingChecks.{EmbeddingState, due, embedding_ended, embedding_step, embedding_complete, embedding_form, max_steps, step_count, embedding_limits, Reached, reaches, path_step, embedding_operands}
use Rattle.model.specs.Definitions.ValidEmbedding.{MappedType, PathMapping, without_offsets, mapping_in, mapping_of, step_bytes, path_bytes, embedding_bytes}
use Rattle.model.proofs.Theorems.Facts.{Walks, arrived, onward, Along, along_none, along_both, All, all_none, all_more}
use Rattle.model.proofs.Theorems.Tools.{true_false, some_none}
use Rattle.model.proofs.Theorems.Runs.{goes_stops, run_passes}
use Rattle.model.proofs.Theorems.Bytes.{encode_by, commands_encode, encode_commands}
use Rattle.model.proofs.Theorems.Spellings.{embedding_spelled, embedding_spelling}
use Rattle.model.proofs.Theorems.JudgedTables.{goes_if_lem, run_holds}

-- ---- an embedding as commands

-- the steps of a path, then other commands
unfoldable steps_then : List ℕ → List EmbeddingCommand → List EmbeddingCommand
steps_then [] cs = cs
steps_then (p ∷ ps) cs = step p ∷ steps_then ps cs

-- the paths of a source type, then other commands
unfoldable paths_then : List (List ℕ) → List EmbeddingCommand → List EmbeddingCommand
paths_then [] cs = cs
paths_then (ps ∷ pss) cs = path ∷ steps_then ps (paths_then pss cs)

-- the commands of an embedding
unfoldable commands_of : PathMapping → List EmbeddingCommand
commands_of [] = embedding_end ∷ []
commands_of (f ∷ M) = maps_to f.target ∷ paths_then f.paths (commands_of M)

abbrev encode : List EmbeddingCommand → List ℕ
encode = encode_by embedding_spelled

-- their bytes are the embedding's bytes
encode_steps : (ps : List ℕ) (cs : List EmbeddingCommand) → encode (steps_then ps cs) ≡ step_bytes ps ++ encode cs
unfolding steps_then encode_by embedding_spelled step_bytes
encode_steps [] cs = refl
encode_steps (p ∷ ps) cs = rw (encode_steps ps cs)

encode_paths : (pss : List (List ℕ)) (cs : List EmbeddingCommand) → encode (paths_then pss cs) ≡ path_bytes pss ++ encode cs
unfolding paths_then encode_by embedding_spelled path_bytes
encode_paths [] cs = refl
encode_paths (ps ∷ pss) cs = rw (encode_steps ps (paths_then pss cs), encode_paths pss cs, append_assoc)

encode_mapping : (M : PathMapping) → encode (commands_of M) ≡ embedding_bytes M
unfolding commands_of encode_by embedding_spelled embedding_bytes
encode_mapping [] = refl
encode_mapping (f ∷ M) = rw (encode_paths f.paths (commands_of M), encode_mapping M)

commands_of_bytes : (M : PathMapping) → embedding_commands (embedding_bytes M) ≡ commands_of M
unfolding embedding_commands
commands_of_bytes M = ap embedding_commands (sym (encode_mapping M)) ∙ commands_encode embedding_spelling (commands_of M)

-- ---- reading what was written

-- the edges of paths whose bytes begin at an offset
unfoldable edges_from : ℕ → List (List ℕ) → List Edge
edges_from at [] = []
edges_from at (ps ∷ pss) = record { at = at; steps = ps } ∷ edges_from (at + length (0x21 ∷ step_bytes ps)) pss

-- an embedding with the offsets of its paths, where its bytes begin at an offset
unfoldable maps_from : ℕ → PathMapping → Embedding
maps_from at [] = []
maps_from at (f ∷ M) =
    record { target = f.target; edges = edges_from (at + 2) f.paths } ∷ maps_from (at + length (0x20 ∷ f.target ∷ path_bytes f.paths)) M

-- what commands say that begin with steps, or with paths, given what those after them say, which stand at offset `then`
tail_steps : (ps : List ℕ) (at then : ℕ) (cs : List EmbeddingCommand) (es : List Edge) (E : Embedding) → at + length (step_bytes ps) ≡ then
    → embedding_tail then cs ≡ record { steps = []; edges = es; maps = E } → embedding_tail at (steps_then ps cs) ≡ record { steps = ps; edges = es; maps = E }
unfolding steps_then step_bytes embedding_tail with_embedding_command embedding_width
tail_steps [] at then cs es E here e = let same : at ≡ then = omega arith in rw same e
tail_steps (p ∷ ps) at then cs es E here e = rw (tail_steps ps (at + 2) then cs es E (omega arith) e)

tail_paths : (pss : List (List ℕ)) (at then : ℕ) (cs : List EmbeddingCommand) (E : Embedding) → at + length (path_bytes pss) ≡ then
    → embedding_tail then cs ≡ record { steps = []; edges = []; maps = E }
    → embedding_tail at (paths_then pss cs) ≡ record { steps = []; edges = edges_from at pss; maps = E }
unfolding paths_then path_bytes embedding_tail with_embedding_command embedding_width edges_from
tail_paths [] at then cs E here e = let same : at ≡ then = omega arith in rw same e
tail_paths (ps ∷ pss) at then cs E here e =
    let behind : ℕ = at + length (0x21 ∷ step_bytes ps) in
    let later = tail_paths pss behind then cs E (omega (arith, length-append (step_bytes ps) (path_bytes pss))) e in
    rw (tail_steps ps (at + 1) behind (paths_then pss cs) (edges_from behind pss) E (omega arith) later)

tail_mapping : (M : PathMapping) (at : ℕ) → embedding_tail at (commands_of M) ≡ record { steps = []; edges = []; maps = maps_from at M }
unfolding commands_of embedding_tail with_embedding_command embedding_width maps_from
tail_mapping [] at = refl
tail_mapping (f ∷ M) at =
    let behind : ℕ = at + length (0x20 ∷ f.target ∷ path_bytes f.paths) in
    rw (tail_paths f.paths (at + 2) behind (commands_of M) (maps_from behind M) (omega arith) (tail_mapping M behind))

-- bytes of an embedding are read to it, with the offsets of its paths
maps_of_bytes : (M : PathMapping) → embedding_of (embedding_bytes M) ≡ maps_from 0 M
unfolding embedding_of
maps_of_bytes M =
    ap (λ (cs : List EmbeddingCommand). (embedding_tail 0 cs).maps) (commands_of_bytes M) ∙ ap (λ (r : EmbeddingTail). r.maps) (tail_mapping M 0)

-- the offsets left out, the paths and the embedding are as they were
edges_without : (at : ℕ) (pss : List (List ℕ)) → map (λ (e : Edge). e.steps) (edges_from at pss) ≡ pss
unfolding edges_from
edges_without at [] = refl
edges_without at (ps ∷ pss) = rw (edges_without (at + length (0x21 ∷ step_bytes ps)) pss)

maps_without : (at : ℕ) (M : PathMapping) → mapping_in (maps_from at M) ≡ M
unfolding maps_from mapping_in without_offsets
maps_without at [] = refl
maps_without at (f ∷ M) = rw (edges_without (at + 2) f.paths, maps_without (at + length (0x20 ∷ f.target ∷ path_bytes f.paths)) M)

-- reading what was written gives the embedding back, the offsets left out
pub mapping_of_bytes : (M : PathMapping) → mapping_of (embedding_bytes M) ≡ M
unfolding mapping_of
mapping_of_bytes M = ap mapping_in (maps_of_bytes M) ∙ maps_without 0 M

-- ---- what the form check accepts

-- the commands left are the other steps of a path, the k other paths of its type, and the maps of the other types; a step stands
-- only where one may
record Left (k : ℕ) (in_path : Bool) (cs : List EmbeddingCommand) : Type 0 where
  others : List ℕ
  left_paths : List (List ℕ)
  maps_left : PathMapping
  parts : cs ≡ steps_then others (paths_then left_paths (commands_of maps_left))
  paths_due : length left_paths ≡ k
  on_path : in_path ≡ false → others ≡ []

-- what a state of the form's machine leaves to come
abbrev LeftIn : EmbeddingState → List EmbeddingCommand → Type 0
LeftIn (due k ns on_path) cs = Left k on_path cs
LeftIn embedding_ended cs = cs ≡ []

left_step : (s then : EmbeddingState) (c : EmbeddingCommand) (cs : List EmbeddingCommand) → embedding_step s c ≡ goes then → LeftIn then cs → LeftIn s (c ∷ cs)
unfolding embedding_step commands_of paths_then steps_then
left_step (due zero [] on_path) then (maps_to t) cs e h = goes_stops e refl
left_step (due zero (n ∷ ns) on_path) then (maps_to t) cs e h =
    let same : then ≡ due n ns false = cc in
    let l : Left n false cs = rw same at h in
    let rest : cs ≡ paths_then l.left_paths (commands_of l.maps_left) = rw (l.on_path refl) at l.parts in
    record {
      others = [];
      left_paths = [];
      maps_left = record { target = t; paths = l.left_paths } ∷ l.maps_left;
      parts = ap (λ (r : List EmbeddingCommand). maps_to t ∷ r) rest;
      paths_due = refl;
      on_path = λ q. refl;
    }
left_step (due (suc k) ns on_path) then (maps_to t) cs e h = goes_stops e refl
left_step (due zero ns on_path) then path cs e h = goes_stops e refl
left_step (due (suc k) ns on_path) then path cs e h =
    let same : then ≡ due k ns true = cc in
    let l : Left k true cs = rw same at h in
    record {
      others = [];
      left_paths = l.others ∷ l.left_paths;
      maps_left = l.maps_left;
      parts = ap (λ (r : List EmbeddingCommand). path ∷ r) l.parts;
      paths_due = ap suc l.paths_due;
      on_path = λ q. refl;
    }
left_step (due k ns on_path) then (step p) cs e h =
    let facts = goes_if_lem on_path (due k ns true) e in
    let l : Left k true cs = rw (← facts.1) at h in
    record {
      others = p ∷ l.others;
      left_paths = l.left_paths;
      maps_left = l.maps_left;
      parts = ap (λ (r : List EmbeddingCommand). step p ∷ r) l.parts;
      paths_due = l.paths_due;
      on_path = λ q. true_false facts.0 q;
    }
left_step (due zero [] on_path) then embedding_end cs e h =
    let same : then ≡ embedding_ended = cc in
    let nothing : cs ≡ [] = rw same at h in
    record {
      others = [];
      left_paths = [];
      maps_left = [];
      parts = ap (λ (r : List EmbeddingCommand). embedding_end ∷ r) nothing;
      paths_due = refl;
      on_path = λ q. refl;
    }
left_step (due zero (n ∷ ns) on_path) then embedding_end cs e h = goes_stops e refl
left_step (due (suc k) ns on_path) then embedding_end cs e h = goes_stops e refl
left_step (due k ns on_path) then alien_e cs e h = goes_stops e refl
left_step embedding_ended then (maps_to t) cs e h = goes_stops e refl
left_step embedding_ended then path cs e h = goes_stops e refl
left_step embedding_ended then (step p) cs e h = goes_stops e refl
left_step embedding_ended then embedding_end cs e h = goes_stops e refl
left_step embedding_ended then alien_e cs e h = goes_stops e refl

left_end : (s : EmbeddingState) → embedding_complete s ≡ true → LeftIn s []
unfolding embedding_complete
left_end (due k ns on_path) e = true_false e refl
left_end embedding_ended e = refl

-- a list of length 0 is empty
no_entries : {A : Type 0} (xs : List A) → length xs ≡ 0 → xs ≡ []
no_entries [] e = refl
no_entries (x ∷ xs) e = absurd (omega arith)

-- commands that the form accepts are those of an embedding
form_commands : (S : Table) (bs : List ℕ) → embedding_form S bs ≡ passes → (M : PathMapping) × (embedding_commands bs ≡ commands_of M)
unfolding embedding_form steps_then paths_then
form_commands S bs e =
    let l : Left 0 false (embedding_commands bs)
    = run_holds embedding_width embedding_step embedding_complete LeftIn left_end left_step (due 0 (map edges_of S) false) 0 (embedding_commands bs) e in
    (l.maps_left, rw (l.on_path refl, no_entries l.left_paths l.paths_due) at l.parts)

-- the form takes nothing alien
pub embedding_alien_stops : (s : EmbeddingState) → embedding_step s alien_e ≡ stops
unfolding embedding_step
embedding_alien_stops (due k ns on_path) = refl
embedding_alien_stops embedding_ended = refl

-- bytes of the right form are those that their embedding writes
pub form_written : (S : Table) (bs : List ℕ) → embedding_form S bs ≡ passes → bs ≡ embedding_bytes (mapping_of bs)
unfolding embedding_form embedding_commands
form_written S bs e =
    let f : (M : PathMapping) × (embedding_commands bs ≡ commands_of M) = form_commands S bs e in
    let taken = run_passes embedding_width embedding_step embedding_complete (due 0 (map edges_of S) false) 0 (embedding_commands bs) e in
    let written : bs ≡ embedding_bytes f.0
    = sym (encode_commands embedding_spelling embedding_step embedding_alien_stops (due 0 (map edges_of S) false) bs taken.1) ∙ ap encode f.1 ∙ encode_mapping f.0 in
    written ∙ ap embedding_bytes (sym (ap mapping_of written ∙ mapping_of_bytes f.0))

-- ---- what passes check 2

-- from a state on the form check passes, wherever the commands stand
abbrev FormPasses : EmbeddingState → List EmbeddingCommand → Type 0
FormPasses s cs = (at : ℕ) → run embedding_width embedding_step embedding_complete s at cs ≡ passes

form_steps : (ps : List ℕ) (k : ℕ) (ns : List ℕ) (cs : List EmbeddingCommand) → FormPasses (due k ns true) cs → FormPasses (due k ns true) (steps_then ps cs)
unfolding steps_then run proceed embedding_step goes_if embedding_width
form_steps [] k ns cs h at = h at
form_steps (p ∷ ps) k ns cs h at = form_steps ps k ns cs h (at + 2)

form_paths : (pss : List (List ℕ)) (ns : List ℕ) (cs : List EmbeddingCommand) → ((on_path : Bool) → FormPasses (due 0 ns on_path) cs)
    → (on_path : Bool) → FormPasses (due (length pss) ns on_path) (paths_then pss cs)
unfolding paths_then run proceed embedding_step embedding_width
form_paths [] ns cs h on_path at = h on_path at
form_paths (ps ∷ pss) ns cs h on_path at = form_steps ps (length pss) ns (paths_then pss cs) (form_paths pss ns cs h true) (at + 1)

form_mapping : {S : Table} {M : PathMapping} → Along (λ (κ : Kind) (f : MappedType). length f.paths ≡ edges_of κ) S M
    → (on_path : Bool) → FormPasses (due 0 (map edges_of S) on_path) (commands_of M)
unfolding commands_of run proceed embedding_step embedding_complete embedding_width pick
form_mapping along_none on_path at = refl
form_mapping (along_both {b = f} {xs = S} {ys = M} same later) on_path at =
    rw (← same) (form_paths f.paths (map edges_of S) (commands_of M) (form_mapping later) false (at + 2))

-- check 2 of what was written passes where each source type has a map with a path for each edge
pub form_passes : (S : Table) (M : PathMapping) → Along (λ (κ : Kind) (f : MappedType). length f.paths ≡ edges_of κ) S M
    → embedding_form S (embedding_bytes M) ≡ passes
unfolding embedding_form
form_passes S M h = rw (commands_of_bytes M) (form_mapping h false 0)

-- ---- what passes check 3

-- no path has more than 12 steps
abbrev ShortPaths : List (List ℕ) → Type 0
ShortPaths = All (λ (ps : List ℕ). length ps ≤ 12)

-- check 3 passes, whatever number of steps is counted and wherever the commands stand
abbrev LimitsPass : List EmbeddingCommand → Type 0
LimitsPass cs = (n at : ℕ) → run embedding_width step_count (λ (n : ℕ). true) n at cs ≡ passes

limits_steps : (ps : List ℕ) (cs : List EmbeddingCommand) → LimitsPass cs → (n at : ℕ) → n + length ps ≤ 12
    → run embedding_width step_count (λ (n : ℕ). true) n at (steps_then ps cs) ≡ passes
unfolding steps_then run proceed step_count goes_if embedding_width
limits_steps [] cs h n at short = h n at
limits_steps (p ∷ ps) cs h n at short = rw (lt-ltb n max_steps (omega arith)) (limits_steps ps cs h (suc n) (at + 2) (omega arith))

limits_paths : {pss : List (List ℕ)} (cs : List EmbeddingCommand) → ShortPaths pss → LimitsPass cs → LimitsPass (paths_then pss cs)
unfolding paths_then run proceed step_count embedding_width
limits_paths cs all_none h n at = h n at
limits_paths cs (all_more {a = ps} {xs = pss} short shorts) h n at = limits_steps ps (paths_then pss cs) (limits_paths cs shorts h) 0 (at + 1) (omega arith)

limits_mapping : {M : PathMapping} → All (λ (f : MappedType). ShortPaths f.paths) M → LimitsPass (commands_of M)
unfolding commands_of run proceed step_count embedding_width pick
limits_mapping all_none n at = refl
limits_mapping (all_more {xs = M} short shorts) n at = limits_paths (commands_of M) short (limits_mapping shorts) 0 (at + 2)

-- check 3 of what was written passes where no path has more than 12 steps
pub limits_pass : (M : PathMapping) → All (λ (f : MappedType). All (λ (ps : List ℕ). length ps ≤ 12) f.paths) M
    → embedding_limits (embedding_bytes M) ≡ passes
unfolding embedding_limits
limits_pass M h = rw (commands_of_bytes M) (limits_mapping h 0 0)

-- ---- what passes check 4

module _ (T : Table) where
  -- check 4 passes for a type mapped to `start`, whatever type is reached and wherever the commands stand
  abbrev OperandsPass : ℕ → List EmbeddingCommand → Type 0
  OperandsPass start cs =
      (now at : ℕ) → run embedding_width (path_step T) (λ (r : Reached). true) (record { start = start; now = now }) at cs ≡ passes

  operands_steps : {τ : ℕ} {ps : List ℕ} (start : ℕ) (cs : List EmbeddingCommand) → Walks T τ ps → OperandsPass start cs → (at : ℕ)
      → run embedding_width (path_step T) (λ (r : Reached). true) (record { start = start; now = τ }) at (steps_then ps cs) ≡ passes
  unfolding steps_then run proceed path_step reaches embedding_width
  operands_steps start cs (arrived {τ = τ}) h at = h τ at
  operands_steps start cs (onward leads walks) h at = rw leads (operands_steps start cs walks h (at + 2))

  operands_paths : (τ : ℕ) {pss : List (List ℕ)} (cs : List EmbeddingCommand) → All (Walks T τ) pss → OperandsPass τ cs → OperandsPass τ (paths_then pss cs)
  unfolding paths_then run proceed path_step embedding_width
  operands_paths τ cs all_none h now at = h now at
  operands_paths τ cs (all_more {xs = pss} walks others) h now at =
      operands_steps τ (paths_then pss cs) walks (operands_paths τ cs others h) (at + 1)

  operands_mapping : {M : PathMapping} → All (λ (f : MappedType). (f.target < length T) × All (Walks T f.target) f.paths) M
      → (start : ℕ) → OperandsPass start (commands_of M)
  unfolding commands_of run proceed path_step goes_if embedding_width pick
  operands_mapping all_none start now at = refl
  operands_mapping (all_more {a = f} {xs = M} known others) start now at =
      rw (lt-ltb f.target (length T) known.0)
      (operands_paths f.target (commands_of M) known.1 (operands_mapping others f.target) f.target (at + 2))

-- check 4 of what was written passes where targets and steps exist
pub operands_pass : (T : Table) (M : PathMapping) → All (λ (f : MappedType). (f.target < length T) × All (Walks T f.target) f.paths) M
    → embedding_operands T (embedding_bytes M) ≡ passes
unfolding embedding_operands
operands_pass T M h = rw (commands_of_bytes M) (operands_mapping T h 0 0 0)

-- ---- how long the bytes are

length_steps : (ps : List ℕ) → length (step_bytes ps) ≡ 2 * length ps
unfolding step_bytes
length_steps [] = refl
length_steps (p ∷ ps) = omega (arith, length_steps ps)

length_paths : {pss : List (List ℕ)} → ShortPaths pss → length (path_bytes pss) ≤ 25 * length pss
unfolding path_bytes
length_paths all_none = omega arith
length_paths (all_more {a = ps} {xs = pss} short shorts) =
    omega (arith, length-append (step_bytes ps) (path_bytes pss), length_steps ps, length_paths shorts)

length_mapping : {S : Table} {M : PathMapping} → All (λ (κ : Kind). edges_of κ ≤ 16) S
    → Along (λ (κ : Kind) (f : MappedType). length f.paths ≡ edges_of κ) S M → All (λ (f : MappedType). ShortPaths f.paths) M
    → length (embedding_bytes M) ≤ suc (402 * length S)
unfolding embedding_bytes
length_mapping all_none along_none all_none = omega arith
length_mapping (all_more few fews) (along_both {b = f} {ys = M} same sames) (all_more short shorts) =
    omega (arith, length-append (path_bytes f.paths) (embedding_bytes M), length_paths short, length_mapping fews sames shorts)

-- No embedding that passes checks 2 and 3 for a table of at most 64 types with at most 16 edges each is longer than 25,729 bytes: 64
-- maps of 2 bytes with 16 paths of 25, and 2F.
pub embedding_short : (S : Table) (M : PathMapping) → length S ≤ 64 → All (λ (κ : Kind). edges_of κ ≤ 16) S
    → Along (λ (κ : Kind) (f : MappedType). length f.paths ≡ edges_of κ) S M
    → All (λ (f : MappedType). All (λ (ps : List ℕ). length ps ≤ 12) f.paths) M → length (embedding_bytes M) ≤ 25729
embedding_short S M few edges same short = omega (arith, length_mapping edges same short)

-- ---- where the paths stand

-- in bytes that begin at offset `at` the 21 of an edge stands at its offset, and its steps behind it
record Stands (at : ℕ) (bs : List ℕ) (e : Edge) : Type 0 where
  before : List ℕ
  behind : List ℕ
  parts : bs ≡ before ++ 0x21 ∷ (step_bytes e.steps ++ behind)
  place : e.at ≡ at + length before

-- an edge that stands in bytes stands in them too where others come before
stands_later : (at : ℕ) (xs : List ℕ) {ys : List ℕ} {e : Edge} → Stands (at + length xs) ys e → Stands at (xs ++ ys) e
stands_later at xs {ys} {e} s =
    record {
      before = xs ++ s.before;
      behind = s.behind;
      parts = ap (λ (l : List ℕ). xs ++ l) s.parts ∙ sym (append_assoc xs s.before (0x21 ∷ (step_bytes e.steps ++ s.behind)));
      place = omega (arith, s.place, length-append xs s.before);
    }

edge_stands : (pss : List (List ℕ)) (at : ℕ) (rest : List ℕ) (i : ℕ) (e : Edge) → entry i (edges_from at pss) ≡ some e → Stands at (path_bytes pss ++ rest) e
unfolding edges_from path_bytes entry
edge_stands [] at rest zero e q = some_none q refl
edge_stands [] at rest (suc i) e q = some_none q refl
edge_stands (ps ∷ pss) at rest zero e q = some_none q refl
edge_stands (ps ∷ pss) at rest (suc zero) e q =
    let same : record { at = at; steps = ps } ≡ e = cc in
    let grouped = ap (λ (l : List ℕ). 0x21 ∷ l) (append_assoc (step_bytes ps) (path_bytes pss) rest) in
    rw (← same) (record { before = []; behind = path_bytes pss ++ rest; parts = grouped; place = omega arith })
edge_stands (ps ∷ pss) at rest (suc (suc i)) e q =
    rw (append_assoc (step_bytes ps) (path_bytes pss) rest)
    (stands_later at (0x21 ∷ step_bytes ps) (edge_stands pss _ rest (suc i) e q))

map_stands : (M : PathMapping) (at : ℕ) (s i : ℕ) (e : Edge) → entry i (get_or (maps_from at M) s no_map).edges ≡ some e → Stands at (embedding_bytes M) e
unfolding maps_from embedding_bytes no_map entry
map_stands [] at s zero e q = some_none q refl
map_stands [] at s (suc i) e q = some_none q refl
map_stands (f ∷ M) at zero i e q = stands_later at (0x20 ∷ f.target ∷ []) (edge_stands f.paths (at + 2) (embedding_bytes M) i e q)
map_stands (f ∷ M) at (suc s) i e q = stands_later at (0x20 ∷ f.target ∷ path_bytes f.paths) (map_stands M _ s i e q)

-- bytes of the right form are read to what they write, with the offsets of its paths
maps_of_form : (S : Table) (bs : List ℕ) → embedding_form S bs ≡ passes → embedding_of bs ≡ maps_from 0 (mapping_of bs)
maps_of_form S bs e = ap embedding_of (form_written S bs e) ∙ maps_of_bytes (mapping_of bs)

-- where the form is right, at the offset of each edge stand its 21 and its steps
pub path_stands : (S : Table) (bs : List ℕ) → embedding_form S bs ≡ passes → (s i : ℕ) (e : Edge) → entry i (get_or (embedding_of bs) s no_map).edges ≡ some e
    → (rest : List ℕ) × (drop e.at bs ≡ 0x21 ∷ (step_bytes e.steps ++ rest))
path_stands S bs form s i e q =
    let stands = map_stands (mapping_of bs) 0 s i e (rw (maps_of_form S bs form) at q) in
    let place : length stands.before ≡ e.at = omega (arith, stands.place) in
    (stands.behind, ap (drop e.at) (form_written S bs form ∙ stands.parts) ∙ drop_at stands.before (0x21 ∷ (step_bytes e.steps ++ stands.behind)) e.at place)

-- the edges of paths have their offsets within the paths' bytes
edge_within : (pss : List (List ℕ)) (at i : ℕ) (e : Edge) → entry i (edges_from at pss) ≡ some e → (at ≤ e.at) × (e.at < at + length (path_bytes pss))
unfolding edges_from path_bytes entry
edge_within [] at zero e q = some_none q refl
edge_within [] at (suc i) e q = some_none q refl
edge_within (ps ∷ pss) at zero e q = some_none q refl
edge_within (ps ∷ pss) at (suc zero) e q =
    let same : record { at = at; steps = ps } ≡ e = cc in
    rw (← same) (omega arith, omega arith)
edge_within (ps ∷ pss) at (suc (suc i)) e q =
    let later = edge_within pss _ (suc i) e q in
    (omega (arith, later.0), omega (arith, later.1, length-append (step_bytes ps) (path_bytes pss)))

-- and those of an embedding behind its first byte
map_behind : (M : PathMapping) (at s i : ℕ) (e : Edge) → entry i (get_or (maps_from at M) s no_map).edges ≡ some e → at < e.at
unfolding maps_from no_map entry
map_behind [] at s zero e q = some_none q refl
map_behind [] at s (suc i) e q = some_none q refl
map_behind (f ∷ M) at zero i e q = omega (arith, (edge_within f.paths (at + 2) i e q).0)
map_behind (f ∷ M) at (suc s) i e q = omega (arith, map_behind M _ s i e q)

edges_rise : (pss : List (List ℕ)) (at i j : ℕ) (d e : Edge) → entry i (edges_from at pss) ≡ some d → entry j (edges_from at pss) ≡ some e → i < j → d.at < e.at
unfolding edges_from entry
edges_rise [] at zero j d e p q h = some_none p refl
edges_rise [] at (suc i) j d e p q h = some_none p refl
edges_rise (ps ∷ pss) at zero j d e p q h = some_none p refl
edges_rise (ps ∷ pss) at (suc i) zero d e p q h = absurd (omega arith)
edges_rise (ps ∷ pss) at (suc i) (suc zero) d e p q h = absurd (omega arith)
edges_rise (ps ∷ pss) at (suc zero) (suc (suc j)) d e p q h =
    let first : record { at = at; steps = ps } ≡ d = cc in
    rw (← first) (omega (arith, (edge_within pss _ (suc j) e q).0))
edges_rise (ps ∷ pss) at (suc (suc i)) (suc (suc j)) d e p q h = edges_rise pss _ (suc i) (suc j) d e p q (omega arith)

-- edge i of type s stands before edge j of type u: its type is earlier, or is the same and the edge is earlier in it
abbrev Earlier : ℕ → ℕ → ℕ → ℕ → Type 0
Earlier s i u j = (s < u) ⊎ ((s ≡ u) × (i < j))

earlier_here : {i j : ℕ} → Earlier 0 i 0 j → i < j
earlier_here (inl h) = absurd (omega arith)
earlier_here (inr h) = h.1

earlier_never {ℓ} : {X : Type ℓ} {s i j : ℕ} → Earlier (suc s) i 0 j → X
earlier_never (inl h) = absurd (omega arith)
earlier_never (inr h) = absurd (omega (arith, h.0))

earlier_later : {s i u j : ℕ} → Earlier (suc s) i (suc u) j → Earlier s i u j
earlier_later (inl h) = inl (omega arith)
earlier_later (inr h) = inr (omega (arith, h.0), h.1)

maps_rise : (M : PathMapping) (at s i : ℕ) (d : Edge) (u j : ℕ) (e : Edge)
    → entry i (get_or (maps_from at M) s no_map).edges ≡ some d → entry j (get_or (maps_from at M) u no_map).edges ≡ some e → Earlier s i u j → d.at < e.at
unfolding maps_from no_map entry
maps_rise [] at s zero d u j e p q h = some_none p refl
maps_rise [] at s (suc i) d u j e p q h = some_none p refl
maps_rise (f ∷ M) at zero i d zero j e p q h = edges_rise f.paths (at + 2) i j d e p q (earlier_here h)
maps_rise (f ∷ M) at zero i d (suc u) j e p q h = omega (arith, (edge_within f.paths (at + 2) i d p).1, map_behind M _ u j e q)
maps_rise (f ∷ M) at (suc s) i d zero j e p q h = earlier_never h
maps_rise (f ∷ M) at (suc s) i d (suc u) j e p q h = maps_rise M _ s i d u j e p q (earlier_later h)

-- Where the form is right, offsets rise in the order of the edges: of two paths (of source types s and u, numbered i and j from 1 in
-- their types) the one that stands earlier has the lower offset.
pub offsets_rise : (S : Table) (bs : List ℕ) → embedding_form S bs ≡ passes → (s i : ℕ) (d : Edge) (u j : ℕ) (e : Edge)
    → entry i (get_or (embedding_of bs) s no_map).edges ≡ some d → entry j (get_or (embedding_of bs) u no_map).edges ≡ some e
    → (s < u) ⊎ ((s ≡ u) × (i < j)) → d.at < e.at
offsets_rise S bs form s i d u j e p q h =
    let same = maps_of_form S bs form in
    maps_rise (mapping_of bs) 0 s i d u j e (rw same at p) (rw same at q) h
