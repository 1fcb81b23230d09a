-- For code that reads a document command by command: the command at an offset, and a machine's run over what is left from
-- there. "What is left gives the whole": each turn of a loop takes one command off the front and keeps the verdict.
use Rattle.std.specs.Prelude.{◌≡◌, Bool, true, false, List, [], ◌∷◌, map, ℕ, suc, ◌+◌, ◌≤◌, ◌<◌, length, drop, get_or, ltb}
use Rattle.std.proofs.Math.Path.{refl}
use Rattle.std.proofs.Common.{ap, add-one, arith, drop_of_length-le, drop-cons, ltb-true, ltb-false}
use Rattle.std.proofs.Math.Numerals.{add-two}
use Rattle.model.specs.Definitions.Basics.{pick, Verdict, passes, fails, Next, goes, stops, proceed, run}
use Rattle.model.specs.Definitions.Commands.{Command, bare, paired, cut, takes_operand, last_command, first_command, commands, alien, table_command, table_commands, table_width, alien_e, embedding_command, embedding_commands, embedding_width, alien_t, tree_command, tree_commands, tree_width}
use Rattle.model.proofs.Theorems.Runs.{goes_stops}

-- ---- the command at an offset

-- with its operand, if there is one; `more` says whether a byte follows
unfoldable pub raw_with : Bool → Bool → ℕ → ℕ → Command
raw_with false more b t = bare b
raw_with true true b t = paired b t
raw_with true false b t = cut b

-- the command that stands at an offset of a document
unfoldable pub raw_at : List ℕ → ℕ → Command
raw_at bs at = raw_with (takes_operand (get_or bs at 0)) (ltb (suc at) (length bs)) (get_or bs at 0) (get_or bs (suc at) 0)

-- how many bytes it takes
unfoldable pub raw_width : Command → ℕ
raw_width (bare b) = 1
raw_width (paired b t) = 2
raw_width (cut b) = 1

commands_bare : (b : ℕ) (rest : List ℕ) → takes_operand b ≡ false → commands (b ∷ rest) ≡ bare b ∷ commands rest
unfolding commands last_command first_command
commands_bare b [] e = rw e
commands_bare b (t ∷ rest) e = rw e

commands_paired : (b t : ℕ) (rest : List ℕ) → takes_operand b ≡ true → commands (b ∷ t ∷ rest) ≡ paired b t ∷ commands rest
unfolding commands first_command
commands_paired b t rest e = rw e

commands_cut : (b : ℕ) → takes_operand b ≡ true → commands (b ∷ []) ≡ cut b ∷ []
unfolding commands last_command
commands_cut b e = rw e

commands_none : commands [] ≡ []
unfolding commands
commands_none = refl

-- the commands from an offset on: the one that stands there, and those from behind it
pub commands_at : (bs : List ℕ) (at : ℕ) → at < length bs → commands (drop at bs) ≡ raw_at bs at ∷ commands (drop (at + raw_width (raw_at bs at)) bs)
unfolding raw_at raw_with raw_width
commands_at bs at h = go (takes_operand (get_or bs at 0)) refl (ltb (suc at) (length bs)) refl
  where
    b : ℕ
    b = get_or bs at 0

    here : drop at bs ≡ b ∷ drop (suc at) bs
    here = drop-cons bs at 0 h

    go : (o : Bool) → takes_operand b ≡ o → (m : Bool) → ltb (suc at) (length bs) ≡ m
        → commands (drop at bs) ≡ raw_with (takes_operand b) (ltb (suc at) (length bs)) b (get_or bs (suc at) 0) ∷ commands (drop (at + raw_width (raw_with (takes_operand b) (ltb (suc at) (length bs)) b (get_or bs (suc at) 0))) bs)
    go false e m f = rw (e, here, add-one at) (commands_bare b (drop (suc at) bs) e)
    go true e true f =
        let there : drop (suc at) bs ≡ get_or bs (suc at) 0 ∷ drop (suc (suc at)) bs = drop-cons bs (suc at) 0 (ltb-true _ _ f) in
        rw (e, f, here, there, add-two at) (commands_paired b (get_or bs (suc at) 0) (drop (suc (suc at)) bs) e)
    go true e false f =
        let there : drop (suc at) bs ≡ [] = drop_of_length-le bs (ltb-false _ _ f) in
        rw (e, f, here, add-one at, there, commands_none) (commands_cut b e)

-- ---- a machine's run over what is left

-- What a reader of one kind of document knows of the command c at an offset: it is the first of the commands from there on;
-- and where it is not alien, the others are those from behind it.
pub record ReadsAt {C : Type 0} (cs : List ℕ → List C) (width : C → ℕ) (alien-one : C) (bs : List ℕ) (at : ℕ) (c : C) : Type 0 where
  pub rest : List C
  pub reads : cs (drop at bs) ≡ c ∷ rest
  pub onward : (c ≡ alien-one → ⊥) → rest ≡ cs (drop (at + width c) bs)
  pub within : (c ≡ alien-one → ⊥) → at + width c ≤ length bs

module _
    {C S : Type 0}
    (cs : List ℕ → List C)
    (width : C → ℕ)
    (alien-one : C)
    (step : S → C → Next S)
    (complete : S → Bool)
    (stops_there : (s : S) → step s alien-one ≡ stops) where
  -- the verdict of what is left from an offset on
  abbrev pub left : List ℕ → S → ℕ → Verdict
  left bs s at = run width step complete s at (cs (drop at bs))

  -- a command that the machine refuses is the verdict
  pub left_stops : {bs : List ℕ} {at : ℕ} {c : C} (s : S) → ReadsAt cs width alien-one bs at c → step s c ≡ stops → left bs s at ≡ fails at
  unfolding run proceed
  left_stops s r e = rw (r.reads, e)

  -- one that it goes on from leaves the verdict to what is behind it
  pub left_goes : {bs : List ℕ} {at : ℕ} {c : C} (s t : S) → ReadsAt cs width alien-one bs at c → step s c ≡ goes t → left bs s at ≡ left bs t (at + width c)
  unfolding run proceed
  left_goes {bs} {at} {c} s t r e = rw (r.reads, e, r.onward (known-here s t c e)) refl
    where
      known-here : (s t : S) (c : C) → step s c ≡ goes t → c ≡ alien-one → ⊥
      known-here s t c e same = goes_stops (rw same at e) (stops_there s)

  -- it stays within the document
  pub goes_within : {bs : List ℕ} {at : ℕ} {c : C} (s t : S) → ReadsAt cs width alien-one bs at c → step s c ≡ goes t → at + width c ≤ length bs
  goes_within s t r e = r.within (λ same. goes_stops (rw same at e) (stops_there s))

  -- at the end the state decides
  pub left_ends : (none_left : cs [] ≡ []) (bs : List ℕ) (s : S) (at : ℕ) → length bs ≤ at → left bs s at ≡ pick (complete s) passes (fails at)
  unfolding run
  left_ends none_left bs s at h = rw (drop_of_length-le bs h, none_left)

-- ---- the three kinds of document

-- the command at an offset keeps within the document
raw_within : (bs : List ℕ) (at : ℕ) → at < length bs → at + raw_width (raw_at bs at) ≤ length bs
unfolding raw_at raw_with raw_width
raw_within bs at h = go (takes_operand (get_or bs at 0)) refl (ltb (suc at) (length bs)) refl
  where
    go : (o : Bool) → takes_operand (get_or bs at 0) ≡ o → (m : Bool) → ltb (suc at) (length bs) ≡ m
        → at + raw_width (raw_with (takes_operand (get_or bs at 0)) (ltb (suc at) (length bs)) (get_or bs at 0) (get_or bs (suc at) 0)) ≤ length bs
    go false e m f = rw e (omega arith)
    go true e true f = let more : suc at < length bs = ltb-true (suc at) (length bs) f in rw (e, f) (omega arith)
    go true e false f = rw (e, f) (omega arith)

-- commands of one kind, named by `of`, whose widths are those of the bytes
module _
    {C : Type 0}
    (of : Command → C)
    (width : C → ℕ)
    (alien-one : C)
    (same_width_lem : (raw : Command) → (of raw ≡ alien-one → ⊥) → width (of raw) ≡ raw_width raw) where
  pub reads_at : (bs : List ℕ) (at : ℕ) → at < length bs → ReadsAt (λ l. map of (commands l)) width alien-one bs at (of (raw_at bs at))
  reads_at bs at h =
      record {
        rest = map of (commands (drop (at + raw_width (raw_at bs at)) bs));
        reads = ap (map of) (commands_at bs at h);
        onward = λ known. rw (same_width_lem (raw_at bs at) known);
        within = λ known. rw (same_width_lem (raw_at bs at) known) (raw_within bs at h);
      }

pick_width : {C : Type 0} (width : C → ℕ) (n : ℕ) (b : Bool) {x y : C} → width x ≡ n → width y ≡ n → width (pick b x y) ≡ n
unfolding pick
pick_width width n true p q = p
pick_width width n false p q = q

-- an operand's command is alien, or two bytes wide
paired_width : {C : Type 0} (width : C → ℕ) (alien-one : C) (a b : Bool) {x y : C} → width x ≡ 2 → width y ≡ 2
    → (pick a x (pick b y alien-one) ≡ alien-one → ⊥) → width (pick a x (pick b y alien-one)) ≡ 2
unfolding pick
paired_width width alien-one true b p q known = p
paired_width width alien-one false true p q known = q
paired_width width alien-one false false p q known = absurd (known refl)

table_width_lem : (raw : Command) → (table_command raw ≡ alien → ⊥) → table_width (table_command raw) ≡ raw_width raw
unfolding table_command table_width raw_width
table_width_lem (bare b) known =
    pick_width table_width 1 _ refl (pick_width table_width 1 _ refl (pick_width table_width 1 _ refl (pick_width table_width 1 _ refl (pick_width table_width 1 _ refl (pick_width table_width 1 _ refl refl)))))
table_width_lem (paired b t) known = paired_width table_width alien _ _ refl refl known
table_width_lem (cut b) known = absurd (known refl)

embedding_width_lem : (raw : Command) → (embedding_command raw ≡ alien_e → ⊥) → embedding_width (embedding_command raw) ≡ raw_width raw
unfolding embedding_command embedding_width raw_width
embedding_width_lem (bare b) known = pick_width embedding_width 1 _ refl (pick_width embedding_width 1 _ refl refl)
embedding_width_lem (paired b t) known = paired_width embedding_width alien_e _ _ refl refl known
embedding_width_lem (cut b) known = absurd (known refl)

tree_width_lem : (raw : Command) → (tree_command raw ≡ alien_t → ⊥) → tree_width (tree_command raw) ≡ raw_width raw
unfolding tree_command tree_width raw_width
tree_width_lem (bare b) known = pick_width tree_width 1 _ refl (pick_width tree_width 1 _ refl refl)
tree_width_lem (paired b t) known = paired_width tree_width alien_t _ _ refl refl known
tree_width_lem (cut b) known = absurd (known refl)

-- reading a table, an embedding, a tree
pub table_reads : (bs : List ℕ) (at : ℕ) → at < length bs → ReadsAt table_commands table_width alien bs at (table_command (raw_at bs at))
unfolding table_commands
table_reads = reads_at table_command table_width alien table_width_lem

pub embedding_reads : (bs : List ℕ) (at : ℕ) → at < length bs → ReadsAt embedding_commands embedding_width alien_e bs at (embedding_command (raw_at bs at))
unfolding embedding_commands
embedding_reads = reads_at embedding_command embedding_width alien_e embedding_width_lem

pub tree_reads : (bs : List ℕ) (at : ℕ) → at < length bs → ReadsAt tree_commands tree_width alien_t bs at (tree_command (raw_at bs at))
unfolding tree_commands
tree_reads = reads_at tree_command tree_width alien_t tree_width_lem

pub no_table_commands : table_commands [] ≡ []
unfolding table_commands
no_table_commands = ap (map table_command) commands_none

pub no_embedding-commands : embedding_commands [] ≡ []
unfolding embedding_commands
no_embedding-commands = ap (map embedding_command) commands_none

pub no_tree-commands : tree_commands [] ≡ []
unfolding tree_commands
no_tree-commands = ap (map tree_command) commands_none
