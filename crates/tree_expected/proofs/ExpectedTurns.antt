-- The turns of a loop that runs the machines of the four checks: each command leaves what the arrays then stand for. Where the
-- checks before check 11 have passed, they say which commands can come and that there is room.
use mathlib.Core.Path.{◌≡◌, refl, sym, ap, ◌∙◌, subst}
use mathlib.Core.Bool.{Bool, true, false}
use mathlib.Core.List.{List, [], ◌∷◌}
use Prim.Native.Nat.{ℕ, zero, suc, ◌+◌, ◌*◌, ◌-◌, ◌≤◌, ◌<◌}
use native.Mathlib.Numerals.{add-one}
use native.Mathlib.Omega.{arith}
use lib.ListN.{length, drop, get_or, set, length-set}
use lib.Seq.{get_or-set_same, get_or-set_other}
use lib.Dec.{eqb, ltb}
use borrow.Author.Tests.{eqb-true, eqb-false, ltb-true, ltb-false, ne_eqb}
use Rattle.model.specs.Definitions.Basics.{pick, passes, fails, goes, stops, goes_if}
use Rattle.model.specs.Definitions.Commands.{TreeCommand, opens, character, closes, tree_end, alien_t, tree_command, tree_commands, tree_width}
use Rattle.model.specs.Definitions.Table.{Kind, sequence, Table, kind_of}
use Rattle.model.specs.Definitions.Characters.{allowed}
use Rattle.model.specs.Definitions.Conformance.{admits, after}
use Rattle.model.specs.Definitions.TreeChecks.{no_root, tree_step, expect_step, tree_expected}
use Rattle.model.proofs.Theorems.Runs.{passes_fails}
use Rattle.model.proofs.Theorems.Reading.{raw_at, tree_reads, left_stops, left_goes, left_ends, no_tree-commands}
use Rattle.loaded_table.specs.Loaded.{table_by, types_in, kinds_of, counts_of, members_in, kind_of_lem, Bounded}
use Rattle.tree_form.specs.Form.{InForm}
use Rattle.tree_levels.specs.Levels.{InLevels}
use Rattle.std.specs.Prelude.{Option, Some, None}
use Rattle.std.specs.Option.{option_eq}
use Rattle.tree_form.specs.contracts.command.TreeCommandPartialEq.TheImpl.{eq-value}
use Rattle.model.proofs.Theorems.Tools.{true_false}
use Rattle.tree_form.specs.Commands.{read, ReadsCommand}
use Rattle.tree_form.specs.declared.command.TreeCommand as code
use Rattle.tree_form.specs.declared.command.TreeCommand.TheVariants.{Opens, Character, Closes, End}
use Rattle.tree_form.proofs.FormTurns.{form_empty, form_first, form_first_stops, form_short, form_opens, form_character, form_closes, form_end_inside, form_alien_inside, form_root_stops, form_root_end, form_more}
use Rattle.tree_levels.proofs.LevelTurns.{levels_start, levels_opens, levels_deep, levels_character, levels-closed}
use Rattle.tree_operands.proofs.OperandTurns.{operands_start, operands_opens, operands_no_type, operands_character, operands_not_allowed, operands_closes}
use Rattle.tree_expected.specs.declared.Open.{Open}
use Rattle.tree_expected.specs.Expected.{rest_of, TypeReadable, MayOpen, MayHold, Closes as MayClose, Unfit, Refuses, open_at, rests, expected_left, Passed, InRoot, Inside, Outside}
use Rattle.tree_expected.proofs.Rests.{rest_none}

-- ---- the machine of check 11

-- the machine stops at an alien command
expect_alien : (S : Table) (s : List Kind) → expect_step S s alien_t ≡ stops
unfolding expect_step
expect_alien S [] = refl
expect_alien S (κ ∷ around) = refl

-- a command that the machine refuses is the verdict
expect_stops : (S : Table) {bs : List ℕ} {at : ℕ} {c : TreeCommand} (s : List Kind) → ReadsCommand bs at c → expect_step S s c ≡ stops
    → expected_left S bs s at ≡ tree_expected S bs → fails at ≡ tree_expected S bs
expect_stops S s r e w = sym (left_stops tree_commands tree_width alien_t (expect_step S) (λ s. true) (expect_alien S) s r e) ∙ w

-- one that it goes on from leaves the verdict to what is behind it
expect_goes : (S : Table) {bs : List ℕ} {at : ℕ} {c : TreeCommand} (s n : List Kind) → ReadsCommand bs at c → expect_step S s c ≡ goes n
    → expected_left S bs s at ≡ tree_expected S bs → expected_left S bs n (at + tree_width c) ≡ tree_expected S bs
expect_goes S s n r e w = sym (left_goes tree_commands tree_width alien_t (expect_step S) (λ s. true) (expect_alien S) s n r e) ∙ w

-- where no byte is left, it passes
expect_ends : (S : Table) (bs : List ℕ) (s : List Kind) (at : ℕ) → length bs ≤ at → expected_left S bs s at ≡ passes
unfolding pick
expect_ends S bs s at h = left_ends tree_commands tree_width alien_t (expect_step S) (λ s. true) (expect_alien S) no_tree-commands bs s at h

-- ---- the turns

-- before its first element, what may follow in an element of a type is the type's kind
rest_kind : (rows : List ℕ) (t : ℕ) → t < types_in rows → rest_of rows t 0 ≡ kind_of (table_by rows) t
rest_kind rows t h = rest_none (get_or (kinds_of rows) t 0) (get_or (counts_of rows) t 0) (drop (t * 16) (members_in rows)) ∙ sym (kind_of_lem rows t h)

-- only the entries of open elements count
rests-same : (rows : List ℕ) (around around' : List Open) (n : ℕ) → ((i : ℕ) → i < n → open_at around i ≡ open_at around' i) → rests rows around n ≡ rests rows around' n
unfolding rests
rests-same rows around around' zero p = refl
rests-same rows around around' (suc n) p = rw (p n (omega arith), rests-same rows around around' n (λ i h. p i (omega arith)))

-- behind the command that opens the root
pub inside_root : (rows bs : List ℕ) (around : List Open) → Bounded rows → ReadsCommand bs 0 (opens 0) → 0 < types_in rows → length around ≡ 128 → Inside rows bs around 0 0 0 2
unfolding tree_expected expect_step goes_if admits after tree_width rests
inside_root rows bs around b r some long = record {
  bounded = b;
  form = form_first r;
  levels = levels_opens 0 0 (omega arith) (levels_start bs) r;
  operands = operands_opens (types_in rows) 0 some (operands_start (types_in rows) bs) r;
  room = long;
  types_exist = λ i l. absurd (omega arith);
  type_exists = some;
  whole = rw (rest_kind rows 0 some) (expect_goes (table_by rows) (sequence (0 ∷ []) ∷ []) (kind_of (table_by rows) 0 ∷ sequence [] ∷ []) r refl refl);
}

module _ {rows bs : List ℕ} {around : List Open} {top m h at : ℕ} (i : Inside rows bs around top m h at) where
  -- the type of the innermost element can be read
  pub inside_readable : TypeReadable rows m
  inside_readable =
      let exists : m < types_in rows = i.type_exists in
      let few : types_in rows ≤ 64 = i.bounded.few_types in
      record { bounded = i.bounded; below = omega arith }

  -- what may still follow around an element that is opened
  around_opened : (r : ℕ) → top < 128 → rests rows (set around top (record { kind = m; had = r })) (suc top) ≡ rest_of rows m r ∷ rests rows around top
  unfolding rests
  around_opened r small =
      let here : open_at (set around top (record { kind = m; had = r })) top ≡ record { kind = m; had = r } = get_or-set_same around top _ _ (rw i.room small) in
      let others : rests rows (set around top (record { kind = m; had = r })) top ≡ rests rows around top
      = rests-same rows (set around top (record { kind = m; had = r })) around top (λ j l. get_or-set_other around top j _ _ (λ e. omega arith)) in
      rw (here, others)

  -- an element that may come is opened
  pub inside_opens : {x r : ℕ} → MayOpen rows bs m h at x r → top + 1 < 128 → x < types_in rows → Inside rows bs (set around top (record { kind = m; had = r })) (top + 1) x 0 (at + 2)
  unfolding expect_step goes_if tree_width
  inside_opens {x} {r} o small exists =
      let reads : ReadsCommand bs at (opens x) = o.reads in
      let S : Table = table_by rows in
      let outer : List Kind = rests rows around top in
      record {
        bounded = i.bounded;
        form = form_opens (top + 1) at (omega arith) i.form reads;
        levels = levels_opens (top + 1) at small i.levels reads;
        operands = operands_opens (types_in rows) at exists i.operands reads;
        room = length-set around top (record { kind = m; had = r }) ∙ i.room;
        types_exist = λ j l. all-exist j l (eqb j top) refl;
        type_exists = exists;
        whole = rw (add-one top, around_opened r (omega arith), rest_kind rows x exists, o.opening.onward)
            (expect_goes S (rest_of rows m h ∷ outer) (kind_of S x ∷ after (rest_of rows m h) ∷ outer) reads (rw o.opening.admitted) i.whole);
      }
    where
      all-exist : (j : ℕ) → j < top + 1 → (b : Bool) → eqb j top ≡ b → (open_at (set around top (record { kind = m; had = r })) j).kind < types_in rows
      all-exist j l true e =
          let same : j ≡ top = eqb-true j top e in
          rw (same, get_or-set_same around top (record { kind = m; had = r }) (record { kind = 0; had = 0 }) (rw i.room (omega arith))) i.type_exists
      all-exist j l false e =
          let other : j ≡ top → ⊥ = eqb-false j top e in
          rw (get_or-set_other around top j (record { kind = m; had = r }) (record { kind = 0; had = 0 }) other) (i.types_exist j (omega arith))

  -- text stays text
  pub inside_character : {c : ℕ} → MayHold rows bs m h at c → allowed c ≡ true → Inside rows bs around top m h (at + 2)
  unfolding expect_step goes_if tree_width
  inside_character {c} o fine =
      let reads : ReadsCommand bs at (character c) = o.reads in
      let s : List Kind = rest_of rows m h ∷ rests rows around top in
      record {
        bounded = i.bounded;
        form = form_character (top + 1) at (omega arith) i.form reads;
        levels = levels_character (top + 1) at i.levels reads;
        operands = operands_character (types_in rows) at fine i.operands reads;
        room = i.room;
        types_exist = i.types_exist;
        type_exists = i.type_exists;
        whole = expect_goes (table_by rows) s s reads (rw o.text) i.whole;
      }

  -- the machines behind the close of an element that may be closed
  module _ (o : MayClose rows bs m h at) where
    closed-form : InForm bs top (at + 1)
    closed-form = subst (λ (n : ℕ). InForm bs n (at + 1)) (omega arith) (form_closes (top + 1) at (omega arith) i.form o.reads)

    closed-levels : InLevels bs top (at + 1)
    closed-levels = subst (λ (n : ℕ). InLevels bs n (at + 1)) (omega arith) (levels-closed (top + 1) at i.levels o.reads)

    closed-whole : expected_left (table_by rows) bs (rests rows around top) (at + 1) ≡ tree_expected (table_by rows) bs
    unfolding expect_step goes_if tree_width
    closed-whole = expect_goes (table_by rows) (rest_of rows m h ∷ rests rows around top) (rests rows around top) o.reads (rw o.ready) i.whole

    -- the one around it is the innermost
    pub inside-closes : 0 < top → Inside rows bs around (top - 1) (open_at around (top - 1)).kind (open_at around (top - 1)).had (at + 1)
    unfolding rests
    inside-closes some =
        let same : top ≡ suc (top - 1) = omega arith in
        let next : top ≡ top - 1 + 1 = omega arith in
        record {
          bounded = i.bounded;
          form = subst (λ (n : ℕ). InForm bs n (at + 1)) next closed-form;
          levels = subst (λ (n : ℕ). InLevels bs n (at + 1)) next closed-levels;
          operands = operands_closes (types_in rows) at i.operands o.reads;
          room = i.room;
          types_exist = λ j l. i.types_exist j (omega arith);
          type_exists = i.types_exist (top - 1) (omega arith);
          whole = subst (λ (n : ℕ). expected_left (table_by rows) bs (rests rows around n) (at + 1) ≡ tree_expected (table_by rows) bs) same closed-whole;
        }

    -- or the root is closed
    pub outside-closes : top ≡ 0 → Outside rows bs (at + 1)
    unfolding rests
    outside-closes none = record {
      form = rw none at closed-form;
      levels = rw none at closed-levels;
      operands = operands_closes (types_in rows) at i.operands o.reads;
      whole = rw none at closed-whole;
    }

  -- a command that the machine refuses is the verdict
  refused : {c : TreeCommand} → ReadsCommand bs at c → expect_step (table_by rows) (rest_of rows m h ∷ rests rows around top) c ≡ stops → fails at ≡ tree_expected (table_by rows) bs
  refused reads e = expect_stops (table_by rows) (rest_of rows m h ∷ rests rows around top) reads e i.whole

-- ---- behind the root

module _ {rows bs : List ℕ} {at : ℕ} (o : Outside rows bs at) where
  -- 3F is expected there
  behind_end : ReadsCommand bs at tree_end → expected_left (table_by rows) bs [] (at + 1) ≡ tree_expected (table_by rows) bs
  unfolding expect_step tree_width
  behind_end r = expect_goes (table_by rows) (sequence [] ∷ []) [] r refl o.whole

  -- and where it is the last byte, check 11 passes
  pub outside_ends : ReadsCommand bs at tree_end → length bs ≤ at + 1 → passes ≡ tree_expected (table_by rows) bs
  outside_ends r last = sym (expect_ends (table_by rows) bs [] (at + 1) last) ∙ behind_end r

-- ---- where the checks before have passed

-- a number is below another where the opposite says so too
below_still : (a b : ℕ) → (b ≤ a → a < b) → a < b
below_still a b still = go (ltb a b) refl
  where
    go : (t : Bool) → ltb a b ≡ t → a < b
    go true e = ltb-true a b e
    go false e = still (ltb-false a b e)

module _ {rows bs : List ℕ} (p : Passed rows bs) where
  -- the document has bytes
  pub passed_nonempty : 0 < length bs
  passed_nonempty = below_still 0 (length bs) (λ none. passes_fails p.form (sym (form_empty bs (omega arith))))

  -- none but a command that opens an element stands at the beginning
  passed-stops {ℓ} : {X : Type ℓ} {c : TreeCommand} → ReadsCommand bs 0 c → tree_step no_root c ≡ stops → X
  passed-stops r e = passes_fails p.form (sym (form_first_stops r e))

  -- the type of the root exists
  pub passed_root : {t : ℕ} → ReadsCommand bs 0 (opens t) → t < types_in rows
  passed_root {t} r = below_still t (types_in rows) (λ none. passes_fails p.operands (sym (operands_no_type (types_in rows) 0 none (operands_start (types_in rows) bs) r)))

  -- bytes are left where the form check has not ended
  form_left_lem : (depth at : ℕ) → InForm bs depth at → at < length bs
  form_left_lem depth at f = below_still at (length bs) (λ none. passes_fails p.form (sym (form_short bs depth at none f)))

  module _ {around : List Open} {top m h at : ℕ} (i : Inside rows bs around top m h at) where
    pub passed_more : at < length bs
    passed_more = form_left_lem (top + 1) at i.form

    -- there is room for an element that is opened
    pub passed-room : {x : ℕ} → ReadsCommand bs at (opens x) → top + 1 < 128
    passed-room r = below_still (top + 1) 128 (λ none. passes_fails p.levels (sym (levels_deep (top + 1) at none i.levels r)))

    -- and its type exists
    pub passed-exists : {x : ℕ} → ReadsCommand bs at (opens x) → x < types_in rows
    passed-exists {x} r = below_still x (types_in rows) (λ none. passes_fails p.operands (sym (operands_no_type (types_in rows) at none i.operands r)))

    -- a character is allowed
    pub passed-allowed : {c : ℕ} → ReadsCommand bs at (character c) → allowed c ≡ true
    passed-allowed {c} r = go (allowed c) refl
      where
        go : (b : Bool) → allowed c ≡ b → allowed c ≡ true
        go true e = e
        go false e = passes_fails p.operands (sym (operands_not_allowed (types_in rows) at e i.operands r))

    -- a command that is unfit is the verdict; 3F and an alien one do not stand in an element
    refused-by : (c : TreeCommand) → ReadsCommand bs at c → Unfit (rest_of rows m h) c → fails at ≡ tree_expected (table_by rows) bs
    unfolding expect_step goes_if
    refused-by (opens x) r u = refused i r (rw u)
    refused-by (character c) r u = refused i r (rw u)
    refused-by closes r u = refused i r (rw u)
    refused-by tree_end r u = passes_fails p.form (sym (form_end_inside (top + 1) at (omega arith) i.form r))
    refused-by alien_t r u = passes_fails p.form (sym (form_alien_inside (top + 1) at i.form r))

    pub passed-refuses : Refuses rows bs m h at → fails at ≡ tree_expected (table_by rows) bs
    passed-refuses o = refused-by o.met o.reads o.unfit

  module _ {at : ℕ} (o : Outside rows bs at) where
    -- behind 3F nothing is left
    last_byte : ReadsCommand bs at tree_end → length bs ≤ at + 1
    last_byte r =
        let before : length bs < at + 2 = below_still (length bs) (at + 2) (λ more. passes_fails p.form (sym (form_more bs (at + 1) (omega arith) (form_root_end at o.form r)))) in
        omega arith

    -- any other command than 3F is refused by the form check
    behind-root : (c : TreeCommand) → ReadsCommand bs at c → passes ≡ tree_expected (table_by rows) bs
    unfolding tree_step
    behind-root (opens t) r = passes_fails p.form (sym (form_root_stops at o.form r refl))
    behind-root (character c) r = passes_fails p.form (sym (form_root_stops at o.form r refl))
    behind-root closes r = passes_fails p.form (sym (form_root_stops at o.form r refl))
    behind-root tree_end r = outside_ends o r (last_byte r)
    behind-root alien_t r = passes_fails p.form (sym (form_root_stops at o.form r refl))

    -- so behind the root check 11 passes
    pub passed-outside : passes ≡ tree_expected (table_by rows) bs
    passed-outside = behind-root (tree_command (raw_at bs at)) (tree_reads bs at (form_left_lem 0 at o.form))

-- ---- the root

-- an element of another type than 0 is not expected
refused_root : (S : Table) {bs : List ℕ} {x : ℕ} → ReadsCommand bs 0 (opens x) → (x ≡ 0 → ⊥) → fails 0 ≡ tree_expected S bs
unfolding tree_expected expect_step goes_if admits
refused_root S {x = x} r other = expect_stops S (sequence (0 ∷ []) ∷ []) r (rw (ne_eqb x 0 other)) refl

-- behind one of type 0 the loop begins
pub root_opened : {rows bs : List ℕ} → Passed rows bs → (c : Option code.TreeCommand) → ReadsCommand bs 0 (read c) → c ≡ Some (Opens 0) → InRoot rows bs
root_opened {rows} {bs} p c r e = record { passed = p; root = subst (λ (d : Option code.TreeCommand). ReadsCommand bs 0 (read d)) e r }

-- no other command is expected
pub no_root_opened : {rows bs : List ℕ} (p : Passed rows bs) (c : Option code.TreeCommand) → ReadsCommand bs 0 (read c) → (c ≡ Some (Opens 0) → ⊥)
    → fails 0 ≡ tree_expected (table_by rows) bs
unfolding tree_step
no_root_opened {rows} p (Some (Opens x)) r other = refused_root (table_by rows) r (λ e. other (ap (λ (n : ℕ). Some (Opens n)) e))
no_root_opened p (Some (Character b)) r other = passed-stops p r refl
no_root_opened p (Some Closes) r other = passed-stops p r refl
no_root_opened p (Some End) r other = passed-stops p r refl
no_root_opened p None r other = passed-stops p r refl

-- what `==` says of the command read is an equation
pub is_root : (c : Option code.TreeCommand) → option_eq eq-value.it c (Some (Opens 0)) ≡ true → c ≡ Some (Opens 0)
is_root (Some (Opens x)) e = ap (λ (n : ℕ). Some (Opens n)) (eqb-true x 0 e)
is_root (Some (Character b)) e = true_false e refl
is_root (Some Closes) e = true_false e refl
is_root (Some End) e = true_false e refl
is_root None e = true_false e refl

pub is_no_root : (c : Option code.TreeCommand) → option_eq eq-value.it c (Some (Opens 0)) ≡ false → c ≡ Some (Opens 0) → ⊥
is_no_root c e f = true_false refl (subst (λ (d : Option code.TreeCommand). option_eq eq-value.it d (Some (Opens 0)) ≡ false) f e)
