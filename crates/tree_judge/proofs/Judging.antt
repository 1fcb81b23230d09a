-- The judge's checks in order.
use mathlib.Core.Path.{◌≡◌, refl, sym, ap, ◌∙◌, subst}
use mathlib.Core.Bool.{Bool, true, false}
use mathlib.Core.List.{List}
use Prim.Native.Nat.{ℕ, ◌≤◌, ◌<◌}
use native.Mathlib.Omega.{arith}
use lib.ListN.{length}
use borrow.Author.Tests.{le-leb, lt-leb}
use Rattle.model.specs.Definitions.Basics.{Verdict, passes, fails}
use Rattle.model.specs.Definitions.Table.{Table}
use Rattle.model.specs.Definitions.TreeChecks.{tree_form, tree_levels, tree_operands, tree_expected}
use Rattle.model.specs.Definitions.Refusals.{Fault, Judged, sound, has, too_long, bad_form, over_limit, bad_operand, unexpected, fault_at, fault_unless, fits}
use Rattle.model.specs.Definitions.Entries.{judged_tree}
use Rattle.std.specs.Prelude.{Result, Ok, Err, ⊤, MatchResult, IsErrAnd}
use Rattle.std.proofs.lemmas.Result.{err_from_is_err_and}
use Rattle.answers.specs.declared.Fault as answers
use Rattle.answers.specs.Answers.{verdict, fault, judged}
use Rattle.loaded_table.specs.Loaded.{table_by, types_in, length_of_lem, Bounded}
use Rattle.tree_levels.proofs.Elements.{opens_counted}
use Rattle.tree_expected.specs.Expected.{Passed}
use Rattle.tree_pass.specs.Passing.{Accepted}
use Rattle.tree_judge.specs.Judging.{judged_before, TreeJudged}

-- ---- checks in order

-- a sound document has no fault
sound_has {ℓ} : {X : Type ℓ} {j : Judged} {f : Fault} → j ≡ sound → j ≡ has f → X
sound_has {j = j} {f} p q = let z : ◌≡◌ {A = ℕ} 0 1 = cc in absurd (omega arith)

-- the error of a part is that of the whole
error_of : {A : Type 0} {f : answers.Fault} (whole : Result A answers.Fault) → IsErrAnd whole (λ g. g ≡ f) → whole ≡ Err f
error_of whole end = let e = err_from_is_err_and whole end in e.1 ∙ ap Err e.2

-- so it is judged as the part was
pub same_error : {f : answers.Fault} (part whole : Result ⊤ answers.Fault) → part ≡ Err f → IsErrAnd whole (λ g. g ≡ f) → judged whole ≡ judged part
same_error part whole e end = ap judged (error_of whole end ∙ sym e)

-- one check, whose offset gets the name of a fault
pub check_named : (name : ℕ → answers.Fault) (named : Result ⊤ answers.Fault) {w : Verdict} (r : Result ⊤ ℕ) → verdict r ≡ w
    → MatchResult r (λ x. named ≡ Ok x) (λ at. IsErrAnd named (λ f. f ≡ name at)) → judged named ≡ fault_at (λ at. fault (name at)) w (λ u. sound)
unfolding fault_at
check_named name named (Ok x) told e = ap judged e ∙ ap (λ (v : Verdict). fault_at (λ at. fault (name at)) v (λ u. sound)) told
check_named name named (Err at) told e = ap judged (error_of named e) ∙ ap (λ (v : Verdict). fault_at (λ at. fault (name at)) v (λ u. sound)) told

-- where it finds a fault, it decides
fault_here : (name : ℕ → Fault) (w : Verdict) (rest : Unit {0} → Judged) {f : Fault} → has f ≡ fault_at name w (λ u. sound) → has f ≡ fault_at name w rest
unfolding fault_at
fault_here name (fails at) rest h = h
fault_here name passes rest h = sound_has refl (sym h)

-- where it finds none, it has passed
pub check_passed : (name : ℕ → Fault) (w : Verdict) → sound ≡ fault_at name w (λ u. sound) → w ≡ passes
unfolding fault_at
check_passed name (fails at) h = sound_has refl h
check_passed name passes h = refl

module _ (types : ℕ) (bs : List ℕ) where
  -- a document that is too long has that fault
  pub judged_long : 60000 < length bs → has too_long ≡ judged_before types bs
  unfolding judged_before fits fault_unless
  judged_long h = rw (lt-leb (length bs) 60000 h)

  module _ (short : length bs ≤ 60000) where
    -- a check that fails names the fault, one that passes leaves it to the later ones
    pub judged-form : {f : Fault} → has f ≡ fault_at bad_form (tree_form bs) (λ u. sound) → has f ≡ judged_before types bs
    unfolding judged_before fits fault_unless
    judged-form h = rw (le-leb (length bs) 60000 short) (fault_here bad_form (tree_form bs) _ h)

    pub judged-levels : {f : Fault} → tree_form bs ≡ passes → has f ≡ fault_at over_limit (tree_levels bs) (λ u. sound) → has f ≡ judged_before types bs
    unfolding judged_before fits fault_unless fault_at
    judged-levels p h = rw (le-leb (length bs) 60000 short, p) (fault_here over_limit (tree_levels bs) _ h)

    pub judged-operands : {j : Judged} → tree_form bs ≡ passes → tree_levels bs ≡ passes → j ≡ fault_at bad_operand (tree_operands types bs) (λ u. sound) → j ≡ judged_before types bs
    unfolding judged_before fits fault_unless fault_at
    judged-operands p q h = rw (le-leb (length bs) 60000 short, p, q) h

-- what the checks before say of the whole judgement: their fault is its fault
fault_then : (a : Bool) (f l o e : Verdict) {x : Fault}
    → has x ≡ fault_unless too_long a (λ u. fault_at bad_form f λ u. fault_at over_limit l λ u. fault_at bad_operand o λ u. sound)
    → has x ≡ fault_unless too_long a (λ u. fault_at bad_form f λ u. fault_at over_limit l λ u. fault_at bad_operand o λ u. fault_at unexpected e λ u. sound)
unfolding fault_unless fault_at
fault_then false f l o e h = h
fault_then true (fails at) l o e h = h
fault_then true passes (fails at) o e h = h
fault_then true passes passes (fails at) e h = h
fault_then true passes passes passes e h = sound_has refl (sym h)

-- so a fault of checks 1 to 4 is the fault of the document
pub fault_before : (S : Table) (bs : List ℕ) {x : Fault} → has x ≡ judged_before (length S) bs → has x ≡ judged_tree S bs
unfolding judged_before judged_tree
fault_before S bs h = fault_then (fits bs) (tree_form bs) (tree_levels bs) (tree_operands (length S) bs) (tree_expected S bs) h

-- and where they find none, each has passed
sound_passed : (a : Bool) (f l o : Verdict) → sound ≡ fault_unless too_long a (λ u. fault_at bad_form f λ u. fault_at over_limit l λ u. fault_at bad_operand o λ u. sound)
    → (a ≡ true) × (f ≡ passes) × (l ≡ passes) × (o ≡ passes)
unfolding fault_unless fault_at
sound_passed false f l o h = sound_has refl h
sound_passed true (fails at) l o h = sound_has refl h
sound_passed true passes (fails at) o h = sound_has refl h
sound_passed true passes passes (fails at) h = sound_has refl h
sound_passed true passes passes passes h = (refl, refl, refl, refl)

-- what `expected` asks
pub passed_before : (rows bs : List ℕ) → Bounded rows → sound ≡ judged_before (length (table_by rows)) bs → Passed rows bs
unfolding judged_before
passed_before rows bs b h =
    let p : (fits bs ≡ true) × (tree_form bs ≡ passes) × (tree_levels bs ≡ passes) × (tree_operands (length (table_by rows)) bs ≡ passes)
    = sound_passed (fits bs) (tree_form bs) (tree_levels bs) (tree_operands (length (table_by rows)) bs) h in
    record { bounded = b; form = p.1; levels = p.2; operands = rw (length_of_lem rows) at p.3 }

-- check 11 then decides
module _ (S : Table) (bs : List ℕ) (before : sound ≡ judged_before (length S) bs) where
  -- the verdicts of checks 1 to 4
  checks_passed : (fits bs ≡ true) × (tree_form bs ≡ passes) × (tree_levels bs ≡ passes) × (tree_operands (length S) bs ≡ passes)
  unfolding judged_before
  checks_passed = sound_passed (fits bs) (tree_form bs) (tree_levels bs) (tree_operands (length S) bs) before

  -- what it finds is what is found of the document
  pub judged_expected : {j : Judged} → j ≡ fault_at unexpected (tree_expected S bs) (λ u. sound) → j ≡ judged_tree S bs
  unfolding judged_tree fault_unless fault_at
  judged_expected e = rw (checks_passed.0, checks_passed.1, checks_passed.2, checks_passed.3) e

-- the checks by a loaded table's number of types are the checks by its table
pub by_types : (rows bs : List ℕ) {x : Judged} {n : ℕ} → n ≡ types_in rows → x ≡ judged_before n bs → x ≡ judged_before (length (table_by rows)) bs
by_types rows bs n e = rw (length_of_lem rows, ← n) e

-- a document that has a fault is refused for it
pub refused : (S : Table) (bs : List ℕ) (f : answers.Fault) (whole : Result ℕ answers.Fault) → IsErrAnd whole (λ g. g ≡ f) → has (fault f) ≡ judged_tree S bs → TreeJudged S bs whole
refused S bs f whole end h = subst (TreeJudged S bs) (sym (error_of whole end)) (sym h)

-- ---- the pass

-- a document that the pass accepts is sound
accepted_judged : (rows bs : List ℕ) {n : ℕ} → Accepted rows bs n → sound ≡ judged_tree (table_by rows) bs
unfolding judged_tree fits fault_unless fault_at
accepted_judged rows bs a = rw (le-leb (length bs) 60000 a.short, ← a.form, ← a.levels, length_of_lem rows, ← a.operands, ← a.expected)

-- and it has as many elements as were counted
pub accepted_sound : (rows bs : List ℕ) {n : ℕ} → Accepted rows bs n → TreeJudged (table_by rows) bs (Ok n)
accepted_sound rows bs a = (sym (accepted_judged rows bs a), a.counted ∙ opens_counted bs (sym a.form))
