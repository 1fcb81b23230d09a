-- Reading fails as its children do, once its own paths can be followed.
use mathlib.Core.Path.{◌≡◌, refl, sym, ap₂, ◌∙◌, subst}
use mathlib.Core.Bool.{Bool, true, false, not}
use mathlib.Core.List.{List}
use mathlib.Core.Option as model
use Prim.Native.Nat.{ℕ, zero, suc, ◌+◌, ◌-◌, ◌*◌, ◌<◌}
use native.Mathlib.Omega.{arith}
use lib.ListN.{get_or}
use Rattle.std.specs.Prelude.{Option, Some, None}
use Rattle.std.specs.Option.{is_some}
use Rattle.model.specs.Definitions.Basics.{is_there}
use Rattle.model.specs.Definitions.Table.{Kind, text, kind_of}
use Rattle.model.specs.Definitions.Content.{Content, end, elem}
use Rattle.model.specs.Definitions.Embedding.{target_of, paths_of, first_path}
use Rattle.model.specs.Definitions.Image.{Setting}
use Rattle.model.specs.Definitions.Inverse.{Located, opened_at, follow_at, Parts, done, broken, part, unbroken, kind_parts, child_parts, Reading, yields, missing, with_rest, with_element, read_parts, read_unbroken, read_characters, read_children, read_kind, read_to}
use Rattle.model.proofs.Theorems.Tools.{true_false}
use Rattle.model.proofs.Theorems.ReadsPlain.{by_children}
use Rattle.loaded_table.specs.Loaded.{types_in, kinds_of}
use Rattle.loaded_embedding.specs.Loaded.{targets_of}
use Rattle.loaded_setting.specs.Ready.{setting_in, Ready}
use Rattle.scanning.specs.Finding.{Finds}
use Rattle.paths.specs.Following.{path_at}
use Rattle.paths.specs.Edges.{target_is, no_text, is_text_lem, text_path}
use Rattle.unreadable.specs.Losing.{FailsAs, children_read, OwnPaths}

-- ---- one child

-- a reading fails as itself
pub fails_self : (r : Reading) → FailsAs r r
fails_self r = record { fails = λ at e. e; succeeds = λ j e. (j, e) }

-- the child fails
child_fails : (read : ℕ → Located → Reading) (own m : ℕ) (l : Located) (rest : Parts) (at : ℕ) → read m l ≡ missing at → read_parts read own (part m l rest) ≡ missing at
unfolding read_parts with_element
child_fails read own m l rest at e = rw e refl

pub fails_there : {whole : Reading} (read : ℕ → Located → Reading) (own m : ℕ) (l : Located) (rest : Parts) (at : ℕ)
    → FailsAs whole (read_parts read own (part m l rest)) → read m l ≡ missing at → whole ≡ missing at
fails_there read own m l rest at now e = now.fails at (child_fails read own m l rest at e)

-- it is read: the whole fails as those after it do
child_read_lem : (read : ℕ → Located → Reading) (own m : ℕ) (l : Located) (rest : Parts) (k : Content) → read m l ≡ yields k → read_parts read own (part m l rest) ≡ with_rest m k (read_parts read own rest)
unfolding read_parts with_element
child_read_lem read own m l rest k e = rw e refl

with_missing : (m : ℕ) (k : Content) (r : Reading) (at : ℕ) → r ≡ missing at → with_rest m k r ≡ missing at
unfolding with_rest
with_missing m k r at e = rw e refl

with_yields : (m : ℕ) (k : Content) (r : Reading) (j : Content) → r ≡ yields j → with_rest m k r ≡ yields (elem m k j)
unfolding with_rest
with_yields m k r j e = rw e refl

pub fails_on : {whole : Reading} (read : ℕ → Located → Reading) (own m : ℕ) (l : Located) (rest : Parts)
    → FailsAs whole (read_parts read own (part m l rest)) → ((k : Content) × (read m l ≡ yields k)) → FailsAs whole (read_parts read own rest)
fails_on read own m l rest now found =
    let step = child_read_lem read own m l rest found.0 found.1 in
    record {
      fails = λ at e. now.fails at (step ∙ with_missing m found.0 (read_parts read own rest) at e);
      succeeds = λ j e. now.succeeds (elem m found.0 j) (step ∙ with_yields m found.0 (read_parts read own rest) j e);
    }

-- no child is left, or a path is broken
pub fails_done : {whole : Reading} (read : ℕ → Located → Reading) (own : ℕ) → FailsAs whole (read_parts read own done) → (i : Content) × (whole ≡ yields i)
unfolding read_parts
fails_done read own now = now.succeeds end refl

pub fails_broken : {whole : Reading} (read : ℕ → Located → Reading) (own : ℕ) → FailsAs whole (read_parts read own broken) → whole ≡ missing own
unfolding read_parts
fails_broken read own now = now.fails own refl

-- ---- own paths

-- what was found is there, and what is missing is not
pub found_or_not : (tr : List ℕ) (r : Option ℕ) (sought : model.Option Located) → Finds tr r sought → is_there sought ≡ is_some r
unfolding is_there
found_or_not tr (Some o) sought found = rw found.is
found_or_not tr None sought miss = rw miss

-- with no level left reading fails at the element
pub read_zero : (X : Setting) (n σ : ℕ) (l : Located) → n ≡ 0 → read_to X n σ l ≡ missing (opened_at l)
unfolding read_to
read_zero X n σ l e = rw e refl

module _ (X : Setting) (σ : ℕ) (l : Located) where
  abbrev κ : Kind
  κ = kind_of X.source σ

  -- an element that is no text, by its children
  module _ (other : κ ≡ text → ⊥) where
    read-own : (n : ℕ) → read_to X (suc n) σ l ≡ read_children (λ m a. read_to X n m a) (opened_at l) (child_parts X σ l)
    unfolding read_to
    read-own n = by_children (λ m a. read_to X n m a) X.target κ (target_of X.embedding σ) (paths_of X.embedding σ) l other

    by_parts : (b : Bool) → unbroken (child_parts X σ l) ≡ not b → OwnPaths X σ l b
    by_parts true e = λ n. read-own n ∙ unfold read_children read_unbroken in rw e refl
    by_parts false e =
        λ n.
        let same : read_to X (suc n) σ l ≡ children_read X n σ l = read-own n ∙ unfold read_children read_unbroken in rw e refl in
        rw same (fails_self (children_read X n σ l))

  -- a text, by its path
  module _ (is : κ ≡ text) where
    read-characters : (n : ℕ) → read_to X (suc n) σ l ≡ read_characters (opened_at l) (follow_at X.target (target_of X.embedding σ) (first_path (paths_of X.embedding σ)) l)
    unfolding read_to read_kind
    read-characters n = rw is refl

    no-children : (read : ℕ → Located → Reading) (own : ℕ) → read_parts read own (child_parts X σ l) ≡ yields end
    unfolding kind_parts read_parts
    no-children read own = rw is refl

    by-path : (b : Bool) → is_there (follow_at X.target (target_of X.embedding σ) (first_path (paths_of X.embedding σ)) l) ≡ not b → OwnPaths X σ l b
    by-path b e = go b (follow_at X.target (target_of X.embedding σ) (first_path (paths_of X.embedding σ)) l) refl e
      where
        go : (b : Bool) (o : model.Option Located) → follow_at X.target (target_of X.embedding σ) (first_path (paths_of X.embedding σ)) l ≡ o → is_there o ≡ not b → OwnPaths X σ l b
        go true model.none f h = λ n. read-characters n ∙ unfold read_characters in rw f refl
        go true (model.some a) f h = unfold is_there in true_false refl h
        go false model.none f h = unfold is_there in true_false refl (sym h)
        go false (model.some a) f h =
            λ n.
            let read : read_to X (suc n) σ l ≡ yields a.holds = read-characters n ∙ unfold read_characters in rw f refl in
            record { fails = λ at q. let z : ◌≡◌ {A = ℕ} 0 1 = (let apart : yields end ≡ missing at = sym (no-children _ _) ∙ q in cc) in absurd (omega arith); succeeds = λ j q. (a.holds, read) }

-- with a level left and no own path missing, reading fails as the children do with one level less
pub fails_children : (X : Setting) (n σ : ℕ) (l : Located) → (n ≡ 0 → ⊥) → OwnPaths X σ l false → FailsAs (read_to X n σ l) (children_read X (n - 1) σ l)
fails_children X zero σ l other own = absurd (other refl)
fails_children X (suc n) σ l other own = let less : suc n - 1 ≡ n = omega arith in rw less (own n)

-- where they can't be begun with, it fails at the element
pub fails_begun : (X : Setting) (n σ : ℕ) (l : Located) → (n ≡ 0 → ⊥) → OwnPaths X σ l false → child_parts X σ l ≡ broken → read_to X n σ l ≡ missing (opened_at l)
fails_begun X n σ l other own gone =
    fails_broken (λ m a. read_to X (n - 1) m a) (opened_at l)
    (subst (λ (parts : Parts). FailsAs (read_to X n σ l) (read_parts (λ m a. read_to X (n - 1) m a) (opened_at l) parts)) gone (fails_children X n σ l other own))

-- with an own path missing it fails at the element
pub fails_own : (X : Setting) (n σ : ℕ) (l : Located) → (n ≡ 0 → ⊥) → OwnPaths X σ l true → read_to X n σ l ≡ missing (opened_at l)
fails_own X zero σ l other own = absurd (other refl)
fails_own X (suc n) σ l other own = own n

-- ---- by the arrays

module _ {source target map em : List ℕ} (ready : Ready source target map em) {σ : ℕ} (exists : σ < types_in source) where
  abbrev X : Setting
  X = setting_in source target map em

  -- an element that is no text
  pub own_parts : (get_or (kinds_of source) σ 0 ≡ 0 → ⊥) → (l : Located) (b : Bool) → unbroken (child_parts X σ l) ≡ not b → OwnPaths X σ l b
  own_parts other l b = by_parts X σ l (no_text ready exists other) b

  -- a text, whose path is read from the arrays
  pub own_text : get_or (kinds_of source) σ 0 ≡ 0 → (l : Located) (b : Bool) → is_there (follow_at X.target (get_or (targets_of map) σ 0) (path_at em map (σ * 16 + 0)) l) ≡ not b → OwnPaths X σ l b
  own_text code l b e =
      by-path X σ l (is_text_lem ready exists code) b
      (ap₂ (λ (q : ℕ) (path : List ℕ). is_there (follow_at X.target q path l)) (target_is ready exists) (text_path ready exists code) ∙ e)
