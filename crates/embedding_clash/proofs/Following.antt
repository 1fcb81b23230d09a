-- Laws of paths as values, and of one step through a loaded table.
use mathlib.Core.Path.{◌≡◌, refl, sym, ap, ◌∙◌}
use mathlib.Core.Bool.{Bool, true, false}
use mathlib.Core.List.{List, [], ◌∷◌, ◌++◌}
use mathlib.Core.Option.{some}
use Prim.Native.Nat.{ℕ, zero, suc, ◌+◌, ◌-◌, ◌*◌, ◌≤◌, ◌<◌}
use native.Mathlib.Numerals.{add-one}
use native.Mathlib.Omega.{arith}
use lib.ListN.{length, get_or, take, drop, replicate, set, length-take, drop_of_length-le, get_or-eq_default}
use lib.Seq.{set_at, take_at, drop-cons, get_or-take, get_or-drop, length-take-le}
use lib.Dec.{ltb}
use borrow.Author.Tests.{ltb-true, ltb-false}
use Rattle.model.specs.Definitions.Basics.{entry}
use Rattle.model.specs.Definitions.Table.{text, empty, Table, kind_of, members_of, step_from}
use Rattle.model.specs.Definitions.Embedding.{next, end_of}
use Rattle.model.proofs.Theorems.Facts.{Walks, onward}
use Rattle.model.proofs.Theorems.Tools.{some_none}
use Rattle.loaded_table.specs.Loaded.{table_by, types_in, kinds_of, counts_of, members_in, length_of_lem, kind_of_lem}
use Rattle.loaded_table.specs.Steps.{step_in_row}
use Rattle.loaded_embedding.specs.Loaded.{steps_from, steps_more}
use Rattle.embedding_clash.specs.Paths.{path_in, StepExists}

-- ---- paths as values

pub steps_length : (em : List ℕ) (at n : ℕ) → length (steps_from em at n) ≡ n
unfolding steps_from
steps_length em at zero = refl
steps_length em at (suc n) = ap suc (steps_length em (at + 2) n)

-- the path without steps is all zeros
pub path_none : (em : List ℕ) (start : ℕ) → replicate 12 0 ≡ path_in em start 0
unfolding path_in steps_from
path_none em start = refl

-- storing the next step behind those that are there
pub path_more : (em : List ℕ) (start i : ℕ) → i < 12 → set (path_in em start i) i (get_or em (start + 2 + 2 * i) 0) ≡ path_in em start (i + 1)
unfolding path_in
path_more em start i h =
    let room : 12 - i ≡ suc (12 - (i + 1)) = omega arith in
    ap (λ (k : ℕ). set (steps_from em (start + 2) i ++ replicate k 0) i (get_or em (start + 2 + 2 * i) 0)) room
    ∙ set_at (steps_from em (start + 2) i) 0 (replicate (12 - (i + 1)) 0) (get_or em (start + 2 + 2 * i) 0) i (steps_length em (start + 2) i)
    ∙ sym (steps_more em (start + 2) i (replicate (12 - (i + 1)) 0))
    ∙ ap (λ (k : ℕ). steps_from em (start + 2) k ++ replicate (12 - (i + 1)) 0) (sym (add-one i))

-- the steps of a path as a value
pub path_steps : (em : List ℕ) (start count : ℕ) → take count (path_in em start count) ≡ steps_from em (start + 2) count
unfolding path_in
path_steps em start count = take_at (steps_from em (start + 2) count) (replicate (12 - count) 0) count (steps_length em (start + 2) count)

-- what is left of a path's first steps begins with the step at hand
pub rest_cons : (path : List ℕ) (count i : ℕ) → i < count → count ≤ length path
    → drop i (take count path) ≡ get_or path i 0 ∷ drop (i + 1) (take count path)
rest_cons path count i h long =
    drop-cons (take count path) i 0 (rw (length-take-le count path long) h)
    ∙ ap (λ (x : ℕ). x ∷ drop (suc i) (take count path)) (get_or-take count path i 0 h)
    ∙ ap (λ (k : ℕ). get_or path i 0 ∷ drop k (take count path)) (sym (add-one i))

-- and after the last there is nothing
pub rest_none : (path : List ℕ) (count i : ℕ) → count ≤ i → drop i (take count path) ≡ []
rest_none path count i h = drop_of_length-le (take count path) {i = i} (rw (length-take count path) (omega arith))

-- ---- one step

-- no step leads on from a text type, an empty type and what is no type
pub none_from_text : (p m : ℕ) → step_from text p ≡ some m → ⊥
unfolding step_from members_of entry
none_from_text zero m e = some_none e refl
none_from_text (suc p) m e = some_none e refl

pub none_from : (p m : ℕ) → step_from empty p ≡ some m → ⊥
unfolding step_from members_of entry
none_from zero m e = some_none e refl
none_from (suc p) m e = some_none e refl

no_type_lem : (T : Table) (t : ℕ) (p m : ℕ) → length T ≤ t → step_from (kind_of T t) p ≡ some m → ⊥
unfolding kind_of
no_type_lem T t p m h e = none_from p m (rw (get_or-eq_default T empty h) at e)

-- where a step that exists is kept
pub record StepAt (target : List ℕ) (t p : ℕ) : Type 0 where
  pub inside : t < types_in target
  pub few : types_in target ≤ 64
  pub first : 0 < p
  pub last : p ≤ 16
  pub leads : get_or (members_in target) (t * 16 + (p - 1)) 0 ≡ next (table_by target) t p

pub step_at : {target : List ℕ} {t p : ℕ} → StepExists target t p → StepAt target t p
step_at {target} {t} {p} s = go (ltb t (types_in target)) refl
  where
    go : (b : Bool) → ltb t (types_in target) ≡ b → StepAt target t p
    go true q =
        let inside : t < types_in target = ltb-true t (types_in target) q in
        let row =
        step_in_row (get_or (kinds_of target) t 0) (get_or (counts_of target) t 0) (drop (t * 16) (members_in target)) p (next (table_by target) t p) (s.bounded.few_members t)
        (rw (kind_of_lem target t inside) at s.exists) in
        record {
          inside = inside;
          few = s.bounded.few_types;
          first = omega (arith, row.0);
          last = row.1;
          leads = sym (get_or-drop (t * 16) (members_in target) (p - 1) 0) ∙ row.2;
        }
    go false q = absurd (no_type_lem (table_by target) t p (next (table_by target) t p) (rw (length_of_lem target) (ltb-false t (types_in target) q)) s.exists)

-- ---- along a path

-- a path that goes on: its first step leads on, and the rest goes on from there
pub record GoesOn (T : Table) (τ p : ℕ) (ps : List ℕ) : Type 0 where
  pub exists : step_from (kind_of T τ) p ≡ some (next T τ p)
  pub onwards : Walks T (next T τ p) ps

pub goes_on : {T : Table} {τ p : ℕ} {ps : List ℕ} → Walks T τ (p ∷ ps) → GoesOn T τ p ps
goes_on (onward e w) = record { exists = e; onwards = w }

-- on the way along a path: what is left goes on from the type reached, and ends where the whole ends
pub record OnTheWay (T : Table) (from : ℕ) (whole : List ℕ) (t : ℕ) (rest : List ℕ) : Type 0 where
  pub walks : Walks T t rest
  pub ends : end_of T t rest ≡ end_of T from whole

pub way_on : {T : Table} {from : ℕ} {whole : List ℕ} {t p : ℕ} {ps : List ℕ} → OnTheWay T from whole t (p ∷ ps) → OnTheWay T from whole (next T t p) ps
unfolding end_of
way_on w = record { walks = (goes_on w.walks).onwards; ends = w.ends }

pub way_ends : {T : Table} {from : ℕ} {whole : List ℕ} {t : ℕ} {rest : List ℕ} → OnTheWay T from whole t rest → rest ≡ [] → t ≡ end_of T from whole
unfolding end_of
way_ends {T = T} {t = t} w e = sym (ap (end_of T t) e) ∙ w.ends
