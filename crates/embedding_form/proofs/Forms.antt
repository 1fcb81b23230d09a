-- The machine of an embedding's form, at the states of the code: where k edges are due and type s is next.
use mathlib.Core.Path.{◌≡◌, refl, sym, ap, ◌∙◌}
use mathlib.Core.Bool.{Bool, true, false}
use mathlib.Core.List.{List, [], ◌∷◌, map}
use Prim.Native.Nat.{ℕ, zero, suc, ◌+◌, ◌-◌, ◌≤◌, ◌<◌}
use native.Mathlib.Numerals.{add-one}
use native.Mathlib.Omega.{arith}
use lib.ListN.{length, drop, drop_of_length-le, get_or-map, length-map}
use lib.Seq.{drop-cons}
use Rattle.model.specs.Definitions.Basics.{goes, stops, goes_if}
use Rattle.model.specs.Definitions.Commands.{maps_to, path, step, embedding_end}
use Rattle.model.specs.Definitions.Table.{Table, empty, kind_of, edges_of}
use Rattle.model.specs.Definitions.EmbeddingChecks.{due, embedding_ended, embedding_step}
use Rattle.std.specs.Bool.{then_some}
use Rattle.embedding_form.specs.declared.form.FormState.TheVariants.{Due}
use Rattle.embedding_form.specs.States.{due_state, form_next}

-- ---- edges due: no type and no end may stand here, and a path takes one edge

module _ (ns : List ℕ) (on : Bool) where
  pub type_early : (k t : ℕ) → 0 < k → stops ≡ embedding_step (due k ns on) (maps_to t)
  unfolding embedding_step
  type_early zero t h = absurd (omega arith)
  type_early (suc k) t h = refl

  pub end_early : (k : ℕ) → 0 < k → stops ≡ embedding_step (due k ns on) embedding_end
  unfolding embedding_step
  end_early zero h = absurd (omega arith)
  end_early (suc k) h = refl

  pub path_due : (k : ℕ) → 0 < k → goes (due (k - 1) ns true) ≡ embedding_step (due k ns on) path
  unfolding embedding_step
  path_due zero h = absurd (omega arith)
  path_due (suc k) h = let one_less : suc k - 1 ≡ k = omega arith in rw one_less

-- with no edge due there is no path
pub path_undue : (ns : List ℕ) (on : Bool) (k : ℕ) → k ≤ 0 → stops ≡ embedding_step (due k ns on) path
unfolding embedding_step
path_undue [] on zero h = refl
path_undue (n ∷ ns) on zero h = refl
path_undue ns on (suc k) h = absurd (omega arith)

-- a step may stand only on a path
step_due : (ns : List ℕ) (on : Bool) (k p : ℕ) → goes_if on (due k ns true) ≡ embedding_step (due k ns on) (step p)
unfolding embedding_step
step_due [] on zero p = refl
step_due (n ∷ ns) on zero p = refl
step_due ns on (suc k) p = refl

pub step_on : (ns : List ℕ) (on : Bool) (k p : ℕ) → on ≡ true → goes (due k ns true) ≡ embedding_step (due k ns on) (step p)
unfolding goes_if
step_on ns on k p e = rw (sym (step_due ns on k p), e)

pub step_off : (ns : List ℕ) (on : Bool) (k p : ℕ) → on ≡ false → stops ≡ embedding_step (due k ns on) (step p)
unfolding goes_if
step_off ns on k p e = rw (sym (step_due ns on k p), e)

-- as the code says it
pub step_if : (S : Table) (k s p : ℕ) (on : Bool) → form_next S (then_some on (Due k s true)) ≡ embedding_step (due_state S k s on) (step p)
step_if S k s p true = step_on _ true k p refl
step_if S k s p false = step_off _ false k p refl

-- ---- types to come

module _ (S : Table) (s : ℕ) where
  -- one entry for each type
  long : length (map edges_of S) ≡ length S
  long = length-map S edges_of

  -- type s is the next, and then those behind it
  pub edges_next : s < length S → drop s (map edges_of S) ≡ edges_of (kind_of S s) ∷ drop (suc s) (map edges_of S)
  unfolding edges_of kind_of
  edges_next h =
      let within : s < length (map edges_of S) = rw long h in
      drop-cons (map edges_of S) s 0 within ∙ ap (λ (n : ℕ). n ∷ drop (suc s) (map edges_of S)) (get_or-map edges_of S s empty)

  -- none is next
  pub edges_none : length S ≤ s → drop s (map edges_of S) ≡ []
  edges_none h = let past : length (map edges_of S) ≤ s = rw long h in drop_of_length-le (map edges_of S) past

  module _ (on : Bool) where
    -- what a type's command and the end's do with no edge due
    pub type-next : (k t r : ℕ) → k ≤ 0 → s < length S → r ≡ edges_of (kind_of S s)
        → goes (due_state S r (s + 1) false) ≡ embedding_step (due_state S k s on) (maps_to t)
    unfolding embedding_step
    type-next zero t r none-due h same = rw (edges_next h, add-one s, same)
    type-next (suc k) t r none-due h same = absurd (omega arith)

    pub type-none : (k t : ℕ) → k ≤ 0 → length S ≤ s → stops ≡ embedding_step (due_state S k s on) (maps_to t)
    unfolding embedding_step
    type-none zero t none-due h = rw (edges_none h)
    type-none (suc k) t none-due h = absurd (omega arith)

    pub end-next : (k : ℕ) → k ≤ 0 → s < length S → stops ≡ embedding_step (due_state S k s on) embedding_end
    unfolding embedding_step
    end-next zero none-due h = rw (edges_next h)
    end-next (suc k) none-due h = absurd (omega arith)

    pub end_none : (k : ℕ) → k ≤ 0 → length S ≤ s → goes embedding_ended ≡ embedding_step (due_state S k s on) embedding_end
    unfolding embedding_step
    end_none zero none-due h = rw (edges_none h)
    end_none (suc k) none-due h = absurd (omega arith)
