-- What is done with the rows of a setting.
use Rattle.std.specs.Prelude.{◌≡◌, List, ℕ}
use Rattle.std.specs.Fn.{Once}
use denote.Ref.{Bor, MutBor}
use Rattle.rows.specs.Rows.{Rows}
use Rattle.model.specs.Definitions.Image.{Setting}

module _ {F R : Type 0} (g : Once F (Bor (List ℕ) × (Bor (List ℕ) × (MutBor (List ℕ) × Unit {0}))) (R × (MutBor (List ℕ) × Unit {0}))) (f : F) (X : Setting) (old : List ℕ) where
  -- f may be called at rows of a setting, and an output
  abbrev pub TakesRows : Type 0
  TakesRows = (pool places : Bor (List ℕ)) (out : MutBor (List ℕ)) → Rows X pool.now places.now → out.now ≡ old → g.pre f (pool, (places, (out, tt)))

  -- f may give r at rows of a setting, and leave this in the output
  pub record ReturnsByRows (new : List ℕ) (r : R) : Type 0 where
    pub pool : Bor (List ℕ)
    pub places : Bor (List ℕ)
    pub shown : MutBor (List ℕ)
    pub left : MutBor (List ℕ)
    pub rows : Rows X pool.now places.now
    pub shows : shown.now ≡ old
    pub met : g.post f (pool, (places, (shown, tt))) (r, (left, tt))
    pub leaves : left.now ≡ new
