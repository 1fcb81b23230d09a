-- What an entry gives for documents from files.
use Rattle.std.specs.Prelude.{◌≡◌, List, ℕ, length}
use Rattle.std.specs.Fn.{Once}
use denote.Ref.{Bor, MutBor}
use Rattle.answer_numbers.specs.declared.Answer.{Answer}

module _ {F : Type 0} (g : Once F (Bor (List ℕ) × (Bor (List ℕ) × (Bor (List ℕ) × (Bor (List ℕ) × (MutBor (List ℕ) × Unit {0}))))) (Answer × (MutBor (List ℕ) × Unit {0}))) (f : F) where
  -- f may give this answer for some four documents, and an output with room for the longest document
  pub record GivenBy (a : Answer) : Type 0 where
    pub source : Bor (List ℕ)
    pub target : Bor (List ℕ)
    pub embedding : Bor (List ℕ)
    pub tree : Bor (List ℕ)
    pub lent : MutBor (List ℕ)
    pub left : MutBor (List ℕ)
    pub room : length lent.now ≡ 60000
    pub met : g.post f (source, (target, (embedding, (tree, (lent, tt))))) (a, (left, tt))
