-- 01 "Refusal answers": a table, embedding or tree that none of the checks refuses is accepted. The three kinds of document in one
-- form: what is accepted is written by something valid, and no longer than 60,000 bytes.
use Rattle.std.specs.Prelude.{◌≡◌, List, ℕ, suc, ◌≤◌, length}
use Rattle.model.specs.Definitions.Table.{Table, kind_of}
use Rattle.model.specs.Definitions.Content.{Content, levels}
use Rattle.model.specs.Definitions.Conformance.{Holds}

-- bytes that `write` gives for something valid
pub record WrittenBy {A : Type 0} (valid : A → Type 0) (write : A → List ℕ) (bs : List ℕ) : Type 0 where
  pub written : A
  pub is_valid : valid written
  pub are_its_bytes : bs ≡ write written
  pub at_most_60000 : length bs ≤ 60000

-- what the root element of an accepted tree holds: what its type holds, at most 128 levels, the root being level 1
pub record ValidTree (S : Table) (k : Content) : Type 0 where
  pub conforms : Holds S (kind_of S 0) k
  pub at_most_128 : suc (levels k) ≤ 128
