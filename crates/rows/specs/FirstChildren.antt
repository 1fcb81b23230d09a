-- The first child of conforming content.
use Rattle.std.specs.Prelude.{Bool, true, false, ℕ, suc, ◌<◌, length, eqb}
use mathlib.Core.List.{List, [], ◌∷◌, Memᴰ}
use Rattle.std.proofs.Common.{arith, eq-eqb}
use Rattle.model.specs.Definitions.Basics.{pick}
use Rattle.model.specs.Definitions.Table.{Kind, Table}
use Rattle.model.specs.Definitions.Content.{Content}
use Rattle.model.specs.Definitions.Conformance.{Holds, no_character, one_character, nothing, no_member, one_member, chosen, left_out, no_item, one_item}
use Rattle.model.specs.Definitions.Templates.{first_in}
use Rattle.rows.specs.Rows.{index_in, FirstChild, of_text, of_empty, of_sequence, of_choice, of_nothing, of_list}

-- a member's index is below the number of members
pub index_within : (t : ℕ) (ms : List ℕ) → Memᴰ t ms → index_in t ms < length ms
unfolding index_in pick
index_within t [] mem = elim mem [ ]
index_within t (m ∷ ms) (Memᴰ.head e) = rw (eq-eqb t m e) (omega arith)
index_within t (m ∷ ms) (Memᴰ.tail later) = go (eqb t m) (index_within t ms later)
  where
    go : (b : Bool) → index_in t ms < length ms → pick b 0 (suc (index_in t ms)) < suc (length ms)
    go true less = omega arith
    go false less = omega arith

-- the first child of conforming content is one that can be first
pub first_chosen : {S : Table} {κ : Kind} {k : Content} → Holds S κ k → FirstChild (first_in k) κ
unfolding first_in
first_chosen no_character = of_text
first_chosen (one_character ok later) = of_text
first_chosen nothing = of_empty
first_chosen no_member = of_sequence
first_chosen (one_member h later) = of_sequence
first_chosen (chosen {m = m} {ms = ms} mem h) = of_choice (index_within m ms mem)
first_chosen left_out = of_nothing
first_chosen no_item = of_list
first_chosen (one_item h later) = of_list
