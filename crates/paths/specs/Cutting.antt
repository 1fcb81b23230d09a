-- The parts of a path can be followed: its first steps, and both parts where it is divided at its first list.
use Rattle.std.specs.Prelude.{refl, ℕ, zero, suc, ◌+◌, ◌-◌, ◌*◌, ◌≤◌, ◌<◌, length, get_or}
use mathlib.Core.List.{List, [], ◌∷◌, Memᴰ}
use Rattle.std.proofs.Common.{arith}
use Rattle.model.specs.Definitions.Table.{Kind, text, empty, sequence, choice, list, Table, kind_of, members_of}
use Rattle.model.specs.Definitions.Embedding.{next, Divided, divide, divide_at}
use Rattle.model.proofs.Theorems.Facts.{WellFormed, Walks, arrived, onward}
use Rattle.model.proofs.Theorems.Placing.{walks_step, walks_rest, GoodParts, divide_good}
use Rattle.loaded_table.specs.Loaded.{table_by, length_of_lem}
use Rattle.loaded_embedding.specs.Loaded.{steps_from}
use Rattle.paths.specs.declared.Cut.{Cut}
use Rattle.paths.specs.Following.{Followable, Cuts}

-- the item type of a divided path is a type
item_at : (T : Table) (κ : Kind) (p : ℕ) (ps : List ℕ) (d : Divided) → ((m : ℕ) → Memᴰ m (members_of κ) → m < length T) → d.item < length T
    → (divide_at κ p ps d).item < length T
unfolding divide_at members_of
item_at T text p ps d exist later = later
item_at T empty p ps d exist later = later
item_at T (sequence ms) p ps d exist later = later
item_at T (choice need ms) p ps d exist later = later
item_at T (list m) p ps d exist later = exist m (Memᴰ.head refl)

divide_item : (T : Table) → WellFormed T → (τ : ℕ) (ps : List ℕ) → (divide T τ ps).item < length T
unfolding divide
divide_item T formed τ [] = formed.has_root
divide_item T formed τ (p ∷ ps) = item_at T (kind_of T τ) p ps _ (λ m here. formed.members_exist τ m here) (divide_item T formed (next T τ p) ps)

-- the first steps of a path exist
first_walk : (T : Table) (τ : ℕ) (em : List ℕ) (at n i : ℕ) → Walks T τ (steps_from em at n) → i ≤ n → Walks T τ (steps_from em at i)
unfolding steps_from
first_walk T τ em at zero zero walk few = arrived
first_walk T τ em at zero (suc i) walk few = absurd (omega arith)
first_walk T τ em at (suc n) zero walk few = arrived
first_walk T τ em at (suc n) (suc i) walk few = onward (walks_step walk) (first_walk T (next T τ (get_or em at 0)) em (at + 2) n i (walks_rest walk) (omega arith))

-- and can be followed
pub first_steps : {target em : List ℕ} {start steps t i : ℕ} → Followable target em start steps t → i ≤ steps → Followable target em start i t
first_steps {target} {em} {start} {steps} {t} {i} path few =
    record {
      bounded = path.bounded;
      well_formed = path.well_formed;
      is_type = path.is_type;
      within = omega (arith, path.within);
      walks = first_walk (table_by target) t em (start + 2) steps i path.walks few;
    }

module _ {target em : List ℕ} {start steps t : ℕ} (path : Followable target em start steps t)
    {r : Cut} (cut : Cuts em start steps (divide (table_by target) t (steps_from em (start + 2) steps)) r) where
  abbrev whole : List ℕ
  whole = steps_from em (start + 2) steps

  parts_walk : GoodParts (table_by target) t (length whole) (divide (table_by target) t whole)
  parts_walk = let long : length whole ≤ length whole = omega arith in divide_good (table_by target) t (length whole) whole path.walks long

  -- to the list
  pub before_follows : Followable target em start r.depth t
  before_follows = first_steps path cut.few

  -- and from an item on
  pub rest_follows : r.depth < steps → Followable target em (start + 2 * suc r.depth) (steps - suc r.depth) r.item
  rest_follows less =
      record {
        bounded = path.bounded;
        well_formed = path.well_formed;
        is_type = omega (arith, cut.item, divide_item (table_by target) path.well_formed t whole, length_of_lem target);
        within = omega (arith, path.within);
        walks = rw (cut.rest, cut.item) parts_walk.rest_walks;
      }
