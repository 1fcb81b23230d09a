-- One step of a path that can be followed: by a loaded table, and in the model.
use Rattle.std.specs.Prelude.{◌≡◌, length, drop, get_or}
use Rattle.std.proofs.Common.{sym, ◌∙◌, get_or-drop}
use mathlib.Core.List.{List, ◌∷◌, Memᴰ}
use Prim.Native.Nat.{ℕ, suc, ◌+◌, ◌-◌, ◌*◌, ◌≤◌, ◌<◌}
use native.Mathlib.Omega.{arith}
use Rattle.model.specs.Definitions.Table.{Table, kind_of, members_of, step_from}
use Rattle.model.specs.Definitions.Embedding.{next}
use Rattle.model.proofs.Theorems.Facts.{Walks}
use Rattle.model.proofs.Theorems.Tools.{entry_member}
use Rattle.model.proofs.Theorems.Placing.{walks_step, walks_rest}
use Rattle.loaded_table.specs.Loaded.{kind_in, table_by, kinds_of, counts_of, members_in, length_of_lem, kind_of_lem}
use Rattle.loaded_table.specs.Steps.{step_in_row}
use Rattle.loaded_embedding.specs.Loaded.{steps_from}
use Rattle.paths.specs.Following.{Followable, Taken}

-- ---- a turn of a loop over the steps of a path: d steps are taken, which led to type t

module _ {target em : List ℕ} {start steps d t : ℕ} (now : Taken target em start steps d t) (less : d < steps)
    {p : ℕ} (read : p ≡ get_or em (start + 2 + 2 * d) 0) where
  abbrev table : Table
  table = table_by target

  abbrev later : List ℕ
  later = steps_from em (start + 2 * (d + 1) + 2) (steps - (d + 1))

  -- the first step, and those after it
  pub steps_here : steps_from em (start + 2 * d + 2) (steps - d) ≡ p ∷ later
  unfolding steps_from
  steps_here =
      let some_left : steps - d ≡ suc (steps - (d + 1)) = omega arith in
      let place : start + 2 * d + 2 ≡ start + 2 + 2 * d = omega arith in
      let after : start + 2 + 2 * d + 2 ≡ start + 2 * (d + 1) + 2 = omega arith in
      rw (some_left, place, after, read)

  pub walks_here : Walks table t (p ∷ later)
  walks_here = rw steps_here at now.rest.walks

  pub is_small : t < 64
  is_small = omega (arith, now.rest.is_type, now.rest.bounded.few_types)

  pub kind_here : kind_of table t ≡ kind_in (kinds_of target) (counts_of target) (members_in target) t
  kind_here = kind_of_lem target t now.rest.is_type

  at_step : (1 ≤ p) × (p ≤ 16) × (get_or (drop (t * 16) (members_in target)) (p - 1) 0 ≡ next table t p)
  at_step =
      step_in_row (get_or (kinds_of target) t 0) (get_or (counts_of target) t 0) (drop (t * 16) (members_in target)) p (next table t p)
      (now.rest.bounded.few_members t) (rw kind_here at (walks_step walks_here))

  pub step_bounds : (1 ≤ p) × (p ≤ 16)
  step_bounds = (at_step.0, at_step.1)

  -- r is the entry at the step's place
  module _ {r : ℕ} (is : r ≡ get_or (members_in target) (t * 16 + (p - 1)) 0) where
    pub next_here : next table t p ≡ r
    next_here = sym at_step.2 ∙ get_or-drop (t * 16) (members_in target) (p - 1) 0 ∙ sym is

    member-here : Memᴰ (next table t p) (members_of (kind_of table t))
    unfolding step_from
    member-here = entry_member p (members_of (kind_of table t)) (walks_step walks_here)

    -- the steps after it can be followed
    pub follow-on : Taken target em start steps (d + 1) r
    follow-on =
        record {
          rest =
              record {
                bounded = now.rest.bounded;
                well_formed = now.rest.well_formed;
                is_type = omega (arith, now.rest.well_formed.members_exist t (next table t p) member-here, next_here, length_of_lem target);
                within = omega (arith, now.rest.within);
                walks = rw next_here at (walks_rest walks_here);
              };
        }

-- the place of a step
pub place_within : {target em : List ℕ} {start steps d t : ℕ} → Taken target em start steps d t → d < steps → start + 2 + 2 * d < length em
place_within now less = omega (arith, now.rest.within)

-- before the first step
pub follow_start : {target em : List ℕ} {start steps t : ℕ} → Followable target em start steps t → Taken target em start steps 0 t
follow_start {start = start} {steps} path =
    let place : start + 2 * 0 ≡ start = omega arith in
    let all : steps - 0 ≡ steps = omega arith in
    record { rest = rw (place, all) path }
