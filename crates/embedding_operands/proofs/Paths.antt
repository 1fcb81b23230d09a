-- The machine of an embedding's operands, at the states of the code; its states are types of the table.
use mathlib.Core.Path.{◌≡◌, refl, sym, ap}
use mathlib.Core.Bool.{Bool, true, false}
use mathlib.Core.Option.{Option, none, some}
use Prim.Native.Nat.{ℕ, ◌≤◌, ◌<◌}
use lib.ListN.{length}
use lib.Dec.{ltb}
use borrow.Author.Tests.{lt-ltb, le-ltb, ltb-true}
use Rattle.model.specs.Definitions.Basics.{Next, goes, stops, goes_if}
use Rattle.model.specs.Definitions.Commands.{EmbeddingCommand, maps_to, path, step, embedding_end, alien_e}
use Rattle.model.specs.Definitions.Table.{Table, kind_of, members_of, step_from}
use Rattle.model.specs.Definitions.EmbeddingChecks.{Reached, reaches, path_step}
use Rattle.model.proofs.Theorems.Facts.{WellFormed}
use Rattle.model.proofs.Theorems.Runs.{goes_stops}
use Rattle.model.proofs.Theorems.Tools.{entry_member}
use Rattle.loaded_table.specs.Loaded.{table_by, length_of_lem}
use Rattle.embedding_operands.specs.declared.operands.Reach.{Reach}
use Rattle.embedding_operands.specs.declared.operands.Walk.{Walk}
use Rattle.embedding_operands.specs.States.{reached, Within}

-- ---- a turn of the machine

module _ (T : Table) (start here : ℕ) where
  -- a target type that there is, and one that there is not
  pub maps_known : (t : ℕ) → t < length T → goes (reached (record { start = t; here = t })) ≡ path_step T (reached (record { start = start; here = here })) (maps_to t)
  unfolding path_step goes_if
  maps_known t h = rw (lt-ltb _ _ h)

  pub maps_unknown : (t : ℕ) → length T ≤ t → stops ≡ path_step T (reached (record { start = start; here = here })) (maps_to t)
  unfolding path_step goes_if
  maps_unknown t h = rw (le-ltb _ _ h)

  -- a path starts where the source type is mapped to; the end changes nothing
  pub path_again : goes (reached (record { start = start; here = start })) ≡ path_step T (reached (record { start = start; here = here })) path
  unfolding path_step
  path_again = refl

  pub end_stays : goes (reached (record { start = start; here = here })) ≡ path_step T (reached (record { start = start; here = here })) embedding_end
  unfolding path_step
  end_stays = refl

  -- a step that there is, and one that there is not
  pub step_taken : (p m : ℕ) → some m ≡ step_from (kind_of T here) p → goes (reached (record { start = start; here = m })) ≡ path_step T (reached (record { start = start; here = here })) (step p)
  unfolding path_step reaches
  step_taken p m e = rw (sym e)

  pub step_missing : (p : ℕ) → none ≡ step_from (kind_of T here) p → stops ≡ path_step T (reached (record { start = start; here = here })) (step p)
  unfolding path_step reaches
  step_missing p e = rw (sym e)

-- ---- the states stay within the table

-- both types of a state are types of the table
pub record InTable (T : Table) (r : Reached) : Type 0 where
  pub start_in : r.start < length T
  pub now_in : r.now < length T

-- the state that a machine goes on to
next-state : Next Reached → Reached → Reached
next-state (goes s) r = s
next-state stops r = r

same-state : {r s : Reached} → goes r ≡ goes s → r ≡ s
unfolding next-state
same-state {r} {s} e = ap (λ n. next-state n r) e

module _ (T : Table) (sound : WellFormed T) (r s : Reached) (inside : InTable T r) where
  -- a target type was tested, and a member exists
  maps_stays : (t : ℕ) (b : Bool) → ltb t (length T) ≡ b → goes_if b (reached (record { start = t; here = t })) ≡ goes s → InTable T s
  unfolding goes_if
  maps_stays t true q e = rw (sym (same-state e)) record { start_in = ltb-true _ _ q; now_in = ltb-true _ _ q }
  maps_stays t false q e = goes_stops e refl

  step_stays : (p : ℕ) (o : Option ℕ) → step_from (kind_of T r.now) p ≡ o → reaches r.start o ≡ goes s → InTable T s
  unfolding reaches step_from
  step_stays p none q e = goes_stops e refl
  step_stays p (some m) q e =
      rw (sym (same-state e)) record {
        start_in = inside.start_in;
        now_in = sound.members_exist r.now m (entry_member p (members_of (kind_of T r.now)) q);
      }

  -- what the machine goes on to is in the table
  pub stays : (c : EmbeddingCommand) → path_step T r c ≡ goes s → InTable T s
  unfolding path_step
  stays (maps_to t) e = maps_stays t (ltb t (length T)) refl e
  stays path e = rw (sym (same-state e)) record { start_in = inside.start_in; now_in = inside.start_in }
  stays (step p) e = step_stays p (step_from (kind_of T r.now) p) refl e
  stays embedding_end e = rw (sym (same-state e)) inside
  stays alien_e e = goes_stops e refl

-- so a walk stays within the table
pub within_on : (w : Walk) (r : Reach) (c : EmbeddingCommand) → Within w → goes (reached r) ≡ path_step (table_by w.target.now) (reached w.reach) c → Within (record { target = w.target; reach = r })
within_on w r c h e =
    let long = length_of_lem w.target.now in
    let there = stays (table_by w.target.now) h.well_formed (reached w.reach) (reached r) (record { start_in = rw long h.start_in; now_in = rw long h.here_in }) c (sym e) in
    record { bounded = h.bounded; well_formed = h.well_formed; start_in = rw long at there.start_in; here_in = rw long at there.now_in }
