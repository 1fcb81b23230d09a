-- The machine of checks 2 and 3 at once: what it lets pass, each of them does.
use mathlib.Core.Path.{◌≡◌, refl}
use mathlib.Core.Bool.{true}
use mathlib.Core.List.{List, [], ◌∷◌}
use Prim.Native.Nat.{ℕ, ◌+◌}
use Rattle.model.specs.Definitions.Basics.{pick, passes, Next, goes, stops, proceed, run}
use Rattle.model.specs.Definitions.Commands.{TableCommand, alien, table_width}
use Rattle.model.specs.Definitions.TableChecks.{TableState, TableCount, table_step, limit_step, table_complete}
use Rattle.model.proofs.Theorems.Runs.{passes_fails}
use Rattle.table_form.proofs.Loop.{Machine}
use Rattle.table_form.proofs.FormMachine.{form_stops}
use Rattle.table_limits.specs.Both.{with, both_step, both_complete}

pub both_stops : (s : TableState × TableCount) → both_step s alien ≡ stops
both_stops s = rw (form_stops s.0) refl

abbrev pub both_machine : Machine (TableState × TableCount)
both_machine = record { step = both_step; complete = both_complete; stops_there = both_stops }

-- a command that check 2, or check 3, refuses
pub stops_with : {A B : Type 0} {m : Next A} (n : Next B) → stops ≡ m → stops ≡ with m n
stops_with n e = rw (← e)

pub with_stops : {A B : Type 0} {m : Next A} {n : Next B} {a : A} → goes a ≡ m → stops ≡ n → stops ≡ with m n
with_stops e f = rw (← e, ← f)

-- one that both take
pub both_go : {A B : Type 0} {m : Next A} {n : Next B} {a : A} {b : B} → goes a ≡ m → goes b ≡ n → goes (a, b) ≡ with m n
both_go e f = rw (← e, ← f)

pub both_pass : (s : TableState × TableCount) (at : ℕ) (cs : List TableCommand) → run table_width both_step both_complete s at cs ≡ passes
    → (run table_width table_step table_complete s.0 at cs ≡ passes) × (run table_width limit_step (λ n. true) s.1 at cs ≡ passes)
unfolding run pick proceed
both_pass s at [] e = (e, refl)
both_pass s at (c ∷ cs) e = go (table_step s.0 c) refl (limit_step s.1 c) refl (λ t. both_pass t (at + table_width c) cs)
  where
    go : (m : Next TableState) → table_step s.0 c ≡ m → (n : Next TableCount) → limit_step s.1 c ≡ n
        → ((t : TableState × TableCount) → run table_width both_step both_complete t (at + table_width c) cs ≡ passes
        → (run table_width table_step table_complete t.0 (at + table_width c) cs ≡ passes) × (run table_width limit_step (λ n. true) t.1 (at + table_width c) cs ≡ passes))
        → (run table_width table_step table_complete s.0 at (c ∷ cs) ≡ passes) × (run table_width limit_step (λ n. true) s.1 at (c ∷ cs) ≡ passes)
    go stops p n q later = passes_fails (rw p at e) refl
    go (goes x) p stops q later = passes_fails (rw (p, q) at e) refl
    go (goes x) p (goes y) q later = rw (p, q) (later (x, y) (rw (p, q) at e))
