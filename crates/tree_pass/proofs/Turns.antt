-- The pass over a tree document: a byte and its operand as a command, and the turns of the loop by those of the machines.
use mathlib.Core.Path.{◌≡◌, ◌∙◌}
use mathlib.Core.Bool.{true}
use mathlib.Core.List.{List}
use Prim.Native.Nat.{ℕ, ◌+◌, ◌-◌, ◌≤◌, ◌<◌}
use native.Mathlib.Omega.{arith}
use lib.ListN.{length, get_or, set}
use Rattle.model.specs.Definitions.Commands.{opens, tree_command}
use Rattle.model.specs.Definitions.Characters.{allowed}
use Rattle.model.proofs.Theorems.Reading.{raw_at}
use Rattle.loaded_table.specs.Loaded.{types_in}
use Rattle.tree_form.proofs.Commands.{opens_at}
use Rattle.tree_form.proofs.Machines.{stands}
use Rattle.tree_levels.proofs.Elements.{Counting, counting_start, counting_opens, counting_character, counting_closes, counting_tree_end, counting_end}
use Rattle.tree_form.proofs.FormTurns.{form_root_end, form_ended}
use Rattle.tree_levels.proofs.LevelTurns.{levels_tree_end, levels_end}
use Rattle.tree_operands.proofs.OperandTurns.{operands_tree_end, operands_end}
use Rattle.tree_expected.specs.declared.Open.{Open}
use Rattle.tree_expected.specs.Expected.{Opening, MayOpen, MayHold, Closes, open_at, Inside, Outside}
use Rattle.tree_expected.proofs.ExpectedTurns.{inside_root, inside_readable, inside_opens, inside_character, inside-closes, outside-closes, outside_ends}
use Rattle.tree_pass.specs.Passing.{Begun, RootEntered, Accepted, Innermost, Enters, Ends}
use Rattle.std.specs.Prelude.{Option, Some, None, IfSome}

-- a document of at least two bytes that begins with 30 and 0
pub begun : {bs : List ℕ} → 2 ≤ length bs → length bs ≤ 60000 → get_or bs 0 0 ≡ 0x30 → get_or bs 1 0 ≡ 0 → Begun bs
begun {bs} two short first type =
    let root : opens (get_or bs 1 0) ≡ tree_command (raw_at bs 0) = opens_at bs 0 first (omega arith) in
    record { short = short; root = stands bs 0 (omega arith) (rw type at root) }

-- what an element that may come says of one that is entered
pub enters : (rows : List ℕ) (top m h x : ℕ) (r : Option ℕ) → Opening rows m h x r → x < types_in rows → top + 1 < 128 → IfSome r (Enters rows top m h x)
enters rows top m h x (Some next) o exists room = record { exists = exists; room = room; opening = o }
enters rows top m h x None o exists room = tt

-- what the loop keeps: the machines of the checks, and the number of elements
pub record Passing (rows bs : List ℕ) (around : List Open) (top m h n at : ℕ) : Type 0 where
  pub inside : Inside rows bs around top m h at
  pub counting : Counting bs at n

-- behind the command that opens the root
pub passing_root : (rows bs : List ℕ) (around : List Open) → RootEntered rows bs → length around ≡ 128 → Passing rows bs around 0 0 0 1 2
passing_root rows bs around e long = record {
  inside = inside_root rows bs around e.bounded e.begun.root e.some long;
  counting = counting_opens 0 0 (counting_start bs) e.begun.root;
}

module _ {rows bs : List ℕ} {around : List Open} {top m h n at : ℕ} (p : Passing rows bs around top m h n at) where
  -- what `checked_at` asks
  pub innermost : at + 1 < length bs → Innermost rows bs top m at
  innermost more =
      let low : top + 1 ≤ 128 = p.inside.levels.low in
      record { readable = inside_readable p.inside; low = omega arith; more = more }

  -- an element is opened
  pub passing_opens : {x next : ℕ} → MayOpen rows bs m h at x next × (x < types_in rows) × (top + 1 < 128) → Passing rows bs (set around top (record { kind = m; had = next })) (top + 1) x 0 (n + 1) (at + 2)
  passing_opens o = record {
    inside = inside_opens p.inside o.0 o.2 o.1;
    counting = counting_opens at n p.counting o.0.reads;
  }

  -- a character
  pub passing_character : {c : ℕ} → MayHold rows bs m h at c × (allowed c ≡ true) → Passing rows bs around top m h n (at + 2)
  passing_character o = record {
    inside = inside_character p.inside o.0 o.1;
    counting = counting_character at n p.counting o.0.reads;
  }

  -- a close
  pub passing_closes : Closes rows bs m h at → 0 < top → Passing rows bs around (top - 1) (open_at around (top - 1)).kind (open_at around (top - 1)).had n (at + 1)
  passing_closes o some = record {
    inside = inside-closes p.inside o some;
    counting = counting_closes at n p.counting o.reads;
  }

  -- the close of the root, with the end of the document behind it
  passing_ends : {r : ℕ} → length bs ≤ 60000 → Closes rows bs m h at → top ≡ 0 → Ends bs (at + 1) n r → Accepted rows bs r
  passing_ends short o none e =
      let out : Outside rows bs (at + 1) = outside-closes p.inside o none in
      let all = counting_tree_end (at + 1) n (counting_closes at n p.counting o.reads) e.reads in
      record {
        short = short;
        form = form_ended bs (at + 1 + 1) e.last (form_root_end (at + 1) out.form e.reads);
        levels = levels_end bs 0 (at + 1 + 1) e.last (levels_tree_end 0 (at + 1) out.levels e.reads);
        operands = operands_end _ bs (at + 1 + 1) e.last (operands_tree_end _ (at + 1) out.operands e.reads);
        expected = outside_ends out e.reads e.last;
        counted = e.same ∙ counting_end bs (at + 1 + 1) n e.last all;
      }

  -- the same of what `ended` answers
  pub passing_ended : (r : Option ℕ) → length bs ≤ 60000 → Closes rows bs m h at → top ≡ 0 → IfSome r (Ends bs (at + 1) n) → IfSome r (Accepted rows bs)
  passing_ended (Some r) short o none e = passing_ends short o none e
  passing_ended None short o none e = tt
