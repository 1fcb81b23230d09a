-- What an operation on a table's numbers finds, said of the table by value.
use mathlib.Core.Path.{◌≡◌, refl, sym, subst}
use mathlib.Core.Bool.{true, false}
use mathlib.Core.List.{List}
use Prim.Native.Nat.{ℕ}
use Rattle.std.specs.Prelude.{Result, Ok, Err}
use Rattle.std.specs.Result.{is_ok}
use native.Mathlib.Omega.{arith}
use Rattle.answers.specs.Answers.{fault}
use Rattle.answers.specs.declared.Fault.{Fault}
use Rattle.answers.specs.declared.Refusal.{Refusal}
use Rattle.model.specs.Definitions.Table.{table_of}
use Rattle.model.specs.Definitions.Refusals.{sound, has}
use Rattle.model.specs.Definitions.Entries.{judged_table}
use Rattle.model.specs.Definitions.Operations.{Operation}
use Rattle.model.proofs.Theorems.OperationLaws.{refused_same}
use Rattle.model.proofs.Theorems.Tools.{true_false}
use Rattle.table_growth.specs.Growth.{Grown}
use Rattle.table_operations.specs.declared.Table.{Table}
use Rattle.table_operations.specs.Operations.{held, StandsFor, LoadedFrom, Operated}

-- a document that is refused loads no table
pub load_refused : {bs : List ℕ} {f : Fault} {r : Result Table Fault} → has (fault f) ≡ judged_table bs → r ≡ Err f → LoadedFrom bs r
load_refused {f = f} {r} j e = record { judgement = rw e j; loaded = λ t same. let z : ◌≡◌ {A = ℕ} 0 1 = cc in absurd (omega arith) }

-- one that is accepted loads its table
pub load_done : {bs : List ℕ} {t : Table} → sound ≡ judged_table bs → StandsFor t (table_of bs) → LoadedFrom bs (Ok t)
load_done {bs} {t} j stands = record { judgement = j; loaded = λ u same. let e : t ≡ u = cc in subst (λ (x : Table). StandsFor x (table_of bs)) e stands }

module _ (o : Operation) (before : Table) {after : List ℕ} where
  -- done: the new numbers are kept
  pub done_operated : (answer : Result ℕ Refusal) → Grown o before.numbers answer after → true ≡ is_ok answer → Operated o before (record { answer = answer; table = record { numbers = after } })
  done_operated (Err why) g e = true_false (sym e) refl
  done_operated (Ok n) g e = record { answered = g.answer; then = g.done n refl; as_it_was = λ h. true_false refl h }

  -- refused: the old ones stay
  pub refused_operated : (answer : Result ℕ Refusal) → StandsFor before (held before) → Grown o before.numbers answer after → false ≡ is_ok answer
      → Operated o before (record { answer = answer; table = before })
  refused_operated (Err why) stands g e =
      record { answered = g.answer; then = subst (StandsFor before) (sym (refused_same (held before) o (sym g.answer))) stands; as_it_was = λ h. refl }
  refused_operated (Ok n) stands g e = true_false refl (sym e)
