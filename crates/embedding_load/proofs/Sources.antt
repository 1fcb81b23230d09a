-- What `load` knows of the source table and of the document, and what the form's machine says of the types to come.
use mathlib.Core.Path.{◌≡◌, ◌∙◌}
use mathlib.Core.Bool.{Bool, true, false}
use mathlib.Core.List.{List, [], ◌∷◌, map}
use Prim.Native.Nat.{ℕ, zero, suc, ◌≤◌, ◌<◌}
use native.Mathlib.Omega.{arith}
use lib.ListN.{length, drop, get_or}
use lib.Seq.{drop-nil}
use Rattle.loaded_table.specs.Loaded.{table_by, length_of_lem, Bounded}
use Rattle.loaded_table.specs.Kinds.{few_edges}
use Rattle.embedding_form.proofs.Machines.{form_stops}
use Rattle.model.specs.Definitions.Basics.{pick, passes}
use Rattle.model.specs.Definitions.Commands.{maps_to, path, step, embedding_end, alien_e, embedding_command, embedding_commands, embedding_width}
use Rattle.model.specs.Definitions.Table.{Table, kind_of, edges_of}
use Rattle.model.specs.Definitions.EmbeddingChecks.{due, embedding_step, embedding_complete, embedding_form}
use Rattle.model.proofs.Theorems.Runs.{passes_fails}
use Rattle.model.proofs.Theorems.Reading.{raw_at, raw_with, left_ends, no_embedding-commands}

-- a source table and a document whose numbers fit the arrays
pub record SourceTable (em : List ℕ) (S : Table) : Type 0 where
  pub few_types : length S ≤ 64
  pub few_edges : (i : ℕ) → edges_of (kind_of S i) ≤ 16
  pub fits : length em ≤ 60000

-- a loaded table and a document that is not too long are such
pub source_in : (rows em : List ℕ) → Bounded rows → length em ≤ 60000 → SourceTable em (table_by rows)
source_in rows em bounded fits = record { few_types = rw (length_of_lem rows) bounded.few_types; few_edges = few_edges rows bounded; fits = fits }

-- a document of the right form has a byte
pub some_bytes : (S : Table) (em : List ℕ) → embedding_form S em ≡ passes → 1 ≤ length em
unfolding embedding_form embedding_complete pick
some_bytes S [] form =
    passes_fails form (left_ends embedding_commands embedding_width alien_e embedding_step embedding_complete form_stops no_embedding-commands [] (due 0 (map edges_of S) false) 0 (omega arith))
some_bytes S (b ∷ em) form = omega arith

-- ---- types to come

-- where a type is to come, it is the next, and its edges are counted
pub record NextType (S : Table) (n m : ℕ) (ns : List ℕ) : Type 0 where
  pub there : n < length S
  pub so_many : m ≡ edges_of (kind_of S n)
  pub behind : ns ≡ drop (suc n) (map edges_of S)

pub next_type : (S : Table) (n m : ℕ) (ns : List ℕ) → m ∷ ns ≡ drop n (map edges_of S) → NextType S n m ns
unfolding kind_of
next_type [] n m ns e = let none : m ∷ ns ≡ [] = e ∙ drop-nil n in let z : ◌≡◌ {A = ℕ} 0 1 = cc in absurd (omega arith)
next_type (κ ∷ S) zero m ns e = record { there = omega arith; so_many = cc; behind = cc }
next_type (κ ∷ S) (suc n) m ns e =
    let later = next_type S n m ns e in
    let within = later.there in
    record { there = omega arith; so_many = later.so_many; behind = later.behind }

-- where none is to come, all have been
pub none_next : (S : Table) (n : ℕ) → [] ≡ drop n (map edges_of S) → length S ≤ n
none_next [] n e = omega arith
none_next (κ ∷ S) zero e = let z : ◌≡◌ {A = ℕ} 0 1 = cc in absurd (omega arith)
none_next (κ ∷ S) (suc n) e = let later = none_next S n e in omega arith

-- ---- operands

-- a step's operand is the byte behind its command byte
operand_bare : (x y : Bool) (t p : ℕ) → step p ≡ pick x path (pick y embedding_end alien_e) → t ≡ p
unfolding pick
operand_bare true y t p e = let z : ◌≡◌ {A = ℕ} 0 1 = cc in absurd (omega arith)
operand_bare false true t p e = let z : ◌≡◌ {A = ℕ} 0 1 = cc in absurd (omega arith)
operand_bare false false t p e = let z : ◌≡◌ {A = ℕ} 0 1 = cc in absurd (omega arith)

operand_paired : (x y : Bool) (t p : ℕ) → step p ≡ pick x (maps_to t) (pick y (step t) alien_e) → t ≡ p
unfolding pick
operand_paired true y t p e = let z : ◌≡◌ {A = ℕ} 0 1 = cc in absurd (omega arith)
operand_paired false true t p e = cc
operand_paired false false t p e = let z : ◌≡◌ {A = ℕ} 0 1 = cc in absurd (omega arith)

operand_raw : (o m : Bool) (b t p : ℕ) → step p ≡ embedding_command (raw_with o m b t) → t ≡ p
unfolding raw_with embedding_command
operand_raw false m b t p e = operand_bare _ _ t p e
operand_raw true true b t p e = operand_paired _ _ t p e
operand_raw true false b t p e = let z : ◌≡◌ {A = ℕ} 0 1 = cc in absurd (omega arith)

pub operand_behind : (em : List ℕ) (at p : ℕ) → step p ≡ embedding_command (raw_at em at) → get_or em (suc at) 0 ≡ p
unfolding raw_at
operand_behind em at p e = operand_raw _ _ _ _ p e
