-- Check 9 for one path: the choices and lists that its steps leave decide.
use mathlib.Core.Path.{◌≡◌, refl, sym, ap, ap₂, ◌∙◌}
use mathlib.Core.Bool.{Bool, true, false, not, ◌&&◌, ◌||◌}
use mathlib.Core.List.{List, [], ◌∷◌}
use mathlib.Core.Option.{some}
use Prim.Native.Nat.{ℕ, suc, ◌+◌, ◌*◌, ◌<◌}
use native.Mathlib.Omega.{arith}
use lib.ListN.{length, get_or, take, drop}
use lib.Dec.{ltb}
use borrow.Author.Tests.{lt-ltb, le-ltb}
use Rattle.model.specs.Definitions.Basics.{pick, some_of}
use Rattle.model.specs.Definitions.Table.{Kind, text, empty, sequence, choice, list, Table, kind_of, step_from, edges_of, is_sequence, is_choice, is_optional, is_list}
use Rattle.model.specs.Definitions.Embedding.{next, leaves, edge_of}
use Rattle.loaded_embedding.specs.Loaded.{targets_of, starts_of, lengths_of, steps_from, edge_in}
use Rattle.model.specs.Definitions.EmbeddingChecks.{right_steps, leaves_only, sequence_or_list, optional_first}
use Rattle.model.proofs.Theorems.Facts.{Walks, arrived, onward}
use Rattle.loaded_table.specs.Kinds.{each_code}
use Rattle.loaded_table.specs.Loaded.{kind_from, kind_in, table_by, types_in, kinds_of, counts_of, members_in, kind_of_lem}
use Rattle.embedding_ends.specs.declared.steps.Left.{Left}
use Rattle.embedding_clash.specs.Paths.{path_of}
use Rattle.embedding_clash.specs.Ready.{map_of, Checkable}
use Rattle.embedding_clash.proofs.Arrays.{type_at, edge_at}
use Rattle.embedding_ends.specs.Kinds.{with_kind, right_by, LeftAll}
use Rattle.embedding_clash.proofs.Following.{steps_length, path_steps, StepAt, goes_on, none_from_text, none_from}

-- ---- collecting

or_true : (a : Bool) → (a || true) ≡ true
or_true true = refl
or_true false = refl

or_false : (a : Bool) → (a || false) ≡ a
or_false true = refl
or_false false = refl

-- one step more: whether some choice is left
more_choice : (code count : ℕ) (row : List ℕ) (left : Left) (b : Bool)
    → ((with_kind left code).choice || b) ≡ (left.choice || (is_choice (kind_from code count row) || b))
unfolding is_choice
more_choice code count row left b =
    let a-choice = sym (or_true left.choice) in
    each_code (λ (k : ℕ). ((with_kind left k).choice || b) ≡ (left.choice || (is_choice (kind_from k count row) || b))) refl refl refl a-choice a-choice (λ k. refl) code

-- whether the first choice is an optional one: told before, or no choice was left so far and what is left tells it
abbrev first_optional : Left → Bool → Bool
first_optional left b = left.optional || (not left.choice && b)

-- a needed choice tells nothing new where one was left before, and tells no where none was
needed_more : (choice optional : Bool) → (optional || false) ≡ (optional || (not choice && false))
needed_more true optional = refl
needed_more false optional = refl

-- an optional choice tells yes where none was left before
optional_more : (choice optional : Bool) → (pick choice optional true || false) ≡ (optional || (not choice && true))
unfolding pick
optional_more true optional = refl
optional_more false optional = sym (or_true optional)

-- one step more: whether the first choice left is an optional one
more_optional : (code count : ℕ) (row : List ℕ) (left : Left) (κs : List Kind)
    → first_optional (with_kind left code) (optional_first κs) ≡ first_optional left (optional_first (kind_from code count row ∷ κs))
unfolding optional_first is_choice is_optional pick
more_optional code count row left κs =
    each_code (λ (k : ℕ). first_optional (with_kind left k) (optional_first κs) ≡ first_optional left (optional_first (kind_from k count row ∷ κs)))
    refl refl refl (needed_more left.choice left.optional) (optional_more left.choice left.optional) (λ k. refl) code

-- one step more: whether some list is left
more_list : (code count : ℕ) (row : List ℕ) (left : Left) (b : Bool)
    → ((with_kind left code).list || b) ≡ (left.list || (is_list (kind_from code count row) || b))
unfolding is_list
more_list code count row left b =
    each_code (λ (k : ℕ). ((with_kind left k).list || b) ≡ (left.list || (is_list (kind_from k count row) || b))) refl refl refl refl refl (λ k. sym (or_true left.list)) code

-- on the way along a path: what was collected, with what is left, is what the whole path leaves
pub record Leaving (T : Table) (from : ℕ) (whole : List ℕ) (t : ℕ) (rest : List ℕ) (left : Left) : Type 0 where
  pub walks : Walks T t rest
  pub choices : (left.choice || some_of is_choice (leaves T t rest)) ≡ some_of is_choice (leaves T from whole)
  pub optionals : first_optional left (optional_first (leaves T t rest)) ≡ optional_first (leaves T from whole)
  pub lists : (left.list || some_of is_list (leaves T t rest)) ≡ some_of is_list (leaves T from whole)

leaving_on : {T : Table} {from : ℕ} {whole : List ℕ} {t p : ℕ} {ps : List ℕ} {left : Left} → Leaving T from whole t (p ∷ ps) left
    → (code count : ℕ) (row : List ℕ) → kind_of T t ≡ kind_from code count row → Leaving T from whole (next T t p) ps (with_kind left code)
unfolding some_of leaves
leaving_on {T} {t = t} {p} {ps} {left} w code count row e = record {
  walks = (goes_on w.walks).onwards;
  choices = more_choice code count row left (some_of is_choice (leaves T (next T t p) ps)) ∙ (rw e at w.choices);
  optionals = more_optional code count row left (leaves T (next T t p) ps) ∙ (rw e at w.optionals);
  lists = more_list code count row left (some_of is_list (leaves T (next T t p) ps)) ∙ (rw e at w.lists);
}

pub leaving_in : {target : List ℕ} {from : ℕ} {whole : List ℕ} {t p : ℕ} {ps : List ℕ} {left : Left}
    → StepAt target t p → Leaving (table_by target) from whole t (p ∷ ps) left
    → Leaving (table_by target) from whole (next (table_by target) t p) ps (with_kind left (get_or (kinds_of target) t 0))
leaving_in {target} {t = t} s w =
    leaving_on w (get_or (kinds_of target) t 0) (get_or (counts_of target) t 0) (drop (t * 16) (members_in target)) (kind_of_lem target t s.inside)

pub leaving_ends : {T : Table} {from : ℕ} {whole : List ℕ} {t : ℕ} {rest : List ℕ} {left : Left} → Leaving T from whole t rest left → rest ≡ [] → LeftAll left T from whole
unfolding some_of leaves optional_first
leaving_ends {left = left} w e = record {
  choices = sym (or_false left.choice) ∙ (rw e at w.choices);
  optionals = sym (or_false left.optional) ∙ needed_more left.choice left.optional ∙ (rw e at w.optionals);
  lists = sym (or_false left.list) ∙ (rw e at w.lists);
}

-- ---- deciding

-- a kind that a step leaves is none of a sequence and a list exactly where it is a choice
not_choice : (κ : Kind) (p m : ℕ) → step_from κ p ≡ some m → not (sequence_or_list κ) ≡ is_choice κ
unfolding sequence_or_list is_sequence is_list is_choice
not_choice text p m e = absurd (none_from_text p m e)
not_choice empty p m e = absurd (none_from p m e)
not_choice (sequence ms) p m e = refl
not_choice (choice need ms) p m e = refl
not_choice (list x) p m e = refl

-- so a path leaves something else than sequences and lists exactly where it leaves a choice
some_choice : {T : Table} {τ : ℕ} {ps : List ℕ} → Walks T τ ps → some_of (λ (κ : Kind). not (sequence_or_list κ)) (leaves T τ ps) ≡ some_of is_choice (leaves T τ ps)
unfolding some_of leaves
some_choice arrived = refl
some_choice {T} {τ} (onward {p = p} e w) = ap₂ ◌||◌ (not_choice (kind_of T τ) p (next T τ p) e) (some_choice w)

only_lists : {T : Table} {τ : ℕ} {ps : List ℕ} → Walks T τ ps → leaves_only sequence_or_list (leaves T τ ps) ≡ not (some_of is_choice (leaves T τ ps))
unfolding leaves_only
only_lists w = ap not (some_choice w)

-- it leaves something exactly where it has steps
some_step : (T : Table) (τ : ℕ) (ps : List ℕ) → some_of (λ (κ : Kind). true) (leaves T τ ps) ≡ ltb 0 (length ps)
unfolding some_of leaves
some_step T τ [] = sym (le-ltb 0 0 (omega arith))
some_step T τ (p ∷ ps) = sym (lt-ltb 0 (suc (length ps)) (omega arith))

-- the decision from what was collected is the model's
pub right_by_lem : {T : Table} {τ : ℕ} {ps : List ℕ} {left : Left} → Walks T τ ps → LeftAll left T τ ps
    → (code count : ℕ) (row : List ℕ) → right_by code left (length ps) ≡ right_steps (kind_from code count row) (leaves T τ ps)
unfolding right_steps
right_by_lem {T} {τ} {ps} {left} w l code count row =
    each_code (λ (k : ℕ). right_by k left (length ps) ≡ right_steps (kind_from k count row) (leaves T τ ps))
    (rw (l.choices, only_lists w)) refl (rw (l.choices, only_lists w, some_step T τ ps)) l.choices l.optionals
    (λ k. rw (l.choices, l.lists, only_lists w)) code

module _ {source target em map : List ℕ}
    (r : Checkable source target em map)
    (s i : ℕ) (hs : s < types_in source) (hi : i < edges_of (kind_of (table_by source) s)) where
  -- the kinds that an edge leaves in the model
  same_leaves : leaves (table_by target)
      (map_of source em map s).target
      (edge_of (map_of source em map s) i).steps
      ≡ leaves (table_by target) (get_or (targets_of map) s 0) (steps_from em (get_or (starts_of map) (s * 16 + i) 0 + 2) (get_or (lengths_of map) (s * 16 + i) 0))
  unfolding edge_in
  same_leaves = rw ((edge_at r s i hs hi).edge_is, (type_at r s hs).target_is)

  -- what the code decides of the kinds that an edge leaves
  pub kinds_right : {left : Left} {kind from count : ℕ} {path : List ℕ} → kind ≡ get_or (kinds_of source) s 0 → from ≡ get_or (targets_of map) s 0 → count ≡ get_or (lengths_of map) (s * 16 + i) 0
      → path ≡ path_of em map (s * 16 + i)
      → LeftAll left (table_by target) from (take count path)
      → right_by kind left count
      ≡ right_steps (kind_of (table_by source) s)
      (leaves (table_by target) (map_of source em map s).target (edge_of (map_of source em map s) i).steps)
  kinds_right {left} {count = count} {path} ek ef ec ep l =
      let all : LeftAll left (table_by target) (get_or (targets_of map) s 0) (steps_from em (get_or (starts_of map) (s * 16 + i) 0 + 2) (get_or (lengths_of map) (s * 16 + i) 0)) =
      rw (ef, ec, ep, path_steps em (get_or (starts_of map) (s * 16 + i) 0) (get_or (lengths_of map) (s * 16 + i) 0)) at l in
      let decided : right_by (get_or (kinds_of source) s 0) left (length (steps_from em (get_or (starts_of map) (s * 16 + i) 0 + 2) (get_or (lengths_of map) (s * 16 + i) 0)))
      ≡ right_steps (kind_in (kinds_of source) (counts_of source) (members_in source) s)
      (leaves (table_by target) (get_or (targets_of map) s 0) (steps_from em (get_or (starts_of map) (s * 16 + i) 0 + 2) (get_or (lengths_of map) (s * 16 + i) 0))) =
      right_by_lem (edge_at r s i hs hi).walks all (get_or (kinds_of source) s 0) (get_or (counts_of source) s 0) (drop (s * 16) (members_in source)) in
      ap (λ (k : ℕ). right_by k left count) ek
      ∙ ap (right_by (get_or (kinds_of source) s 0) left) (ec ∙ sym (steps_length em (get_or (starts_of map) (s * 16 + i) 0 + 2) (get_or (lengths_of map) (s * 16 + i) 0)))
      ∙ decided
      ∙ rw (same_leaves, (type_at r s hs).kind_is)
