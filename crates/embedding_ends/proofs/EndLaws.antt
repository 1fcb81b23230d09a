-- Check 8 for one edge: what the code compares is what the check asks.
use mathlib.Core.Path.{◌≡◌, refl, sym, ap, ◌∙◌}
use mathlib.Core.List.{List, [], ◌∷◌, Memᴰ}
use Prim.Native.Nat.{ℕ, zero, suc, ◌+◌, ◌*◌, ◌<◌}
use native.Mathlib.Omega.{arith}
use lib.ListN.{length, get_or, take, drop, length-take}
use lib.Seq.{get_or-take, get_or-drop}
use lib.Dec.{eqb}
use Rattle.model.specs.Definitions.Commands.{needed, optional}
use Rattle.model.specs.Definitions.Table.{Kind, sequence, choice, Table, kind_of, members_of, step_from, edges_of, is_text}
use Rattle.model.specs.Definitions.Embedding.{TypeMap, Embedding, target_of, next, end_of, edge_of}
use Rattle.model.proofs.Theorems.Facts.{WellFormed, Walks, arrived, onward}
use Rattle.model.proofs.Theorems.Tools.{entry_member}
use Rattle.loaded_table.specs.Kinds.{text_code}
use Rattle.loaded_table.specs.Loaded.{kind_from, kind_in, table_by, types_in, kinds_of, counts_of, members_in, length_of_lem, kind_of_lem}
use Rattle.loaded_embedding.specs.Loaded.{targets_of, edge_in, embedding_by}
use Rattle.embedding_clash.specs.Ready.{map_of, Checkable}
use Rattle.embedding_ends.specs.Ends.{end_right}
use Rattle.embedding_clash.proofs.Arrays.{type_at, edge_at}

-- a path whose steps exist ends at a type
pub end_exists : {T : Table} {τ : ℕ} {ps : List ℕ} → WellFormed T → Walks T τ ps → τ < length T → end_of T τ ps < length T
unfolding end_of step_from
end_exists w arrived h = h
end_exists {T} {τ} w (onward {p = p} e onwards) h = end_exists w onwards (w.members_exist τ (next T τ p) (entry_member p (members_of (kind_of T τ)) e))

mem_at : (xs : List ℕ) (i : ℕ) → i < length xs → Memᴰ (get_or xs i 0) xs
mem_at [] i h = absurd (omega arith)
mem_at (x ∷ xs) zero h = Memᴰ.head refl
mem_at (x ∷ xs) (suc i) h = Memᴰ.tail (mem_at xs i (omega arith))

taken : (count : ℕ) (row : List ℕ) (i : ℕ) → i < length (take count row) → get_or (take count row) i 0 ≡ get_or row i 0
taken count row i h = let below : i < count = omega (arith, length-take count row) in get_or-take count row i 0 below

-- what is asked of edge i of a type with members, and that its member is one
record ByMember (E : Embedding) (T : Table) (κ : Kind) (f : TypeMap) (i m : ℕ) : Type 0 where
  asked : end_right E T κ f i ≡ eqb (end_of T f.target (edge_of f i).steps) (target_of E m)
  is_member : Memᴰ m (members_of κ)

-- where the members are the first of a row
row_member : (E : Embedding) (T : Table) (κ : Kind) (f : TypeMap) (count : ℕ) (row : List ℕ) (i : ℕ)
    → end_right E T κ f i ≡ eqb (end_of T f.target (edge_of f i).steps) (target_of E (get_or (take count row) i 0))
    → members_of κ ≡ take count row → i < length (take count row) → ByMember E T κ f i (get_or row i 0)
row_member E T κ f count row i asks members h = record {
  asked = asks ∙ ap (λ (m : ℕ). eqb (end_of T f.target (edge_of f i).steps) (target_of E m)) (taken count row i h);
  is_member = rw members (rw (taken count row i h) at (mem_at (take count row) i h));
}

by_member : (E : Embedding) (T : Table) (f : TypeMap) (code count : ℕ) (row : List ℕ) (i : ℕ)
    → (code ≡ 0 → ⊥) → i < edges_of (kind_from code count row) → ByMember E T (kind_from code count row) f i (get_or row i 0)
unfolding edges_of end_right members_of
by_member E T f zero count row i no_text h = absurd (no_text refl)
by_member E T f (suc zero) count row i no_text h = absurd (omega arith)
by_member E T f (suc (suc zero)) count row i no_text h = row_member E T (sequence (take count row)) f count row i refl refl h
by_member E T f (suc (suc (suc zero))) count row i no_text h = row_member E T (choice needed (take count row)) f count row i refl refl h
by_member E T f (suc (suc (suc (suc zero)))) count row i no_text h = row_member E T (choice optional (take count row)) f count row i refl refl h
by_member E T f (suc (suc (suc (suc (suc code))))) count row zero no_text h = record { asked = refl; is_member = Memᴰ.head refl }
by_member E T f (suc (suc (suc (suc (suc code))))) count row (suc i) no_text h = absurd (omega arith)

by_text : (E : Embedding) (T : Table) (f : TypeMap) (code count : ℕ) (row : List ℕ) (i : ℕ)
    → code ≡ 0 → end_right E T (kind_from code count row) f i ≡ is_text (kind_of T (end_of T f.target (edge_of f i).steps))
unfolding end_right
by_text E T f zero count row i e = refl
by_text E T f (suc code) count row i e = absurd (omega arith)

module _ {source target em map : List ℕ}
    (r : Checkable source target em map)
    (s i : ℕ) (hs : s < types_in source) (hi : i < edges_of (kind_of (table_by source) s)) where
  -- what is known of the end of the edge's path: it is a type
  pub record Found (end : ℕ) : Type 0 where
    pub end_is : end ≡ end_of (table_by target) (map_of source em map s).target (edge_of (map_of source em map s) i).steps
    pub inside : end < types_in target

  pub found : {end : ℕ} → end ≡ end_of (table_by target) (map_of source em map s).target (edge_of (map_of source em map s) i).steps → Found end
  unfolding edge_in
  found {end} e =
      let edge = edge_at r s i hs hi in
      let type = type_at r s hs in
      let below : end < length (table_by target) =
      rw (e, edge.edge_is, type.target_is) (end_exists r.target_formed edge.walks (rw (length_of_lem target) type.target_exists)) in
      record { end_is = e; inside = rw (length_of_lem target) at below }

  -- characters: the end's kind is text
  pub text_right : {end : ℕ} → Found end → get_or (kinds_of source) s 0 ≡ 0
      → eqb (get_or (kinds_of target) end 0) 0
      ≡ end_right (embedding_by em (table_by source) map) (table_by target)
      (kind_of (table_by source) s) (map_of source em map s) i
  text_right {end} f code =
      sym (text_code (get_or (kinds_of target) end 0) (get_or (counts_of target) end 0) (drop (end * 16) (members_in target)))
      ∙ ap is_text (sym (kind_of_lem target end f.inside))
      ∙ ap (λ (t : ℕ). is_text (kind_of (table_by target) t)) f.end_is
      ∙ sym
      (by_text (embedding_by em (table_by source) map) (table_by target)
      (map_of source em map s)
      (get_or (kinds_of source) s 0) (get_or (counts_of source) s 0) (drop (s * 16) (members_in source)) i code)
      ∙ ap (λ (κ : Kind). end_right (embedding_by em (table_by source) map) (table_by target) κ (map_of source em map s) i) (sym (type_at r s hs).kind_is)

  -- a member or an item: its number is a type's, and the end is its target
  pub record Member (end m : ℕ) : Type 0 where
    pub inside : m < 64
    pub right : eqb end (get_or (targets_of map) m 0)
        ≡ end_right (embedding_by em (table_by source) map) (table_by target)
        (kind_of (table_by source) s) (map_of source em map s) i

  pub member_right : {end : ℕ} → Found end → (get_or (kinds_of source) s 0 ≡ 0 → ⊥) → Member end (get_or (members_in source) (s * 16 + i) 0)
  unfolding target_of
  member_right {end} f code =
      let asks : ByMember (embedding_by em (table_by source) map) (table_by target)
      (kind_in (kinds_of source) (counts_of source) (members_in source) s) (map_of source em map s) i (get_or (drop (s * 16) (members_in source)) i 0) =
      by_member (embedding_by em (table_by source) map) (table_by target)
      (map_of source em map s)
      (get_or (kinds_of source) s 0) (get_or (counts_of source) s 0) (drop (s * 16) (members_in source)) i code (rw (type_at r s hs).kind_is at hi) in
      let same : get_or (drop (s * 16) (members_in source)) i 0 ≡ get_or (members_in source) (s * 16 + i) 0 = get_or-drop (s * 16) (members_in source) i 0 in
      let exists : get_or (members_in source) (s * 16 + i) 0 < length (table_by source) =
      r.source_formed.members_exist s (get_or (members_in source) (s * 16 + i) 0) (rw (type_at r s hs).kind_is (rw same at asks.is_member)) in
      let below : get_or (members_in source) (s * 16 + i) 0 < types_in source = rw (length_of_lem source) at exists in
      record {
        inside = omega (arith, r.source_bounded.few_types);
        right = cc (f.end_is, (type_at r (get_or (members_in source) (s * 16 + i) 0) below).target_is, same, asks.asked, (type_at r s hs).kind_is);
      }
