-- Laws of the paths of edges, and of the row inside an element's row.
use Rattle.std.specs.Prelude.{◌≡◌, refl, List, [], ◌∷◌, ◌++◌, map, ℕ, zero, suc, ◌+◌, ◌-◌, ◌≤◌, ◌<◌, length, take, drop, get_or}
use Rattle.std.proofs.Common.{sym, ap, ◌∙◌, add-zero, add-one, arith, length-append, length-drop, take_at, take-suc, get_or-drop}
use Rattle.std.proofs.lemmas.List.{map-append}
use Rattle.model.specs.Definitions.Image.{Placement}
use Rattle.model.specs.Definitions.Templates.{Shape, Symbol}
use Rattle.loaded_embedding.specs.Loaded.{starts_of, lengths_of}
use Rattle.rows.specs.Rows.{symbol_of, row_in}
use Rattle.rows.specs.Symbols.{row_cons}
use Rattle.growing.specs.declared.Edges.{Edges}
use Rattle.growing.specs.Growing.{placement_of, no_edges, push, Puts}
use Rattle.growing.specs.Laws.{push_placements, push_readable, none_readable, none_placed, puts-after}
use Rattle.filler_rows.specs.Laws.{row_there}
use Rattle.pools.specs.Room.{edge_room}
use Rattle.own_rows.specs.Making.{edge_placements, EdgesFrom}

-- ---- edges

edges_last : (em m : List ℕ) (i h n : ℕ)
    → edge_placements em m i h (suc n) ≡ edge_placements em m i h n ++ (placement_of em (get_or (starts_of m) (i + n) 0 + 2) (get_or (lengths_of m) (i + n) 0) (h + n) ∷ [])
unfolding edge_placements
edges_last em m i h zero = rw (add-zero i, add-zero h) refl
edges_last em m i h (suc n) =
    let a : suc i + n ≡ i + suc n = omega arith in
    let b : suc h + n ≡ h + suc n = omega arith in
    ap (λ (l : List (Placement Shape)). placement_of em (get_or (starts_of m) i 0 + 2) (get_or (lengths_of m) i 0) h ∷ l) (rw (a, b) at (edges_last em m (suc i) (suc h) n))

pub edges_none : (m : List ℕ) (first h : ℕ) → EdgesFrom m first h 0 no_edges
unfolding edge_placements no_edges
edges_none m first h = record { many = refl; readable = λ em b. none_readable em; placements = λ em b. none_placed em }

pub edges_more_lem : {m : List ℕ} {first h n : ℕ} {e : Edges} → EdgesFrom m first h n e → n < 16 → 128 ≤ h → h + n ≤ 145
    → EdgesFrom m first h (n + 1) (push e (get_or (starts_of m) (first + n) 0 + 2) (get_or (lengths_of m) (first + n) 0) (h + n))
unfolding push
edges_more_lem {m} {first} {h} {n} {e} now few low high =
    record {
      many = rw now.many refl;
      readable = λ em b.
          push_readable (now.readable em b) (omega (arith, now.many)) _ _ _ (omega (arith, b.within (first + n))) (omega arith, omega arith);
      placements = λ em b.
          push_placements (now.readable em b) (omega (arith, now.many)) _ _ _
          ∙ ap (λ (l : List (Placement Shape)). l ++ (placement_of em (get_or (starts_of m) (first + n) 0 + 2) (get_or (lengths_of m) (first + n) 0) (h + n) ∷ [])) (now.placements em b)
          ∙ sym (edges_last em m first h n)
          ∙ ap (edge_placements em m first h) (sym (add-one n));
    }

-- ---- room

-- room for some edges and those behind them
pub room_split : (map : List ℕ) (i a b : ℕ) → edge_room map i (a + b) ≡ edge_room map i a + edge_room map (i + a) b
unfolding edge_room
room_split map i zero b = let none : 0 + b ≡ b = omega arith in rw (add-zero i, none) (omega arith)
room_split map i (suc a) b =
    let on : suc i + a ≡ i + suc a = omega arith in
    let more : suc a + b ≡ suc (a + b) = omega arith in
    let later : edge_room map (suc i) (a + b) ≡ edge_room map (suc i) a + edge_room map (i + suc a) b = rw on at (room_split map (suc i) a b) in
    rw more (omega (arith, later))

-- ---- the row inside an element's row

tail_same : {A : Type 0} {x y : A} {xs ys : List A} → x ∷ xs ≡ y ∷ ys → xs ≡ ys
tail_same e = cc

init_same : {A : Type 0} (xs ys : List A) (x y : A) → xs ++ (x ∷ []) ≡ ys ++ (y ∷ []) → xs ≡ ys
init_same xs ys x y e =
    let long : length xs ≡ length ys = omega (arith, ap length e, length-append xs (x ∷ []), length-append ys (y ∷ [])) in
    sym (take_at xs (x ∷ []) (length xs) refl) ∙ ap (take (length xs)) e ∙ take_at ys (y ∷ []) (length xs) (sym long)

row_last : (pool : List ℕ) (i to : ℕ) → i ≤ to → to < length pool → row_in pool i (suc to) ≡ row_in pool i to ++ (symbol_of (get_or pool to 0) ∷ [])
unfolding row_in
row_last pool i to low within =
    let more : suc to - i ≡ suc (to - i) = omega arith in
    let place : i + (to - i) ≡ to = omega arith in
    let last : take (suc to - i) (drop i pool) ≡ take (to - i) (drop i pool) ++ (get_or pool to 0 ∷ []) =
    ap (λ (k : ℕ). take k (drop i pool)) more ∙ take-suc (drop i pool) (to - i) 0 (omega (arith, length-drop i pool))
    ∙ ap (λ (x : ℕ). take (to - i) (drop i pool) ++ (x ∷ [])) (get_or-drop i pool (to - i) 0 ∙ ap (λ (k : ℕ). get_or pool k 0) place) in
    ap (map symbol_of) last ∙ map-append symbol_of (take (to - i) (drop i pool)) (get_or pool to 0 ∷ [])

pub row_inside : {old new : List ℕ} {at : ℕ} {x : Symbol} (row : List Symbol) (y : Symbol) {next : ℕ} → Puts old new at (x ∷ (row ++ y ∷ [])) next → next ≤ length new → next ≤ length old
    → row_in new (at + 1) (next - 1) ≡ row
row_inside {old} {new} {at} {x} row y {next} puts fits fits' =
    let long : next ≡ at + (2 + length row) = omega (arith, puts-after puts, length-append row (y ∷ [])) in
    let whole : row_in new at next ≡ x ∷ (row ++ y ∷ []) = row_there puts fits' in
    let rest : row_in new (at + 1) next ≡ row ++ y ∷ [] = tail_same (sym (row_cons new at next (omega (arith, long)) fits) ∙ whole) in
    let last : suc (next - 1) ≡ next = omega (arith, long) in
    init_same (row_in new (at + 1) (next - 1)) row (symbol_of (get_or new (next - 1) 0)) y
    (sym (row_last new (at + 1) (next - 1) (omega (arith, long)) (omega (arith, long))) ∙ ap (row_in new (at + 1)) last ∙ rest)
