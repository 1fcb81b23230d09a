-- The paths of a source type's edges, with holes, are what the model places for it.
use Rattle.std.specs.Prelude.{◌≡◌, refl, Bool, true, false, ℕ, zero, suc, ◌+◌, ◌-◌, ◌*◌, ◌≤◌, ◌<◌, length, get_or, eqb}
use Rattle.std.proofs.Common.{sym, ap, subst, ◌∙◌, add-zero, zero-add, arith, lt-ltb}
use Rattle.std.proofs.Math.Path.{ap₂}
use mathlib.Core.List.{List, [], ◌∷◌}
use Rattle.std.proofs.Math.Option.{Option, none, some}
use Rattle.model.specs.Definitions.Basics.{pick}
use Rattle.model.specs.Definitions.Commands.{Need}
use Rattle.model.specs.Definitions.Table.{text, empty, sequence, choice, Table, kind_of, edges_of}
use Rattle.model.specs.Definitions.Embedding.{target_of, paths_of, first_path, before_choice}
use Rattle.model.specs.Definitions.Filler.{fillers}
use Rattle.model.specs.Definitions.Image.{Setting, Placement, placed, place, path_of_member}
use Rattle.model.specs.Definitions.Templates.{Shape, gap, shaped, row_of, Hole, characters, child, holes_along, choice_hole, holes_of, template, template_by}
use Rattle.model.proofs.Theorems.Facts.{Fits}
use Rattle.model.proofs.Theorems.TemplateShapes.{holes_fit}
use Rattle.loaded_table.specs.Loaded.{table_by, types_in, length_of_lem}
use Rattle.loaded_embedding.specs.Loaded.{targets_of, steps_from}
use Rattle.loaded_setting.specs.Ready.{setting_in, Ready}
use Rattle.paths.specs.Following.{path_at, paths_from}
use Rattle.paths.specs.Edges.{target_is, paths_are}
use Rattle.rows.specs.Rows.{index_in, hole_of}
use Rattle.growing.specs.declared.Edges.{Edges}
use Rattle.growing.specs.Growing.{placement_of, placements_of, PathsReadable, Task, step_bound}
use Rattle.own_rows.specs.Making.{edge_placements, held_row}

-- ---- holes

pub child_hole : (k : ℕ) → k < 16 → hole_of (128 + k) ≡ child k
unfolding hole_of pick
child_hole k h = let less : 128 + k - 128 ≡ k = omega arith in rw (lt-ltb (128 + k) 144 (omega arith), less) refl

along-same : (f g : ℕ → Shape) → ((j : ℕ) → f j ≡ g j) → (pss : List (List ℕ)) → holes_along f pss ≡ holes_along g pss
unfolding holes_along
along-same f g e [] = refl
along-same f g e (p ∷ pss) = ap₂ (λ (x : Shape) (l : List (Placement Shape)). placed p x ∷ l) (e 0) (along-same (λ j. f (suc j)) (λ j. g (suc j)) (λ j. e (suc j)) pss)

-- the members of a sequence
along_edges : (em map : List ℕ) (i k n : ℕ) → k + n ≤ 16 → edge_placements em map i (128 + k) n ≡ holes_along (λ j. gap (child (k + j))) (paths_from em map i n)
unfolding edge_placements holes_along paths_from placement_of
along_edges em map i k zero few = refl
along_edges em map i k (suc n) few =
    let on : suc (128 + k) ≡ 128 + suc k = omega arith in
    ap₂ (λ (h : Hole) (l : List (Placement Shape)). placed (path_at em map i) (gap h) ∷ l)
    (child_hole k (omega arith) ∙ ap child (sym (add-zero k)))
    (ap (λ (h : ℕ). edge_placements em map (suc i) h n) on ∙ along_edges em map (suc i) (suc k) n (omega arith)
    ∙ along-same (λ j. gap (child (suc k + j))) (λ j. gap (child (k + suc j))) (λ j. let e : suc k + j ≡ k + suc j = omega arith in rw e refl) (paths_from em map (suc i) n))

-- the path of a choice's member
member_path : (em map : List ℕ) (t i : ℕ) (ms : List ℕ) → index_in t ms < length ms → path_of_member t ms (paths_from em map i (length ms)) ≡ path_at em map (i + index_in t ms)
unfolding path_of_member paths_from index_in pick
member_path em map t i [] less = absurd (omega arith)
member_path em map t i (m ∷ ms) less = go (eqb t m) refl (member_path em map t (suc i) ms)
  where
    go : (b : Bool) → eqb t m ≡ b → (index_in t ms < length ms → path_of_member t ms (paths_from em map (suc i) (length ms)) ≡ path_at em map (suc i + index_in t ms))
        → pick (eqb t m) (path_at em map i) (path_of_member t ms (paths_from em map (suc i) (length ms))) ≡ path_at em map (i + pick (eqb t m) 0 (suc (index_in t ms)))
    go true e later = rw (e, add-zero i) refl
    go false e later =
        let on : suc i + index_in t ms ≡ i + suc (index_in t ms) = omega arith in
        let short : suc (index_in t ms) < suc (length ms) = rw e at less in
        rw e (later (omega (arith, short)) ∙ ap (path_at em map) on)

-- what is placed for a source type of each kind, its paths being those of the edges from place i on
pub text_holes : (em map : List ℕ) (T : Table) (τ i : ℕ) (t : Option ℕ) → edge_placements em map i 144 1 ≡ holes_of gap T text τ (paths_from em map i 1) t
unfolding edge_placements holes_of first_path paths_from placement_of hole_of pick
text_holes em map T τ i t = refl

pub empty_holes : (em map : List ℕ) (T : Table) (τ i : ℕ) (t : Option ℕ) → edge_placements em map i 128 0 ≡ holes_of gap T empty τ (paths_from em map i 0) t
unfolding edge_placements holes_of
empty_holes em map T τ i t = refl

pub sequence_holes : (em map : List ℕ) (T : Table) (τ i : ℕ) (t : Option ℕ) (ms : List ℕ) (n : ℕ) → n ≤ 16 → edge_placements em map i 128 n ≡ holes_of gap T (sequence ms) τ (paths_from em map i n) t
unfolding holes_of
sequence_holes em map T τ i t ms n few = along_edges em map i 0 n (omega arith) ∙ along-same (λ j. gap (child (0 + j))) (λ j. gap (child j)) (λ j. ap (λ (k : ℕ). gap (child k)) (zero-add j)) (paths_from em map i n)

pub choice_holes : (em map : List ℕ) (T : Table) (τ i t : ℕ) (need : Need) (ms : List ℕ) → index_in t ms < length ms
    → edge_placements em map (i + index_in t ms) 128 1 ≡ holes_of gap T (choice need ms) τ (paths_from em map i (length ms)) (some t)
unfolding edge_placements holes_of choice_hole placement_of
choice_holes em map T τ i t need ms less =
    ap₂ (λ (path : List ℕ) (h : Hole). placed path (gap h) ∷ []) (sym (member_path em map t i ms less)) (child_hole 0 (omega arith))

-- nothing, at the end of the steps that the paths of a choice share
pub nothing_holes : (em : List ℕ) (T : Table) (τ o depth : ℕ) (need : Need) (ms : List ℕ) (pss : List (List ℕ)) → steps_from em o depth ≡ before_choice T τ (first_path pss)
    → placement_of em o depth 144 ∷ [] ≡ holes_of gap T (choice need ms) τ pss none
unfolding holes_of choice_hole placement_of hole_of pick
nothing_holes em T τ o depth need ms pss shared = ap (λ (path : List ℕ). placed path (gap characters) ∷ []) shared

-- ---- the task of a source type, and its template

module _ {source target map em : List ℕ} (ready : Ready source target map em) {s : ℕ} (exists : s < types_in source) (t : Option ℕ) (e : Edges)
    (holes : placements_of em e ≡ holes_of gap (table_by target) (kind_of (table_by source) s) (get_or (targets_of map) s 0) (paths_from em map (s * 16) (edges_of (kind_of (table_by source) s))) t) where
  abbrev X : Setting
  X = setting_in source target map em

  in_source : s < length X.source
  in_source = omega (arith, length_of_lem source)

  placed_are : placements_of em e ≡ holes_of gap X.target (kind_of X.source s) (target_of X.embedding s) (paths_of X.embedding s) t
  placed_are = rw (target_is ready exists, paths_are ready exists) holes

  pub type_task : PathsReadable em e → Task target em e step_bound (get_or (targets_of map) s 0)
  type_task readable =
      let fits : Fits X.target step_bound (target_of X.embedding s) (holes_of gap X.target (kind_of X.source s) (target_of X.embedding s) (paths_of X.embedding s) t) =
      holes_fit shaped X (target_of X.embedding s) t gap (ready.valid.edges s in_source) in
      record {
        bounded = ready.target_bounded;
        well_formed = ready.valid.target_sound.well_formed;
        is_type = omega (arith, ready.valid.target_exists s in_source, target_is ready exists, length_of_lem target);
        short = ready.paths_bounded.document_short;
        paths = readable;
        fits = subst (λ (τ : ℕ). Fits X.target step_bound τ (placements_of em e)) (target_is ready exists) (subst (Fits X.target step_bound (target_of X.embedding s)) (sym placed_are) fits);
      }

  pub type_template : held_row target em e (get_or (targets_of map) s 0) ≡ template X s t
  unfolding held_row template template_by
  type_template = ap₂ (λ (τ : ℕ) (ps : List (Placement Shape)). row_of (place shaped X.target (fillers shaped X.target) τ ps)) (sym (target_is ready exists)) placed_are
