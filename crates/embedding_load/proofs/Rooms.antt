-- Room for a command and what it does, once it is known which one it is; stores into the array as stores into its sections.
use mathlib.Core.Path.{◌≡◌, refl, sym, ap, ◌∙◌, subst}
use mathlib.Core.List.{List}
use mathlib.Core.Logic.{inl, inr}
use Prim.Native.Nat.{ℕ, ◌+◌, ◌-◌, ◌*◌, ◌<◌}
use native.Mathlib.Nat.{zero-add}
use native.Mathlib.Omega.{arith}
use lib.ListN.{length, get_or, set, length-set}
use Rattle.loaded_table.specs.Loaded.{section-kept, section-set}
use Rattle.loaded_embedding.specs.Loaded.{lengths_of}
use Rattle.embedding_form.specs.declared.command.EmbeddingCommand.{EmbeddingCommand}
use Rattle.embedding_form.specs.Commands.{command}
use Rattle.embedding_load.specs.Loading.{MapArrays, loaded_in, mapped, begun, stepped, puts, PathMayBegin, StepMayFollow, MapRoom}

-- there is room for a command, known as another term
pub told_room : (a : MapArrays) (at : ℕ) {c d : EmbeddingCommand} → c ≡ d → MapRoom a at (command c) → MapRoom a at (command d)
told_room a at e h = subst (λ x. MapRoom a at (command x)) e h

-- what a command does, known as another term
pub told_puts : (a : MapArrays) (at : ℕ) {c d : EmbeddingCommand} {r : MapArrays} → c ≡ d → r ≡ puts a at (command d) → r ≡ puts a at (command c)
told_puts a at e h = h ∙ ap (λ x. puts a at (command x)) (sym e)

-- the place of a path that begins, and of one that goes on
pub path_room : {a : MapArrays} {at : ℕ} → PathMayBegin a at → (a.maps - 1) * 16 + a.edges < 1024
path_room h = let some = h.some in let few = h.few in let room = h.room in omega arith

pub step_room : {a : MapArrays} → StepMayFollow a → (a.maps - 1) * 16 + (a.edges - 1) < 1024
step_room h = let some = h.some in let few = h.few in let some_edge = h.some_edge in let few_edges = h.few_edges in omega arith

-- arrays of equal sections
same_arrays : (maps edges : ℕ) {targets targets' starts starts' lengths lengths' : List ℕ}
    → targets ≡ targets' → starts ≡ starts' → lengths ≡ lengths'
    → ◌≡◌ {A = MapArrays}
    (record { maps = maps; edges = edges; targets = targets; starts = starts; lengths = lengths })
    (record { maps = maps; edges = edges; targets = targets'; starts = starts'; lengths = lengths' })
same_arrays maps edges p q r = rw (p, q, r) refl

module _ (map : List ℕ) (maps edges : ℕ) where
  -- a target is stored
  pub target_stored : (t : ℕ) {after : List ℕ} → maps < 64 → after ≡ set map maps t
      → (length after ≡ length map) × (loaded_in (maps + 1) 0 after ≡ mapped (loaded_in maps edges map) t)
  unfolding mapped
  target_stored t room e = (
    ap length e ∙ length-set map maps t,
    ap (loaded_in (maps + 1) 0) (e ∙ ap (λ i. set map i t) (sym (zero-add maps)))
        ∙ same_arrays (maps + 1) 0 (section-set 0 64 map maps t room) (section-kept 64 1024 map (0 + maps) t (inl (omega arith))) (section-kept 1088 1024 map (0 + maps) t (inl (omega arith))),
  )

  -- a path's start and its number of steps are stored
  pub path_stored : (at : ℕ) {middle after : List ℕ} → (maps - 1) * 16 + edges < 1024 → middle ≡ set map (64 + ((maps - 1) * 16 + edges)) at
      → after ≡ set middle (1088 + ((maps - 1) * 16 + edges)) 0 → (length after ≡ length map) × (loaded_in maps (edges + 1) after ≡ begun (loaded_in maps edges map) at)
  unfolding begun
  path_stored at {middle} room e f =
      let place = (maps - 1) * 16 + edges in
      let first = set map (64 + place) at in (
        ap length f ∙ length-set middle (1088 + place) 0 ∙ ap length e ∙ length-set map (64 + place) at,
        ap (loaded_in maps (edges + 1)) (f ∙ ap (λ l. set l (1088 + place) 0) e)
            ∙ same_arrays maps (edges + 1)
            (section-kept 0 64 first (1088 + place) 0 (inr (omega arith)) ∙ section-kept 0 64 map (64 + place) at (inr (omega arith)))
            (section-kept 64 1024 first (1088 + place) 0 (inr (omega arith)) ∙ section-set 64 1024 map place at room)
            (section-set 1088 1024 first place 0 room ∙ ap (λ l. set l place 0) (section-kept 1088 1024 map (64 + place) at (inl (omega arith)))),
      )

  -- a path's number of steps is stored
  pub step_stored : {count : ℕ} {after : List ℕ} → (maps - 1) * 16 + (edges - 1) < 1024 → count ≡ get_or (lengths_of map) ((maps - 1) * 16 + (edges - 1)) 0
      → after ≡ set map (1088 + ((maps - 1) * 16 + (edges - 1))) (count + 1) → (length after ≡ length map) × (loaded_in maps edges after ≡ stepped (loaded_in maps edges map))
  unfolding stepped
  step_stored {count} room counted e =
      let place = (maps - 1) * 16 + (edges - 1) in (
        ap length e ∙ length-set map (1088 + place) (count + 1),
        ap (loaded_in maps edges) (e ∙ ap (λ n. set map (1088 + place) (n + 1)) counted)
            ∙ same_arrays maps edges
            (section-kept 0 64 map (1088 + place) _ (inr (omega arith)))
            (section-kept 64 1024 map (1088 + place) _ (inr (omega arith)))
            (section-set 1088 1024 map place _ room),
      )
