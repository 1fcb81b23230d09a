-- The loop of `follow`: the content reached, and the steps still to be taken from it.
use mathlib.Core.Path.{◌≡◌, refl, ap, ◌∙◌}
use mathlib.Core.List.{List, [], ◌∷◌}
use mathlib.Core.Option.{Option, none, some}
use Prim.Native.Nat.{ℕ, ◌+◌, ◌-◌, ◌*◌, ◌≤◌, ◌<◌}
use native.Mathlib.Omega.{arith}
use lib.ListN.{drop, get_or}
use Rattle.model.specs.Definitions.Basics.{and_then}
use Rattle.model.specs.Definitions.Table.{Table, kind_of}
use Rattle.model.specs.Definitions.Content.{Content}
use Rattle.model.specs.Definitions.Embedding.{next}
use Rattle.model.specs.Definitions.Inverse.{Located, located, enter_at, follow_at}
use Rattle.loaded_table.specs.Loaded.{kind_from, table_by, kinds_of, counts_of, members_in}
use Rattle.loaded_embedding.specs.Loaded.{steps_from}
use Rattle.scanning.specs.Scanning.{ContentAt}
use Rattle.scanning.specs.Finding.{FoundContent}
use Rattle.paths.specs.Following.{Followable, Taken}
use Rattle.paths.specs.Stepping.{steps_here, kind_here, next_here, follow-on, follow_start}

-- a step that is missing ends the path, and one that is there leads on
follow_missing : (T : Table) (τ p : ℕ) (ps : List ℕ) (l : Located) → enter_at (kind_of T τ) p (next T τ p) l ≡ none → follow_at T τ (p ∷ ps) l ≡ none
unfolding follow_at and_then
follow_missing T τ p ps l e = rw e

follow_there : (T : Table) (τ p : ℕ) (ps : List ℕ) (l a : Located) → enter_at (kind_of T τ) p (next T τ p) l ≡ some a
    → follow_at T τ (p ∷ ps) l ≡ follow_at T (next T τ p) ps a
unfolding follow_at and_then
follow_there T τ p ps l a e = rw e

follow_end : (T : Table) (τ : ℕ) (l : Located) → follow_at T τ [] l ≡ some l
unfolding follow_at
follow_end T τ l = refl

-- the content at offset `here` leads by the given steps to what is sought
pub record PathLeft (T : Table) (tr : List ℕ) (here τ : ℕ) (steps : List ℕ) (sought : Option Located) : Type 0 where
  pub content : Content
  pub there : ContentAt tr here content
  pub same : sought ≡ follow_at T τ steps (located here content)

-- the loop's invariant: i steps are taken, and `sought` is what the whole path leads to from k
pub record Onward (target em : List ℕ) (start steps tau : ℕ) (tr : List ℕ) (at i here τ : ℕ) : Type 0 where
  pub walk : Taken target em start steps i τ
  pub reached : (k : Content) → ContentAt tr at k
      → PathLeft (table_by target) tr here τ (steps_from em (start + 2 * i + 2) (steps - i)) (follow_at (table_by target) tau (steps_from em (start + 2) steps) (located at k))

-- before the first step
pub onward_start : {target em : List ℕ} {start steps tau : ℕ} (path : Followable target em start steps tau) (tr : List ℕ) (at : ℕ) → Onward target em start steps tau tr at 0 at tau
onward_start {start = start} {steps} path tr at =
    let place : start + 2 * 0 ≡ start = omega arith in
    let all : steps - 0 ≡ steps = omega arith in
    record { walk = follow_start path; reached = λ k a. record { content = k; there = a; same = rw (place, all) } }

module _ {target em : List ℕ} {start steps tau : ℕ} {tr : List ℕ} {at i here τ : ℕ} (now : Onward target em start steps tau tr at i here τ) where
  abbrev T : Table
  T = table_by target

  abbrev whole : Content → Option Located
  whole k = follow_at T tau (steps_from em (start + 2) steps) (located at k)

  -- no step is left
  pub onward_done : (k : Content) → ContentAt tr at k → steps ≤ i → FoundContent tr here (whole k)
  unfolding steps_from
  onward_done k a over =
      let l = now.reached k a in
      let none_left : steps - i ≡ 0 = omega arith in
      record { content = l.content; is = l.same ∙ (rw none_left) ∙ follow_end T τ (located here l.content); there = l.there }

  module _ (less : i < steps) {p r : ℕ} (read : p ≡ get_or em (start + 2 + 2 * i) 0) (is : r ≡ get_or (members_in target) (τ * 16 + (p - 1)) 0)
      {code : ℕ} (kind : code ≡ get_or (kinds_of target) τ 0) where
    abbrev count : ℕ
    count = get_or (counts_of target) τ 0

    abbrev row : List ℕ
    row = drop (τ * 16) (members_in target)

    abbrev later : List ℕ
    later = steps_from em (start + 2 * (i + 1) + 2) (steps - (i + 1))

    pub next_small : r < 64
    next_small = omega (arith, (follow-on now.walk less read is).rest.is_type, now.walk.rest.bounded.few_types)

    same-enter : (j : Content) → enter_at (kind_of T τ) p (next T τ p) (located here j) ≡ enter_at (kind_from code count row) p r (located here j)
    same-enter j = rw (kind_here now.walk less read, next_here now.walk less read is, kind)

    same_steps_lem : {sought : Option Located} (j : Content) → sought ≡ follow_at T τ (steps_from em (start + 2 * i + 2) (steps - i)) (located here j) → sought ≡ follow_at T τ (p ∷ later) (located here j)
    same_steps_lem j e = e ∙ ap (λ (l : List ℕ). follow_at T τ l (located here j)) (steps_here now.walk less read)

    -- the step is missing
    pub onward-missing : ((j : Content) → ContentAt tr here j → (count : ℕ) (row : List ℕ) → enter_at (kind_from code count row) p r (located here j) ≡ none) → (k : Content) → ContentAt tr at k → whole k ≡ none
    onward-missing miss k a =
        let l = now.reached k a in
        same_steps_lem l.content l.same
        ∙ follow_missing T τ p later (located here l.content) (same-enter l.content ∙ miss l.content l.there count row)

    -- the step leads to offset o
    pub onward-there : {o : ℕ} → ((j : Content) → ContentAt tr here j → (count : ℕ) (row : List ℕ) → FoundContent tr o (enter_at (kind_from code count row) p r (located here j)))
        → Onward target em start steps tau tr at (i + 1) o r
    onward-there {o} goes =
        record {
          walk = follow-on now.walk less read is;
          reached = λ k a.
              let l = now.reached k a in
              let found = goes l.content l.there count row in
              record {
                content = found.content;
                there = found.there;
                same =
                    same_steps_lem l.content l.same
                    ∙ follow_there T τ p later (located here l.content) (located o found.content) (same-enter l.content ∙ found.is)
                    ∙ ap (λ (t : ℕ). follow_at T t later (located o found.content)) (next_here now.walk less read is);
              };
        }
