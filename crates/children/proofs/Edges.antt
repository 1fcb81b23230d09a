-- The next child of a sequence or a choice, by its edges.
use mathlib.Core.Path.{◌≡◌, refl, ◌∙◌}
use mathlib.Core.Bool.{true}
use mathlib.Core.List.{List, ◌∷◌}
use mathlib.Core.Option.{Option, none}
use Prim.Native.Nat.{ℕ, suc, ◌+◌, ◌-◌, ◌*◌, ◌≤◌, ◌<◌}
use native.Mathlib.Omega.{arith}
use lib.ListN.{drop, get_or}
use lib.Seq.{drop-cons}
use Rattle.model.specs.Definitions.Content.{Content}
use Rattle.model.specs.Definitions.Inverse.{Located, located, Parts, done, broken, part_of, if_there, member_parts, choice_parts}
use Rattle.loaded_table.specs.Loaded.{types_in, kinds_of, counts_of, members_in}
use Rattle.loaded_table.specs.Kinds.{choice_code, choice_range}
use Rattle.loaded_embedding.specs.Loaded.{targets_of, starts_of, lengths_of}
use Rattle.loaded_setting.specs.Ready.{Ready}
use Rattle.scanning.specs.Scanning.{ContentAt}
use Rattle.scanning.specs.Finding.{FoundContent}
use Rattle.paths.specs.Following.{Followable, path_at, paths_from}
use Rattle.paths.specs.Edges.{small, members_long, few, row-follows, row_member}
use Rattle.children.specs.declared.Cursor.TheVariants as cursor
use Rattle.children.specs.Cursors.{members_left, paths_left, along, LeftEdges, LeftChoice, GivesOne}
use Rattle.children.proofs.Finding.{part_none, part_some, there_none, there_some}

-- the invariant of the loop over the edges of a choice: the paths before edge i are not there
pub record Choosing (source target map em : List ℕ) (σ : ℕ) (tr : List ℕ) (from i : ℕ) : Type 0 where
  pub left : (k : Content) (parts : Parts) → ContentAt tr from k → LeftChoice source target map em σ (located from k) parts
      → parts ≡ choice_parts (along target map σ (located from k)) (members_left source σ i) (paths_left source map em σ i)

module _ {source target map em : List ℕ} (ready : Ready source target map em) {σ : ℕ} (exists : σ < types_in source) where
  abbrev count : ℕ
  count = get_or (counts_of source) σ 0

  abbrev F : Located → List ℕ → Option Located
  F = along target map σ

  abbrev ms : ℕ → List ℕ
  ms = members_left source σ

  abbrev ps : ℕ → List (List ℕ)
  ps = paths_left source map em σ

  -- an edge, and those after it
  module _ (i : ℕ) (less : i < count) where
    abbrev place : ℕ
    place = σ * 16 + i

    abbrev m : ℕ
    m = get_or (members_in source) place 0

    left_one : count - i ≡ suc (count - (i + 1))
    left_one = omega arith

    place-on : suc place ≡ σ * 16 + (i + 1)
    place-on = omega arith

    members-here : ms i ≡ m ∷ ms (i + 1)
    members-here =
        let first : drop place (members_in source) ≡ m ∷ drop (suc place) (members_in source) =
        drop-cons (members_in source) place 0 (omega (arith, small ready exists, few ready exists, members_long ready exists)) in
        rw (left_one, first, place-on)

    paths-here : ps i ≡ path_at em map place ∷ ps (i + 1)
    unfolding paths_from
    paths-here = rw (left_one, place-on)

    sequence-here : (l : Located) → member_parts (F l) (ms i) (ps i) ≡ part_of m (F l (path_at em map place)) (member_parts (F l) (ms (i + 1)) (ps (i + 1)))
    unfolding member_parts
    sequence-here l = rw (members-here, paths-here)

    choice-here : (l : Located) → choice_parts (F l) (ms i) (ps i) ≡ if_there m (F l (path_at em map place)) (choice_parts (F l) (ms (i + 1)) (ps (i + 1)))
    unfolding choice_parts
    choice-here l = rw (members-here, paths-here)

  -- ---- a sequence
  module _ {l : Located} {i : ℕ} {parts : Parts} (now : LeftEdges source target map em σ l i parts) where
    pub edges-done : i ≡ count → parts ≡ done
    unfolding member_parts paths_from
    edges-done all = let none_left : count - i ≡ 0 = omega arith in now.are ∙ rw none_left

    module _ (other : i ≡ count → ⊥) where
      pub edges-less : i < count
      edges-less = omega (arith, now.high)

      pub edges-follow : Followable target em (get_or (starts_of map) (σ * 16 + i) 0) (get_or (lengths_of map) (σ * 16 + i) 0) (get_or (targets_of map) σ 0)
      edges-follow = row-follows ready exists (omega (arith, now.is_sequence_lem)) (omega (arith, now.is_sequence_lem)) i edges-less

      pub edges-broken : F l (path_at em map (σ * 16 + i)) ≡ none → parts ≡ broken
      edges-broken e = now.are ∙ sequence-here i edges-less l ∙ part_none _ _ e

      pub edges-one : {tr : List ℕ} {o : ℕ} → FoundContent tr o (F l (path_at em map (σ * 16 + i)))
          → GivesOne source target map em σ tr l (17 - i) (get_or (members_in source) (σ * 16 + i) 0) o (cursor.Edges (i + 1)) parts
      edges-one {o = o} found =
          record {
            inside = found.content;
            rest = member_parts (F l) (ms (i + 1)) (ps (i + 1));
            is = now.are ∙ sequence-here i edges-less l ∙ part_some _ _ (located o found.content) found.is;
            there = found.there;
            on = record { is_sequence_lem = now.is_sequence_lem; high = omega (arith, edges-less); are = refl };
            less = omega (arith, edges-less, few ready exists);
            is_type = row_member ready exists (omega (arith, now.is_sequence_lem)) (omega (arith, now.is_sequence_lem)) i edges-less;
          }

  -- ---- a choice

  pub choice_none : (l : Located) (i : ℕ) {parts : Parts} → parts ≡ choice_parts (F l) (ms i) (ps i) → count ≤ i → parts ≡ broken
  unfolding choice_parts paths_from
  choice_none l i are over = let none_left : count - i ≡ 0 = omega arith in are ∙ rw none_left

  module _ (choosing : choice_code (get_or (kinds_of source) σ 0) ≡ true) (i : ℕ) (less : i < count) where
    pub choice-follow : Followable target em (get_or (starts_of map) (σ * 16 + i) 0) (get_or (lengths_of map) (σ * 16 + i) 0) (get_or (targets_of map) σ 0)
    choice-follow = row-follows ready exists (choice_range _ choosing).0 (choice_range _ choosing).1 i less

    pub choice-on : (l : Located) {parts : Parts} → parts ≡ choice_parts (F l) (ms i) (ps i) → F l (path_at em map (σ * 16 + i)) ≡ none → parts ≡ choice_parts (F l) (ms (i + 1)) (ps (i + 1))
    choice-on l are e = are ∙ choice-here i less l ∙ there_none _ _ e

    pub choice-one : {tr : List ℕ} {o : ℕ} {l : Located} {parts : Parts} → parts ≡ choice_parts (F l) (ms i) (ps i) → FoundContent tr o (F l (path_at em map (σ * 16 + i)))
        → GivesOne source target map em σ tr l 1 (get_or (members_in source) (σ * 16 + i) 0) o cursor.Last parts
    choice-one {o = o} {l = l} are found =
        record {
          inside = found.content;
          rest = done;
          is = are ∙ choice-here i less l ∙ there_some _ _ (located o found.content) found.is;
          there = found.there;
          on = refl;
          less = omega arith;
          is_type = row_member ready exists (choice_range _ choosing).0 (choice_range _ choosing).1 i less;
        }
