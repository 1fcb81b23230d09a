-- The children of a source element before the first of them is read, by the kind of its type.
use mathlib.Core.Path.{◌≡◌, refl, sym, ap, ◌∙◌}
use mathlib.Core.List.{List}
use mathlib.Core.Option.{none, some}
use Prim.Native.Nat.{ℕ, zero, suc, ◌+◌, ◌-◌, ◌*◌, ◌≤◌, ◌<◌}
use native.Mathlib.Nat.{add-zero}
use native.Mathlib.Numerals.{add-one}
use native.Mathlib.Omega.{arith}
use lib.ListN.{length, take, drop, get_or}
use Rattle.model.specs.Definitions.Commands.{needed, optional}
use Rattle.model.specs.Definitions.Table.{Kind, choice, kind_of, edges_of}
use Rattle.model.specs.Definitions.Embedding.{target_of, paths_of, first_path, Divided, divide, before_choice}
use Rattle.model.specs.Definitions.Image.{Setting}
use Rattle.model.specs.Definitions.Inverse.{Located, located, follow_at, Parts, done, broken, choice_parts, optional_parts, list_parts, kind_parts, child_parts}
use Rattle.loaded_table.specs.Loaded.{kind_from, table_by, types_in, kinds_of, counts_of, members_in}
use Rattle.loaded_table.specs.Kinds.{choice_code}
use Rattle.loaded_embedding.specs.Loaded.{targets_of, starts_of, lengths_of, steps_from}
use Rattle.loaded_setting.specs.Ready.{setting_in, Ready}
use Rattle.scanning.specs.Finding.{FoundContent}
use Rattle.paths.specs.declared.Cut.{Cut}
use Rattle.paths.specs.Following.{Followable, Cuts, paths_from}
use Rattle.paths.specs.Cutting.{first_steps, before_follows, rest_follows}
use Rattle.paths.specs.Edges.{target_is, paths_are, kind_is, is_sequence_lem, row-edges, first-follows, first_path_lem, is_list_lem, list-edge-one, list-follows, list-less, list-member}
use Rattle.children.specs.Cursors.{members_left, paths_left, along, LeftEdges, LeftChoice, LeftItems}
use Rattle.children.proofs.Finding.{NotEmpty, empty_found, unless_not}

-- the first steps of the paths of an optional choice: what they lead to decides about its children
pub record SharedPath (source target map em : List ℕ) (σ first depth τ : ℕ) : Type 0 where
  pub optional : get_or (kinds_of source) σ 0 ≡ 4
  pub follows : Followable target em first depth τ
  pub are : (l : Located)
      → child_parts (setting_in source target map em) σ l
      ≡ optional_parts (follow_at (table_by target) τ (steps_from em (first + 2) depth) l) (choice_parts (along target map σ l) (members_left source σ 0) (paths_left source map em σ 0))

module _ {source target map em : List ℕ} {σ first depth τ : ℕ} (p : SharedPath source target map em σ first depth τ) (l : Located) where
  -- it is there and empty
  pub begin_empty : {tr : List ℕ} {o : ℕ} → FoundContent tr o (follow_at (table_by target) τ (steps_from em (first + 2) depth) l) → get_or tr o 0 ≡ 0x32
      → child_parts (setting_in source target map em) σ l ≡ done
  begin_empty here closes = p.are l ∙ empty_found _ here closes

  -- it is not
  pub begin_member : NotEmpty (follow_at (table_by target) τ (steps_from em (first + 2) depth) l) → LeftChoice source target map em σ l (child_parts (setting_in source target map em) σ l)
  begin_member other = record { is_choice_lem = ap choice_code p.optional; are = p.are l ∙ unless_not _ _ other }

module _ {source target map em : List ℕ} (ready : Ready source target map em) {σ : ℕ} (exists : σ < types_in source) where
  abbrev X : Setting
  X = setting_in source target map em

  abbrev count : ℕ
  count = get_or (counts_of source) σ 0

  abbrev tau : ℕ
  tau = get_or (targets_of map) σ 0

  -- the children by the arrays
  abbrev κ : Kind
  κ = kind_of X.source σ

  abbrev row : List ℕ
  row = take count (drop (σ * 16) (members_in source))

  module _ (l : Located) where
    abbrev whole : Parts
    whole = child_parts X σ l

    parts-by : (kind : Kind) (n : ℕ) → κ ≡ kind → edges_of κ ≡ n → whole ≡ kind_parts X.target kind tau (paths_from em map (σ * 16) n) l
    parts-by kind n is edges =
        ap (λ (q : ℕ). kind_parts X.target κ q (paths_of X.embedding σ) l) (target_is ready exists)
        ∙ ap (λ (pss : List (List ℕ)). kind_parts X.target κ tau pss l) (paths_are ready exists ∙ ap (paths_from em map (σ * 16)) edges)
        ∙ ap (λ (x : Kind). kind_parts X.target x tau (paths_from em map (σ * 16) n) l) is

    -- a text or an empty type has none
    pub begin-none : get_or (kinds_of source) σ 0 < 2 → whole ≡ done
    begin-none low = ap (λ (x : Kind). kind_parts X.target x (target_of X.embedding σ) (paths_of X.embedding σ) l) (kind_is ready exists) ∙ go (get_or (kinds_of source) σ 0) low
      where
        go : (c : ℕ) → c < 2 → kind_parts X.target (kind_from c count (drop (σ * 16) (members_in source))) (target_of X.embedding σ) (paths_of X.embedding σ) l ≡ done
        go zero h = unfold kind_parts in refl
        go (suc zero) h = unfold kind_parts in refl
        go (suc (suc c)) h = absurd (omega arith)

    -- all edges from edge 0 on
    all-members : members_left source σ 0 ≡ row
    all-members =
        let left : count - 0 ≡ count = omega arith in
        rw (left, add-zero (σ * 16))

    all-paths : paths_left source map em σ 0 ≡ paths_from em map (σ * 16) count
    all-paths =
        let left : count - 0 ≡ count = omega arith in
        rw (left, add-zero (σ * 16))

    pub begin-sequence : get_or (kinds_of source) σ 0 ≡ 2 → LeftEdges source target map em σ l 0 whole
    unfolding kind_parts
    begin-sequence code =
        record {
          is_sequence_lem = code;
          high = omega arith;
          are = parts-by _ count (is_sequence_lem ready exists code) (row-edges ready exists (omega arith) (omega arith)) ∙ sym (rw (all-members, all-paths));
        }

    pub begin-choice : get_or (kinds_of source) σ 0 ≡ 3 → LeftChoice source target map em σ l whole
    unfolding kind_parts
    begin-choice code =
        record { is_choice_lem = ap choice_code code; are = parts-by (choice needed row) count (kind_is ready exists ∙ rw code) (row-edges ready exists (omega arith) (omega arith)) ∙ sym (rw (all-members, all-paths)) }

  -- an optional choice, whose first path is read from the arrays
  module _ (code : get_or (kinds_of source) σ 0 ≡ 4) {first steps τ : ℕ}
      (is_first : first ≡ get_or (starts_of map) (σ * 16) 0) (is-steps : steps ≡ get_or (lengths_of map) (σ * 16) 0) (is-target : τ ≡ tau) where
    abbrev steps_first : List ℕ
    steps_first = steps_from em (first + 2) steps

    -- the first path can be followed
    pub optional-path : Followable target em first steps τ
    optional-path = rw (is_first, is-steps, is-target) (first-follows ready exists (ap choice_code code))

    -- the steps before its first choice step
    pub shared-path : {depth : ℕ} → (depth ≤ steps) × (steps_from em (first + 2) depth ≡ before_choice X.target τ steps_first) → SharedPath source target map em σ first depth τ
    unfolding kind_parts
    shared-path shared =
        let one : first_path (paths_from em map (σ * 16) count) ≡ steps_first =
        sym (ap first_path (paths_are ready exists ∙ ap (paths_from em map (σ * 16)) (row-edges ready exists (omega arith) (omega arith)))) ∙ first_path_lem ready exists (ap choice_code code) ∙ sym (rw (is_first, is-steps)) in
        record {
          optional = code;
          follows = first_steps optional-path shared.0;
          are =
              λ l. parts-by l (choice optional row) count (kind_is ready exists ∙ rw code) (row-edges ready exists (omega arith) (omega arith))
              ∙ rw (one, shared.1, is-target, all-members l, all-paths l);
        }

  -- a list, whose path is read from the arrays
  module _ (code : 5 ≤ get_or (kinds_of source) σ 0) {first steps τ : ℕ}
      (is_first : first ≡ get_or (starts_of map) (σ * 16) 0) (is-steps : steps ≡ get_or (lengths_of map) (σ * 16) 0) (is-target : τ ≡ tau) where
    abbrev path : List ℕ
    path = steps_from em (first + 2) steps

    abbrev d : Divided
    d = divide X.target τ path

    pub list-path : Followable target em first steps τ
    list-path = rw (is_first, is-steps, is-target) (list-follows ready exists code)

    begin-parts : (l : Located) → child_parts X σ l ≡ list_parts X.target d (get_or (members_in source) (σ * 16) 0) (follow_at X.target τ d.before l)
    unfolding kind_parts paths_from first_path
    begin-parts l = rw (is_first, is-steps, is-target) (parts-by l _ 1 (is_list_lem ready exists code) (list-edge-one ready exists code))

    module _ {r : Cut} (cut : Cuts em first steps d r) where
      pub cut-less : r.depth < steps
      cut-less = let less : length d.before < steps = rw (is_first, is-steps, is-target) (list-less ready exists code) in omega (arith, cut.depth)

      pub list-before : Followable target em first r.depth τ
      list-before = before_follows list-path cut

      pub begin-lost : (l : Located) → follow_at X.target τ (steps_from em (first + 2) r.depth) l ≡ none → child_parts X σ l ≡ broken
      unfolding list_parts
      begin-lost l miss =
          let gone : follow_at X.target τ d.before l ≡ none = rw (sym cut.before) miss in
          begin-parts l ∙ rw gone

      pub begin-items : (l : Located) {tr : List ℕ} {o : ℕ} → FoundContent tr o (follow_at X.target τ (steps_from em (first + 2) r.depth) l) → {m : ℕ} → m ≡ get_or (members_in source) (σ * 16 + 0) 0
          → LeftItems source target em tr (record { at = o; item = r.item; start = first + 2 * (r.depth + 1); steps = steps - (r.depth + 1); child = m }) (child_parts X σ l)
      unfolding list_parts
      begin-items l {o = o} found {m} is =
          let here : follow_at X.target τ d.before l ≡ some (located o found.content) = rw (sym cut.before) found.is in
          let child : m ≡ get_or (members_in source) (σ * 16) 0 = is ∙ ap (λ (i : ℕ). get_or (members_in source) i 0) (add-zero (σ * 16)) in
          let next : r.depth + 1 ≡ suc r.depth = add-one r.depth in
          record {
            items = found.content;
            there = found.there;
            child_type = omega (arith, child, list-member ready exists code);
            followable = rw next (rest_follows list-path cut cut-less);
            are = begin-parts l ∙ rw (here, next, child, cut.item, cut.rest);
          }
