-- Length, filler and levels of an image are found from the rows of its templates.
use Rattle.std.specs.Prelude.{◌≡◌, Bool}
use Rattle.std.proofs.Math.Path.{refl, sym, ap, ap₂}
use Rattle.std.proofs.Common.{◌∙◌, zero-add, add_comm, add_assoc, add-zero, arith}
use Rattle.std.proofs.Math.Bool.{true, false}
use Rattle.std.proofs.Math.Option.{Option}
use mathlib.Core.List.{List, [], ◌∷◌, ◌++◌, map, append_assoc, append-nil}
use Prim.Native.Nat.{ℕ, zero, suc, ◌+◌, ◌*◌, ◌-◌, ◌≤◌, ◌<◌, max}
use Rattle.std.proofs.Math.ListN.{length, get_or}
use Rattle.model.specs.Definitions.Basics.{pick, some_of}
use Rattle.model.specs.Definitions.Commands.{Need, needed, optional}
use Rattle.model.specs.Definitions.Table.{Kind, text, empty, sequence, choice, list, Table, kind_of, is_list}
use Rattle.model.specs.Definitions.Heights.{heights, height_of}
use Rattle.model.specs.Definitions.Content.{Content, end, char, elem, levels}
use Rattle.model.specs.Definitions.Conformance.{Holds, no_character, one_character, nothing, no_member, one_member, chosen, left_out, no_item, one_item}
use Rattle.model.specs.Definitions.Embedding.{target_of, paths_of, first_path, next, leaves, divide, divide_at, Divided}
use Rattle.model.specs.Definitions.Filler.{Builder, content, levels_of, length_of, fillers_of, known, fill_members, fill_kind, fill_to, fillers, filler_length}
use Rattle.model.specs.Definitions.Image.{Setting, Placement, placed, place, letter, element, letters_of, path_of_member, image_of_element, children, image_by, image_levels, image_length, image_filler}
use Rattle.model.specs.Definitions.Templates.{Hole, choice_hole, holes_along, holes_of, template_by, divided_of, item_by, held_by_child, first_type, items_by, in_holes, Shape, Symbol, opening, closing, filler, hole, row_of, template, item_template, row_length, row_levels, row_filler, first_in, depth_of, around, own_length, own_filler, item_length, item_filler, own_levels, item_levels, sum_length, sum_filler, deepest}
use Rattle.model.proofs.Theorems.Facts.{SoundTable, Along, along_none, along_both, ValidEdges, list_edge, Valid}
use Rattle.model.proofs.Theorems.Tools.{true_false}
use Rattle.model.proofs.Theorems.ImageConforms.{list_left}
use Rattle.model.proofs.Theorems.FillerLaws.{filler_levels}
use Rattle.model.proofs.Theorems.Measures.{Hom, image_hom, levels_hom}
use Rattle.model.proofs.Theorems.TemplateShapes.{folded, filler_hom, folded_filler, folded-template, folded_item, Regular, regular_none, regular_gap, regular_built, regular_filler, template_regular, item_regular, member_paths}
use Rattle.model.proofs.Theorems.Templates.{element_template}
use Rattle.model.proofs.Theorems.TemplateMeasures.{Joins, lifts, total, template_parts, item_parts_lem, levels_join, levels_lift}
use Rattle.model.proofs.Theorems.ByElements.{Each, each_end, each_elem, by_elements}

-- ---- measures that add up

-- a number for each character and each element
pub record Adds (B : Builder ℕ) : Type 0 where
  pub letter_cost : ℕ → ℕ
  pub cost : Bool → ℕ
  pub no_cost : B.none ≡ 0
  pub of_letter : (c r : ℕ) → B.letter c r ≡ letter_cost c + r
  pub element_cost : (built : Bool) (t k r : ℕ) → B.element built t k r ≡ (cost built + k) + r

adds_join : {B : Builder ℕ} → Adds B → Joins B
adds_join a =
    record {
      join = ◌+◌;
      wrap = λ built k. a.cost built + k;
      lift = λ k. k;
      of_none = a.no_cost;
      of_element = a.element_cost;
      join_comm = add_comm;
      join_assoc = add_assoc;
      join_zero = add-zero;
      wrap_join = λ built k b. omega arith;
    }

-- the same on rows; a hole adds nothing
pub record RowAdds (T : Table) (B : Builder ℕ) (M : Adds B) (μ : List Symbol → ℕ) : Type 0 where
  pub of_end : μ [] ≡ 0
  pub of_opening : (t : ℕ) (row : List Symbol) → μ (opening t ∷ row) ≡ M.cost true + μ row
  pub of_closing : (row : List Symbol) → μ (closing ∷ row) ≡ μ row
  pub of_filler : (t : ℕ) (row : List Symbol) → μ (filler t ∷ row) ≡ (M.cost false + known B (fillers B T) t) + μ row
  pub of_hole : (h : Hole) (row : List Symbol) → μ (hole h ∷ row) ≡ μ row

module _ {T : Table} (B : Builder ℕ) (M : Adds B) (μ : List Symbol → ℕ) (R : RowAdds T B M μ) where
  adds_append : (r q : List Symbol) → μ (r ++ q) ≡ μ r + μ q
  adds_append [] q = omega (arith, R.of_end)
  adds_append (opening t ∷ r) q = omega (arith, R.of_opening t r, R.of_opening t (r ++ q), adds_append r q)
  adds_append (closing ∷ r) q = omega (arith, R.of_closing r, R.of_closing (r ++ q), adds_append r q)
  adds_append (filler t ∷ r) q = omega (arith, R.of_filler t r, R.of_filler t (r ++ q), adds_append r q)
  adds_append (hole h ∷ r) q = omega (arith, R.of_hole h r, R.of_hole h (r ++ q), adds_append r q)

  -- a row measures what its shape does with nothing in its holes
  row_adds : {Ok : Hole → Type 0} {sh : Shape} → Regular T Ok sh → μ (row_of sh) ≡ folded B (λ h. 0) sh
  unfolding row_of folded
  row_adds regular_none = R.of_end ∙ sym M.no_cost
  row_adds (regular_gap {h} ok) = R.of_hole h [] ∙ R.of_end
  row_adds (regular_built {t} {k} {r} less below after) =
      omega
      (arith, R.of_opening t (row_of k ++ closing ∷ row_of r), adds_append (row_of k) (closing ∷ row_of r), R.of_closing (row_of r), row_adds below, row_adds after, M.element_cost true t (folded B (λ h. 0) k) (folded B (λ h. 0) r))
  row_adds (regular_filler {t} {k} {r} less e after) =
      omega
      (arith, R.of_filler t (row_of r), row_adds after, M.element_cost false t (folded B (λ h. 0) k) (folded B (λ h. 0) r), ap (folded B (λ h. 0)) e, folded_filler B (λ h. 0) T t)

-- ---- length

length_adds : Adds length_of
unfolding length_of
length_adds = record { letter_cost = λ c. 2; cost = λ built. 3; no_cost = refl; of_letter = λ c r. refl; element_cost = λ built t k r. refl }

length_rows : (T : Table) → RowAdds T length_of length_adds (row_length (filler_length T))
unfolding row_length filler_length length_adds
length_rows T = record { of_end = refl; of_opening = λ t row. refl; of_closing = λ row. refl; of_filler = λ t row. refl; of_hole = λ h row. refl }

-- ---- the bytes of filler: 3 for each filler element

fill_bytes_of : Builder ℕ
fill_bytes_of = record { none = 0; letter = λ c r. r; element = λ built t k r. pick built 0 3 + k + r }

fill_bytes_add : Adds fill_bytes_of
unfolding fill_bytes_of
fill_bytes_add = record { letter_cost = λ c. 0; cost = λ built. pick built 0 3; no_cost = refl; of_letter = λ c r. sym (zero-add r); element_cost = λ built t k r. refl }

thrice_element : (built : Bool) (k r : ℕ) → 3 * (pick built 0 1 + k + r) ≡ pick built 0 3 + 3 * k + 3 * r
unfolding pick
thrice_element true k r = omega arith
thrice_element false k r = omega arith

thrice_hom : Hom fillers_of fill_bytes_of (λ n. 3 * n)
unfolding fillers_of fill_bytes_of
thrice_hom = record { on_none = refl; on_letter = λ c r. refl; on_element = λ built t k r. thrice_element built k r }

-- all elements of filler are filler elements, and it has no characters: its length is 3 for each
same_members : (fs : List ℕ) (ms : List ℕ) → fill_members fill_bytes_of fs ms ≡ fill_members length_of fs ms
unfolding fill_members fill_bytes_of length_of pick known
same_members fs [] = refl
same_members fs (m ∷ ms) = ap (λ (n : ℕ). 3 + get_or fs m 0 + n) (same_members fs ms)

same_kind : (hs fs : List ℕ) (κ : Kind) → fill_kind fill_bytes_of hs fs κ ≡ fill_kind length_of hs fs κ
unfolding fill_kind
same_kind hs fs text = unfold fill_bytes_of length_of in refl
same_kind hs fs empty = unfold fill_bytes_of length_of in refl
same_kind hs fs (sequence ms) = same_members fs ms
same_kind hs fs (choice needed ms) = same_members fs _
same_kind hs fs (choice optional ms) = unfold fill_bytes_of length_of in refl
same_kind hs fs (list m) = unfold fill_bytes_of length_of in refl

same_round : (hs fs : List ℕ) (T : Table) → map (fill_kind fill_bytes_of hs fs) T ≡ map (fill_kind length_of hs fs) T
same_round hs fs [] = refl
same_round hs fs (κ ∷ T) = ap₂ (λ (n : ℕ) (ns : List ℕ). n ∷ ns) (same_kind hs fs κ) (same_round hs fs T)

same_rounds : (hs : List ℕ) (T : Table) (n : ℕ) → fill_to fill_bytes_of hs T n ≡ fill_to length_of hs T n
unfolding fill_to
same_rounds hs T zero = refl
same_rounds hs T (suc n) = rw (same_rounds hs T n) (same_round hs (fill_to length_of hs T n) T)

filler_element_bytes : (T : Table) (t : ℕ) → known length_of (fillers length_of T) t ≡ known fill_bytes_of (fillers fill_bytes_of T) t
unfolding fillers known fill_bytes_of length_of
filler_element_bytes T t = ap (λ (fs : List ℕ). get_or fs t 0) (sym (same_rounds (heights T) T (length T)))

filler_rows : (T : Table) → RowAdds T fill_bytes_of fill_bytes_add (row_filler (filler_length T))
unfolding row_filler filler_length fill_bytes_add pick
filler_rows T =
    record {
      of_end = refl;
      of_opening = λ t row. sym (zero-add _);
      of_closing = λ row. refl;
      of_filler = λ t row. ap (λ (n : ℕ). (3 + n) + row_filler (filler_length T) row) (filler_element_bytes T t);
      of_hole = λ h row. refl;
    }

-- ---- sums over a source document

-- what the content of an element of type s adds, given a character's cost and a row's and an item's row's own part
unfoldable pub sum_of : Setting → (ℕ → ℕ) → (ℕ → Option ℕ → ℕ) → (ℕ → ℕ) → ℕ → Content → ℕ
sum_of X cost own item s end = 0
sum_of X cost own item s (char c r) = cost c + sum_of X cost own item s r
sum_of X cost own item s (elem t k r) = around (kind_of X.source s) (item s) + (own t (first_in k) + sum_of X cost own item t k) + sum_of X cost own item s r

length_sum : (X : Setting) (s : ℕ) (k : Content) → sum_length X s k ≡ sum_of X (λ c. 2) (own_length X) (item_length X) s k
unfolding sum_length sum_of
length_sum X s end = refl
length_sum X s (char c r) = rw (length_sum X s r)
length_sum X s (elem t k r) = rw (length_sum X t k, length_sum X s r)

filler_sum : (X : Setting) (s : ℕ) (k : Content) → sum_filler X s k ≡ sum_of X (λ c. 0) (own_filler X) (item_filler X) s k
unfolding sum_filler sum_of
filler_sum X s end = refl
filler_sum X s (char c r) = filler_sum X s r ∙ sym (zero-add _)
filler_sum X s (elem t k r) = rw (filler_sum X t k, filler_sum X s r)

-- the type of the first child
first_child : {A : Type 0} (B : Builder A) (X : Setting) (fs : List A) (k : Content) → first_type (children B X fs k) ≡ first_in k
unfolding first_type children first_in
first_child B X fs end = refl
first_child B X fs (char c r) = first_child B X fs r
first_child B X fs (elem t k r) = refl

module _ (B : Builder ℕ) (M : Adds B) (X : Setting) (valid : Valid X) (μ : List Symbol → ℕ) (R : RowAdds X.target B M μ) where
  abbrev fill : List ℕ
  fill = fillers B X.target

  abbrev own : ℕ → Option ℕ → ℕ
  own s t = μ (template X s t)

  abbrev item : ℕ → ℕ
  item s = μ (item_template X s)

  abbrev adds : ℕ → Content → ℕ
  adds s k = sum_of X M.letter_cost own item s k

  -- the rows' measures are those of templates with nothing in their holes
  own_is : (s : ℕ) (t : Option ℕ) → s < length X.source → own s t ≡ template_by B (λ h. 0) X s t
  unfolding template
  own_is s t exists = row_adds B M μ R (template_regular X valid s t exists) ∙ folded-template B (λ h. 0) X s t

  item_is : (s m : ℕ) → s < length X.source → kind_of X.source s ≡ list m → item s ≡ item_by B X s 0 0
  unfolding item_template
  item_is s m exists e = row_adds B M μ R (item_regular X valid s m exists e) ∙ folded_item B (λ h. 0) X s ∙ ap (item_by B X s 0) M.no_cost

  adds_lift : (path : List ℕ) (a : ℕ) → lifts B (adds_join M) path a ≡ a
  unfolding lifts adds_join
  adds_lift [] a = refl
  adds_lift (p ∷ path) a = adds_lift path a

  adds_total : (path : List ℕ) (a : ℕ) (ps : List (Placement ℕ)) → total B (adds_join M) (placed path a ∷ ps) ≡ a + total B (adds_join M) ps
  unfolding total adds_join
  adds_total path a ps = ap (λ (x : ℕ). x + total B (adds_join M) ps) (adds_lift path a)

  adds_none : total B (adds_join M) [] ≡ 0
  unfolding total
  adds_none = refl

  adds_one : (path : List ℕ) (a : ℕ) → total B (adds_join M) (placed path a ∷ []) ≡ a
  adds_one path a = omega (arith, adds_total path a [], adds_none)

  adds_item : (s m a r : ℕ) → s < length X.source → kind_of X.source s ≡ list m → item_by B X s a r ≡ item s + (a + r)
  unfolding adds_join
  adds_item s m a r exists e =
      item_parts_lem B (adds_join M) X valid s m a r exists e ∙ rw (item_is s m exists e, adds_lift (divided_of X s).rest a)

  -- an element's measure: its row's, and what its content adds
  Sums : ℕ → Content → Type 0
  Sums s k = image_of_element B X fill s (children B X fill k) ≡ own s (first_in k) + adds s k

  -- the characters of a text
  letters_sum : (s : ℕ) {k : Content} → Holds X.source text k → letters_of B (children B X fill k) ≡ adds s k
  unfolding letters_of children sum_of
  letters_sum s no_character = M.no_cost
  letters_sum s (one_character {c} {r} ok later) = M.of_letter c (letters_of B (children B X fill r)) ∙ ap (λ (n : ℕ). M.letter_cost c + n) (letters_sum s later)

  -- the members of a sequence
  members_sum : {P : ℕ → List ℕ → Type 0} {ms : List ℕ} {pss : List (List ℕ)} {k : Content} (s : ℕ) → around (kind_of X.source s) (item s) ≡ 0
      → Along P ms pss → Holds X.source (sequence ms) k → Each Sums k → total B (adds_join M) (holes_along (held_by_child B (children B X fill k)) pss) ≡ adds s k
  unfolding holes_along held_by_child children sum_of Sums
  members_sum s none along_none no_member each_end = adds_none
  members_sum s none (along_both {b = p} {ys = pss} h al) (one_member {m} {k = k} held later) (each_elem {r = r} e es) =
      omega (arith, adds_total p (image_of_element B X fill m (children B X fill k)) (holes_along (held_by_child B (children B X fill r)) pss), e, none, members_sum s none al later es)

  -- the items of a list
  items_sum : (s : ℕ) {m : ℕ} {k : Content} → ((a r : ℕ) → item_by B X s a r ≡ around (kind_of X.source s) (item s) + (a + r)) → Holds X.source (list m) k → Each Sums k
      → items_by B (item_by B X s) (children B X fill k) ≡ adds s k
  unfolding items_by children sum_of Sums
  items_sum s one no_item each_end = M.no_cost
  items_sum s one (one_item {m} {k} {r} held later) (each_elem e es) =
      omega (arith, one (image_of_element B X fill m (children B X fill k)) (items_by B (item_by B X s) (children B X fill r)), e, items_sum s one later es)

  -- the member of a choice
  chosen_sum : (s m : ℕ) (k : Content) → around (kind_of X.source s) (item s) ≡ 0 → Sums m k
      → image_of_element B X fill m (children B X fill k) ≡ adds s (elem m k end)
  unfolding sum_of Sums
  chosen_sum s m k none h = omega (arith, none, h)

  -- a choice of either kind: its member, or nothing
  choice_sum : (s : ℕ) (shared : List ℕ) {need : Need} {ms : List ℕ} (pss : List (List ℕ)) {k : Content} → around (kind_of X.source s) (item s) ≡ 0
      → Holds X.source (choice need ms) k → Each Sums k
      → total B (adds_join M) (choice_hole (in_holes B (item_by B X s) (children B X fill k)) shared ms pss (first_type (children B X fill k)) ∷ []) ≡ adds s k
  unfolding choice_hole in_holes children first_type
  choice_sum s shared pss none (chosen {m = m} {k = k} mem held) (each_elem h each_end) = unfold held_by_child in adds_one _ _ ∙ chosen_sum s m k none h
  choice_sum s shared pss none left_out each_end = unfold letters_of sum_of in adds_one _ _ ∙ M.no_cost

  kind_sum : (s : ℕ) (κ : Kind) {k : Content} → s < length X.source → kind_of X.source s ≡ κ
      → ValidEdges X (target_of X.embedding s) κ (paths_of X.embedding s) → Holds X.source κ k → Each Sums k
      → total B (adds_join M) (holes_of (in_holes B (item_by B X s) (children B X fill k)) X.target κ (target_of X.embedding s) (paths_of X.embedding s) (first_type (children B X fill k)))
      ≡ adds s k
  unfolding holes_of in_holes around
  kind_sum s text exists e edges held each = adds_one _ _ ∙ letters_sum s held
  kind_sum s empty exists e edges nothing each = unfold sum_of in adds_none
  kind_sum s (sequence ms) exists e edges held each = members_sum s (rw e) (member_paths edges) held each
  kind_sum s (choice need ms) exists e edges held each = choice_sum s _ _ (rw e) held each
  kind_sum s (list m) exists e edges held each =
      adds_one _ _ ∙ items_sum s (λ a r. rw e (adds_item s m a r exists e)) held each

  element_sums : (s : ℕ) (k : Content) → s < length X.source → Holds X.source (kind_of X.source s) k → Each Sums k → Sums s k
  unfolding Sums adds_join
  element_sums s k exists held each =
      element_template B X s k (valid.edges s exists) held
      ∙ template_parts B (adds_join M) X valid s _ _ exists
      ∙ ap₂ ◌+◌ (ap (λ (t : Option ℕ). template_by B (λ i. 0) X s t) (first_child B X fill k) ∙ sym (own_is s (first_in k) exists))
      (kind_sum s (kind_of X.source s) exists refl (valid.edges s exists) held each)

  -- The measure of the image is the sum over the rows of the source elements.
  pub image_sum : (k : Content) → Holds X.source (kind_of X.source 0) k → image_by B X k ≡ own 0 (first_in k) + adds 0 k
  unfolding image_by Sums
  image_sum k held = by_elements X.source valid.source_sound.well_formed Sums element_sums 0 k valid.source_sound.well_formed.has_root held

module _ (X : Setting) (valid : Valid X) (k : Content) (held : Holds X.source (kind_of X.source 0) k) where
  -- The bytes of the image are those of the rows and 2 for each character, and 4 of the root and the end.
  pub image_length_rows : image_length X k ≡ own_length X 0 (first_in k) + sum_length X 0 k + 4
  unfolding image_length own_length item_length length_adds
  image_length_rows =
      ap (λ (n : ℕ). n + 4) (image_sum length_of length_adds X valid (row_length (filler_length X.target)) (length_rows X.target) k held ∙ ap (λ (n : ℕ). own_length X 0 (first_in k) + n) (sym (length_sum X 0 k)))

  -- The filler elements of the image have the bytes of those of the rows.
  pub image_filler_rows : 3 * image_filler X k ≡ own_filler X 0 (first_in k) + sum_filler X 0 k
  unfolding image_filler own_filler item_filler fill_bytes_add
  image_filler_rows =
      image_hom fillers_of fill_bytes_of (λ n. 3 * n) thrice_hom X k
      ∙ image_sum fill_bytes_of fill_bytes_add X valid (row_filler (filler_length X.target)) (filler_rows X.target) k held
      ∙ ap (λ (n : ℕ). own_filler X 0 (first_in k) + n) (sym (filler_sum X 0 k))

-- ---- levels

-- n levels below d open elements; nothing has no levels there either
below : ℕ → ℕ → ℕ
below d zero = 0
below d (suc n) = d + suc n

below_none : (d : ℕ) → below d 0 ≡ 0
unfolding below
below_none d = refl

below_some : (d n : ℕ) → 0 < n → below d n ≡ d + n
unfolding below
below_some d zero some = absurd (omega arith)
below_some d (suc n) some = refl

below_first : (n : ℕ) → below 0 n ≡ n
unfolding below
below_first zero = refl
below_first (suc n) = zero-add (suc n)

max_nested : (a b c : ℕ) → max a (max b c) ≡ max (max a b) c
max_nested a b c = omega arith

-- an element that opens, and what stands in it
below_inside : (d n : ℕ) → max (suc d) (below (suc d) n) ≡ suc d + n
unfolding below
below_inside d zero = omega arith
below_inside d (suc n) = omega arith

-- an element of h levels, and what comes after it
below_max : (d h n : ℕ) → below d (max (suc h) n) ≡ max (d + suc h) (below d n)
below_max d h zero = omega (arith, below_some d (max (suc h) 0) (omega arith), below_none d)
below_max d h (suc n) = omega (arith, below_some d (max (suc h) (suc n)) (omega arith), below_some d (suc n) (omega arith))

-- the element itself, what stands in it, and what comes after it
around_element : (d k after : ℕ) → max (suc d) (max (below (suc d) k) after) ≡ max (d + suc k) after
around_element d k after =
    let inside : max (suc d) (below (suc d) k) ≡ d + suc k = omega (arith, below_inside d k) in
    max_nested (suc d) (below (suc d) k) after ∙ ap (λ (n : ℕ). max n after) inside

-- what comes after an element
after_element : (d h n after : ℕ) → max (d + suc h) (max (below d n) after) ≡ max (below d (max (suc h) n)) after
after_element d h n after = omega (arith, below_max d h n)

-- a filler element has as many levels as its type is high
filler_height : (T : Table) → SoundTable T → (t : ℕ) → t < length T → height_of T t ≡ suc (known levels_of (fillers levels_of T) t)
filler_height T sound t exists = sym (filler_levels T sound t exists) ∙ ap suc (filler_hom content levels_of levels levels_hom T t)

levels_none : levels_of.none ≡ 0
unfolding levels_of
levels_none = refl

levels_element : (built : Bool) (t k r : ℕ) → levels_of.element built t k r ≡ max (suc k) r
unfolding levels_of
levels_element built t k r = refl

levels_closing : (height : ℕ → ℕ) (d : ℕ) (row : List Symbol) → row_levels height (suc d) (closing ∷ row) ≡ row_levels height d row
unfolding row_levels
levels_closing height d row = let back : suc d - 1 ≡ d = omega arith in rw back

-- A row of a shape, and symbols after it: the shape's levels below the elements that are open, which are the same after it.
levels_then : {T : Table} → SoundTable T → {Ok : Hole → Type 0} {sh : Shape} → Regular T Ok sh → (d : ℕ) (more : List Symbol)
    → row_levels (height_of T) d (row_of sh ++ more) ≡ max (below d (folded levels_of (λ h. 0) sh)) (row_levels (height_of T) d more)
unfolding row_of row_levels folded
levels_then sound regular_none d more = rw (levels_none, below_none d) (omega arith)
levels_then sound (regular_gap {h} ok) d more = rw (below_none d) (omega arith)
levels_then {T} sound (regular_built {t} {k} {r} less inner after) d more =
    let K : ℕ = folded levels_of (λ h. 0) k in
    let R : ℕ = folded levels_of (λ h. 0) r in
    rw (append_assoc (row_of k) (closing ∷ row_of r) more, levels_then sound inner (suc d) (closing ∷ (row_of r ++ more)), levels_closing (height_of T) d (row_of r ++ more), levels_then sound after d more, levels_element true t K R)
    (around_element d K (max (below d R) (row_levels (height_of T) d more)) ∙ after_element d K R (row_levels (height_of T) d more))
levels_then {T} sound (regular_filler {t} {k} {r} less e after) d more =
    let R : ℕ = folded levels_of (λ h. 0) r in
    ap₂ (λ (height later : ℕ). max (d + height) later) (filler_height T sound t less) (levels_then sound after d more)
    ∙ after_element d (known levels_of (fillers levels_of T) t) R (row_levels (height_of T) d more)
    ∙ sym (rw (levels_element false t (folded levels_of (λ h. 0) k) R, e, folded_filler levels_of (λ h. 0) T t))

-- so a row alone
row_levels_lem : {T : Table} → SoundTable T → {Ok : Hole → Type 0} {sh : Shape} → Regular T Ok sh → (d : ℕ)
    → row_levels (height_of T) d (row_of sh) ≡ below d (folded levels_of (λ h. 0) sh)
row_levels_lem {T} sound {sh = sh} good d =
    let alone : row_levels (height_of T) d (row_of sh ++ []) ≡ row_levels (height_of T) d (row_of sh) = ap (row_levels (height_of T) d) (append-nil (row_of sh)) in
    let nothing_more : row_levels (height_of T) d [] ≡ 0 = (unfold row_levels in refl) in
    omega (arith, alone, nothing_more, levels_then sound good d [])

-- a path that leaves a list has the steps before it, the one that leaves it, and the rest
divided_at : (p : ℕ) (ps : List ℕ) (d : Divided) (κ : Kind) (κs : List Kind) → some_of is_list (κ ∷ κs) ≡ true
    → (some_of is_list κs ≡ true → length d.before + suc (length d.rest) ≡ length ps)
    → length (divide_at κ p ps d).before + suc (length (divide_at κ p ps d).rest) ≡ suc (length ps)
unfolding divide_at some_of is_list
divided_at p ps d text κs left later = omega (arith, later left)
divided_at p ps d empty κs left later = omega (arith, later left)
divided_at p ps d (sequence ms) κs left later = omega (arith, later left)
divided_at p ps d (choice need ms) κs left later = omega (arith, later left)
divided_at p ps d (list m) κs left later = omega arith

pub divided_length : (T : Table) (τ : ℕ) (ps : List ℕ) → some_of is_list (leaves T τ ps) ≡ true
    → length (divide T τ ps).before + suc (length (divide T τ ps).rest) ≡ length ps
unfolding divide leaves
divided_length T τ [] left = true_false left (unfold some_of in refl)
divided_length T τ (p ∷ ps) left = divided_at p ps (divide T (next T τ p) ps) (kind_of T τ) (leaves T (next T τ p) ps) left (divided_length T (next T τ p) ps)

list_path_length : {X : Setting} {τ m : ℕ} {pss : List (List ℕ)} → ValidEdges X τ (list m) pss
    → length (divide X.target τ (first_path pss)).before + suc (length (divide X.target τ (first_path pss)).rest) ≡ length (first_path pss)
unfolding first_path
list_path_length {X} {τ} (list_edge {ps = ps} g) = divided_length X.target τ ps (list_left g.good)

-- what is placed: the deepest, each below its path
total_more : (path : List ℕ) (a : ℕ) (ps : List (Placement ℕ)) → total levels_of levels_join (placed path a ∷ ps) ≡ max (length path + a) (total levels_of levels_join ps)
unfolding total levels_join
total_more path a ps = ap (λ (n : ℕ). max n (total levels_of levels_join ps)) (levels_lift path a)

total_none : total levels_of levels_join [] ≡ 0
unfolding total
total_none = refl

total_one : (path : List ℕ) (a : ℕ) → total levels_of levels_join (placed path a ∷ []) ≡ length path + a
total_one path a = omega (arith, total_more path a [], total_none)

-- what is below some steps
lift_max : (l a b : ℕ) → l + max a b ≡ max (l + a) (l + b)
lift_max l a b = omega arith

max_swap : (l a b : ℕ) → max l (max a b) ≡ max a (max l b)
max_swap l a b = omega arith

-- An item below some steps, and the items after it.
one_item_more : (before around inside after later : ℕ) → max before (before + after) ≡ max before later
    → max before (before + max around (max inside after)) ≡ max before (max (before + around) (max (before + inside) later))
one_item_more before around inside after later e =
    rw (lift_max before around (max inside after), lift_max before inside after)
    (max_swap before (before + around) (max (before + inside) (before + after))
    ∙ ap (max (before + around)) (max_swap before (before + inside) (before + after) ∙ ap (max (before + inside)) e ∙ sym (max_swap before (before + inside) later))
    ∙ sym (max_swap before (before + around) (max (before + inside) later)))

module _ (X : Setting) (valid : Valid X) where
  abbrev flat : List ℕ
  flat = fillers levels_of X.target

  own_levels_is : (s : ℕ) (t : Option ℕ) → s < length X.source → own_levels X s t ≡ template_by levels_of (λ h. 0) X s t
  unfolding own_levels template
  own_levels_is s t exists = row_levels_lem valid.target_sound (template_regular X valid s t exists) 0 ∙ below_first _ ∙ folded-template levels_of (λ h. 0) X s t

  item_some : (s : ℕ) → 0 < item_by levels_of X s 0 0
  unfolding item_by
  item_some s = omega (arith, levels_element true (divided_of X s).item (place levels_of X.target flat (divided_of X s).item (placed (divided_of X s).rest 0 ∷ [])) 0)

  item_levels_is : (s m : ℕ) → s < length X.source → kind_of X.source s ≡ list m → item_levels X s ≡ length (divided_of X s).before + item_by levels_of X s 0 0
  unfolding item_levels item_template
  item_levels_is s m exists e =
      row_levels_lem valid.target_sound (item_regular X valid s m exists e) _
      ∙ ap (below (length (divided_of X s).before)) (folded_item levels_of (λ h. 0) X s ∙ ap (item_by levels_of X s 0) levels_none)
      ∙ below_some _ (item_by levels_of X s 0 0) (item_some s)

  -- an element's levels: its row's, or those of the deepest of its children
  Deep : ℕ → Content → Type 0
  Deep s k = image_of_element levels_of X flat s (children levels_of X flat k) ≡ max (own_levels X s (first_in k)) (deepest X s 0 k)

  -- characters have no levels
  letters_flat : {k : Content} → Holds X.source text k → letters_of levels_of (children levels_of X flat k) ≡ 0
  unfolding letters_of children levels_of
  letters_flat no_character = refl
  letters_flat (one_character ok later) = letters_flat later

  text_flat : (s : ℕ) {k : Content} → Holds X.source text k → deepest X s 0 k ≡ 0
  unfolding deepest
  text_flat s no_character = refl
  text_flat s (one_character ok later) = text_flat s later

  -- the members of a sequence
  members_deepest : {P : ℕ → List ℕ → Type 0} {ms : List ℕ} {pss : List (List ℕ)} {k : Content} (s i : ℕ)
      → around (kind_of X.source s) (item_levels X s) ≡ 0
      → ((j t : ℕ) → depth_of (kind_of X.source s) (paths_of X.embedding s) j t ≡ length (get_or (paths_of X.embedding s) j []))
      → ((j : ℕ) → get_or pss j [] ≡ get_or (paths_of X.embedding s) (j + i) [])
      → Along P ms pss → Holds X.source (sequence ms) k → Each Deep k
      → total levels_of levels_join (holes_along (held_by_child levels_of (children levels_of X flat k)) pss) ≡ deepest X s i k
  unfolding holes_along held_by_child children deepest Deep
  members_deepest s i none depth from along_none no_member each_end = total_none
  members_deepest s i none depth from (along_both {b = p} {ys = pss} h al) (one_member {m} {k = k} held later) (each_elem {r = r} e es) =
      let path : length p ≡ length (get_or (paths_of X.embedding s) i []) = ap length (from 0 ∙ ap (λ (j : ℕ). get_or (paths_of X.embedding s) j []) (zero-add i)) in
      omega
      (arith, total_more p (image_of_element levels_of X flat m (children levels_of X flat k)) (holes_along (held_by_child levels_of (children levels_of X flat r)) pss), e, none, depth i m, path, members_deepest s (suc i) none depth (λ j. from (suc j) ∙ ap (λ (n : ℕ). get_or (paths_of X.embedding s) n []) (omega arith)) al later es)

  -- the member of a choice
  chosen_deepest : (s m : ℕ) (k : Content) → around (kind_of X.source s) (item_levels X s) ≡ 0 → Deep m k
      → depth_of (kind_of X.source s) (paths_of X.embedding s) 0 m + image_of_element levels_of X flat m (children levels_of X flat k) ≡ deepest X s 0 (elem m k end)
  unfolding deepest Deep
  chosen_deepest s m k none e = omega (arith, none, e)

  -- the items of a list, below the steps that lead to the list
  items_deepest : (s i before rest : ℕ) {m : ℕ} {k : Content} → around (kind_of X.source s) (item_levels X s) ≡ before + item_by levels_of X s 0 0
      → ((j t : ℕ) → depth_of (kind_of X.source s) (paths_of X.embedding s) j t ≡ before + suc rest)
      → ((a r : ℕ) → item_by levels_of X s a r ≡ max (item_by levels_of X s 0 0) (max (suc (rest + a)) r))
      → Holds X.source (list m) k → Each Deep k
      → max before (before + items_by levels_of (item_by levels_of X s) (children levels_of X flat k)) ≡ max before (deepest X s i k)
  unfolding items_by children deepest Deep
  items_deepest s i before rest item_is depth one no_item each_end = omega (arith, levels_none)
  items_deepest s i before rest item_is depth one (one_item {m} {k} {r} held later) (each_elem e es) =
      let inside : ℕ = image_of_element levels_of X flat m (children levels_of X flat k) in
      let after : ℕ = items_by levels_of (item_by levels_of X s) (children levels_of X flat r) in
      let further : max before (before + after) ≡ max before (deepest X s (suc i) r) = items_deepest s (suc i) before rest item_is depth one later es in
      let step : before + suc (rest + inside) ≡ (before + suc rest) + max (own_levels X m (first_in k)) (deepest X m 0 k) = omega (arith, e) in
      rw (one inside after, item_is, depth i m, ← step) (one_item_more before (item_by levels_of X s 0 0) (suc (rest + inside)) after (deepest X s (suc i) r) further)

  item_deep : (s m a r : ℕ) → s < length X.source → kind_of X.source s ≡ list m
      → item_by levels_of X s a r ≡ max (item_by levels_of X s 0 0) (max (suc (length (divided_of X s).rest + a)) r)
  unfolding levels_join
  item_deep s m a r exists e =
      item_parts_lem levels_of levels_join X valid s m a r exists e
      ∙ ap (λ (x : ℕ). max (item_by levels_of X s 0 0) (max (suc x) r)) (levels_lift (divided_of X s).rest a)

  -- the levels of a choice of either kind
  choice_deepest : (s own-levels : ℕ) (shared : List ℕ) {need : Need} {ms : List ℕ} (pss : List (List ℕ)) {k : Content} → around (kind_of X.source s) (item_levels X s) ≡ 0
      → ((t : ℕ) → depth_of (kind_of X.source s) (paths_of X.embedding s) 0 t ≡ length (path_of_member t ms pss))
      → Holds X.source (choice need ms) k → Each Deep k
      → total levels_of levels_join (choice_hole (λ h. 0) shared ms pss (first_type (children levels_of X flat k)) ∷ []) ≤ own-levels
      → max own-levels (total levels_of levels_join (choice_hole (in_holes levels_of (item_by levels_of X s) (children levels_of X flat k)) shared ms pss (first_type (children levels_of X flat k)) ∷ []))
      ≡ max own-levels (deepest X s 0 k)
  unfolding choice_hole in_holes children first_type
  choice_deepest s own-levels shared pss none depth (chosen {m = m} {k = k} mem held) (each_elem h each_end) enough =
      unfold held_by_child in ap (max own-levels) (total_one _ _ ∙ (rw (depth m) at (chosen_deepest s m k none h)))
  choice_deepest s own-levels shared pss none depth left_out each_end enough =
      unfold letters_of deepest levels_of in omega (arith, total_one shared 0, enough)

  kind_deepest : (s own-levels : ℕ) (κ : Kind) {k : Content} → s < length X.source → kind_of X.source s ≡ κ
      → ValidEdges X (target_of X.embedding s) κ (paths_of X.embedding s) → Holds X.source κ k → Each Deep k
      → total levels_of levels_join (holes_of (λ h. 0) X.target κ (target_of X.embedding s) (paths_of X.embedding s) (first_type (children levels_of X flat k))) ≤ own-levels
      → max own-levels (total levels_of levels_join (holes_of (in_holes levels_of (item_by levels_of X s) (children levels_of X flat k)) X.target κ (target_of X.embedding s) (paths_of X.embedding s) (first_type (children levels_of X flat k))))
      ≡ max own-levels (deepest X s 0 k)
  unfolding holes_of in_holes around depth_of
  kind_deepest s own-levels text {k} exists e edges held each enough =
      let path : List ℕ = first_path (paths_of X.embedding s) in
      omega (arith, total_one path (letters_of levels_of (children levels_of X flat k)), total_one path 0, letters_flat held, text_flat s held)
  kind_deepest s own-levels empty exists e edges nothing each enough = unfold deepest in ap (max own-levels) total_none
  kind_deepest s own-levels (sequence ms) exists e edges held each enough = ap (max own-levels) (members_deepest s 0 (rw e) (λ j t. rw e) (λ j. rw (add-zero j)) (member_paths edges) held each)
  kind_deepest s own-levels (choice need ms) exists e edges held each enough =
      choice_deepest s own-levels _ _ (rw e) (λ t. rw e) held each enough
  kind_deepest s own-levels (list m) {k} exists e edges held each enough =
      let path : List ℕ = first_path (paths_of X.embedding s) in
      let d : Divided = divide X.target (target_of X.embedding s) path in
      let items : ℕ = items_by levels_of (item_by levels_of X s) (children levels_of X flat k) in
      let deep : max (length d.before) (length d.before + items) ≡ max (length d.before) (deepest X s 0 k) =
      (unfold divided_of in
      items_deepest s 0 (length d.before) (length d.rest) (rw e (item_levels_is s m exists e)) (λ j t. rw e (sym (list_path_length edges))) (λ a r. item_deep s m a r exists e) held each) in
      omega (arith, total_one d.before items, total_one d.before 0, deep)

  template_levels : (s : ℕ) (t : Option ℕ) (σ : Hole → ℕ) → s < length X.source
      → template_by levels_of σ X s t
      ≡ max (template_by levels_of (λ h. 0) X s t) (total levels_of levels_join (holes_of σ X.target (kind_of X.source s) (target_of X.embedding s) (paths_of X.embedding s) t))
  unfolding levels_join
  template_levels s t σ exists = template_parts levels_of levels_join X valid s t σ exists

  element_deep : (s : ℕ) (k : Content) → s < length X.source → Holds X.source (kind_of X.source s) k → Each Deep k → Deep s k
  unfolding Deep
  element_deep s k exists held each =
      let t : Option ℕ = first_type (children levels_of X flat k) in
      let own_row : template_by levels_of (λ h. 0) X s t ≡ own_levels X s (first_in k) =
      sym (own_levels_is s t exists) ∙ ap (own_levels X s) (first_child levels_of X flat k) in
      element_template levels_of X s k (valid.edges s exists) held
      ∙ template_levels s t _ exists
      ∙ rw own_row
      (kind_deepest s (own_levels X s (first_in k)) (kind_of X.source s) exists refl (valid.edges s exists) held each (omega (arith, own_row, template_levels s t (λ h. 0) exists)))

  -- The levels of the image: the root's, and those of its row or of the deepest of its children.
  pub image_levels_rows : (k : Content) → Holds X.source (kind_of X.source 0) k → image_levels X k ≡ suc (max (own_levels X 0 (first_in k)) (deepest X 0 0 k))
  unfolding image_levels image_by Deep
  image_levels_rows k held =
      ap suc (by_elements X.source valid.source_sound.well_formed Deep element_deep 0 k valid.source_sound.well_formed.has_root held)
