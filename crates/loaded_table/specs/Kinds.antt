-- The codes of kinds: what is shown of some kinds, one by one, holds of every code of theirs; and what a code says of the kind.
use Rattle.std.specs.Prelude.{◌≡◌, refl, Bool, true, false, List, ℕ, zero, suc, ◌*◌, ◌≤◌, ◌<◌, min, length, take, drop, get_or, eqb, ltb}
use Rattle.std.proofs.Math.Path.{sym, ap}
use Rattle.std.proofs.Common.{◌∙◌, arith, length-take, ne_eqb, ltb-true, ltb-false}
use Rattle.std.proofs.Math.ListN.{get_or-eq_default}
use Rattle.std.proofs.Math.Dec.{eqb-suc-zero}
use Rattle.model.specs.Definitions.Commands.{Need, needed, optional}
use Rattle.model.specs.Definitions.Table.{Kind, text, empty, sequence, choice, list, kind_of, edges_of, is_text, is_choice, is_optional}
use Rattle.model.proofs.Theorems.Tools.{true_false}
use Rattle.loaded_table.specs.Loaded.{kind_from, table_by, types_in, kinds_of, counts_of, members_in, length_of_lem, kind_of_lem, Bounded}

-- whether a code is that of a choice of either kind
abbrev pub choice_code : ℕ → Bool
choice_code zero = false
choice_code (suc zero) = false
choice_code (suc (suc zero)) = false
choice_code (suc (suc (suc zero))) = true
choice_code (suc (suc (suc (suc zero)))) = true
choice_code (suc (suc (suc (suc (suc code))))) = false

-- whether a choice of that code needs a member
abbrev pub need_from : ℕ → Need
need_from zero = needed
need_from (suc zero) = needed
need_from (suc (suc zero)) = needed
need_from (suc (suc (suc zero))) = needed
need_from (suc (suc (suc (suc code)))) = optional

-- ---- by cases of the code

-- the codes that are read as a list's
abbrev pub OfLists : (ℕ → Type 0) → Type 0
OfLists P = (code : ℕ) → P (suc (suc (suc (suc (suc code)))))

-- any code
pub each_code : (P : ℕ → Type 0) → P 0 → P 1 → P 2 → P 3 → P 4 → OfLists P → (code : ℕ) → P code
each_code P p₀ p₁ p₂ p₃ p₄ lists zero = p₀
each_code P p₀ p₁ p₂ p₃ p₄ lists (suc zero) = p₁
each_code P p₀ p₁ p₂ p₃ p₄ lists (suc (suc zero)) = p₂
each_code P p₀ p₁ p₂ p₃ p₄ lists (suc (suc (suc zero))) = p₃
each_code P p₀ p₁ p₂ p₃ p₄ lists (suc (suc (suc (suc zero)))) = p₄
each_code P p₀ p₁ p₂ p₃ p₄ lists (suc (suc (suc (suc (suc code))))) = lists code

-- a code that is no list's
pub below_lists : (P : ℕ → Type 0) → P 0 → P 1 → P 2 → P 3 → P 4 → (code : ℕ) → code < 5 → P code
below_lists P p₀ p₁ p₂ p₃ p₄ =
    each_code (λ (code : ℕ). code < 5 → P code) (λ h. p₀) (λ h. p₁) (λ h. p₂) (λ h. p₃) (λ h. p₄) (λ code h. absurd (omega arith))

-- a list's
pub list_codes : (P : ℕ → Type 0) → OfLists P → (code : ℕ) → 5 ≤ code → P code
list_codes P lists =
    each_code (λ (code : ℕ). 5 ≤ code → P code)
    (λ h. absurd (omega arith)) (λ h. absurd (omega arith)) (λ h. absurd (omega arith)) (λ h. absurd (omega arith)) (λ h. absurd (omega arith))
    (λ code h. lists code)

-- one that the arms of a `match` before the last have left over
pub unmatched_code : (P : ℕ → Type 0) → OfLists P → (code : ℕ)
    → let isnt : ℕ → Type 0 = λ k. code ≡ k → ⊥ in
    ((((Unit {0} × isnt 0) × isnt 1) × isnt 2) × isnt 3) × isnt 4 → P code
unmatched_code P lists code (((((_, n₀), n₁), n₂), n₃), n₄) = go code n₀ n₁ n₂ n₃ n₄
  where
    go : (k : ℕ) → (k ≡ 0 → ⊥) → (k ≡ 1 → ⊥) → (k ≡ 2 → ⊥) → (k ≡ 3 → ⊥) → (k ≡ 4 → ⊥) → P k
    go =
        each_code (λ (k : ℕ). (k ≡ 0 → ⊥) → (k ≡ 1 → ⊥) → (k ≡ 2 → ⊥) → (k ≡ 3 → ⊥) → (k ≡ 4 → ⊥) → P k)
        (λ a b c d e. absurd (a refl)) (λ a b c d e. absurd (b refl)) (λ a b c d e. absurd (c refl)) (λ a b c d e. absurd (d refl)) (λ a b c d e. absurd (e refl))
        (λ k a b c d e. lists k)

-- that of a type with a row of members: of a sequence, or of a choice of either kind
pub row_codes : (P : ℕ → Type 0) → P 2 → P 3 → P 4 → (code : ℕ) → 2 ≤ code → code < 5 → P code
row_codes P p₂ p₃ p₄ =
    each_code (λ (code : ℕ). 2 ≤ code → code < 5 → P code)
    (λ low high. absurd (omega arith)) (λ low high. absurd (omega arith)) (λ low high. p₂) (λ low high. p₃) (λ low high. p₄) (λ code low high. absurd (omega arith))

-- that of a choice of either kind
pub choice_codes : (P : ℕ → Type 0) → P 3 → P 4 → (code : ℕ) → choice_code code ≡ true → P code
choice_codes P p₃ p₄ =
    each_code (λ (code : ℕ). choice_code code ≡ true → P code)
    (λ e. true_false e refl) (λ e. true_false e refl) (λ e. true_false e refl) (λ e. p₃) (λ e. p₄) (λ code e. true_false e refl)

-- any other
pub other_codes : (P : ℕ → Type 0) → P 0 → P 1 → P 2 → OfLists P → (code : ℕ) → choice_code code ≡ false → P code
other_codes P p₀ p₁ p₂ lists =
    each_code (λ (code : ℕ). choice_code code ≡ false → P code)
    (λ e. p₀) (λ e. p₁) (λ e. p₂) (λ e. true_false refl e) (λ e. true_false refl e) (λ code e. lists code)

-- ---- choices

-- the model's test of the kind
pub choice_code_lem : (code count : ℕ) (row : List ℕ) → is_choice (kind_from code count row) ≡ choice_code code
unfolding is_choice
choice_code_lem code count row = each_code (λ (k : ℕ). is_choice (kind_from k count row) ≡ choice_code k) refl refl refl refl refl (λ k. refl) code

-- a code of a choice, and the kind
pub choice_from : (code count : ℕ) (row : List ℕ) → choice_code code ≡ true → kind_from code count row ≡ choice (need_from code) (take count row)
choice_from code count row = choice_codes (λ (k : ℕ). kind_from k count row ≡ choice (need_from k) (take count row)) refl refl code

-- a kind that is a choice, and its code
pub code_choice : (code count : ℕ) (row : List ℕ) {need : Need} {ms : List ℕ} → kind_from code count row ≡ choice need ms → (choice_code code ≡ true) × (need_from code ≡ need) × (take count row ≡ ms)
code_choice code count row {need} {ms} e =
    let is : choice_code code ≡ true = sym (choice_code_lem code count row) ∙ (unfold is_choice in ap is_choice e) in
    let same : choice (need_from code) (take count row) ≡ choice need ms = sym (choice_from code count row is) ∙ e in
    (is, cc, cc)

-- another code is none of a choice
pub other_code : (code : ℕ) → (code ≡ 3 → ⊥) → (code ≡ 4 → ⊥) → choice_code code ≡ false
other_code =
    each_code (λ (k : ℕ). (k ≡ 3 → ⊥) → (k ≡ 4 → ⊥) → choice_code k ≡ false)
    (λ a b. refl) (λ a b. refl) (λ a b. refl) (λ a b. absurd (a refl)) (λ a b. absurd (b refl)) (λ k a b. refl)

-- choices stand between sequences and lists
pub choice_range : (code : ℕ) → choice_code code ≡ true → (2 ≤ code) × (code < 5)
choice_range = choice_codes (λ (k : ℕ). (2 ≤ k) × (k < 5)) (omega arith, omega arith) (omega arith, omega arith)

-- so a code below or above is none
pub below_choices : (code : ℕ) → code < 3 → choice_code code ≡ false
below_choices code low = other_code code (λ e. omega arith) (λ e. omega arith)

pub above_choices : (code : ℕ) → 5 ≤ code → choice_code code ≡ false
above_choices code high = other_code code (λ e. omega arith) (λ e. omega arith)

-- and every code between is one
pub choice_between : (code : ℕ) → 3 ≤ code → code < 5 → choice_code code ≡ true
choice_between code low high = row_codes (λ (k : ℕ). 3 ≤ k → choice_code k ≡ true) (λ h. absurd (omega arith)) (λ h. refl) (λ h. refl) code (omega arith) high low

-- ---- other kinds

-- the code of a kind, a list's being the least that is read as one
abbrev pub code_of : Kind → ℕ
code_of text = 0
code_of empty = 1
code_of (sequence ms) = 2
code_of (choice needed ms) = 3
code_of (choice optional ms) = 4
code_of (list m) = 5

-- it is the code that the kind was read from, held at that
code_of_lem : (code count : ℕ) (row : List ℕ) → min code 5 ≡ code_of (kind_from code count row)
code_of_lem code count row = each_code (λ (k : ℕ). min k 5 ≡ code_of (kind_from k count row)) refl refl refl refl refl (λ k. omega arith) code

-- a code above the others is a list's
pub list_code : (code count : ℕ) (row : List ℕ) → 5 ≤ code → kind_from code count row ≡ list (get_or row 0 0)
list_code code count row = list_codes (λ (k : ℕ). kind_from k count row ≡ list (get_or row 0 0)) (λ k. refl) code

-- a kind that is a text, a sequence or a list, and its code
pub code_text : (code count : ℕ) (row : List ℕ) → kind_from code count row ≡ text → code ≡ 0
code_text code count row e = omega (arith, code_of_lem code count row, ap code_of e)

pub code_sequence : (code count : ℕ) (row ms : List ℕ) → kind_from code count row ≡ sequence ms → (code ≡ 2) × (take count row ≡ ms)
code_sequence code count row ms e =
    let is : code ≡ 2 = omega (arith, code_of_lem code count row, ap code_of e) in
    let same : sequence (take count row) ≡ sequence ms = rw is at e in
    (is, cc)

pub code_list : (code count : ℕ) (row : List ℕ) (m : ℕ) → kind_from code count row ≡ list m → (5 ≤ code) × (get_or row 0 0 ≡ m)
code_list code count row m e =
    let is : 5 ≤ code = omega (arith, code_of_lem code count row, ap code_of e) in
    let same : list (get_or row 0 0) ≡ list m = sym (list_code code count row is) ∙ e in
    (is, cc)

-- the model's tests of a text and of an optional choice
pub text_code : (code count : ℕ) (row : List ℕ) → is_text (kind_from code count row) ≡ eqb code 0
unfolding is_text
text_code code count row =
    each_code (λ (k : ℕ). is_text (kind_from k count row) ≡ eqb k 0) refl refl refl refl refl (λ k. sym (eqb-suc-zero (suc (suc (suc (suc k)))))) code

pub optional_code : (code count : ℕ) (row : List ℕ) → is_optional (kind_from code count row) ≡ eqb code 4
unfolding is_optional
optional_code code count row =
    each_code (λ (k : ℕ). is_optional (kind_from k count row) ≡ eqb k 4) refl refl refl refl refl (λ k. sym (ne_eqb (suc (suc (suc (suc (suc k))))) 4 (λ e. omega arith))) code

-- ---- edges

-- a kind with so many members counted has no more edges than 16
edges_from_lem : (code count : ℕ) (row : List ℕ) → count ≤ 16 → edges_of (kind_from code count row) ≤ 16
unfolding edges_of
edges_from_lem code count row few =
    let in_row : length (take count row) ≤ 16 = omega (arith, length-take count row) in
    each_code (λ (k : ℕ). edges_of (kind_from k count row) ≤ 16) (omega arith) (omega arith) in_row in_row in_row (λ k. omega arith) code

-- nor has a type of a loaded table, nor a number that is none
pub few_edges : (rows : List ℕ) → Bounded rows → (t : ℕ) → edges_of (kind_of (table_by rows) t) ≤ 16
few_edges rows bounded t = go (ltb t (types_in rows)) refl
  where
    go : (b : Bool) → ltb t (types_in rows) ≡ b → edges_of (kind_of (table_by rows) t) ≤ 16
    go true e = rw (kind_of_lem rows t (ltb-true t (types_in rows) e)) (edges_from_lem (get_or (kinds_of rows) t 0) (get_or (counts_of rows) t 0) (drop (t * 16) (members_in rows)) (bounded.few_members t))
    go false e = unfold kind_of edges_of in rw (get_or-eq_default (table_by rows) empty {n = t} (rw (length_of_lem rows) (ltb-false t (types_in rows) e))) (omega arith)
