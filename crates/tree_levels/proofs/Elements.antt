-- The number of elements counted by commands.
use mathlib.Core.Path.{◌≡◌, refl, sym, ap, ◌∙◌}
use mathlib.Core.List.{List, [], ◌∷◌}
use Prim.Native.Nat.{ℕ, suc, ◌+◌, ◌≤◌}
use native.Mathlib.Nat.{add-zero, zero-add}
use native.Mathlib.Omega.{arith}
use lib.ListN.{length, drop, drop_of_length-le}
use Rattle.model.specs.Definitions.Basics.{passes}
use Rattle.model.specs.Definitions.Commands.{TreeCommand, opens, character, closes, tree_end, alien_t, tree_commands, tree_width}
use Rattle.model.specs.Definitions.Content.{Content, end, char, elem, content_of, elements}
use Rattle.model.specs.Definitions.TreeChecks.{tree_form}
use Rattle.model.proofs.Theorems.Documents.{commands_then, document_commands, document-commands, content_of_form}
use Rattle.model.proofs.Theorems.Reading.{no_tree-commands}
use Rattle.tree_levels.specs.Elements.{opened, opens_in}
use Rattle.tree_form.specs.Commands.{command, ReadsCommand}
use Rattle.tree_form.specs.declared.command.TreeCommand as code
use Rattle.tree_form.specs.declared.command.TreeCommand.TheVariants.{Opens, Character, Closes, End}

-- the commands of a content open its elements
opens_then : (k : Content) (cs : List TreeCommand) → opens_in (commands_then k cs) ≡ elements k + opens_in cs
unfolding opens_in commands_then elements
opens_then end cs = sym (zero-add (opens_in cs))
opens_then (char c r) cs = opens_then r cs
opens_then (elem t k r) cs =
    let inner : opens_in (commands_then k (closes ∷ commands_then r cs)) ≡ elements k + opens_in (commands_then r cs) = opens_then k (closes ∷ commands_then r cs) in
    let later : opens_in (commands_then r cs) ≡ elements r + opens_in cs = opens_then r cs in
    rw (inner, later) (omega arith)

-- so those of a document open its elements, the root included
pub opens_counted : (bs : List ℕ) → tree_form bs ≡ passes → opens_in (tree_commands bs) ≡ 1 + elements (content_of bs)
unfolding document_commands opens_in
opens_counted bs f =
    let d = content_of_form bs f in
    let k : Content = content_of bs in
    let read : tree_commands bs ≡ document_commands d.0 k = ap tree_commands d.1 ∙ document-commands d.0 k in
    let inner : opens_in (commands_then k (closes ∷ tree_end ∷ [])) ≡ elements k + 0 = opens_then k (closes ∷ tree_end ∷ []) in
    ap opens_in read ∙ ap suc inner ∙ plus (elements k)
  where
    plus : (n : ℕ) → suc (n + 0) ≡ 1 + n
    plus n = omega arith

-- what the count keeps: the commands passed opened n elements, and those that are left open the others
pub record Counting (bs : List ℕ) (at n : ℕ) : Type 0 where
  pub within : at ≤ length bs
  pub few : n ≤ at
  pub whole : n + opens_in (tree_commands (drop at bs)) ≡ opens_in (tree_commands bs)

-- at the beginning nothing is counted
pub counting_start : (bs : List ℕ) → Counting bs 0 0
counting_start bs = record { within = omega arith; few = omega arith; whole = zero-add (opens_in (tree_commands bs)) }

-- at the end all are
pub counting_end : (bs : List ℕ) (at n : ℕ) → length bs ≤ at → Counting bs at n → n ≡ opens_in (tree_commands bs)
unfolding opens_in
counting_end bs at n h i =
    let none : tree_commands (drop at bs) ≡ [] = ap tree_commands (drop_of_length-le bs h) ∙ no_tree-commands in
    sym (add-zero n) ∙ rw none at i.whole

-- a command that is not alien: what it opens is counted, and the others are left
counting_on : {bs : List ℕ} (at n m : ℕ) (c : TreeCommand) → Counting bs at n → ReadsCommand bs at c → (c ≡ alien_t → ⊥) → m ≤ n + tree_width c
    → ((rest : List TreeCommand) → n + opens_in (c ∷ rest) ≡ m + opens_in rest) → Counting bs (at + tree_width c) m
counting_on {bs} at n m c i r known few same =
    let left : n + opens_in (tree_commands (drop at bs)) ≡ m + opens_in (tree_commands (drop (at + tree_width c) bs))
    = ap (λ (cs : List TreeCommand). n + opens_in cs) r.reads ∙ same r.rest ∙ ap (λ (cs : List TreeCommand). m + opens_in cs) (r.onward known) in
    record { within = r.within known; few = omega (arith, i.few, few); whole = sym left ∙ i.whole }

module _ {bs : List ℕ} where
  -- an element is counted
  pub counting_opens : {t : ℕ} (at n : ℕ) → Counting bs at n → ReadsCommand bs at (opens t) → Counting bs (at + 2) (n + 1)
  unfolding opens_in tree_width
  counting_opens {t} at n i r =
      counting_on at n (n + 1) (opens t) i r (λ e. let z : ◌≡◌ {A = ℕ} 0 1 = cc in omega arith) (omega arith) (λ rest. one_more n (opens_in rest))
    where
      one_more : (n k : ℕ) → n + suc k ≡ n + 1 + k
      one_more n k = omega arith

  -- a character is none
  pub counting_character : {c : ℕ} (at n : ℕ) → Counting bs at n → ReadsCommand bs at (character c) → Counting bs (at + 2) n
  unfolding opens_in tree_width
  counting_character {c} at n i r = counting_on at n n (character c) i r (λ e. let z : ◌≡◌ {A = ℕ} 0 1 = cc in omega arith) (omega arith) (λ rest. refl)

  -- nor is a close
  pub counting_closes : (at n : ℕ) → Counting bs at n → ReadsCommand bs at closes → Counting bs (at + 1) n
  unfolding opens_in tree_width
  counting_closes at n i r = counting_on at n n closes i r (λ e. let z : ◌≡◌ {A = ℕ} 0 1 = cc in omega arith) (omega arith) (λ rest. refl)

  -- nor is 3F
  pub counting_tree_end : (at n : ℕ) → Counting bs at n → ReadsCommand bs at tree_end → Counting bs (at + 1) n
  unfolding opens_in tree_width
  counting_tree_end at n i r = counting_on at n n tree_end i r (λ e. let z : ◌≡◌ {A = ℕ} 0 1 = cc in omega arith) (omega arith) (λ rest. refl)

  -- an alien command ends the count
  pub counting_alien : (at n : ℕ) → Counting bs at n → ReadsCommand bs at alien_t → n ≡ opens_in (tree_commands bs)
  unfolding opens_in
  counting_alien at n i r = sym (add-zero n) ∙ rw r.reads at i.whole

-- the command that the code read adds what it opens
pub counting_next : (bs : List ℕ) (at n : ℕ) (c : code.TreeCommand) → Counting bs at n → ReadsCommand bs at (command c)
    → Counting bs (at + tree_width (command c)) (n + opened (command c))
unfolding tree_width
counting_next bs at n (Opens t) i r = counting_opens at n i r
counting_next bs at n (Character b) i r = rw (add-zero n) (counting_character at n i r)
counting_next bs at n Closes i r = rw (add-zero n) (counting_closes at n i r)
counting_next bs at n End i r = rw (add-zero n) (counting_tree_end at n i r)
