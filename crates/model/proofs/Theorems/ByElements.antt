-- Induction over the elements of conforming content: what follows for an element from the elements right below it
-- holds for every element.
use mathlib.Core.List.{[], Memᴰ}
use Rattle.std.specs.Prelude.{refl, ℕ, ◌<◌, length}
use Rattle.model.specs.Definitions.Table.{Kind, Table, kind_of, members_of}
use Rattle.model.specs.Definitions.Content.{Content, end, char, elem}
use Rattle.model.specs.Definitions.Conformance.{Holds, no_character, one_character, nothing, no_member, one_member, chosen, left_out, no_item, one_item}
use Rattle.model.proofs.Theorems.Facts.{WellFormed}

-- P of every element of a content, by its type and what it holds; not of the elements below those
pub data Each (P : ℕ → Content → Type 0) : Content → Type 0 where
  each_end : Each P end
  each_char : {c : ℕ} {r : Content} → Each P r → Each P (char c r)
  each_elem : {t : ℕ} {k r : Content} → P t k → Each P r → Each P (elem t k r)

module _
    (S : Table)
    (wf : WellFormed S)
    (P : ℕ → Content → Type 0)
    (step : (s : ℕ) (k : Content) → s < length S → Holds S (kind_of S s) k → Each P k → P s k) where
  -- the elements of content of a kind whose members exist
  each_of : {κ : Kind} {k : Content} → Holds S κ k → ((m : ℕ) → Memᴰ m (members_of κ) → m < length S) → Each P k
  unfolding members_of
  each_of no_character f = each_end
  each_of (one_character a h) f = each_char (each_of h f)
  each_of nothing f = each_end
  each_of no_member f = each_end
  each_of (one_member {m = m} {k = k} hk hr) f =
      each_elem (step m k (f m (Memᴰ.head refl)) hk (each_of hk (λ n. wf.members_exist m n))) (each_of hr (λ n e. f n (Memᴰ.tail e)))
  each_of (chosen {m = m} {k = k} e hk) f = each_elem (step m k (f m e) hk (each_of hk (λ n. wf.members_exist m n))) each_end
  each_of left_out f = each_end
  each_of no_item f = each_end
  each_of (one_item {m = m} {k = k} hk hr) f =
      each_elem (step m k (f m (Memᴰ.head refl)) hk (each_of hk (λ n. wf.members_exist m n))) (each_of hr f)

  pub by_elements : (s : ℕ) (k : Content) → s < length S → Holds S (kind_of S s) k → P s k
  by_elements s k h holds = step s k h holds (each_of holds (λ n. wf.members_exist s n))
