-- 02, N4, refusal 17, as a predicate: some source element needs a list item that is missing, or no path of its members is there.
use Rattle.std.specs.Prelude.{◌≡◌, ℕ, zero, suc, ◌<◌, drop}
use mathlib.Core.List.{List, [], ◌∷◌, ◌++◌, Memᴰ}
use Rattle.std.proofs.Math.Option.{none, some}
use Rattle.model.specs.Definitions.Commands.{Need, optional}
use Rattle.model.specs.Definitions.Table.{Kind, text, sequence, choice, list, Table, kind_of}
use Rattle.model.specs.Definitions.Content.{Content, end, elem, bytes}
use Rattle.model.specs.Definitions.Embedding.{target_of, paths_of, first_path, next, divide, before_choice}
use Rattle.model.specs.Definitions.Image.{Setting}
use Rattle.model.specs.Definitions.Inverse.{enter, follow, Located, opened_at, Parts, part, child_parts}

-- following a path from an element of type τ that holds k, one comes to a list that is to be left and has no item
pub data ItemMissing (T : Table) : ℕ → List ℕ → Content → Type 0 where
  no_item_here : {τ m p : ℕ} {ps : List ℕ} → kind_of T τ ≡ list m → ItemMissing T τ (p ∷ ps) end
  no_item_below : {τ p : ℕ} {ps : List ℕ} {k inside : Content}
      → enter (kind_of T τ) p (next T τ p) k ≡ some inside → ItemMissing T (next T τ p) ps inside → ItemMissing T τ (p ∷ ps) k

-- one of the elements of some content holds k
pub data HeldByOne : Content → Content → Type 0 where
  by_first : {t : ℕ} {k r : Content} → HeldByOne k (elem t k r)
  by_later : {t : ℕ} {k l r : Content} → HeldByOne k r → HeldByOne k (elem t l r)

-- the own paths of a source element of kind κ, its image of type τ holding k, can't be followed
pub data PathMissing (T : Table) (τ : ℕ) (pss : List (List ℕ)) (k : Content) : Kind → Type 0 where
  -- a text, a member of a sequence: a needed list item is missing
  text_missing : ItemMissing T τ (first_path pss) k → PathMissing T τ pss k text
  member_missing : {ms ps : List ℕ} → Memᴰ ps pss → ItemMissing T τ ps k → PathMissing T τ pss k (sequence ms)
  -- a list: it is missing behind one of the items
  item_missing : {m : ℕ} {items inside : Content} → follow T τ (divide T τ (first_path pss)).before k ≡ some items → HeldByOne inside items
      → ItemMissing T (divide T τ (first_path pss)).item (divide T τ (first_path pss)).rest inside → PathMissing T τ pss k (list m)
  -- a choice: no member's path is there, and an optional one isn't there and empty
  no_member_there : {need : Need} {ms : List ℕ} → ((ps : List ℕ) → Memᴰ ps pss → follow T τ ps k ≡ none)
      → (need ≡ optional → follow T τ (before_choice T τ (first_path pss)) k ≡ some end → ⊥) → PathMissing T τ pss k (choice need ms)

-- child number i of a source element, counted from 0: its type, and the target element that stands for it
pub data PartAt : Parts → ℕ → ℕ → Located → Type 0 where
  first_part : {m : ℕ} {l : Located} {rest : Parts} → PartAt (part m l rest) zero m l
  later_part : {m n i : ℕ} {l a : Located} {rest : Parts} → PartAt rest i m l → PartAt (part n a rest) (suc i) m l

-- `Unreadable X s l address at`: below a source element of type s that l stands for, the source element at this address, the row of
-- child numbers that leads to it, has own paths that can't be followed, and the target element that stands for it is at this offset
pub data Unreadable (X : Setting) : ℕ → Located → List ℕ → ℕ → Type 0 where
  own_missing : {s : ℕ} {l : Located}
      → PathMissing X.target (target_of X.embedding s) (paths_of X.embedding s) l.holds (kind_of X.source s) → Unreadable X s l [] (opened_at l)
  child_missing : {s i m at : ℕ} {l a : Located} {address : List ℕ}
      → PartAt (child_parts X s l) i m a → Unreadable X m a address at → Unreadable X s l (i ∷ address) at

-- an element that holds k is at this offset of a document: there stand 30, its type, the bytes of k, and the 32 that closes it
pub record Opens (doc : List ℕ) (at : ℕ) (k : Content) : Type 0 where
  pub type : ℕ
  pub rest : List ℕ
  pub stands : drop at doc ≡ 0x30 ∷ type ∷ (bytes k ++ 0x32 ∷ rest)

-- document order of addresses: an element comes before its children, and an earlier child with all below it before a later one
pub data NotAfter : List ℕ → List ℕ → Type 0 where
  not_after_below : {b : List ℕ} → NotAfter [] b
  not_after_later : {i j : ℕ} {a b : List ℕ} → i < j → NotAfter (i ∷ a) (j ∷ b)
  not_after_same : {i : ℕ} {a b : List ℕ} → NotAfter a b → NotAfter (i ∷ a) (i ∷ b)

-- the first of them in document order
pub record FirstUnreadable (X : Setting) (s : ℕ) (l : Located) (at : ℕ) : Type 0 where
  pub address : List ℕ
  pub is_unreadable : Unreadable X s l address at
  pub is_first : (other : List ℕ) (there : ℕ) → Unreadable X s l other there → NotAfter address other
