-- Reading without offsets: what is read, if it can be. The theorems on images and on conforming documents go by it; that it is what
-- `Definitions.Inverse` reads, is proved in `ReadsPlain`.
use Rattle.std.specs.Prelude.{List, [], ◌∷◌, ℕ, zero, suc}
use Rattle.std.proofs.Math.Option.{Option, none, some}
use Rattle.model.specs.Definitions.Basics.{and_then}
use Rattle.model.specs.Definitions.Commands.{needed, optional}
use Rattle.model.specs.Definitions.Table.{Kind, text, empty, sequence, choice, list, Table, kind_of}
use Rattle.model.specs.Definitions.Content.{Content, end, char, elem}
use Rattle.model.specs.Definitions.Embedding.{target_of, paths_of, first_path, divide, Divided, before_choice}
use Rattle.model.specs.Definitions.Image.{Setting}
use Rattle.model.specs.Definitions.Inverse.{follow}

-- ---- one source element; `at` follows a path from its image, `read` reads an element of a type from what it holds

-- an element of type m, read from what stands for it, before the rest
unfoldable pub plain_one : (ℕ → Content → Option Content) → ℕ → Option Content → Option Content → Option Content
plain_one read m found rest = and_then found (λ k. and_then (read m k) (λ inside. and_then rest (λ r. some (elem m inside r))))

unfoldable pub plain_members : (ℕ → Content → Option Content) → (List ℕ → Option Content) → List ℕ → List (List ℕ) → Option Content
plain_members read at [] ps = some end
plain_members read at (m ∷ ms) [] = none
plain_members read at (m ∷ ms) (p ∷ ps) = plain_one read m (at p) (plain_members read at ms ps)

-- the member whose path is there, or what the later members give
unfoldable pub plain_if_there : (ℕ → Content → Option Content) → ℕ → Option Content → Option Content → Option Content
plain_if_there read m none later = later
plain_if_there read m (some k) later = plain_one read m (some k) (some end)

unfoldable pub plain_choice : (ℕ → Content → Option Content) → (List ℕ → Option Content) → List ℕ → List (List ℕ) → Option Content
plain_choice read at [] ps = none
plain_choice read at (m ∷ ms) [] = none
plain_choice read at (m ∷ ms) (p ∷ ps) =
    let later = plain_choice read at ms ps in
    plain_if_there read m (at p) later

-- 02, N3: nothing where an empty element was found, else what the members give
unfoldable pub plain_unless_empty : Option Content → Option Content → Option Content
plain_unless_empty none member = member
plain_unless_empty (some end) member = some end
plain_unless_empty (some (char c r)) member = member
plain_unless_empty (some (elem t k r)) member = member

-- an item for each item of the target list; `beyond` follows the rest of the path
unfoldable pub plain_items : (ℕ → Content → Option Content) → (Content → Option Content) → ℕ → Content → Option Content
plain_items read beyond m end = some end
plain_items read beyond m (char c r) = none
plain_items read beyond m (elem t k r) = plain_one read m (beyond k) (plain_items read beyond m r)

unfoldable pub plain_list : (ℕ → Content → Option Content) → Table → ℕ → Divided → ℕ → Content → Option Content
plain_list read T τ d m k = and_then (follow T τ d.before k) (λ items. plain_items read (follow T d.item d.rest) m items)

unfoldable pub plain_kind : (ℕ → Content → Option Content) → Table → Kind → ℕ → List (List ℕ) → Content → Option Content
plain_kind read T text τ ps k = follow T τ (first_path ps) k
plain_kind read T empty τ ps k = some end
plain_kind read T (sequence ms) τ ps k = plain_members read (λ p. follow T τ p k) ms ps
plain_kind read T (choice needed ms) τ ps k = plain_choice read (λ p. follow T τ p k) ms ps
plain_kind read T (choice optional ms) τ ps k = plain_unless_empty (follow T τ (before_choice T τ (first_path ps)) k) (plain_choice read (λ p. follow T τ p k) ms ps)
plain_kind read T (list m) τ ps k = plain_list read T τ (divide T τ (first_path ps)) m k

-- what a source element of type s holds, read from k, which its image holds; n bounds the levels of k
unfoldable pub plain_to : Setting → ℕ → ℕ → Content → Option Content
plain_to X zero s k = none
plain_to X (suc n) s k =
    plain_kind (λ t inside. plain_to X n t inside) X.target (kind_of X.source s) (target_of X.embedding s) (paths_of X.embedding s) k
