-- How the commands of a tree, a table and an embedding are written (`Spelling` of `Bytes`).
use Rattle.std.specs.Prelude.{◌≡◌, refl, Bool, true, false, List, [], ◌∷◌, ◌++◌, map, ◌⊎◌, ℕ, length, eqb}
use Rattle.std.proofs.Common.{sym, ap, ◌∙◌, inl, inr, eqb-true}
use Rattle.model.specs.Definitions.Basics.{pick}
use Rattle.model.specs.Definitions.Commands.{Command, bare, paired, cut, takes_operand, first_command, commands, needed, optional, TableCommand, text_type, empty_type, sequence_type, choice_type, list_type, member, table_end, alien, table_command, table_width, EmbeddingCommand, maps_to, path, step, embedding_end, alien_e, embedding_command, embedding_width, TreeCommand, opens, character, closes, tree_end, alien_t, tree_command, tree_width}
use Rattle.model.proofs.Theorems.Bytes.{raw_of, bare_first, Spelling}

-- One byte more that is a command's: where b is the byte n, with which the bytes of c begin, the command is c, and else the one
-- before it, which was told already.
told_by : {C : Type 0} {alien d : C} {rest : List ℕ} (spell : C → List ℕ) (b n : ℕ) (c : C) → spell c ≡ n ∷ rest → (d ≡ alien) ⊎ (spell d ≡ b ∷ rest)
    → (pick (eqb b n) c d ≡ alien) ⊎ (spell (pick (eqb b n) c d) ≡ b ∷ rest)
unfolding pick
told_by {C} {alien} {d} {rest} spell b n c is other = go (eqb b n) refl
  where
    go : (same : Bool) → eqb b n ≡ same → (pick same c d ≡ alien) ⊎ (spell (pick same c d) ≡ b ∷ rest)
    go true q = inr (is ∙ ap (λ (m : ℕ). m ∷ rest) (sym (eqb-true b n q)))
    go false q = other

-- ---- a tree's commands

unfoldable pub tree_spelled : TreeCommand → List ℕ
tree_spelled (opens t) = 0x30 ∷ t ∷ []
tree_spelled (character c) = 0x31 ∷ c ∷ []
tree_spelled closes = 0x32 ∷ []
tree_spelled tree_end = 0x3F ∷ []
tree_spelled alien_t = 0 ∷ []

tree_first : (c : TreeCommand) (rest : List ℕ) → map tree_command (commands (tree_spelled c ++ rest)) ≡ c ∷ map tree_command (commands rest)
unfolding tree_spelled commands takes_operand first_command tree_command pick
tree_first (opens t) rest = refl
tree_first (character c) rest = refl
tree_first closes rest = rw (bare_first 0x32 rest refl)
tree_first tree_end rest = rw (bare_first 0x3F rest refl)
tree_first alien_t rest = rw (bare_first 0 rest refl)

tree_wide : (c : TreeCommand) → length (tree_spelled c) ≡ tree_width c
unfolding tree_spelled tree_width
tree_wide (opens t) = refl
tree_wide (character c) = refl
tree_wide closes = refl
tree_wide tree_end = refl
tree_wide alien_t = refl

tree_told : (d : Command) → (tree_command d ≡ alien_t) ⊎ (tree_spelled (tree_command d) ≡ raw_of d)
unfolding tree_command raw_of tree_spelled
tree_told (bare b) = told_by tree_spelled b 0x32 closes refl (told_by tree_spelled b 0x3F tree_end refl (inl refl))
tree_told (paired b t) = told_by tree_spelled b 0x30 (opens t) refl (told_by tree_spelled b 0x31 (character t) refl (inl refl))
tree_told (cut b) = inl refl

pub tree_spelling : Spelling tree_command tree_width tree_spelled alien_t
unfolding tree_command
tree_spelling = record { first = tree_first; as_wide = tree_wide; told = tree_told; cut_alien = λ b. refl }

-- ---- a table's commands

unfoldable pub table_spelled : TableCommand → List ℕ
table_spelled text_type = 0x10 ∷ []
table_spelled empty_type = 0x11 ∷ []
table_spelled sequence_type = 0x12 ∷ []
table_spelled (choice_type needed) = 0x13 ∷ []
table_spelled (choice_type optional) = 0x17 ∷ []
table_spelled (list_type t) = 0x14 ∷ t ∷ []
table_spelled (member t) = 0x15 ∷ t ∷ []
table_spelled table_end = 0x1F ∷ []
table_spelled alien = 0 ∷ []

table_first : (c : TableCommand) (rest : List ℕ) → map table_command (commands (table_spelled c ++ rest)) ≡ c ∷ map table_command (commands rest)
unfolding table_spelled commands takes_operand first_command table_command pick
table_first text_type rest = rw (bare_first 0x10 rest refl)
table_first empty_type rest = rw (bare_first 0x11 rest refl)
table_first sequence_type rest = rw (bare_first 0x12 rest refl)
table_first (choice_type needed) rest = rw (bare_first 0x13 rest refl)
table_first (choice_type optional) rest = rw (bare_first 0x17 rest refl)
table_first (list_type t) rest = refl
table_first (member t) rest = refl
table_first table_end rest = rw (bare_first 0x1F rest refl)
table_first alien rest = rw (bare_first 0 rest refl)

table_wide : (c : TableCommand) → length (table_spelled c) ≡ table_width c
unfolding table_spelled table_width
table_wide text_type = refl
table_wide empty_type = refl
table_wide sequence_type = refl
table_wide (choice_type needed) = refl
table_wide (choice_type optional) = refl
table_wide (list_type t) = refl
table_wide (member t) = refl
table_wide table_end = refl
table_wide alien = refl

table_told : (d : Command) → (table_command d ≡ alien) ⊎ (table_spelled (table_command d) ≡ raw_of d)
unfolding table_command raw_of table_spelled
table_told (bare b) =
    told_by table_spelled b 0x10 text_type refl
    (told_by table_spelled b 0x11 empty_type refl
    (told_by table_spelled b 0x12 sequence_type refl
    (told_by table_spelled b 0x13 (choice_type needed) refl
    (told_by table_spelled b 0x17 (choice_type optional) refl
    (told_by table_spelled b 0x1F table_end refl (inl refl))))))
table_told (paired b t) = told_by table_spelled b 0x14 (list_type t) refl (told_by table_spelled b 0x15 (member t) refl (inl refl))
table_told (cut b) = inl refl

pub table_spelling : Spelling table_command table_width table_spelled alien
unfolding table_command
table_spelling = record { first = table_first; as_wide = table_wide; told = table_told; cut_alien = λ b. refl }

-- ---- an embedding's commands

unfoldable pub embedding_spelled : EmbeddingCommand → List ℕ
embedding_spelled (maps_to t) = 0x20 ∷ t ∷ []
embedding_spelled path = 0x21 ∷ []
embedding_spelled (step p) = 0x22 ∷ p ∷ []
embedding_spelled embedding_end = 0x2F ∷ []
embedding_spelled alien_e = 0 ∷ []

embedding_first : (c : EmbeddingCommand) (rest : List ℕ) → map embedding_command (commands (embedding_spelled c ++ rest)) ≡ c ∷ map embedding_command (commands rest)
unfolding embedding_spelled commands takes_operand first_command embedding_command pick
embedding_first (maps_to t) rest = refl
embedding_first path rest = rw (bare_first 0x21 rest refl)
embedding_first (step p) rest = refl
embedding_first embedding_end rest = rw (bare_first 0x2F rest refl)
embedding_first alien_e rest = rw (bare_first 0 rest refl)

embedding_wide : (c : EmbeddingCommand) → length (embedding_spelled c) ≡ embedding_width c
unfolding embedding_spelled embedding_width
embedding_wide (maps_to t) = refl
embedding_wide path = refl
embedding_wide (step p) = refl
embedding_wide embedding_end = refl
embedding_wide alien_e = refl

embedding_told : (d : Command) → (embedding_command d ≡ alien_e) ⊎ (embedding_spelled (embedding_command d) ≡ raw_of d)
unfolding embedding_command raw_of embedding_spelled
embedding_told (bare b) = told_by embedding_spelled b 0x21 path refl (told_by embedding_spelled b 0x2F embedding_end refl (inl refl))
embedding_told (paired b t) = told_by embedding_spelled b 0x20 (maps_to t) refl (told_by embedding_spelled b 0x22 (step t) refl (inl refl))
embedding_told (cut b) = inl refl

pub embedding_spelling : Spelling embedding_command embedding_width embedding_spelled alien_e
unfolding embedding_command
embedding_spelling = record { first = embedding_first; as_wide = embedding_wide; told = embedding_told; cut_alien = λ b. refl }
