-- The number of elements of a tree document, by its commands.
use Rattle.std.specs.Prelude.{List, [], ◌∷◌, ℕ, suc}
use Rattle.model.specs.Definitions.Commands.{TreeCommand, opens, character, closes, tree_end, alien_t}

-- the number of commands that open an element, up to the first alien one
unfoldable pub opens_in : List TreeCommand → ℕ
opens_in [] = 0
opens_in (opens t ∷ cs) = suc (opens_in cs)
opens_in (character c ∷ cs) = opens_in cs
opens_in (closes ∷ cs) = opens_in cs
opens_in (tree_end ∷ cs) = opens_in cs
opens_in (alien_t ∷ cs) = 0

-- the number of elements that a command opens
abbrev pub opened : TreeCommand → ℕ
opened (opens t) = 1
opened (character c) = 0
opened closes = 0
opened tree_end = 0
opened alien_t = 0
