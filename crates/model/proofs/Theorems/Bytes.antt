-- Bytes and commands: cutting bytes into commands loses nothing, and the commands of a document determine its bytes. All is said once,
-- for any kind of document of which a `Spelling` is given; `Spellings` has those of the three kinds.
use Rattle.std.specs.Prelude.{◌≡◌, Bool, true, false, ◌⊎◌, ℕ, ◌+◌, length, take}
use Rattle.std.proofs.Math.Path.{refl, ap, ap₂}
use Rattle.std.proofs.Common.{◌∙◌, inl, inr, take_at}
use mathlib.Core.List.{List, [], ◌∷◌, ◌++◌, map, append_assoc, append-nil}
use Rattle.std.proofs.Math.ListN.{length-append}
use Rattle.model.specs.Definitions.Basics.{Next, goes, stops, followed, reach}
use Rattle.model.specs.Definitions.Commands.{Command, bare, paired, cut, takes_operand, last_command, first_command, commands}
use Rattle.model.proofs.Theorems.Runs.{goes_stops, width_of}

-- ---- all kinds of document

-- the bytes that a command was cut from
unfoldable pub raw_of : Command → List ℕ
raw_of (bare b) = b ∷ []
raw_of (paired b t) = b ∷ t ∷ []
raw_of (cut b) = b ∷ []

unfoldable pub raw : List Command → List ℕ
raw [] = []
raw (d ∷ ds) = raw_of d ++ raw ds

-- cutting bytes into commands loses nothing
pub commands_lossless : (bs : List ℕ) → raw (commands bs) ≡ bs
unfolding commands raw raw_of last_command first_command
commands_lossless [] = refl
commands_lossless (b ∷ []) = go (takes_operand b)
  where
    go : (operand : Bool) → raw (last_command operand b ∷ []) ≡ b ∷ []
    go true = refl
    go false = refl
commands_lossless (b ∷ t ∷ rest) = go (takes_operand b) (commands_lossless rest) (commands_lossless (t ∷ rest))
  where
    go : (operand : Bool) → raw (commands rest) ≡ rest → raw (commands (t ∷ rest)) ≡ t ∷ rest
        → raw (first_command operand b t (commands rest) (commands (t ∷ rest))) ≡ b ∷ t ∷ rest
    go true both one = ap (λ (l : List ℕ). b ∷ t ∷ l) both
    go false both one = ap (λ (l : List ℕ). b ∷ l) one

-- a byte without operand is a command of its own, whatever follows
pub bare_first : (b : ℕ) (rest : List ℕ) → takes_operand b ≡ false → commands (b ∷ rest) ≡ bare b ∷ commands rest
unfolding commands first_command last_command
bare_first b [] e = rw e
bare_first b (t ∷ rest) e = rw e

-- ---- a kind of document

-- How the commands of a kind of document are written: `spell` gives the bytes of each, as many as it is wide, which are cut into that
-- command again, whatever follows. What is `alien` is no command of the kind, and is written as a byte that is none; every other
-- command has the bytes that it was cut from.
pub record Spelling {C : Type 0} (classify : Command → C) (width : C → ℕ) (spell : C → List ℕ) (alien : C) : Type 0 where
  pub first : (c : C) (rest : List ℕ) → map classify (commands (spell c ++ rest)) ≡ c ∷ map classify (commands rest)
  pub as_wide : (c : C) → length (spell c) ≡ width c
  pub told : (d : Command) → (classify d ≡ alien) ⊎ (spell (classify d) ≡ raw_of d)
  pub cut_alien : (b : ℕ) → classify (cut b) ≡ alien

-- the bytes of commands
unfoldable pub encode_by : {C : Type 0} → (C → List ℕ) → List C → List ℕ
encode_by spell [] = []
encode_by spell (c ∷ cs) = spell c ++ encode_by spell cs

pub encode-append : {C : Type 0} (spell : C → List ℕ) (xs ys : List C) → encode_by spell (xs ++ ys) ≡ encode_by spell xs ++ encode_by spell ys
unfolding encode_by
encode-append spell [] ys = refl
encode-append spell (c ∷ xs) ys = rw (encode-append spell xs ys, append_assoc)

module _ {C : Type 0} {classify : Command → C} {width : C → ℕ} {spell : C → List ℕ} {alien : C} (sp : Spelling classify width spell alien) where
  pub length_encode : (cs : List C) → length (encode_by spell cs) ≡ width_of width cs
  unfolding encode_by width_of
  length_encode [] = refl
  length_encode (c ∷ cs) = length-append (spell c) (encode_by spell cs) ∙ ap₂ (λ (a b : ℕ). a + b) (sp.as_wide c) (length_encode cs)

  -- so the bytes of the first commands are found by their width
  pub take_encode : (xs ys : List C) → take (width_of width xs) (encode_by spell (xs ++ ys)) ≡ encode_by spell xs
  take_encode xs ys = rw (encode-append spell xs ys) (take_at (encode_by spell xs) (encode_by spell ys) (width_of width xs) (length_encode xs))

  -- bytes that commands were written to are cut into these commands again, whatever follows
  pub encode_first : (cs : List C) (rest : List ℕ) → map classify (commands (encode_by spell cs ++ rest)) ≡ cs ++ map classify (commands rest)
  unfolding encode_by
  encode_first [] rest = refl
  encode_first (c ∷ cs) rest =
      ap (λ (bs : List ℕ). map classify (commands bs)) (append_assoc (spell c) (encode_by spell cs) rest)
      ∙ sp.first c (encode_by spell cs ++ rest)
      ∙ ap (λ (l : List C). c ∷ l) (encode_first cs rest)

  pub commands_encode : (cs : List C) → map classify (commands (encode_by spell cs)) ≡ cs
  unfolding commands
  commands_encode cs = simp append-nil at (encode_first cs [])

  -- a command that a machine takes, where it takes nothing alien, has the bytes that it was cut from
  pub taken_told : {S : Type 0} (step : S → C → Next S) → ((s : S) → step s alien ≡ stops) → (d : Command) {s next : S} → step s (classify d) ≡ goes next
      → spell (classify d) ≡ raw_of d
  taken_told step alien-stops d {s} {next} e = go (sp.told d)
    where
      go : (classify d ≡ alien) ⊎ (spell (classify d) ≡ raw_of d) → spell (classify d) ≡ raw_of d
      go (inl is) = goes_stops e (ap (step s) is ∙ alien-stops s)
      go (inr same) = same

  -- so where a machine takes all commands, they determine the bytes
  pub encode_taken : {S : Type 0} (step : S → C → Next S) → ((s : S) → step s alien ≡ stops) → (s : S) (ds : List Command) {last : S}
      → reach step s (map classify ds) ≡ goes last → encode_by spell (map classify ds) ≡ raw ds
  unfolding encode_by raw reach followed
  encode_taken step alien-stops s [] e = refl
  encode_taken {S} step alien-stops s (d ∷ ds) {last} e = go (step s (classify d)) refl (λ next. encode_taken step alien-stops next ds)
    where
      go : (n : Next S) → step s (classify d) ≡ n → ((next : S) → reach step next (map classify ds) ≡ goes last → encode_by spell (map classify ds) ≡ raw ds)
          → spell (classify d) ++ encode_by spell (map classify ds) ≡ raw_of d ++ raw ds
      go (goes next) q later = ap₂ (λ (xs ys : List ℕ). xs ++ ys) (taken_told step alien-stops d q) (later next (rw q at e))
      go stops q later = goes_stops e (rw q)

  pub encode_commands : {S : Type 0} (step : S → C → Next S) → ((s : S) → step s alien ≡ stops) → (s : S) (bs : List ℕ) {last : S}
      → reach step s (map classify (commands bs)) ≡ goes last → encode_by spell (map classify (commands bs)) ≡ bs
  encode_commands step alien-stops s bs e = encode_taken step alien-stops s (commands bs) e ∙ commands_lossless bs
