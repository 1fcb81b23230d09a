-- Facts of the model on the symbols of rows, in the form in which they are used here.
use Rattle.std.specs.Prelude.{◌≡◌, refl, ℕ, ◌<◌, length}
use Rattle.std.proofs.Common.{sym, subst}
use mathlib.Core.List.{List, [], ◌∷◌, map, Memᴰ}
use Rattle.std.proofs.Math.Option.{Option}
use Rattle.model.specs.Definitions.Table.{Kind, list, Table, kind_of}
use Rattle.model.specs.Definitions.Heights.{heights}
use Rattle.model.specs.Definitions.Image.{Setting}
use Rattle.model.specs.Definitions.Templates.{Hole, Symbol, opening, closing, filler, hole, template, item_template, filler_row}
use Rattle.model.proofs.Theorems.Facts.{SoundTable, Valid, All, all_none, all_more}
use Rattle.model.proofs.Theorems.FillerLaws.{filled}
use Rattle.model.proofs.Theorems.TemplateShapes.{HoleIn, HoleOfItem}
use Rattle.model.proofs.Theorems.Templates.{TypeBelow, HoleOf, ItemHole, template_holes, template_types, item_holes, item_types, filler_row_of, filler_members}

-- a symbol of a row over target table T whose holes are of some kind
abbrev pub Allowed : Table → (Hole → Type 0) → Symbol → Type 0
Allowed T Ok (opening t) = Unit {0}
Allowed T Ok closing = Unit {0}
Allowed T Ok (filler t) = t < length T
Allowed T Ok (hole h) = Ok h

-- a filler element
abbrev pub OfFiller : Table → Symbol → Type 0
OfFiller T (opening t) = ⊥
OfFiller T closing = ⊥
OfFiller T (filler t) = t < length T
OfFiller T (hole h) = ⊥

-- two facts of each element of a list give a third
all_both : {A : Type 0} {P Q R : A → Type 0} → ((a : A) → P a → Q a → R a) → {xs : List A} → All P xs → All Q xs → All R xs
all_both f all_none all_none = all_none
all_both f (all_more p ps) (all_more q qs) = all_more (f _ p q) (all_both f ps qs)

own_allowed : (T : Table) (κ : Kind) (first : Option ℕ) (y : Symbol) → HoleOf κ first y → TypeBelow (length T) y → Allowed T (HoleIn κ first) y
own_allowed T κ first (opening t) h b = tt
own_allowed T κ first closing h b = tt
own_allowed T κ first (filler t) h b = b
own_allowed T κ first (hole i) h b = h

item_allowed : (T : Table) (y : Symbol) → ItemHole y → TypeBelow (length T) y → Allowed T HoleOfItem y
item_allowed T (opening t) h b = tt
item_allowed T closing h b = tt
item_allowed T (filler t) h b = b
item_allowed T (hole i) h b = h

-- the symbols of a template, and of an item's row
pub template_symbols : (X : Setting) → Valid X → (s : ℕ) (t : Option ℕ) → s < length X.source → All (Allowed X.target (HoleIn (kind_of X.source s) t)) (template X s t)
template_symbols X valid s t exists =
    all_both (own_allowed X.target (kind_of X.source s) t) (template_holes X valid s t exists) (template_types X valid s t exists)

pub item_symbols : (X : Setting) → Valid X → (s m : ℕ) → s < length X.source → kind_of X.source s ≡ list m → All (Allowed X.target HoleOfItem) (item_template X s)
item_symbols X valid s m exists e = all_both (item_allowed X.target) (item_holes X valid s m exists e) (item_types X valid s m exists e)

-- the symbols of a row of filler
all_filler : (T : Table) (ms : List ℕ) → ((m : ℕ) → Memᴰ m ms → m < length T) → All (OfFiller T) (map filler ms)
all_filler T [] exist = all_none
all_filler T (m ∷ ms) exist = all_more (exist m (Memᴰ.head refl)) (all_filler T ms (λ n here. exist n (Memᴰ.tail here)))

pub filler_symbols : (T : Table) → SoundTable T → (t : ℕ) → t < length T → All (OfFiller T) (filler_row T t)
filler_symbols T sound t exists =
    subst (All (OfFiller T)) (sym (filler_row_of T sound t exists)) (all_filler T (filled (heights T) (kind_of T t)) (λ m here. (filler_members T sound t exists m here).0))
