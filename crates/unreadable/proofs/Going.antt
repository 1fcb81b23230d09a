-- A loop over the children of an element: something holds of the children that are left, whatever content stands there.
use mathlib.Core.Path.{◌≡◌, subst}
use mathlib.Core.List.{List}
use Prim.Native.Nat.{ℕ, ◌<◌}
use Rattle.model.specs.Definitions.Content.{Content}
use Rattle.model.specs.Definitions.Inverse.{Located, located, Parts, part, child_parts}
use Rattle.loaded_table.specs.Loaded.{types_in}
use Rattle.loaded_setting.specs.Ready.{setting_in}
use Rattle.scanning.specs.Scanning.{ContentAt}
use Rattle.children.specs.declared.Cursor.{Cursor}
use Rattle.children.specs.Cursors.{Shows, cursor_weight, GivesOne}

-- the children that are left, of which P holds
pub record Left (source target map em : List ℕ) (σ : ℕ) (tr : List ℕ) (P : Located → Parts → Type 0) (l : Located) (cursor : Cursor) : Type 0 where
  pub parts : Parts
  pub shows : Shows source target map em σ tr l cursor parts
  pub holds : P l parts

-- the loop's invariant
pub record Going (source target map em : List ℕ) (σ : ℕ) (tr : List ℕ) (from : ℕ) (P : Located → Parts → Type 0) (cursor : Cursor) : Type 0 where
  pub here : (k : Content) × ContentAt tr from k
  pub left : (k : Content) → ContentAt tr from k → Left source target map em σ tr P (located from k) cursor

-- at first all are left
pub going_start : {source target map em : List ℕ} {σ : ℕ} {tr : List ℕ} {from : ℕ} (P : Located → Parts → Type 0) {cursor : Cursor}
    → ((k : Content) × ContentAt tr from k)
    → ((k : Content) → ContentAt tr from k → Shows source target map em σ tr (located from k) cursor (child_parts (setting_in source target map em) σ (located from k)))
    → ((k : Content) → ContentAt tr from k → P (located from k) (child_parts (setting_in source target map em) σ (located from k)))
    → Going source target map em σ tr from P cursor
going_start P here begins holds = record { here = here; left = λ k a. record { parts = _; shows = begins k a; holds = holds k a } }

module _ {source target map em : List ℕ} {σ : ℕ} {tr : List ℕ} {from : ℕ} {P : Located → Parts → Type 0} {cursor : Cursor} (now : Going source target map em σ tr from P cursor) where
  -- what the call of `next` needs
  pub going_shows : (k : Content) × (parts : Parts) × ContentAt tr from k × Shows source target map em σ tr (located from k) cursor parts
  going_shows = let l = now.left now.here.0 now.here.1 in (now.here.0, l.parts, now.here.1, l.shows)

  -- what is known of the children left holds of what they are
  pub going_ends : {last : Parts} → ((k : Content) (parts : Parts) → ContentAt tr from k → Shows source target map em σ tr (located from k) cursor parts → parts ≡ last)
      → (k : Content) → ContentAt tr from k → P (located from k) last
  going_ends gives k a = let l = now.left k a in subst (P (located from k)) (gives k l.parts a l.shows) l.holds

  module _ {m o : ℕ} {then : Cursor}
      (gives : (k : Content) (parts : Parts) → ContentAt tr from k → Shows source target map em σ tr (located from k) cursor parts → GivesOne source target map em σ tr (located from k) (cursor_weight tr cursor) m o then parts) where
    -- the next child
    pub going-one : (k : Content) (a : ContentAt tr from k) → GivesOne source target map em σ tr (located from k) (cursor_weight tr cursor) m o then (now.left k a).parts
    going-one k a = gives k (now.left k a).parts a (now.left k a).shows

    -- P holds of it and those after it
    pub going-holds : (k : Content) (a : ContentAt tr from k) → P (located from k) (part m (located o (going-one k a).inside) (going-one k a).rest)
    going-holds k a = subst (P (located from k)) (going-one k a).is (now.left k a).holds

    -- what a call for the child needs, and that the children left get fewer
    pub going-inside : (m < types_in source) × ((j : Content) × ContentAt tr o j)
    going-inside = let g = going-one now.here.0 now.here.1 in (g.is_type, (g.inside, g.there))

    pub going_less : cursor_weight tr then < cursor_weight tr cursor
    going_less = (going-one now.here.0 now.here.1).less

    -- on to the children after it
    pub going_on : ((l : Located) (j : Content) (rest : Parts) → ContentAt tr o j → P l (part m (located o j) rest) → P l rest) → Going source target map em σ tr from P then
    going_on on =
        record {
          here = now.here;
          left = λ k a. let g = going-one k a in record { parts = g.rest; shows = g.on; holds = on (located from k) g.inside g.rest g.there (going-holds k a) };
        }
