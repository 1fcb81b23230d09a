-- The loop of `read_to`: one child a turn.
use mathlib.Core.Path.{◌≡◌, refl, sym, ap, ◌∙◌}
use mathlib.Core.List.{List}
use mathlib.Core.Option.{Option, some}
use Prim.Native.Nat.{ℕ, ◌+◌, ◌-◌, ◌≤◌, ◌<◌}
use native.Mathlib.Omega.{arith}
use lib.ListN.{length, get_or}
use Rattle.std.specs.Prelude.{Some, None, Result, Ok, Err}
use Rattle.std.specs.Result.{result_ok}
use Rattle.std.proofs.lemmas.Option.{none-some, same_Some}
use Rattle.model.specs.Definitions.Content.{Content, bytes}
use Rattle.model.specs.Definitions.Image.{Setting}
use Rattle.model.specs.Definitions.Inverse.{Located, located, Parts, done, broken, child_parts}
use Rattle.model.proofs.Theorems.ReadsPlain.{plain_then, plain_parts}
use Rattle.model.proofs.Theorems.Tools.{some_none}
use Rattle.loaded_table.specs.Loaded.{types_in, kinds_of}
use Rattle.loaded_setting.specs.Ready.{setting_in, Ready}
use Rattle.scanning.specs.Scanning.{ContentAt}
use Rattle.writing.specs.Laws.{writes-length}
use Rattle.children.specs.declared.Cursor.{Cursor}
use Rattle.children.specs.Cursors.{Shows, cursor_weight, GivesOne}
use Rattle.inverse.specs.Reading.{read_as, element_of, ReadsTo}
use Rattle.inverse.proofs.Joining.{Onto, onto_start, onto_missing, onto_done, child_refused, child_written}
use Rattle.inverse.proofs.ByKind.{read_children_lem}

-- what `ok` leaves of a Result tells the Result
pub ok_value : {T E : Type 0} (r : Result T E) (x : T) → Some x ≡ result_ok r → r ≡ Ok x
ok_value (Ok y) x e = ap Ok (same_Some y x (sym e))
ok_value (Err d) x e = absurd (none-some x (sym e))

pub ok_none : {T E : Type 0} (r : Result T E) → None ≡ result_ok r → (d : E) × (r ≡ Err d)
ok_none (Ok y) e = absurd (none-some y e)
ok_none (Err d) e = (d, refl)

-- what a child of source type m is read as
abbrev child_read : List ℕ → List ℕ → List ℕ → List ℕ → ℕ → ℕ → Located → Option Content
child_read source target map em depth m l = read_as (setting_in source target map em) (depth - 1) m l

-- the children that are left, where the image holds k
pub record ChildrenLeft (source target map em : List ℕ) (σ : ℕ) (tr : List ℕ) (depth : ℕ) (l : Located) (old : List ℕ) (at₀ : ℕ) (out : List ℕ) (to : ℕ) (cursor : Cursor) : Type 0 where
  pub parts : Parts
  pub shows : Shows source target map em σ tr l cursor parts
  pub onto : Onto old at₀ (read_as (setting_in source target map em) depth σ l) out to (plain_parts (child_read source target map em depth) parts)

-- the loop's invariant
pub record Reading (source target map em : List ℕ) (σ : ℕ) (tr : List ℕ) (from depth : ℕ) (old : List ℕ) (at₀ : ℕ) (out : List ℕ) (to : ℕ) (cursor : Cursor) : Type 0 where
  pub long : length out ≡ length old
  pub fits : to ≤ length out
  pub here : (k : Content) × ContentAt tr from k
  pub left : (k : Content) → ContentAt tr from k → ChildrenLeft source target map em σ tr depth (located from k) old at₀ out to cursor

-- no child is read yet
pub reading_start : {source target map em : List ℕ} (ready : Ready source target map em) {σ : ℕ} (exists : σ < types_in source) {tr : List ℕ} {from depth : ℕ} {old : List ℕ} {at₀ : ℕ} {cursor : Cursor}
    → (depth ≡ 0 → ⊥) → (get_or (kinds_of source) σ 0 ≡ 0 → ⊥) → at₀ ≤ length old → ((k : Content) × ContentAt tr from k)
    → ((k : Content) → ContentAt tr from k → Shows source target map em σ tr (located from k) cursor (child_parts (setting_in source target map em) σ (located from k)))
    → Reading source target map em σ tr from depth old at₀ old at₀ cursor
reading_start {source} {target} {map} {em} ready {σ} exists {from = from} {depth} {old} {at₀} some_level other room here begins =
    record {
      long = refl;
      fits = room;
      here = here;
      left = λ k a.
          record {
            parts = child_parts (setting_in source target map em) σ (located from k);
            shows = begins k a;
            onto = onto_start old at₀ _ _ (read_children_lem ready exists depth some_level other (located from k));
          };
    }

-- or one can't be begun with
pub reading_broken : {source target map em : List ℕ} (ready : Ready source target map em) {σ : ℕ} (exists : σ < types_in source) {tr : List ℕ} {from depth : ℕ} (old : List ℕ) (at₀ : ℕ)
    → (depth ≡ 0 → ⊥) → (get_or (kinds_of source) σ 0 ≡ 0 → ⊥)
    → ((k : Content) → ContentAt tr from k → child_parts (setting_in source target map em) σ (located from k) ≡ broken)
    → (k : Content) → ContentAt tr from k → (j : Content) → read_as (setting_in source target map em) depth σ (located from k) ≡ some j → length old < at₀ + length (bytes j)
unfolding plain_parts
reading_broken {source} {target} {map} {em} ready exists {from = from} {depth} old at₀ some_level other gone k a j e =
    some_none e (read_children_lem ready exists depth some_level other (located from k) ∙ ap (plain_parts (child_read source target map em depth)) (gone k a))

module _ {source target map em : List ℕ} {σ : ℕ} {tr : List ℕ} {from depth : ℕ} {old : List ℕ} {at₀ : ℕ} {out : List ℕ} {to : ℕ} {cursor : Cursor}
    (now : Reading source target map em σ tr from depth old at₀ out to cursor) where
  abbrev X : Setting
  X = setting_in source target map em

  -- what the call of `next` needs
  pub turn_shows : (k : Content) × (parts : Parts) × ContentAt tr from k × Shows source target map em σ tr (located from k) cursor parts
  turn_shows =
      let l = now.left now.here.0 now.here.1 in
      (now.here.0, l.parts, now.here.1, l.shows)

  -- no child is left
  pub turn_done : ((k : Content) (parts : Parts) → ContentAt tr from k → Shows source target map em σ tr (located from k) cursor parts → parts ≡ done)
      → (k : Content) → ContentAt tr from k → ReadsTo old out at₀ to (read_as X depth σ (located from k))
  unfolding plain_parts
  turn_done gives k a =
      let l = now.left k a in
      onto_done l.onto (ap (plain_parts (child_read source target map em depth)) (gives k l.parts a l.shows)) (omega (arith, now.long, now.fits))

  -- one is missing
  pub turn_broken : ((k : Content) (parts : Parts) → ContentAt tr from k → Shows source target map em σ tr (located from k) cursor parts → parts ≡ broken)
      → (k : Content) → ContentAt tr from k → (j : Content) → read_as X depth σ (located from k) ≡ some j → length old < at₀ + length (bytes j)
  unfolding plain_parts
  turn_broken gives k a =
      let l = now.left k a in
      onto_missing l.onto (ap (plain_parts (child_read source target map em depth)) (gives k l.parts a l.shows))

  module _ {m o : ℕ} {then : Cursor}
      (gives : (k : Content) (parts : Parts) → ContentAt tr from k → Shows source target map em σ tr (located from k) cursor parts → GivesOne source target map em σ tr (located from k) (cursor_weight tr cursor) m o then parts) where
    one : (k : Content) (a : ContentAt tr from k) → GivesOne source target map em σ tr (located from k) (cursor_weight tr cursor) m o then (now.left k a).parts
    one k a = gives k (now.left k a).parts a (now.left k a).shows

    onto-one : (k : Content) (a : ContentAt tr from k)
        → Onto old at₀ (read_as X depth σ (located from k)) out to (plain_then m (child_read source target map em depth m (located o (one k a).inside)) (plain_parts (child_read source target map em depth) (one k a).rest))
    unfolding plain_parts
    onto-one k a = rw (one k a).is at (now.left k a).onto

    -- what the call for the child needs, and that the children left get fewer
    pub turn_inside : (m < types_in source) × ((j : Content) × ContentAt tr o j)
    turn_inside = let g = one now.here.0 now.here.1 in (g.is_type, (g.inside, g.there))

    pub turn-less : cursor_weight tr then < cursor_weight tr cursor
    turn-less = (one now.here.0 now.here.1).less

    -- the child is missing or doesn't fit
    pub turn-refused : ((j : Content) → ContentAt tr o j → (i : Content) → element_of m (read_as X (depth - 1) m (located o j)) ≡ some i → length out < to + length (bytes i))
        → (k : Content) → ContentAt tr from k → (j : Content) → read_as X depth σ (located from k) ≡ some j → length old < at₀ + length (bytes j)
    turn-refused short k a =
        child_refused m _ _ (onto-one k a) (λ i e. omega (arith, short (one k a).inside (one k a).there i e, now.long))

    module _ {out₁ : List ℕ} {at₁ : ℕ} (child : (j : Content) → ContentAt tr o j → ReadsTo out out₁ to at₁ (element_of m (read_as X (depth - 1) m (located o j)))) where
      -- it is read
      pub turn_on : Reading source target map em σ tr from depth old at₀ out₁ at₁ then
      turn_on =
          let first = one now.here.0 now.here.1 in
          let read = child first.inside first.there in
          record {
            long = writes-length read.written ∙ now.long;
            fits = omega (arith, read.fits, writes-length read.written);
            here = now.here;
            left = λ k a.
                let g = one k a in
                record {
                  parts = g.rest;
                  shows = g.on;
                  onto = child_written m _ _ (onto-one k a) (child g.inside g.there);
                };
          }
