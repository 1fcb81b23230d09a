-- The next item of a list.
use mathlib.Core.Path.{◌≡◌, refl, sym, ap, ◌∙◌}
use mathlib.Core.List.{List}
use mathlib.Core.Option.{Option, none}
use Prim.Native.Nat.{ℕ, ◌+◌, ◌-◌, ◌<◌}
use native.Mathlib.Omega.{arith}
use lib.ListN.{length, get_or}
use Rattle.model.specs.Definitions.Content.{Content, bytes}
use Rattle.model.specs.Definitions.Inverse.{Located, located, follow_at, Parts, done, broken, part_of, item_parts}
use Rattle.loaded_table.specs.Loaded.{table_by}
use Rattle.loaded_embedding.specs.Loaded.{steps_from}
use Rattle.scanning.specs.Scanning.{ContentAt}
use Rattle.scanning.specs.Finding.{FoundContent}
use Rattle.scanning.specs.Laws.{content_within, OpensElement, opens, opens_next, letters, ends}
use Rattle.children.specs.declared.Rest.{Rest}
use Rattle.children.specs.declared.Cursor.TheVariants as cursor
use Rattle.children.specs.Cursors.{LeftItems, GivesOne}
use Rattle.children.proofs.Finding.{part_none, part_some}

module _ {source target em tr : List ℕ} {r : Rest} {parts : Parts} (now : LeftItems source target em tr r parts) where
  abbrev G : Located → Option Located
  G = follow_at (table_by target) r.item (steps_from em (r.start + 2) r.steps)

  pub items_within : r.at < length tr
  items_within = omega (arith, content_within now.there)

  -- 31: a character is no item
  pub items_letter : get_or tr r.at 0 ≡ 0x31 → parts ≡ broken
  unfolding item_parts
  items_letter first = now.are ∙ ap (item_parts G r.child r.at) (letters now.items now.there first).is

  -- 32: no item is left
  pub items_done : (get_or tr r.at 0 ≡ 0x30 → ⊥) → (get_or tr r.at 0 ≡ 0x31 → ⊥) → parts ≡ done
  unfolding item_parts
  items_done other another = now.are ∙ ap (item_parts G r.child r.at) (ends now.items now.there other another)

  module _ (first : get_or tr r.at 0 ≡ 0x30) where
    abbrev o : OpensElement tr r.at now.items now.there.rest
    o = opens now.items now.there first

    pub items-inside : (r.at + 1 < length tr) × ((j : Content) × ContentAt tr (r.at + 2) j)
    items-inside = (o.two, (o.inside, o.within))

    item-here : parts ≡ part_of r.child (G (located (r.at + 2) o.inside)) (item_parts G r.child (r.at + 2 + length (bytes o.inside) + 1) o.next)
    unfolding item_parts
    item-here = now.are ∙ ap (item_parts G r.child r.at) o.is

    pub items-broken : ((j : Content) → ContentAt tr (r.at + 2) j → G (located (r.at + 2) j) ≡ none) → parts ≡ broken
    items-broken miss = item-here ∙ part_none _ _ (miss o.inside o.within)

    module _ (close : ℕ) (skips : (j : Content) → ContentAt tr (r.at + 2) j → close ≡ r.at + 2 + length (bytes j)) where
      pub items-close : close < length tr
      items-close = omega (arith, skips o.inside o.within, content_within o.within)

      pub items-one : {q : ℕ} → ((j : Content) → ContentAt tr (r.at + 2) j → FoundContent tr q (G (located (r.at + 2) j))) → (map : List ℕ) (σ : ℕ) (l : Located)
          → GivesOne source target map em σ tr l (1 + (length tr - r.at)) r.child q (cursor.Items (record { at = close + 1; item = r.item; start = r.start; steps = r.steps; child = r.child })) parts
      items-one {q} goes map σ l =
          let found = goes o.inside o.within in
          let place : r.at + 2 + length (bytes o.inside) ≡ close = sym (skips o.inside o.within) in
          record {
            inside = found.content;
            rest = item_parts G r.child (close + 1) o.next;
            is = rw place at (item-here ∙ part_some _ _ (located q found.content) found.is);
            there = found.there;
            on =
                record {
                  items = o.next;
                  there = rw place at (opens_next o);
                  child_type = now.child_type;
                  followable = now.followable;
                  are = refl;
                };
            less = omega (arith, skips o.inside o.within, items-close, items_within);
            is_type = now.child_type;
          }
