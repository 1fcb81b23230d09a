-- `type_ahead` meets its contract: the first byte tells whether an element opens, the second its type.
use mathlib.Core.Path.{◌≡◌, refl, sym, ap, ◌∙◌}
use mathlib.Core.List.{List}
use mathlib.Core.Option.{none, some}
use Prim.Native.Nat.{ℕ, ◌+◌}
use native.Mathlib.Omega.{arith}
use lib.ListN.{get_or}
use Rattle.model.specs.Definitions.Content.{Content, end, char, elem}
use Rattle.scanning.specs.Scanning.{ContentAt}
use Rattle.scanning.specs.Laws.{content_within, element_first, opens}
use Rattle.measuring.specs.Measured.{type_ahead}
use Rattle.measuring.proofs.type_ahead.Goals as goal

module _ {tr : List ℕ} {from : ℕ} where
  ahead-opens : (k : Content) → ContentAt tr from k → get_or tr from 0 ≡ 0x30 → some (get_or tr (from + 1) 0) ≡ type_ahead k
  unfolding type_ahead
  ahead-opens k a first =
      let o = opens k a first in
      ap some o.named ∙ sym (ap type_ahead o.is)

  ahead_none : (k : Content) → ContentAt tr from k → (get_or tr from 0 ≡ 0x30 → ⊥) → type_ahead k ≡ none
  unfolding type_ahead
  ahead_none end a other = refl
  ahead_none (char c r) a other = refl
  ahead_none (elem t k r) a other = absurd (other (element_first a))

pub bounds-tr-from : goal.bounds-tr-from
bounds-tr-from c = omega (arith, content_within c.requires.1)

pub overflow_add-from : goal.overflow_add-from
overflow_add-from c = omega (arith, (opens c.requires.0 c.requires.1 c.if-tr-from-eq-OPENS.true).two)

pub bounds-tr-from-then-tr-from-eq-OPENS : goal.bounds-tr-from-then-tr-from-eq-OPENS
bounds-tr-from-then-tr-from-eq-OPENS c = (opens c.requires.0 c.requires.1 c.if-tr-from-eq-OPENS.true).two

pub returns-then-tr-from-eq-OPENS : goal.returns-then-tr-from-eq-OPENS
returns-then-tr-from-eq-OPENS c = λ k a. ap some c.from.ensures ∙ ahead-opens k a c.if-tr-from-eq-OPENS.true

pub returns : goal.returns
returns c = λ k a. sym (ahead_none k a c.if-tr-from-eq-OPENS.false)
