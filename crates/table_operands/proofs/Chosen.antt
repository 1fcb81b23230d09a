-- The members of a choice so far, as the flags that the code keeps: the order in which they came does not matter.
use mathlib.Core.Path.{◌≡◌, refl, sym, ap, ◌∙◌}
use mathlib.Core.Bool.{Bool, true, false, ◌||◌}
use mathlib.Core.Logic.{◌⊎◌, inl, inr}
use mathlib.Core.List.{List, [], ◌∷◌}
use Prim.Native.Nat.{ℕ, zero, suc, ◌+◌, ◌<◌}
use native.Mathlib.Omega.{arith}
use lib.ListN.{length, drop, get_or, set, replicate}
use lib.Seq.{get_or-set_same, get_or-set_other}
use lib.Dec.{eqb}
use borrow.Author.Tests.{eqb-true, eqb-false, ne_eqb, eq-eqb}
use Rattle.model.specs.Definitions.Basics.{Verdict, Next, goes, stops, goes_if, member_of, proceed, run}
use Rattle.model.specs.Definitions.Commands.{TableCommand, text_type, empty_type, sequence_type, choice_type, list_type, member, table_end, alien, table_width, table_commands}
use Rattle.model.specs.Definitions.TableChecks.{Chosen, elsewhere, among, chooses, repeat_step}
use Rattle.table_form.specs.Read.{command}
use Rattle.table_form.specs.declared.command.TableCommand.{TableCommand as Code}
use Rattle.table_form.proofs.Loop.{Taken}
use Rattle.table_operands.specs.Repeats.{set_from, chosen}
use Rattle.table_operands.proofs.Machines.{repeat_machine}

-- ---- states with the same members

pub data Same : Chosen → Chosen → Type 0 where
  nowhere : Same elsewhere elsewhere
  members : {ms ns : List ℕ} → ((k : ℕ) → member_of k ms ≡ member_of k ns) → Same (among ms) (among ns)

abbrev verdict_from : Chosen → ℕ → List TableCommand → Verdict
verdict_from = run table_width repeat_step (λ s. true)

-- have the same verdict on what is left
pub same_run : (s t : Chosen) → Same s t → (at : ℕ) (cs : List TableCommand) → run table_width repeat_step (λ s. true) s at cs ≡ run table_width repeat_step (λ s. true) t at cs
unfolding run proceed repeat_step chooses goes_if member_of
same_run s t h at [] = refl
same_run s t h at (c ∷ cs) = go c s t h (λ x y k. same_run x y k (at + table_width c) cs)
  where
    tested : (ms ns : List ℕ) (m : ℕ) (onward : Chosen → Verdict) (b : Bool) → member_of m ns ≡ b → ((k : ℕ) → member_of k ms ≡ member_of k ns)
        → (onward (among (m ∷ ms)) ≡ onward (among (m ∷ ns)))
        → proceed at (chooses (among ms) m) onward ≡ proceed at (chooses (among ns) m) onward
    tested ms ns m onward true q f later = rw (f m, q) refl
    tested ms ns m onward false q f later = rw (f m, q) later

    go : (d : TableCommand) (x y : Chosen) → Same x y
        → ((x y : Chosen) → Same x y → run table_width repeat_step (λ s. true) x (at + table_width d) cs ≡ run table_width repeat_step (λ s. true) y (at + table_width d) cs)
        → proceed at (repeat_step x d) (λ next. run table_width repeat_step (λ s. true) next (at + table_width d) cs)
        ≡ proceed at (repeat_step y d) (λ next. run table_width repeat_step (λ s. true) next (at + table_width d) cs)
    go text_type x y h later = refl
    go empty_type x y h later = refl
    go sequence_type x y h later = refl
    go (choice_type need) x y h later = refl
    go (list_type m) x y h later = refl
    go (member m) x y nowhere later = refl
    go (member m) x y (members {ms = ms} {ns = ns} f) later =
        tested ms ns m (λ next. run table_width repeat_step (λ s. true) next (at + table_width (member m)) cs) (member_of m ns) refl f
        (later (among (m ∷ ms)) (among (m ∷ ns)) (members (λ k. ap (λ b. eqb k m || b) (f k))))
    go table_end x y h later = later x y h
    go alien x y h later = refl

-- ---- flags

-- a number before the first flag is none of those set
before_flags : (flags : List Bool) (n j : ℕ) → j < n → member_of j (set_from n flags) ≡ false
unfolding member_of set_from
before_flags [] n j h = refl
before_flags (true ∷ flags) n j h = let other : eqb j n ≡ false = ne_eqb j n (λ e. absurd (omega (arith, h, e))) in rw other (before_flags flags (suc n) j (omega arith))
before_flags (false ∷ flags) n j h = before_flags flags (suc n) j (omega arith)

-- the numbers whose flags are set are those with a flag that is set
flag_from : (flags : List Bool) (n k j : ℕ) → j ≡ n + k → member_of j (set_from n flags) ≡ get_or flags k false
unfolding member_of set_from
flag_from [] n k j e = refl
flag_from (true ∷ flags) n zero j e = let same : eqb j n ≡ true = eq-eqb j n (omega arith) in rw same refl
flag_from (true ∷ flags) n (suc k) j e = let other : eqb j n ≡ false = ne_eqb j n (λ q. absurd (omega (arith, e, q))) in rw other (flag_from flags (suc n) k j (omega arith))
flag_from (false ∷ flags) n zero j e = before_flags flags (suc n) j (omega arith)
flag_from (false ∷ flags) n (suc k) j e = flag_from flags (suc n) k j (omega arith)

pub flag_of : (flags : List Bool) (k : ℕ) → member_of k (set_from 0 flags) ≡ get_or flags k false
flag_of flags k = flag_from flags 0 k k (omega arith)

-- no flag is set, no number is
none_set : (n k : ℕ) → set_from k (replicate n false) ≡ []
unfolding set_from
none_set zero k = refl
none_set (suc n) k = none_set n (suc k)

-- one flag more, one number more
more_set : (seen : List Bool) (m : ℕ) → m < length seen → (k : ℕ) → member_of k (set_from 0 (set seen m true)) ≡ member_of k (m ∷ set_from 0 seen)
unfolding member_of
more_set seen m h k = go (eqb k m) refl
  where
    go : (b : Bool) → eqb k m ≡ b → member_of k (set_from 0 (set seen m true)) ≡ (eqb k m || member_of k (set_from 0 seen))
    go true q = let same : k ≡ m = eqb-true k m q in rw q (flag_of (set seen m true) k ∙ rw same (get_or-set_same seen m true false h))
    go false q = rw q (flag_of (set seen m true) k ∙ get_or-set_other seen m k true false (eqb-false k m q) ∙ sym (flag_of seen k))

-- ---- what a command does

-- a command that begins a type which is no choice leaves the choice before it
pub leaves : (s : Chosen) (d : Code) → (d ≡ Code.Choice → ⊥) → (d ≡ Code.Optional → ⊥) → ((m : ℕ) → d ≡ Code.Member m → ⊥) → (d ≡ Code.End → ⊥)
    → goes elsewhere ≡ repeat_step s (command d)
unfolding repeat_step
leaves s Code.Text a b m e = refl
leaves s Code.Empty a b m e = refl
leaves s Code.Sequence a b m e = refl
leaves s Code.Choice a b m e = absurd (a refl)
leaves s (Code.List t) a b m e = refl
leaves s (Code.Member t) a b m e = absurd (m t refl)
leaves s Code.End a b m e = absurd (e refl)
leaves s Code.Optional a b m e = absurd (b refl)

-- one that begins a choice
pub opens : (s : Chosen) {d : Code} → (d ≡ Code.Choice) ⊎ (d ≡ Code.Optional) → goes (among []) ≡ repeat_step s (command d)
unfolding repeat_step
opens s (inl e) = rw e refl
opens s (inr e) = rw e refl

-- the end of the table
pub ends : (s : Chosen) {d : Code} → d ≡ Code.End → goes s ≡ repeat_step s (command d)
unfolding repeat_step
ends s e = rw e refl

-- a member
pub joins : (s : Chosen) {d : Code} {m : ℕ} {n : Next Chosen} → d ≡ Code.Member m → n ≡ chooses s m → n ≡ repeat_step s (command d)
unfolding repeat_step
joins s e h = rw e h

-- outside a choice it changes nothing
pub not_inside : {within : Bool} (seen : List Bool) (m : ℕ) → within ≡ false → goes (chosen within seen) ≡ chooses (chosen within seen) m
unfolding chooses
not_inside seen m e = rw e refl

-- one whose flag is set is refused
pub again_there : {within : Bool} (seen : List Bool) (m : ℕ) → within ≡ true → get_or seen m false ≡ true → stops ≡ chooses (chosen within seen) m
unfolding chooses goes_if
again_there seen m e there = rw (e, flag_of seen m, there) refl

-- one whose flag is not set is added
pub added : {within : Bool} (seen : List Bool) (m : ℕ) → within ≡ true → get_or seen m false ≡ false → goes (among (m ∷ set_from 0 seen)) ≡ chooses (chosen within seen) m
unfolding chooses goes_if
added seen m e unset = rw (e, flag_of seen m, unset) refl

pub same_added : {within : Bool} (seen : List Bool) (m : ℕ) → within ≡ true → m < length seen → Same (chosen within (set seen m true)) (among (m ∷ set_from 0 seen))
same_added seen m e h = rw e (members (more_set seen m h))

-- a choice without members
pub same_opened : Same (chosen true (replicate 256 false)) (among [])
same_opened = members (λ k. rw (none_set 256 0) refl)

pub same_self : (s : Chosen) → Same s s
same_self elsewhere = nowhere
same_self (among ms) = members (λ k. refl)

-- ---- a turn

-- a command that is taken keeps the verdict, by the flags that the code then has
pub turned : {bs : List ℕ} {at width : ℕ} {s : Chosen} (t x : Chosen) → Taken repeat_machine bs at width s t → Same x t → Taken repeat_machine bs at width s x
turned {bs} {at} {width} t x taken same =
    record { some = taken.some; within = taken.within; same = same_run x t same (at + width) (table_commands (drop (at + width) bs)) ∙ taken.same }
