use mathlib.Core.Path.{◌≡◌, sym, ap, ◌∙◌}
use mathlib.Core.List.{List}
use Prim.Native.Nat.{ℕ, suc, ◌+◌, ◌-◌, ◌*◌, ◌<◌}
use native.Mathlib.Nat.{zero-add, add-zero, sub-zero}
use native.Mathlib.Omega.{arith}
use lib.ListN.{length, take, drop, length-take, length-drop}
use Rattle.loaded_table.specs.Loaded.{Bounded, members_in}
use Rattle.rows.specs.Rows.{index_in}
use Rattle.rows.specs.Laws.{index_here, index_later, index_none}
use Rattle.rows.proofs.index_of.Goals as goal

-- all members are passed at first
starts : (t n o : ℕ) (l : List ℕ) → index_in t (take n (drop o l)) ≡ 0 + index_in t (take (n - 0) (drop (o + 0) l))
starts t n o l = sym (zero-add _ ∙ ap (λ (k : ℕ). index_in t (take (n - 0) (drop k l))) (add-zero o) ∙ ap (λ (k : ℕ). index_in t (take k (drop o l))) (sub-zero n))

-- and one fewer after each turn
goes_on : (t n i o : ℕ) (l : List ℕ) → index_in t (take (n - i) (drop (o + i) l)) ≡ suc (index_in t (take (n - i - 1) (drop (suc (o + i)) l)))
    → i + index_in t (take (n - i) (drop (o + i) l)) ≡ i + 1 + index_in t (take (n - (i + 1)) (drop (o + (i + 1)) l))
goes_on t n i o l e =
    let far : suc (o + i) ≡ o + (i + 1) = omega arith in
    let few : n - i - 1 ≡ n - (i + 1) = omega arith in
    let moved : index_in t (take (n - i) (drop (o + i) l)) ≡ suc (index_in t (take (n - (i + 1)) (drop (o + (i + 1)) l))) = rw (far, few) at e in
    omega (arith, moved)

-- members are within their section
places-within : {source : List ℕ} {s i : ℕ} → Bounded source → s < 64 → i < 16 → s * 16 + i < length (members_in source)
places-within {source} {s} {i} b few less = omega (arith, b.size, length-take 1024 (drop 256 source), length-drop 256 source)

pub returns-then-member-t : goal.returns-then-member-t
returns-then-member-t c =
    let found = index_here c.args.t (c.args.count - c.loop-i.i) (c.args.s * 16 + c.loop-i.i) (members_in c.args.source.now) (omega arith) (places-within c.requires.bounded c.requires.s_lt_max_types.0 (omega arith)) (sym c.member.ensures.0 ∙ c.if-member-t.true) in
    (omega (arith, c.loop-i.invariant, found), omega arith)

pub loop-i-preserved : goal.loop-i-preserved
loop-i-preserved c =
    let later = index_later c.args.t (c.args.count - c.loop-i.i) (c.args.s * 16 + c.loop-i.i) (members_in c.args.source.now) (omega arith) (places-within c.requires.bounded c.requires.s_lt_max_types.0 (omega arith)) (λ e. c.if-member-t.false (c.member.ensures.0 ∙ e)) in
    c.loop-i.invariant ∙ goes_on _ _ _ _ _ later

pub returns : goal.returns
returns c =
    let none = index_none c.args.t (c.args.count - c.loop-i.i) (c.args.s * 16 + c.loop-i.i) (members_in c.args.source.now) (omega arith) in
    (omega (arith, c.loop-i.invariant, none), omega arith)
