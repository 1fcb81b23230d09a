-- Sets of types as bits: setting a bit adds it to the list of bits, and the zeros that end the complement stop at the
-- first bit that is not set.
use mathlib.Core.Path.{◌≡◌, refl, sym, ap, ◌∙◌}
use mathlib.Core.Bool.{Bool, true, false}
use mathlib.Core.List.{List, [], ◌∷◌, ◌++◌, map}
use Prim.Native.Nat.{ℕ, zero, suc, ◌+◌, ◌-◌, ◌*◌, ◌/◌, ◌%◌, ◌^◌, ◌≤◌, ◌<◌}
use native.Mathlib.Nat.{pow-suc, zero-add}
use native.Mathlib.Numerals.{add-one}
use native.Mathlib.Omega.{arith}
use lib.ListN.{length, take, get_or, length-map}
use lib.Seq.{take-suc, length-take-le, ext_get_or, get_or-take}
use lib.Bits.{bit_or, or_shifted_r}
use lib.Pow.{shl_exact}
use lib.Count.{count_trailing_zeros}
use lib.Dec.{leb, lit<}
use borrow.Author.Tests.{le-leb, lt-leb}
use Rattle.model.specs.Definitions.Basics.{Verdict, passes, fails, pick}
use Rattle.model.specs.Definitions.Table.{Table}
use Rattle.model.specs.Definitions.Heights.{height_in, heights, first_endless, endless_type}
use Rattle.model.proofs.Theorems.HeightLaws.{heights-length}
use Rattle.table_heights.specs.Heights.{bit, word, finite_bits, HoldsHeights}

-- ---- the value of a list of bits

-- a bit is at most 1
bit_low : (b : Bool) → bit b ≤ 1
bit_low true = omega arith
bit_low false = omega arith

-- k bits are below 2 ^ k
word_below : (k : ℕ) (bs : List Bool) → length bs ≤ k → word bs < 2 ^ k
unfolding word
word_below zero [] h = omega arith
word_below zero (b ∷ bs) h = absurd (omega arith)
word_below (suc k) [] h = omega (arith, pow-suc 2 k, word_below k [] (omega arith))
word_below (suc k) (b ∷ bs) h = omega (arith, pow-suc 2 k, word_below k bs (omega arith), bit_low b)

-- a set bit at the end
word_set : (bs : List Bool) → word (bs ++ (true ∷ [])) ≡ word bs + 2 ^ length bs
unfolding word
word_set [] = refl
word_set (b ∷ bs) = omega (arith, word_set bs, pow-suc 2 (length bs))

-- a bit that is not set
word_clear : (bs : List Bool) → word (bs ++ (false ∷ [])) ≡ word bs
unfolding word
word_clear [] = refl
word_clear (b ∷ bs) = omega (arith, word_clear bs)

-- ---- where trailing zeros stop

-- the place of the first bit that is not set, the number of bits where all are
unfoldable pub first_clear : List Bool → ℕ
first_clear [] = 0
first_clear (true ∷ bs) = suc (first_clear bs)
first_clear (false ∷ bs) = 0

-- the complement's trailing zeros end there
pub zeros_stop : (k : ℕ) (bs : List Bool) → length bs ≤ k → count_trailing_zeros k ((2 ^ k - 1) - word bs) ≡ first_clear bs
unfolding count_trailing_zeros first_clear word
zeros_stop zero [] h = refl
zeros_stop zero (b ∷ bs) h = absurd (omega arith)
zeros_stop (suc k) [] h =
    let odd : ((2 ^ suc k - 1) - 0) % 2 ≡ 1 = omega (arith, pow-suc 2 k, word_below k [] (omega arith)) in
    rw odd
zeros_stop (suc k) (false ∷ bs) h =
    let odd : ((2 ^ suc k - 1) - (0 + 2 * word bs)) % 2 ≡ 1 = omega (arith, pow-suc 2 k, word_below k bs (omega arith)) in
    rw odd
zeros_stop (suc k) (true ∷ bs) h =
    let even : ((2 ^ suc k - 1) - (1 + 2 * word bs)) % 2 ≡ 0 = omega (arith, pow-suc 2 k, word_below k bs (omega arith)) in
    let half : ((2 ^ suc k - 1) - (1 + 2 * word bs)) / 2 ≡ (2 ^ k - 1) - word bs = omega (arith, pow-suc 2 k, word_below k bs (omega arith)) in
    rw (even, half) (ap suc (zeros_stop k bs (omega arith)))

-- ---- the loop that sets the bits

-- the bits of one type more
bits_more : (types : ℕ) (hs : List ℕ) (t : ℕ) → t < length hs
    → finite_bits types (take (t + 1) hs) ≡ finite_bits types (take t hs) ++ (leb (get_or hs t 0) types ∷ [])
unfolding finite_bits
bits_more types hs t here = rw (add-one, take-suc hs t 0 here) (map_both (take t hs))
  where
    map_both : (xs : List ℕ) → map (λ h. leb h types) (xs ++ (get_or hs t 0 ∷ [])) ≡ map (λ h. leb h types) xs ++ (leb (get_or hs t 0) types ∷ [])
    map_both [] = refl
    map_both (x ∷ xs) = ap (λ (l : List Bool). leb x types ∷ l) (map_both xs)

-- t types have t bits
bits_length : (types : ℕ) (hs : List ℕ) (t : ℕ) → t ≤ length hs → length (finite_bits types (take t hs)) ≡ t
unfolding finite_bits
bits_length types hs t here = rw length-map (length-take-le t hs here)

-- a turn that sets the bit of type t
pub bits_set : (types : ℕ) (hs : List ℕ) (t bits : ℕ) → t < 64 → t < length hs → get_or hs t 0 ≤ types → bits ≡ word (finite_bits types (take t hs))
    → bit_or bits ((1 * 2 ^ t) % 2 ^ 64) ≡ word (finite_bits types (take (t + 1) hs))
bits_set types hs t bits few here low e =
    let bs = finite_bits types (take t hs) in
    let long : length bs ≡ t = bits_length types hs t (omega arith) in
    let below : bits < 2 ^ t = rw e (word_below t bs (omega arith)) in
    let more : word (finite_bits types (take (t + 1) hs)) ≡ word bs + 2 ^ t =
    rw (bits_more types hs t here, le-leb (get_or hs t 0) types low) (word_set bs ∙ ap (λ (n : ℕ). word bs + 2 ^ n) long) in
    let sum : 1 * 2 ^ t + bits ≡ word (finite_bits types (take (t + 1) hs)) = omega arith in
    ap (bit_or bits) (shl_exact 1 t 64 (lit< tt) (omega arith))
    ∙ or_shifted_r 1 t bits below
    ∙ sum

-- a turn that does not
pub bits_clear : (types : ℕ) (hs : List ℕ) (t bits : ℕ) → t < length hs → types < get_or hs t 0 → bits ≡ word (finite_bits types (take t hs))
    → bits ≡ word (finite_bits types (take (t + 1) hs))
bits_clear types hs t bits here high e =
    rw (bits_more types hs t here, lt-leb (get_or hs t 0) types high) (e ∙ sym (word_clear (finite_bits types (take t hs))))

-- ---- the lowest type without a finite instance

-- one bit more in front: v is the verdict from the next type on
step_found : (b : Bool) (bs : List Bool) (v : Verdict) (t n : ℕ) → (first_clear bs < n → v ≡ fails (suc t + first_clear bs))
    → first_clear (b ∷ bs) < suc n → pick b v (fails t) ≡ fails (t + first_clear (b ∷ bs))
unfolding pick first_clear
step_found true bs v t n later low = later (omega arith) ∙ ap fails (omega arith)
step_found false bs v t n later low = ap fails (omega arith)

step_none : (b : Bool) (bs : List Bool) (v : Verdict) (t n : ℕ) → (n ≤ first_clear bs → v ≡ passes) → suc n ≤ first_clear (b ∷ bs) → pick b v (fails t) ≡ passes
unfolding pick first_clear
step_none true bs v t n later all = later (omega arith)
step_none false bs v t n later all = absurd (omega arith)

-- the first bit that is not set is the first height above the number of types
endless_found : (types t : ℕ) (hs : List ℕ) → first_clear (finite_bits types hs) < length hs
    → first_endless types t hs ≡ fails (t + first_clear (finite_bits types hs))
unfolding first_endless finite_bits
endless_found types t [] low = absurd (omega arith)
endless_found types t (h ∷ hs) low = step_found (leb h types) (finite_bits types hs) (first_endless types (suc t) hs) t (length hs) (endless_found types (suc t) hs) low

-- and where all are set there is none
endless_none : (types t : ℕ) (hs : List ℕ) → length hs ≤ first_clear (finite_bits types hs) → first_endless types t hs ≡ passes
unfolding first_endless finite_bits
endless_none types t [] all = refl
endless_none types t (h ∷ hs) all = step_none (leb h types) (finite_bits types hs) (first_endless types (suc t) hs) t (length hs) (endless_none types (suc t) hs) all

-- the heights that an array holds are its first entries
held-heights : (T : Table) (types : ℕ) (hs : List ℕ) → length T ≡ types → types ≤ length hs → HoldsHeights T hs → take types hs ≡ heights T
unfolding height_in
held-heights T types hs long within holds =
    ext_get_or 0 (take types hs) (heights T) (same ∙ sym (heights-length T ∙ long)) (λ t here. get_or-take types hs t 0 (rw same at here) ∙ holds.height_at_lem t)
  where
    same : length (take types hs) ≡ types
    same = length-take-le types hs within

-- The trailing zeros of the complement of the bits: below the number of types they are the lowest type without a finite
-- instance, and otherwise there is none.
module _ (T : Table) (types : ℕ) (hs : List ℕ) (bits : ℕ) (few : types ≤ 64) (within : types ≤ length hs)
    (set : bits ≡ word (finite_bits types (take types hs))) (long : length T ≡ types) (holds : HoldsHeights T hs) where
  stop_at : count_trailing_zeros 64 ((2 ^ 64 - 1) - bits) ≡ first_clear (finite_bits types (heights T))
  stop_at =
      let short : length (finite_bits types (take types hs)) ≤ 64 = rw (bits_length types hs types within) few in
      ap (λ (n : ℕ). count_trailing_zeros 64 ((2 ^ 64 - 1) - n)) set
      ∙ zeros_stop 64 (finite_bits types (take types hs)) short
      ∙ ap (λ (l : List ℕ). first_clear (finite_bits types l)) (held-heights T types hs long within holds)

  pub endless_fails : count_trailing_zeros 64 ((2 ^ 64 - 1) - bits) < types → fails (count_trailing_zeros 64 ((2 ^ 64 - 1) - bits)) ≡ endless_type T
  unfolding endless_type
  endless_fails low =
      let lower : first_clear (finite_bits types (heights T)) < length (heights T) = rw (heights-length, long, ← stop_at) low in
      ap fails (stop_at ∙ sym (zero-add (first_clear (finite_bits types (heights T)))))
      ∙ sym (endless_found types 0 (heights T) lower)
      ∙ ap (λ (n : ℕ). first_endless n 0 (heights T)) (sym long)

  pub endless_passes : types ≤ count_trailing_zeros 64 ((2 ^ 64 - 1) - bits) → passes ≡ endless_type T
  unfolding endless_type
  endless_passes all =
      let higher : length (heights T) ≤ first_clear (finite_bits types (heights T)) = rw (heights-length, long, ← stop_at) all in
      sym (endless_none types 0 (heights T) higher) ∙ ap (λ (n : ℕ). first_endless n 0 (heights T)) (sym long)
