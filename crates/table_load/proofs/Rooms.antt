-- What storing in the array does to what is loaded, and room for it.
use mathlib.Core.Path.{◌≡◌, refl, sym, ap, ◌∙◌, subst}
use mathlib.Core.List.{List}
use mathlib.Core.Logic.{inl, inr}
use Prim.Native.Nat.{ℕ, ◌+◌, ◌-◌, ◌*◌, ◌<◌}
use native.Mathlib.Nat.{zero-add}
use native.Mathlib.Omega.{arith}
use lib.ListN.{length, get_or, set, length-set}
use Rattle.table_form.specs.declared.command.TableCommand.{TableCommand}
use Rattle.table_form.specs.Read.{command}
use Rattle.model.specs.Definitions.Commands as model
use Rattle.loaded_table.specs.Loaded.{kinds_of, counts_of, section-kept, section-set}
use Rattle.table_load.specs.Loading.{TableArrays, loaded_in, begun, joined, puts, TypeMayBegin, MemberMayJoin, TableRoom, TablePut}

-- there is room for a command, known as another term
pub told_room : (a : TableArrays) {c d : TableCommand} → c ≡ d → TableRoom a (command c) → TableRoom a (command d)
told_room a e h = subst (λ x. TableRoom a (command x)) e h

-- what a command does, known as another term
pub told_put : {types more : ℕ} {rows after : List ℕ} {c d : TableCommand} → c ≡ d → TablePut types rows (command d) more after → TablePut types rows (command c) more after
told_put {types} {more} {rows} {after} e h = subst (λ x. TablePut types rows (command x) more after) (sym e) h

-- arrays of equal parts
same_arrays : {types types' : ℕ} {kinds kinds' counts counts' members members' : List ℕ}
    → types ≡ types' → kinds ≡ kinds' → counts ≡ counts' → members ≡ members'
    → ◌≡◌ {A = TableArrays} (record { types = types; kinds = kinds; counts = counts; members = members }) (record { types = types'; kinds = kinds'; counts = counts'; members = members' })
same_arrays p q r s = rw (p, q, r, s) refl

-- a kind stored behind the last type begins a type
begun_in : (rows : List ℕ) (types kind : ℕ) → types < 64 → loaded_in (types + 1) (set rows types kind) ≡ begun (loaded_in types rows) kind
unfolding begun
begun_in rows types kind room =
    let first : 0 + types ≡ types = zero-add types in
    same_arrays refl
    (ap (λ i. kinds_of (set rows i kind)) (sym first) ∙ section-set 0 64 rows types kind room)
    (section-kept 64 64 rows types kind (inl (omega arith)))
    (section-kept 256 1024 rows types kind (inl (omega arith)))

-- a member and one count more stored for the last type join a member
joined_in : (rows : List ℕ) (types t m : ℕ) → types - 1 ≡ t → t < 64 → get_or (counts_of rows) t 0 < 16
    → loaded_in types (set (set rows (256 + (t * 16 + get_or (counts_of rows) t 0)) m) (64 + t) (get_or (counts_of rows) t 0 + 1)) ≡ joined (loaded_in types rows) m
unfolding joined
joined_in rows types t m last few room =
    let count = get_or (counts_of rows) t 0 in
    let place = t * 16 + count in
    let stored = set rows (256 + place) m in
    rw last
    (same_arrays refl
    (section-kept 0 64 stored (64 + t) (count + 1) (inr (omega arith)) ∙ section-kept 0 64 rows (256 + place) m (inr (omega arith)))
    (section-set 64 64 stored t (count + 1) few ∙ ap (λ l. set l t (count + 1)) (section-kept 64 64 rows (256 + place) m (inr (omega arith))))
    (section-kept 256 1024 stored (64 + t) (count + 1) (inl (omega arith)) ∙ section-set 256 1024 rows place m (omega arith)))

-- a member of the last type has its place
pub join_room : (a : TableArrays) → MemberMayJoin a → (a.types - 1 < 64) × (get_or a.counts (a.types - 1) 0 < 16)
join_room a h = (omega (arith, h.some, h.few), h.room)

-- a type that was just begun has room for a member
pub begun_joins : (a : TableArrays) (kind : ℕ) → TypeMayBegin a → MemberMayJoin (begun a kind)
unfolding begun
begun_joins a kind h =
    let last : a.types + 1 - 1 ≡ a.types = omega arith in
    let none_yet : get_or a.counts (a.types + 1 - 1) 0 ≡ 0 = ap (λ i. get_or a.counts i 0) last ∙ h.fresh in
    let types-few = h.room in
    record { some = omega arith; few = omega arith; room = omega arith }

-- a list that was just begun has room for its item
pub list_room : (rows : List ℕ) (types : ℕ) {mid : List ℕ} → TypeMayBegin (loaded_in types rows) → mid ≡ set rows types 5 → (types < 64) × (get_or (counts_of mid) types 0 < 16)
list_room rows types {mid} h e =
    let kept : counts_of mid ≡ counts_of rows = ap counts_of e ∙ section-kept 64 64 rows types 5 (inl (omega (arith, h.room))) in
    (h.room, rw kept (omega (arith, h.fresh)))

-- ---- commands put

-- a command that begins a type of a kind
pub begun_put : (rows : List ℕ) (types kind : ℕ) (c : model.TableCommand) {more : ℕ} {after : List ℕ} → puts (loaded_in types rows) c ≡ begun (loaded_in types rows) kind → types < 64
    → (more ≡ types + 1) × (after ≡ set rows types kind) → TablePut types rows c more after
begun_put rows types kind c does room (p, q) = rw (p, q) (record { same_size = length-set rows types kind; does = begun_in rows types kind room ∙ sym does })

-- the array with one member more of type t
abbrev pub member_stored : List ℕ → ℕ → ℕ → List ℕ
member_stored rows t m = set (set rows (256 + (t * 16 + get_or (counts_of rows) t 0)) m) (64 + t) (get_or (counts_of rows) t 0 + 1)

stored_size : (rows : List ℕ) (t m : ℕ) → length (member_stored rows t m) ≡ length rows
stored_size rows t m =
    let count = get_or (counts_of rows) t 0 in
    length-set (set rows (256 + (t * 16 + count)) m) (64 + t) (count + 1) ∙ length-set rows (256 + (t * 16 + count)) m

-- a list and its item
pub list_put : (rows : List ℕ) (types m : ℕ) {more : ℕ} {mid after : List ℕ} → TypeMayBegin (loaded_in types rows)
    → (more ≡ types + 1) × (mid ≡ set rows types 5) → after ≡ member_stored mid types m → TablePut types rows (model.list_type m) more after
unfolding puts
list_put rows types m {more} {mid} {after} h (p, q) e =
    let room = list_room rows types h q in
    let last : types + 1 - 1 ≡ types = omega arith in
    record {
      same_size = ap length e ∙ stored_size mid types m ∙ ap length q ∙ length-set rows types 5;
      does =
          rw (e, p)
          (joined_in mid (types + 1) types m last room.0 room.1
          ∙ ap (λ (l : List ℕ). joined (loaded_in (types + 1) l) m) q
          ∙ ap (λ (a : TableArrays). joined a m) (begun_in rows types 5 room.0));
    }

-- a member
pub member_put : (rows : List ℕ) (types m : ℕ) {after : List ℕ} → MemberMayJoin (loaded_in types rows) → after ≡ member_stored rows (types - 1) m → TablePut types rows (model.member m) types after
unfolding puts
member_put rows types m h e =
    let room = join_room (loaded_in types rows) h in
    rw e (record { same_size = stored_size rows (types - 1) m; does = joined_in rows types (types - 1) m refl room.0 room.1 })
