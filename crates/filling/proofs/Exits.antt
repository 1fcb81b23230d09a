-- What the exit of a `?` returns.
use Rattle.std.specs.Prelude.{refl, Result, Ok, Err, OnErr, IsOk}

-- what holds anyway holds of an error
pub on_err : {T E P : Type 0} (r : Result T E) → P → OnErr r P
on_err (Ok x) p = tt
on_err (Err y) p = p

-- where no error can be, all is well
pub no_err : {T E P : Type 0} (r : Result T E) → OnErr r P → (P → ⊥) → IsOk r
no_err (Ok x) w never = refl
no_err (Err y) w never = absurd (never w)
