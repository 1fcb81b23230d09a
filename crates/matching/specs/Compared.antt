-- A document takes the bytes with which it begins.
use Rattle.std.specs.Prelude.{◌≡◌, refl, List, ◌++◌, ℕ, ◌+◌, ◌≤◌, length}
use Rattle.std.proofs.Common.{sym, ap, ◌∙◌, arith, append_assoc, length-append}
use Rattle.std.proofs.lemmas.List.{append_cancel_left}
use Rattle.filling.specs.Sinks.{SinkLaws}
use Rattle.matching.specs.declared.Compared.{Compared}

-- what is left begins with the bytes, and the others are left then
pub record Begins (old : Compared) (bs : List ℕ) (new : Compared) : Type 0 where
  pub stands : old.left.now ≡ bs ++ new.left.now

-- it does not
pub record Other (c : Compared) (bs : List ℕ) : Type 0 where
  pub differs : (rest : List ℕ) → c.left.now ≡ bs ++ rest → ⊥

-- any bytes can be compared
abbrev pub anyway : Compared → List ℕ → Type 0
anyway c bs = Unit {0}

abbrev pub bytes_left : Compared → ℕ
bytes_left c = length c.left.now

begins_then : {a b c : Compared} {bs cs : List ℕ} → Begins a bs b → Begins b cs c → Begins a (bs ++ cs) c
begins_then {bs = bs} {cs} first second = record { stands = first.stands ∙ ap (λ (r : List ℕ). bs ++ r) second.stands ∙ sym (append_assoc bs cs _) }

other_first : {a : Compared} {bs : List ℕ} → Other a bs → (cs : List ℕ) → Other a (bs ++ cs)
other_first {bs = bs} w cs = record { differs = λ rest e. w.differs (cs ++ rest) (e ∙ append_assoc bs cs rest) }

other_later : {a b : Compared} {bs cs : List ℕ} → Begins a bs b → Other b cs → Other a (bs ++ cs)
other_later {bs = bs} {cs} first w =
    record { differs = λ rest e. w.differs rest (append_cancel_left bs _ (cs ++ rest) (sym first.stands ∙ e ∙ append_assoc bs cs rest)) }

fewer_left : {a b : Compared} {bs : List ℕ} → Begins a bs b → bytes_left b + length bs ≤ bytes_left a
fewer_left {a} {b} {bs} w = omega (arith, ap length w.stands, length-append bs b.left.now)

pub compared_laws : SinkLaws Begins Other anyway bytes_left
compared_laws =
    record {
      nothing = λ fits. record { stands = refl };
      both = begins_then;
      first_refused = other_first;
      later_refused = other_later;
      first_fits = λ cs fits. tt;
      later_fits = λ fits w. tt;
      fewer = λ fits w. fewer_left w;
    }
