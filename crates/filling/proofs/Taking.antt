-- Loops that give bytes to a sink: those so far are taken, and the others are left.
use Rattle.std.proofs.Common.{◌≡◌, refl, sym, ap, ◌∙◌, subst, arith, List, [], ◌∷◌, ◌++◌, ℕ, ◌+◌, ◌≤◌, ◌<◌, get_or, ◌-◌, append_assoc, append-nil}
use Rattle.rows.specs.Rows.{from_of}
use Rattle.row_traversal.specs.Asked.{SomeAsked, FillerAsked}
use Rattle.row_traversal.specs.FillerRows.{filler_left_lem, filler_starts}
use Rattle.row_traversal.specs.Loops.{Advance, Roomy, FillerGoes, filler_last, filler_then, RowGoes, SymbolDone, row_on}
use Rattle.filling.specs.Sinks.{SinkLaws}

-- Of the bytes `whole`, for the state `start`, those before `rest` are taken, and `rest` is left for the state `now`.
pub record ToTake {S : Type 0} (Takes : S → List ℕ → S → Type 0) (start now : S) (whole rest : List ℕ) : Type 0 where
  pub done : List ℕ
  pub split : whole ≡ done ++ rest
  pub taken : Takes start done now

-- ---- bytes that are asked for, where it is known which they are

module _ {Asked : List ℕ → Type 0} {bytes : List ℕ} (is : (bs : List ℕ) → Asked bs → bs ≡ bytes) where
  pub asked_fits : {Fits : List ℕ → Type 0} → SomeAsked Asked Fits → Fits bytes
  asked_fits {Fits} f = subst Fits (is f.bytes f.asked) f.room

-- what is done with the bytes that one thing asks for is done with those that another does, where these are the same
pub as_row : {Asked Others Done : List ℕ → Type 0} → ((bs : List ℕ) → Others bs → Asked bs) → ((bs : List ℕ) → Asked bs → Done bs) → (bs : List ℕ) → Others bs → Done bs
as_row same w bs a = w bs (same bs a)

-- ---- any sink

module _ {S : Type 0} {Takes : S → List ℕ → S → Type 0} {Refuses Fits : S → List ℕ → Type 0} {left : S → ℕ} (laws : SinkLaws Takes Refuses Fits left) where
  -- at first all is left
  pub take_all : {start : S} {bs : List ℕ} → Fits start bs → (whole : List ℕ) → ToTake Takes start start whole whole
  take_all fits whole = record { done = []; split = refl; taken = laws.nothing fits }

  again : {start now : S} {whole rest : List ℕ} (g : ToTake Takes start now whole rest) (bs more : List ℕ) → rest ≡ bs ++ more → whole ≡ (g.done ++ bs) ++ more
  again g bs more e = g.split ∙ ap (λ (r : List ℕ). g.done ++ r) e ∙ sym (append_assoc g.done bs more)

  module _ {start now : S} where
    -- there is room for what is left
    pub take_room : {whole : List ℕ} → Fits start whole → Roomy (ToTake Takes start now whole) (Fits now)
    take_room fits =
        record { room = λ g bs more e. laws.first_fits more (subst (Fits now) e (laws.later_fits (subst (Fits start) g.split fits) g.taken)) }

    -- the next bytes are taken
    pub take_turn : {after : S} → Advance (ToTake Takes start now) (ToTake Takes start after) (λ (bs : List ℕ). Takes now bs after)
    take_turn = record { takes = λ g bs more e w. record { done = g.done ++ bs; split = again g bs more e; taken = laws.both g.taken w } }

    -- they are refused
    pub take_stops : Advance (ToTake Takes start now) (λ (whole rest : List ℕ). Refuses start whole) (λ (bs : List ℕ). Refuses now bs)
    take_stops =
        record { takes = λ g bs more e w. subst (Refuses start) (sym (again g bs more e)) (laws.first_refused (laws.later_refused g.taken w) more) }

    -- nothing is left
    pub all_taken : {whole : List ℕ} → ToTake Takes start now whole [] → Takes start whole now
    all_taken g = subst (λ (bs : List ℕ). Takes start bs now) (sym (g.split ∙ append-nil g.done)) g.taken

    -- the last bytes are taken, or refused
    pub last_taken : {whole rest : List ℕ} {after : S} → ToTake Takes start now whole rest → Takes now rest after → Takes start whole after
    last_taken {after = after} g w = subst (λ (bs : List ℕ). Takes start bs after) (sym g.split) (laws.both g.taken w)

    pub last_refused : {whole rest : List ℕ} → ToTake Takes start now whole rest → Refuses now rest → Refuses start whole
    last_refused g w = subst (Refuses start) (sym g.split) (laws.later_refused g.taken w)

    -- no more can be taken than at first
    pub left_falls : {whole rest : List ℕ} → Fits start whole → ToTake Takes start now whole rest → left now ≤ left start
    left_falls fits g = omega (arith, laws.fewer (laws.first_fits _ (subst (Fits start) g.split fits)) g.taken)

  -- ---- a filler element

  module _ {pool places : List ℕ} {t : ℕ} {first : S} where
    -- there is room for its first two bytes, and behind them for the others
    pub opening_fits : SomeAsked (FillerAsked pool places t) (Fits first) → Fits first (0x30 ∷ t ∷ [])
    opening_fits f = laws.first_fits _ (subst (Fits first) (filler_starts f.asked) f.room)

    -- the first two bytes are refused, and with them the element
    pub filler_unopened : Refuses first (0x30 ∷ t ∷ []) → (bs : List ℕ) → FillerAsked pool places t bs → Refuses first bs
    filler_unopened w bs a = subst (Refuses first) (sym (filler_starts a)) (laws.first_refused w _)

    module _ {start : S} (opened : Takes first (0x30 ∷ t ∷ []) start) where
      pub inside_fits : (f : SomeAsked (FillerAsked pool places t) (Fits first)) → Fits start (filler_left_lem f.asked (from_of places t))
      inside_fits f = laws.later_fits (subst (Fits first) (filler_starts f.asked) f.room) opened

      filler_whole : {after : S} (bs : List ℕ) (a : FillerAsked pool places t bs) → Takes start (filler_left_lem a (from_of places t)) after → Takes first bs after
      filler_whole {after} bs a w = subst (λ (l : List ℕ). Takes first l after) (sym (filler_starts a)) (laws.both opened w)

      filler_other : (bs : List ℕ) (a : FillerAsked pool places t bs) → Refuses start (filler_left_lem a (from_of places t)) → Refuses first bs
      filler_other bs a w = subst (Refuses first) (sym (filler_starts a)) (laws.later_refused opened w)

      module _ {to i : ℕ} {now : S} (g : FillerGoes pool places t to i (ToTake Takes start now)) where
        -- so fewer bytes can be taken inside
        pub filler_falls : SomeAsked (FillerAsked pool places t) (Fits first) → left now < left first
        filler_falls f = omega (arith, laws.fewer (opening_fits f) opened, left_falls (inside_fits f) (g.known _ f.asked))

        -- the element of a symbol is refused, and with it the whole
        pub filler_stops : (h : i < to) → ((bs : List ℕ) → FillerAsked pool places (get_or pool i 0 - 64) bs → Refuses now bs) → (bs : List ℕ) → FillerAsked pool places t bs → Refuses first bs
        filler_stops h w bs a = filler_other bs a (filler_then g h take_stops w bs a)

        -- behind the last symbol the element closes
        pub filler_closed : to ≤ i → {after : S} → Takes now (0x32 ∷ []) after → (bs : List ℕ) → FillerAsked pool places t bs → Takes first bs after
        filler_closed all w bs a = filler_whole bs a (last_taken (filler_last g all bs a) w)

        pub filler_unclosed : to ≤ i → Refuses now (0x32 ∷ []) → (bs : List ℕ) → FillerAsked pool places t bs → Refuses first bs
        filler_unclosed all w bs a = filler_other bs a (last_refused (filler_last g all bs a) w)

      -- an element whose row is empty only opens and closes
      module _ (empty : (bs : List ℕ) → FillerAsked pool places t bs → bs ≡ 0x30 ∷ t ∷ 0x32 ∷ []) where
        pub empty_fits : SomeAsked (FillerAsked pool places t) (Fits first) → Fits start (0x32 ∷ [])
        empty_fits f =
            let whole : Fits first ((0x30 ∷ t ∷ []) ++ (0x32 ∷ [])) = asked_fits empty f in
            laws.later_fits whole opened

        pub empty_taken : {after : S} → Takes start (0x32 ∷ []) after → (bs : List ℕ) → FillerAsked pool places t bs → Takes first bs after
        empty_taken {after} w bs a = subst (λ (l : List ℕ). Takes first l after) (sym (empty bs a)) (laws.both opened w)

        pub empty_refused : Refuses start (0x32 ∷ []) → (bs : List ℕ) → FillerAsked pool places t bs → Refuses first bs
        empty_refused w bs a = subst (Refuses first) (sym (empty bs a)) (laws.later_refused opened w)

  -- ---- a row

  -- a symbol's bytes are taken
  pub row_takes : {source pool places tr : List ℕ} {r to i : ℕ} {start now : S} (g : RowGoes source pool places tr r to i (ToTake Takes start now)) (h : i < to) {new mid : S} → new ≡ mid
      → SymbolDone g h (λ (bs : List ℕ). Takes now bs mid) → RowGoes source pool places tr r to (i + 1) (ToTake Takes start new)
  row_takes {source} {pool} {places} {tr} {r} {to} {i} {start} g h is-new w =
      subst (λ (after : S). RowGoes source pool places tr r to (i + 1) (ToTake Takes start after)) (sym is-new) (row_on g h take_turn w)
