-- The image's document, given to any sink: its root, what the root holds, and its end.
use Rattle.std.proofs.Common.{sym, subst, List, [], ◌∷◌, ◌++◌, ℕ}
use Rattle.loaded_table.specs.Loaded.{table_by}
use Rattle.row_traversal.specs.Contents.{part_from, RowIs}
use Rattle.row_traversal.specs.Asked.{SomeAsked, ImageAsked, RowAsked}
use Rattle.row_traversal.specs.Whole.{held, image_row, image_bytes}
use Rattle.filling.specs.Sinks.{SinkLaws}

module _ {S : Type 0} {Takes : S → List ℕ → S → Type 0} {Refuses Fits : S → List ℕ → Type 0} {left : S → ℕ} (laws : SinkLaws Takes Refuses Fits left) where
  module _ {source pool places tr : List ℕ} {first : S} where
    -- there is room for the first two bytes
    pub root_fits : SomeAsked (ImageAsked source pool places tr) (Fits first) → Fits first (0x30 ∷ 0 ∷ [])
    root_fits f = laws.first_fits _ (subst (Fits first) (image_bytes f.asked) f.room)

    -- they are refused, and with them the image
    pub root_refused : Refuses first (0x30 ∷ 0 ∷ []) → (bs : List ℕ) → ImageAsked source pool places tr bs → Refuses first bs
    root_refused w bs a = subst (Refuses first) (sym (image_bytes a)) (laws.first_refused w _)

    module _ {start : S} (opened : Takes first (0x30 ∷ 0 ∷ []) start) where
      inside_fits : (f : SomeAsked (ImageAsked source pool places tr) (Fits first)) → Fits start ((held f.asked ++ 0x32 ∷ []) ++ 0x3F ∷ [])
      inside_fits f = laws.later_fits (subst (Fits first) (image_bytes f.asked) f.room) opened

      -- there is room for what the root holds
      pub held_fits : (f : SomeAsked (ImageAsked source pool places tr) (Fits first)) → Fits start (held f.asked)
      held_fits f = laws.first_fits _ (laws.first_fits _ (inside_fits f))

      module _ {row : ℕ} (is : RowIs (table_by source) tr 0 row) where
        pub held_refused : ((bs : List ℕ) → RowAsked source pool places (part_from tr 2) row bs → Refuses start bs) → (bs : List ℕ) → ImageAsked source pool places tr bs → Refuses first bs
        held_refused w bs a =
            subst (Refuses first) (sym (image_bytes a)) (laws.later_refused opened (laws.first_refused (laws.first_refused (w _ (image_row a is)) _) _))

        module _ {inner : S} (taken : (bs : List ℕ) → RowAsked source pool places (part_from tr 2) row bs → Takes start bs inner) where
          -- there is room for the byte that closes the root
          pub close_fits : SomeAsked (ImageAsked source pool places tr) (Fits first) → Fits inner (0x32 ∷ [])
          close_fits f = laws.later_fits (laws.first_fits _ (inside_fits f)) (taken _ (image_row f.asked is))

          pub close_refused : Refuses inner (0x32 ∷ []) → (bs : List ℕ) → ImageAsked source pool places tr bs → Refuses first bs
          close_refused w bs a =
              subst (Refuses first) (sym (image_bytes a)) (laws.later_refused opened (laws.first_refused (laws.later_refused (taken _ (image_row a is)) w) _))

          module _ {last : S} (closed : Takes inner (0x32 ∷ []) last) where
            -- there is room for the byte that ends the document
            pub end_fits : SomeAsked (ImageAsked source pool places tr) (Fits first) → Fits last (0x3F ∷ [])
            end_fits f = laws.later_fits (inside_fits f) (laws.both (taken _ (image_row f.asked is)) closed)

            pub image_taken : {after : S} → Takes last (0x3F ∷ []) after → (bs : List ℕ) → ImageAsked source pool places tr bs → Takes first bs after
            image_taken {after} w bs a =
                subst (λ (l : List ℕ). Takes first l after) (sym (image_bytes a)) (laws.both opened (laws.both (laws.both (taken _ (image_row a is)) closed) w))

            pub end_refused : Refuses last (0x3F ∷ []) → (bs : List ℕ) → ImageAsked source pool places tr bs → Refuses first bs
            end_refused w bs a =
                subst (Refuses first) (sym (image_bytes a)) (laws.later_refused opened (laws.later_refused (laws.both (taken _ (image_row a is)) closed) w))
