-- Laws of content by its offset: what the byte at an offset tells of the content that begins there.
use Rattle.std.specs.Prelude.{◌≡◌, refl, List, [], ◌∷◌, ◌++◌, ℕ, suc, ◌+◌, ◌-◌, ◌<◌, length, take, drop, get_or}
use Rattle.std.proofs.Common.{sym, ap, ◌∙◌, append_assoc, add-one, arith, length-append, length-drop, take_at, drop-cons, drop-drop}
use Rattle.std.proofs.Math.Seq.{drop-append_seam}
use Rattle.model.specs.Definitions.Content.{Content, end, char, elem, bytes, document}
use Rattle.scanning.specs.Scanning.{ContentAt}

-- where the list from an offset on has a first element, the offset is within the list, and the rest begins at the next offset
drop_first : (tr : List ℕ) (at b : ℕ) (more : List ℕ) → drop at tr ≡ b ∷ more → (at < length tr) × (get_or tr at 0 ≡ b) × (drop (at + 1) tr ≡ more)
drop_first tr at b more e =
    let inside : at < length tr = omega (arith, ap length e, length-drop at tr) in
    let both : get_or tr at 0 ∷ drop (suc at) tr ≡ b ∷ more = sym (drop-cons tr at 0 inside) ∙ e in
    (inside, cc, rw (add-one at) cc)

-- and where it has two, the rest begins two further
drop_second : (tr : List ℕ) (at b c : ℕ) (more : List ℕ) → drop at tr ≡ b ∷ c ∷ more → (at + 1 < length tr) × (get_or tr (at + 1) 0 ≡ c) × (drop (at + 2) tr ≡ more)
drop_second tr at b c more e =
    let second = drop_first tr (at + 1) c more (drop_first tr at b (c ∷ more) e).2 in
    let two : at + 1 + 1 ≡ at + 2 = omega arith in
    (second.0, second.1, rw two at second.2)

-- content and the 32 after it are within the document
pub content_within : {tr : List ℕ} {at : ℕ} {k : Content} → ContentAt tr at k → at + length (bytes k) < length tr
content_within {tr} {at} {k} a = omega (arith, ap length a.stands, length-drop at tr, length-append (bytes k) (0x32 ∷ a.rest))

-- what stands after content and its 32
pub content-after : {tr : List ℕ} {at : ℕ} {k : Content} (a : ContentAt tr at k) → drop (at + length (bytes k) + 1) tr ≡ a.rest
content-after {tr} {at} {k} a =
    (drop_first tr (at + length (bytes k)) 0x32 a.rest
    (sym (drop-drop (length (bytes k)) at tr) ∙ ap (drop (length (bytes k))) a.stands ∙ drop-append_seam (bytes k) (0x32 ∷ a.rest))).2

-- up to its 32 the bytes are the content's
pub content_part : {tr : List ℕ} {at : ℕ} {k : Content} → ContentAt tr at k → (close : ℕ) → close ≡ at + length (bytes k) → take (close - at) (drop at tr) ≡ bytes k
content_part {tr} {at} {k} a close e =
    ap (take (close - at)) a.stands ∙ take_at (bytes k) (0x32 ∷ a.rest) (close - at) (omega arith)

-- the content of a document's root element begins at offset 2
pub root_at : (t : ℕ) (k : Content) → ContentAt (document t k) 2 k
unfolding document bytes
root_at t k = record { rest = 0x3F ∷ []; stands = append_assoc (bytes k) (0x32 ∷ []) (0x3F ∷ []) }

-- an element's first byte is 30
pub element_first : {tr : List ℕ} {at t : ℕ} {k r : Content} → ContentAt tr at (elem t k r) → get_or tr at 0 ≡ 0x30
unfolding bytes
element_first {tr} {at} a = (drop_first tr at 0x30 _ a.stands).1

-- a character's is 31, and that of nothing is the 32 behind it
pub character_first : {tr : List ℕ} {at c : ℕ} {r : Content} → ContentAt tr at (char c r) → get_or tr at 0 ≡ 0x31
unfolding bytes
character_first {tr} {at} a = (drop_first tr at 0x31 _ a.stands).1

pub end_first : {tr : List ℕ} {at : ℕ} → ContentAt tr at end → get_or tr at 0 ≡ 0x32
unfolding bytes
end_first {tr} {at} a = (drop_first tr at 0x32 a.rest a.stands).1

-- content whose first byte is 30 begins with an element, which holds `inside` and is followed by `next`
pub record OpensElement (tr : List ℕ) (at : ℕ) (k : Content) (rest : List ℕ) : Type 0 where
  pub type : ℕ
  pub inside : Content
  pub next : Content
  pub is : k ≡ elem type inside next
  pub two : at + 1 < length tr
  pub named : get_or tr (at + 1) 0 ≡ type
  pub within : ContentAt tr (at + 2) inside
  pub around : within.rest ≡ bytes next ++ 0x32 ∷ rest

pub opens : {tr : List ℕ} {at : ℕ} (k : Content) (a : ContentAt tr at k) → get_or tr at 0 ≡ 0x30 → OpensElement tr at k a.rest
unfolding bytes
opens {tr} {at} end a first = absurd (omega (arith, (drop_first tr at 0x32 a.rest a.stands).1))
opens {tr} {at} (char c r) a first = absurd (omega (arith, (drop_first tr at 0x31 _ a.stands).1))
opens {tr} {at} (elem t k r) a first =
    let after = drop_second tr at 0x30 t _ a.stands in
    record {
      type = t;
      inside = k;
      next = r;
      is = refl;
      two = after.0;
      named = after.1;
      within = record { rest = bytes r ++ 0x32 ∷ a.rest; stands = after.2 ∙ append_assoc (bytes k) (0x32 ∷ bytes r) (0x32 ∷ a.rest) };
      around = refl;
    }

-- what follows the element
pub opens_next : {tr : List ℕ} {at : ℕ} {k : Content} {rest : List ℕ} (o : OpensElement tr at k rest) → ContentAt tr (at + 2 + length (bytes o.inside) + 1) o.next
opens_next {rest = rest} o = record { rest = rest; stands = content-after o.within ∙ o.around }

-- content whose first byte is 31 begins with a character, which is followed by `next`
pub record Letters (tr : List ℕ) (at : ℕ) (k : Content) (rest : List ℕ) : Type 0 where
  pub letter : ℕ
  pub next : Content
  pub is : k ≡ char letter next
  pub two : at + 1 < length tr
  pub follows : drop (at + 2) tr ≡ bytes next ++ 0x32 ∷ rest

pub letters : {tr : List ℕ} {at : ℕ} (k : Content) (a : ContentAt tr at k) → get_or tr at 0 ≡ 0x31 → Letters tr at k a.rest
unfolding bytes
letters {tr} {at} end a first = absurd (omega (arith, (drop_first tr at 0x32 a.rest a.stands).1))
letters {tr} {at} (char c r) a first =
    let after = drop_second tr at 0x31 c _ a.stands in
    record { letter = c; next = r; is = refl; two = after.0; follows = after.2 }
letters {tr} {at} (elem t k r) a first = absurd (omega (arith, (drop_first tr at 0x30 _ a.stands).1))

-- other content is at its end
pub ends : {tr : List ℕ} {at : ℕ} (k : Content) (a : ContentAt tr at k) → (get_or tr at 0 ≡ 0x30 → ⊥) → (get_or tr at 0 ≡ 0x31 → ⊥) → k ≡ end
unfolding bytes
ends {tr} {at} end a other another = refl
ends {tr} {at} (char c r) a other another = absurd (another (drop_first tr at 0x31 _ a.stands).1)
ends {tr} {at} (elem t k r) a other another = absurd (other (element_first a))
