-- A type stored behind the others: the table then, what is kept with the older types, and the answer once that of the new one is found.
use mathlib.Core.Path.{◌≡◌, sym, ap, ◌∙◌, subst}
use mathlib.Core.Bool.{Bool, true, false}
use mathlib.Core.List.{List, [], ◌∷◌, ◌++◌}
use mathlib.Core.Logic.{inr}
use Prim.Native.Nat.{ℕ, suc, ◌+◌, ◌≤◌, ◌<◌, min}
use native.Mathlib.Numerals.{add-one}
use native.Mathlib.Omega.{arith}
use lib.ListN.{length, get_or, set, length-set}
use Rattle.answers.specs.declared.Fault.{Fault}
use Rattle.answers.specs.declared.Document.{Document}
use Rattle.answers.specs.declared.Refusal.{Refusal}
use Rattle.std.specs.Prelude.{Ok, Err}
use Rattle.loaded_table.specs.Loaded.{types_in, counts_of, heights_of, fill_of, table_by, Bounded, Kept, section-kept, length_of_lem}
use Rattle.loaded_table.specs.Places.{section_apart, bounded_then, table_grown}
use Rattle.model.specs.Definitions.Table.{Kind, Table}
use Rattle.model.specs.Definitions.Heights.{height_of}
use Rattle.model.specs.Definitions.Filler.{filler_length}
use Rattle.model.specs.Definitions.Entries.{accepted}
use Rattle.model.specs.Definitions.Operations.{kept_length, append_type, operate}
use Rattle.model.proofs.Theorems.Facts.{WellFormed, SoundTable}
use Rattle.model.proofs.Theorems.GrownTables.{beyond_height, older_height, older_length}
use Rattle.model.proofs.Theorems.Operations.{valid_sound}
use Rattle.table_heights.specs.Sections.{table_elsewhere, bounded_elsewhere}
use Rattle.type_commands.specs.Types.{type_written, TypePut}
use Rattle.table_growth.proofs.Appending.{refused_as, done_as, well-formed-then, endless-type, type-done}
use Rattle.table_growth.specs.Growth.{IsLoaded, Grown, TypeFits, KeptBefore, LastKept}

module _ (rows cs : List ℕ) (loaded : IsLoaded rows) {all : ℕ} (counted : all ≡ types_in rows) (fits : TypeFits all cs) where
  abbrev T : Table
  T = table_by rows

  abbrev κ : Kind
  κ = type_written cs

  abbrev then : Table
  then = T ++ κ ∷ []

  long : length T ≡ all
  long = length_of_lem rows ∙ sym counted

  few : length T < 64
  few = omega (arith, long, fits.few)

  sound : SoundTable T
  sound = valid_sound T loaded.valid

  bounded : Bounded rows
  bounded = loaded.stands.bounded

  well_formed : WellFormed then
  well_formed = well-formed-then cs fits.one T loaded.valid few fits.short long fits.known fits.distinct

  module _ {mid whole : List ℕ} (put : TypePut all κ rows mid) (e : whole ≡ set mid 1280 (all + 1)) where
    table : (table_by whole ≡ then) × (types_in whole ≡ all + 1)
    table = table_grown put.same bounded put.stored counted fits.few e

    heights-are : heights_of whole ≡ heights_of rows
    heights-are = ap heights_of e ∙ section-kept 128 64 mid 1280 (all + 1) (inr (omega arith)) ∙ section_apart 128 64 (omega arith) (omega arith) fits.few put.same

    fill_is : fill_of whole ≡ fill_of rows
    fill_is = ap fill_of e ∙ section-kept 192 64 mid 1280 (all + 1) (inr (omega arith)) ∙ section_apart 192 64 (omega arith) (omega arith) fits.few put.same

    bounded-is : Bounded whole
    bounded-is =
        let then-bounded = bounded_then put.same bounded fits.few put.few in
        record {
          size = ap length e ∙ length-set mid 1280 (all + 1) ∙ then-bounded.size;
          few_types = omega (arith, table.1, fits.few);
          few_members = λ s. subst (λ (l : List ℕ). get_or l s 0 ≤ 16) (sym (ap counts_of e ∙ section-kept 64 64 mid 1280 (all + 1) (inr (omega arith)))) (then-bounded.few_members s);
        }

    -- what is kept is right for the older types
    pub kept-before : KeptBefore whole all
    unfolding kept_length
    kept-before =
        let kept = loaded.stands.kept in
        let new = table.0 in
        let old : (s : ℕ) → s < all → height_of (table_by whole) s ≡ height_of T s = λ s low. ap (λ S. height_of S s) new ∙ older_height T sound κ s (omega (arith, long)) in
        record {
          bounded = bounded-is;
          last = table.1;
          well_formed = subst WellFormed (sym new) well_formed;
          older_height = λ s low. ap (λ (l : List ℕ). get_or l s 0) heights-are ∙ kept.height_at_lem s ∙ sym (old s low);
          none_beyond = λ s high. ap (λ (l : List ℕ). get_or l s 0) heights-are ∙ kept.height_at_lem s ∙ beyond_height T s (omega (arith, long));
          older_fill = λ grown s low.
              ap (λ (l : List ℕ). get_or l s 0) fill_is
              ∙ kept.fill_at_lem s (omega (arith, long))
              ∙ ap (min 60001) (sym (ap (λ S. filler_length S s) new ∙ older_length T sound κ (subst SoundTable new grown) s (omega (arith, long))));
          older_finite = λ s low. omega (arith, old s low, sound.finite s (omega (arith, long)), long);
        }

    -- the height of the new type
    new-height : height_of (table_by whole) all ≡ height_of then (length T)
    new-height = ap (λ S. height_of S all) table.0 ∙ ap (height_of then) (sym long)

    -- it has no finite instance
    pub grown-endless : {last : List ℕ} {finite : Bool} → LastKept whole all finite last → finite ≡ false → Grown (append_type cs) rows (Err (Refusal.Faulty Document.SourceTable (Fault.NoFiniteInstance 0))) last
    unfolding operate
    grown-endless {last} h no-instance =
        refused_as (append_type cs) rows last (Refusal.Faulty Document.SourceTable (Fault.NoFiniteInstance 0))
        (endless-type cs fits.one T loaded.valid few fits.short long fits.known fits.distinct (omega (arith, h.endless no-instance, new-height, long)))

    -- or is the last of the table
    pub grown-done : {last : List ℕ} {finite : Bool} → LastKept whole all finite last → finite ≡ true → Grown (append_type cs) rows (Ok (all + 1)) last
    grown-done {last} h has_instance_lem =
        let appended = type-done cs fits.one T loaded.valid few fits.short long fits.known fits.distinct (omega (arith, h.low has_instance_lem, new-height, long)) in
        let same : table_by last ≡ table_by whole = table_elsewhere (omega arith) (omega arith) h.elsewhere in
        done_as (append_type cs) rows last (appended.0 ∙ ap (λ (n : ℕ). record { result = accepted n 0; table = then }) (ap suc long ∙ sym (add-one all)))
        (record {
          stands =
              record {
                same_table = same ∙ table.0;
                bounded = bounded_elsewhere (omega arith) (omega arith) h.elsewhere bounded-is;
                kept = subst (Kept last) table.0 (h.kept has_instance_lem);
              };
          valid = appended.1;
        })
