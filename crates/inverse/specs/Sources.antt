-- A target document's root, and the source document that was read from it, in the bytes of a buffer.
use Rattle.std.specs.Prelude.{◌≡◌, List, ℕ, ◌≤◌, length, take, drop, replicate}
use Rattle.std.proofs.Common.{ap, ◌∙◌, arith}
use Rattle.std.proofs.Math.Option.{Option, some}
use Rattle.std.proofs.lemmas.List.{length-replicate}
use Rattle.std.proofs.lemmas.List.Edits.{sets}
use Rattle.std.proofs.Math.Seq.{take-append_seam}
use Rattle.model.specs.Definitions.Content.{Content, content_of, document}
use Rattle.model.specs.Definitions.Image.{Setting}
use Rattle.model.specs.Definitions.Inverse.{read_back}
use Rattle.model.proofs.Theorems.Facts.{Valid}
use Rattle.model.proofs.Theorems.EntryLaws.{written_start}
use Rattle.model.proofs.Theorems.Documents.{content_of_document}
use Rattle.model.proofs.Theorems.BringingBack.{Source, read_conforms}
use Rattle.loaded_table.specs.Loaded.{length_of_lem}
use Rattle.loaded_setting.specs.Ready.{Ready}
use Rattle.loaded_setting.specs.Trees.{SoundTree}
use Rattle.scanning.specs.Scanning.{ContentAt}
use Rattle.scanning.specs.Spanning.{Spans}
use Rattle.scanning.specs.Laws.{root_at}
use Rattle.children.specs.Cursors.{ImageThere}
use Rattle.writing.specs.Laws.{writes-length}
use Rattle.inverse.specs.Reading.{BringsTo}

-- ---- the root

-- where its content begins
pub root_there : {tr : List ℕ} {k : Content} → tr ≡ document 0 k → ContentAt tr 2 k
root_there {k = k} e = rw e (root_at 0 k)

-- it is the image of the source root
pub root_image : {source target map em tr sp : List ℕ} → Ready source target map em → Spans tr sp → ((k : Content) × (tr ≡ document 0 k))
    → ImageThere source target map em tr sp (record { sigma = 0; from = 2 })
root_image {source} ready spans here =
    record {
      spans = spans;
      ready = ready;
      known_type = omega (arith, ready.valid.source_sound.well_formed.has_root, length_of_lem source);
      content = (here.0, root_there here.1);
    }

-- ---- buffers

-- a document is as long as a cleared buffer at most, and no buffer is longer than a document may be
pub cleared_buffers : {long : ℕ} (n : ℕ) → long ≤ n → n ≤ 60000
    → (long ≤ length {A = ℕ} (replicate n 0)) × (length {A = ℕ} (replicate n 0) ≤ 60000) × (length {A = ℕ} (replicate n 0) ≤ length {A = ℕ} (replicate n 0))
cleared_buffers n within short = let is = length-replicate {A = ℕ} n 0 in (omega (arith, within, is), omega (arith, short, is), omega arith)

-- a source document of at most 60,000 bytes was read from the document tr
pub record ReadFrom (X : Setting) (tr source : List ℕ) : Type 0 where
  pub content : Content
  pub is : read_back X (content_of tr) ≡ some content
  pub bytes_are : source ≡ document 0 content
  pub short : length source ≤ 60000

-- the first bytes of a buffer, as many as a document has that was written at its start, are the document
front : (old doc : List ℕ) → length doc ≤ length old → take (length doc) (sets old 0 doc) ≡ doc
front old doc room = rw (written_start old doc room) (take-append_seam doc (drop (length doc) old))

-- what was read lies within the buffer
pub read_within_lem : {old new : List ℕ} {n : ℕ} {sought : Option Content} → BringsTo old new n sought → n ≤ length new
read_within_lem b = omega (arith, b.fits, writes-length b.written)

-- and stands at its start
pub read_front : {X : Setting} {tr old new : List ℕ} {n : ℕ} → length old ≤ 60000 → BringsTo old new n (read_back X (content_of tr)) → ReadFrom X tr (take n new)
read_front {X} {tr} {old} {new} {n} room b =
    let long : n ≡ length (document 0 b.content) = omega (arith, b.written.after) in
    let same : take n new ≡ document 0 b.content = rw (b.written.written, long) (front old (document 0 b.content) (omega (arith, b.fits))) in
    record { content = b.content; is = b.is; bytes_are = same; short = omega (arith, room, b.fits, ap length same) }

module _ (X : Setting) (valid : Valid X) {tr : List ℕ} (t : SoundTree X.target tr) {source : List ℕ} (r : ReadFrom X tr source) where
  -- it holds what the source's root may hold, since the given document conforms to the target table
  pub conforms : Source X valid r.content
  conforms = read_conforms X valid (content_of tr) r.content t.holds r.is

  -- what it holds is what was read
  pub content_is : content_of source ≡ r.content
  content_is = ap content_of r.bytes_are ∙ content_of_document 0 r.content

  -- it is a conforming source document
  pub source_read : SoundTree X.source source
  source_read = record { form = rw content_is r.bytes_are; holds = rw content_is conforms; short = r.short }
