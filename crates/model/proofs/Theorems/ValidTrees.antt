-- A tree document is accepted exactly where it is written by what a valid tree's root holds.
use Rattle.std.specs.Prelude.{◌≡◌, List, ◌↔◌, ℕ, ◌≤◌, length}
use Rattle.std.proofs.Common.{sym, ◌∙◌, subst}
use Rattle.std.proofs.Math.Path.{ap}
use borrow.Author.Tests.{leb-true}
use Rattle.model.specs.Definitions.Basics.{passes}
use Rattle.model.specs.Definitions.Table.{Table}
use Rattle.model.specs.Definitions.Content.{document, content_of}
use Rattle.model.specs.Definitions.TreeChecks.{tree_levels}
use Rattle.model.specs.Definitions.Refusals.{sound, fits}
use Rattle.model.specs.Definitions.Valid.{WrittenBy, ValidTree}
use Rattle.model.specs.Definitions.Entries.{judged_tree}
use Rattle.model.proofs.Theorems.Facts.{WellFormed}
use Rattle.model.proofs.Theorems.Documents.{accepted_content}
use Rattle.model.proofs.Theorems.JudgedTables.{tree_checks}
use Rattle.model.proofs.Theorems.EntryLaws.{levels_only, document_accepted}

module _ (S : Table) (wf : WellFormed S) (bs : List ℕ) where
  accepted_tree_written : judged_tree S bs ≡ sound → WrittenBy (ValidTree S) (document 0) bs
  unfolding fits
  accepted_tree_written e =
      let checks = tree_checks S bs e in
      let content = accepted_content S wf bs checks.form checks.operands checks.expected in
      let low : tree_levels (document 0 (content_of bs)) ≡ passes = ap tree_levels (sym content.0) ∙ checks.levels_ok in
      record {
        written = content_of bs;
        is_valid = record { conforms = content.1; at_most_128 = levels_only 0 (content_of bs) low };
        are_its_bytes = content.0;
        at_most_60000 = leb-true _ _ checks.short;
      }

  valid_tree_accepted : WrittenBy (ValidTree S) (document 0) bs → judged_tree S bs ≡ sound
  valid_tree_accepted w =
      let short : length (document 0 w.written) ≤ 60000 = subst (λ (b : List ℕ). length b ≤ 60000) w.are_its_bytes w.at_most_60000 in
      subst (λ (b : List ℕ). judged_tree S b ≡ sound) (sym w.are_its_bytes)
      (document_accepted S wf w.written w.is_valid.conforms short w.is_valid.at_most_128)

  pub tree_exactly : (judged_tree S bs ≡ sound) ↔ WrittenBy (ValidTree S) (document 0) bs
  tree_exactly = (accepted_tree_written, valid_tree_accepted)
