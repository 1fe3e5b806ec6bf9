use Rattle.std.proofs.Common.{◌∙◌, ℕ, ap, sym}
use Rattle.dscript_names_scopes.specs.Declarations.{is_exported}
use Rattle.dscript_program.specs.Views.{decl_data}
use Rattle.dscript_types_notes.proofs.FirstTypes.{no_seen_type, no_type, place_passed, place_put}
use Rattle.dscript_types_notes.proofs.Listed.{counted_last, mapped_last}
use Rattle.dscript_types_notes.proofs.names.add_exported.Goals.{else-is_type-via-then-is_type+else-is_exported, else-is_type-via-else-is_type}
use Rattle.dscript_types_notes.proofs.names.add_exported.Goals as goal

pub last-preserved-in_ok-insert : goal.last-preserved-in_ok-insert
last-preserved-in_ok-insert c = λ name.
    place_put is_exported (λ (decl : ℕ). (c.args.file, decl)) _ _ (decl_data c.in-Some.decl.now) c.in_ok-name_of.field-0 name _ _ _ _
    (mapped_last decl_data _ _ _ c.in-Some.ensures.cases.0) (sym c.is_type.ensures ∙ c.if-is_type.true)
    (sym c.is_exported.ensures ∙ c.if-is_exported.true) c.in_ok-name_of.ensures
    (ap (λ (n : ℕ). (c.args.file, n)) (c.in_ok-number.ensures ∙ counted_last decl_data c.in-Some.before.now))
    (c.in_ok-insert.ensures.updates.0 name) (c.last.invariant name)

pub last-preserved : goal.last-preserved
last-preserved c = λ name.
    place_passed is_exported (λ (decl : ℕ). (c.args.file, decl)) _ _ (decl_data c.in-Some.decl.now) name _ _
    (mapped_last decl_data _ _ _ c.in-Some.ensures.cases.0)
    (elim c.else-is_type.branch [
      | else-is_type-via-then-is_type+else-is_exported w ↦
          no_seen_type is_exported name (decl_data c.in-Some.decl.now) (sym w.if-is_type.ensures)
          (sym w.is_exported.ensures ∙ w.if-is_exported.false)
      | else-is_type-via-else-is_type w ↦
          no_type is_exported name (decl_data c.in-Some.decl.now) (sym w.if-is_type.ensures)
    ])
    (c.last.invariant name)
