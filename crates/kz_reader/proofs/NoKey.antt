-- Znodes that are no entity's.
use Rattle.std.proofs.Common.{◌≡◌, List, None, refl, sym, ap, ◌∙◌}
use Rattle.kz_types.specs.declared.tree.Row.{Row}
use Rattle.kz_types.specs.declared.kind.Kind.{Kind}
use Rattle.kz_types.specs.declared.kind.Kind.TheVariants as kind
use Rattle.kz_types.specs.Paths.{key_of, kind_of}
use Rattle.std.specs.Prelude.{option_and_then}
use Rattle.std.specs.Result.{result_ok}
use Rattle.kz_spec_data.specs.Bodies.{read_body}
use Rattle.kz_spec_data.specs.Translation.{entity_records, records_by_kind, row_records, body_of_row}
use Rattle.kz_reader.specs.Seen.{note_of, records_without_key}

by_kind : (rows earlier : List Row) (k : Kind) (r : Row) → key_of r.path ≡ None → records_without_key k ≡ records_by_kind rows earlier k r
by_kind rows earlier kind.Entity r e = sym (ap (λ k. entity_records rows earlier k r.body) e)
by_kind rows earlier kind.Scaffold r e = refl
by_kind rows earlier kind.Stray r e = refl
by_kind rows earlier kind.Base r e = refl
by_kind rows earlier kind.Control r e = refl
by_kind rows earlier kind.Reserved r e = refl
by_kind rows earlier kind.Outside r e = refl

pub records_without_a_key : (rows earlier : List Row) (k : Kind) (r : Row) → key_of r.path ≡ None → k ≡ kind_of r.path → records_without_key k ≡ row_records rows earlier r
records_without_a_key rows earlier k r e is = by_kind rows earlier k r e ∙ ap (λ x. records_by_kind rows earlier x r) is

pub nothing_to_note : (r : Row) → key_of r.path ≡ None → note_of None ≡ note_of (body_of_row r)
nothing_to_note r e = sym (ap (λ k. note_of (option_and_then (λ x. result_ok (read_body x r.body)) k)) e)
