-- What a proof unfolds to compute the definitions of this crate on a literal.
use Rattle.std.specs.Prelude.{⊤}
use Rattle.std.specs.Str.{is_utf8, chars}
use Rattle.std.specs.Char.{encode_utf8}
use Rattle.std.specs.Fmt.{digits}
use Rattle.base64.proofs.OnLiterals.{base64_on_literals}
use Rattle.kz_types.specs.Numbers.{canonical}
use Rattle.kz_types.specs.PathRule.{has_path_form, is_path}
use Rattle.kz_types.specs.Paths.{roots, base_paths, control_paths, is_migrated, is_topic_name, part_for_name, bytes_of_part, name_of_part, key_of, kind_of, path_of, is_legal, has_path}
use Rattle.kz_types.specs.Ids.{id_of}

unfoldable pub values_on_literals : ⊤
unfolding is_utf8 chars encode_utf8 digits canonical has_path_form is_path roots base_paths control_paths is_migrated is_topic_name part_for_name bytes_of_part name_of_part key_of kind_of path_of is_legal has_path id_of base64_on_literals
values_on_literals = tt
