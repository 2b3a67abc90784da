-- What a proof unfolds to compute the definitions of this crate on a literal.
use Rattle.std.specs.Prelude.{⊤}
use Rattle.kz_spec_data.proofs.LinesOnLiterals.{lines_on_literals}
use Rattle.kz_spec_data.specs.Loads.{is_loadable}
use Rattle.kz_spec_machine.specs.Dumps.{tree_head_line, row_line, log_head_line, batch_line, rendered_line, check_lines, figure_lines}
use Rattle.kz_spec_machine.specs.LoadLines.{load_line}
use Rattle.kz_spec_machine.specs.Loading.{loaded}

unfoldable pub dumps_on_literals : ⊤
unfolding lines_on_literals is_loadable tree_head_line row_line log_head_line batch_line rendered_line check_lines figure_lines load_line loaded
dumps_on_literals = tt
