use Rattle.std.proofs.Common.{refl}
use Rattle.std.specs.Fmt.{digits}
use Rattle.geometry.specs.Bounds.{span_at}
use Rattle.geometry.specs.Distance.{box_distance}
use Rattle.file.specs.Encode.{bytes_of}
use Rattle.loaded.specs.Reading.{count_in, records_in}
use Rattle.loaded.specs.Decode.{node_section, entry_section, pick_section, three_sections, decode}
use Rattle.makes.specs.Join.{joined}
use Rattle.makes.specs.Sixteens.{by_sixteens}
use Rattle.book_check.specs.Checked.{tree_fault, checked}
use Rattle.book.specs.Totals.{total_places}
use Rattle.browse.specs.Broken.{can_open}
use Rattle.browse.specs.Browse.{next_of}
use Rattle.cases.proofs.worked_cases.Goals as goal

pub returns-clause-hold : goal.returns-clause-hold
unfolding digits span_at box_distance bytes_of count_in records_in node_section entry_section pick_section three_sections decode can_open next_of by_sixteens joined tree_fault checked
returns-clause-hold c = refl
