-- The file of book W holds book W.
use Rattle.std.proofs.Common.{◌≡◌, length, Ok, refl}
use Rattle.geometry.specs.Bounds.{span_at}
use Rattle.loaded.specs.BookW.{book_w, file_w}
use Rattle.loaded.specs.Reading.{count_in, records_in}
use Rattle.loaded.specs.Decode.{node_section, entry_section, pick_section, three_sections, decode}

pub decodes_W : decode file_w ≡ Ok book_w
unfolding decode three_sections node_section entry_section pick_section count_in records_in span_at
decodes_W = refl

pub length_W : length file_w ≡ 178
length_W = refl
