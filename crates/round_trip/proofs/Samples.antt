-- Book W through its file and back.
use Rattle.std.proofs.Common.{◌≡◌, Ok, Err, refl}
use Rattle.refusal.specs.Told.{plain}
use Rattle.geometry.specs.Bounds.{span_at}
use Rattle.file.specs.Encode.{bytes_of, encode}
use Rattle.loaded.specs.BookW.{book_w, file_w}
use Rattle.loaded.specs.Reading.{count_in, records_in}
use Rattle.loaded.specs.Decode.{node_section, entry_section, pick_section, three_sections, decode}
use Rattle.round_trip.specs.Copy.{file_copy_answer}

pub writes_W : encode book_w ≡ file_w
unfolding bytes_of span_at
writes_W = refl

pub copies_W : file_copy_answer file_w 178 ≡ Ok 178
unfolding decode three_sections node_section entry_section pick_section count_in records_in span_at
copies_W = refl

pub too_short_for_W : file_copy_answer file_w 177 ≡ Err (plain 21)
unfolding decode three_sections node_section entry_section pick_section count_in records_in span_at
too_short_for_W = refl
