-- What a loaded book means.
use Rattle.std.specs.Prelude.{vec_items}
use Rattle.book.specs.Model.{Model}
use Rattle.loaded.specs.Tables.{book_of}
use Rattle.loaded.specs.declared.loaded.Loaded.{Loaded}

abbrev pub loaded_model : Loaded → Model
loaded_model b = book_of (vec_items b.nodes) (vec_items b.places) (vec_items b.kinds)
