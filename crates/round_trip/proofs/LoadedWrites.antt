-- A file that loads without a spoilt place is what its book is written out as.
use Rattle.std.proofs.Common.{◌≡◌, ℕ, ◌≤◌, List, ◌++◌, map, length, None, Ok, sym, ap, ◌∙◌, subst, arith, Option}
use Rattle.std.proofs.lemmas.List.{length-map, take_all}
use Rattle.std.specs.List.{flat_map, AllByRecursion}
use Rattle.book.specs.Model.{Model}
use Rattle.book.specs.Spoilt.{first_spoilt}
use Rattle.book.specs.Totals.{total_places}
use Rattle.book.specs.declared.place.Entry.{Entry}
use Rattle.file.specs.Encode.{place_record, encode}
use Rattle.loaded.specs.Lawful.{short_bytes, section, node_bytes, kind_bytes, LawfulFile}
use Rattle.loaded.specs.Tables.{node_of, book_of, places_of_all}
use Rattle.loaded.specs.Decode.{place_from, decode}
use Rattle.loaded.proofs.Apart.{decoded_lawful}
use Rattle.round_trip.specs.RoundTrip.{LoadedWrites}
use Rattle.round_trip.proofs.Flat.{all_places, count_all, IsFilled, filled_all}
use Rattle.round_trip.proofs.Parts.{Bytes, bytes_parts}
use Rattle.round_trip.proofs.NodeParts.{Behind, said_of, said_again, places_again}
use Rattle.round_trip.proofs.EntryParts.{places_written}
use Rattle.round_trip.proofs.Laid.{laid_out, laid}

-- what a file keeps of its book: the places are few, and without a spoilt one the book is written out as the file
pub record Kept (bytes : List ℕ) (m : Model) : Type 0 where
  pub few : total_places m ≤ 2048
  pub same : first_spoilt m ≡ None → encode m ≡ bytes

module _ (bytes : List ℕ) (m : Model) (small : Bytes bytes) (f : LawfulFile bytes m) where
  abbrev places : List (Option Entry)
  places = map place_from f.entries

  abbrev book : Model
  book = book_of f.nodes places f.picks

  count : length places ≡ places_of_all f.nodes
  count = length-map f.entries place_from ∙ sym f.places_total

  behind : Behind 0 f.nodes
  behind i d within = f.first_entries i d within ∙ omega arith

  all : all_places book.nodes ≡ places
  all = places_again places 0 f.nodes behind ∙ take_all (places_of_all f.nodes) places (omega (arith, count))

  few : total_places book ≤ 2048
  few = omega (arith, count_all book.nodes, ap length all, count, f.places_total, f.entries_most)

  entry_bytes : Bytes (flat_map (λ r. r) f.entries)
  entry_bytes =
      let nodes = section (map node_bytes f.nodes) in
      let picks = section (map kind_bytes f.picks) in
      let behind_nodes = bytes_parts nodes (section f.entries ++ picks) (subst Bytes f.laid_out small) in
      let entries = bytes_parts (section f.entries) picks behind_nodes.1 in
      (bytes_parts (short_bytes (length f.entries)) (flat_map (λ r. r) f.entries) entries.0).1

  same : first_spoilt book ≡ None → encode book ≡ bytes
  same none =
      let said : said_of 0 book.nodes ≡ f.nodes = said_again places 0 f.nodes behind (omega (arith, count)) in
      let filled : AllByRecursion IsFilled places = subst (AllByRecursion IsFilled) all (filled_all 0 book.nodes none) in
      let held : map place_record (all_places book.nodes) ≡ f.entries = ap (map place_record) all ∙ places_written f.entries f.entry_size entry_bytes filled in
      laid book (omega (arith, length-map f.nodes (node_of places), f.nodes_most)) (omega (arith, few)) (omega (arith, f.picks_most))
      ∙ (λ i. laid_out (said i) (held i) f.picks)
      ∙ sym f.laid_out

  kept_lawful : Kept bytes m
  kept_lawful = subst (Kept bytes) (sym f.holds) (record { few = few; same = same })

pub kept : (bytes : List ℕ) (m : Model) → Bytes bytes → decode bytes ≡ Ok m → Kept bytes m
kept bytes m small e = kept_lawful bytes m small (decoded_lawful bytes m small e)

pub loaded_writes : LoadedWrites
loaded_writes bytes m small e none = (kept bytes m small e).same none
