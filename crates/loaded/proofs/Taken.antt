-- A load that answers by what the file is read as takes exactly the lawful files.
use Rattle.std.proofs.Common.{◌≡◌, ℕ, ◌<◌, List, get_or, Ok, Err, Result, sym, refl, subst, w8, Fits}
use Rattle.std.proofs.ByRecursion.{All-from_get_or}
use Rattle.std.specs.List.{AllByRecursion}
use Rattle.refusal.specs.Told.{Told, answered, file_told}
use Rattle.refusal.specs.declared.hands.FileFault.{FileFault}
use Rattle.book.specs.Model.{Model}
use Rattle.loaded.specs.Decode.{decode}
use Rattle.loaded.specs.Lawful.{LawfulFile, TakesLawful}
use Rattle.loaded.specs.Load.{load_answer, held_after}
use Rattle.loaded.proofs.Laid.{laid_decodes}
use Rattle.loaded.proofs.Apart.{decoded_lawful}

by_answer : (bytes : List ℕ) (before now : Model) (d : Result Model Told) (r : Result (Unit {0}) FileFault) → AllByRecursion (λ (b : ℕ). b < 256) bytes → decode bytes ≡ d → answered file_told r ≡ load_answer d → now ≡ held_after d before → TakesLawful r bytes now
by_answer bytes before now (Ok new) (Ok u) h e a b = subst (LawfulFile bytes) (sym b) (decoded_lawful bytes new h e)
by_answer bytes before now (Ok new) (Err f) h e a b = absurd cc
by_answer bytes before now (Err t) (Ok u) h e a b = absurd cc
by_answer bytes before now (Err t) (Err f) h e a b =
    λ book l. let d = laid_decodes bytes book l in absurd cc

pub takes : (bytes : List ℕ) (before now : Model) (r : Result (Unit {0}) FileFault) → ((i : ℕ) → Fits w8 (get_or bytes i 0)) → answered file_told r ≡ load_answer (decode bytes) → now ≡ held_after (decode bytes) before → TakesLawful r bytes now
takes bytes before now r fits a b =
    by_answer bytes before now (decode bytes) r (All-from_get_or (λ (b : ℕ). b < 256) bytes 0 (λ i l. (fits i).fits)) refl a b
