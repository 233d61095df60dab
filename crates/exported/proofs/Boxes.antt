-- A loop over queries: the boxes so far, with those of the queries that are left.
use Rattle.std.proofs.Common.{List, ◌++◌, Ok, Result}
use Rattle.refusal.specs.Told.{Told}
use Rattle.geometry.specs.declared.bounds.Bounds.{Bounds}
use Rattle.exported.specs.Input.{and_then}

abbrev pub onto : List Bounds → Result (List Bounds) Told → Result (List Bounds) Told
onto front rest = and_then rest (λ bs. Ok (front ++ bs))
