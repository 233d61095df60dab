-- How a call went, by what its definition says.
use Rattle.std.specs.Prelude.{◌≡◌, ℕ, ◌⊎◌, Ok, Err, Result}
use Rattle.refusal.specs.Told.{Told, told}
use Rattle.exported.specs.declared.crossing.Outcome.{Outcome}
use Rattle.exported.specs.declared.fault.Fault.{Fault}
use Rattle.exported.specs.declared.fault.Fault.TheVariants.{Memory, Refused}

-- an answer with a count, or the number of what is told of a refusal
abbrev pub outcome : Result ℕ Told → Outcome
outcome (Ok n) = record { refusal = 0; count = n }
outcome (Err t) = record { refusal = t.number; count = 0 }

-- there was no memory
abbrev pub no_memory : Outcome
no_memory = record { refusal = 255; count = 0 }

abbrev pub fault_outcome : Fault → Outcome
fault_outcome Memory = no_memory
fault_outcome (Refused refusal) = outcome (Err (told refusal))

abbrev pub result_outcome : Result ℕ Fault → Outcome
result_outcome (Ok n) = outcome (Ok n)
result_outcome (Err fault) = fault_outcome fault

-- whether there is memory is not the caller's to know
abbrev pub OrNoMemory : Outcome → Result ℕ Told → Type 0
OrNoMemory r x = (r ≡ outcome x) ⊎ (r ≡ no_memory)

-- a refusal that the definition has too, or want of memory
abbrev pub FaultOf : {A : Type 0} → Result A Told → Fault → Type 0
FaultOf x Memory = Unit {0}
FaultOf x (Refused refusal) = x ≡ Err (told refusal)
