-- A level made of a number.
use Rattle.std.specs.Prelude.{cond, ℤ, Ok, Err, Result}
use Rattle.refusal.specs.declared.hands.TypingFault.{TypingFault}
use Rattle.refusal.specs.Told.{Told, plain, typing_told}
use Rattle.level.specs.Range.{is_level}
use Rattle.level.specs.declared.level.Level.{Level}

-- the level in hundredths of a foot, or what is told
abbrev pub measured : Result Level TypingFault → Result ℤ Told
measured (Ok level) = Ok level.hundredths
measured (Err fault) = Err (typing_told fault)

-- so many hundredths of a foot are a level, or 5
abbrev pub measures : ℤ → Result ℤ Told
measures x = cond (is_level x) (Ok x) (Err (plain 5))
