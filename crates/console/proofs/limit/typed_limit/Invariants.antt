use Rattle.std.proofs.Common.{◌≡◌, ◌^◌, ◌<◌, drop}
use Rattle.console.specs.Limit.{digits_from}
use Rattle.console.proofs.limit.typed_limit.Given as goal

abbrev pub invariant-loop-byte : goal.invariant-loop-byte
invariant-loop-byte l = (digits_from l.limit (drop l.byte-index l.text) ≡ digits_from 0 l.text) × (l.limit < 10 ^ l.byte-index)
